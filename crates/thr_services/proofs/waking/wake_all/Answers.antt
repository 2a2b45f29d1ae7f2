use Rattle.thr_parts.specs.Threads.{rank_at}
use Rattle.thr_services.proofs.WakingLaws.{waking_first, waking_step, waking_smaller, waking_can, waking_fits, waking_room, waking_ends}
use Rattle.thr_services.proofs.waking.wake_all.Goals as goal

pub waiters-init : goal.waiters-init
waiters-init c = waking_first (rank_at c.args.threads.now) c.args.c c.args.conds.now c.args.locks.now c.args.rows.now c.args.debts.now c.args.gifts.now c.len-most.ensures.within c.requires.owers c.requires.waits c.requires.fit c.requires.gifts

pub returns-in-None-clause-conds : goal.returns-in-None-clause-conds
returns-in-None-clause-conds c =
    (waking_ends (rank_at c.args.threads.now) c.args.c c.args.conds.now c.args.locks.now c.args.rows.now c.args.debts.now c.waiters.conds c.take_next.new.self c.waiters.locks c.waiters.rows c.take_next.new.rows c.waiters.debts c.waiters.gifts
    c.waiters.invariant c.len-seats.ensures.rises c.in-None.ensures).conds_are

pub returns-in-None-clause-locks : goal.returns-in-None-clause-locks
returns-in-None-clause-locks c =
    (waking_ends (rank_at c.args.threads.now) c.args.c c.args.conds.now c.args.locks.now c.args.rows.now c.args.debts.now c.waiters.conds c.take_next.new.self c.waiters.locks c.waiters.rows c.take_next.new.rows c.waiters.debts c.waiters.gifts
    c.waiters.invariant c.len-seats.ensures.rises c.in-None.ensures).locks_are

pub returns-in-None-clause-rows : goal.returns-in-None-clause-rows
returns-in-None-clause-rows c =
    (waking_ends (rank_at c.args.threads.now) c.args.c c.args.conds.now c.args.locks.now c.args.rows.now c.args.debts.now c.waiters.conds c.take_next.new.self c.waiters.locks c.waiters.rows c.take_next.new.rows c.waiters.debts c.waiters.gifts
    c.waiters.invariant c.len-seats.ensures.rises c.in-None.ensures).rows_are

pub returns-in-None-clause-debts : goal.returns-in-None-clause-debts
returns-in-None-clause-debts c =
    (waking_ends (rank_at c.args.threads.now) c.args.c c.args.conds.now c.args.locks.now c.args.rows.now c.args.debts.now c.waiters.conds c.take_next.new.self c.waiters.locks c.waiters.rows c.take_next.new.rows c.waiters.debts c.waiters.gifts
    c.waiters.invariant c.len-seats.ensures.rises c.in-None.ensures).debts_are

pub returns-in-None-clause-gifts : goal.returns-in-None-clause-gifts
returns-in-None-clause-gifts c =
    (waking_ends (rank_at c.args.threads.now) c.args.c c.args.conds.now c.args.locks.now c.args.rows.now c.args.debts.now c.waiters.conds c.take_next.new.self c.waiters.locks c.waiters.rows c.take_next.new.rows c.waiters.debts c.waiters.gifts
    c.waiters.invariant c.len-seats.ensures.rises c.in-None.ensures).gifts_are

pub resume-gets-requires-clause-known : goal.resume-gets-requires-clause-known
resume-gets-requires-clause-known c = waking_fits c.waiters.conds c.take_next.new.self c.waiters.rows c.take_next.new.rows c.args.c c.in-Some.t c.in-Some.m (record { taken = c.in-Some.ensures }) c.waiters.invariant.fit

pub resume-gets-requires-clause-room : goal.resume-gets-requires-clause-room
resume-gets-requires-clause-room c =
    (waking_can (rank_at c.args.threads.now) c.args.c c.args.conds.now c.args.locks.now c.args.rows.now c.args.debts.now c.waiters.conds c.take_next.new.self c.waiters.locks c.waiters.rows c.take_next.new.rows c.waiters.debts c.waiters.gifts c.in-Some.t c.in-Some.m
    c.waiters.invariant c.len-seats.ensures.rises c.len-debts.ensures.rises c.len-seats.ensures.within (record { taken = c.in-Some.ensures }) c.requires.arrival).seat

pub resume-gets-requires-clause-arrival : goal.resume-gets-requires-clause-arrival
resume-gets-requires-clause-arrival c =
    (waking_can (rank_at c.args.threads.now) c.args.c c.args.conds.now c.args.locks.now c.args.rows.now c.args.debts.now c.waiters.conds c.take_next.new.self c.waiters.locks c.waiters.rows c.take_next.new.rows c.waiters.debts c.waiters.gifts c.in-Some.t c.in-Some.m
    c.waiters.invariant c.len-seats.ensures.rises c.len-debts.ensures.rises c.len-seats.ensures.within (record { taken = c.in-Some.ensures }) c.requires.arrival).arrival

pub owe-requires : goal.owe-requires
owe-requires c =
    record {
      room = (waking_can (rank_at c.args.threads.now) c.args.c c.args.conds.now c.args.locks.now c.args.rows.now c.args.debts.now c.waiters.conds c.take_next.new.self c.waiters.locks c.waiters.rows c.take_next.new.rows c.waiters.debts c.waiters.gifts c.in-Some.t c.in-Some.m
          c.waiters.invariant c.len-seats.ensures.rises c.len-debts.ensures.rises c.len-seats.ensures.within (record { taken = c.in-Some.ensures }) c.requires.arrival).place;
    }

pub note-requires : goal.note-requires
note-requires c = record {
  room = waking_room (rank_at c.args.threads.now) c.args.c c.args.conds.now c.args.locks.now c.args.rows.now c.args.debts.now c.waiters.conds c.take_next.new.self c.waiters.locks c.waiters.rows c.take_next.new.rows c.waiters.debts c.waiters.gifts c.in-Some.t c.in-Some.m
      c.waiters.invariant c.len-seats.ensures.rises (record { taken = c.in-Some.ensures });
}

pub waiters-smaller : goal.waiters-smaller
waiters-smaller c =
    waking_smaller (rank_at c.args.threads.now) c.args.c c.waiters.conds c.take_next.new.self c.waiters.locks c.resume-gets.new.locks c.waiters.rows c.take_next.new.rows c.resume-gets.new.rows c.in-Some.t c.in-Some.m _ _
    c.len-seats.ensures.rises (record { taken = c.in-Some.ensures }) c.resume-gets.ensures

pub waiters-preserved : goal.waiters-preserved
waiters-preserved c =
    waking_step (rank_at c.args.threads.now) c.args.c c.args.conds.now c.args.locks.now c.args.rows.now c.args.debts.now c.waiters.conds c.take_next.new.self c.waiters.locks c.resume-gets.new.locks c.waiters.rows c.take_next.new.rows c.resume-gets.new.rows c.waiters.debts c.owe.new.self c.waiters.gifts c.note.new.gifts c.in-Some.t c.in-Some.m _ _
    c.waiters.invariant c.len-seats.ensures.rises (record { taken = c.in-Some.ensures })
    (record { back = c.resume-gets.ensures; ranked = c.rank-rank.ensures; owes = c.owe.ensures; notes = c.note.ensures })
