use Rattle.std.proofs.Common.{◌∙◌, ap, to_z, of_z, w64}
use Rattle.std.proofs.lemmas.Int.{to_z-of_z}
use Rattle.thr_parts.specs.Tables.{put}
use Rattle.thr_parts.specs.Threads.{rank_at}
use Rattle.thr_services.specs.declared.debt.Debt.{Debt}
use Rattle.thr_services.proofs.ClockLaws.{due_smaller, expiring_first, expiring_step, expiring_can, expiring_fits, expiring_room, expiring_ends}
use Rattle.thr_services.proofs.clock.expire_all.Goals as goal

pub waiters-init : goal.waiters-init
waiters-init c = expiring_first (rank_at c.args.threads.now) (to_z w64 (of_z w64 c.args.now)) c.args.conds.now c.args.locks.now c.args.rows.now c.args.debts.now c.args.gifts.now c.requires.few c.requires.owers c.requires.waits c.requires.fit c.requires.gifts

pub returns-in-None-clause-conds : goal.returns-in-None-clause-conds
returns-in-None-clause-conds c = (expiring_ends (rank_at c.args.threads.now) (to_z w64 (of_z w64 c.args.now)) c.args.conds.now c.args.locks.now c.args.rows.now c.args.debts.now c.waiters.conds c.expire.new.self c.waiters.locks c.waiters.rows c.expire.new.rows c.waiters.debts c.waiters.gifts c.args.now c.waiters.invariant c.in-None.ensures (to_z-of_z w64 c.args.now c.ranges.now)).conds_are

pub returns-in-None-clause-locks : goal.returns-in-None-clause-locks
returns-in-None-clause-locks c = (expiring_ends (rank_at c.args.threads.now) (to_z w64 (of_z w64 c.args.now)) c.args.conds.now c.args.locks.now c.args.rows.now c.args.debts.now c.waiters.conds c.expire.new.self c.waiters.locks c.waiters.rows c.expire.new.rows c.waiters.debts c.waiters.gifts c.args.now c.waiters.invariant c.in-None.ensures (to_z-of_z w64 c.args.now c.ranges.now)).locks_are

pub returns-in-None-clause-rows : goal.returns-in-None-clause-rows
returns-in-None-clause-rows c = (expiring_ends (rank_at c.args.threads.now) (to_z w64 (of_z w64 c.args.now)) c.args.conds.now c.args.locks.now c.args.rows.now c.args.debts.now c.waiters.conds c.expire.new.self c.waiters.locks c.waiters.rows c.expire.new.rows c.waiters.debts c.waiters.gifts c.args.now c.waiters.invariant c.in-None.ensures (to_z-of_z w64 c.args.now c.ranges.now)).rows_are

pub returns-in-None-clause-debts : goal.returns-in-None-clause-debts
returns-in-None-clause-debts c = (expiring_ends (rank_at c.args.threads.now) (to_z w64 (of_z w64 c.args.now)) c.args.conds.now c.args.locks.now c.args.rows.now c.args.debts.now c.waiters.conds c.expire.new.self c.waiters.locks c.waiters.rows c.expire.new.rows c.waiters.debts c.waiters.gifts c.args.now c.waiters.invariant c.in-None.ensures (to_z-of_z w64 c.args.now c.ranges.now)).debts_are

pub returns-in-None-clause-gifts : goal.returns-in-None-clause-gifts
returns-in-None-clause-gifts c = (expiring_ends (rank_at c.args.threads.now) (to_z w64 (of_z w64 c.args.now)) c.args.conds.now c.args.locks.now c.args.rows.now c.args.debts.now c.waiters.conds c.expire.new.self c.waiters.locks c.waiters.rows c.expire.new.rows c.waiters.debts c.waiters.gifts c.args.now c.waiters.invariant c.in-None.ensures (to_z-of_z w64 c.args.now c.ranges.now)).gifts_are

pub resume-gets-requires-clause-known : goal.resume-gets-requires-clause-known
resume-gets-requires-clause-known c = expiring_fits c.waiters.conds c.expire.new.self c.waiters.rows c.expire.new.rows (to_z w64 (of_z w64 c.args.now)) c.in-Some.t c.in-Some.m (record { taken = c.in-Some.ensures }) c.waiters.invariant.fit

pub resume-gets-requires-clause-room : goal.resume-gets-requires-clause-room
resume-gets-requires-clause-room c =
    (expiring_can (rank_at c.args.threads.now) (to_z w64 (of_z w64 c.args.now)) c.args.conds.now c.args.locks.now c.args.rows.now c.args.debts.now c.waiters.conds c.expire.new.self c.waiters.locks c.waiters.rows c.expire.new.rows c.waiters.debts c.waiters.gifts c.in-Some.t c.in-Some.m
    c.waiters.invariant c.len-seats.ensures.rises c.len-debts.ensures.rises c.len-seats.ensures.within (record { taken = c.in-Some.ensures }) c.requires.arrival).seat

pub resume-gets-requires-clause-arrival : goal.resume-gets-requires-clause-arrival
resume-gets-requires-clause-arrival c =
    (expiring_can (rank_at c.args.threads.now) (to_z w64 (of_z w64 c.args.now)) c.args.conds.now c.args.locks.now c.args.rows.now c.args.debts.now c.waiters.conds c.expire.new.self c.waiters.locks c.waiters.rows c.expire.new.rows c.waiters.debts c.waiters.gifts c.in-Some.t c.in-Some.m
    c.waiters.invariant c.len-seats.ensures.rises c.len-debts.ensures.rises c.len-seats.ensures.within (record { taken = c.in-Some.ensures }) c.requires.arrival).arrival

pub owe-requires : goal.owe-requires
owe-requires c = record {
  room = (expiring_can (rank_at c.args.threads.now) (to_z w64 (of_z w64 c.args.now)) c.args.conds.now c.args.locks.now c.args.rows.now c.args.debts.now c.waiters.conds c.expire.new.self c.waiters.locks c.waiters.rows c.expire.new.rows c.waiters.debts c.waiters.gifts c.in-Some.t c.in-Some.m
      c.waiters.invariant c.len-seats.ensures.rises c.len-debts.ensures.rises c.len-seats.ensures.within (record { taken = c.in-Some.ensures }) c.requires.arrival).place;
}

pub note-requires : goal.note-requires
note-requires c = record {
  room = expiring_room (rank_at c.args.threads.now) (to_z w64 (of_z w64 c.args.now)) c.args.conds.now c.args.locks.now c.args.rows.now c.args.debts.now c.waiters.conds c.expire.new.self c.waiters.locks c.waiters.rows c.expire.new.rows c.waiters.debts c.waiters.gifts c.in-Some.t c.in-Some.m
      c.waiters.invariant c.len-seats.ensures.rises (record { taken = c.in-Some.ensures });
}

pub waiters-smaller : goal.waiters-smaller
waiters-smaller c = due_smaller c.waiters.conds c.expire.new.self c.waiters.rows c.expire.new.rows (to_z w64 (of_z w64 c.args.now)) c.in-Some.t c.in-Some.m c.len-seats.ensures.rises (record { taken = c.in-Some.ensures })

pub waiters-preserved : goal.waiters-preserved
waiters-preserved c =
    expiring_step (rank_at c.args.threads.now) (to_z w64 (of_z w64 c.args.now)) c.args.conds.now c.args.locks.now c.args.rows.now c.args.debts.now c.waiters.conds c.expire.new.self c.waiters.locks c.resume-gets.new.locks c.waiters.rows c.expire.new.rows c.resume-gets.new.rows c.waiters.debts c.owe.new.self c.waiters.gifts c.note.new.gifts c.in-Some.t c.in-Some.m _ _
    c.waiters.invariant c.len-seats.ensures.rises (record { taken = c.in-Some.ensures })
    (record { back = c.resume-gets.ensures; ranked = c.rank-rank.ensures; owes = c.owe.ensures ∙ ap (λ (d : Debt). put c.waiters.debts c.in-Some.t.0 d) c.due_debt.ensures; notes = c.note.ensures })
