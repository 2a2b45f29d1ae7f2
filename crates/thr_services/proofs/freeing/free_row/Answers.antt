use Rattle.std.proofs.Common.{sym}
use Rattle.thr_parts.specs.Threads.{rank_at}
use Rattle.thr_services.specs.declared.debt.Debt.TheVariants as debt
use Rattle.thr_services.proofs.FreeingLaws.{freeing_first, freeing_step, freeing_smaller, freeing_can, freed_rows, freed_debts}
use Rattle.thr_services.proofs.freeing.free_row.Goals as goal

pub waiters-init : goal.waiters-init
waiters-init c = freeing_first (rank_at c.args.threads.now) c.args.row (debt.Return c.args.reply) c.args.rows.now c.args.debts.now c.len-most.ensures.within c.requires.owers

pub wake-requires : goal.wake-requires
wake-requires c = record {
  can = freeing_can (rank_at c.args.threads.now) c.args.row (debt.Return c.args.reply) c.args.rows.now c.waiters.rows c.take_out.new.self c.args.debts.now c.waiters.debts c.in-Some.t _ c.waiters.invariant
      c.len-seats.ensures.rises c.len-debts.ensures.rises c.len-seats.ensures.within c.requires.apart c.requires.arrival (sym c.in-Some.ensures) c.take_out.ensures;
}

pub waiters-smaller : goal.waiters-smaller
waiters-smaller c =
    freeing_smaller (rank_at c.args.threads.now) c.args.row c.waiters.rows c.take_out.new.self c.wake.new.rows c.in-Some.t _
    c.len-seats.ensures.rises c.requires.apart (sym c.in-Some.ensures) c.take_out.ensures c.wake.ensures.rows

pub waiters-preserved : goal.waiters-preserved
waiters-preserved c =
    freeing_step (rank_at c.args.threads.now) c.args.row (debt.Return c.args.reply) c.args.rows.now c.waiters.rows c.take_out.new.self c.wake.new.rows c.args.debts.now c.waiters.debts c.wake.new.debts c.in-Some.t _
    c.waiters.invariant c.len-seats.ensures.rises c.requires.apart (sym c.in-Some.ensures) c.take_out.ensures c.wake.ensures.rows c.wake.ensures.debts

pub returns-clause-rows : goal.returns-clause-rows
returns-clause-rows c =
    freed_rows (rank_at c.args.threads.now) c.args.row (debt.Return c.args.reply) c.args.rows.now c.waiters.rows c.args.debts.now c.waiters.debts c.waiters.invariant (sym c.in_default.ensures)

pub returns-clause-debts : goal.returns-clause-debts
returns-clause-debts c =
    freed_debts (rank_at c.args.threads.now) c.args.row (debt.Return c.args.reply) c.args.rows.now c.waiters.rows c.args.debts.now c.waiters.debts c.waiters.invariant (sym c.in_default.ensures)
