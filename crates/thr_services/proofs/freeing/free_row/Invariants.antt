use Rattle.std.proofs.Common.{length}
use Rattle.thr_parts.specs.Rows.{standing}
use Rattle.thr_parts.specs.Threads.{rank_at}
use Rattle.thr_services.specs.declared.debt.Debt.TheVariants as debt
use Rattle.thr_services.proofs.FreeingLaws.{IsFreeing}
use Rattle.thr_services.proofs.freeing.free_row.Given as goal

abbrev pub invariant-waiters : goal.invariant-waiters
invariant-waiters l = IsFreeing (rank_at l.threads) l.row (debt.Return l.reply) l.initial.rows l.rows l.initial.debts l.debts

abbrev pub decreases-waiters : goal.decreases-waiters
decreases-waiters l = length (standing l.rows l.row)
