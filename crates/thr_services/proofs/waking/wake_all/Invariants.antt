use Rattle.std.proofs.Common.{length}
use Rattle.thr_parts.specs.declared.row.RowId.TheVariants as row
use Rattle.thr_parts.specs.Rows.{standing}
use Rattle.thr_parts.specs.Threads.{rank_at}
use Rattle.thr_services.proofs.WakingLaws.{IsWaking}
use Rattle.thr_services.proofs.waking.wake_all.Given as goal

abbrev pub invariant-waiters : goal.invariant-waiters
invariant-waiters l = IsWaking (rank_at l.threads) l.c l.initial.conds l.initial.locks l.initial.rows l.initial.debts l.conds l.locks l.rows l.debts l.gifts

abbrev pub decreases-waiters : goal.decreases-waiters
decreases-waiters l = length (standing l.rows (row.Cond l.c))
