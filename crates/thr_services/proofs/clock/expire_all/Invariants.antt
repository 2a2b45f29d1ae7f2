use Rattle.std.proofs.Common.{length}
use Rattle.thr_parts.specs.Threads.{rank_at}
use Rattle.thr_services.proofs.ClockLaws.{IsExpiring}
use Rattle.thr_services.proofs.clock.expire_all.Given as goal

abbrev pub invariant-waiters : goal.invariant-waiters
invariant-waiters l = IsExpiring (rank_at l.threads) l.now l.initial.conds l.initial.locks l.initial.rows l.initial.debts l.conds l.locks l.rows l.debts l.gifts

abbrev pub decreases-waiters : goal.decreases-waiters
decreases-waiters l = length l.conds.waits
