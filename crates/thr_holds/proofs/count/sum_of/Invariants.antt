use Rattle.std.specs.Prelude.{◌≡◌, ◌+◌, vec_len}
use Rattle.thr_holds.proofs.count.sum_of.Given as goal

abbrev pub invariant-loop-count : goal.invariant-loop-count
invariant-loop-count g l = (l.all.parts + vec_len l.counts ≡ vec_len l.fn.counts + 1) × (l.all.amount ≡ l.sum) × (l.total.total ≡ l.fn.total.total)

abbrev pub decreases-loop-count : goal.decreases-loop-count
decreases-loop-count g l = goal.left-loop-count g l
