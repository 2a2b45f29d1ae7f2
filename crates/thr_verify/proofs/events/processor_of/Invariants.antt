use Rattle.std.proofs.Common.{◌≡◌, ℕ, ◌<◌, Some}
use Rattle.thr_parts.specs.Dispatch.{running}
use Rattle.thr_verify.proofs.events.processor_of.Given as goal

abbrev pub invariant-loop-p : goal.invariant-loop-p
invariant-loop-p l = (q : ℕ) → q < l.p → running l.book.state.rows q ≡ Some l.t → ⊥
