use Rattle.std.proofs.Common.{◌≡◌, length}
use Rattle.thr_stack.specs.Unwinds.{HasDropped}
use Rattle.thr_stack.proofs.outward.settle.Given as goal

abbrev pub invariant-out : goal.invariant-out
invariant-out l = record { dropped : HasDropped l.lines l.u l.fn.context l.context; notes : l.notes ≡ l.fn.notes }

abbrev pub decreases-out : goal.decreases-out
decreases-out l = length l.context.frames.items
