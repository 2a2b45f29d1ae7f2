use Rattle.std.proofs.Common.{◌≡◌, ◌≤◌, ◌++◌, drop, reverse, length}
use Rattle.thr_naming.proofs.places.push_reversed.Given as goal

abbrev pub invariant-loop-left : goal.invariant-loop-left
invariant-loop-left l = record {
  pushed : reverse l.stack.items ≡ drop l.left l.slots ++ reverse l.initial.stack.items;
  within : l.left ≤ length l.slots;
}

abbrev pub decreases-loop-left : goal.decreases-loop-left
decreases-loop-left l = l.left
