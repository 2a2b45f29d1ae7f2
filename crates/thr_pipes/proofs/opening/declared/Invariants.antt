use Rattle.std.proofs.Common.{◌≡◌, ◌≤◌, length, drop}
use Rattle.thr_parts.specs.Pipes.{declared_pipes}
use Rattle.thr_pipes.proofs.opening.declared.Given as goal

abbrev pub invariant-loop-i : goal.invariant-loop-i
invariant-loop-i l = record {
  within : l.i ≤ length l.items;
  put : l.pipes ≡ declared_pipes (drop l.i l.items);
}

abbrev pub decreases-loop-i : goal.decreases-loop-i
decreases-loop-i l = l.i
