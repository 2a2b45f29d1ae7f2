use Rattle.std.proofs.Common.{◌≡◌, ◌≤◌, length, drop}
use Rattle.thr_model.specs.States.{declared_values}
use Rattle.thr_shared.proofs.shared.SharedVariables.new.Given as goal

abbrev pub invariant-loop-i : goal.invariant-loop-i
invariant-loop-i l = record {
  within : l.i ≤ length l.items;
  put : l.shared ≡ declared_values (drop l.i l.items);
}

abbrev pub decreases-loop-i : goal.decreases-loop-i
decreases-loop-i l = l.i
