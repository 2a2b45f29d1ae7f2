use Rattle.std.proofs.Common.{◌≡◌, ◌+◌, ◌-◌, ◌≤◌, length, drop}
use Rattle.thr_rows.specs.Waits.{spot}
use Rattle.thr_rows.proofs.waits.place_of.Given as goal

abbrev pub invariant-loop-i : goal.invariant-loop-i
invariant-loop-i l = record {
  within : l.i ≤ length l.queue.items;
  so_far : l.i + spot l.t (drop l.i l.queue.items) ≡ spot l.t l.queue.items;
}

abbrev pub decreases-loop-i : goal.decreases-loop-i
decreases-loop-i l = length l.queue.items - l.i
