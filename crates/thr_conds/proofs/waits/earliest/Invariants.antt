use Rattle.std.proofs.Common.{◌≡◌, ◌≤◌, length, drop}
use Rattle.thr_parts.specs.Expiry.{earliest_in}
use Rattle.thr_conds.proofs.waits.earliest.Given as goal

abbrev pub invariant-loop-i : goal.invariant-loop-i
invariant-loop-i l = record {
  within : l.i ≤ length l.waits;
  earliest : l.found ≡ earliest_in (drop l.i l.waits);
}

abbrev pub decreases-loop-i : goal.decreases-loop-i
decreases-loop-i l = l.i
