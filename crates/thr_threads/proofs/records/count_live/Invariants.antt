use Rattle.std.proofs.Common.{◌≡◌, ◌+◌, ◌≤◌, length, drop}
use Rattle.thr_threads.proofs.LivingLaws.{counted}
use Rattle.thr_threads.proofs.records.count_live.Given as goal

abbrev pub invariant-loop-i : goal.invariant-loop-i
invariant-loop-i l = record {
  within : l.i ≤ length l.keys;
  fits : l.count + l.i ≤ length l.keys;
  found : (l.count, l.first) ≡ counted (drop l.i l.keys) l.slab;
}

abbrev pub decreases-loop-i : goal.decreases-loop-i
decreases-loop-i l = l.i
