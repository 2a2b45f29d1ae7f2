use Rattle.std.proofs.Common.{◌≡◌, ◌≤◌, ◌-◌, length, drop}
use Rattle.thr_verdict.specs.FirstWrong.{lines_after}
use Rattle.thr_comparing.proofs.comparing.first_other.Given as goal

abbrev pub invariant-loop-i : goal.invariant-loop-i
invariant-loop-i l = record {
  made : l.i ≤ length l.made;
  there : l.i ≤ length l.entries;
  same : lines_after l.names l.from (drop l.from l.made) (drop l.from l.entries) ≡ lines_after l.names l.i (drop l.i l.made) (drop l.i l.entries);
}

abbrev pub decreases-loop-i : goal.decreases-loop-i
decreases-loop-i l = length l.made - l.i
