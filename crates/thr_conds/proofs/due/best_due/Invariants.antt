use Rattle.std.proofs.Common.{◌≡◌, ◌≤◌, length, drop}
use Rattle.thr_parts.specs.Rows.{best_of}
use Rattle.thr_conds.proofs.DueLaws.{seated}
use Rattle.thr_conds.proofs.due.best_due.Given as goal

abbrev pub invariant-loop-i : goal.invariant-loop-i
invariant-loop-i l = record {
  within : l.i ≤ length l.waits;
  best : l.found ≡ best_of (seated l.rows l.now (drop l.i l.waits));
}

abbrev pub decreases-loop-i : goal.decreases-loop-i
decreases-loop-i l = l.i
