use Rattle.std.proofs.Common.{◌≡◌, ◌+◌, ◌-◌, ◌≤◌, ◌++◌, map}
use Rattle.thr_verdict.specs.Made.{numbers_from, create_worker}
use Rattle.thr_making.proofs.statements.create_workers.Given as goal

abbrev pub invariant-loop-i : goal.invariant-loop-i
invariant-loop-i l = record {
  some : 1 ≤ l.i;
  few : l.i ≤ l.threads + 1;
  added : l.all ++ map create_worker (numbers_from l.i (l.threads + 1 - l.i)) ≡ l.fn.all ++ map create_worker (numbers_from 1 l.threads);
}

abbrev pub decreases-loop-i : goal.decreases-loop-i
decreases-loop-i l = l.threads + 1 - l.i
