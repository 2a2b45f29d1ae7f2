use Rattle.std.proofs.Common.{◌≡◌, ◌+◌, ◌-◌, ◌≤◌, ◌++◌, map}
use Rattle.thr_verdict.specs.Made.{numbers_from, worker_routine, rounds, share}
use Rattle.thr_making.proofs.making.add_workers.Given as goal

abbrev pub invariant-loop-i : goal.invariant-loop-i
invariant-loop-i l = record {
  some : 1 ≤ l.i;
  few : l.i ≤ l.threads + 1;
  added : l.all ++ map (λ i. worker_routine i (rounds l.n i) (share l.n i)) (numbers_from l.i (l.threads + 1 - l.i))
      ≡ l.fn.all ++ map (λ i. worker_routine i (rounds l.n i) (share l.n i)) (numbers_from 1 l.threads);
}

abbrev pub decreases-loop-i : goal.decreases-loop-i
decreases-loop-i l = l.threads + 1 - l.i
