use Rattle.std.proofs.Common.{◌≡◌, ◌++◌, map, drop}
use Rattle.thr_verdict.specs.Report.{mutexes_in, times_acquired}
use Rattle.thr_report.proofs.counting.acquired.Given as goal

abbrev pub invariant-loop-item : goal.invariant-loop-item
invariant-loop-item l = l.out ++ map (times_acquired l.entries) (mutexes_in (drop l.item-index l.items)) ≡ map (times_acquired l.entries) (mutexes_in l.items)
