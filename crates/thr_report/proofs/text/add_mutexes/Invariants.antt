use Rattle.std.proofs.Common.{◌≡◌, ◌++◌, drop}
use Rattle.thr_verdict.specs.Report.{mutex_lines}
use Rattle.thr_report.proofs.text.add_mutexes.Given as goal

abbrev pub invariant-loop-name : goal.invariant-loop-name
invariant-loop-name l = l.out.items ++ mutex_lines l.names (drop l.name-index l.acquired) ≡ l.fn.out.items ++ mutex_lines l.names l.acquired
