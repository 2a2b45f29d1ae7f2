use Rattle.std.proofs.Common.{◌-◌, length}
use Rattle.thr_once.proofs.CallLaws.{Passed}
use Rattle.thr_once.proofs.keys.next_in.Given as goal

abbrev pub invariant-loop-i : goal.invariant-loop-i
invariant-loop-i l = Passed l.made l.values l.t l.i

abbrev pub decreases-loop-i : goal.decreases-loop-i
decreases-loop-i l = length l.values - l.i
