use Rattle.std.proofs.Common.{length}
use Rattle.thr_journal_lines.proofs.calls.+arguments.Given as goal

abbrev pub decreases-arguments : goal.decreases-arguments
decreases-arguments l = length l.places.now
