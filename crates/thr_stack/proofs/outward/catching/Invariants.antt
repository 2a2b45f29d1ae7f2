use Rattle.std.proofs.Common.{◌-◌}
use Rattle.thr_lines.specs.Layout.{last_line}
use Rattle.thr_stack.proofs.Unwinds.{IsSought}
use Rattle.thr_stack.proofs.outward.catching.Given as goal

abbrev pub invariant-clauses : goal.invariant-clauses
invariant-clauses l = IsSought l.lines l.x l.first l.l

abbrev pub decreases-clauses : goal.decreases-clauses
decreases-clauses l = last_line l.lines - l.l
