use Rattle.std.proofs.Common.{◌≡◌, ◌-◌}
use Rattle.thr_lines.specs.Layout.{line_at, last_line}
use Rattle.thr_stack.specs.Standing.{IsLine}
use Rattle.thr_stack.proofs.place.place.Given as goal

abbrev pub invariant-past : goal.invariant-past
invariant-past l = IsLine l.lines l.l × ((line_at l.lines l.l).left ≡ (line_at l.lines l.line).left)

abbrev pub decreases-past : goal.decreases-past
decreases-past l = last_line l.lines - l.l
