use Rattle.std.proofs.Common.{take}
use Rattle.thr_lines.proofs.Builds.{IsSettling}
use Rattle.thr_lines.proofs.build.set_after.Given as goal

abbrev pub invariant-loop-i : goal.invariant-loop-i
invariant-loop-i l = IsSettling (take l.half l.fn.rows) l.rows l.half l.place l.i l.after l.clauses
