use Rattle.std.proofs.Common.{◌≡◌, ◌++◌, take}
use Rattle.thr_lines.specs.Rows.{local_rows}
use Rattle.thr_lines.proofs.script.add_locals.Given as goal

abbrev pub invariant-loop-name : goal.invariant-loop-name
invariant-loop-name l = l.rows ≡ l.fn.rows ++ local_rows (take l.name-index l.locals)
