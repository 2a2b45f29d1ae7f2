use Rattle.std.proofs.Common.{◌≡◌, ◌+◌, ◌++◌, length, take, None}
use Rattle.thr_lines.specs.Layout.{body_rows, clause_rows}
use Rattle.thr_lines.proofs.build.+statements.Given as goal

abbrev pub invariant-add_body-loop-stmt : goal.invariant-add_body-loop-stmt
invariant-add_body-loop-stmt l = l.rows ≡ l.fn.rows ++ body_rows (length l.fn.rows + 1) (take l.stmt-index l.body)

abbrev pub invariant-add_clauses-loop-clause : goal.invariant-add_clauses-loop-clause
invariant-add_clauses-loop-clause l = l.rows ≡ l.fn.rows ++ clause_rows (length l.fn.rows + 1) (take l.clause-index l.clauses) None
