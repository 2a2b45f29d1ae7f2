use Rattle.std.proofs.Common.{◌≡◌, ◌++◌, take}
use Rattle.thr_syntax.specs.Lines.{body_lines}
use Rattle.thr_grammar.specs.Printing.{scope_of, lines_text, clauses_lines}
use Rattle.thr_grammar.proofs.printing.statement.+stmt_lines.Given as goal

abbrev pub invariant-add_body-loop-stmt : goal.invariant-add_body-loop-stmt
invariant-add_body-loop-stmt l = l.out.items ≡ l.fn.out.items ++ lines_text (scope_of l.scope) (body_lines (take l.stmt-index l.body))

abbrev pub invariant-add_clauses-loop-clause : goal.invariant-add_clauses-loop-clause
invariant-add_clauses-loop-clause l = l.out.items ≡ l.fn.out.items ++ lines_text (scope_of l.scope) (clauses_lines (take l.clause-index l.clauses))
