use Rattle.std.proofs.Common.{◌≡◌, true, take}
use Rattle.std.specs.List.{list_all}
use Rattle.thr_limits.specs.Widths.{spelled}
use Rattle.thr_limits.specs.Walks.{is_body_short, is_clause_short}
use Rattle.thr_limits.proofs.limits.+stmt_shapes.Given as goal

abbrev pub invariant-is_body_short-loop-stmt : goal.invariant-is_body_short-loop-stmt
invariant-is_body_short-loop-stmt l = is_body_short (spelled l.scope) (take l.stmt-index l.body) ≡ true

abbrev pub invariant-are_clauses_short-loop-clause : goal.invariant-are_clauses_short-loop-clause
invariant-are_clauses_short-loop-clause l = list_all (is_clause_short (spelled l.scope)) (take l.clause-index l.clauses) ≡ true
