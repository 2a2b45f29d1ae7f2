use Rattle.std.proofs.Common.{◌≡◌, true, take}
use Rattle.std.specs.List.{list_all}
use Rattle.thr_limits.specs.Walks.{is_body_within, is_clause_within}
use Rattle.thr_limits.proofs.limits.+stmt_depths.Given as goal

abbrev pub invariant-is_body_within-loop-stmt : goal.invariant-is_body_within-loop-stmt
invariant-is_body_within-loop-stmt l = is_body_within l.left (take l.stmt-index l.body) ≡ true

abbrev pub invariant-are_clauses_within-loop-clause : goal.invariant-are_clauses_within-loop-clause
invariant-are_clauses_within-loop-clause l = list_all (is_clause_within l.left) (take l.clause-index l.clauses) ≡ true
