use Rattle.std.proofs.Common.{◌≡◌, take}
use Rattle.thr_syntax.proofs.copy.+stmt_copies.Given as goal

abbrev pub invariant-copy_body-loop-stmt : goal.invariant-copy_body-loop-stmt
invariant-copy_body-loop-stmt l = l.all ≡ take l.stmt-index l.body

abbrev pub invariant-copy_clauses-loop-clause : goal.invariant-copy_clauses-loop-clause
invariant-copy_clauses-loop-clause l = l.all ≡ take l.clause-index l.clauses
