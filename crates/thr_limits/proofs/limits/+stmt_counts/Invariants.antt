use Rattle.std.proofs.Common.{◌≡◌, ◌+◌, ◌≤◌, length, drop}
use Rattle.thr_syntax.specs.Lines.{body_lines}
use Rattle.thr_limits.specs.Capped.{capped}
use Rattle.thr_limits.specs.Walks.{clauses_lines}
use Rattle.thr_limits.proofs.limits.+stmt_counts.Given as goal

abbrev pub invariant-body_count-loop-stmt : goal.invariant-body_count-loop-stmt
invariant-body_count-loop-stmt l = (capped (l.count + length (body_lines (drop l.stmt-index l.body))) ≡ capped (length (body_lines l.body))) × (l.count ≤ 4294967295)

abbrev pub invariant-clauses_count-loop-clause : goal.invariant-clauses_count-loop-clause
invariant-clauses_count-loop-clause l = (capped (l.count + length (clauses_lines (drop l.clause-index l.clauses))) ≡ capped (length (clauses_lines l.clauses))) × (l.count ≤ 4294967295)
