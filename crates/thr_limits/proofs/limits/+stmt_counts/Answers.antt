use Rattle.std.proofs.Common.{length}
use Rattle.thr_syntax.specs.Lines.{stmt_lines, body_lines}
use Rattle.thr_limits.specs.Capped.{capped}
use Rattle.thr_limits.specs.Walks.{clause_lines, clauses_lines}
use Rattle.thr_limits.proofs.CountLaws.{count_end}
use Rattle.thr_limits.proofs.limits.+stmt_counts.Goals as goal

pub body_count-returns : goal.body_count-returns
body_count-returns t c =
    count_end stmt_lines c.args.body.now c.loop-stmt.stmt-index c.loop-stmt.count (capped (length (body_lines c.args.body.now)))
    c.loop-stmt-test.false c.loop-stmt.invariant.1 c.loop-stmt.invariant.0

pub clauses_count-returns : goal.clauses_count-returns
clauses_count-returns t c =
    count_end clause_lines c.args.clauses.now c.loop-clause.clause-index c.loop-clause.count (capped (length (clauses_lines c.args.clauses.now)))
    c.loop-clause-test.false c.loop-clause.invariant.1 c.loop-clause.invariant.0
