use Rattle.std.proofs.lemmas.Result.{err_from_is_err_and}
use Rattle.thr_blocks.proofs.Walks.{walks_on, walk_stops}
use Rattle.thr_blocks.proofs.check.check_blocks.Goals as goal

pub returns-in_err-pass_line-clause-fault : goal.returns-in_err-pass_line-clause-fault
returns-in_err-pass_line-clause-fault c =
    let p = err_from_is_err_and c.from_residual.result c.from_residual.ensures.1 in
    rw (p.1, p.2) (walk_stops c.in_err-pass_line.field-0.0 c.args.end c.loop-line.blocks c.args.lines.now c.loop-line.line-index c.line-item.result _ c.loop-line-test.true c.line-item.is c.in_err-pass_line.ensures.fault c.loop-line.invariant)

pub loop-line-preserved : goal.loop-line-preserved
loop-line-preserved c =
    walks_on c.args.end c.loop-line.blocks _ c.args.lines.now c.loop-line.line-index c.line-item.result _ c.loop-line-test.true c.line-item.is c.in_ok-pass_line.ensures.good c.in_ok-pass_line.ensures.below c.loop-line.invariant
