use Rattle.std.proofs.Common.{arith, sym, ◌∙◌}
use Rattle.thr_naming.proofs.Walks.{walks_on, walk_stops, walk_ends}
use Rattle.thr_naming.proofs.judge.first_misfit.Goals as goal

pub returns-in-Some-clause-place : goal.returns-in-Some-clause-place
returns-in-Some-clause-place c =
    let some = sym c.in-Some.is ∙ c.in_ok-number.ensures.misfit in
    rw c.number.ensures (walk_stops c.args.whole.now c.loop-line.context c.args.lines.now c.loop-line.line-index c.line-item.result _ c.in-Some.number c.loop-line-test.true c.line-item.is some c.loop-line.invariant.walked)

pub loop-line-preserved : goal.loop-line-preserved
loop-line-preserved c =
    let none = sym c.in_default.is ∙ c.in_ok-number.ensures.misfit in
    record {
      walked = walks_on c.args.whole.now c.loop-line.context c.judge_line.new.context c.args.lines.now c.loop-line.line-index c.line-item.result _ c.loop-line-test.true c.line-item.is none c.in_ok-number.ensures.after c.loop-line.invariant.walked;
      depth = omega (arith, c.in_ok-number.ensures.depth, c.loop-line.invariant.depth);
      count = omega (arith, c.in_ok-number.ensures.count, c.loop-line.invariant.count);
    }

pub returns-clause-place : goal.returns-clause-place
returns-clause-place c = walk_ends c.args.whole.now c.loop-line.context c.args.lines.now c.loop-line.line-index _ c.loop-line-test.false c.loop-line.invariant.walked
