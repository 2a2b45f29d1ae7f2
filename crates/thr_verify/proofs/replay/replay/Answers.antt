use Rattle.std.proofs.Common.{subst}
use Rattle.thr_verify.specs.Replays.{StepsSo, GoesOn, EndsWith}
use Rattle.thr_verify.proofs.Endings.{left_after, left_ends}
use Rattle.thr_verify.proofs.replay.replay.Goals as goal

pub loop-wrong-preserved : goal.loop-wrong-preserved
loop-wrong-preserved c =
    let went : GoesOn c.args.j.now c.loop-wrong.book c.next_step.new.book = subst (StepsSo c.args.j.now c.loop-wrong.book c.next_step.new.book) c.in-Goes.is c.in_ok-next_step.ensures in record {
      at = went.replayed;
      left = left_after c.args.j.now c.loop-wrong.book c.next_step.new.book c.loop-wrong.invariant.at c.loop-wrong.invariant.left went;
    }

pub returns-in-Ends-clause-wrong : goal.returns-in-Ends-clause-wrong
returns-in-Ends-clause-wrong c =
    let ends : EndsWith c.args.j.now c.loop-wrong.book c.in-Ends.wrong = subst (StepsSo c.args.j.now c.loop-wrong.book c.next_step.new.book) c.in-Ends.is c.in_ok-next_step.ensures in
    left_ends c.args.j.now c.loop-wrong.book c.in-Ends.wrong c.loop-wrong.invariant.at c.loop-wrong.invariant.left ends
