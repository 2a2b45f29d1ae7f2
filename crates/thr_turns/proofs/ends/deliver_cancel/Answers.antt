use Rattle.thr_turns.proofs.EndLaws.{delivery-step}
use Rattle.thr_turns.proofs.ends.deliver_cancel.Goals as goal

pub returns-clause-steps : goal.returns-clause-steps
returns-clause-steps c = delivery-step c.args.lines.now c.args.t c.args.workings.now.services _ _ c.args.stack.now _ _ _ c.deliver.ensures c.deliver_here.ensures.moved
