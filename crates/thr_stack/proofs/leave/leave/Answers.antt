use Rattle.thr_stack.proofs.Ends.{leave_call}
use Rattle.thr_stack.proofs.leave.leave.Goals as goal

pub returns-in-Call : goal.returns-in-Call
returns-in-Call c =
    leave_call c.args.lines.now c.args.context.now c.args.notes.now c.requires.ready.stands c.requires.at c.in-Some.frame c.pop.new.self c.in-Some.ensures.some c.pop.ensures.size c.in-Some.ensures.calls c.in-Call.place _ c.return_to.new.context c.in-Call.is c.return_to.ensures
