use Rattle.thr_turns.proofs.ReplyLaws.{room-after, numbers-after}
use Rattle.thr_turns.proofs.replies.take_reply_and_run.Goals as goal

pub begin_routine-requires-clause-frames : goal.begin_routine-requires-clause-frames
begin_routine-requires-clause-frames c = λ needs. room-after c.args.lines.now c.args.t c.args.reply c.args.stack.now _ _ _ c.take_reply.ensures.moved (c.requires.frames needs)

pub begin_routine-requires-clause-numbers : goal.begin_routine-requires-clause-numbers
begin_routine-requires-clause-numbers c = numbers-after c.args.lines.now c.args.t c.args.reply c.args.stack.now _ _ _ c.take_reply.ensures.moved c.requires.numbers
