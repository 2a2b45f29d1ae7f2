use Rattle.thr_frames.specs.Stacks.{remainder_of, setting_of}
use Rattle.thr_turns.proofs.RunLaws.{none-begins, call-begins, running-step}
use Rattle.thr_turns.proofs.debts.run_block.Goals as goal

pub returns-in-None-clause-steps : goal.returns-in-None-clause-steps
returns-in-None-clause-steps c =
    let s = c.args.lines.now in
    let k = c.args.stack.now in
    running-step s c.args.t c.args.workings.now.services _ c.args.workings.now.shared _ k _ _ _ _ _ c.write.ensures.items c.take_reply.ensures.services c.take_reply.ensures.stored
    (none-begins (setting_of s k) (remainder_of s k) _ c.in-None.ensures) c.take_reply.ensures.moved

pub returns-in-Some-clause-steps : goal.returns-in-Some-clause-steps
returns-in-Some-clause-steps c =
    let s = c.args.lines.now in
    let k = c.args.stack.now in
    running-step s c.args.t c.args.workings.now.services _ c.args.workings.now.shared _ k _ _ _ _ _ c.write.ensures.items c.take_reply_and_run.ensures.services c.take_reply_and_run.ensures.stored
    (call-begins s (setting_of s k) (remainder_of s k) _ _ c.in-Some.ensures) c.take_reply_and_run.ensures.moved
