use Rattle.thr_services.specs.Answers.{listed}
use Rattle.thr_stack.specs.Sights.{shared_of}
use Rattle.thr_turns.proofs.CallLaws.{call-valued, call-raised}
use Rattle.thr_turns.proofs.calls.make_call.Goals as goal

pub returns-in-Ok-clause-steps : goal.returns-in-Ok-clause-steps
returns-in-Ok-clause-steps c =
    call-valued c.args.lines.now c.args.t c.args.workings.now.services _ c.args.workings.now.shared _ c.args.stack.now _ _ _ _ c.args.call.now (shared_of c.values.result.now) (listed c.in-Ok.ns) c.values.ensures c.in-Ok.ensures.values c.answer_call.ensures.steps

pub returns-in-Err-clause-steps : goal.returns-in-Err-clause-steps
returns-in-Err-clause-steps c =
    call-raised c.args.lines.now c.args.t c.args.workings.now.services c.args.workings.now.shared c.args.stack.now _ _ _ c.args.call.now (shared_of c.values.result.now) c.in-Err.x c.values.ensures c.in-Err.ensures.values c.raise.ensures.moved
