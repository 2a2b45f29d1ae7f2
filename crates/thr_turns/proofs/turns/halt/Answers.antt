use Rattle.thr_turns.proofs.HaltLaws.{shared-halt, done-halt, undone-halt}
use Rattle.thr_turns.proofs.turns.halt.Goals as goal

pub returns-in-Shared-clause-steps : goal.returns-in-Shared-clause-steps
returns-in-Shared-clause-steps c =
    shared-halt c.args.lines.now c.args.t c.args.workings.now.services _ c.args.workings.now.shared _ c.args.stack.now _ _ _ _ c.args.stopped _ c.in-Shared.is c.make_shared.ensures.steps

pub returns-in-OnceDone-clause-steps : goal.returns-in-OnceDone-clause-steps
returns-in-OnceDone-clause-steps c =
    done-halt c.args.lines.now c.args.t c.args.workings.now.services _ c.args.workings.now.shared _ c.args.stack.now _ _ _ _ c.args.stopped c.in-OnceDone.is c.complete_block.ensures.steps

pub returns-in-OnceUndone-clause-steps : goal.returns-in-OnceUndone-clause-steps
returns-in-OnceUndone-clause-steps c =
    undone-halt c.args.lines.now c.args.t c.args.workings.now.services _ c.args.workings.now.shared _ c.args.stack.now _ _ _ _ c.args.stopped c.in-OnceUndone.is c.undo_block.ensures.steps
