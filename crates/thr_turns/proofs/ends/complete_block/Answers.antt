use Rattle.thr_turns.proofs.EndLaws.{completion-step}
use Rattle.thr_turns.proofs.ends.complete_block.Goals as goal

pub returns-clause-steps : goal.returns-clause-steps
returns-clause-steps c =
    let left = c.close_once-block.ensures.moved in
    completion-step c.args.lines.now c.args.t c.args.workings.now.services _ _ c.args.stack.now _ _ _ c.close_once-block.result left.0 c.complete.ensures left.1 left.2
