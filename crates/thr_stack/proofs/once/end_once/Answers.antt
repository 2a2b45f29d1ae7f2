use Rattle.thr_stack.proofs.Onces.{ends_here, ends_once}
use Rattle.thr_stack.proofs.once.end_once.Goals as goal

pub leave_once-scope-requires : goal.leave_once-scope-requires
leave_once-scope-requires c = (ends_here c.args.lines.now c.args.context.now c.requires.ends.0 c.requires.ends.1 c.requires.ends.2).at_once

pub returns-clause-makes : goal.returns-clause-makes
returns-clause-makes c =
    let s = c.args.lines.now in
    let k = c.args.context.now in
    ends_once s k c.leave_once-scope.new.context c.args.notes.now c.push.new.self _ _ c.requires.good c.leave_once-scope.ensures (ends_here s k c.requires.ends.0 c.requires.ends.1 c.requires.ends.2) c.push.ensures
