use Rattle.thr_stack.proofs.Onces.{undoes_under, undoes_here, undoes_once}
use Rattle.thr_stack.proofs.once.undo_once.Goals as goal

pub leave_once-scope-requires : goal.leave_once-scope-requires
leave_once-scope-requires c = undoes_here c.args.lines.now c.args.context.now c.requires.undoes.0 c.requires.undoes.1 c.in-Some.u c.requires.undoes.2 c.in-Some.is

pub returns-clause-makes : goal.returns-clause-makes
returns-clause-makes c =
    undoes_once c.args.lines.now c.args.context.now c.leave_once-scope.new.context c.args.notes.now c.push.new.self _ _ c.requires.good c.leave_once-scope.ensures c.in-Some.u c.in-Some.is c.push.ensures

pub unreachable-requires : goal.unreachable-requires
unreachable-requires c = undoes_under c.args.lines.now c.args.context.now c.requires.undoes.0 c.requires.undoes.1 c.requires.undoes.2 c.in_default.is
