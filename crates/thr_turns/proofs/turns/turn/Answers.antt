use Rattle.thr_turns.proofs.ReadyLaws.{arrival-later, whole-turn}
use Rattle.thr_turns.proofs.turns.turn.Goals as goal

pub keep-requires : goal.keep-requires
keep-requires c = record { arrival = arrival-later c.args.lines.now c.args.t c.args.workings.now _ c.args.stack.now _ _ c.requires.ready c.make-left.ensures }

pub returns : goal.returns
returns c = whole-turn c.args.lines.now c.args.t c.args.workings.now c.make-left.new.workings _ c.args.stack.now _ _ c.make-left.ensures c.keep.ensures
