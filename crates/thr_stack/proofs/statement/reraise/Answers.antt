use Rattle.thr_stack.proofs.Statements.{reraises}
use Rattle.thr_stack.proofs.statement.reraise.Goals as goal

pub returns : goal.returns
returns c =
    reraises c.args.lines.now c.args.context.now c.requires.ready.stands c.args.notes.now _ _ c.caught-x.result c.requires.at c.caught-x.ensures (c.raise_again.ensures _ c.requires.ready.stands.good)
