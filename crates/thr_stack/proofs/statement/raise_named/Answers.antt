use Rattle.thr_stack.proofs.Statements.{raises_named}
use Rattle.thr_stack.proofs.statement.raise_named.Goals as goal

pub returns : goal.returns
returns c =
    raises_named c.args.lines.now c.args.context.now c.requires.ready.stands c.args.notes.now _ _ c.args.name c.exception-x.result c.requires.at c.exception-x.ensures (c.raise.ensures _ c.requires.ready.stands.good)
