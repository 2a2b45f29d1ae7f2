use Rattle.thr_threads.proofs.CellLaws.{right_put}
use Rattle.thr_threads.proofs.cells.Cells.put.Goals as goal

pub invariant_of-self : goal.invariant_of-self
invariant_of-self c = right_put c.self.inside.slots c.put.new.self c.args.a.0 c.args.cell c.self.invariant c.requires.right c.put.ensures
