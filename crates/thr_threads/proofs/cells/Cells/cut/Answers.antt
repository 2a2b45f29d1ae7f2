use Rattle.thr_threads.proofs.CellLaws.{right_cut}
use Rattle.thr_threads.proofs.cells.Cells.cut.Goals as goal

pub invariant_of-self : goal.invariant_of-self
invariant_of-self c = right_cut c.self.inside.slots c.cut.new.self c.args.a.0 c.self.invariant c.cut.ensures
