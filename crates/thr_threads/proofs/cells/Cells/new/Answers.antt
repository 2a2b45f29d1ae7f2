use Rattle.thr_threads.proofs.CellLaws.{right_none}
use Rattle.thr_threads.proofs.cells.Cells.new.Goals as goal

pub invariant_of-result : goal.invariant_of-result
invariant_of-result c = right_none c.in_ok-slots.slots c.in_ok-slots.ensures
