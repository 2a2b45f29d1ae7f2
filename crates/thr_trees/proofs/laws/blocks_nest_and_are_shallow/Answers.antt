use Rattle.thr_trees.proofs.Few.{items_nest, routines_shallow}
use Rattle.thr_trees.proofs.laws.blocks_nest_and_are_shallow.Goals as goal

pub returns-clause-nests : goal.returns-clause-nests
returns-clause-nests c = items_nest

pub returns-clause-shallow : goal.returns-clause-shallow
returns-clause-shallow c = routines_shallow
