use Rattle.thr_trees.proofs.CatchBodies.{routines_caught}
use Rattle.thr_trees.proofs.CaughtLines.{lines_in_catch}
use Rattle.thr_trees.proofs.laws.catch_bodies_alone_use_what_is_caught.Goals as goal

pub returns-clause-lines : goal.returns-clause-lines
returns-clause-lines c = lines_in_catch

pub returns-clause-bodies : goal.returns-clause-bodies
returns-clause-bodies c = routines_caught
