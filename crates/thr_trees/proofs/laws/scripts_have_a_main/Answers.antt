use Rattle.std.proofs.Common.{codes}
use Rattle.thr_trees.specs.Routines.{name_with}
use Rattle.thr_trees.proofs.RoutinesFound.{a_routine, main_stands}
use Rattle.thr_trees.proofs.laws.scripts_have_a_main.Goals as goal

pub returns-clause-routine : goal.returns-clause-routine
returns-clause-routine c = λ s h. a_routine s h (name_with s (codes "main")) (main_stands s h).routine

pub returns-clause-text : goal.returns-clause-text
returns-clause-text c = λ s h. (main_stands s h).text
