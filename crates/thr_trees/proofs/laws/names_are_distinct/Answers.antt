use Rattle.thr_trees.proofs.Distinct.{all_distinct, routines_own}
use Rattle.thr_trees.proofs.KindsAgree.{has_names, declared_place, name_count}
use Rattle.thr_trees.proofs.laws.names_are_distinct.Goals as goal

pub returns-clause-names : goal.returns-clause-names
returns-clause-names c = λ s h. all_distinct s.names (has_names s h).distinct

pub returns-clause-order : goal.returns-clause-order
returns-clause-order c = λ s h place a at. declared_place s (has_names s h) place a at

pub returns-clause-count : goal.returns-clause-count
returns-clause-count c = name_count

pub returns-clause-locals : goal.returns-clause-locals
returns-clause-locals c = routines_own
