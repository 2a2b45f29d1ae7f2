use Rattle.thr_trees.proofs.KindsAgree.{has_names, known_is_named, named_is_known, one_kind}
use Rattle.thr_trees.proofs.laws.kinds_of_lines_are_those_of_declarations.Goals as goal

pub returns-clause-declared : goal.returns-clause-declared
returns-clause-declared c = λ s h kind name below found. known_is_named s (has_names s h) kind name (record { below = below; found = found })

pub returns-clause-told : goal.returns-clause-told
returns-clause-told c = λ s h kind name e. (named_is_known s (has_names s h) kind name e).found

pub returns-clause-one : goal.returns-clause-one
returns-clause-one c = one_kind
