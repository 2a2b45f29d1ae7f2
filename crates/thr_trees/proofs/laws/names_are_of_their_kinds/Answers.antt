use Rattle.thr_trees.proofs.LinesNamed.{items_named, item_named, line_is_named, standing_is_named}
use Rattle.thr_trees.proofs.SharedFound.{a_shared}
use Rattle.thr_trees.proofs.laws.names_are_of_their_kinds.Goals as goal

pub returns-clause-line : goal.returns-clause-line
returns-clause-line c = line_is_named

pub returns-clause-standing : goal.returns-clause-standing
returns-clause-standing c = standing_is_named

pub returns-clause-item : goal.returns-clause-item
returns-clause-item c = λ s h place i at. item_named s s.items place i (items_named s h) at

pub returns-clause-shared : goal.returns-clause-shared
returns-clause-shared c = λ s h name e. a_shared s name e
