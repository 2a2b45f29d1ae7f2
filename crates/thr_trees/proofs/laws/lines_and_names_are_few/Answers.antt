use Rattle.thr_trees.proofs.Few.{few_lines}
use Rattle.thr_trees.proofs.KindsAgree.{has_names, named_is_known}
use Rattle.thr_trees.proofs.laws.lines_and_names_are_few.Goals as goal

pub returns-clause-lines : goal.returns-clause-lines
returns-clause-lines c = few_lines

pub returns-clause-names : goal.returns-clause-names
returns-clause-names c = λ s h. (has_names s h).few

pub returns-clause-below : goal.returns-clause-below
returns-clause-below c = λ s h kind name e. (named_is_known s (has_names s h) kind name e).below
