-- The words that the examples unfold to compute.
use Rattle.thr_syntax.specs.Computing.{tree_words}
use Rattle.thr_syntax.specs.Folds.{each_expr, each_stmt}

unfoldable pub example_words : Unit {0}
unfolding tree_words each_expr each_stmt
example_words = tt
