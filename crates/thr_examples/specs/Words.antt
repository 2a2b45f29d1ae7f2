-- The words that an example unfolds to compute.
use Rattle.thr_syntax.specs.Computing.{tree_words}
use Rattle.thr_syntax.specs.Folds.{each_expr, each_stmt}
use Rattle.thr_text.specs.Computing.{text_words}
use Rattle.thr_examples.specs.OneLine.{lines_between}
use Rattle.thr_examples.specs.Arguments.{place_in, operator_in, arguments}
use Rattle.thr_examples.specs.Resolved.{call_of, form_after, forms_of}
use Rattle.thr_examples.specs.Nested.{with_line, below}

unfoldable pub example_words : Unit {0}
unfolding tree_words each_expr each_stmt text_words lines_between place_in operator_in arguments call_of form_after forms_of with_line below
example_words = tt
