-- The words that a worked history unfolds to compute.
use Rattle.thr_model.specs.Computing.{model_words}
use Rattle.thr_laws.specs.Computing.{law_words}
use Rattle.thr_examples.specs.Words.{example_words}

unfoldable pub history_words : Unit {0}
unfolding example_words law_words model_words
history_words = tt
