-- The words that a worked history unfolds to compute.
use Rattle.thr_histories.specs.Words as histories

unfoldable pub history_words : Unit {0}
unfolding histories.history_words
history_words = tt
