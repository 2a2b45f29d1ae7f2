-- The words that a law unfolds to compute.
use Rattle.thr_values.specs.Words.{call_word}
use Rattle.thr_remainder.specs.Computing.{remainder_words}

unfoldable pub law_words : Unit {0}
unfolding remainder_words call_word
law_words = tt
