-- The words that a history unfolds to compute.
use Rattle.thr_remainder.specs.Computing.{remainder_words}
use Rattle.thr_parts.specs.Computing.{parts_words}
use Rattle.thr_model.specs.States.{declared_values, main_of}
use Rattle.thr_model.specs.Calls.{answered}
use Rattle.thr_model.specs.Turns.{turn_of}
use Rattle.thr_model.specs.Events.{made_by}
use Rattle.thr_model.specs.Histories.{limit_of, stop_at}
use Rattle.thr_model.specs.Play.{play, alone}

unfoldable pub model_words : Unit {0}
unfolding remainder_words parts_words declared_values main_of answered turn_of made_by limit_of stop_at play alone
model_words = tt
