use Rattle.thr_text.proofs.FaultLaws.{line_six_says, line_six_comes}
use Rattle.thr_text.proofs.laws.misplaced_words_are_told.Goals as goal

pub returns : goal.returns
returns c = record { has_such_a_word = line_six_says; such_a_word_is_told = line_six_comes }
