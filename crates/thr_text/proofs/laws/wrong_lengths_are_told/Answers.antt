use Rattle.thr_text.proofs.FaultLaws.{line_seven_says, line_short, line_long}
use Rattle.thr_text.proofs.laws.wrong_lengths_are_told.Goals as goal

pub returns : goal.returns
returns c = record { has_wrong_length = line_seven_says; too_short_is_told = line_short; too_long_is_told = line_long }
