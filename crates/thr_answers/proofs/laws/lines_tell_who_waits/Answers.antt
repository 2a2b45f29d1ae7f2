use Rattle.thr_answers.proofs.AnswerTurns.{agrees}
use Rattle.thr_answers.proofs.laws.lines_tell_who_waits.Goals as goal

pub returns : goal.returns
returns c = λ s n x h t. (agrees h).waiting t
