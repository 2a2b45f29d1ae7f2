use Rattle.thr_answers.proofs.AnswerTurns.{legal-answered}
use Rattle.thr_answers.proofs.laws.each_call_is_answered_once.Goals as goal

pub returns : goal.returns
returns c = λ s n entries stop h. legal-answered h
