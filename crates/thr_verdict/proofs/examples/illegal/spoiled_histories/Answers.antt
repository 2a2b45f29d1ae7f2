use Rattle.std.proofs.Common.{refl}
use Rattle.thr_verdict.specs.Computing.{verdict_words}
use Rattle.thr_verdict.proofs.LegalLines.{not_legal}
use Rattle.thr_verdict.proofs.examples.illegal.spoiled_histories.Goals as goal

pub returns-clause-order : goal.returns-clause-order
unfolding verdict_words
returns-clause-order c = not_legal _ _ _ _ refl

pub returns-clause-processor : goal.returns-clause-processor
unfolding verdict_words
returns-clause-processor c = not_legal _ _ _ _ refl

pub returns-clause-stop : goal.returns-clause-stop
unfolding verdict_words
returns-clause-stop c = not_legal _ _ _ _ refl
