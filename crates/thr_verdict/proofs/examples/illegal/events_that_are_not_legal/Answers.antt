use Rattle.std.proofs.Common.{refl}
use Rattle.thr_verdict.specs.Computing.{verdict_words}
use Rattle.thr_verdict.proofs.LegalLines.{not_legal}
use Rattle.thr_verdict.proofs.examples.illegal.events_that_are_not_legal.Goals as goal

pub returns-clause-clock_illegal : goal.returns-clause-clock_illegal
unfolding verdict_words
returns-clause-clock_illegal c = not_legal _ _ _ _ refl

pub returns-clause-processor_illegal : goal.returns-clause-processor_illegal
unfolding verdict_words
returns-clause-processor_illegal c = not_legal _ _ _ _ refl
