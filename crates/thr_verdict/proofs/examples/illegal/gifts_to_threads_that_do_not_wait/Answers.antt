use Rattle.std.proofs.Common.{refl}
use Rattle.thr_verdict.specs.Computing.{verdict_words}
use Rattle.thr_verdict.proofs.LegalLines.{not_legal}
use Rattle.thr_verdict.proofs.examples.illegal.gifts_to_threads_that_do_not_wait.Goals as goal

pub returns-clause-another : goal.returns-clause-another
unfolding verdict_words
returns-clause-another c = not_legal _ _ _ _ refl

pub returns-clause-second_owner : goal.returns-clause-second_owner
unfolding verdict_words
returns-clause-second_owner c = not_legal _ _ _ _ refl

pub returns-clause-owner_again : goal.returns-clause-owner_again
unfolding verdict_words
returns-clause-owner_again c = not_legal _ _ _ _ refl

pub returns-clause-free : goal.returns-clause-free
unfolding verdict_words
returns-clause-free c = not_legal _ _ _ _ refl
