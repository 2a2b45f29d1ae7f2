use Rattle.std.proofs.Common.{refl}
use Rattle.thr_verdict.specs.Computing.{verdict_words}
use Rattle.thr_verdict.proofs.LegalLines.{not_legal}
use Rattle.thr_verdict.proofs.examples.illegal.the_lesser_rank_first.Goals as goal

pub returns-clause-illegal : goal.returns-clause-illegal
unfolding verdict_words
returns-clause-illegal c = not_legal _ _ _ _ refl
