use Rattle.std.proofs.Common.{refl}
use Rattle.thr_verdict.specs.Computing.{verdict_words}
use Rattle.thr_verdict.proofs.examples.made.larger_made_scripts.Goals as goal

pub returns-clause-sixty_four : goal.returns-clause-sixty_four
unfolding verdict_words
returns-clause-sixty_four c = refl
