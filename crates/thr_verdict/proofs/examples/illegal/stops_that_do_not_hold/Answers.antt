use Rattle.std.proofs.Common.{refl}
use Rattle.thr_verdict.specs.Computing.{verdict_words}
use Rattle.thr_verdict.proofs.LegalLines.{not_legal}
use Rattle.thr_verdict.proofs.examples.illegal.stops_that_do_not_hold.Goals as goal

pub returns-clause-memory : goal.returns-clause-memory
unfolding verdict_words
returns-clause-memory c = not_legal _ _ _ _ refl

pub returns-clause-early : goal.returns-clause-early
unfolding verdict_words
returns-clause-early c = not_legal _ _ _ _ refl

pub returns-clause-late : goal.returns-clause-late
unfolding verdict_words
returns-clause-late c = not_legal _ _ _ _ refl
