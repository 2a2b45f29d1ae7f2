use Rattle.thr_model.proofs.Legality.{of-legal}
use Rattle.thr_cancels.proofs.HistoryLines.{history_told, has_effects}
use Rattle.thr_cancels.proofs.laws.cancels_have_the_effect_that_holds.Goals as goal

pub returns-clause-legal : goal.returns-clause-legal
returns-clause-legal c = λ s n entries stop legal t. of-legal _ (λ x h. has_effects t x.entries _ (history_told h t)) legal

pub returns-clause-all : goal.returns-clause-all
returns-clause-all c = λ s n x h t. has_effects t x.entries _ (history_told h t)
