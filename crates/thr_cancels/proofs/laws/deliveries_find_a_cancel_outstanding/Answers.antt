use Rattle.thr_model.proofs.Legality.{of-legal}
use Rattle.thr_cancels.proofs.HistoryLines.{history_told, delivers}
use Rattle.thr_cancels.proofs.laws.deliveries_find_a_cancel_outstanding.Goals as goal

pub returns-clause-legal : goal.returns-clause-legal
returns-clause-legal c = λ s n entries stop legal t. of-legal _ (λ x h. delivers t x.entries _ (history_told h t)) legal

pub returns-clause-all : goal.returns-clause-all
returns-clause-all c = λ s n x h t. delivers t x.entries _ (history_told h t)
