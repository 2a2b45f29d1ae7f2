use Rattle.thr_model.proofs.Legality.{of-legal}
use Rattle.thr_cancels.proofs.HistoryLines.{history_told, woken_first}
use Rattle.thr_cancels.proofs.laws.woken_threads_deliver_first.Goals as goal

pub returns-clause-legal : goal.returns-clause-legal
returns-clause-legal c = λ s n entries stop legal t. of-legal _ (λ x h. woken_first t x.entries _ (history_told h t)) legal

pub returns-clause-all : goal.returns-clause-all
returns-clause-all c = λ s n x h t. woken_first t x.entries _ (history_told h t)
