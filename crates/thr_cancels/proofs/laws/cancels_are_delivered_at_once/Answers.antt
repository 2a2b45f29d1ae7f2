use Rattle.std.proofs.Common.{◌≡◌, true, List}
use Rattle.thr_values.specs.declared.history.Entry.{Entry}
use Rattle.thr_laws.specs.CancelLaw.{each_own_line, delivers_at_once}
use Rattle.thr_model.proofs.Legality.{of-legal}
use Rattle.thr_cancels.proofs.AtOnceTurns.{history_at_once}
use Rattle.thr_cancels.proofs.laws.cancels_are_delivered_at_once.Goals as goal

pub returns-clause-legal : goal.returns-clause-legal
returns-clause-legal c = λ s n entries stop legal t. of-legal (λ (es : List Entry). each_own_line (delivers_at_once s) t es ≡ true) (λ x h. history_at_once h t) legal

pub returns-clause-all : goal.returns-clause-all
returns-clause-all c = λ s n x h t. history_at_once h t
