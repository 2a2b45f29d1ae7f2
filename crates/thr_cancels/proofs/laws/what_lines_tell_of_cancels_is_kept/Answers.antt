use Rattle.thr_cancels.proofs.HistoryLines.{record_told, woken_told, waiting_told}
use Rattle.thr_cancels.proofs.laws.what_lines_tell_of_cancels_is_kept.Goals as goal

pub returns-clause-records : goal.returns-clause-records
returns-clause-records c = λ s n x h t th e. record_told h t th e

pub returns-clause-woken : goal.returns-clause-woken
returns-clause-woken c = λ s n x h t e. woken_told h t e

pub returns-clause-waiting : goal.returns-clause-waiting
returns-clause-waiting c = λ s n x h t e. waiting_told h t e
