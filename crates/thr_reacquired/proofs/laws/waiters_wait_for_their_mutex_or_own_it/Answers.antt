use Rattle.thr_reacquired.proofs.Histories.{history_regains}
use Rattle.thr_reacquired.proofs.laws.waiters_wait_for_their_mutex_or_own_it.Goals as goal

pub returns : goal.returns
returns c = λ s n x h t m e. history_regains m h t e
