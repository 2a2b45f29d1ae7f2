use Rattle.thr_event_lines.proofs.OneMutex.{history_one}
use Rattle.thr_event_lines.proofs.laws.waiters_of_a_condition_have_one_mutex.Goals as goal

pub returns : goal.returns
returns c = λ s n x h t u c m k until until' e f. history_one h t u c m k until until' e f
