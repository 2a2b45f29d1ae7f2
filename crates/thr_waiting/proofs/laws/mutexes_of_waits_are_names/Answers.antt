use Rattle.thr_waiting.proofs.MutexNames.{history_named}
use Rattle.thr_waiting.proofs.laws.mutexes_of_waits_are_names.Goals as goal

pub returns : goal.returns
returns c = λ s n x formed h t. history_named formed h t
