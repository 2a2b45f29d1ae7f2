use Rattle.thr_model.proofs.Owners.{nobody-waits}
use Rattle.thr_model.proofs.laws.free_mutexes_have_no_waiters.Goals as goal

pub returns : goal.returns
returns c = λ s n x h. nobody-waits h
