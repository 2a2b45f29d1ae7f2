use Rattle.thr_model.proofs.StateTables.{canonical-state}
use Rattle.thr_model.proofs.laws.states_stay_canonical.Goals as goal

pub returns : goal.returns
returns c = λ s n x h. canonical-state h
