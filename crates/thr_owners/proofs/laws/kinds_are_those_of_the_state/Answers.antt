use Rattle.thr_owners.proofs.Owning.{cell-told, kind-told}
use Rattle.thr_owners.proofs.laws.kinds_are_those_of_the_state.Goals as goal

pub returns-clause-cells : goal.returns-clause-cells
returns-clause-cells c = λ s n x h. cell-told h

pub returns-clause-locks : goal.returns-clause-locks
returns-clause-locks c = λ s n x h. kind-told h
