use Rattle.thr_owners.proofs.Owning.{owner-told}
use Rattle.thr_owners.proofs.laws.owners_are_those_of_the_state.Goals as goal

pub returns : goal.returns
returns c = λ s n x h. owner-told h
