use Rattle.thr_model.proofs.StateTables.{canonical-state}
use Rattle.thr_model.specs.Canonical.{IsCanonicalState}
use Rattle.thr_beginnings.proofs.Destructors.{destructors_are_routines}
use Rattle.thr_beginnings.proofs.laws.what_begins_is_a_routine.Goals as goal

pub returns : goal.returns
returns c = λ s n x formed h t. (let sorted : IsCanonicalState x.state = canonical-state h in destructors_are_routines s n x formed h sorted.keys t)
