use Rattle.thr_variables.proofs.DeclaredKept.{always_declared}
use Rattle.thr_variables.proofs.laws.shared_variables_stay_declared.Goals as goal

pub returns : goal.returns
returns c = λ s n x formed h. always_declared s formed h
