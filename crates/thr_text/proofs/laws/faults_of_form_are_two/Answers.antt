use Rattle.thr_text.proofs.FaultLaws.{fault_is_two}
use Rattle.thr_text.proofs.laws.faults_of_form_are_two.Goals as goal

pub returns : goal.returns
returns c = fault_is_two
