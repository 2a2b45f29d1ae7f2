use Rattle.thr_conds.proofs.CallLaws.{pulled_out}
use Rattle.thr_conds.proofs.laws.calls_on_conditions_keep_waits_in_agreement.Goals as goal

pub returns-clause-pulled_out : goal.returns-clause-pulled_out
returns-clause-pulled_out c = pulled_out
