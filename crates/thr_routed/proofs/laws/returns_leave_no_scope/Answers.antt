use Rattle.thr_routed.proofs.ReturnSteps.{returns_leave_none}
use Rattle.thr_routed.proofs.laws.returns_leave_no_scope.Goals as goal

pub returns : goal.returns
returns c = λ s tries. returns_leave_none s tries
