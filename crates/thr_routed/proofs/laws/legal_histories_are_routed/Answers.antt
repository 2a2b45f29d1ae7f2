use Rattle.thr_routed.proofs.ReturnSteps.{returns_leave_none}
use Rattle.thr_routed.proofs.Histories.{legal_routed}
use Rattle.thr_routed.proofs.laws.legal_histories_are_routed.Goals as goal

pub returns : goal.returns
returns c = λ s n entries stop tries legal. legal_routed s n entries stop (returns_leave_none s tries) legal
