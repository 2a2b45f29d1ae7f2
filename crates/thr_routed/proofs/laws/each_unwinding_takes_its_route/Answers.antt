use Rattle.thr_routed.proofs.ReturnSteps.{returns_leave_none}
use Rattle.thr_routed.proofs.Histories.{legal_routed}
use Rattle.thr_routed.proofs.Tries.{tries_clean}
use Rattle.thr_routed.proofs.laws.each_unwinding_takes_its_route.Goals as goal

pub returns : goal.returns
returns c = λ s n entries stop formed legal. legal_routed s n entries stop (returns_leave_none s (tries_clean s formed)) legal
