use Rattle.thr_model.proofs.ScopeOrder.{scopes-in-order}
use Rattle.thr_model.proofs.laws.scopes_stay_in_order.Goals as goal

pub returns : goal.returns
returns c = λ s n x h. scopes-in-order h
