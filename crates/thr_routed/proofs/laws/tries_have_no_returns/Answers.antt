use Rattle.thr_routed.proofs.Tries.{tries_clean}
use Rattle.thr_routed.proofs.laws.tries_have_no_returns.Goals as goal

pub returns : goal.returns
returns c = tries_clean
