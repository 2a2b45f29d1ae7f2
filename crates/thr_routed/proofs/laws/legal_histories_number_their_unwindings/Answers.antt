use Rattle.thr_routed.proofs.Histories.{legal_numbered}
use Rattle.thr_routed.proofs.laws.legal_histories_number_their_unwindings.Goals as goal

pub returns : goal.returns
returns c = λ s n entries stop legal. legal_numbered s n entries stop legal
