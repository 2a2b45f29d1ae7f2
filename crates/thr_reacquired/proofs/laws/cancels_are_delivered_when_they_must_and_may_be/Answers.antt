use Rattle.thr_reacquired.proofs.Histories.{cancels_lawful}
use Rattle.thr_reacquired.proofs.laws.cancels_are_delivered_when_they_must_and_may_be.Goals as goal

pub returns : goal.returns
returns c = λ s n entries stop legal. cancels_lawful legal
