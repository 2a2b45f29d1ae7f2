use Rattle.thr_exactness.proofs.InFront.{event_all_in_front}
use Rattle.thr_exactness.proofs.laws.arguments_of_calls_stand_in_front.Goals as goal

pub returns : goal.returns
returns c = event_all_in_front
