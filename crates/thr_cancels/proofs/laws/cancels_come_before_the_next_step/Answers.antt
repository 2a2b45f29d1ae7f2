use Rattle.thr_cancels.proofs.AtOnce.{turn_at_once}
use Rattle.thr_cancels.proofs.laws.cancels_come_before_the_next_step.Goals as goal

pub returns : goal.returns
returns c = λ s n x h t e. turn_at_once h t e
