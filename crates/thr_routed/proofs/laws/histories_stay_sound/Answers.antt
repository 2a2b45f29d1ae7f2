use Rattle.thr_routed.proofs.Histories.{stays_sound}
use Rattle.thr_routed.proofs.laws.histories_stay_sound.Goals as goal

pub returns : goal.returns
returns c = λ s n. stays_sound s n
