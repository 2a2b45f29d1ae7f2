use Rattle.thr_made.proofs.Formed.{made_formed}
use Rattle.thr_made.proofs.laws.made_scripts_keep_the_rules.Goals as goal

pub returns : goal.returns
returns c = λ n threads some few. made_formed n threads few
