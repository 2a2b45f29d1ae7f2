use Rattle.thr_limits.proofs.FormedLimits.{formed_within}
use Rattle.thr_limits.proofs.laws.formed_scripts_keep_the_limits.Goals as goal

pub returns : goal.returns
returns c = formed_within
