use Rattle.std.proofs.Common.{refl}
use Rattle.thr_histories_waits.specs.Words.{history_words}
use Rattle.thr_histories_waits.specs.WaitScripts as scripts
use Rattle.thr_histories.proofs.Run.{runs-alone}
use Rattle.thr_histories_waits.proofs.asynchrony.ends_as_quiet_steps.Goals as goal

pub returns : goal.returns
unfolding history_words
returns c = runs-alone scripts.ends_as_quiet_steps _ _ refl refl refl refl
