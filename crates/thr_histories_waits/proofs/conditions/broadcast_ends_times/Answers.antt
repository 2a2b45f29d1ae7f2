use Rattle.std.proofs.Common.{refl}
use Rattle.thr_histories_waits.specs.Words.{history_words}
use Rattle.thr_histories_waits.specs.WaitScripts as scripts
use Rattle.thr_histories.proofs.Run.{runs-alone}
use Rattle.thr_histories_waits.proofs.conditions.broadcast_ends_times.Goals as goal

pub returns : goal.returns
unfolding history_words
returns c = runs-alone scripts.broadcast_ends_times _ _ refl refl refl refl
