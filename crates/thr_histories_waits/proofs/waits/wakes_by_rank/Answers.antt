use Rattle.std.proofs.Common.{refl}
use Rattle.thr_histories_waits.specs.Words.{history_words}
use Rattle.thr_histories_waits.specs.WaitScripts as scripts
use Rattle.thr_histories.proofs.Run.{runs-alone}
use Rattle.thr_histories_waits.proofs.waits.wakes_by_rank.Goals as goal

pub returns : goal.returns
unfolding history_words
returns c = runs-alone scripts.wakes_by_rank _ _ refl refl refl refl
