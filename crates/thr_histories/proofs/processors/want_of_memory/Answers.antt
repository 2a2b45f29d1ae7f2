use Rattle.std.proofs.Common.{refl}
use Rattle.thr_histories.specs.Words.{history_words}
use Rattle.thr_histories.specs.Events.{dispatch_alone}
use Rattle.thr_histories.proofs.Run.{runs-by}
use Rattle.thr_histories.proofs.processors.want_of_memory.Goals as goal

pub returns : goal.returns
unfolding history_words
returns c = runs-by _ _ dispatch_alone _ _ refl refl refl refl
