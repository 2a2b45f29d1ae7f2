use Rattle.std.proofs.Common.{refl}
use Rattle.thr_histories.specs.Words.{history_words}
use Rattle.thr_examples.specs.Scripts as scripts
use Rattle.thr_histories.proofs.Run.{runs-alone}
use Rattle.thr_histories.proofs.pipes.cancelled_reader.Goals as goal

pub returns : goal.returns
unfolding history_words
returns c = runs-alone scripts.cancelled_reader _ _ refl refl refl refl
