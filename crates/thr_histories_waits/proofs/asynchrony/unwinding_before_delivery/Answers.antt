use Rattle.std.proofs.Common.{refl}
use Rattle.thr_histories_waits.specs.Words.{history_words}
use Rattle.thr_histories_waits.specs.WaitScripts.{unwinding_before_delivery_events}
use Rattle.thr_histories_waits.specs.WaitScripts as scripts
use Rattle.thr_histories.proofs.Run.{runs-by}
use Rattle.thr_histories_waits.proofs.asynchrony.unwinding_before_delivery.Goals as goal

pub returns : goal.returns
unfolding history_words
returns c = runs-by scripts.unwinding_before_delivery _ unwinding_before_delivery_events _ _ refl refl refl refl
