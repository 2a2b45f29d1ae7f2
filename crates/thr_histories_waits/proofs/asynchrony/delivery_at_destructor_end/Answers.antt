use Rattle.std.proofs.Common.{refl}
use Rattle.thr_histories_waits.specs.Words.{history_words}
use Rattle.thr_histories_waits.specs.WaitScripts.{delivery_at_destructor_end_events}
use Rattle.thr_histories_waits.specs.WaitScripts as scripts
use Rattle.thr_histories.proofs.Run.{runs-by}
use Rattle.thr_histories_waits.proofs.asynchrony.delivery_at_destructor_end.Goals as goal

pub returns : goal.returns
unfolding history_words
returns c = runs-by scripts.delivery_at_destructor_end _ delivery_at_destructor_end_events _ _ refl refl refl refl
