use Rattle.std.proofs.Common.{refl}
use Rattle.thr_histories_waits.specs.Words.{history_words}
use Rattle.thr_histories_waits.specs.WaitScripts.{cancel_of_running_thread_events}
use Rattle.thr_histories_waits.specs.WaitScripts as scripts
use Rattle.thr_histories.proofs.Run.{runs-by}
use Rattle.thr_histories_waits.proofs.asynchrony.cancel_of_running_thread.Goals as goal

pub returns : goal.returns
unfolding history_words
returns c = runs-by scripts.cancel_of_running_thread _ cancel_of_running_thread_events _ _ refl refl refl refl
