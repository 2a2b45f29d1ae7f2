use Rattle.std.proofs.Common.{refl}
use Rattle.thr_histories_turns.specs.Words.{history_words}
use Rattle.thr_histories_turns.specs.MachineScripts as scripts
use Rattle.thr_histories.proofs.Run.{runs-by}
use Rattle.thr_histories_turns.specs.MachineScripts.{overflow_of_shared_call_events}
use Rattle.thr_histories_turns.proofs.processors.overflow_of_shared_call.Goals as goal

pub returns : goal.returns
unfolding history_words
returns c = runs-by scripts.overflow_of_shared_call _ overflow_of_shared_call_events _ _ refl refl refl refl
