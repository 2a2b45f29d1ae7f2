use Rattle.std.proofs.Common.{refl}
use Rattle.thr_histories_turns.specs.Words.{history_words}
use Rattle.thr_histories_turns.specs.MachineScripts as scripts
use Rattle.thr_histories.proofs.Run.{runs-by}
use Rattle.thr_histories_turns.specs.MachineScripts.{mutex_between_processors_events}
use Rattle.thr_histories_turns.proofs.processors.mutex_between_processors.Goals as goal

pub returns : goal.returns
unfolding history_words
returns c = runs-by scripts.mutex_between_processors _ mutex_between_processors_events _ _ refl refl refl refl
