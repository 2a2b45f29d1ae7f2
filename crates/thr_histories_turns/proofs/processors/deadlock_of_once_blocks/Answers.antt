use Rattle.std.proofs.Common.{refl}
use Rattle.thr_histories_turns.specs.Words.{history_words}
use Rattle.thr_histories_turns.specs.MachineScripts as scripts
use Rattle.thr_histories.proofs.Run.{runs-by}
use Rattle.thr_histories_turns.specs.MachineScripts.{deadlock_of_once_blocks_events}
use Rattle.thr_histories_turns.proofs.processors.deadlock_of_once_blocks.Goals as goal

pub returns : goal.returns
unfolding history_words
returns c = runs-by scripts.deadlock_of_once_blocks _ deadlock_of_once_blocks_events _ _ refl refl refl refl
