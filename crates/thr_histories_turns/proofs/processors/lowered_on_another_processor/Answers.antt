use Rattle.std.proofs.Common.{refl}
use Rattle.thr_histories_turns.specs.Words.{history_words}
use Rattle.thr_histories_turns.specs.MachineScripts as scripts
use Rattle.thr_histories.proofs.Run.{runs-by}
use Rattle.thr_histories_turns.specs.MachineScripts.{lowered_on_another_processor_events}
use Rattle.thr_histories_turns.proofs.processors.lowered_on_another_processor.Goals as goal

pub returns : goal.returns
unfolding history_words
returns c = runs-by scripts.lowered_on_another_processor _ lowered_on_another_processor_events _ _ refl refl refl refl
