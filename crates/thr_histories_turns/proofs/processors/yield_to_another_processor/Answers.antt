use Rattle.std.proofs.Common.{refl}
use Rattle.thr_histories_turns.specs.Words.{history_words}
use Rattle.thr_histories_turns.specs.MachineScripts as scripts
use Rattle.thr_histories.proofs.Run.{runs-by}
use Rattle.thr_histories_turns.specs.MachineScripts.{yield_to_another_processor_events}
use Rattle.thr_histories_turns.proofs.processors.yield_to_another_processor.Goals as goal

pub returns : goal.returns
unfolding history_words
returns c = runs-by scripts.yield_to_another_processor _ yield_to_another_processor_events _ _ refl refl refl refl
