use Rattle.std.proofs.Common.{refl}
use Rattle.thr_histories_turns.specs.Words.{history_words}
use Rattle.thr_histories_turns.specs.MachineScripts as scripts
use Rattle.thr_histories.proofs.Run.{runs-by}
use Rattle.thr_histories_turns.specs.MachineScripts.{cancel_before_the_end_step_events}
use Rattle.thr_histories_turns.proofs.processors.cancel_before_the_end_step.Goals as goal

pub returns : goal.returns
unfolding history_words
returns c = runs-by scripts.cancel_before_the_end_step _ cancel_before_the_end_step_events _ _ refl refl refl refl
