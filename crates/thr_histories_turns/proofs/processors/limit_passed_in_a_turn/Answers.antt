use Rattle.std.proofs.Common.{refl}
use Rattle.thr_histories_turns.specs.Words.{history_words}
use Rattle.thr_histories_turns.specs.MachineScripts as scripts
use Rattle.thr_histories.proofs.Run.{runs-by}
use Rattle.thr_histories_turns.specs.MachineScripts.{limit_passed_in_a_turn_events}
use Rattle.thr_histories_turns.proofs.processors.limit_passed_in_a_turn.Goals as goal

pub returns : goal.returns
unfolding history_words
returns c = runs-by scripts.limit_passed_in_a_turn _ limit_passed_in_a_turn_events _ _ refl refl refl refl
