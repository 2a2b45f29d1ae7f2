use Rattle.std.proofs.Common.{refl}
use Rattle.thr_histories_turns.specs.Words.{history_words}
use Rattle.thr_histories_turns.specs.MachineScripts as scripts
use Rattle.thr_histories.proofs.Run.{runs-by}
use Rattle.thr_histories_turns.specs.MachineScripts.{exits_quiet_and_shared_events}
use Rattle.thr_histories_turns.proofs.processors.exits_quiet_and_shared.Goals as goal

pub returns : goal.returns
unfolding history_words
returns c = runs-by scripts.exits_quiet_and_shared _ exits_quiet_and_shared_events _ _ refl refl refl refl
