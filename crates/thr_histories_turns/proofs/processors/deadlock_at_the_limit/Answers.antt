use Rattle.std.proofs.Common.{refl}
use Rattle.thr_histories_turns.specs.Words.{history_words}
use Rattle.thr_histories_turns.specs.MachineScripts as scripts
use Rattle.thr_histories.proofs.Run.{runs-by}
use Rattle.thr_histories_turns.specs.MachineScripts.{deadlock_at_the_limit_events}
use Rattle.thr_histories_turns.proofs.processors.deadlock_at_the_limit.Goals as goal

pub returns : goal.returns
unfolding history_words
returns c = runs-by scripts.deadlock_at_the_limit _ deadlock_at_the_limit_events _ _ refl refl refl refl
