use Rattle.std.proofs.Common.{refl}
use Rattle.thr_histories_turns.specs.Words.{history_words}
use Rattle.thr_histories_turns.specs.MachineScripts as scripts
use Rattle.thr_histories.proofs.Run.{runs-alone}
use Rattle.thr_histories_turns.proofs.routines.values_of_each_thread.Goals as goal

pub returns : goal.returns
unfolding history_words
returns c = runs-alone scripts.values_of_each_thread _ _ refl refl refl refl
