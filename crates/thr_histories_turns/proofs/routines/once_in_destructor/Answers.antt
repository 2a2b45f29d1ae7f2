use Rattle.std.proofs.Common.{refl}
use Rattle.thr_histories_turns.specs.Words.{history_words}
use Rattle.thr_histories_turns.specs.MachineScripts as scripts
use Rattle.thr_histories.proofs.Run.{runs-alone}
use Rattle.thr_histories_turns.proofs.routines.once_in_destructor.Goals as goal

pub returns : goal.returns
unfolding history_words
returns c = runs-alone scripts.once_in_destructor _ _ refl refl refl refl
