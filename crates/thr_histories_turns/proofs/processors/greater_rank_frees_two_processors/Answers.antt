use Rattle.std.proofs.Common.{refl}
use Rattle.thr_histories_turns.specs.Words.{history_words}
use Rattle.thr_histories_turns.specs.MachineScripts as scripts
use Rattle.thr_histories.proofs.Run.{runs-by}
use Rattle.thr_histories_turns.specs.MachineScripts.{greater_rank_frees_two_processors_events}
use Rattle.thr_histories_turns.proofs.processors.greater_rank_frees_two_processors.Goals as goal

pub returns : goal.returns
unfolding history_words
returns c = runs-by scripts.greater_rank_takes_one_processor _ greater_rank_frees_two_processors_events _ _ refl refl refl refl
