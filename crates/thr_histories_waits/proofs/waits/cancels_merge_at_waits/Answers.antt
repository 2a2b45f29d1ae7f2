use Rattle.std.proofs.Common.{refl}
use Rattle.thr_values.specs.declared.event.Stop.TheVariants as stops
use Rattle.thr_histories_waits.specs.Words.{history_words}
use Rattle.thr_histories_waits.specs.WaitScripts as scripts
use Rattle.thr_histories.proofs.Run.{runs-alone}
use Rattle.thr_histories_waits.proofs.waits.cancels_merge_at_waits.Goals as goal

pub returns : goal.returns
unfolding history_words
returns c = runs-alone scripts.cancels_merge_at_waits _ (stops.Deadlock 3 (record { 0 = 2 })) refl refl refl refl
