use Rattle.std.proofs.Common.{refl}
use Rattle.thr_histories.specs.Words.{history_words}
use Rattle.thr_histories.specs.Events.{buffer_events}
use Rattle.thr_examples.specs.Scripts as scripts
use Rattle.thr_histories.proofs.Run.{says-by}
use Rattle.thr_histories.proofs.processors.bounded_buffer.Goals as goal

pub returns : goal.returns
unfolding history_words
returns c = says-by scripts.buffer _ buffer_events _ _ refl refl refl refl
