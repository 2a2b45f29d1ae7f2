use Rattle.thr_alone.proofs.OneHistory.{one-history}
use Rattle.thr_alone.proofs.laws.one_processor_has_one_history.Goals as goal

pub returns : goal.returns
returns c = λ s entries stop legal cause. one-history s (c.one_processor_has_one_event.ensures s) entries stop legal cause
