use Rattle.thr_model.proofs.OneEvent.{one-event}
use Rattle.thr_model.proofs.laws.one_processor_has_one_event.Goals as goal

pub returns : goal.returns
returns c = λ s x e e' a b h m o. one-event h e e' a b m o
