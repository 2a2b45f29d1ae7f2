use Rattle.thr_model.proofs.Fixed.{same-history}
use Rattle.thr_model.proofs.laws.lines_fix_the_events.Goals as goal

pub returns : goal.returns
returns c = same-history
