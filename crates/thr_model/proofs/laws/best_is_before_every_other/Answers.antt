use Rattle.thr_model.proofs.RowsKept.{history_canonical}
use Rattle.thr_model.proofs.Arrivals.{arrivals, best_is_first}
use Rattle.thr_model.proofs.laws.best_is_before_every_other.Goals as goal

pub returns : goal.returns
returns c = λ s n x h r t u e at other. best_is_first x.state.rows r t u (history_canonical h) (arrivals h) e at other
