use Rattle.thr_exactness.proofs.Exact.{legal_where_none, exact}
use Rattle.thr_exactness.proofs.laws.a_line_differs_exactly_where_the_history_is_not_legal.Goals as goal

pub returns : goal.returns
returns c = record { place = legal_where_none; journal = exact }
