use Rattle.thr_text.proofs.TermLaws.{only_term}
use Rattle.thr_text.proofs.laws.expressions_are_read_in_one_way.Goals as goal

pub returns : goal.returns
returns c = only_term
