use Rattle.thr_remainder.proofs.ValueLaws.{is_same-IsSame}
use Rattle.thr_remainder.proofs.laws.tests_of_exceptions_are_right.Goals as goal

pub returns : goal.returns
returns c = is_same-IsSame
