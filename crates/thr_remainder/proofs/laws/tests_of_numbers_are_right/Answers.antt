use Rattle.thr_remainder.proofs.ValueLaws.{fits-FitsSigned}
use Rattle.thr_remainder.proofs.laws.tests_of_numbers_are_right.Goals as goal

pub returns : goal.returns
returns c = fits-FitsSigned
