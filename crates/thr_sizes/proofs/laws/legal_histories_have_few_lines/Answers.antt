use Rattle.thr_sizes.proofs.Lengths.{legal_few}
use Rattle.thr_sizes.proofs.laws.legal_histories_have_few_lines.Goals as goal

pub returns : goal.returns
returns c = legal_few
