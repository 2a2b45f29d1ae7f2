use Rattle.thr_formed.proofs.Lines.{legal_formed}
use Rattle.thr_formed.proofs.laws.journals_of_legal_histories_are_formed.Goals as goal

pub returns : goal.returns
returns c = legal_formed
