use Rattle.thr_answers.proofs.HistoriesStand.{left-stands}
use Rattle.thr_answers.proofs.laws.what_is_left_stands_at_its_lines.Goals as goal

pub returns : goal.returns
returns c = λ s n x h. left-stands h
