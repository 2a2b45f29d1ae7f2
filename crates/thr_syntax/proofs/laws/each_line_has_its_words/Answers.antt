use Rattle.thr_syntax.proofs.LineLaws.{each_line_once}
use Rattle.thr_syntax.proofs.laws.each_line_has_its_words.Goals as goal

pub returns : goal.returns
returns c = each_line_once
