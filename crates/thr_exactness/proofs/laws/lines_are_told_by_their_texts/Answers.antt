use Rattle.thr_exactness.proofs.SameLines.{told_line, formed_lines_told}
use Rattle.thr_exactness.proofs.laws.lines_are_told_by_their_texts.Goals as goal

pub returns : goal.returns
returns c = record { formed = formed_lines_told; made = told_line }
