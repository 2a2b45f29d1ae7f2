use Rattle.thr_widths.proofs.JournalWidths.{any_line, own_line}
use Rattle.thr_widths.proofs.laws.lines_are_short.Goals as goal

pub returns-clause-formed : goal.returns-clause-formed
returns-clause-formed c = any_line

pub returns-clause-replies : goal.returns-clause-replies
returns-clause-replies c = own_line
