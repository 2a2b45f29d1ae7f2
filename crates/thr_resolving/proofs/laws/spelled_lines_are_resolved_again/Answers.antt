use Rattle.thr_resolving.proofs.AgainLines.{line_resolved, line_shape, line_of_line, line_texts}
use Rattle.thr_resolving.proofs.laws.spelled_lines_are_resolved_again.Goals as goal

pub returns-clause-again : goal.returns-clause-again
returns-clause-again c = line_resolved

pub returns-clause-shape : goal.returns-clause-shape
returns-clause-shape c = line_shape

pub returns-clause-words : goal.returns-clause-words
returns-clause-words c = line_of_line

pub returns-clause-texts : goal.returns-clause-texts
returns-clause-texts c = line_texts
