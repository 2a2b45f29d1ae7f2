use Rattle.thr_lexer.proofs.OfLine.{words_of_line}
use Rattle.thr_lexer.proofs.Shorter.{text_no_longer}
use Rattle.thr_lexer.proofs.Faultless.{text_faultless}
use Rattle.thr_lexer.proofs.laws.canonical_lines_keep_the_rules.Goals as goal

pub returns-clause-no_longer : goal.returns-clause-no_longer
returns-clause-no_longer c = text_no_longer

pub returns-clause-faultless : goal.returns-clause-faultless
returns-clause-faultless c = text_faultless

pub returns-clause-of_line : goal.returns-clause-of_line
returns-clause-of_line c = words_of_line
