use Rattle.thr_lexer.proofs.Canon.{line_again}
use Rattle.thr_lexer.proofs.laws.words_are_read_again.Goals as goal

pub returns : goal.returns
returns c = line_again
