use Rattle.thr_resolving.proofs.LineWords.{faultless_tells}
use Rattle.thr_resolving.proofs.laws.resolved_lines_have_their_words.Goals as goal

pub returns-clause-words : goal.returns-clause-words
returns-clause-words c = λ entries locals line k. (faultless_tells entries locals line k).words

pub returns-clause-numbers : goal.returns-clause-numbers
returns-clause-numbers c = λ entries locals line k. (faultless_tells entries locals line k).numbers

pub returns-clause-shape : goal.returns-clause-shape
returns-clause-shape c = λ entries locals line k. (faultless_tells entries locals line k).shape

pub returns-clause-own : goal.returns-clause-own
returns-clause-own c = λ entries locals line k. (faultless_tells entries locals line k).own
