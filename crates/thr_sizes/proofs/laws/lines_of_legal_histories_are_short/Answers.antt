use Rattle.thr_sizes.proofs.Lengths.{legal_lines, legal_line}
use Rattle.thr_sizes.proofs.laws.lines_of_legal_histories_are_short.Goals as goal

pub returns-clause-with_any_number : goal.returns-clause-with_any_number
returns-clause-with_any_number c = legal_lines

pub returns-clause-with_their_numbers : goal.returns-clause-with_their_numbers
returns-clause-with_their_numbers c = legal_line
