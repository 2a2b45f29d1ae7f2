use Rattle.thr_journal_laws.proofs.Shortest.{shortest_printed, number_taken, number_again}
use Rattle.thr_journal_laws.proofs.laws.numbers.numbers_are_read_as_printed.Goals as goal

pub returns : goal.returns
returns c = record { printed = shortest_printed; taken = number_taken; again = number_again }
