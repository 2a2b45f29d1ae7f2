use Rattle.thr_journal_laws.proofs.Shortest.{value_taken, value_again}
use Rattle.thr_journal_laws.proofs.laws.numbers.values_are_read_as_printed.Goals as goal

pub returns : goal.returns
returns c = record { taken = value_taken; again = value_again }
