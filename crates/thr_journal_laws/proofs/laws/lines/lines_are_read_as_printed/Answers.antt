use Rattle.thr_journals.specs.Lines.{Told}
use Rattle.thr_journal_laws.proofs.BelowLaws.{below_taken, below_again}
use Rattle.thr_journal_laws.proofs.laws.lines.lines_are_read_as_printed.Goals as goal

pub returns : goal.returns
returns c = record { taken = λ s h text number e is. below_taken s h text (Told number e) is; again = below_again }
