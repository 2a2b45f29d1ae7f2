use Rattle.thr_text.specs.Reading.{own_lines}
use Rattle.thr_text.specs.Tables.{entries_of}
use Rattle.thr_journals.specs.Lines.{Stopped}
use Rattle.thr_journal_laws.proofs.BelowLaws.{below_taken, stop_below_again}
use Rattle.thr_journal_laws.proofs.laws.lines.stop_lines_are_read_as_printed.Goals as goal

pub returns : goal.returns
returns c = record { taken = λ s h text stop is. below_taken s h text (Stopped stop) is; again = λ s stop is. stop_below_again (entries_of (own_lines s)) stop is }
