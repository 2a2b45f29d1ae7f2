use Rattle.std.proofs.Common.{◌≡◌, ◌≤◌, ◌+◌, length}
use Rattle.std.specs.Option.{option_map}
use Rattle.thr_journals.specs.Faults.{parts_of, history_faults}
use Rattle.thr_journals.specs.Reading.{history_in}
use Rattle.thr_journal_lines.specs.Known.{entries_in}
use Rattle.thr_journal_reading.proofs.HistoryLaws.{after}
use Rattle.thr_journal_reading.proofs.history.read_history.Given as goal

abbrev pub invariant-lines : goal.invariant-lines
invariant-lines l = record {
  faults : history_faults (entries_in l.known) l.at l.number (parts_of l.rest) ≡ history_faults (entries_in l.known) l.first 1 (parts_of l.text);
  told : option_map (after l.entries) (history_in (entries_in l.known) (parts_of l.rest)) ≡ history_in (entries_in l.known) (parts_of l.text);
  room : l.at + length l.rest ≤ l.first + length l.text;
  count : l.number + l.first ≡ l.at + 1;
}

abbrev pub decreases-lines : goal.decreases-lines
decreases-lines l = length l.rest
