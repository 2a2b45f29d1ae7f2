use Rattle.std.proofs.Common.{◌≡◌, ◌+◌, ◌++◌, drop}
use Rattle.thr_text.specs.Journals.{numbered}
use Rattle.thr_journal.proofs.printing.add_entries.Given as goal

abbrev pub invariant-loop-entry : goal.invariant-loop-entry
invariant-loop-entry l = record {
  number : l.number ≡ l.entry-index + 1;
  told : l.out.items ++ numbered l.names l.number (drop l.entry-index l.entries) ≡ l.fn.out.items ++ numbered l.names 1 l.entries;
}
