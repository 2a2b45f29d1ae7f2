use Rattle.std.proofs.Common.{◌≡◌, ◌++◌, drop}
use Rattle.thr_journal_lines.specs.Known.{entries_in}
use Rattle.thr_journal_reading.specs.Names.{paired}
use Rattle.thr_journal_reading.proofs.known.paired.Given as goal

abbrev pub invariant-names : goal.invariant-names
invariant-names l = record {
  place : l.place ≡ l.name-index;
  told : entries_in l.known.items ++ paired (drop l.name-index l.names) (drop l.name-index l.kinds) ≡ paired l.names l.kinds;
}
