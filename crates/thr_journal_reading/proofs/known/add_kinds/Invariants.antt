use Rattle.std.proofs.Common.{◌≡◌, ◌++◌, drop}
use Rattle.thr_journal_reading.specs.Names.{kinds_among}
use Rattle.thr_journal_reading.proofs.known.add_kinds.Given as goal

abbrev pub invariant-loop-item : goal.invariant-loop-item
invariant-loop-item l = l.kinds.items ++ kinds_among (drop l.item-index l.items) ≡ l.fn.kinds.items ++ kinds_among l.items
