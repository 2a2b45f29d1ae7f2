use Rattle.std.proofs.Common.{◌≡◌, drop}
use Rattle.thr_text.specs.Tables.{declarations}
use Rattle.thr_text.specs.NameFaults.{words_in}
use Rattle.thr_naming.specs.Judging.{noted, table_of}
use Rattle.thr_naming.proofs.table.table_of.Given as goal

abbrev pub invariant-loop-line : goal.invariant-loop-line
invariant-loop-line l = noted l.table (declarations (words_in (drop l.line-index l.lines))) ≡ table_of (words_in l.lines)
