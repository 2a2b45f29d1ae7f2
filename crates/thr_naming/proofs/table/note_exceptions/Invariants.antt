use Rattle.std.proofs.Common.{◌≡◌, drop, map}
use Rattle.thr_text.specs.Tables.{builtin_entry}
use Rattle.thr_naming.specs.Judging.{noted}
use Rattle.thr_naming.proofs.table.note_exceptions.Given as goal

abbrev pub invariant-loop-text : goal.invariant-loop-text
invariant-loop-text l = noted l.table (map (λ t. builtin_entry t.now) (drop l.text-index l.names)) ≡ noted l.initial.table (map (λ t. builtin_entry t.now) l.names)
