use Rattle.std.proofs.Common.{◌≡◌, ◌++◌, drop}
use Rattle.thr_resolving.specs.Resolving.{values_in}
use Rattle.thr_resolving.specs.Seen.{scope_seen}
use Rattle.thr_resolving.proofs.values.fill.Given as goal

abbrev pub invariant-loop-slot : goal.invariant-loop-slot
invariant-loop-slot l = l.values.items ++ values_in (scope_seen l.names) (drop l.slot-index l.slots) l.pieces ≡ values_in (scope_seen l.names) l.slots l.initial.pieces
