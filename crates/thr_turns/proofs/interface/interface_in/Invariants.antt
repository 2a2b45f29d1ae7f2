use Rattle.std.proofs.Common.{◌≡◌, drop}
use Rattle.thr_remainder.specs.Declarations.{interface_in}
use Rattle.thr_turns.proofs.interface.interface_in.Given as goal

abbrev pub invariant-loop-item : goal.invariant-loop-item
invariant-loop-item l = interface_in (drop l.item-index l.items) ≡ interface_in l.items
