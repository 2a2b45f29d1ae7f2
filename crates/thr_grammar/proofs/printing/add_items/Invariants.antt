use Rattle.std.proofs.Common.{◌≡◌, ◌++◌, take}
use Rattle.thr_grammar.specs.Printing.{items_text}
use Rattle.thr_grammar.proofs.printing.add_items.Given as goal

abbrev pub invariant-loop-item : goal.invariant-loop-item
invariant-loop-item l = l.out.items ≡ l.fn.out.items ++ items_text l.names (take l.item-index l.items)
