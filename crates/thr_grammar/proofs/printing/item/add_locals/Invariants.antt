use Rattle.std.proofs.Common.{◌≡◌, ◌++◌, take}
use Rattle.thr_grammar.specs.Printing.{locals_text}
use Rattle.thr_grammar.proofs.printing.item.add_locals.Given as goal

abbrev pub invariant-loop-local : goal.invariant-loop-local
invariant-loop-local l = l.out.items ≡ l.fn.out.items ++ locals_text (take l.local-index l.locals)
