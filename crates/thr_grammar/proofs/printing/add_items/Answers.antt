use Rattle.std.proofs.Common.{◌∙◌, ◌++◌, List, ℕ, ap}
use Rattle.thr_syntax.specs.declared.tree.Item.{Item}
use Rattle.thr_syntax.specs.Lines.{item_lines}
use Rattle.thr_syntax.specs.Canon.{scope_in}
use Rattle.thr_grammar.specs.Printing.{lines_text}
use Rattle.thr_grammar.proofs.TreeTexts.{more_text}
use Rattle.thr_grammar.proofs.printing.add_items.Goals as goal

pub loop-item-preserved : goal.loop-item-preserved
loop-item-preserved c =
    more_text (λ (i : Item). lines_text (scope_in c.args.names.now i) (item_lines i)) c.args.out.now.items c.loop-item.out.items c.add_item.new.out.items c.args.items.now c.loop-item.item-index c.item-item.result c.loop-item-test.true c.item-item.is c.loop-item.invariant
    (c.in_ok-add_item.ensures ∙ ap (λ (ls : List (List ℕ)). c.loop-item.out.items ++ lines_text (record { names = c.args.names.now; locals = ls }) (item_lines c.item-item.result)) c.locals_of-locals.ensures)
