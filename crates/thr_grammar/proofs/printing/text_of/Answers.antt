use Rattle.std.proofs.Common.{◌∙◌, ◌++◌, List, ℕ, ap}
use Rattle.thr_syntax.specs.declared.tree.Item.{Item}
use Rattle.thr_grammar.specs.Printing.{items_text}
use Rattle.thr_grammar.proofs.TreeTexts.{canon-text}
use Rattle.thr_grammar.proofs.printing.text_of.Goals as goal

pub returns : goal.returns
returns c =
    canon-text c.args.s.now c.in_ok-out.out.items c.extend_from_slice.new.self.items c.add_items.new.out.items c.in_ok-out.ensures.items c.in_ok-extend_from_slice.ensures.items
    (c.in_ok-add_items.ensures ∙ ap (λ (ns : List (List ℕ)). c.extend_from_slice.new.self.items ++ items_text ns c.as_slice-2.result.now) c.as_slice.ensures ∙ ap (λ (is : List Item). c.extend_from_slice.new.self.items ++ items_text c.args.s.now.names is) c.as_slice-2.ensures)
