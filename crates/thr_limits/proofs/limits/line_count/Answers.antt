use Rattle.std.proofs.Common.{◌≡◌, ◌∙◌, List, ap, map, length}
use Rattle.thr_syntax.specs.declared.tree.Item.{Item}
use Rattle.thr_syntax.specs.Lines.{joined, item_lines}
use Rattle.thr_syntax.specs.Canon.{script_words}
use Rattle.thr_limits.specs.Capped.{capped}
use Rattle.thr_limits.proofs.CountLaws.{all_lines}
use Rattle.thr_limits.proofs.FormedLimits.{counted_whole}
use Rattle.thr_limits.proofs.limits.line_count.Goals as goal

pub returns : goal.returns
returns c =
    let counted : c.add.result ≡ capped (length (script_words c.args.s.now)) =
    c.add.ensures ∙ all_lines c.args.s.now c.items_count.result (c.items_count.ensures ∙ ap (λ (is : List Item). capped (length (joined (map item_lines is)))) c.as_slice.ensures) in
    record { counted = counted; exact = λ formed. counted ∙ counted_whole c.args.s.now formed }
