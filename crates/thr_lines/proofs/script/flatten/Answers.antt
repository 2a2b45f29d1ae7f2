use Rattle.std.proofs.Common.{◌≡◌, ◌∙◌, ◌+◌, ◌∷◌, [], ◌++◌, length, sym}
use Rattle.std.specs.Option.{option_or}
use Rattle.thr_syntax.specs.declared.form.Form.TheVariants as form
use Rattle.thr_remainder.specs.Declarations.{routine_of}
use Rattle.thr_lines.specs.Layout.{items_rows}
use Rattle.thr_lines.specs.Rows.{plain_row}
use Rattle.thr_lines.specs.Tables.{start_in}
use Rattle.thr_lines.proofs.ItemLaws.{script_is}
use Rattle.thr_lines.proofs.script.flatten.Goals as goal

pub returns-clause-rows : goal.returns-clause-rows
returns-clause-rows c =
    let first : c.push.new.self ≡ plain_row form.Header ∷ [] = c.in_ok-push.ensures ∙ (λ i. c.new-rows.ensures i ++ c.plain_row.ensures i ∷ []) in
    c.in_ok-add_items.ensures.rows
    ∙ (λ i. first i ++ items_rows (length (first i) + 1) (c.as_slice.ensures i))
    ∙ sym (script_is c.args.script.now)

pub returns-clause-routines : goal.returns-clause-routines
unfolding routine_of
returns-clause-routines c k =
    let first : c.push.new.self ≡ plain_row form.Header ∷ [] = c.in_ok-push.ensures ∙ (λ i. c.new-rows.ensures i ++ c.plain_row.ensures i ∷ []) in
    c.in_ok-add_items.ensures.routines k
    ∙ (λ i. option_or (c.new-names.ensures.routines k i) (start_in (length (first i) + 1) (c.as_slice.ensures i) k))
