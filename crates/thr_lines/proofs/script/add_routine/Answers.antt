use Rattle.std.proofs.Common.{rules, ◌≡◌, ◌∙◌, ◌+◌, ◌∷◌, [], ◌++◌, length, sym, ap, Some, slice_set}
use Rattle.std.proofs.lemmas.Result.{on_ok_weaker}
use Rattle.thr_syntax.specs.declared.form.Form.TheVariants as form
use Rattle.thr_remainder.specs.Starts.{at}
use Rattle.thr_lines.specs.Layout.{body_rows}
use Rattle.thr_lines.specs.Rows.{line_if, local_rows, opening_row, closing_row}
use Rattle.thr_lines.proofs.ItemLaws.{IsMade, routine_bare, routine_full, two_more, none_left}
use Rattle.thr_lines.proofs.script.add_routine.Goals as goal

pub returns-in_default : goal.returns-in_default
returns-in_default c =
    let r = c.args.routine.now in
    let made : IsMade c.args.rows.now c.add_locals.new.rows c.add_body.new.rows c.push.new.self r c.args.more c.line_if-after.result = (
      c.in_ok-add_locals.ensures ∙ ap (λ ls. c.args.rows.now ++ local_rows ls) c.as_slice.ensures,
      c.in_ok-add_body.ensures ∙ ap (λ b. c.add_locals.new.rows ++ body_rows (length c.add_locals.new.rows + 1) b) c.as_slice-2.ensures,
      c.line_if-after.ensures ∙ ap (λ n. line_if c.args.more (n + 1 + 1)) c.len-end.ensures.count ∙ ap (line_if c.args.more) (two_more (length c.add_body.new.rows)),
    ) in
    let none : r.locals ≡ [] = sym c.as_slice-3.ensures ∙ none_left c.as_slice-3.result.now c.in_default.ensures.cases in
    on_ok_weaker c.push.result (λ k. routine_bare c.args.rows.now c.add_locals.new.rows c.add_body.new.rows c.push.new.self r c.args.more c.line_if-after.result made none k) c.push.ensures

pub returns : goal.returns
returns c =
    let r = c.args.routine.now in
    let made : IsMade c.args.rows.now c.add_locals.new.rows c.add_body.new.rows c.push-2.new.self r c.args.more c.line_if-after.result = (
      c.in_ok-add_locals.ensures ∙ ap (λ ls. c.args.rows.now ++ local_rows ls) c.as_slice.ensures,
      c.in_ok-add_body.ensures ∙ ap (λ b. c.add_locals.new.rows ++ body_rows (length c.add_locals.new.rows + 1) b) c.as_slice-2.ensures,
      c.line_if-after.ensures ∙ ap (λ n. line_if c.args.more (n + 1 + 1)) c.len-end.ensures.count ∙ ap (line_if c.args.more) (two_more (length c.add_body.new.rows)),
    ) in
    let some : r.locals ≡ c.in-Some.parameter.now ∷ c.in-Some.field-0-1.now = search rules in
    let name : c.in_ok-clone.field-0 ≡ c.in-Some.parameter.now = search rules in
    let count = c.len-end.ensures.count in
    let filled : c.fill.new.self ≡ slice_set c.add_body.new.rows c.len-place.result (opening_row (form.Routine r.name c.in-Some.parameter.now) (length c.add_body.new.rows + 1) (length c.add_body.new.rows + 1) c.line_if-after.result) =
    c.fill.ensures ∙ (λ i. slice_set c.add_body.new.rows c.len-place.result (opening_row (form.Routine r.name (name i)) (count i + 1) (count i + 1) c.line_if-after.result)) in
    on_ok_weaker c.push-2.result (λ k. routine_full c.args.rows.now c.add_locals.new.rows c.add_body.new.rows c.push-2.new.self r c.args.more c.line_if-after.result made c.in-Some.parameter.now c.in-Some.field-0-1.now c.len-place.result some c.len-place.ensures.count
    (k ∙ ap (λ rs. rs ++ closing_row form.End (Some (at (c.len-place.result + 1))) c.line_if-after.result ∷ []) filled)) c.push-2.ensures
