use Rattle.std.proofs.Common.{◌≡◌, ◌+◌, ◌++◌, Some, None, refl, ap, sym, ◌∙◌, length, List, slice_set, take}
use Rattle.std.proofs.lemmas.Result.{on_ok_weaker}
use Rattle.thr_syntax.specs.declared.tree.Stmt.{Stmt, If, While, TryCatch, TryFinally}
use Rattle.thr_remainder.specs.Starts.{at}
use Rattle.thr_lines.specs.Layout.{stmt_rows, body_rows, clause_rows}
use Rattle.thr_lines.specs.Rows.{plain_row, middle_row}
use Rattle.thr_syntax.specs.declared.form.Form.TheVariants as form
use Rattle.thr_lines.proofs.Builds.{built_none, built_no_clause, built_more, built_clause, built_if, built_while, built_if_else, built_finally, built_try}
use Rattle.thr_lines.proofs.build.+statements.Goals as goal

pub add_body-loop-stmt-init : goal.add_body-loop-stmt-init
add_body-loop-stmt-init t c = built_none c.args.rows.now

pub add_clauses-loop-clause-init : goal.add_clauses-loop-clause-init
add_clauses-loop-clause-init t c = built_no_clause c.args.rows.now

pub add_body-loop-stmt-preserved : goal.add_body-loop-stmt-preserved
add_body-loop-stmt-preserved t c =
    built_more c.args.rows.now c.loop-stmt.rows c.add_stmt.new.rows c.args.body.now c.loop-stmt.stmt-index c.stmt-item.result
    c.loop-stmt-test.true c.stmt-item.is c.loop-stmt.invariant c.in_ok-add_stmt.ensures

pub add_clauses-loop-clause-preserved : goal.add_clauses-loop-clause-preserved
add_clauses-loop-clause-preserved t c =
    let p = plain_row form.Else in
    let body_is = ap (λ (b : List Stmt). c.leave_place.new.rows ++ body_rows (length c.leave_place.new.rows + 1) b) c.as_slice.ensures in
    built_clause c.args.rows.now c.loop-clause.rows c.leave_place.new.rows c.add_body.new.rows c.fill.new.self p c.in_ok-place.place c.args.clauses.now c.loop-clause.clause-index c.clause-item.result
    c.loop-clause-test.true c.clause-item.is c.loop-clause.invariant (c.in_ok-place.ensures.place, c.in_ok-place.ensures.row, c.in_ok-add_body.ensures ∙ body_is)
    (c.fill.ensures ∙ (λ i. slice_set c.add_body.new.rows c.in_ok-place.place (middle_row (c.form_of_clause.ensures i) (c.len.ensures.count i + 1) None)))

pub add_stmt-returns-in_ok-copy-in-None : goal.add_stmt-returns-in_ok-copy-in-None
add_stmt-returns-in_ok-copy-in-None t c =
    let old = c.args.rows.now in
    let e = c.in_ok-copy-in-None.field-0 in
    let body = c.as_slice.result.now in
    let same : If e body None ≡ c.args.stmt.now = ap (λ x. If x body None) c.in_ok-copy-in-None.ensures ∙ ap (λ b. If c.in-If.e b None) c.as_slice.ensures ∙ sym (c.in-If.is ∙ ap (λ o. If c.in-If.e c.in-If.body o) c.in-None.is) in
    on_ok_weaker c.close_block.result (λ k.
    built_if old c.leave_place.new.rows c.add_body.new.rows (plain_row form.Else) c.in_ok-place-in-If.place body e
    (length c.add_body.new.rows + 1) c.close_block.new.rows (c.in_ok-place-in-If.ensures.place, c.in_ok-place-in-If.ensures.row, c.in_ok-add_body-in-If.ensures) refl k
    ∙ ap (λ s. old ++ stmt_rows (length old + 1) s) same) c.close_block.ensures

pub add_stmt-returns-in_ok-copy-in-Some : goal.add_stmt-returns-in_ok-copy-in-Some
add_stmt-returns-in_ok-copy-in-Some t c =
    let p = plain_row form.Else in
    let old = c.args.rows.now in
    let e = c.in_ok-copy-in-Some.field-0 in
    let body = c.as_slice.result.now in
    let other = c.as_slice-in-Some.result.now in
    let same : If e body (Some other) ≡ c.args.stmt.now = ap (λ x. If x body (Some other)) c.in_ok-copy-in-Some.ensures ∙ (λ i. If c.in-If.e (c.as_slice.ensures i) (Some (c.as_slice-in-Some.ensures i))) ∙ sym (c.in-If.is ∙ ap (λ o. If c.in-If.e c.in-If.body o) c.in-Some.is) in
    on_ok_weaker c.close_halves.result (λ k.
    built_if_else old c.leave_place.new.rows c.add_body.new.rows p c.in_ok-place-in-If.place body c.leave_place-in-Some.new.rows c.add_body-in-Some.new.rows p c.in_ok-half-in-Some.half other e c.close_halves.new.rows
    (c.in_ok-place-in-If.ensures.place, c.in_ok-place-in-If.ensures.row, c.in_ok-add_body-in-If.ensures)
    (c.in_ok-half-in-Some.ensures.place, c.in_ok-half-in-Some.ensures.row, c.in_ok-add_body-in-Some.ensures) k
    ∙ ap (λ s. old ++ stmt_rows (length old + 1) s) same) c.close_halves.ensures

pub add_stmt-returns-in_ok-copy-in-While : goal.add_stmt-returns-in_ok-copy-in-While
add_stmt-returns-in_ok-copy-in-While t c =
    let old = c.args.rows.now in
    let e = c.in_ok-copy-in-While.field-0 in
    let body = c.as_slice-in-While.result.now in
    let same : While e body ≡ c.args.stmt.now = ap (λ x. While x body) c.in_ok-copy-in-While.ensures ∙ ap (λ b. While c.in-While.e b) c.as_slice-in-While.ensures ∙ sym c.in-While.is in
    on_ok_weaker c.close_block-in-While.result (λ k.
    built_while old c.leave_place-in-While.new.rows c.add_body-in-While.new.rows (plain_row form.Else) c.in_ok-place-in-While.place body e
    (length c.add_body-in-While.new.rows + 1) c.close_block-in-While.new.rows (c.in_ok-place-in-While.ensures.place, c.in_ok-place-in-While.ensures.row, c.in_ok-add_body-in-While.ensures) refl k
    ∙ ap (λ s. old ++ stmt_rows (length old + 1) s) same) c.close_block-in-While.ensures

pub add_stmt-returns-in_ok-add_clauses-in-TryCatch : goal.add_stmt-returns-in_ok-add_clauses-in-TryCatch
add_stmt-returns-in_ok-add_clauses-in-TryCatch t c =
    let old = c.args.rows.now in
    let two = c.add_body-in-TryCatch.new.rows in
    let three = c.add_clauses.new.rows in
    let half = c.len-half.result in
    let body = c.as_slice-in-TryCatch.result.now in
    let clauses = c.as_slice-in-TryCatch-3.result.now in
    let after = Some (at (length three + 2)) in
    let same : TryCatch body clauses ≡ c.args.stmt.now = (λ i. TryCatch (c.as_slice-in-TryCatch.ensures i) (c.as_slice-in-TryCatch-3.ensures i)) ∙ sym c.in-TryCatch.is in
    let clauses_are = c.as_slice-in-TryCatch-2.ensures ∙ sym c.as_slice-in-TryCatch-3.ensures in
    on_ok_weaker c.close_try.result (λ k.
    built_try old c.leave_place-in-TryCatch.new.rows two (plain_row form.Else) c.in_ok-place-in-TryCatch.place body three (take half three ++ clause_rows (half + 1) clauses after) c.close_try.new.rows
    half (half + 1) (length three + 2) clauses
    (c.in_ok-place-in-TryCatch.ensures.place, c.in_ok-place-in-TryCatch.ensures.row, c.in_ok-add_body-in-TryCatch.ensures)
    c.len-half.ensures.count (c.in_ok-add_clauses-in-TryCatch.ensures ∙ ap (λ cs. two ++ clause_rows (length two + 1) cs None) clauses_are) refl refl refl k
    ∙ ap (λ s. old ++ stmt_rows (length old + 1) s) same) c.close_try.ensures

pub add_stmt-returns-in_ok-add_body-in-TryFinally-2 : goal.add_stmt-returns-in_ok-add_body-in-TryFinally-2
add_stmt-returns-in_ok-add_body-in-TryFinally-2 t c =
    let p = plain_row form.Else in
    let old = c.args.rows.now in
    let body = c.as_slice-in-TryFinally.result.now in
    let other = c.as_slice-in-TryFinally-2.result.now in
    let same : TryFinally body other ≡ c.args.stmt.now = (λ i. TryFinally (c.as_slice-in-TryFinally.ensures i) (c.as_slice-in-TryFinally-2.ensures i)) ∙ sym c.in-TryFinally.is in
    on_ok_weaker c.close_halves-in-TryFinally.result (λ k.
    built_finally old c.leave_place-in-TryFinally.new.rows c.add_body-in-TryFinally.new.rows p c.in_ok-place-in-TryFinally.place body c.leave_place-in-TryFinally-2.new.rows c.add_body-in-TryFinally-2.new.rows p
    c.in_ok-half-in-TryFinally.half other c.close_halves-in-TryFinally.new.rows
    (c.in_ok-place-in-TryFinally.ensures.place, c.in_ok-place-in-TryFinally.ensures.row, c.in_ok-add_body-in-TryFinally.ensures)
    (c.in_ok-half-in-TryFinally.ensures.place, c.in_ok-half-in-TryFinally.ensures.row, c.in_ok-add_body-in-TryFinally-2.ensures) k
    ∙ ap (λ s. old ++ stmt_rows (length old + 1) s) same) c.close_halves-in-TryFinally.ensures
