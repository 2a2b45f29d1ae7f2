use Rattle.std.proofs.Common.{◌≡◌, ◌+◌, ◌∙◌, ℤ, ap, sym, subst, arith, w64}
use Rattle.std.proofs.lemmas.Int.{to_z-of_z, ints}
use mir.Val.{SFits, to_z, of_z}
use Rattle.thr_syntax.specs.declared.form.Form.TheVariants as form
use Rattle.thr_syntax.specs.declared.expr.Var.{Var}
use Rattle.thr_remainder.specs.Expressions.{is_true}
use Rattle.thr_lines.specs.Layout.{line_at, last_line}
use Rattle.thr_lines.specs.AtLines.{FormAt}
use Rattle.thr_stack.specs.FrameLists.{FramesView, set_in}
use Rattle.thr_stack.specs.Statements.{IsEntered, HasReturned}
use Rattle.thr_stack.proofs.GoOns.{goes_local, goes_shared, goes_say, goes_then, goes_else, goes_again, goes_past, goes_call, goes_return}
use Rattle.thr_stack.proofs.valued.go_on.Goals as goal

pub returns-in-Local : goal.returns-in-Local
returns-in-Local c =
    let s = c.args.lines.now in
    let k = c.args.context.now in
    let row = c.args.row.now in
    let n = c.args.n in
    let at = subst (FormAt (line_at s) (last_line s) k.line row) (c.in-Set.is ∙ ap (λ (x : Var). form.Set x c.in-Set.field-1) c.in-Local.is) c.requires.at in
    let fits : SFits w64 n = search (arith, ints) in
    let back : to_z w64 (of_z w64 n) ≡ n = to_z-of_z w64 n fits in
    goes_local s k c.requires.stands n c.in-Local.p _ _ c.set_local.new.self at (c.set_local.ensures ∙ ap (λ (m : ℤ). let f : FramesView = record k.frames { calls = set_in k.frames.calls c.in-Local.p m } in f) back)

pub returns-in-Shared : goal.returns-in-Shared
returns-in-Shared c =
    let s = c.args.lines.now in
    let k = c.args.context.now in
    let row = c.args.row.now in
    let n = c.args.n in
    let at = subst (FormAt (line_at s) (last_line s) k.line row) (c.in-Set.is ∙ ap (λ (x : Var). form.Set x c.in-Set.field-1) c.in-Shared.is) c.requires.at in
    goes_shared s k c.requires.stands n c.in-Shared.field-0 _ _ at

pub returns-in-Say : goal.returns-in-Say
returns-in-Say c =
    let s = c.args.lines.now in
    let k = c.args.context.now in
    let row = c.args.row.now in
    let n = c.args.n in
    let at = subst (FormAt (line_at s) (last_line s) k.line row) c.in-Say.is c.requires.at in
    goes_say s k c.requires.stands n _ _ at

pub returns-then-is_true : goal.returns-then-is_true
returns-then-is_true c =
    let s = c.args.lines.now in
    let k = c.args.context.now in
    let row = c.args.row.now in
    let n = c.args.n in
    let at = subst (FormAt (line_at s) (last_line s) k.line row) c.in-If.is c.requires.at in
    let fits : SFits w64 n = search (arith, ints) in
    let back : to_z w64 (of_z w64 n) ≡ n = to_z-of_z w64 n fits in
    goes_then s k c.requires.stands n _ row at (ap is_true (sym back) ∙ sym c.is_true.ensures ∙ c.if-is_true.true)

pub returns-in-Some : goal.returns-in-Some
returns-in-Some c =
    let s = c.args.lines.now in
    let k = c.args.context.now in
    let row = c.args.row.now in
    let n = c.args.n in
    let at = subst (FormAt (line_at s) (last_line s) k.line row) c.in-If.is c.requires.at in
    let fits : SFits w64 n = search (arith, ints) in
    let back : to_z w64 (of_z w64 n) ≡ n = to_z-of_z w64 n fits in
    goes_else s k c.requires.stands n _ row at c.in-Some.half.0 (ap is_true (sym back) ∙ sym c.is_true.ensures ∙ c.if-is_true.false) c.in-Some.is

pub returns-then-is_true-2 : goal.returns-then-is_true-2
returns-then-is_true-2 c =
    let s = c.args.lines.now in
    let k = c.args.context.now in
    let row = c.args.row.now in
    let n = c.args.n in
    let at = subst (FormAt (line_at s) (last_line s) k.line row) c.in-While.is c.requires.at in
    let fits : SFits w64 n = search (arith, ints) in
    let back : to_z w64 (of_z w64 n) ≡ n = to_z-of_z w64 n fits in
    goes_again s k c.requires.stands n _ row at (ap is_true (sym back) ∙ sym c.is_true-in-While.ensures ∙ c.if-is_true-2.true)

pub returns-in-Some-after : goal.returns-in-Some-after
returns-in-Some-after c =
    let s = c.args.lines.now in
    let k = c.args.context.now in
    let row = c.args.row.now in
    let n = c.args.n in
    let at = subst (FormAt (line_at s) (last_line s) k.line row) c.in-While.is c.requires.at in
    let fits : SFits w64 n = search (arith, ints) in
    let back : to_z w64 (of_z w64 n) ≡ n = to_z-of_z w64 n fits in
    goes_past s k c.requires.stands n _ row at c.in-Some-after.after.0 (ap is_true (sym back) ∙ sym c.is_true-in-While.ensures ∙ c.if-is_true-2.false) c.in-Some-after.is

pub returns-in-Call : goal.returns-in-Call
returns-in-Call c =
    let s = c.args.lines.now in
    let k = c.args.context.now in
    let row = c.args.row.now in
    let n = c.args.n in
    let at = subst (FormAt (line_at s) (last_line s) k.line row) c.in-Call.is c.requires.at in
    let fits : SFits w64 n = search (arith, ints) in
    let back : to_z w64 (of_z w64 n) ≡ n = to_z-of_z w64 n fits in
    goes_call s k c.requires.stands n c.in-Call.name _ c.in-Call.place _ c.enter_routine.new.context at
    (subst (λ (m : ℤ). IsEntered s c.in-Call.name c.in-Call.place (k.line + 1) m k c.enter_routine.new.context) back c.enter_routine.ensures)

pub returns-in-Return : goal.returns-in-Return
returns-in-Return c =
    let s = c.args.lines.now in
    let k = c.args.context.now in
    let row = c.args.row.now in
    let n = c.args.n in
    let at = subst (FormAt (line_at s) (last_line s) k.line row) c.in-Return.is c.requires.at in
    let fits : SFits w64 n = search (arith, ints) in
    let back : to_z w64 (of_z w64 n) ≡ n = to_z-of_z w64 n fits in
    goes_return s k c.requires.stands n _ _ c.return_value.new.context at (subst (λ (m : ℤ). HasReturned m k c.return_value.new.context) back c.return_value.ensures)
