use Rattle.std.proofs.Common.{rules, ◌≡◌, ◌∷◌, Bool, ◌∙◌, ap, sym}
use Rattle.std.specs.Prelude.{◌&&◌}
use Rattle.std.specs.List.{list_all}
use Rattle.thr_syntax.specs.declared.form.Form.TheVariants as form
use Rattle.thr_limits.specs.Widths.{spelled, is_short_form}
use Rattle.thr_limits.proofs.ShortLaws.{short_head}
use Rattle.thr_limits.proofs.limits.is_head_short.Goals as goal

pub returns-then-is_routine_line_short : goal.returns-then-is_routine_line_short
returns-then-is_routine_line_short c =
    let scope = spelled c.args.scope.now in
    let split : c.args.scope.now.locals.now ≡ c.in-Some.parameter.now ∷ c.in-Some.locals.now = search rules in
    c.are_locals_short.ensures
    ∙ sym (short_head scope c.args.name c.args.scope.now.locals.now c.in-Some.parameter.now c.in-Some.locals.now split
    ∙ ap (λ (b : Bool). b && list_all (λ n. is_short_form scope (form.Local n)) c.in-Some.locals.now) (sym c.is_routine_line_short.ensures ∙ c.if-is_routine_line_short.true))
