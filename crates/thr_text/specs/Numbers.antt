-- The numbers that are written in the lines of a script (docs/script.md, "Lines" and "Expressions").
use Rattle.std.specs.Prelude.{ℤ, pos, List, [], ◌∷◌, ◌++◌, FitsSigned}
use Rattle.std.specs.Int.{w64}
use Rattle.thr_syntax.specs.declared.expr.Expr.{Expr}
use Rattle.thr_syntax.specs.declared.expr.Expr.TheOpen.{Expr-F}
use Rattle.thr_syntax.specs.declared.expr.Expr.TheOpen as one_expr
use Rattle.thr_syntax.specs.declared.dce.DceCall.{DceCall}
use Rattle.thr_syntax.specs.declared.dce.DceCall.TheVariants as dce
use Rattle.thr_syntax.specs.declared.form.Form.{Form}
use Rattle.thr_syntax.specs.declared.form.Form.TheVariants as form
use Rattle.thr_syntax.specs.Folds.{each_expr}

-- The numbers of an expression, those of each operand in its place.
abbrev pub numbers_step : Expr-F (List ℤ) → List ℤ
numbers_step (one_expr.Num n) = n ∷ []
numbers_step (one_expr.Two op a b) = a ++ b
numbers_step (one_expr.Not a) = a
numbers_step _ = []

abbrev pub expr_numbers : Expr → List ℤ
expr_numbers = each_expr numbers_step

abbrev pub call_numbers : DceCall → List ℤ
call_numbers (dce.AttrSetprio n e) = expr_numbers e
call_numbers (dce.AttrSetstacksize n e) = expr_numbers e
call_numbers (dce.Create v attr n e) = expr_numbers e
call_numbers (dce.Join e v) = expr_numbers e
call_numbers (dce.Detach e) = expr_numbers e
call_numbers (dce.Cancel e) = expr_numbers e
call_numbers (dce.Setprio e1 e2 v) = expr_numbers e1 ++ expr_numbers e2
call_numbers (dce.Getprio e v) = expr_numbers e
call_numbers (dce.Setscheduler e1 policy e2 v) = expr_numbers e1 ++ expr_numbers e2
call_numbers (dce.Getscheduler e v) = expr_numbers e
call_numbers (dce.DelayNp e) = expr_numbers e
call_numbers (dce.GetExpirationNp e v) = expr_numbers e
call_numbers (dce.CondTimedwait n1 n2 e) = expr_numbers e
call_numbers (dce.Setspecific n e) = expr_numbers e
call_numbers (dce.Write n e) = expr_numbers e
call_numbers _ = []

abbrev pub form_numbers : Form → List ℤ
form_numbers (form.Limit n) = pos n ∷ []
form_numbers (form.Shared name n) = n ∷ []
form_numbers (form.Status name n) = n ∷ []
form_numbers (form.Pipe name n) = pos n ∷ []
form_numbers (form.Set v e) = expr_numbers e
form_numbers (form.Say e) = expr_numbers e
form_numbers (form.If e) = expr_numbers e
form_numbers (form.While e) = expr_numbers e
form_numbers (form.Call r e v) = expr_numbers e
form_numbers (form.Return e) = expr_numbers e
form_numbers (form.Exit e) = expr_numbers e
form_numbers (form.Dce call) = call_numbers call
form_numbers _ = []

-- Numbers of 64 bits with a sign.
abbrev pub AreSigned : List ℤ → Type 0
AreSigned [] = Unit {0}
AreSigned (n ∷ ns) = FitsSigned w64 n × AreSigned ns

abbrev pub HaveNumbers : List Form → Type 0
HaveNumbers [] = Unit {0}
HaveNumbers (f ∷ fs) = AreSigned (form_numbers f) × HaveNumbers fs
