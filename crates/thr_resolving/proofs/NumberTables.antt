-- The numbers of a line are those of its values.
use Rattle.std.proofs.Common.{◌≡◌, ℤ, List, [], ◌∷◌, ◌++◌, refl}
use Rattle.std.proofs.lemmas.List.{append-nil}
use Rattle.thr_syntax.specs.declared.dce.DceCall.{DceCall}
use Rattle.thr_syntax.specs.declared.dce.DceCall.TheVariants as dce
use Rattle.thr_syntax.specs.declared.form.Form.{Form}
use Rattle.thr_syntax.specs.declared.form.Form.TheVariants as form
use Rattle.thr_text.specs.Numbers.{expr_numbers, call_numbers, form_numbers, AreSigned}
use Rattle.thr_resolving.specs.declared.value.Value.{Value}
use Rattle.thr_resolving.specs.declared.value.Value.TheVariants as value
use Rattle.thr_resolving.proofs.Parts.{call_values, form_values}

abbrev pub value_numbers : Value → List ℤ
value_numbers (value.Number n) = n ∷ []
value_numbers (value.Expression e) = expr_numbers e
value_numbers _ = []

abbrev pub numbers_of : List Value → List ℤ
numbers_of [] = []
numbers_of (v ∷ vs) = value_numbers v ++ numbers_of vs

pub signed_append : (ms ns : List ℤ) → AreSigned ms → AreSigned ns → AreSigned (ms ++ ns)
signed_append [] ns h k = k
signed_append (m ∷ ms) ns h k = (h.0, signed_append ms ns h.1 k)

call_numbers_same : (c : DceCall) → call_numbers c ≡ numbers_of (call_values c)
unfolding call_values
call_numbers_same (dce.AttrSetprio n e) = rw (append-nil (expr_numbers e)) refl
call_numbers_same (dce.AttrSetstacksize n e) = rw (append-nil (expr_numbers e)) refl
call_numbers_same (dce.Create v attr n e) = rw (append-nil (expr_numbers e)) refl
call_numbers_same (dce.Join e v) = rw (append-nil (expr_numbers e)) refl
call_numbers_same (dce.Detach e) = rw (append-nil (expr_numbers e)) refl
call_numbers_same (dce.Cancel e) = rw (append-nil (expr_numbers e)) refl
call_numbers_same (dce.Setprio e1 e2 v) = rw (append-nil (expr_numbers e2)) refl
call_numbers_same (dce.Getprio e v) = rw (append-nil (expr_numbers e)) refl
call_numbers_same (dce.Setscheduler e1 policy e2 v) = rw (append-nil (expr_numbers e2)) refl
call_numbers_same (dce.Getscheduler e v) = rw (append-nil (expr_numbers e)) refl
call_numbers_same (dce.DelayNp e) = rw (append-nil (expr_numbers e)) refl
call_numbers_same (dce.GetExpirationNp e v) = rw (append-nil (expr_numbers e)) refl
call_numbers_same (dce.CondTimedwait n1 n2 e) = rw (append-nil (expr_numbers e)) refl
call_numbers_same (dce.Setspecific n e) = rw (append-nil (expr_numbers e)) refl
call_numbers_same (dce.Write n e) = rw (append-nil (expr_numbers e)) refl
call_numbers_same _ = refl

pub numbers_same : (f : Form) → form_numbers f ≡ numbers_of (form_values f)
unfolding form_values
numbers_same (form.Set v e) = rw (append-nil (expr_numbers e)) refl
numbers_same (form.Say e) = rw (append-nil (expr_numbers e)) refl
numbers_same (form.If e) = rw (append-nil (expr_numbers e)) refl
numbers_same (form.While e) = rw (append-nil (expr_numbers e)) refl
numbers_same (form.Call r e v) = rw (append-nil (expr_numbers e)) refl
numbers_same (form.Return e) = rw (append-nil (expr_numbers e)) refl
numbers_same (form.Exit e) = rw (append-nil (expr_numbers e)) refl
numbers_same (form.Dce c) = call_numbers_same c
numbers_same _ = refl
