-- What expressions are valued to has 64 bits with a sign, where what they see and the numbers in them have.
use Rattle.std.proofs.Common.{◌≡◌, ℕ, zero, suc, ◌<◌, ℤ, pos, negsuc, int_div, int_rem, unsigned_abs, Bool, true, false, List, [], ◌∷◌, ◌++◌, Ok, Err, refl, sym, subst, arith}
use Rattle.std.proofs.lemmas.Bool.Decides.{nat_tests}
use Rattle.std.proofs.lemmas.Int.{rem_below}
use Rattle.std.specs.Prelude.{if◌then◌else◌, nat_lt, not, ◌&&◌, ◌||◌, int_lt, int_le, ◌+ℤ◌, ◌-ℤ◌, ◌*ℤ◌, slice_get, unwrap_or, FitsSigned}
use Rattle.std.specs.Int.{w64}
use Rattle.std.specs.Ordering.{int_eq}
use Rattle.thr_values.specs.Exceptions.{intovf_e, intdiv_e}
use Rattle.thr_values.specs.declared.number.NameId.{NameId}
use Rattle.thr_values.specs.declared.exception.Exc.{Exc}
use Rattle.thr_values.specs.declared.exception.Exc.TheVariants.{Address, Status}
use Rattle.thr_syntax.specs.declared.expr.Var.{Var}
use Rattle.thr_syntax.specs.declared.expr.Var.TheVariants.{Local, Shared}
use Rattle.thr_syntax.specs.declared.expr.ExcRef.{ExcRef}
use Rattle.thr_syntax.specs.declared.expr.ExcRef.TheVariants.{Named, This}
use Rattle.thr_syntax.specs.declared.expr.Op.{Op}
use Rattle.thr_syntax.specs.declared.expr.Op.TheVariants as op
use Rattle.thr_syntax.specs.declared.expr.Expr.{Expr, Two, Not}
use Rattle.thr_syntax.specs.Folds.{each_expr}
use Rattle.thr_syntax.proofs.FoldLaws.{each_expr-Num, each_expr-Var, each_expr-Me, each_expr-Err, each_expr-Two, each_expr-Not, each_expr-GetStatus, each_expr-Matches}
use Rattle.thr_syntax.proofs.TreeInduction.{ExprCases, expr_induction}
use Rattle.thr_text.specs.Numbers.{numbers_step, expr_numbers, AreSigned}
use Rattle.thr_remainder.specs.Declarations.{exception_value}
use Rattle.thr_remainder.specs.Expressions.{Value, is_true, truth, fits, if_fits, applied, two_values, opposite, is_same, status_of, Sight, exception_at, variable_value, value_step, value_in}
use Rattle.thr_remainder.proofs.ValueLaws.{fits-FitsSigned}

-- ---- numbers

-- The number has 64 bits with a sign.
abbrev pub Fits : ℤ → Type 0
Fits n = fits n ≡ true

-- So has each of these.
abbrev pub AllFit : List ℤ → Type 0
AllFit [] = Unit {0}
AllFit (n ∷ ns) = Fits n × AllFit ns

-- So has the number of a status exception.
abbrev pub ExcFits : Exc → Type 0
ExcFits (Address name) = Unit {0}
ExcFits (Status n) = Fits n

-- So has the value, or the number of what is raised in its place.
abbrev pub ValueFits : Value → Type 0
ValueFits (Ok n) = Fits n
ValueFits (Err x) = ExcFits x

pub signed_fits : (n : ℤ) → FitsSigned w64 n → Fits n
signed_fits n h = (fits-FitsSigned n).1 h

below : (n k : ℕ) → n < k → nat_lt n k ≡ true
below n k h = grind (arith, nat_tests)

above : (n k : ℕ) → nat_lt n k ≡ true → n < k
above n k h = grind (arith, nat_tests)

pub small_fits : (n : ℕ) → n < 9223372036854775808 → Fits (pos n)
small_fits n h = below n 9223372036854775808 h

pub at_fits : (ns : List ℤ) (p : ℕ) → AllFit ns → Fits (unwrap_or (slice_get ns p) (pos 0))
at_fits [] p h = refl
at_fits (n ∷ ns) zero h = h.0
at_fits (n ∷ ns) (suc p) h = at_fits ns p h.1

-- ---- operators

truth_fits : (b : Bool) → Fits (truth b)
truth_fits true = refl
truth_fits false = refl

either_value : (b : Bool) (n : ℤ) (x : Exc) → (b ≡ true → Fits n) → ExcFits x → (let v : Value = if b then Ok n else Err x in ValueFits v)
either_value true n x h e = h refl
either_value false n x h e = e

own_fits : (n : ℤ) → ValueFits (if_fits n n)
own_fits n = either_value (fits n) n intovf_e (λ h. h) tt

-- A remainder is nearer to 0 than the divisor.
rem_size : (r b : ℤ) → unsigned_abs r < unsigned_abs b → Fits b → Fits r
rem_size (pos r) (pos b) less h = below r 9223372036854775808 (let far = above b 9223372036854775808 h in omega (arith, less, far))
rem_size (pos r) (negsuc b) less h = below r 9223372036854775808 (let far = above b 9223372036854775808 h in omega (arith, less, far))
rem_size (negsuc r) (pos b) less h = below r 9223372036854775808 (let far = above b 9223372036854775808 h in omega (arith, less, far))
rem_size (negsuc r) (negsuc b) less h = below r 9223372036854775808 (let far = above b 9223372036854775808 h in omega (arith, less, far))

some_size : (b : ℤ) → is_true b ≡ true → 0 < unsigned_abs b
some_size (pos zero) h = absurd (cc)
some_size (pos (suc n)) h = omega arith
some_size (negsuc n) h = omega arith

rem_fits : (a b : ℤ) → is_true b ≡ true → Fits b → Fits (int_rem a b)
rem_fits a b some h = rem_size (int_rem a b) b (rem_below a b (some_size b some)) h

quotient_fits : (b : Bool) (n : ℤ) → (let v : Value = if b then if_fits n n else Err intdiv_e in ValueFits v)
quotient_fits true n = own_fits n
quotient_fits false n = tt

rest_fits : (b : Bool) (q n : ℤ) → (b ≡ true → Fits n) → (let v : Value = if b then if_fits q n else Err intdiv_e in ValueFits v)
rest_fits true q n h = either_value (fits q) n intovf_e (λ e. h refl) tt
rest_fits false q n h = tt

applied_fits : (o : Op) (a b : ℤ) → Fits a → Fits b → ValueFits (applied o a b)
applied_fits op.Add a b h k = own_fits (a +ℤ b)
applied_fits op.Sub a b h k = own_fits (a -ℤ b)
applied_fits op.Mul a b h k = own_fits (a *ℤ b)
applied_fits op.Div a b h k = quotient_fits (is_true b) (int_div a b)
applied_fits op.Rem a b h k = rest_fits (is_true b) (int_div a b) (int_rem a b) (λ e. rem_fits a b e k)
applied_fits op.Equal a b h k = truth_fits (int_eq a b)
applied_fits op.Differs a b h k = truth_fits (not (int_eq a b))
applied_fits op.Less a b h k = truth_fits (int_lt a b)
applied_fits op.AtMost a b h k = truth_fits (int_le a b)
applied_fits op.Greater a b h k = truth_fits (int_lt b a)
applied_fits op.AtLeast a b h k = truth_fits (int_le b a)
applied_fits op.And a b h k = truth_fits (is_true a && is_true b)
applied_fits op.Or a b h k = truth_fits (is_true a || is_true b)

two_fit : (o : Op) (x y : Value) → ValueFits x → ValueFits y → ValueFits (two_values o x y)
two_fit o (Err x) y h k = h
two_fit o (Ok m) (Err y) h k = k
two_fit o (Ok m) (Ok n) h k = applied_fits o m n h k

opposite_fits : (x : Value) → ValueFits x → ValueFits (opposite x)
opposite_fits (Ok n) h = truth_fits (not (is_true n))
opposite_fits (Err x) h = h

-- ---- expressions

-- What an expression sees fits.
pub record SightFits (sight : Sight) : Type 0 where
  pub script : (name : NameId) → ExcFits (exception_value sight.script name)
  pub me : Fits (pos sight.me)
  pub locals : AllFit sight.locals
  pub caught : ExcFits sight.caught
  pub err : Fits sight.err
  pub shared : (name : NameId) → Fits (sight.shared name)

pub signed_parts : (ms ns : List ℤ) → AreSigned (ms ++ ns) → AreSigned ms × AreSigned ns
signed_parts [] ns h = (tt, h)
signed_parts (m ∷ ms) ns h = let k = signed_parts ms ns h.1 in ((h.0, k.0), k.1)

module _ (sight : Sight) (h : SightFits sight) where
  variable_fits : (v : Var) → Fits (variable_value sight v)
  variable_fits (Local p) = at_fits sight.locals p h.locals
  variable_fits (Shared name) = h.shared name

  exception_fits : (x : ExcRef) → ExcFits (exception_at sight x)
  exception_fits (Named name) = h.script name
  exception_fits This = h.caught

  status_fits : (x : Exc) → ExcFits x → Fits (status_of x)
  status_fits (Status n) k = k
  status_fits (Address a) k = refl

  -- The value of an expression whose numbers fit.
  abbrev Valued : Expr → Type 0
  Valued e = AreSigned (expr_numbers e) → ValueFits (each_expr (value_step sight) e)

  two_valued : (o : Op) (a b : Expr) → Valued a → Valued b → Valued (Two o a b)
  two_valued o a b f g k =
      let both : AreSigned (expr_numbers a ++ expr_numbers b) = subst AreSigned (each_expr-Two numbers_step o a b) k in
      let parts = signed_parts (expr_numbers a) (expr_numbers b) both in
      subst ValueFits (sym (each_expr-Two (value_step sight) o a b)) (two_fit o (each_expr (value_step sight) a) (each_expr (value_step sight) b) (f parts.0) (g parts.1))

  opposite_valued : (a : Expr) → Valued a → Valued (Not a)
  opposite_valued a f k =
      subst ValueFits (sym (each_expr-Not (value_step sight) a)) (opposite_fits (each_expr (value_step sight) a) (f (subst AreSigned (each_expr-Not numbers_step a) k)))

  cases : ExprCases Valued
  cases = record {
    num = λ n k.
        (let one : AreSigned (n ∷ []) = subst AreSigned (each_expr-Num numbers_step n) k in subst ValueFits (sym (each_expr-Num (value_step sight) n)) (signed_fits n one.0));
    var = λ v k. subst ValueFits (sym (each_expr-Var (value_step sight) v)) (variable_fits v);
    me = λ k. subst ValueFits (sym (each_expr-Me (value_step sight))) h.me;
    err = λ k. subst ValueFits (sym (each_expr-Err (value_step sight))) h.err;
    two = two_valued;
    negation = opposite_valued;
    get_status = λ x k. subst ValueFits (sym (each_expr-GetStatus (value_step sight) x)) (status_fits (exception_at sight x) (exception_fits x));
    matches = λ x y k. subst ValueFits (sym (each_expr-Matches (value_step sight) x y)) (truth_fits (is_same (exception_at sight x) (exception_at sight y)));
  }

  -- The value of an expression fits, or its first fault.
  pub expression_fits : (e : Expr) → AreSigned (expr_numbers e) → ValueFits (value_in sight e)
  unfolding value_in
  expression_fits e = expr_induction Valued cases e
