-- The values of expressions, and their first faults (docs/script.md, "Expressions").
use Rattle.std.specs.Prelude.{ℕ, ◌^◌, ℤ, pos, negsuc, ◌+ℤ◌, ◌-ℤ◌, ◌*ℤ◌, nat_lt, int_lt, int_le, int_div, int_rem, slice_get, unwrap_or, Bool, true, false, not, ◌&&◌, ◌||◌, ◌==◌, if◌then◌else◌, List, Result, Ok, Err}
use Rattle.std.specs.Ordering.{int_eq}
use Rattle.thr_values.specs.declared.number.NameId.{NameId}
use Rattle.thr_values.specs.declared.exception.Exc.{Exc}
use Rattle.thr_values.specs.declared.exception.Exc.TheVariants.{Address, Status}
use Rattle.thr_values.specs.Exceptions.{intovf_e, intdiv_e}
use Rattle.thr_syntax.specs.declared.expr.Var.{Var}
use Rattle.thr_syntax.specs.declared.expr.Var.TheVariants.{Local, Shared}
use Rattle.thr_syntax.specs.declared.expr.ExcRef.{ExcRef}
use Rattle.thr_syntax.specs.declared.expr.ExcRef.TheVariants.{Named, This}
use Rattle.thr_syntax.specs.declared.expr.Op.{Op}
use Rattle.thr_syntax.specs.declared.expr.Op.TheVariants as op
use Rattle.thr_syntax.specs.declared.expr.Expr.{Expr}
use Rattle.thr_syntax.specs.declared.expr.Expr.TheOpen.{Expr-F}
use Rattle.thr_syntax.specs.declared.expr.Expr.TheOpen as one_expr
use Rattle.thr_syntax.specs.declared.tree.Script.{Script}
use Rattle.thr_syntax.specs.Folds.{each_expr}
use Rattle.thr_remainder.specs.Declarations.{exception_value}
use Rattle.thr_remainder.specs.Remainders.{Setting, Remainder, locals_in, caught_in}

-- A value, or the exception that is raised in its place.
abbrev pub Value : Type 0
Value = Result ℤ Exc

-- ---- numbers

-- A condition is true where its value isn't 0 (docs/script.md, "Expressions").
abbrev pub is_true : ℤ → Bool
is_true n = not (int_eq n (pos 0))

-- The value of a comparison and of `and`, `or` and `not`: 1 where it holds, else 0 (docs/script.md, "Expressions").
abbrev pub truth : Bool → ℤ
truth true = pos 1
truth false = pos 0

-- The number has 64 bits with a sign.
abbrev pub fits : ℤ → Bool
fits (pos n) = nat_lt n (2 ^ 63)
fits (negsuc n) = nat_lt n (2 ^ 63)

-- A number, where this result fits (docs/script.md, "Expressions").
abbrev pub if_fits : ℤ → ℤ → Value
if_fits result n = if fits result then Ok n else Err intovf_e

-- A quotient, or a remainder, which rounds toward 0. Both are at fault where the quotient doesn't fit (docs/script.md,
-- "Expressions").
abbrev pub divided : ℤ → ℤ → ℤ → Value
divided a b n = if is_true b then if_fits (int_div a b) n else Err intdiv_e

-- What an operator gives of two numbers (docs/script.md, "Expressions").
abbrev pub applied : Op → ℤ → ℤ → Value
applied op.Add a b = if_fits (a +ℤ b) (a +ℤ b)
applied op.Sub a b = if_fits (a -ℤ b) (a -ℤ b)
applied op.Mul a b = if_fits (a *ℤ b) (a *ℤ b)
applied op.Div a b = divided a b (int_div a b)
applied op.Rem a b = divided a b (int_rem a b)
applied op.Equal a b = Ok (truth (int_eq a b))
applied op.Differs a b = Ok (truth (not (int_eq a b)))
applied op.Less a b = Ok (truth (int_lt a b))
applied op.AtMost a b = Ok (truth (int_le a b))
applied op.Greater a b = Ok (truth (int_lt b a))
applied op.AtLeast a b = Ok (truth (int_le b a))
applied op.And a b = Ok (truth (is_true a && is_true b))
applied op.Or a b = Ok (truth (is_true a || is_true b))

-- Both operands are valued, the left one first (docs/script.md, "Expressions").
abbrev pub two_values : Op → Value → Value → Value
two_values o (Err x) b = Err x
two_values o (Ok m) (Err y) = Err y
two_values o (Ok m) (Ok n) = applied o m n

-- The value of `not`, or the fault of its operand (docs/script.md, "Expressions").
abbrev pub opposite : Value → Value
opposite (Ok n) = Ok (truth (not (is_true n)))
opposite (Err x) = Err x

-- ---- exceptions

-- Two address exceptions are the same by their name, two status exceptions by their number (docs/machine.md, "Exceptions").
abbrev pub is_same : Exc → Exc → Bool
is_same (Address a) (Address b) = a.0 == b.0
is_same (Status m) (Status n) = int_eq m n
is_same (Address a) (Status n) = false
is_same (Status m) (Address b) = false

-- The number of a status exception, and -1 of an address exception (docs/script.md, "Expressions").
abbrev pub status_of : Exc → ℤ
status_of (Status n) = n
status_of (Address a) = negsuc 0

-- ---- what an expression sees

-- The values of shared variables, by name.
abbrev pub SharedValues : Type 0
SharedValues = NameId → ℤ

-- Those of a statement that reads none.
abbrev pub none_shared : SharedValues
none_shared name = pos 0

-- What an expression sees: the script, the thread's number, the locals of its innermost call, what was caught there, the
-- number of its last reply, and the values of shared variables (docs/script.md, "Expressions").
pub record Sight : Type 0 where
  pub script : Script
  pub me : ℕ
  pub locals : List ℤ
  pub caught : Exc
  pub err : ℤ
  pub shared : SharedValues

-- The exception that a name stands for, or that `this` means (docs/script.md, "Expressions").
abbrev pub exception_at : Sight → ExcRef → Exc
exception_at sight (Named name) = exception_value sight.script name
exception_at sight This = sight.caught

-- The value of a local, or of a shared variable (docs/script.md, "Expressions").
abbrev pub variable_value : Sight → Var → ℤ
variable_value sight (Local p) = unwrap_or (slice_get sight.locals p) (pos 0)
variable_value sight (Shared name) = sight.shared name

-- ---- values

-- One expression, whose operands have been valued.
abbrev pub value_step : Sight → Expr-F Value → Value
value_step sight (one_expr.Num n) = Ok n
value_step sight (one_expr.Var v) = Ok (variable_value sight v)
value_step sight one_expr.Me = Ok (pos sight.me)
value_step sight one_expr.Err = Ok sight.err
value_step sight (one_expr.Two o a b) = two_values o a b
value_step sight (one_expr.Not a) = opposite a
value_step sight (one_expr.GetStatus x) = Ok (status_of (exception_at sight x))
value_step sight (one_expr.Matches x y) = Ok (truth (is_same (exception_at sight x) (exception_at sight y)))

-- The value of an expression that sees this, or its first fault from the left (docs/script.md, "Expressions").
unfoldable pub value_in : Sight → Expr → Value
value_in sight e = each_expr (value_step sight) e

-- What an expression of a thread sees where this is left (docs/script.md, "Expressions").
abbrev pub sight_of : Setting → SharedValues → Remainder → Sight
sight_of g shared r = record {
  script = g.script;
  me = g.me;
  locals = locals_in r.items;
  caught = caught_in r.items;
  err = r.err;
  shared = shared;
}

-- The value of an expression there, or its first fault from the left (docs/script.md, "Expressions").
abbrev pub value_of : Setting → SharedValues → Remainder → Expr → Value
value_of g shared r e = value_in (sight_of g shared r) e
