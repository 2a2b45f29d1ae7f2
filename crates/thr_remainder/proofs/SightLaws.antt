-- The values of expressions at each variant.
use Rattle.std.proofs.Common.{◌≡◌, ℤ, pos, Ok}
use Rattle.thr_syntax.specs.declared.expr.ExcRef.{ExcRef}
use Rattle.thr_syntax.specs.declared.expr.Op.{Op}
use Rattle.thr_syntax.specs.declared.expr.Var as variable
use Rattle.thr_syntax.specs.declared.expr.Expr.{Expr, Num, Var, Me, Err, Two, Not, GetStatus, Matches}
use Rattle.thr_syntax.proofs.FoldLaws.{each_expr-Num, each_expr-Var, each_expr-Me, each_expr-Err, each_expr-Two, each_expr-Not, each_expr-GetStatus, each_expr-Matches}
use Rattle.thr_remainder.specs.Expressions.{Sight, truth, is_same, status_of, exception_at, variable_value, two_values, opposite, value_step, value_in}

module _ (sight : Sight) where
  pub value_in-Num : (n : ℤ) → value_in sight (Num n) ≡ Ok n
  unfolding value_in
  value_in-Num n = each_expr-Num (value_step sight) n

  pub value_in-Var : (v : variable.Var) → value_in sight (Var v) ≡ Ok (variable_value sight v)
  unfolding value_in
  value_in-Var v = each_expr-Var (value_step sight) v

  pub value_in-Me : value_in sight Me ≡ Ok (pos sight.me)
  unfolding value_in
  value_in-Me = each_expr-Me (value_step sight)

  pub value_in-Err : value_in sight Err ≡ Ok sight.err
  unfolding value_in
  value_in-Err = each_expr-Err (value_step sight)

  pub value_in-Two : (op : Op) (a b : Expr) → value_in sight (Two op a b) ≡ two_values op (value_in sight a) (value_in sight b)
  unfolding value_in
  value_in-Two op a b = each_expr-Two (value_step sight) op a b

  pub value_in-Not : (a : Expr) → value_in sight (Not a) ≡ opposite (value_in sight a)
  unfolding value_in
  value_in-Not a = each_expr-Not (value_step sight) a

  pub value_in-GetStatus : (x : ExcRef) → value_in sight (GetStatus x) ≡ Ok (status_of (exception_at sight x))
  unfolding value_in
  value_in-GetStatus x = each_expr-GetStatus (value_step sight) x

  pub value_in-Matches : (x y : ExcRef) → value_in sight (Matches x y) ≡ Ok (truth (is_same (exception_at sight x) (exception_at sight y)))
  unfolding value_in
  value_in-Matches x y = each_expr-Matches (value_step sight) x y

pub ruleset value_laws = (value_in-Num, value_in-Var, value_in-Me, value_in-Err, value_in-Two, value_in-Not, value_in-GetStatus, value_in-Matches)
