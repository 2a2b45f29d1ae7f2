-- Which statements are shared (docs/machine.md, "Turns").
use Rattle.std.specs.Prelude.{Bool, true, false, ◌||◌, List, [], ◌∷◌, ◌++◌}
use Rattle.std.specs.List.{list_any}
use Rattle.thr_syntax.specs.declared.expr.Var.{Var}
use Rattle.thr_syntax.specs.declared.expr.Var.TheVariants.{Local, Shared}
use Rattle.thr_syntax.specs.declared.expr.Expr.{Expr}
use Rattle.thr_syntax.specs.declared.expr.Expr.TheOpen.{Expr-F}
use Rattle.thr_syntax.specs.declared.expr.Expr.TheOpen as one_expr
use Rattle.thr_syntax.specs.declared.tree.Stmt.{Stmt, Set, Say, If', While', TryCatch', TryFinally', Raise, Reraise, Call, Return, Exit, Dce}
use Rattle.thr_syntax.specs.Folds.{each_expr}

-- The variables of an expression, those of each operand in its place.
abbrev pub variables_step : Expr-F (List Var) → List Var
variables_step (one_expr.Num n) = []
variables_step (one_expr.Var v) = v ∷ []
variables_step one_expr.Me = []
variables_step one_expr.Err = []
variables_step (one_expr.Two op a b) = a ++ b
variables_step (one_expr.Not a) = a
variables_step (one_expr.GetStatus x) = []
variables_step (one_expr.Matches x y) = []

abbrev pub variables_of : Expr → List Var
variables_of = each_expr variables_step

-- The variables that a statement itself reads or writes, its bodies and calls of the thread service apart.
abbrev pub own_variables : Stmt → List Var
own_variables (Set v e) = v ∷ variables_of e
own_variables (Say e) = variables_of e
own_variables (If' e x body other) = variables_of e
own_variables (While' e x body) = variables_of e
own_variables (TryCatch' x body y clauses) = []
own_variables (TryFinally' x body y final) = []
own_variables (Raise x) = []
own_variables Reraise = []
own_variables (Call r e v) = variables_of e
own_variables (Return e) = variables_of e
own_variables (Exit e) = variables_of e
own_variables (Dce call) = []

abbrev pub is_shared_variable : Var → Bool
is_shared_variable (Local place) = false
is_shared_variable (Shared name) = true

-- The statement is shared whatever its variables are.
abbrev pub is_always_shared : Stmt → Bool
is_always_shared (Say e) = true
is_always_shared (Dce call) = true
is_always_shared _ = false

abbrev pub is_shared : Stmt → Bool
is_shared s = is_always_shared s || list_any is_shared_variable (own_variables s)
