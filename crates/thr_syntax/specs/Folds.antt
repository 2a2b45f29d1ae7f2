-- Folds over expressions and statements, in a form that computes at trees made by their variants.
use Rattle.std.specs.Prelude.{List, [], ◌∷◌, Option, Some, None}
use Rattle.thr_syntax.specs.declared.expr.Expr.{Expr, Num, Var, Me, Err, Two', Not', GetStatus, Matches, end_of-Expr, more_of-Expr}
use Rattle.thr_syntax.specs.declared.expr.Expr.TheOpen.{Expr-F}
use Rattle.thr_syntax.specs.declared.expr.Expr.TheOpen as one_expr
use Rattle.thr_syntax.specs.declared.tree.Clause.{Clause}
use Rattle.thr_syntax.specs.declared.tree.Stmt.{Stmt, Set, Say, If', While', TryCatch', TryFinally', Raise, Reraise, Call, Return, Exit, Dce, Row_of-Stmt, end_of-Stmt, more_of-Stmt, Held-Stmt-If-2, None', Some', Row_of-Clause, end_of-Clause, more_of-Clause}
use Rattle.thr_syntax.specs.declared.tree.Stmt.TheOpen.{Stmt-F, Clause-F}
use Rattle.thr_syntax.specs.declared.tree.Stmt.TheOpen as one_stmt

-- What a step gives at an expression, once each operand has given its own.
module _ {A : Type 0} (step : Expr-F A → A) where
  unfoldable mutual
    pub each_expr : Expr → A
    each_expr (Num n) = step (one_expr.Num n)
    each_expr (Var v) = step (one_expr.Var v)
    each_expr Me = step one_expr.Me
    each_expr Err = step one_expr.Err
    each_expr (Two' op x (more_of-Expr a end_of-Expr) y (more_of-Expr b end_of-Expr)) = step (one_expr.Two op (each_expr a) (each_expr b))
    each_expr (Not' x (more_of-Expr a end_of-Expr)) = step (one_expr.Not (each_expr a))
    each_expr (GetStatus x) = step (one_expr.GetStatus x)
    each_expr (Matches x y) = step (one_expr.Matches x y)

-- What the steps give at a statement, once each statement and clause in it has given its own.
module _ {A B : Type 0} (step : Stmt-F A B → A) (clause_step : Clause-F A B → B) where
  unfoldable mutual
    pub each_stmt : Stmt → A
    each_stmt (Set v e) = step (one_stmt.Set v e)
    each_stmt (Say e) = step (one_stmt.Say e)
    each_stmt (If' e x body other) = step (one_stmt.If e (each_row body) (each_else other))
    each_stmt (While' e x body) = step (one_stmt.While e (each_row body))
    each_stmt (TryCatch' x body y clauses) = step (one_stmt.TryCatch (each_row body) (each_clauses clauses))
    each_stmt (TryFinally' x body y final) = step (one_stmt.TryFinally (each_row body) (each_row final))
    each_stmt (Raise x) = step (one_stmt.Raise x)
    each_stmt Reraise = step one_stmt.Reraise
    each_stmt (Call r e v) = step (one_stmt.Call r e v)
    each_stmt (Return e) = step (one_stmt.Return e)
    each_stmt (Exit e) = step (one_stmt.Exit e)
    each_stmt (Dce call) = step (one_stmt.Dce call)

    pub each_row : {n : _} → Row_of-Stmt n → List A
    each_row end_of-Stmt = []
    each_row (more_of-Stmt s body) = each_stmt s ∷ each_row body

    pub each_clauses : {n : _} → Row_of-Clause n → List B
    each_clauses end_of-Clause = []
    each_clauses (more_of-Clause names x body clauses) = clause_step (record { names = names; body = each_row body }) ∷ each_clauses clauses

    pub each_else : Held-Stmt-If-2 → Option (List A)
    each_else None' = None
    each_else (Some' x body) = Some (each_row body)

-- ---- bodies as lists

abbrev mutual
  -- The statements of a body, in their order.
  pub stmts_in : {n : _} → Row_of-Stmt n → List Stmt
  stmts_in end_of-Stmt = []
  stmts_in (more_of-Stmt s body) = s ∷ stmts_in body

  -- The clauses of a try, in their order.
  pub clauses_in : {n : _} → Row_of-Clause n → List Clause
  clauses_in end_of-Clause = []
  clauses_in (more_of-Clause names x body clauses) = record { names = names; body = stmts_in body } ∷ clauses_in clauses
