-- Induction over expressions and over statements, with a case for each variant.
use Rattle.std.proofs.Common.{ℕ, ℤ, List, [], ◌∷◌, map, Option, Some, None, sym, subst}
use Rattle.thr_values.specs.declared.number.NameId.{NameId}
use Rattle.thr_syntax.specs.declared.dce.DceCall.{DceCall}
use Rattle.thr_syntax.specs.declared.expr.ExcRef.{ExcRef}
use Rattle.thr_syntax.specs.declared.expr.Op.{Op}
use Rattle.thr_syntax.specs.declared.expr.Var as variable
use Rattle.thr_syntax.specs.declared.expr.Expr.{Expr, Num, Var, Me, Err, Two, Not, GetStatus, Matches, roll-Expr, map-Expr, ind-Expr}
use Rattle.thr_syntax.specs.declared.expr.Expr.TheOpen.{Expr-F}
use Rattle.thr_syntax.specs.declared.expr.Expr.TheOpen as one_expr
use Rattle.thr_syntax.specs.declared.expr.Expr.TheVariants as exprs
use Rattle.thr_syntax.specs.declared.tree.Clause.{Clause}
use Rattle.thr_syntax.specs.declared.tree.Stmt.{Stmt, Set, Say, If, While, TryCatch, TryFinally, Raise, Reraise, Call, Return, Exit, Dce, roll-Stmt, map-Stmt, ind-Stmt}
use Rattle.thr_syntax.specs.declared.tree.Stmt.TheOpen.{Stmt-F}
use Rattle.thr_syntax.specs.declared.tree.Stmt.TheOpen as one_stmt
use Rattle.thr_syntax.specs.declared.tree.Stmt.TheVariants as stmts

-- What shows P of every expression.
pub record ExprCases (P : Expr → Type 0) : Type 0 where
  pub num : (n : ℤ) → P (Num n)
  pub var : (v : variable.Var) → P (Var v)
  pub me : P Me
  pub err : P Err
  pub two : (op : Op) (a b : Expr) → P a → P b → P (Two op a b)
  pub negation : (a : Expr) → P a → P (Not a)
  pub get_status : (x : ExcRef) → P (GetStatus x)
  pub matches : (x y : ExcRef) → P (Matches x y)

module _ (P : Expr → Type 0) (cases : ExprCases P) where
  expr_case : (y : Expr-F ((e : Expr) × P e)) → P (roll-Expr (map-Expr ((e : Expr) × P e) Expr (λ e. e.0) y))
  expr_case (one_expr.Num n) = subst P (sym (exprs.rolls-Num n)) (cases.num n)
  expr_case (one_expr.Var v) = subst P (sym (exprs.rolls-Var v)) (cases.var v)
  expr_case one_expr.Me = subst P (sym exprs.rolls-Me) cases.me
  expr_case one_expr.Err = subst P (sym exprs.rolls-Err) cases.err
  expr_case (one_expr.Two op a b) = subst P (sym (exprs.rolls-Two op a.0 b.0)) (cases.two op a.0 b.0 a.1 b.1)
  expr_case (one_expr.Not a) = subst P (sym (exprs.rolls-Not a.0)) (cases.negation a.0 a.1)
  expr_case (one_expr.GetStatus x) = subst P (sym (exprs.rolls-GetStatus x)) (cases.get_status x)
  expr_case (one_expr.Matches x y) = subst P (sym (exprs.rolls-Matches x y)) (cases.matches x y)

  pub expr_induction : (e : Expr) → P e
  expr_induction = ind-Expr P (λ x y is. subst (λ z. P (roll-Expr z)) is (expr_case y))

-- What shows P of every statement, B of every body and C of every list of clauses.
pub record StmtCases (P : Stmt → Type 0) (B : List Stmt → Type 0) (C : List Clause → Type 0) : Type 0 where
  pub set : (v : variable.Var) (e : Expr) → P (Set v e)
  pub say : (e : Expr) → P (Say e)
  pub if_alone : (e : Expr) (body : List Stmt) → B body → P (If e body None)
  pub if_else : (e : Expr) (body other : List Stmt) → B body → B other → P (If e body (Some other))
  pub while : (e : Expr) (body : List Stmt) → B body → P (While e body)
  pub try_catch : (body : List Stmt) (clauses : List Clause) → B body → C clauses → P (TryCatch body clauses)
  pub try_finally : (body final : List Stmt) → B body → B final → P (TryFinally body final)
  pub raise : (name : NameId) → P (Raise name)
  pub reraise : P Reraise
  pub call : (name : NameId) (e : Expr) (v : Option ℕ) → P (Call name e v)
  pub return : (e : Expr) → P (Return e)
  pub exit : (e : Expr) → P (Exit e)
  pub dce : (call : DceCall) → P (Dce call)
  pub body_end : B []
  pub body_more : (s : Stmt) (body : List Stmt) → P s → B body → B (s ∷ body)
  pub clauses_end : C []
  pub clauses_more : (c : Clause) (clauses : List Clause) → B c.body → C clauses → C (c ∷ clauses)

module _ (P : Stmt → Type 0) (B : List Stmt → Type 0) (C : List Clause → Type 0) (cases : StmtCases P B C) where
  held_body : (body : List ((s : Stmt) × P s)) → B (map (λ s. s.0) body)
  held_body [] = cases.body_end
  held_body (s ∷ body) = cases.body_more s.0 (map (λ r. r.0) body) s.1 (held_body body)

  held_clauses : (clauses : List ((c : Clause) × B c.body)) → C (map (λ c. c.0) clauses)
  held_clauses [] = cases.clauses_end
  held_clauses (c ∷ clauses) = cases.clauses_more c.0 (map (λ d. d.0) clauses) c.1 (held_clauses clauses)

  stmt_case : (y : Stmt-F ((s : Stmt) × P s) ((c : Clause) × B c.body)) → P (roll-Stmt (map-Stmt ((s : Stmt) × P s) ((c : Clause) × B c.body) Stmt Clause (λ s. s.0) (λ c. c.0) y))
  stmt_case (one_stmt.Set v e) = subst P (sym (stmts.rolls-Set v e)) (cases.set v e)
  stmt_case (one_stmt.Say e) = subst P (sym (stmts.rolls-Say e)) (cases.say e)
  stmt_case (one_stmt.If e body None) = subst P (sym (stmts.rolls-If e (map (λ s. s.0) body) None)) (cases.if_alone e (map (λ s. s.0) body) (held_body body))
  stmt_case (one_stmt.If e body (Some other)) = subst P (sym (stmts.rolls-If e (map (λ s. s.0) body) (Some (map (λ s. s.0) other)))) (cases.if_else e (map (λ s. s.0) body) (map (λ s. s.0) other) (held_body body) (held_body other))
  stmt_case (one_stmt.While e body) = subst P (sym (stmts.rolls-While e (map (λ s. s.0) body))) (cases.while e (map (λ s. s.0) body) (held_body body))
  stmt_case (one_stmt.TryCatch body clauses) = subst P (sym (stmts.rolls-TryCatch (map (λ s. s.0) body) (map (λ c. c.0) clauses))) (cases.try_catch (map (λ s. s.0) body) (map (λ c. c.0) clauses) (held_body body) (held_clauses clauses))
  stmt_case (one_stmt.TryFinally body final) = subst P (sym (stmts.rolls-TryFinally (map (λ s. s.0) body) (map (λ s. s.0) final))) (cases.try_finally (map (λ s. s.0) body) (map (λ s. s.0) final) (held_body body) (held_body final))
  stmt_case (one_stmt.Raise name) = subst P (sym (stmts.rolls-Raise name)) (cases.raise name)
  stmt_case one_stmt.Reraise = subst P (sym stmts.rolls-Reraise) cases.reraise
  stmt_case (one_stmt.Call name e v) = subst P (sym (stmts.rolls-Call name e v)) (cases.call name e v)
  stmt_case (one_stmt.Return e) = subst P (sym (stmts.rolls-Return e)) (cases.return e)
  stmt_case (one_stmt.Exit e) = subst P (sym (stmts.rolls-Exit e)) (cases.exit e)
  stmt_case (one_stmt.Dce call) = subst P (sym (stmts.rolls-Dce call)) (cases.dce call)

  pub stmt_induction : (s : Stmt) → P s
  stmt_induction = ind-Stmt P (λ c. B c.body) (λ x y is. subst (λ z. P (roll-Stmt z)) is (stmt_case y)) (λ x y is. subst (λ z. B z.body) is (held_body y.body))

  pub body_induction : (body : List Stmt) → B body
  body_induction [] = cases.body_end
  body_induction (s ∷ body) = cases.body_more s body (stmt_induction s) (body_induction body)

  pub clauses_induction : (clauses : List Clause) → C clauses
  clauses_induction [] = cases.clauses_end
  clauses_induction (c ∷ clauses) = cases.clauses_more c clauses (body_induction c.body) (clauses_induction clauses)
