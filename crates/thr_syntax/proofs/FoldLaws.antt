-- What the folds of specs/Folds.antt give at each variant, and that they are the folds that come with the types.
use Rattle.std.proofs.Common.{◌≡◌, ℕ, ℤ, List, [], ◌∷◌, map, Option, Some, None, refl, ap, sym, subst, ◌∙◌}
use Rattle.std.specs.Option.{option_map}
use Rattle.thr_values.specs.declared.number.NameId.{NameId}
use Rattle.thr_syntax.specs.declared.dce.DceCall.{DceCall}
use Rattle.thr_syntax.specs.declared.expr.ExcRef.{ExcRef}
use Rattle.thr_syntax.specs.declared.expr.Op.{Op}
use Rattle.thr_syntax.specs.declared.expr.Var as variable
use Rattle.thr_syntax.specs.declared.expr.Expr.{Expr, Num, Var, Me, Err, Two, Not, GetStatus, Matches, roll-Expr, out-Expr, roll-out-Expr, map-Expr, fold-Expr, fold-roll-Expr, ind-Expr}
use Rattle.thr_syntax.specs.declared.expr.Expr.TheOpen.{Expr-F}
use Rattle.thr_syntax.specs.declared.expr.Expr.TheOpen as one_expr
use Rattle.thr_syntax.specs.declared.expr.Expr.TheVariants as exprs
use Rattle.thr_syntax.specs.declared.tree.Clause.{Clause, roll-Clause, map-Clause, fold-Clause, fold-roll-Clause, ind-Clause}
use Rattle.thr_syntax.specs.declared.tree.Stmt.{Stmt, Set, Say, If, While, TryCatch, TryFinally, Raise, Reraise, Call, Return, Exit, Dce, roll-Stmt, out-Stmt, roll-out-Stmt, map-Stmt, fold-Stmt, fold-roll-Stmt, ind-Stmt}
use Rattle.thr_syntax.specs.declared.tree.Stmt.TheBlock.{hidden-the_row-Stmt-0, hidden-the_row-Clause-1, back-Stmt-If-2}
use Rattle.thr_syntax.specs.declared.tree.Stmt.TheOpen.{Stmt-F, Clause-F}
use Rattle.thr_syntax.specs.declared.tree.Stmt.TheOpen as one_stmt
use Rattle.thr_syntax.specs.declared.tree.Stmt.TheVariants as stmts
use Rattle.thr_syntax.specs.Computing.{tree_words}
use Rattle.thr_syntax.specs.Folds.{each_expr, each_stmt, each_row, each_clauses, each_else, stmts_in, clauses_in}

module _ {A : Type 0} (step : Expr-F A → A) where
  -- At each variant.
  pub each_expr-Num : (n : ℤ) → each_expr step (Num n) ≡ step (one_expr.Num n)
  unfolding each_expr
  each_expr-Num n = refl

  pub each_expr-Var : (v : variable.Var) → each_expr step (Var v) ≡ step (one_expr.Var v)
  unfolding each_expr
  each_expr-Var v = refl

  pub each_expr-Me : each_expr step Me ≡ step one_expr.Me
  unfolding each_expr
  each_expr-Me = refl

  pub each_expr-Err : each_expr step Err ≡ step one_expr.Err
  unfolding each_expr
  each_expr-Err = refl

  pub each_expr-Two : (op : Op) (a b : Expr) → each_expr step (Two op a b) ≡ step (one_expr.Two op (each_expr step a) (each_expr step b))
  unfolding each_expr tree_words
  each_expr-Two op a b = refl

  pub each_expr-Not : (a : Expr) → each_expr step (Not a) ≡ step (one_expr.Not (each_expr step a))
  unfolding each_expr tree_words
  each_expr-Not a = refl

  pub each_expr-GetStatus : (x : ExcRef) → each_expr step (GetStatus x) ≡ step (one_expr.GetStatus x)
  unfolding each_expr
  each_expr-GetStatus x = refl

  pub each_expr-Matches : (x y : ExcRef) → each_expr step (Matches x y) ≡ step (one_expr.Matches x y)
  unfolding each_expr
  each_expr-Matches x y = refl

  -- At an expression made of its layer.
  pub each_expr-roll : (y : Expr-F Expr) → each_expr step (roll-Expr y) ≡ step (map-Expr Expr A (each_expr step) y)
  each_expr-roll (one_expr.Num n) = ap (each_expr step) (exprs.rolls-Num n) ∙ each_expr-Num n
  each_expr-roll (one_expr.Var v) = ap (each_expr step) (exprs.rolls-Var v) ∙ each_expr-Var v
  each_expr-roll one_expr.Me = ap (each_expr step) exprs.rolls-Me ∙ each_expr-Me
  each_expr-roll one_expr.Err = ap (each_expr step) exprs.rolls-Err ∙ each_expr-Err
  each_expr-roll (one_expr.Two op a b) = ap (each_expr step) (exprs.rolls-Two op a b) ∙ each_expr-Two op a b
  each_expr-roll (one_expr.Not a) = ap (each_expr step) (exprs.rolls-Not a) ∙ each_expr-Not a
  each_expr-roll (one_expr.GetStatus x) = ap (each_expr step) (exprs.rolls-GetStatus x) ∙ each_expr-GetStatus x
  each_expr-roll (one_expr.Matches x y) = ap (each_expr step) (exprs.rolls-Matches x y) ∙ each_expr-Matches x y

  -- At an expression opened to its layer.
  pub each_expr-out : (e : Expr) → each_expr step e ≡ step (map-Expr Expr A (each_expr step) (out-Expr e))
  each_expr-out e = ap (each_expr step) (sym (roll-out-Expr e)) ∙ each_expr-roll (out-Expr e)

  -- It is the fold that comes with the type.
  abbrev SameExpr : Type 0
  SameExpr = (e : Expr) × (each_expr step e ≡ fold-Expr A step e)

  abbrev IsSameOperands : Expr-F Expr → Type 0
  IsSameOperands y = map-Expr Expr A (each_expr step) y ≡ map-Expr Expr A (fold-Expr A step) y

  same_operands : (y : Expr-F SameExpr) → IsSameOperands (map-Expr SameExpr Expr (λ e. e.0) y)
  same_operands (one_expr.Num n) = refl
  same_operands (one_expr.Var v) = refl
  same_operands one_expr.Me = refl
  same_operands one_expr.Err = refl
  same_operands (one_expr.Two op a b) = λ i. one_expr.Two op (a.1 i) (b.1 i)
  same_operands (one_expr.Not a) = λ i. one_expr.Not (a.1 i)
  same_operands (one_expr.GetStatus x) = refl
  same_operands (one_expr.Matches x y) = refl

  pub each_expr-is_fold : (e : Expr) → each_expr step e ≡ fold-Expr A step e
  each_expr-is_fold = ind-Expr (λ e. each_expr step e ≡ fold-Expr A step e) (λ x y is.
      each_expr-roll x ∙ ap step (subst IsSameOperands is (same_operands y)) ∙ sym (fold-roll-Expr A step x))

module _ {A B : Type 0} (step : Stmt-F A B → A) (clause_step : Clause-F A B → B) where
  -- What the steps give at a clause.
  abbrev pub each_clause : Clause → B
  each_clause c = clause_step (record { names = c.names; body = map (each_stmt step clause_step) c.body })

  -- At the bodies, the clauses and the `else` of a statement.
  pub each_row-hidden : (body : List Stmt) → each_row step clause_step (hidden-the_row-Stmt-0 body) ≡ map (each_stmt step clause_step) body
  unfolding each_stmt tree_words
  each_row-hidden [] = refl
  each_row-hidden (s ∷ body) = ap (λ xs. each_stmt step clause_step s ∷ xs) (each_row-hidden body)

  pub each_clauses-hidden : (clauses : List Clause) → each_clauses step clause_step (hidden-the_row-Clause-1 clauses) ≡ map each_clause clauses
  unfolding each_stmt tree_words
  each_clauses-hidden [] = refl
  each_clauses-hidden (c ∷ clauses) = λ i. clause_step (record { names = c.names; body = each_row-hidden c.body i }) ∷ each_clauses-hidden clauses i

  pub each_else-hidden : (other : Option (List Stmt)) → each_else step clause_step (back-Stmt-If-2 other) ≡ option_map (map (each_stmt step clause_step)) other
  unfolding each_stmt tree_words
  each_else-hidden None = refl
  each_else-hidden (Some body) = λ i. Some (each_row-hidden body i)

  -- At each variant.
  pub each_stmt-Set : (v : variable.Var) (e : Expr) → each_stmt step clause_step (Set v e) ≡ step (one_stmt.Set v e)
  unfolding each_stmt
  each_stmt-Set v e = refl

  pub each_stmt-Say : (e : Expr) → each_stmt step clause_step (Say e) ≡ step (one_stmt.Say e)
  unfolding each_stmt
  each_stmt-Say e = refl

  pub each_stmt-If : (e : Expr) (body : List Stmt) (other : Option (List Stmt)) → each_stmt step clause_step (If e body other) ≡ step (one_stmt.If e (map (each_stmt step clause_step) body) (option_map (map (each_stmt step clause_step)) other))
  unfolding each_stmt
  each_stmt-If e body other = λ i. step (one_stmt.If e (each_row-hidden body i) (each_else-hidden other i))

  pub each_stmt-While : (e : Expr) (body : List Stmt) → each_stmt step clause_step (While e body) ≡ step (one_stmt.While e (map (each_stmt step clause_step) body))
  unfolding each_stmt
  each_stmt-While e body = λ i. step (one_stmt.While e (each_row-hidden body i))

  pub each_stmt-TryCatch : (body : List Stmt) (clauses : List Clause) → each_stmt step clause_step (TryCatch body clauses) ≡ step (one_stmt.TryCatch (map (each_stmt step clause_step) body) (map each_clause clauses))
  unfolding each_stmt
  each_stmt-TryCatch body clauses = λ i. step (one_stmt.TryCatch (each_row-hidden body i) (each_clauses-hidden clauses i))

  pub each_stmt-TryFinally : (body final : List Stmt) → each_stmt step clause_step (TryFinally body final) ≡ step (one_stmt.TryFinally (map (each_stmt step clause_step) body) (map (each_stmt step clause_step) final))
  unfolding each_stmt
  each_stmt-TryFinally body final = λ i. step (one_stmt.TryFinally (each_row-hidden body i) (each_row-hidden final i))

  pub each_stmt-Raise : (name : NameId) → each_stmt step clause_step (Raise name) ≡ step (one_stmt.Raise name)
  unfolding each_stmt
  each_stmt-Raise name = refl

  pub each_stmt-Reraise : each_stmt step clause_step Reraise ≡ step one_stmt.Reraise
  unfolding each_stmt
  each_stmt-Reraise = refl

  pub each_stmt-Call : (name : NameId) (e : Expr) (v : Option ℕ) → each_stmt step clause_step (Call name e v) ≡ step (one_stmt.Call name e v)
  unfolding each_stmt
  each_stmt-Call name e v = refl

  pub each_stmt-Return : (e : Expr) → each_stmt step clause_step (Return e) ≡ step (one_stmt.Return e)
  unfolding each_stmt
  each_stmt-Return e = refl

  pub each_stmt-Exit : (e : Expr) → each_stmt step clause_step (Exit e) ≡ step (one_stmt.Exit e)
  unfolding each_stmt
  each_stmt-Exit e = refl

  pub each_stmt-Dce : (call : DceCall) → each_stmt step clause_step (Dce call) ≡ step (one_stmt.Dce call)
  unfolding each_stmt
  each_stmt-Dce call = refl

  -- At a statement made of its layer.
  pub each_stmt-roll : (y : Stmt-F Stmt Clause) → each_stmt step clause_step (roll-Stmt y) ≡ step (map-Stmt Stmt Clause A B (each_stmt step clause_step) each_clause y)
  each_stmt-roll (one_stmt.Set v e) = ap (each_stmt step clause_step) (stmts.rolls-Set v e) ∙ each_stmt-Set v e
  each_stmt-roll (one_stmt.Say e) = ap (each_stmt step clause_step) (stmts.rolls-Say e) ∙ each_stmt-Say e
  each_stmt-roll (one_stmt.If e body None) = ap (each_stmt step clause_step) (stmts.rolls-If e body None) ∙ each_stmt-If e body None
  each_stmt-roll (one_stmt.If e body (Some other)) = ap (each_stmt step clause_step) (stmts.rolls-If e body (Some other)) ∙ each_stmt-If e body (Some other)
  each_stmt-roll (one_stmt.While e body) = ap (each_stmt step clause_step) (stmts.rolls-While e body) ∙ each_stmt-While e body
  each_stmt-roll (one_stmt.TryCatch body clauses) = ap (each_stmt step clause_step) (stmts.rolls-TryCatch body clauses) ∙ each_stmt-TryCatch body clauses
  each_stmt-roll (one_stmt.TryFinally body final) = ap (each_stmt step clause_step) (stmts.rolls-TryFinally body final) ∙ each_stmt-TryFinally body final
  each_stmt-roll (one_stmt.Raise name) = ap (each_stmt step clause_step) (stmts.rolls-Raise name) ∙ each_stmt-Raise name
  each_stmt-roll one_stmt.Reraise = ap (each_stmt step clause_step) stmts.rolls-Reraise ∙ each_stmt-Reraise
  each_stmt-roll (one_stmt.Call name e v) = ap (each_stmt step clause_step) (stmts.rolls-Call name e v) ∙ each_stmt-Call name e v
  each_stmt-roll (one_stmt.Return e) = ap (each_stmt step clause_step) (stmts.rolls-Return e) ∙ each_stmt-Return e
  each_stmt-roll (one_stmt.Exit e) = ap (each_stmt step clause_step) (stmts.rolls-Exit e) ∙ each_stmt-Exit e
  each_stmt-roll (one_stmt.Dce call) = ap (each_stmt step clause_step) (stmts.rolls-Dce call) ∙ each_stmt-Dce call

  -- At a statement opened to its layer.
  pub each_stmt-out : (s : Stmt) → each_stmt step clause_step s ≡ step (map-Stmt Stmt Clause A B (each_stmt step clause_step) each_clause (out-Stmt s))
  each_stmt-out s = ap (each_stmt step clause_step) (sym (roll-out-Stmt s)) ∙ each_stmt-roll (out-Stmt s)

  -- At a clause made of its fields.
  pub each_clause-roll : (c : Clause-F Stmt Clause) → each_clause (roll-Clause c) ≡ clause_step (map-Clause Stmt Clause A B (each_stmt step clause_step) each_clause c)
  each_clause-roll c = refl

  -- Both are the folds that come with the types.
  abbrev SameStmt : Type 0
  SameStmt = (s : Stmt) × (each_stmt step clause_step s ≡ fold-Stmt A B step clause_step s)

  abbrev SameClause : Type 0
  SameClause = (c : Clause) × (each_clause c ≡ fold-Clause A B step clause_step c)

  abbrev IsSameLayer : Stmt-F Stmt Clause → Type 0
  IsSameLayer y = map-Stmt Stmt Clause A B (each_stmt step clause_step) each_clause y ≡ map-Stmt Stmt Clause A B (fold-Stmt A B step clause_step) (fold-Clause A B step clause_step) y

  abbrev IsSameClause : Clause-F Stmt Clause → Type 0
  IsSameClause c = map-Clause Stmt Clause A B (each_stmt step clause_step) each_clause c ≡ map-Clause Stmt Clause A B (fold-Stmt A B step clause_step) (fold-Clause A B step clause_step) c

  same_body : (body : List SameStmt) → map (each_stmt step clause_step) (map (λ s. s.0) body) ≡ map (fold-Stmt A B step clause_step) (map (λ s. s.0) body)
  same_body [] = refl
  same_body (s ∷ body) = λ i. s.1 i ∷ same_body body i

  same_clauses : (clauses : List SameClause) → map each_clause (map (λ c. c.0) clauses) ≡ map (fold-Clause A B step clause_step) (map (λ c. c.0) clauses)
  same_clauses [] = refl
  same_clauses (c ∷ clauses) = λ i. c.1 i ∷ same_clauses clauses i

  same_layer : (y : Stmt-F SameStmt SameClause) → IsSameLayer (map-Stmt SameStmt SameClause Stmt Clause (λ s. s.0) (λ c. c.0) y)
  same_layer (one_stmt.Set v e) = refl
  same_layer (one_stmt.Say e) = refl
  same_layer (one_stmt.If e body None) = λ i. one_stmt.If e (same_body body i) None
  same_layer (one_stmt.If e body (Some other)) = λ i. one_stmt.If e (same_body body i) (Some (same_body other i))
  same_layer (one_stmt.While e body) = λ i. one_stmt.While e (same_body body i)
  same_layer (one_stmt.TryCatch body clauses) = λ i. one_stmt.TryCatch (same_body body i) (same_clauses clauses i)
  same_layer (one_stmt.TryFinally body final) = λ i. one_stmt.TryFinally (same_body body i) (same_body final i)
  same_layer (one_stmt.Raise name) = refl
  same_layer one_stmt.Reraise = refl
  same_layer (one_stmt.Call name e v) = refl
  same_layer (one_stmt.Return e) = refl
  same_layer (one_stmt.Exit e) = refl
  same_layer (one_stmt.Dce call) = refl

  same_clause : (c : Clause-F SameStmt SameClause) → IsSameClause (map-Clause SameStmt SameClause Stmt Clause (λ s. s.0) (λ d. d.0) c)
  same_clause c = λ i. record { names = c.names; body = same_body c.body i }

  stmt_is_fold : (x : Stmt-F Stmt Clause) (y : Stmt-F SameStmt SameClause) → map-Stmt SameStmt SameClause Stmt Clause (λ s. s.0) (λ c. c.0) y ≡ x → each_stmt step clause_step (roll-Stmt x) ≡ fold-Stmt A B step clause_step (roll-Stmt x)
  stmt_is_fold x y is = each_stmt-roll x ∙ ap step (subst IsSameLayer is (same_layer y)) ∙ sym (fold-roll-Stmt A B step clause_step x)

  clause_is_fold : (x : Clause-F Stmt Clause) (y : Clause-F SameStmt SameClause) → map-Clause SameStmt SameClause Stmt Clause (λ s. s.0) (λ c. c.0) y ≡ x → each_clause (roll-Clause x) ≡ fold-Clause A B step clause_step (roll-Clause x)
  clause_is_fold x y is = ap clause_step (subst IsSameClause is (same_clause y)) ∙ sym (fold-roll-Clause A B step clause_step x)

  pub each_stmt-is_fold : (s : Stmt) → each_stmt step clause_step s ≡ fold-Stmt A B step clause_step s
  each_stmt-is_fold = ind-Stmt (λ s. each_stmt step clause_step s ≡ fold-Stmt A B step clause_step s) (λ c. each_clause c ≡ fold-Clause A B step clause_step c) stmt_is_fold clause_is_fold

  pub each_clause-is_fold : (c : Clause) → each_clause c ≡ fold-Clause A B step clause_step c
  each_clause-is_fold = ind-Clause (λ s. each_stmt step clause_step s ≡ fold-Stmt A B step clause_step s) (λ c. each_clause c ≡ fold-Clause A B step clause_step c) stmt_is_fold clause_is_fold

-- The equations at the variants.
pub ruleset each_expr_laws = (each_expr-Num, each_expr-Var, each_expr-Me, each_expr-Err, each_expr-Two, each_expr-Not, each_expr-GetStatus, each_expr-Matches)

pub ruleset each_stmt_laws = (each_stmt-Set, each_stmt-Say, each_stmt-If, each_stmt-While, each_stmt-TryCatch, each_stmt-TryFinally, each_stmt-Raise, each_stmt-Reraise, each_stmt-Call, each_stmt-Return, each_stmt-Exit, each_stmt-Dce)

-- ---- bodies as lists

pub stmts_in-hidden : (body : List Stmt) → stmts_in (hidden-the_row-Stmt-0 body) ≡ body
unfolding tree_words
stmts_in-hidden [] = refl
stmts_in-hidden (s ∷ body) = ap (λ (xs : List Stmt). s ∷ xs) (stmts_in-hidden body)

pub clauses_in-hidden : (clauses : List Clause) → clauses_in (hidden-the_row-Clause-1 clauses) ≡ clauses
unfolding tree_words
clauses_in-hidden [] = refl
clauses_in-hidden (c ∷ clauses) = λ i. record { names = c.names; body = stmts_in-hidden c.body i } ∷ clauses_in-hidden clauses i
