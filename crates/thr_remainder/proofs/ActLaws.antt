-- What each statement does first.
use Rattle.std.proofs.Common.{◌≡◌, ℕ, ◌+◌, List, Option, ap}
use Rattle.thr_values.specs.declared.number.NameId.{NameId}
use Rattle.thr_syntax.specs.declared.expr.Var as variable
use Rattle.thr_syntax.specs.declared.expr.Expr.{Expr}
use Rattle.thr_syntax.specs.declared.dce.DceCall.{DceCall}
use Rattle.thr_syntax.specs.declared.tree.Clause.{Clause}
use Rattle.thr_syntax.specs.declared.tree.Stmt.{Stmt, Set, Say, If, While, TryCatch, TryFinally, Raise, Reraise, Call, Return, Exit, Dce}
use Rattle.thr_syntax.specs.declared.tree.Stmt.TheVariants as stmts
use Rattle.thr_remainder.specs.Places.{Left, body_size, body_then, stmt_then, body_at, Catches, Finally, handlers_at}
use Rattle.thr_remainder.specs.Acts.{Sets, Says, Chooses, Repeats, Tries, Raises, RaisesAgain, Calls, Returns, Exits, Asks, act_in, act_of, else_then}

module _ (line : ℕ) (rest : Left) where
  pub act_of-Set : (v : variable.Var) (e : Expr) → act_of line (Set v e) rest ≡ Sets v e
  unfolding act_of
  act_of-Set v e = ap (act_in line (Set v e) rest) (stmts.outs-Set v e)

  pub act_of-Say : (e : Expr) → act_of line (Say e) rest ≡ Says e
  unfolding act_of
  act_of-Say e = ap (act_in line (Say e) rest) (stmts.outs-Say e)

  pub act_of-If : (e : Expr) (body : List Stmt) (other : Option (List Stmt)) → act_of line (If e body other) rest ≡ Chooses e (body_then (line + 1) body rest) (else_then (line + 1 + body_size body) other rest)
  unfolding act_of
  act_of-If e body other = ap (act_in line (If e body other) rest) (stmts.outs-If e body other)

  pub act_of-While : (e : Expr) (body : List Stmt) → act_of line (While e body) rest ≡ Repeats e (body_then (line + 1) body (stmt_then line (While e body) rest))
  unfolding act_of
  act_of-While e body = ap (act_in line (While e body) rest) (stmts.outs-While e body)

  pub act_of-TryCatch : (body : List Stmt) (clauses : List Clause) → act_of line (TryCatch body clauses) rest ≡ Tries (body_at (line + 1) body) (Catches (handlers_at (line + 1 + body_size body) clauses))
  unfolding act_of
  act_of-TryCatch body clauses = ap (act_in line (TryCatch body clauses) rest) (stmts.outs-TryCatch body clauses)

  pub act_of-TryFinally : (body final : List Stmt) → act_of line (TryFinally body final) rest ≡ Tries (body_at (line + 1) body) (Finally (body_at (line + 1 + body_size body + 1) final))
  unfolding act_of
  act_of-TryFinally body final = ap (act_in line (TryFinally body final) rest) (stmts.outs-TryFinally body final)

  pub act_of-Raise : (name : NameId) → act_of line (Raise name) rest ≡ Raises name
  unfolding act_of
  act_of-Raise name = ap (act_in line (Raise name) rest) (stmts.outs-Raise name)

  pub act_of-Reraise : act_of line Reraise rest ≡ RaisesAgain
  unfolding act_of
  act_of-Reraise = ap (act_in line Reraise rest) stmts.outs-Reraise

  pub act_of-Call : (routine : NameId) (e : Expr) (place : Option ℕ) → act_of line (Call routine e place) rest ≡ Calls routine e place
  unfolding act_of
  act_of-Call routine e place = ap (act_in line (Call routine e place) rest) (stmts.outs-Call routine e place)

  pub act_of-Return : (e : Expr) → act_of line (Return e) rest ≡ Returns e
  unfolding act_of
  act_of-Return e = ap (act_in line (Return e) rest) (stmts.outs-Return e)

  pub act_of-Exit : (e : Expr) → act_of line (Exit e) rest ≡ Exits e
  unfolding act_of
  act_of-Exit e = ap (act_in line (Exit e) rest) (stmts.outs-Exit e)

  pub act_of-Dce : (call : DceCall) → act_of line (Dce call) rest ≡ Asks call
  unfolding act_of
  act_of-Dce call = ap (act_in line (Dce call) rest) (stmts.outs-Dce call)

pub ruleset act_laws = (act_of-Set, act_of-Say, act_of-If, act_of-While, act_of-TryCatch, act_of-TryFinally, act_of-Raise, act_of-Reraise, act_of-Call, act_of-Return, act_of-Exit, act_of-Dce)
