-- What a statement does first, given what is left after it (docs/machine.md, "Statements").
use Rattle.std.specs.Prelude.{ℕ, ◌+◌, List, Option, Some, None}
use Rattle.thr_values.specs.declared.number.NameId.{NameId}
use Rattle.thr_syntax.specs.declared.expr.Var.{Var}
use Rattle.thr_syntax.specs.declared.expr.Expr.{Expr}
use Rattle.thr_syntax.specs.declared.dce.DceCall.{DceCall}
use Rattle.thr_syntax.specs.declared.tree.Clause.{Clause}
use Rattle.thr_syntax.specs.declared.tree.Stmt.{Stmt, out-Stmt}
use Rattle.thr_syntax.specs.declared.tree.Stmt.TheOpen.{Stmt-F}
use Rattle.thr_syntax.specs.declared.tree.Stmt.TheOpen as one_stmt
use Rattle.thr_remainder.specs.Places.{Left, body_size, body_then, stmt_then, body_at, Ways, Catches, Finally, handlers_at}

-- What a statement does first. `body`, `other` and `again` are what is left then (docs/machine.md, "Statements").
pub data Act : Type 0 where
  Sets : (variable : Var) (e : Expr) → Act
  Says : (e : Expr) → Act
  Chooses : (e : Expr) (body other : Left) → Act
  Repeats : (e : Expr) (again : Left) → Act
  Tries : (body : Left) (ways : Ways) → Act
  Raises : (name : NameId) → Act
  RaisesAgain : Act
  Calls : (routine : NameId) (e : Expr) (place : Option ℕ) → Act
  Returns : (e : Expr) → Act
  Exits : (e : Expr) → Act
  Asks : (call : DceCall) → Act

-- What is left where the condition of an `if` is 0; its `else`, if it has one, has this line.
abbrev pub else_then : ℕ → Option (List Stmt) → Left → Left
else_then line None rest = rest
else_then line (Some other) rest = body_then (line + 1) other rest

-- The same as `act_of` of the statement opened to its parts.
abbrev pub act_in : ℕ → Stmt → Left → Stmt-F Stmt Clause → Act
act_in line s rest (one_stmt.Set v e) = Sets v e
act_in line s rest (one_stmt.Say e) = Says e
act_in line s rest (one_stmt.If e body other) = Chooses e (body_then (line + 1) body rest) (else_then (line + 1 + body_size body) other rest)
act_in line s rest (one_stmt.While e body) = Repeats e (body_then (line + 1) body (stmt_then line s rest))
act_in line s rest (one_stmt.TryCatch body clauses) = Tries (body_at (line + 1) body) (Catches (handlers_at (line + 1 + body_size body) clauses))
act_in line s rest (one_stmt.TryFinally body final) = Tries (body_at (line + 1) body) (Finally (body_at (line + 1 + body_size body + 1) final))
act_in line s rest (one_stmt.Raise name) = Raises name
act_in line s rest one_stmt.Reraise = RaisesAgain
act_in line s rest (one_stmt.Call routine e place) = Calls routine e place
act_in line s rest (one_stmt.Return e) = Returns e
act_in line s rest (one_stmt.Exit e) = Exits e
act_in line s rest (one_stmt.Dce call) = Asks call

-- What the statement at this line does first, where the rest is left after it (docs/machine.md, "Statements").
unfoldable pub act_of : ℕ → Stmt → Left → Act
act_of line s rest = act_in line s rest (out-Stmt s)
