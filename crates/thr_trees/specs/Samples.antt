-- What the examples share.
use Rattle.std.specs.Prelude.{ℕ, List, Some, None}
use Rattle.thr_values.specs.declared.number.NameId.{NameId}
use Rattle.thr_syntax.specs.declared.expr.ExcRef.TheVariants.{This}
use Rattle.thr_syntax.specs.declared.expr.Expr.{Expr}
use Rattle.thr_syntax.specs.declared.expr.Expr.TheVariants as expr
use Rattle.thr_syntax.specs.declared.tree.Clause.{Clause}
use Rattle.thr_syntax.specs.declared.tree.Stmt.{Stmt}

-- The name at this place (docs/script.md, "Names").
abbrev pub named : ℕ → NameId
named place = record { 0 = place }

-- What is caught, as an expression asks for it (docs/script.md, "Expressions").
abbrev pub this : Expr
this = expr.GetStatus This

-- A clause that catches an exception (docs/script.md, "Lines").
abbrev pub catching : List Stmt → Clause
catching body = record { names = Some (named 0); body = body }

-- A clause that catches all (docs/script.md, "Lines").
abbrev pub catching_all : List Stmt → Clause
catching_all body = record { names = None; body = body }
