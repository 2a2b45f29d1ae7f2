-- Statements with their lines, and what is left of a body (docs/machine.md, "What is left to do").
use Rattle.std.specs.Prelude.{ℕ, ◌+◌, List, [], ◌∷◌, ◌++◌, length, Option}
use Rattle.thr_values.specs.declared.number.NameId.{NameId}
use Rattle.thr_syntax.specs.declared.tree.Stmt.{Stmt}
use Rattle.thr_syntax.specs.declared.tree.Clause.{Clause}
use Rattle.thr_syntax.specs.Lines.{stmt_lines, body_lines}

-- How many lines a statement has in the canonical text (docs/script.md, "The canonical text").
unfoldable pub size : Stmt → ℕ
size s = length (stmt_lines s)

-- How many lines a body has there.
unfoldable pub body_size : List Stmt → ℕ
body_size body = length (body_lines body)

-- A statement and its line in the canonical text (docs/machine.md, "What is left to do").
pub record Placed : Type 0 where
  pub line : ℕ
  pub stmt : Stmt

-- The statements that are left of a body, and the line that closes it (docs/machine.md, "What is left to do").
pub record Left : Type 0 where
  pub todo : List Placed
  pub close : ℕ

-- The statements of a body, the first of which has this line.
abbrev pub placed : ℕ → List Stmt → List Placed
placed line [] = []
placed line (s ∷ body) = record { line = line; stmt = s } ∷ placed (line + size s) body

-- A body from this line on, and then the rest.
abbrev pub body_then : ℕ → List Stmt → Left → Left
body_then line body rest = record { todo = placed line body ++ rest.todo; close = rest.close }

-- A statement at this line, and then the rest.
abbrev pub stmt_then : ℕ → Stmt → Left → Left
stmt_then line s rest = record { todo = record { line = line; stmt = s } ∷ rest.todo; close = rest.close }

-- Nothing is left before the line that closes.
abbrev pub nothing : ℕ → Left
nothing close = record { todo = []; close = close }

-- A body from this line on that the line after it closes.
abbrev pub body_at : ℕ → List Stmt → Left
body_at line body = body_then line body (nothing (line + body_size body))

-- A catch clause: its line, the exception that it names, or none at `catch_all`, and its body (docs/machine.md, "Handlers").
pub record Handler : Type 0 where
  pub line : ℕ
  pub names : Option NameId
  pub body : Left

-- How a try ends: its catch clauses in their order, or the body of its `finally` (docs/machine.md, "Handlers").
pub data Ways : Type 0 where
  Catches : (handlers : List Handler) → Ways
  Finally : (body : Left) → Ways

-- How many lines the clauses of a try have, each with its body (docs/script.md, "The canonical text").
abbrev pub clauses_size : List Clause → ℕ
clauses_size [] = 0
clauses_size (c ∷ clauses) = 1 + body_size c.body + clauses_size clauses

-- The catch clauses of a try, the first of which has this line.
abbrev pub handlers_at : ℕ → List Clause → List Handler
handlers_at line [] = []
handlers_at line (c ∷ clauses) =
    record { line = line; names = c.names; body = body_at (line + 1) c.body } ∷ handlers_at (line + 1 + body_size c.body) clauses
