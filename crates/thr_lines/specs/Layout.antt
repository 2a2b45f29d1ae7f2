-- The lines of a script, each with its row and with what is left to do from it (docs/machine.md, "The lines of a script").
use Rattle.std.specs.Prelude.{ℕ, ◌+◌, List, [], ◌∷◌, ◌++◌, map, length, get_or, Option, Some, None}
use Rattle.thr_values.specs.declared.number.NameId.{NameId}
use Rattle.thr_values.specs.declared.number.Line.{Line}
use Rattle.thr_syntax.specs.declared.form.Form.{Form}
use Rattle.thr_syntax.specs.declared.form.Form.TheVariants as form
use Rattle.thr_syntax.specs.declared.tree.Clause.{Clause}
use Rattle.thr_syntax.specs.declared.tree.Stmt.{Stmt, Set, Say, If', While', TryCatch', TryFinally', Raise, Reraise, Call, Return, Exit, Dce, Row_of-Stmt, end_of-Stmt, more_of-Stmt, None', Some', Row_of-Clause, end_of-Clause, more_of-Clause}
use Rattle.thr_syntax.specs.declared.tree.Item.{Item}
use Rattle.thr_syntax.specs.declared.tree.Item.TheVariants as item
use Rattle.thr_syntax.specs.declared.tree.Routine.{Routine}
use Rattle.thr_syntax.specs.declared.tree.Script.{Script}
use Rattle.thr_syntax.specs.Folds.{stmts_in, clauses_in}
use Rattle.thr_syntax.specs.Lines.{clause_form, item_lines, lines_of}
use Rattle.thr_remainder.specs.Places.{Left, size, body_size, body_then, stmt_then, body_at, nothing, Ways, Catches, Finally, handlers_at, clauses_size}
use Rattle.thr_remainder.specs.Starts.{at}
use Rattle.thr_lines.specs.declared.row.Row.{Row}
use Rattle.thr_lines.specs.Rows.{plain_row, opening_row, middle_row, closing_row}

-- ---- one line

-- A line: its row, what is left of its body from it on, and, at a clause, a `finally` or an `endtry`, how its try ends from
-- it on (docs/machine.md, "The lines of a script").
pub record ScriptLine : Type 0 where
  pub row : Row
  pub left : Left
  pub ways : Ways

-- A line that belongs to no other.
abbrev pub plain_line : Form → Left → ScriptLine
plain_line f left = record { row = plain_row f; left = left; ways = Catches [] }

-- A line that opens a block.
abbrev pub opening_line : Form → (close next : ℕ) → (after : Option Line) → Left → ScriptLine
opening_line f close next after left = record { row = opening_row f close next after; left = left; ways = Catches [] }

-- A clause, a `finally` or an `else` within a block.
abbrev pub middle_line : Form → (next : ℕ) → (after : Option Line) → Left → Ways → ScriptLine
middle_line f next after left ways = record { row = middle_row f next after; left = left; ways = ways }

-- A line that closes a block.
abbrev pub closing_line : Form → (opener after : Option Line) → Left → ScriptLine
closing_line f opener after left = record { row = closing_row f opener after; left = left; ways = Catches [] }

-- ---- statements

unfoldable mutual
  -- The lines of a statement, the first of which has this number, where the rest is left after it (docs/machine.md, "The
  -- lines of a script").
  pub stmt_layout : ℕ → Stmt → Left → List ScriptLine
  stmt_layout l (Set v e) rest = plain_line (form.Set v e) (stmt_then l (Set v e) rest) ∷ []
  stmt_layout l (Say e) rest = plain_line (form.Say e) (stmt_then l (Say e) rest) ∷ []
  stmt_layout l (If' e x body None') rest =
      let end = l + 1 + body_size (stmts_in body) in
      let after = Some (at (end + 1)) in
      opening_line (form.If e) end end after (stmt_then l (If' e x body None') rest) ∷
      (raw_body_layout (l + 1) body rest ++ closing_line form.End (Some (at l)) after rest ∷ [])
  stmt_layout l (If' e x body (Some' y other)) rest =
      let half = l + 1 + body_size (stmts_in body) in
      let end = half + 1 + body_size (stmts_in other) in
      let after = Some (at (end + 1)) in
      opening_line (form.If e) end half after (stmt_then l (If' e x body (Some' y other)) rest) ∷
      (raw_body_layout (l + 1) body rest ++ (middle_line form.Else end after rest (Catches []) ∷
      (raw_body_layout (half + 1) other rest ++ closing_line form.End (Some (at l)) after rest ∷ [])))
  stmt_layout l (While' e x body) rest =
      let end = l + 1 + body_size (stmts_in body) in
      let after = Some (at (end + 1)) in
      let here = stmt_then l (While' e x body) rest in
      opening_line (form.While e) end end after here ∷
      (raw_body_layout (l + 1) body here ++ closing_line form.End (Some (at l)) after here ∷ [])
  stmt_layout l (TryCatch' x body y clauses) rest =
      let half = l + 1 + body_size (stmts_in body) in
      let end = half + clauses_size (clauses_in clauses) in
      let after = Some (at (end + 1)) in
      opening_line form.Try end half after (stmt_then l (TryCatch' x body y clauses) rest) ∷
      (raw_body_layout (l + 1) body (nothing half) ++
      (raw_clauses_layout half clauses after ++ closing_line form.Endtry (Some (at l)) after (nothing end) ∷ []))
  stmt_layout l (TryFinally' x body y final) rest =
      let half = l + 1 + body_size (stmts_in body) in
      let end = half + 1 + body_size (stmts_in final) in
      let after = Some (at (end + 1)) in
      opening_line form.Try end half after (stmt_then l (TryFinally' x body y final) rest) ∷
      (raw_body_layout (l + 1) body (nothing half) ++
      (middle_line form.Finally end after (nothing half) (Finally (body_at (half + 1) (stmts_in final))) ∷
      (raw_body_layout (half + 1) final (nothing end) ++ closing_line form.Endtry (Some (at l)) after (nothing end) ∷ [])))
  stmt_layout l (Raise x) rest = plain_line (form.Raise x) (stmt_then l (Raise x) rest) ∷ []
  stmt_layout l Reraise rest = plain_line form.Reraise (stmt_then l Reraise rest) ∷ []
  stmt_layout l (Call r e v) rest = plain_line (form.Call r e v) (stmt_then l (Call r e v) rest) ∷ []
  stmt_layout l (Return e) rest = plain_line (form.Return e) (stmt_then l (Return e) rest) ∷ []
  stmt_layout l (Exit e) rest = plain_line (form.Exit e) (stmt_then l (Exit e) rest) ∷ []
  stmt_layout l (Dce call) rest = plain_line (form.Dce call) (stmt_then l (Dce call) rest) ∷ []

  -- The lines of a body as it is held in the tree.
  pub raw_body_layout : {n : _} → ℕ → Row_of-Stmt n → Left → List ScriptLine
  raw_body_layout l end_of-Stmt rest = []
  raw_body_layout l (more_of-Stmt s body) rest =
      stmt_layout l s (body_then (l + size s) (stmts_in body) rest) ++ raw_body_layout (l + size s) body rest

  -- The lines of clauses as they are held in the tree, where `after` is the line after their try.
  pub raw_clauses_layout : {n : _} → ℕ → Row_of-Clause n → Option Line → List ScriptLine
  raw_clauses_layout l end_of-Clause after = []
  raw_clauses_layout l (more_of-Clause names x body clauses) after =
      let next = l + 1 + body_size (stmts_in body) in
      let handlers = handlers_at l (record { names = names; body = stmts_in body } ∷ clauses_in clauses) in
      middle_line (clause_form names) next after (nothing l) (Catches handlers) ∷
      (raw_body_layout (l + 1) body (nothing next) ++ raw_clauses_layout next clauses after)

-- The lines of a body, a list of statements, where the rest is left after it.
abbrev pub body_layout : ℕ → List Stmt → Left → List ScriptLine
body_layout l [] rest = []
body_layout l (s ∷ body) rest = stmt_layout l s (body_then (l + size s) body rest) ++ body_layout (l + size s) body rest

-- The lines of a list of clauses, where `after` is the line after their try.
abbrev pub clauses_layout : ℕ → List Clause → (after : Option Line) → List ScriptLine
clauses_layout l [] after = []
clauses_layout l (c ∷ clauses) after =
    let next = l + 1 + body_size c.body in
    middle_line (clause_form c.names) next after (nothing l) (Catches (handlers_at l (c ∷ clauses))) ∷
    (body_layout (l + 1) c.body (nothing next) ++ clauses_layout next clauses after)

-- ---- declarations

-- A routine's line has its parameter, and each other local has a line of its own. The body is left from each of them.
abbrev pub head_layout : NameId → List (List ℕ) → (end : ℕ) → (after : Option Line) → Left → List ScriptLine
head_layout name [] end after left = []
head_layout name (parameter ∷ locals) end after left =
    opening_line (form.Routine name parameter) end end after left ∷ map (λ (n : List ℕ). plain_line (form.Local n) left) locals

-- The line of a routine that has a parameter.
abbrev pub head_line : ℕ → List (List ℕ) → Option Line
head_line l [] = None
head_line l (parameter ∷ locals) = Some (at l)

-- The lines of a routine, where `after` is the line after it.
abbrev pub routine_layout : ℕ → Routine → (after : Option Line) → List ScriptLine
routine_layout l r after =
    let first = l + length r.locals in
    let end = first + body_size r.body in
    head_layout r.name r.locals end after (body_at first r.body) ++
    (body_layout first r.body (nothing end) ++ closing_line form.End (head_line l r.locals) after (nothing end) ∷ [])

-- The lines of a declaration, where `after` is the line after it.
abbrev pub item_layout : ℕ → Item → (after : Option Line) → List ScriptLine
item_layout l (item.Interface i) after = plain_line (form.Interface i) (nothing l) ∷ []
item_layout l (item.Limit n) after = plain_line (form.Limit n) (nothing l) ∷ []
item_layout l (item.Shared name n) after = plain_line (form.Shared name n) (nothing l) ∷ []
item_layout l (item.Exception name) after = plain_line (form.Exception name) (nothing l) ∷ []
item_layout l (item.Status name n) after = plain_line (form.Status name n) (nothing l) ∷ []
item_layout l (item.Mutex name) after = plain_line (form.Mutex name) (nothing l) ∷ []
item_layout l (item.MutexAttr name) after = plain_line (form.MutexAttr name) (nothing l) ∷ []
item_layout l (item.Cond name) after = plain_line (form.Cond name) (nothing l) ∷ []
item_layout l (item.Attr name) after = plain_line (form.Attr name) (nothing l) ∷ []
item_layout l (item.Key name) after = plain_line (form.Key name) (nothing l) ∷ []
item_layout l (item.Once name) after = plain_line (form.Once name) (nothing l) ∷ []
item_layout l (item.Pipe name n) after = plain_line (form.Pipe name n) (nothing l) ∷ []
item_layout l (item.Routine r) after = routine_layout l r after

-- This line, if there is a declaration that has it.
abbrev pub line_if_any : ℕ → List Item → Option Line
line_if_any l [] = None
line_if_any l (i ∷ items) = Some (at l)

-- The lines of declarations, the first of which has this number.
abbrev pub items_layout : ℕ → List Item → List ScriptLine
items_layout l [] = []
items_layout l (i ∷ items) =
    let next = l + length (item_lines i) in item_layout l i (line_if_any next items) ++ items_layout next items

-- ---- the script

-- The lines of a script, from line 1 on (docs/machine.md, "The lines of a script").
unfoldable pub script_layout : Script → List ScriptLine
script_layout s = plain_line form.Header (nothing 1) ∷ items_layout 2 s.items

-- The number of the last line of a script (docs/script.md, "Lines").
unfoldable pub last_line : Script → ℕ
last_line s = length (lines_of s)

-- What stands at a number that no line has.
abbrev pub no_line : ScriptLine
no_line = plain_line form.Header (nothing 0)

-- The line of a script that has this number (docs/machine.md, "The lines of a script").
unfoldable pub line_at : Script → ℕ → ScriptLine
line_at s l = get_or (no_line ∷ script_layout s) l no_line

-- ---- the rows alone

-- The row of a line.
abbrev pub row_of : ScriptLine → Row
row_of line = line.row

-- The rows of a statement. They don't depend on what is left after it.
unfoldable pub stmt_rows : ℕ → Stmt → List Row
stmt_rows l s = map row_of (stmt_layout l s (nothing 0))

-- The rows of a body.
unfoldable pub body_rows : ℕ → List Stmt → List Row
body_rows l body = map row_of (body_layout l body (nothing 0))

-- The rows of clauses.
unfoldable pub clause_rows : ℕ → List Clause → (after : Option Line) → List Row
clause_rows l clauses after = map row_of (clauses_layout l clauses after)

-- The rows of a declaration.
unfoldable pub item_rows : ℕ → Item → (after : Option Line) → List Row
item_rows l i after = map row_of (item_layout l i after)

-- The rows of declarations.
unfoldable pub items_rows : ℕ → List Item → List Row
items_rows l items = map row_of (items_layout l items)

-- The rows of a script.
unfoldable pub script_rows : Script → List Row
script_rows s = map row_of (script_layout s)
