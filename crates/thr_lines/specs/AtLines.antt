-- What is known at each line of a script: its row says where to go on, and what is left there (docs/machine.md, "The lines of a script").
use Rattle.std.specs.Prelude.{◌≡◌, ℕ, ◌+◌, ◌<◌, ◌≤◌, Bool, true, false, List, [], ◌∷◌, Option, Some, None}
use Rattle.std.specs.List.{list_any}
use Rattle.thr_values.specs.declared.number.NameId.{NameId}
use Rattle.thr_values.specs.declared.number.Line.{Line}
use Rattle.thr_syntax.specs.declared.expr.Expr.{Expr}
use Rattle.thr_syntax.specs.declared.form.Form.{Form}
use Rattle.thr_syntax.specs.declared.form.Form.TheVariants as form
use Rattle.thr_syntax.specs.declared.tree.Script.{Script}
use Rattle.thr_syntax.specs.declared.tree.Stmt.{Stmt}
use Rattle.thr_syntax.specs.Shared.{is_shared, is_shared_variable, variables_of}
use Rattle.thr_remainder.specs.Places.{Left, stmt_then, nothing, Handler, Catches, Finally}
use Rattle.thr_remainder.specs.Acts.{Act, act_of, Sets, Says, Chooses, Repeats, Tries, Raises, RaisesAgain, Calls, Returns, Exits, Asks}
use Rattle.thr_remainder.specs.Declarations.{Entry, routine_of}
use Rattle.thr_remainder.specs.Starts.{at}
use Rattle.thr_lines.specs.declared.row.Row.{Row}
use Rattle.thr_lines.specs.declared.start.Start.{Start}
use Rattle.thr_lines.specs.Layout.{ScriptLine, last_line, line_at}
use Rattle.thr_lines.specs.Tables.{start_of}

-- In what follows E is a line by its number, `last` the number of the last line, and `l` that of the line of which it is
-- said.

-- ---- statements

-- The expression reads a shared variable (docs/machine.md, "Statements").
abbrev pub reads_shared : Expr → Bool
reads_shared e = list_any is_shared_variable (variables_of e)

-- A statement is next at this line: the rest is left after it, it does this first, and it is shared or quiet (docs/machine.md,
-- "Statements").
pub record ActsAt (E : ℕ → ScriptLine) (l : ℕ) (rest : Left) (act : Act) (shared : Bool) : Type 0 where
  pub stmt : Stmt
  pub here : (E l).left ≡ stmt_then l stmt rest
  pub acts : act_of l stmt rest ≡ act
  pub shares : is_shared stmt ≡ shared

-- A statement of one line, after which one goes on at the line below (docs/machine.md, "The lines of a script").
pub record StatementAt (E : ℕ → ScriptLine) (last l : ℕ) (act : Act) (shared : Bool) : Type 0 where
  pub inside : l < last
  pub does : ActsAt E l (E (l + 1)).left act shared

-- An `if`. Where its condition is 0 one goes on below the row's next line, which is the `else` or the end.
pub record IfAt (E : ℕ → ScriptLine) (last l : ℕ) (e : Expr) (row : Row) : Type 0 where
  pub next : ℕ
  pub after : ℕ
  pub next_is : row.next ≡ Some (at next)
  pub after_is : row.after ≡ Some (at after)
  pub below : l < next
  pub above : next < after
  pub inside : after ≤ last
  pub does : ActsAt E l (E after).left (Chooses e (E (l + 1)).left (E (next + 1)).left) (reads_shared e)

-- An `else`. What is left at it is what is left after the `if`.
pub record ElseAt (E : ℕ → ScriptLine) (last l : ℕ) (row : Row) : Type 0 where
  pub after : ℕ
  pub after_is : row.after ≡ Some (at after)
  pub above : l < after
  pub inside : after ≤ last
  pub here : (E l).left ≡ (E after).left

-- A `while`. Where its condition is 0 one goes on at the row's line after.
pub record WhileAt (E : ℕ → ScriptLine) (last l : ℕ) (e : Expr) (row : Row) : Type 0 where
  pub after : ℕ
  pub after_is : row.after ≡ Some (at after)
  pub above : l + 1 < after
  pub inside : after ≤ last
  pub does : ActsAt E l (E after).left (Repeats e (E (l + 1)).left) (reads_shared e)

-- ---- tries

-- The forms of lines that end a body of a try: its clauses, its `finally` and its `endtry` (docs/machine.md, "Handlers").
abbrev pub EndsTryBody : Form → Type 0
EndsTryBody (form.Catch x) = Unit {0}
EndsTryBody form.CatchAll = Unit {0}
EndsTryBody form.Finally = Unit {0}
EndsTryBody form.Endtry = Unit {0}
EndsTryBody _ = ⊥

-- A try. Its clauses, or its `finally`, begin at the row's next line.
pub record TryAt (E : ℕ → ScriptLine) (last l : ℕ) (row : Row) : Type 0 where
  pub next : ℕ
  pub after : ℕ
  pub next_is : row.next ≡ Some (at next)
  pub after_is : row.after ≡ Some (at after)
  pub below : l < next
  pub above : next < after
  pub inside : after ≤ last
  pub way : EndsTryBody (E next).row.form
  pub does : ActsAt E l (E after).left (Tries (E (l + 1)).left (E next).ways) false

-- A clause. Its body begins below it, and the clauses after it begin at the row's next line.
pub record CatchAt (E : ℕ → ScriptLine) (last l : ℕ) (names : Option NameId) (row : Row) : Type 0 where
  pub next : ℕ
  pub next_is : row.next ≡ Some (at next)
  pub above : l < next
  pub inside : next < last
  pub way : EndsTryBody (E next).row.form
  pub here : (E l).left ≡ nothing l
  pub handlers : List Handler
  pub others : (E next).ways ≡ Catches handlers
  pub ways : (E l).ways ≡ Catches (record { line = l; names = names; body = (E (l + 1)).left } ∷ handlers)

-- A `finally`. Its body begins below it.
pub record FinallyAt (E : ℕ → ScriptLine) (last l : ℕ) : Type 0 where
  pub inside : l + 1 < last
  pub here : (E l).left ≡ nothing l
  pub ways : (E l).ways ≡ Finally (E (l + 1)).left

-- An `endtry`, before which no clause is left.
pub record EndtryAt (E : ℕ → ScriptLine) (last l : ℕ) : Type 0 where
  pub inside : l < last
  pub here : (E l).left ≡ nothing l
  pub ways : (E l).ways ≡ Catches []

-- ---- ends and routines

-- The end of the block that a line of this form opens at `opener`: after an `if` one goes on below, after a body of a `while`
-- at the `while`, and at the end of a routine nothing is left.
abbrev pub EndOfBlock : (ℕ → ScriptLine) → (last l opener : ℕ) → Form → Type 0
EndOfBlock E last l opener (form.If e) = (l < last) × ((E l).left ≡ (E (l + 1)).left)
EndOfBlock E last l opener (form.While e) = (l < last) × ((E l).left ≡ (E opener).left)
EndOfBlock E last l opener (form.Routine name parameter) = (E l).left ≡ nothing l
EndOfBlock E last l opener _ = ⊥

-- An `end`, by its partner. That of a routine without a line of its own has none.
abbrev pub EndAt : (ℕ → ScriptLine) → (last l : ℕ) → Option Line → Type 0
EndAt E last l None = (E l).left ≡ nothing l
EndAt E last l (Some line) = (1 ≤ line.0) × (line.0 < l) × EndOfBlock E last l line.0 (E line.0).row.form

-- A routine's line or a local's, below which the body begins.
pub record HeadAt (E : ℕ → ScriptLine) (last l : ℕ) : Type 0 where
  pub inside : l < last
  pub here : (E l).left ≡ (E (l + 1)).left

-- ---- every line

-- What is known at a line of this form. At a declaration's line nothing is left.
abbrev pub FormAt : (ℕ → ScriptLine) → (last l : ℕ) → Row → Form → Type 0
FormAt E last l row (form.Routine name parameter) = HeadAt E last l
FormAt E last l row (form.Local name) = HeadAt E last l
FormAt E last l row (form.Set v e) = StatementAt E last l (Sets v e) (list_any is_shared_variable (v ∷ variables_of e))
FormAt E last l row (form.Say e) = StatementAt E last l (Says e) true
FormAt E last l row (form.If e) = IfAt E last l e row
FormAt E last l row form.Else = ElseAt E last l row
FormAt E last l row (form.While e) = WhileAt E last l e row
FormAt E last l row form.Try = TryAt E last l row
FormAt E last l row (form.Catch x) = CatchAt E last l (Some x) row
FormAt E last l row form.CatchAll = CatchAt E last l None row
FormAt E last l row form.Finally = FinallyAt E last l
FormAt E last l row form.Endtry = EndtryAt E last l
FormAt E last l row (form.Raise x) = StatementAt E last l (Raises x) false
FormAt E last l row form.Reraise = StatementAt E last l RaisesAgain false
FormAt E last l row (form.Call r e place) = StatementAt E last l (Calls r e place) (reads_shared e)
FormAt E last l row (form.Return e) = StatementAt E last l (Returns e) (reads_shared e)
FormAt E last l row (form.Exit e) = StatementAt E last l (Exits e) (reads_shared e)
FormAt E last l row (form.Dce call) = StatementAt E last l (Asks call) true
FormAt E last l row form.End = EndAt E last l row.partner
FormAt E last l row _ = (E l).left ≡ nothing l

-- What is known at a line that has this row (docs/machine.md, "The lines of a script").
abbrev pub RowAt : (ℕ → ScriptLine) → (last l : ℕ) → Row → Type 0
RowAt E last l row = FormAt E last l row row.form

-- Where a routine stands, its body is what is left at the first line of the body, and nothing is left at the line that closes
-- it (docs/machine.md, "Routines").
pub record BodyAt (E : ℕ → ScriptLine) (last : ℕ) (entry : Entry) : Type 0 where
  pub from : 1 ≤ entry.line + entry.locals
  pub to : entry.line + entry.locals ≤ entry.body.close
  pub inside : entry.body.close ≤ last
  pub here : (E (entry.line + entry.locals)).left ≡ entry.body
  pub ends : (E entry.body.close).row.form ≡ form.End
  pub closed : (E entry.body.close).left ≡ nothing entry.body.close

-- The routine of this name starts there (docs/machine.md, "Routines").
pub record StartsAt (s : Script) (name : NameId) (start : Start) : Type 0 where
  pub entry : Entry
  pub routine : routine_of s name ≡ Some entry
  pub start_is : start ≡ start_of entry
  pub body : BodyAt (line_at s) (last_line s) entry
