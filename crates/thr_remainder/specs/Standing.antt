-- What is left stands at its lines of the canonical text (docs/machine.md, "What is left to do").
use Rattle.std.specs.Prelude.{◌≡◌, ℕ, ◌+◌, List, [], ◌∷◌, ◌++◌, length, Bool, true, false}
use Rattle.thr_syntax.specs.declared.form.Form.{Form}
use Rattle.thr_syntax.specs.declared.form.Form.TheVariants as form
use Rattle.thr_syntax.specs.Lines.{stmt_lines, clause_form}
use Rattle.thr_remainder.specs.Places.{Placed, Left, Handler, Ways, Catches, Finally}
use Rattle.thr_remainder.specs.Acts.{Act, Sets, Says, Chooses, Repeats, Tries, Raises, RaisesAgain, Calls, Returns, Exits, Asks}

-- These lines stand in the text from this line on, from 1.
pub record StandAt (text : List Form) (line : ℕ) (lines : List Form) : Type 0 where
  pub above : List Form
  pub below : List Form
  pub parts : text ≡ above ++ (lines ++ below)
  pub place : line ≡ length above + 1

-- A line that can close a body whose end is a step: `end`, `endtry`, a clause or `finally`.
abbrev pub can_close : Form → Bool
can_close form.End = true
can_close form.Endtry = true
can_close (form.Catch x) = true
can_close form.CatchAll = true
can_close form.Finally = true
can_close _ = false

-- Such a line stands at this line.
pub record ClosesAt (text : List Form) (line : ℕ) : Type 0 where
  pub closing : Form
  pub stands : StandAt text line (closing ∷ [])
  pub closes : can_close closing ≡ true

-- Each statement stands at its line.
abbrev pub ArePlaced : List Form → List Placed → Type 0
ArePlaced text [] = Unit {0}
ArePlaced text (p ∷ todo) = StandAt text p.line (stmt_lines p.stmt) × ArePlaced text todo

-- What is left of a body stands at its lines.
pub record IsLeft (text : List Form) (left : Left) : Type 0 where
  pub todo : ArePlaced text left.todo
  pub close : ClosesAt text left.close

-- Each catch clause stands at its line.
abbrev pub AreHandlers : List Form → List Handler → Type 0
AreHandlers text [] = Unit {0}
AreHandlers text (h ∷ handlers) = StandAt text h.line (clause_form h.names ∷ []) × IsLeft text h.body × AreHandlers text handlers

-- The catch clauses of a try, or its FINALLY body, stand at their lines (docs/machine.md, "What is left to do").
abbrev pub AreWays : List Form → Ways → Type 0
AreWays text (Catches handlers) = AreHandlers text handlers
AreWays text (Finally body) = IsLeft text body

-- What an act leaves stands at its lines.
abbrev pub IsAct : List Form → Act → Type 0
IsAct text (Chooses e body other) = IsLeft text body × IsLeft text other
IsAct text (Repeats e again) = IsLeft text again
IsAct text (Tries body ways) = IsLeft text body × AreWays text ways
IsAct text (Sets v e) = Unit {0}
IsAct text (Says e) = Unit {0}
IsAct text (Raises name) = Unit {0}
IsAct text RaisesAgain = Unit {0}
IsAct text (Calls routine e place) = Unit {0}
IsAct text (Returns e) = Unit {0}
IsAct text (Exits e) = Unit {0}
IsAct text (Asks call) = Unit {0}
