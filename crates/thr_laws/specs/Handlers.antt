-- The clauses of a try, read from the lines of the script (docs/laws.md, "Routes").
use Rattle.std.specs.Prelude.{ℕ, zero, suc, ◌+◌, Bool, true, false, List, [], ◌∷◌, drop, Option}
use Rattle.std.specs.List.{find}
use Rattle.thr_values.specs.declared.number.NameId.{NameId}
use Rattle.thr_syntax.specs.declared.form.Form.{Form}
use Rattle.thr_syntax.specs.declared.form.Form.TheVariants as form
use Rattle.thr_syntax.specs.declared.tree.Script.{Script}
use Rattle.thr_syntax.specs.Lines.{lines_of}
use Rattle.thr_remainder.specs.declared.unwinding.Cause.{Cause}
use Rattle.thr_remainder.specs.declared.unwinding.Cause.TheVariants.{Raised, Exit}
use Rattle.thr_remainder.specs.Declarations.{exception_value}
use Rattle.thr_remainder.specs.Expressions.{is_same}

-- A clause of a try: `catch` with its line and exception, `catch_all` with its line, or `finally` (docs/laws.md, "Routes").
pub data Clause : Type 0 where
  Catch : (line : ℕ) (name : NameId) → Clause
  CatchAll : (line : ℕ) → Clause
  Finally : Clause

-- The clauses of a try in the lines below it, the first of which has this number. So many tries are open inside it.
abbrev pub clauses_below : (inside line : ℕ) → List Form → List Clause
clauses_below inside line [] = []
clauses_below inside line (form.Try ∷ forms) = clauses_below (inside + 1) (line + 1) forms
clauses_below zero line (form.Catch x ∷ forms) = Catch line x ∷ clauses_below 0 (line + 1) forms
clauses_below zero line (form.CatchAll ∷ forms) = CatchAll line ∷ clauses_below 0 (line + 1) forms
clauses_below zero line (form.Finally ∷ forms) = Finally ∷ clauses_below 0 (line + 1) forms
clauses_below zero line (form.Endtry ∷ forms) = []
clauses_below (suc inside) line (form.Endtry ∷ forms) = clauses_below inside (line + 1) forms
clauses_below inside line (f ∷ forms) = clauses_below inside (line + 1) forms

-- The clauses of the try that opens at this line of the script, in their order (docs/laws.md, "Routes").
abbrev pub clauses_at : Script → ℕ → List Clause
clauses_at s line = clauses_below 0 (line + 1) (drop line (lines_of s))

-- The clause takes what unwinds: `finally` anything, `catch_all` any exception, `catch` a matching one. No `catch` takes an exit
-- (docs/laws.md, "Routes").
abbrev pub takes : Script → Cause → Clause → Bool
takes s (Raised x) (Catch line name) = is_same x (exception_value s name)
takes s (Raised x) (CatchAll line) = true
takes s (Exit v) (Catch line name) = false
takes s (Exit v) (CatchAll line) = false
takes s cause Finally = true

-- The first clause that takes it, of the try that opens at this line.
abbrev pub first_clause : Script → ℕ → Cause → Option Clause
first_clause s line cause = find (takes s cause) (clauses_at s line)
