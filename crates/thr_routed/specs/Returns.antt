-- Returns that stand in tries (docs/script.md, "Blocks").
use Rattle.std.specs.Prelude.{ℕ, List, [], ◌∷◌}
use Rattle.thr_syntax.specs.declared.form.Form.{Form}
use Rattle.thr_syntax.specs.declared.form.Form.TheVariants as form
use Rattle.thr_syntax.specs.declared.tree.Clause.{Clause}
use Rattle.thr_syntax.specs.declared.tree.Stmt.{Stmt, TryCatch, TryFinally}
use Rattle.thr_syntax.specs.declared.tree.Script.{Script}
use Rattle.thr_syntax.specs.Lines.{stmt_lines, lines_of}
use Rattle.thr_remainder.specs.Standing.{StandAt}

-- The line is no return.
abbrev pub IsNoReturn : Form → Type 0
IsNoReturn (form.Return e) = ⊥
IsNoReturn _ = Unit {0}

-- None of the lines is.
abbrev pub NoReturns : List Form → Type 0
NoReturns [] = Unit {0}
NoReturns (f ∷ fs) = IsNoReturn f × NoReturns fs

-- No try that stands in the script has a return among its lines (docs/script.md, "Blocks").
pub record TriesHaveNoReturns (s : Script) : Type 0 where
  pub catching : (body : List Stmt) (clauses : List Clause) (line : ℕ) → StandAt (lines_of s) line (stmt_lines (TryCatch body clauses)) → NoReturns (stmt_lines (TryCatch body clauses))
  pub finishing : (body final : List Stmt) (line : ℕ) → StandAt (lines_of s) line (stmt_lines (TryFinally body final)) → NoReturns (stmt_lines (TryFinally body final))
