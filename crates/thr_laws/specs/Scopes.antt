-- The open scopes of a thread, told by its lines (docs/laws.md, "Open scopes").
use Rattle.std.specs.Prelude.{ℕ, ◌==◌, not, List, [], ◌∷◌, if◌then◌else◌}
use Rattle.std.specs.List.{filter, fold}
use Rattle.thr_values.specs.declared.history.What.{What}
use Rattle.thr_values.specs.declared.history.What.TheVariants as what

-- What an open scope is at: a try in its body, with its line, in a catch body, or in its FINALLY body, with the unwinding for
-- which it runs or 0; the routine of a once block; a destructor (docs/laws.md, "Open scopes").
pub data Stage : Type 0 where
  InBody : (line : ℕ) → Stage
  InCatch : Stage
  InFinally : (unwinding : ℕ) → Stage
  InOnce : Stage
  InDestructor : Stage

-- An open scope: its number, and what it is at (docs/laws.md, "Open scopes").
pub record Open : Type 0 where
  pub scope : ℕ
  pub stage : Stage

-- The scope is put in front.
abbrev pub opens : ℕ → Stage → List Open → List Open
opens scope stage scopes = record { scope = scope; stage = stage } ∷ scopes

-- The scope is removed.
abbrev pub without : ℕ → List Open → List Open
without scope scopes = filter (λ o. not (o.scope == scope)) scopes

-- The scopes outside this one: it is removed, and so are those before it.
abbrev pub outside : ℕ → List Open → List Open
outside scope [] = []
outside scope (o ∷ scopes) = if o.scope == scope then scopes else outside scope scopes

-- The open scopes after a line of the thread, the innermost first (docs/laws.md, "Open scopes").
abbrev pub opened_after : List Open → What → List Open
opened_after scopes (what.Try scope line) = opens scope (InBody line.0) scopes
opened_after scopes (what.Once scope block) = opens scope InOnce scopes
opened_after scopes (what.Destroy scope key v) = opens scope InDestructor scopes
opened_after scopes (what.Endtry scope) = without scope scopes
opened_after scopes (what.Endcatch scope) = without scope scopes
opened_after scopes (what.Endfin scope) = without scope scopes
opened_after scopes (what.Done scope) = without scope scopes
opened_after scopes (what.Enddes scope) = without scope scopes
opened_after scopes (what.Catch scope n line) = opens scope InCatch (outside scope scopes)
opened_after scopes (what.Finally scope n) = opens scope (InFinally n) (outside scope scopes)
opened_after scopes (what.Undone scope n) = outside scope scopes
opened_after scopes (what.Lost scope n) = outside scope scopes
opened_after scopes (what.Bottom n v) = []
opened_after scopes _ = scopes

-- The open scopes after these lines of a thread (docs/laws.md, "Open scopes").
abbrev pub opened : List What → List Open
opened lines = fold opened_after [] lines
