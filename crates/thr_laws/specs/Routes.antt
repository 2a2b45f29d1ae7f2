-- The routes of unwindings through open scopes (docs/laws.md, "Routes").
use Rattle.std.specs.Prelude.{ℕ, zero, suc, ◌==◌, ℤ, negsuc, Bool, false, ◌&&◌, List, [], ◌∷◌, if◌then◌else◌, Option, Some, None}
use Rattle.std.specs.Ordering.{int_eq}
use Rattle.thr_values.specs.declared.history.What.{What}
use Rattle.thr_values.specs.declared.history.What.TheVariants as what
use Rattle.thr_values.specs.Exceptions.{cancel_e}
use Rattle.thr_syntax.specs.declared.tree.Script.{Script}
use Rattle.thr_remainder.specs.declared.unwinding.Cause.{Cause}
use Rattle.thr_remainder.specs.declared.unwinding.Cause.TheVariants.{Raised, Exit}
use Rattle.thr_remainder.specs.Expressions.{is_same}
use Rattle.thr_laws.specs.Handlers.{Clause, Catch, CatchAll, Finally, first_clause}
use Rattle.thr_laws.specs.Scopes.{Open, Stage, InBody, InCatch, InFinally, InOnce, InDestructor}

-- An entry of a route: a scope's clause at a line catches, a scope's FINALLY body runs, a once routine is undone, a destructor
-- loses the unwinding, or the unwinding leaves the thread with a value (docs/laws.md, "Routes").
pub data Carried : Type 0 where
  Catches : (scope line : ℕ) → Carried
  RunsFinally : (scope : ℕ) → Carried
  Undoes : (scope : ℕ) → Carried
  Loses : (scope : ℕ) → Carried
  Leaves : (value : ℤ) → Carried

-- Two entries are the same.
abbrev pub is_same_entry : Carried → Carried → Bool
is_same_entry (Catches a l) (Catches b m) = (a == b) && (l == m)
is_same_entry (RunsFinally a) (RunsFinally b) = a == b
is_same_entry (Undoes a) (Undoes b) = a == b
is_same_entry (Loses a) (Loses b) = a == b
is_same_entry (Leaves v) (Leaves w) = int_eq v w
is_same_entry _ _ = false

-- ---- carried lines

-- An unwinding's number with an entry of its route (docs/laws.md, "Routes").
pub record Carrying : Type 0 where
  pub number : ℕ
  pub entry : Carried

-- An unwinding with this number is carried to this entry (docs/laws.md, "Routes").
abbrev pub carries : ℕ → Carried → Option Carrying
carries n entry = Some (record { number = n; entry = entry })

-- What a line carries: the number of an unwinding, and an entry. `finally S 0` carries none (docs/laws.md, "Routes").
abbrev pub carried : What → Option Carrying
carried (what.Catch scope n line) = carries n (Catches scope line.0)
carried (what.Finally scope zero) = None
carried (what.Finally scope (suc n)) = carries (suc n) (RunsFinally scope)
carried (what.Undone scope n) = carries n (Undoes scope)
carried (what.Lost scope n) = carries n (Loses scope)
carried (what.Bottom n v) = carries n (Leaves v)
carried _ = None

-- The entry, where it is the unwinding with this number that is carried (docs/laws.md, "Routes").
abbrev pub entry_with : ℕ → Option Carrying → Option Carried
entry_with n None = None
entry_with n (Some c) = if c.number == n then Some c.entry else None

-- The entry that a line carries this unwinding to, if it carries it.
abbrev pub carried_by : ℕ → What → Option Carried
carried_by n w = entry_with n (carried w)

-- ---- routes

-- The value of a thread that an unwinding leaves: an exit's own, -1 for `cancel_e`, -2 for any other exception
-- (docs/laws.md, "Routes").
abbrev pub value_left : Cause → ℤ
value_left (Exit v) = v
value_left (Raised x) = if is_same x cancel_e then negsuc 0 else negsuc 1

-- The route at a try in its body, which has this first clause for what unwinds, and then the rest of the route.
abbrev pub at_clause : ℕ → Option Clause → List Carried → List Carried
at_clause scope None rest = rest
at_clause scope (Some (Catch line name)) rest = Catches scope line ∷ []
at_clause scope (Some (CatchAll line)) rest = Catches scope line ∷ []
at_clause scope (Some Finally) rest = RunsFinally scope ∷ rest

-- The route at a scope, and then the rest of the route.
abbrev pub at_scope : Script → Cause → ℕ → Stage → List Carried → List Carried
at_scope s cause scope (InBody line) rest = at_clause scope (first_clause s line cause) rest
at_scope s cause scope InCatch rest = rest
at_scope s cause scope (InFinally n) rest = rest
at_scope s cause scope InOnce rest = Undoes scope ∷ rest
at_scope s cause scope InDestructor rest = Loses scope ∷ []

-- The route through these open scopes, from the innermost on (docs/laws.md, "Routes").
abbrev pub route : Script → List Open → Cause → List Carried
route s [] cause = Leaves (value_left cause) ∷ []
route s (o ∷ scopes) cause = at_scope s cause o.scope o.stage (route s scopes cause)
