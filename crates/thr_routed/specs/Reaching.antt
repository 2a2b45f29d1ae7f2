-- What a thread can come to have still to do (docs/machine.md, "What is left to do").
use Rattle.std.specs.Prelude.{◌≡◌, ℕ, ℤ, Bool, true, false, List, ◌∷◌, Some}
use Rattle.thr_values.specs.declared.number.NameId.{NameId}
use Rattle.thr_values.specs.declared.exception.Exc.{Exc}
use Rattle.thr_values.specs.declared.reply.Reply.{Reply}
use Rattle.thr_syntax.specs.declared.tree.Script.{Script}
use Rattle.thr_remainder.specs.declared.unwinding.Unwinding.{Unwinding}
use Rattle.thr_remainder.specs.Places.{Ways}
use Rattle.thr_remainder.specs.Acts.{Act, Tries, Returns}
use Rattle.thr_remainder.specs.Remainders.{Item, Setting, Remainder, Role, Place, At, place_in, act_at, is_call}
use Rattle.thr_remainder.specs.Expressions.{SharedValues}
use Rattle.thr_remainder.specs.Starts.{fresh, raised, delivered, begins_once, begins_destructor}
use Rattle.thr_remainder.specs.Steps.{quiet, shared_step}
use Rattle.thr_remainder.specs.Outward.{outward, undone}
use Rattle.thr_remainder.specs.Replies.{replied}
use Rattle.thr_routed.specs.Courses.{HasClauses}

-- A thread of this script can come to have this still to do, by steps of which each is one of the machine's.
pub data Reached (s : Script) : Remainder → Type 0 where
  freshly : (routine : NameId) (n : ℤ) → Reached s (fresh s routine n)
  quietly : (g : Setting) (r : Remainder) → g.script ≡ s → Reached s r → Reached s (quiet g r).to
  by_shared_step : (g : Setting) (shared : SharedValues) (r : Remainder) → g.script ≡ s → Reached s r → Reached s (shared_step g shared r).to
  outwardly : (g : Setting) (u : Unwinding) (r : Remainder) → g.script ≡ s → Reached s r → r.under_way ≡ Some u → Reached s (outward g u r).to
  by_undoing : (scope : ℕ) (u : Unwinding) (i : Item) (outer : List Item) (r : Remainder) → r.items ≡ i ∷ outer → Reached s r → Reached s (undone scope u outer r).to
  by_reply : (g : Setting) (reply : Reply) (r : Remainder) → g.script ≡ s → Reached s r → Reached s (replied g reply r).to
  by_raise : (x : Exc) (r : Remainder) → Reached s r → Reached s (raised x r).to
  by_delivery : (r : Remainder) → Reached s r → Reached s (delivered r).to
  by_once : (g : Setting) (block routine : NameId) (r : Remainder) → g.script ≡ s → Reached s r → Reached s (begins_once g block routine r).to
  by_destructor : (g : Setting) (key routine : NameId) (n : ℤ) (r : Remainder) → g.script ≡ s → Reached s r → Reached s (begins_destructor g key routine n r).to

abbrev pub IsRightReturn : Type 0 → Bool → Type 0
IsRightReturn MayReturn true = Unit {0}
IsRightReturn MayReturn false = MayReturn

-- A try at this line has the ways that it may have, and a return returns from a call, or it needn't.
abbrev pub IsRightAct : (ℕ → Ways → Type 0) → Type 0 → ℕ → Role → Act → Type 0
IsRightAct HasWays MayReturn line role (Tries body ways) = HasWays line ways
IsRightAct HasWays MayReturn line role (Returns e) = IsRightReturn MayReturn (is_call role)
IsRightAct HasWays MayReturn line role _ = Unit {0}

abbrev pub IsRightAt : (ℕ → Ways → Type 0) → Type 0 → Place → Type 0
IsRightAt HasWays MayReturn (At h) = IsRightAct HasWays MayReturn h.line h.role (act_at h)
IsRightAt HasWays MayReturn _ = Unit {0}

-- The lines of the script tell the ways of the try that this act of a statement at this line is, if it is one.
abbrev pub TellsWays : Script → ℕ → Act → Type 0
TellsWays s line (Tries body ways) = HasClauses s line ways
TellsWays s line _ = Unit {0}

-- So it is at each place that a thread can come to.
pub record IsRight (s : Script) (HasWays : ℕ → Ways → Type 0) (MayReturn : Type 0) : Type 0 where
  pub at : (r : Remainder) → Reached s r → IsRightAt HasWays MayReturn (place_in r.items)

-- Ways that may be anything.
abbrev pub AnyWays : ℕ → Ways → Type 0
AnyWays line ways = Unit {0}

-- A return that a thread can come to stands in no scope of its routine: what it leaves is a call (docs/script.md, "Blocks").
abbrev pub ReturnsLeaveNoScope : Script → Type 0
ReturnsLeaveNoScope s = IsRight s AnyWays ⊥
