-- The next step of a thread that owes nothing (docs/machine.md, "The next step").
use Rattle.std.specs.Prelude.{List, [], ◌∷◌, if◌then◌else◌, Option, Some, None}
use Rattle.thr_values.specs.declared.number.NameId.{NameId}
use Rattle.thr_syntax.specs.Shared.{is_shared}
use Rattle.thr_remainder.specs.declared.unwinding.Unwinding.{Unwinding}
use Rattle.thr_remainder.specs.Acts.{Act, Asks}
use Rattle.thr_remainder.specs.Remainders.{Item, Role, Doing, Setting, Remainder, Move, Spot, Place, Nowhere, AtEnd, At, place_in, act_at}
use Rattle.thr_remainder.specs.Calls.{is_point, shape_of}
use Rattle.thr_remainder.specs.Steps.{quiet}
use Rattle.thr_remainder.specs.Outward.{outward, undone}

-- The next step of a thread (docs/machine.md, "The next step").
pub data Next : Type 0 where
  -- its unwinding goes outward
  GoesOutward : (move : Move) → Next
  -- its unwinding undoes a once block
  UndoesOnce : (block : NameId) (move : Move) → Next
  -- no item is left, so it makes its end step
  EndsThread : Next
  -- a once routine ends
  EndsOnce : (block : NameId) (move : Move) → Next
  -- a shared statement that is no point, or one that is
  Shares : (spot : Spot) → Next
  IsAtPoint : (spot : Spot) → Next
  StepsQuietly : (move : Move) → Next

-- An unwinding under way undoes the once block that is innermost, or goes outward (docs/machine.md, "Unwindings").
abbrev pub outward_or_undone : Role → Unwinding → List Item → Remainder → Move → Next
outward_or_undone (Doing scope block routine) u outer r move = UndoesOnce block (undone scope u outer r)
outward_or_undone _ u outer r move = GoesOutward move

-- An unwinding is under way.
abbrev pub next_outward : Unwinding → List Item → Remainder → Move → Next
next_outward u [] r move = GoesOutward move
next_outward u (i ∷ outer) r move = outward_or_undone i.role u outer r move

-- The end of the innermost item: that of a once routine, or a quiet step (docs/machine.md, "Quiet steps").
abbrev pub next_end : Role → List Item → Remainder → Move → Next
next_end (Doing scope block routine) outer r move = EndsOnce block move
next_end _ outer r move = StepsQuietly move

-- A shared statement, which is at a point or isn't (docs/machine.md, "The next step").
abbrev pub next_shared : Act → Spot → Next
next_shared (Asks call) h = if is_point (shape_of call).word then IsAtPoint h else Shares h
next_shared _ h = Shares h

-- The next step at this place, where no unwinding is under way (docs/machine.md, "The next step").
abbrev pub next_at : Place → Remainder → Move → Next
next_at Nowhere r move = EndsThread
next_at (AtEnd close role outer) r move = next_end role outer r move
next_at (At h) r move = if is_shared h.stmt then next_shared (act_at h) h else StepsQuietly move

-- The next step where this unwinding is under way, or none (docs/machine.md, "The next step").
abbrev pub next_by : Setting → Option Unwinding → Remainder → Next
next_by g (Some u) r = next_outward u r.items r (outward g u r)
next_by g None r = next_at (place_in r.items) r (quiet g r)

-- The next step of a thread that owes nothing (docs/machine.md, "The next step").
unfoldable pub next : Setting → Remainder → Next
next g r = next_by g r.under_way r
