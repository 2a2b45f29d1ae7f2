-- Quiet parts of turns (docs/machine.md, "Turns").
use Rattle.std.specs.Prelude.{◌≡◌, ℕ, List, [], Bool, true, false, Some}
use Rattle.thr_values.specs.declared.number.NameId.{NameId}
use Rattle.thr_values.specs.declared.history.What.{What}
use Rattle.thr_values.specs.declared.scheduling.Mode.{Mode}
use Rattle.thr_syntax.specs.declared.tree.Script.{Script}
use Rattle.thr_remainder.specs.Remainders.{Setting, Remainder, Move, Spot, At, place_in}
use Rattle.thr_remainder.specs.Starts.{line_of_next}
use Rattle.thr_remainder.specs.Next.{Next, UndoesOnce, EndsOnce, IsAtPoint, next}
use Rattle.thr_remainder.specs.Runs.{Halt, Delivers, Shares, Undoes, Completes, Ends, Pauses, run_of, most_steps}
use Rattle.thr_frames.specs.declared.stopped.Stopped.{Stopped}
use Rattle.thr_frames.specs.declared.stopped.Stopped.TheVariants as stopped
use Rattle.thr_stack.specs.declared.context.Context.{Context}
use Rattle.thr_stack.specs.Standing.{IsGood, remainder_of, setting_of}
use Rattle.thr_frames.specs.Stacks.{StackView}

-- The next step is a point (docs/machine.md, "Cancels").
abbrev pub is_at_point : Next → Bool
is_at_point (IsAtPoint spot) = true
is_at_point _ = false

-- A cancel is delivered at this line, in place of a point or before another step (docs/machine.md, "Cancels").
pub record IsDelivered (g : Setting) (r : Remainder) (point : Bool) (line : ℕ) (h : Halt) : Type 0 where
  pub halt : h ≡ Delivers
  pub line_is : line_of_next r ≡ Some line
  pub point_is : is_at_point (next g r) ≡ point

-- What the answer says of what ends the quiet part, where this is left (docs/machine.md, "Turns").
abbrev pub IsHalt : Setting → Remainder → Stopped → Halt → Type 0
IsHalt g r (stopped.Shared line) h = (spot : Spot) × (spot.line ≡ line.0) × (place_in r.items ≡ At spot) × (h ≡ Shares spot)
IsHalt g r (stopped.Point line) h = IsDelivered g r true line.0 h
IsHalt g r (stopped.Async line) h = IsDelivered g r false line.0 h
IsHalt g r stopped.Paused h = h ≡ Pauses
IsHalt g r (stopped.Ended value) h = (h ≡ Ends) × (value ≡ r.value) × (r.items ≡ [])
IsHalt g r stopped.OnceDone h = (block : NameId) × (move : Move) × (next g r ≡ EndsOnce block move) × (h ≡ Completes block move)
IsHalt g r stopped.OnceUndone h = (block : NameId) × (move : Move) × (next g r ≡ UndoesOnce block move) × (h ≡ Undoes block move)

-- The quiet part of a turn was run, and these are its lines (docs/machine.md, "Turns").
pub record RanTo (s : Script) (mode : Mode) (old new : Context) (lines : List What) (x : Stopped) : Type 0 where
  pub halt : Halt
  pub is : IsHalt (setting_of s new) (remainder_of s new) x halt
  pub run : run_of most_steps (setting_of s old) mode (remainder_of s old) ≡ record { to = remainder_of s new; lines = lines; halt = halt }
  pub setting : setting_of s new ≡ setting_of s old
  pub stack : IsGood s new

-- The same of a stack.
abbrev pub Ran : Script → Mode → (old new : StackView) → List What → Stopped → Type 0
Ran s mode old new lines x = RanTo s mode old.context new.context lines x

-- No cancel is delivered.
abbrev pub IsUndelivered : Stopped → Type 0
IsUndelivered (stopped.Point line) = ⊥
IsUndelivered (stopped.Async line) = ⊥
IsUndelivered _ = Unit {0}

-- No once block is done or undone.
abbrev pub IsOutsideOnce : Stopped → Type 0
IsOutsideOnce stopped.OnceDone = ⊥
IsOutsideOnce stopped.OnceUndone = ⊥
IsOutsideOnce _ = Unit {0}
