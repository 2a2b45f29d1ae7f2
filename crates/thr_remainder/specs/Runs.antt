-- The quiet part of a turn (docs/machine.md, "Turns").
use Rattle.std.specs.Prelude.{ℕ, zero, suc, List, [], ◌∷◌, ◌++◌, Bool, true, false, ◌&&◌, ◌||◌, if◌then◌else◌}
use Rattle.thr_values.specs.declared.number.NameId.{NameId}
use Rattle.thr_values.specs.declared.scheduling.Mode.{Mode}
use Rattle.thr_values.specs.declared.history.What.{What}
use Rattle.thr_values.specs.declared.history.What.TheVariants as what
use Rattle.thr_remainder.specs.Remainders.{Setting, Remainder, Move, Spot}
use Rattle.thr_remainder.specs.Starts.{still}
use Rattle.thr_remainder.specs.Next.{Next, next}
use Rattle.thr_remainder.specs.Next as step

-- What ends the quiet part of a turn, and with it the turn (docs/machine.md, "Turns").
pub data Halt : Type 0 where
  -- a pending cancel is delivered
  Delivers : Halt
  -- a shared statement is made
  Shares : (spot : Spot) → Halt
  -- a once block is undone by the unwinding under way, or its routine has ended
  Undoes : (block : NameId) (move : Move) → Halt
  Completes : (block : NameId) (move : Move) → Halt
  -- no frame is left
  Ends : Halt
  -- the turn has had its quiet steps
  Pauses : Halt

-- The quiet part of a turn: what is left after it, its lines, and what ends it (docs/machine.md, "Turns").
pub record Run : Type 0 where
  pub to : Remainder
  pub lines : List What
  pub halt : Halt

-- The quiet part is over here, with no line of its own, and this ends it (docs/machine.md, "Turns").
abbrev pub halts : Remainder → Halt → Run
halts r halt = record { to = r; lines = []; halt = halt }

-- The line `pause` ends the turn.
abbrev pub pauses : Remainder → Run
pauses r = record { to = r; lines = what.Pause ∷ []; halt = Pauses }

-- A quiet part with these lines before its own (docs/machine.md, "Turns").
abbrev pub after_lines : List What → Run → Run
after_lines lines run = record { to = run.to; lines = lines ++ run.lines; halt = run.halt }

-- Both cancelabilities are on.
abbrev pub is_asynchronous : Mode → Bool
is_asynchronous m = m.general && m.asynchronous

-- A cancel can be delivered to a thread whose next step is a point or isn't (docs/machine.md, "Cancels").
abbrev pub is_deliverable : Mode → Bool → Bool
is_deliverable m next_is_point = m.pending && m.general && (next_is_point || m.asynchronous)

-- A cancel that can be delivered comes before the next step.
abbrev pub or_delivers : Bool → Halt → Halt
or_delivers deliverable halt = if deliverable then Delivers else halt

-- After a quiet step the turn ends where both cancelabilities are on, and else goes on.
abbrev pub goes_on : Bool → (Remainder → Run) → Move → Run
goes_on true more m = after_lines m.lines (pauses m.to)
goes_on false more m = after_lines m.lines (more m.to)

-- A cancel that can be delivered, or else this quiet step and what comes after it (docs/machine.md, "Turns").
abbrev pub quiet_or_delivers : Bool → Mode → (Remainder → Run) → Remainder → Move → Run
quiet_or_delivers true mode more r m = halts r Delivers
quiet_or_delivers false mode more r m = goes_on (is_asynchronous mode) more m

-- What a turn does at its next step, once its unwinding has gone outward: a cancel is delivered before it where both
-- cancelabilities are on, and in its place where it is a point (docs/machine.md, "Turns").
abbrev pub at_next : Mode → (Remainder → Run) → Remainder → Next → Run
at_next mode more r (step.GoesOutward m) = pauses r
at_next mode more r (step.UndoesOnce block m) = halts r (Undoes block m)
at_next mode more r step.EndsThread = halts r Ends
at_next mode more r (step.EndsOnce block m) = halts r (or_delivers (is_deliverable mode false) (Completes block m))
at_next mode more r (step.Shares h) = halts r (or_delivers (is_deliverable mode false) (Shares h))
at_next mode more r (step.IsAtPoint h) = halts r (or_delivers (is_deliverable mode true) (Shares h))
at_next mode more r (step.StepsQuietly m) = quiet_or_delivers (is_deliverable mode false) mode more r m

-- The unwinding under way goes outward, if there is one and it isn't at a once block.
abbrev pub outward_move : Next → Remainder → Move
outward_move (step.GoesOutward m) r = m
outward_move _ r = still r

-- The quiet part of a turn that has so many quiet steps (docs/machine.md, "Turns").
unfoldable pub run_of : ℕ → Setting → Mode → Remainder → Run
run_of zero g mode r = pauses r
run_of (suc n) g mode r =
    let out : Move = outward_move (next g r) r in after_lines out.lines (at_next mode (run_of n g mode) out.to (next g out.to))

-- How many quiet steps a turn has (docs/machine.md, "Turns").
abbrev pub most_steps : ℕ
most_steps = 64
