-- One step of the quiet part of a turn.
use Rattle.std.specs.Prelude.{◌≡◌, List, Option, Some, None}
use Rattle.thr_values.specs.declared.history.What.{What}
use Rattle.thr_values.specs.declared.scheduling.Mode.{Mode}
use Rattle.thr_syntax.specs.declared.tree.Script.{Script}
use Rattle.thr_remainder.specs.Remainders.{Setting, Remainder, Move}
use Rattle.thr_remainder.specs.Next.{next}
use Rattle.thr_remainder.specs.Runs.{Halt, Run, after_lines, outward_move, at_next}
use Rattle.thr_stack.specs.declared.context.Context.{Context}
use Rattle.thr_stack.specs.Standing.{IsGood, remainder_of, setting_of}
use Rattle.thr_frames.specs.declared.stopped.Stopped.{Stopped}
use Rattle.thr_frames.specs.Runs.{IsHalt}

-- One step of the quiet part of a turn, before more of it (docs/machine.md, "Turns").
abbrev pub pass : Setting → Mode → (Remainder → Run) → Remainder → Run
pass g mode more r = let out : Move = outward_move (next g r) r in after_lines out.lines (at_next mode more out.to (next g out.to))

-- The step ended the quiet part, or more of it comes.
abbrev pub Passes : Script → Mode → (old new : Context) → (before after : List What) → Option Stopped → Type 0
Passes s mode old new before after (Some x) =
    (halt : Halt) × IsHalt (setting_of s new) (remainder_of s new) x halt × ((more : Remainder → Run) → after_lines before (pass (setting_of s old) mode more (remainder_of s old)) ≡ record { to = remainder_of s new; lines = after; halt = halt })
Passes s mode old new before after None =
    (more : Remainder → Run) → after_lines before (pass (setting_of s old) mode more (remainder_of s old)) ≡ after_lines after (more (remainder_of s new))

-- One step of the quiet part was made, or it is over.
pub record Passed (s : Script) (mode : Mode) (old new : Context) (before after : List What) (result : Option Stopped) : Type 0 where
  pub run : Passes s mode old new before after result
  pub setting : setting_of s new ≡ setting_of s old
  pub good : IsGood s new
