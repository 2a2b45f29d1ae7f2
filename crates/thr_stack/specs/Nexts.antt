-- What is next where a context stands.
use Rattle.std.specs.Prelude.{◌≡◌, ◌≢◌, [], Some}
use Rattle.thr_values.specs.declared.number.NameId.{NameId}
use Rattle.thr_syntax.specs.declared.tree.Script.{Script}
use Rattle.thr_remainder.specs.Remainders.{Spot, Move, At, place_in}
use Rattle.thr_remainder.specs.Starts.{line_of_next}
use Rattle.thr_remainder.specs.Steps.{quiet}
use Rattle.thr_remainder.specs.Next.{GoesOutward, UndoesOnce, EndsThread, EndsOnce, Shares, IsAtPoint, StepsQuietly, next}
use Rattle.thr_stack.specs.declared.next.Stood.{Stood}
use Rattle.thr_stack.specs.declared.next.Stood.TheVariants as stood
use Rattle.thr_stack.specs.declared.context.Context.{Context}
use Rattle.thr_stack.specs.Standing.{setting_of, remainder_of}

-- The next step of what a context stands for, and its line (docs/machine.md, "The next step").
abbrev pub IsNext : Script → Context → Stood → Type 0
IsNext s k stood.Ended = (next (setting_of s k) (remainder_of s k) ≡ EndsThread) × (k.frames.items ≡ [])
IsNext s k stood.EndsOnce =
    (block : NameId) × (next (setting_of s k) (remainder_of s k) ≡ EndsOnce block (quiet (setting_of s k) (remainder_of s k))) × (line_of_next (remainder_of s k) ≡ Some k.line)
IsNext s k stood.Shared =
    (spot : Spot) × (spot.line ≡ k.line) × (place_in (remainder_of s k).items ≡ At spot) × (next (setting_of s k) (remainder_of s k) ≡ Shares spot)
IsNext s k stood.Point =
    (spot : Spot) × (spot.line ≡ k.line) × (place_in (remainder_of s k).items ≡ At spot) × (next (setting_of s k) (remainder_of s k) ≡ IsAtPoint spot)
IsNext s k stood.Quiet =
    (next (setting_of s k) (remainder_of s k) ≡ StepsQuietly (quiet (setting_of s k) (remainder_of s k))) × (line_of_next (remainder_of s k) ≡ Some k.line) × (k.frames.items ≢ [])
IsNext s k stood.Undoes = (block : NameId) × (move : Move) × (next (setting_of s k) (remainder_of s k) ≡ UndoesOnce block move)
IsNext s k stood.Outward = (move : Move) × (next (setting_of s k) (remainder_of s k) ≡ GoesOutward move)
