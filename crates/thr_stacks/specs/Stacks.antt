-- What tables of stacks stand for (docs/machine.md, "What is left to do").
use Rattle.std.specs.Prelude.{◌≡◌, ℕ, [], ◌∷◌, Some}
use Rattle.thr_syntax.specs.declared.tree.Script.{Script}
use Rattle.thr_remainder.specs.Remainders.{Remainder, Setting}
use Rattle.thr_parts.specs.Tables.{Table, get}
use Rattle.thr_frames.specs.Stacks.{StackView, IsStack, remainder_of, setting_of}

-- What is left to do in the threads that have these stacks (docs/machine.md, "What is left to do").
unfoldable pub remainders_of : Script → Table StackView → Table Remainder
remainders_of s [] = []
remainders_of s (e ∷ es) = (e.0, remainder_of s e.1) ∷ remainders_of s es

-- Each stack stands on the lines of this script, and its thread has this setting (docs/machine.md, "Frames").
pub record StacksStand (s : Script) (stacks : Table StackView) (setting : ℕ → Setting) : Type 0 where
  pub stands : (t : ℕ) (k : StackView) → get stacks t ≡ Some k → IsStack s k
  pub set : (t : ℕ) (k : StackView) → get stacks t ≡ Some k → setting_of s k ≡ setting t
