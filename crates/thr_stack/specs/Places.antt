-- Lines where steps stand (docs/machine.md, "The lines of a script").
use Rattle.std.specs.Prelude.{◌≡◌, ◌≢◌, ℕ, [], Some}
use Rattle.thr_syntax.specs.declared.tree.Script.{Script}
use Rattle.thr_remainder.specs.Starts.{line_of_next}
use Rattle.thr_lines.specs.Layout.{line_at}
use Rattle.thr_stack.specs.declared.context.Context.{Context}
use Rattle.thr_stack.specs.Standing.{remainder_of, IsGood, IsLine, IsPlace}

-- The next step of a context stands at this line, where the same is left (docs/machine.md, "The next step").
pub record IsStepLine (s : Script) (k : Context) (l : ℕ) : Type 0 where
  pub line : IsLine s l
  pub left : (line_at s l).left ≡ (line_at s k.line).left
  pub place : IsPlace s l (line_at s l).row.form
  pub next : line_of_next (remainder_of s k) ≡ Some l

-- The context goes on at the line of its next step, and stands for the same.
pub record IsAtStep (s : Script) (old new : Context) : Type 0 where
  pub same : new ≡ record old { line = new.line }
  pub to : remainder_of s new ≡ remainder_of s old
  pub good : IsGood s new
  pub line : new.frames.items ≢ [] → IsStepLine s new new.line
