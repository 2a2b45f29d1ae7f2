-- Stacks as the machine sees them: each stands for what a thread has still to do (docs/machine.md, "What is left to do").
use Rattle.std.specs.Prelude.{◌≡◌, ℕ, ◌+◌, ◌-◌, ◌<◌, ◌≤◌, ◌^◌, List, [], ◌∷◌, length, slice_get, Bool, true, false, ◌||◌, Option, Some, None}
use Rattle.thr_values.specs.declared.number.NameId.{NameId}
use Rattle.thr_values.specs.declared.history.What.{What}
use Rattle.thr_syntax.specs.declared.expr.Expr.{Expr}
use Rattle.thr_syntax.specs.declared.expr.Var.TheVariants.{Shared}
use Rattle.thr_syntax.specs.declared.form.Form.TheVariants as form
use Rattle.thr_syntax.specs.declared.dce.DceCall.{DceCall}
use Rattle.thr_syntax.specs.declared.tree.Script.{Script}
use Rattle.thr_syntax.specs.Lines.{lines_of}
use Rattle.thr_remainder.specs.Acts.{Act, Asks}
use Rattle.thr_remainder.specs.Remainders.{Role, Doing, Item, Setting, Remainder, Move, Spot, At, place_in, act_at}
use Rattle.thr_stack.specs.declared.context.Context.{Context}
use Rattle.thr_stack.specs.Standing.{IsGood}
use Rattle.thr_stack.specs.Standing as contexts

-- What contracts see of a stack. The crates above see it by the words of this page alone.
pub record StackView : Type 0 where
  pub context : Context

-- What a stack stands for: what its thread has still to do in this script (docs/machine.md, "What is left to do").
abbrev pub remainder_of : Script → StackView → Remainder
remainder_of s k = contexts.remainder_of s k.context

-- What stays while the thread runs (docs/machine.md, "Frames").
abbrev pub setting_of : Script → StackView → Setting
setting_of s k = contexts.setting_of s k.context

-- For how many frames there is memory.
abbrev pub most_frames : StackView → ℕ
most_frames k = k.context.frames.most

-- The stack stands on the lines of this script.
abbrev pub IsStack : Script → StackView → Type 0
IsStack s k = IsGood s k.context

-- No frame is left: the thread was not started, or is over.
abbrev pub HasNoFrame : StackView → Type 0
HasNoFrame k = k.context.frames.items ≡ []

-- There are numbers for so many scopes and unwindings more.
pub record CanNumber (r : Remainder) (n : ℕ) : Type 0 where
  pub scopes : r.scopes + n < 2 ^ 64
  pub unwindings : r.unwindings + n < 2 ^ 64

-- This move was made, and its lines written (docs/machine.md, "Quiet steps").
abbrev pub Makes : Script → Move → (old new : StackView) → (before after : List What) → Type 0
Makes s move old new before after = contexts.Makes s move old.context new.context before after

-- Not more scopes were opened, and not more unwindings set out, than lines were written (docs/journal.md, "The lines").
pub record IsCounted (old new : Remainder) (before after : List What) : Type 0 where
  pub scopes : new.scopes + length before ≤ old.scopes + length after
  pub unwindings : new.unwindings + length before ≤ old.unwindings + length after

-- A routine that can be called (docs/script.md, "Faults").
abbrev pub IsRoutine : Script → NameId → Type 0
IsRoutine s name = contexts.IsRoutine s name

-- Each routine that a line calls can be called (docs/script.md, "Names").
abbrev pub CanCall : Script → Type 0
CanCall s = (k : ℕ) (name : NameId) (e : Expr) (place : Option ℕ) → slice_get (lines_of s) k ≡ Some (form.Call name e place) → IsRoutine s name

-- ---- once blocks

-- The item is that of a once block (docs/machine.md, "Once blocks").
abbrev pub is_once : Role → Bool
is_once (Doing scope block routine) = true
is_once _ = false

-- One of these items is that of a once block.
abbrev pub have_once : List Item → Bool
have_once [] = false
have_once (i ∷ items) = is_once i.role || have_once items

-- No once block is open.
abbrev pub HasNoOnce : Remainder → Type 0
HasNoOnce r = have_once r.items ≡ false

-- ---- calls

-- The call that this act asks of the thread service, if it asks one.
abbrev pub asked_by : Act → Option DceCall
asked_by (Asks call) = Some call
asked_by _ = None

-- No call of the thread service is next.
abbrev pub HasNoCall : Remainder → Type 0
HasNoCall r = (spot : Spot) → place_in r.items ≡ At spot → asked_by (act_at spot) ≡ None

-- This call is next, and it stands at its line of the script (docs/machine.md, "Calls").
pub record IsNextCall (s : Script) (r : Remainder) (call : DceCall) : Type 0 where
  pub spot : Spot
  pub here : place_in r.items ≡ At spot
  pub asks : act_at spot ≡ Asks call
  pub stands : slice_get (lines_of s) (spot.line - 1) ≡ Some (form.Dce call)

-- A line of the script sets this shared variable (docs/script.md, "Lines").
pub record IsSet (s : Script) (name : NameId) : Type 0 where
  pub line : ℕ
  pub e : Expr
  pub stands : slice_get (lines_of s) line ≡ Some (form.Set (Shared name) e)
