-- Statements with an expression, once it is valued.
use Rattle.std.specs.Prelude.{◌≡◌, ℕ, ◌+◌, ℤ, List, ◌∷◌, Bool, true, false, if◌then◌else◌, Option, Some, Err}
use Rattle.thr_values.specs.declared.number.NameId.{NameId}
use Rattle.thr_values.specs.declared.history.What.{What}
use Rattle.thr_values.specs.Exceptions.{stackovf_e}
use Rattle.thr_syntax.specs.declared.expr.Expr.{Expr}
use Rattle.thr_syntax.specs.declared.form.Form.{Form}
use Rattle.thr_syntax.specs.declared.form.Form.TheVariants as form
use Rattle.thr_syntax.specs.declared.tree.Script.{Script}
use Rattle.thr_remainder.specs.Declarations.{routine_of}
use Rattle.thr_remainder.specs.Declarations as declarations
use Rattle.thr_remainder.specs.Remainders.{Setting, Remainder, Move, Place, At, place_in, act_at, has_room}
use Rattle.thr_remainder.specs.Expressions.{Value, SharedValues, value_of}
use Rattle.thr_remainder.specs.Starts.{still}
use Rattle.thr_remainder.specs.Steps.{after, valued, place_for}
use Rattle.thr_lines.specs.Layout.{line_at, last_line}
use Rattle.thr_lines.specs.AtLines.{BodyAt}
use Rattle.thr_stack.specs.declared.frame.Frame.{Frame}
use Rattle.thr_stack.specs.declared.context.Context.{Context}
use Rattle.thr_stack.specs.FrameLists.{below, HasCalled}
use Rattle.thr_stack.specs.Standing.{Makes, IsGood, setting_of, remainder_of, stored_calls, kept_by, role_of}

-- The value with which a statement goes on, or what is raised in its place. Whether a frame fits is asked first, where the
-- statement needs one (docs/machine.md, "Frames").
abbrev pub outcome : Setting → SharedValues → Remainder → (needs : Bool) → Expr → Value
outcome g shared r true e = if has_room g r 1 then value_of g shared r e else Err stackovf_e
outcome g shared r false e = value_of g shared r e

-- The step of the statement at this place, whose expression has this value (docs/machine.md, "Shared statements").
abbrev pub valued_at : Setting → (tells : Bool) → Place → Remainder → ℤ → Move
valued_at g tells (At h) r n = valued g tells (act_at h) h r n
valued_at g tells _ r n = still r

-- What is left after it, where it is no exit (docs/machine.md, "Quiet steps").
abbrev pub after_at : Setting → Place → Remainder → ℤ → Remainder
after_at g (At h) r n = after g (act_at h) n h r
after_at g _ r n = r

-- The statement at the innermost place was carried out with this value of its expression.
abbrev pub Carries : Script → (tells : Bool) → ℤ → (old new : Context) → (before after : List What) → Type 0
Carries s tells n old new before after =
    Makes s (valued_at (setting_of s old) tells (place_in (remainder_of s old).items) (remainder_of s old) n) old new before after

-- The same of one that is no exit, but for its line.
pub record GoesOn (s : Script) (n : ℤ) (old new : Context) : Type 0 where
  pub to : remainder_of s new ≡ after_at (setting_of s old) (place_in (remainder_of s old).items) (remainder_of s old) n
  pub setting : setting_of s new ≡ setting_of s old
  pub good : IsGood s new

-- A statement with an expression, which is no exit.
abbrev pub IsCarried : Form → Type 0
IsCarried (form.Set v e) = Unit {0}
IsCarried (form.Say e) = Unit {0}
IsCarried (form.If e) = Unit {0}
IsCarried (form.While e) = Unit {0}
IsCarried (form.Call r e place) = Unit {0}
IsCarried (form.Return e) = Unit {0}
IsCarried _ = ⊥

-- A call inside all others goes on at the body of this routine, with this argument (docs/machine.md, "Routines").
pub record IsEntered (s : Script) (name : NameId) (place : Option ℕ) (back : ℕ) (n : ℤ) (old new : Context) : Type 0 where
  pub entry : declarations.Entry
  pub routine : routine_of s name ≡ Some entry
  pub body : BodyAt (line_at s) (last_line s) entry
  pub called : HasCalled place back entry.locals n old.frames new.frames
  pub same : new ≡ record old { frames = new.frames; line = entry.line + entry.locals }

-- A call has returned this value to the line `back`, where its frame is off (docs/machine.md, "Routines").
abbrev pub IsReturned : (old new : Context) → (place : Option ℕ) → (back : ℕ) → ℤ → Type 0
IsReturned old new place back n =
    new ≡ record old { frames = record old.frames { calls = stored_calls place n old.frames.calls }; line = back; value = kept_by old.frames.items n old.value }

-- The innermost frame is off, and its call has returned this value (docs/machine.md, "Routines").
pub record HasReturned (n : ℤ) (old new : Context) : Type 0 where
  pub frame : Frame
  pub items : old.frames.items ≡ frame ∷ new.frames.items
  pub size : new.frames.size ≡ old.frames.size
  pub same : new ≡ record old { frames = new.frames; line = frame.back; value = kept_by new.frames.items n old.value }
  pub calls : (s : Script) → new.frames.calls ≡ stored_calls (place_for (role_of s old.frames.calls frame.kind)) n (below old.frames.calls frame.kind)
