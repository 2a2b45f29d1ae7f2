-- What ends the quiet part of a turn, by the answer that tells it.
use Rattle.std.proofs.Common.{◌≡◌, ℤ, List, subst}
use Rattle.thr_values.specs.declared.number.NameId.{NameId}
use Rattle.thr_values.specs.declared.number.Line.{Line}
use Rattle.thr_values.specs.declared.number.Tid.{Tid}
use Rattle.thr_values.specs.declared.history.Entry.{Entry}
use Rattle.thr_syntax.specs.declared.tree.Script.{Script}
use Rattle.thr_remainder.specs.Remainders.{Remainder, Setting, Move, Spot, At, place_in, act_at}
use Rattle.thr_remainder.specs.Next.{EndsOnce, UndoesOnce, next}
use Rattle.thr_remainder.specs.Runs.{Halt, Shares, Undoes, Completes}
use Rattle.thr_parts.specs.Tables.{Table}
use Rattle.thr_model.specs.Turns.{shared_made, undoing_made, completion_made, halt_made}
use Rattle.thr_services.specs.Views.{ServicesView}
use Rattle.thr_frames.specs.declared.stopped.Stopped.{Stopped}
use Rattle.thr_frames.specs.declared.stopped.Stopped.TheVariants as stopped
use Rattle.thr_frames.specs.Stacks.{StackView, remainder_of, setting_of}
use Rattle.thr_frames.specs.Runs.{IsHalt}
use Rattle.thr_turns.specs.declared.workings.Left.{Left}
use Rattle.thr_turns.specs.Steps.{StepsTo}

-- What ended it is this.
halt-as : (s : Script) (t : Tid) (v v' : ServicesView) (shared shared' : Table ℤ) (k k' : StackView) (before after : List Entry) (left : Left) (h known : Halt) → h ≡ known
    → StepsTo s t v v' shared shared' k k' before after left (λ st. halt_made s st t (setting_of s k) (remainder_of s k) known)
    → StepsTo s t v v' shared shared' k k' before after left (λ st. halt_made s st t (setting_of s k) (remainder_of s k) h)
halt-as s t v v' shared shared' k k' before after left h known e steps = rw e steps

-- The answer is this one.
known-halt : (g : Setting) (r : Remainder) (x known : Stopped) (h : Halt) → x ≡ known → IsHalt g r x h → IsHalt g r known h
known-halt g r x known h e is = subst (λ (y : Stopped). IsHalt g r y h) e is

pub shared-halt : (s : Script) (t : Tid) (v v' : ServicesView) (shared shared' : Table ℤ) (k k' : StackView) (before after : List Entry) (left : Left) (x : Stopped) (line : Line) → x ≡ stopped.Shared line
    → ((spot : Spot) → place_in (remainder_of s k).items ≡ At spot
    → StepsTo s t v v' shared shared' k k' before after left (λ st. shared_made s st t (setting_of s k) (remainder_of s k) (act_at spot)))
    → (h : Halt) → IsHalt (setting_of s k) (remainder_of s k) x h
    → StepsTo s t v v' shared shared' k k' before after left (λ st. halt_made s st t (setting_of s k) (remainder_of s k) h)
shared-halt s t v v' shared shared' k k' before after left x line e steps h is =
    let known = known-halt (setting_of s k) (remainder_of s k) x (stopped.Shared line) h e is in
    halt-as s t v v' shared shared' k k' before after left h (Shares known.0) known.3 (steps known.0 known.2)

pub done-halt : (s : Script) (t : Tid) (v v' : ServicesView) (shared shared' : Table ℤ) (k k' : StackView) (before after : List Entry) (left : Left) (x : Stopped) → x ≡ stopped.OnceDone
    → ((block : NameId) (move : Move) → next (setting_of s k) (remainder_of s k) ≡ EndsOnce block move
    → StepsTo s t v v' shared shared' k k' before after left (λ st. completion_made st t block move))
    → (h : Halt) → IsHalt (setting_of s k) (remainder_of s k) x h
    → StepsTo s t v v' shared shared' k k' before after left (λ st. halt_made s st t (setting_of s k) (remainder_of s k) h)
done-halt s t v v' shared shared' k k' before after left x e steps h is =
    let known = known-halt (setting_of s k) (remainder_of s k) x stopped.OnceDone h e is in
    halt-as s t v v' shared shared' k k' before after left h (Completes known.0 known.1) known.3 (steps known.0 known.1 known.2)

pub undone-halt : (s : Script) (t : Tid) (v v' : ServicesView) (shared shared' : Table ℤ) (k k' : StackView) (before after : List Entry) (left : Left) (x : Stopped) → x ≡ stopped.OnceUndone
    → ((block : NameId) (move : Move) → next (setting_of s k) (remainder_of s k) ≡ UndoesOnce block move
    → StepsTo s t v v' shared shared' k k' before after left (λ st. undoing_made st t block move))
    → (h : Halt) → IsHalt (setting_of s k) (remainder_of s k) x h
    → StepsTo s t v v' shared shared' k k' before after left (λ st. halt_made s st t (setting_of s k) (remainder_of s k) h)
undone-halt s t v v' shared shared' k k' before after left x e steps h is =
    let known = known-halt (setting_of s k) (remainder_of s k) x stopped.OnceUndone h e is in
    halt-as s t v v' shared shared' k k' before after left h (Undoes known.0 known.1) known.3 (steps known.0 known.1 known.2)
