-- A step of a thread writes one line at most.
use Rattle.std.proofs.Common.{ℕ, ◌≤◌, ℤ, Bool, true, false, List, [], ◌∷◌, length, Option, Some, None, Ok, Err, arith}
use Rattle.std.specs.Prelude.{if◌then◌else◌}
use Rattle.thr_values.specs.declared.exception.Exc.{Exc}
use Rattle.thr_values.specs.declared.reply.Reply.{Reply}
use Rattle.thr_values.specs.Exceptions.{stackovf_e}
use Rattle.thr_syntax.specs.declared.tree.Script.{Script}
use Rattle.thr_remainder.specs.declared.unwinding.Unwinding.{Unwinding}
use Rattle.thr_remainder.specs.Acts.{Act, Sets, Says, Chooses, Repeats, Tries, Raises, RaisesAgain, Calls, Returns, Exits, Asks}
use Rattle.thr_remainder.specs.Remainders.{Item, Role, Calling, Trying, Catching, Finishing, Doing, Barrier, Setting, Remainder, Move, Spot, Place, Nowhere, AtEnd, At, place_in, act_at, has_room}
use Rattle.thr_remainder.specs.Expressions.{Value, SharedValues, none_shared, value_of}
use Rattle.thr_remainder.specs.Starts.{raised, if_room}
use Rattle.thr_remainder.specs.Steps.{told, valued, or_raised, made, ended, step_at, quiet, shared_step}
use Rattle.thr_remainder.specs.Outward.{Meeting, Drops, Begins, Undoes, Loses, meeting, met, outward_from, outward}
use Rattle.thr_remainder.specs.Replies.{raised_if, replied_by, replied_at, replied}

abbrev pub IsShort : Move → Type 0
IsShort m = length m.lines ≤ 1

-- ---- steps at the innermost place

either_short : (b : Bool) (m o : Move) → IsShort m → IsShort o → IsShort (if b then m else o)
either_short true m o h k = h
either_short false m o h k = k

told_short : (tells : Bool) (act : Act) (line : ℕ) (n : ℤ) → length (if tells then told act line n else []) ≤ 1
told_short false act line n = omega arith
told_short true (Sets v e) line n = omega arith
told_short true (Says e) line n = omega arith
told_short true (Chooses e body other) line n = omega arith
told_short true (Repeats e again) line n = omega arith
told_short true (Calls routine e place) line n = omega arith
told_short true (Returns e) line n = omega arith
told_short true _ line n = omega arith

or_raised_short : (value : Value) (step : ℤ → Move) (r : Remainder) → ((n : ℤ) → IsShort (step n)) → IsShort (or_raised value step r)
or_raised_short (Ok n) step r h = h n
or_raised_short (Err x) step r h = omega arith

room_short : (g : Setting) (r : Remainder) (m : Move) → IsShort m → IsShort (if_room g r m)
room_short g r m h = either_short (has_room g r 1) m (raised stackovf_e r) h (omega arith)

module _ (g : Setting) (tells : Bool) (shared : SharedValues) (h : Spot) (r : Remainder) where
  made_short : (act : Act) → IsShort (made g tells shared act h r)
  made_short (Sets v e) = or_raised_short (value_of g shared r e) (valued g tells (Sets v e) h r) r (λ n. told_short tells (Sets v e) h.line n)
  made_short (Says e) = or_raised_short (value_of g shared r e) (valued g tells (Says e) h r) r (λ n. told_short tells (Says e) h.line n)
  made_short (Chooses e body other) = or_raised_short (value_of g shared r e) (valued g tells (Chooses e body other) h r) r (λ n. told_short tells (Chooses e body other) h.line n)
  made_short (Repeats e again) = or_raised_short (value_of g shared r e) (valued g tells (Repeats e again) h r) r (λ n. told_short tells (Repeats e again) h.line n)
  made_short (Tries body ways) = either_short (has_room g r 1) _ _ (omega arith) (omega arith)
  made_short (Raises name) = omega arith
  made_short RaisesAgain = omega arith
  made_short (Calls routine e place) =
      room_short g r (or_raised (value_of g shared r e) (valued g tells (Calls routine e place) h r) r)
      (or_raised_short (value_of g shared r e) (valued g tells (Calls routine e place) h r) r (λ n. told_short tells (Calls routine e place) h.line n))
  made_short (Returns e) = or_raised_short (value_of g shared r e) (valued g tells (Returns e) h r) r (λ n. told_short tells (Returns e) h.line n)
  made_short (Exits e) = or_raised_short (value_of g shared r e) (valued g tells (Exits e) h r) r (λ n. omega arith)
  made_short (Asks call) = omega arith

ended_short : (role : Role) (outer : List Item) (r : Remainder) → IsShort (ended role outer r)
ended_short (Calling locals place) outer r = omega arith
ended_short (Trying scope ways) outer r = omega arith
ended_short (Catching scope caught) outer r = omega arith
ended_short (Finishing scope pending) outer r = omega arith
ended_short (Doing scope block routine) outer r = omega arith
ended_short (Barrier scope key routine) outer r = omega arith

step_short : (g : Setting) (tells : Bool) (shared : SharedValues) (place : Place) (r : Remainder) → IsShort (step_at g tells shared place r)
step_short g tells shared Nowhere r = omega arith
step_short g tells shared (AtEnd close role outer) r = ended_short role outer r
step_short g tells shared (At h) r = made_short g tells shared h r (act_at h)

pub quiet_short : (g : Setting) (r : Remainder) → IsShort (quiet g r)
unfolding quiet
quiet_short g r = step_short g false none_shared (place_in r.items) r

pub shared_short : (g : Setting) (shared : SharedValues) (r : Remainder) → IsShort (shared_step g shared r)
unfolding shared_step
shared_short g shared r = step_short g true shared (place_in r.items) r

-- ---- unwindings

met_short : (meets : Meeting) (i : Item) (outer : List Item) (r : Remainder) (further : Move) → IsShort further → IsShort (met meets i outer r further)
met_short Drops i outer r further h = h
met_short (Begins role body line) i outer r further h = omega arith
met_short Undoes i outer r further h = omega arith
met_short (Loses line) i outer r further h = omega arith

from_short : (s : Script) (u : Unwinding) (items : List Item) (r : Remainder) → IsShort (outward_from s u items r)
from_short s u [] r = omega arith
from_short s u (i ∷ outer) r = met_short (meeting s i.role u) i outer r (outward_from s u outer r) (from_short s u outer r)

pub outward_short : (g : Setting) (u : Unwinding) (r : Remainder) → IsShort (outward g u r)
unfolding outward
outward_short g u r = from_short g.script u r.items r

-- ---- replies

raised_if_short : (x : Option Exc) (r : Remainder) → IsShort (raised_if x r)
raised_if_short None r = omega arith
raised_if_short (Some x) r = omega arith

replied_by_short : (g : Setting) (act : Act) (h : Spot) (r : Remainder) (y : Reply) → IsShort (replied_by g act h r y)
replied_by_short g (Asks call) h r y = raised_if_short _ _
replied_by_short g _ h r y = omega arith

replied_at_short : (g : Setting) (place : Place) (r : Remainder) (y : Reply) → IsShort (replied_at g place r y)
replied_at_short g (At h) r y = replied_by_short g (act_at h) h r y
replied_at_short g _ r y = omega arith

pub replied_short : (g : Setting) (y : Reply) (r : Remainder) → IsShort (replied g y r)
unfolding replied
replied_short g y r = replied_at_short g (place_in r.items) r y
