-- The once blocks whose routines run in a thread fit tables by names after each of its steps.
use Rattle.std.proofs.Common.{ℕ, ◌<◌, ℤ, pos, Bool, true, false, List, [], ◌∷◌, Option, Some, None, Ok, Err, if◌then◌else◌}
use Rattle.thr_values.specs.declared.number.NameId.{NameId}
use Rattle.thr_values.specs.declared.exception.Exc.{Exc}
use Rattle.thr_values.specs.declared.reply.Reply.{Reply}
use Rattle.thr_syntax.specs.declared.expr.Var.{Var}
use Rattle.thr_syntax.specs.declared.expr.Var.TheVariants.{Local, Shared}
use Rattle.thr_syntax.specs.declared.tree.Script.{Script}
use Rattle.thr_remainder.specs.declared.unwinding.Cause.{Cause}
use Rattle.thr_remainder.specs.declared.unwinding.Cause.TheVariants.{Raised, Exit}
use Rattle.thr_remainder.specs.declared.unwinding.Unwinding.{Unwinding}
use Rattle.thr_remainder.specs.Places.{Placed, Handler, Ways, Catches, Finally}
use Rattle.thr_remainder.specs.Acts.{Act, Sets, Says, Chooses, Repeats, Tries, Raises, RaisesAgain, Calls, Returns, Exits, Asks}
use Rattle.thr_remainder.specs.Remainders.{Item, Role, Calling, Trying, Catching, Finishing, Doing, Barrier, Setting, Remainder, Move, Spot, Place, Nowhere, AtEnd, At, place_in, place_inside, act_at, passed, role_with, is_call, with_local, has_room}
use Rattle.thr_remainder.specs.Expressions.{Value, SharedValues, none_shared, value_of}
use Rattle.thr_remainder.specs.Starts.{begins_once}
use Rattle.thr_remainder.specs.Steps.{stored, place_for, variable_set, or_raised, made, ended, step_at, quiet, shared_step}
use Rattle.thr_remainder.specs.Outward.{Meeting, Drops, Begins, Undoes, Loses, meeting, at_try, caught_by, first_catch, met, outward_from, outward}
use Rattle.thr_remainder.specs.Replies.{stored_in, raised_if, replied_by, replied_at, replied, raised_by}
use Rattle.thr_remainder.specs.Calls.{stores}
use Rattle.thr_parts.specs.Tables.{names}

-- The once block whose routine runs in this item fits tables by names.
abbrev pub IsFit : Role → Type 0
IsFit (Doing scope block routine) = block.0 < names
IsFit _ = Unit {0}

abbrev pub AreFit : List Item → Type 0
AreFit [] = Unit {0}
AreFit (i ∷ items) = IsFit i.role × AreFit items

-- ---- lists of items

abbrev Has : Role → List Item → Type 0
Has role outer = IsFit role × AreFit outer

local_at : (p : ℕ) (v : ℤ) (role : Role) (outer rest : List Item) → (AreFit outer → AreFit rest) → Has role outer → Has (role_with p v role) (if is_call role then outer else rest)
local_at p v (Calling locals place) outer rest keeps h = h
local_at p v (Trying scope ways) outer rest keeps h = (h.0, keeps h.1)
local_at p v (Catching scope caught) outer rest keeps h = (h.0, keeps h.1)
local_at p v (Finishing scope pending) outer rest keeps h = (h.0, keeps h.1)
local_at p v (Doing scope block routine) outer rest keeps h = (h.0, keeps h.1)
local_at p v (Barrier scope key routine) outer rest keeps h = (h.0, keeps h.1)

local_fit : (p : ℕ) (v : ℤ) (items : List Item) → AreFit items → AreFit (with_local p v items)
local_fit p v [] h = tt
local_fit p v (i ∷ items) h = local_at p v i.role items (with_local p v items) (local_fit p v items) h

variable_fit : (v : Var) (x : ℤ) (items : List Item) → AreFit items → AreFit (variable_set v x items)
variable_fit (Local p) x items h = local_fit p x items h
variable_fit (Shared name) x items h = h

stored_fit : (place : Option ℕ) (x : ℤ) (items : List Item) → AreFit items → AreFit (stored place x items)
stored_fit None x items h = h
stored_fit (Some p) x items h = local_fit p x items h

stores_fit : (stores : List (Var × ℤ)) (items : List Item) → AreFit items → AreFit (stored_in stores items)
stores_fit [] items h = h
stores_fit ((Local p, x) ∷ stores) items h = stores_fit stores (with_local p x items) (local_fit p x items h)
stores_fit ((Shared name, x) ∷ stores) items h = stores_fit stores items h

-- ---- places

abbrev pub PlaceFits : Place → Type 0
PlaceFits Nowhere = Unit {0}
PlaceFits (AtEnd close role outer) = IsFit role × AreFit outer
PlaceFits (At h) = IsFit h.role × AreFit h.outer

place_inside_fits : (todo : List Placed) (close : ℕ) (role : Role) (outer : List Item) → Has role outer → PlaceFits (place_inside todo close role outer)
place_inside_fits [] close role outer h = h
place_inside_fits (p ∷ todo) close role outer h = h

pub place_fits : (items : List Item) → AreFit items → PlaceFits (place_in items)
place_fits [] h = tt
place_fits (i ∷ outer) h = place_inside_fits i.inside.todo i.inside.close i.role outer h

-- ---- steps

abbrev Keeps : Move → Type 0
Keeps m = AreFit m.to.items

either_fits : (b : Bool) (m o : Move) → Keeps m → Keeps o → Keeps (if b then m else o)
either_fits true m o h k = h
either_fits false m o h k = k

valued_fits : (value : Value) (step : ℤ → Move) (r : Remainder) → ((n : ℤ) → Keeps (step n)) → AreFit r.items → Keeps (or_raised value step r)
valued_fits (Ok n) step r h k = h n
valued_fits (Err x) step r h k = k

module _ (g : Setting) (tells : Bool) (shared : SharedValues) (h : Spot) (r : Remainder) (has : AreFit r.items) (here : Has h.role h.outer) where
  made_fits : (act : Act) → Keeps (made g tells shared act h r)
  made_fits (Sets v e) = valued_fits (value_of g shared r e) _ r (λ n. variable_fit v n (passed h) here) has
  made_fits (Says e) = valued_fits (value_of g shared r e) _ r (λ n. here) has
  made_fits (Chooses e body other) = valued_fits (value_of g shared r e) _ r (λ n. here) has
  made_fits (Repeats e again) = valued_fits (value_of g shared r e) _ r (λ n. here) has
  made_fits (Tries body ways) = either_fits (has_room g r 1) _ _ (tt, here) has
  made_fits (Raises name) = has
  made_fits RaisesAgain = has
  made_fits (Calls routine e place) = either_fits (has_room g r 1) _ _ (valued_fits (value_of g shared r e) _ r (λ n. (tt, here)) has) has
  made_fits (Returns e) = valued_fits (value_of g shared r e) _ r (λ n. stored_fit (place_for h.role) n h.outer here.1) has
  made_fits (Exits e) = valued_fits (value_of g shared r e) _ r (λ n. has) has
  made_fits (Asks call) = has

ended_fits : (role : Role) (outer : List Item) (r : Remainder) → Has role outer → Keeps (ended role outer r)
ended_fits (Calling locals place) outer r here = stored_fit place (pos 0) outer here.1
ended_fits (Trying scope (Catches handlers)) outer r here = here.1
ended_fits (Trying scope (Finally body)) outer r here = (tt, here.1)
ended_fits (Catching scope caught) outer r here = here.1
ended_fits (Finishing scope pending) outer r here = here.1
ended_fits (Doing scope block routine) outer r here = here.1
ended_fits (Barrier scope key routine) outer r here = here.1

step_fits : (g : Setting) (tells : Bool) (shared : SharedValues) (place : Place) (r : Remainder) → AreFit r.items → PlaceFits place → Keeps (step_at g tells shared place r)
step_fits g tells shared Nowhere r has here = has
step_fits g tells shared (AtEnd close role outer) r has here = ended_fits role outer r here
step_fits g tells shared (At h) r has here = made_fits g tells shared h r has here (act_at h)

pub quiet_fits : (g : Setting) (r : Remainder) → AreFit r.items → AreFit (quiet g r).to.items
unfolding quiet
quiet_fits g r has = step_fits g false none_shared (place_in r.items) r has (place_fits r.items has)

pub shared_fits : (g : Setting) (shared : SharedValues) (r : Remainder) → AreFit r.items → AreFit (shared_step g shared r).to.items
unfolding shared_step
shared_fits g shared r has = step_fits g true shared (place_in r.items) r has (place_fits r.items has)

-- ---- unwindings

-- No body that begins in an item's place is that of a once block.
abbrev MeetingFits : Meeting → Type 0
MeetingFits (Begins role body line) = IsFit role
MeetingFits _ = Unit {0}

caught_fits : (scope n : ℕ) (x : Exc) (c : Option Handler) → MeetingFits (caught_by scope n x c)
caught_fits scope n x None = tt
caught_fits scope n x (Some c) = tt

try_fits : (s : Script) (scope : ℕ) (ways : Ways) (u : Unwinding) (cause : Cause) → MeetingFits (at_try s scope ways u cause)
try_fits s scope (Finally body) u cause = tt
try_fits s scope (Catches clauses) u (Raised x) = caught_fits scope u.number x (first_catch s x clauses)
try_fits s scope (Catches clauses) u (Exit v) = tt

meeting_fits : (s : Script) (role : Role) (u : Unwinding) → MeetingFits (meeting s role u)
meeting_fits s (Calling locals place) u = tt
meeting_fits s (Trying scope ways) u = try_fits s scope ways u u.cause
meeting_fits s (Catching scope caught) u = tt
meeting_fits s (Finishing scope pending) u = tt
meeting_fits s (Doing scope block routine) u = tt
meeting_fits s (Barrier scope key routine) u = tt

met_fits : (meets : Meeting) (i : Item) (outer : List Item) (r : Remainder) (further : Move) → MeetingFits meets → Has i.role outer → Keeps further → Keeps (met meets i outer r further)
met_fits Drops i outer r further fit here out = out
met_fits (Begins role body line) i outer r further fit here out = (fit, here.1)
met_fits Undoes i outer r further fit here out = here
met_fits (Loses line) i outer r further fit here out = here.1

from_fits : (s : Script) (u : Unwinding) (items : List Item) (r : Remainder) → AreFit items → Keeps (outward_from s u items r)
from_fits s u [] r here = tt
from_fits s u (i ∷ outer) r here = met_fits (meeting s i.role u) i outer r (outward_from s u outer r) (meeting_fits s i.role u) here (from_fits s u outer r here.1)

pub outward_fits : (g : Setting) (u : Unwinding) (r : Remainder) → AreFit r.items → AreFit (outward g u r).to.items
unfolding outward
outward_fits g u r has = from_fits g.script u r.items r has

-- ---- replies, and routines that begin

raised_if_fits : (x : Option Exc) (r : Remainder) → AreFit r.items → Keeps (raised_if x r)
raised_if_fits None r has = has
raised_if_fits (Some x) r has = has

replied_by_fits : (g : Setting) (act : Act) (h : Spot) (r : Remainder) (y : Reply) → AreFit r.items → Has h.role h.outer → Keeps (replied_by g act h r y)
replied_by_fits g (Asks call) h r y has here = raised_if_fits (raised_by _ call y) _ (stores_fit (stores call y) (passed h) here)
replied_by_fits g _ h r y has here = has

replied_at_fits : (g : Setting) (place : Place) (r : Remainder) (y : Reply) → AreFit r.items → PlaceFits place → Keeps (replied_at g place r y)
replied_at_fits g Nowhere r y has here = has
replied_at_fits g (AtEnd close role outer) r y has here = has
replied_at_fits g (At h) r y has here = replied_by_fits g (act_at h) h r y has here

pub replied_fits : (g : Setting) (y : Reply) (r : Remainder) → AreFit r.items → AreFit (replied g y r).to.items
unfolding replied
replied_fits g y r has = replied_at_fits g (place_in r.items) r y has (place_fits r.items has)

pub once_fits : (g : Setting) (block routine : NameId) (r : Remainder) → block.0 < names → AreFit r.items → AreFit (begins_once g block routine r).to.items
once_fits g block routine r fit has = (tt, (fit, has))
