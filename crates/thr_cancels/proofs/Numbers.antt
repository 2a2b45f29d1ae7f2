-- Unwindings have numbers that were given, and what carries them outward.
use Rattle.std.proofs.Common.{◌≡◌, ℕ, zero, suc, ◌+◌, ◌&&◌, ℤ, pos, Bool, true, false, List, [], ◌∷◌, Option, Some, None, Ok, Err, refl, ap, subst, arith, if◌then◌else◌}
use Rattle.thr_values.specs.declared.number.NameId.{NameId}
use Rattle.thr_values.specs.declared.exception.Exc.{Exc}
use Rattle.thr_values.specs.declared.history.What.{What}
use Rattle.thr_values.specs.declared.history.What.TheVariants as what
use Rattle.thr_values.specs.declared.reply.Reply.{Reply}
use Rattle.thr_syntax.specs.declared.expr.Var.{Var}
use Rattle.thr_syntax.specs.declared.expr.Var.TheVariants.{Local, Shared}
use Rattle.thr_syntax.specs.declared.tree.Script.{Script}
use Rattle.thr_remainder.specs.declared.unwinding.Cause.{Cause}
use Rattle.thr_remainder.specs.declared.unwinding.Cause.TheVariants.{Raised, Exit}
use Rattle.thr_remainder.specs.declared.unwinding.Unwinding.{Unwinding}
use Rattle.thr_remainder.specs.Places.{Placed, Handler, Ways, Catches, Finally}
use Rattle.thr_remainder.specs.Acts.{Act, Sets, Says, Chooses, Repeats, Tries, Raises, RaisesAgain, Calls, Returns, Exits, Asks}
use Rattle.thr_remainder.specs.Remainders.{Item, Role, Calling, Trying, Catching, Finishing, Doing, Barrier, Setting, Remainder, Move, Spot, Place, Nowhere, AtEnd, At, place_in, place_inside, act_at, passed, role_with, is_call, with_local, has_room}
use Rattle.thr_remainder.specs.Expressions.{Value, SharedValues, none_shared, value_of}
use Rattle.thr_remainder.specs.Starts.{raised, delivered, sets_out, fresh, begins_once, begins_destructor}
use Rattle.thr_remainder.specs.Steps.{stored, place_for, variable_set, or_raised, made, ended, step_at, quiet, shared_step}
use Rattle.thr_remainder.specs.Outward.{Meeting, Drops, Begins, Undoes, Loses, meeting, at_try, caught_by, first_catch, met, outward_from, outward}
use Rattle.thr_remainder.specs.Replies.{stored_in, raised_if, replied_by, replied_at, replied, raised_by}
use Rattle.thr_remainder.specs.Calls.{stores}
use Rattle.thr_laws.specs.CancelLaw.{is_carried}
use Rattle.thr_cancels.specs.Delivering.{AreCarried}

-- A number that was given.
abbrev pub IsPositive : ℕ → Type 0
IsPositive zero = ⊥
IsPositive (suc n) = Unit {0}

abbrev pub IsUnwinding : Option Unwinding → Type 0
IsUnwinding None = Unit {0}
IsUnwinding (Some u) = IsPositive u.number

abbrev pub IsPending : Role → Type 0
IsPending (Finishing scope pending) = IsUnwinding pending
IsPending _ = Unit {0}

abbrev pub AreItems : List Item → Type 0
AreItems [] = Unit {0}
AreItems (i ∷ items) = IsPending i.role × AreItems items

-- The unwinding under way and those that are pending in FINALLY bodies have numbers that were given.
pub record HasNumbers (r : Remainder) : Type 0 where
  pub items : AreItems r.items
  pub under : IsUnwinding r.under_way

one_more : (n : ℕ) → suc n ≡ n + 1
one_more n = grind arith

positive : (n : ℕ) → IsPositive (n + 1)
positive n = subst IsPositive (one_more n) tt

abbrev pub is_once : Role → Bool
is_once (Doing scope block routine) = true
is_once _ = false

abbrev is_undoing : Meeting → Bool
is_undoing Undoes = true
is_undoing _ = false

abbrev Has : Role → List Item → Type 0
Has role outer = IsPending role × AreItems outer

local_at : (p : ℕ) (v : ℤ) (role : Role) (outer rest : List Item) → (AreItems outer → AreItems rest) → Has role outer → Has (role_with p v role) (if is_call role then outer else rest)
local_at p v (Calling locals place) outer rest keeps h = h
local_at p v (Trying scope ways) outer rest keeps h = (h.0, keeps h.1)
local_at p v (Catching scope caught) outer rest keeps h = (h.0, keeps h.1)
local_at p v (Finishing scope pending) outer rest keeps h = (h.0, keeps h.1)
local_at p v (Doing scope block routine) outer rest keeps h = (h.0, keeps h.1)
local_at p v (Barrier scope key routine) outer rest keeps h = (h.0, keeps h.1)

local_keeps : (p : ℕ) (v : ℤ) (items : List Item) → AreItems items → AreItems (with_local p v items)
local_keeps p v [] h = tt
local_keeps p v (i ∷ items) h = local_at p v i.role items (with_local p v items) (local_keeps p v items) h

variable_keeps : (v : Var) (x : ℤ) (items : List Item) → AreItems items → AreItems (variable_set v x items)
variable_keeps (Local p) x items h = local_keeps p x items h
variable_keeps (Shared name) x items h = h

stored_keeps : (place : Option ℕ) (x : ℤ) (items : List Item) → AreItems items → AreItems (stored place x items)
stored_keeps None x items h = h
stored_keeps (Some p) x items h = local_keeps p x items h

stores_keep : (stores : List (Var × ℤ)) (items : List Item) → AreItems items → AreItems (stored_in stores items)
stores_keep [] items h = h
stores_keep ((Local p, x) ∷ stores) items h = stores_keep stores (with_local p x items) (local_keeps p x items h)
stores_keep ((Shared name, x) ∷ stores) items h = stores_keep stores items h

abbrev HasPlace : Place → Type 0
HasPlace Nowhere = Unit {0}
HasPlace (AtEnd close role outer) = Has role outer
HasPlace (At h) = Has h.role h.outer

place_inside_has : (todo : List Placed) (close : ℕ) (role : Role) (outer : List Item) → Has role outer → HasPlace (place_inside todo close role outer)
place_inside_has [] close role outer h = h
place_inside_has (p ∷ todo) close role outer h = h

place_has : (items : List Item) → AreItems items → HasPlace (place_in items)
place_has [] h = tt
place_has (i ∷ outer) h = place_inside_has i.inside.todo i.inside.close i.role outer h

abbrev Keeps : Move → Type 0
Keeps m = HasNumbers m.to

either_keeps : (b : Bool) (m o : Move) → Keeps m → Keeps o → Keeps (if b then m else o)
either_keeps true m o h k = h
either_keeps false m o h k = k

set_out : (r : Remainder) (cause : Cause) (line : ℕ → What) → HasNumbers r → Keeps (sets_out cause line r)
set_out r cause line h = record { items = h.items; under = positive r.unwindings }

valued_keeps : (value : Value) (step : ℤ → Move) (r : Remainder) → ((n : ℤ) → Keeps (step n)) → HasNumbers r → Keeps (or_raised value step r)
valued_keeps (Ok n) step r h k = h n
valued_keeps (Err x) step r h k = record { items = k.items; under = positive r.unwindings }

module _ (g : Setting) (tells : Bool) (shared : SharedValues) (h : Spot) (r : Remainder) (has : HasNumbers r) (here : Has h.role h.outer) where
  made_keeps : (act : Act) → Keeps (made g tells shared act h r)
  made_keeps (Sets v e) = valued_keeps (value_of g shared r e) _ r (λ n. record { items = variable_keeps v n (passed h) here; under = has.under }) has
  made_keeps (Says e) = valued_keeps (value_of g shared r e) _ r (λ n. record { items = here; under = has.under }) has
  made_keeps (Chooses e body other) = valued_keeps (value_of g shared r e) _ r (λ n. record { items = here; under = has.under }) has
  made_keeps (Repeats e again) = valued_keeps (value_of g shared r e) _ r (λ n. record { items = here; under = has.under }) has
  made_keeps (Tries body ways) = either_keeps (has_room g r 1) _ _ (record { items = (tt, here); under = has.under }) (record { items = has.items; under = positive r.unwindings })
  made_keeps (Raises name) = record { items = has.items; under = positive r.unwindings }
  made_keeps RaisesAgain = record { items = has.items; under = positive r.unwindings }
  made_keeps (Calls routine e place) =
      either_keeps (has_room g r 1) _ _ (valued_keeps (value_of g shared r e) _ r (λ n. record { items = (tt, here); under = has.under }) has) (record { items = has.items; under = positive r.unwindings })
  made_keeps (Returns e) = valued_keeps (value_of g shared r e) _ r (λ n. record { items = stored_keeps (place_for h.role) n h.outer here.1; under = has.under }) has
  made_keeps (Exits e) = valued_keeps (value_of g shared r e) _ r (λ n. record { items = has.items; under = positive r.unwindings }) has
  made_keeps (Asks call) = has

ended_keeps : (role : Role) (outer : List Item) (r : Remainder) → HasNumbers r → Has role outer → Keeps (ended role outer r)
ended_keeps (Calling locals place) outer r has here = record { items = stored_keeps place (pos 0) outer here.1; under = has.under }
ended_keeps (Trying scope (Catches handlers)) outer r has here = record { items = here.1; under = has.under }
ended_keeps (Trying scope (Finally body)) outer r has here = record { items = (tt, here.1); under = has.under }
ended_keeps (Catching scope caught) outer r has here = record { items = here.1; under = has.under }
ended_keeps (Finishing scope pending) outer r has here = record { items = here.1; under = here.0 }
ended_keeps (Doing scope block routine) outer r has here = record { items = here.1; under = has.under }
ended_keeps (Barrier scope key routine) outer r has here = record { items = here.1; under = has.under }

step_keeps : (g : Setting) (tells : Bool) (shared : SharedValues) (place : Place) (r : Remainder) → HasNumbers r → HasPlace place → Keeps (step_at g tells shared place r)
step_keeps g tells shared Nowhere r has here = has
step_keeps g tells shared (AtEnd close role outer) r has here = ended_keeps role outer r has here
step_keeps g tells shared (At h) r has here = made_keeps g tells shared h r has here (act_at h)

pub quiet_keeps : (g : Setting) (r : Remainder) → HasNumbers r → HasNumbers (quiet g r).to
unfolding quiet
quiet_keeps g r has = step_keeps g false none_shared (place_in r.items) r has (place_has r.items has.items)

pub shared_keeps : (g : Setting) (shared : SharedValues) (r : Remainder) → HasNumbers r → HasNumbers (shared_step g shared r).to
unfolding shared_step
shared_keeps g shared r has = step_keeps g true shared (place_in r.items) r has (place_has r.items has.items)

-- ---- unwindings

-- A body that begins has such a role, and its line carries the unwinding.
abbrev IsFit : Meeting → Type 0
IsFit (Begins role body line) = IsPending role × (is_carried line ≡ true)
IsFit (Loses line) = is_carried line ≡ true
IsFit _ = Unit {0}

caught_fit : (scope n : ℕ) (x : Exc) (c : Option Handler) → IsFit (caught_by scope n x c)
caught_fit scope n x None = tt
caught_fit scope n x (Some c) = (tt, refl)

finally_carried : (scope n : ℕ) → IsPositive n → is_carried (what.Finally scope n) ≡ true
finally_carried scope zero h = absurd h
finally_carried scope (suc n) h = refl

try_fit : (s : Script) (scope : ℕ) (ways : Ways) (u : Unwinding) (cause : Cause) → IsPositive u.number → IsFit (at_try s scope ways u cause)
try_fit s scope (Finally body) u cause h = (h, finally_carried scope u.number h)
try_fit s scope (Catches clauses) u (Raised x) h = caught_fit scope u.number x (first_catch s x clauses)
try_fit s scope (Catches clauses) u (Exit v) h = tt

meeting_fit : (s : Script) (role : Role) (u : Unwinding) → IsPositive u.number → IsFit (meeting s role u)
meeting_fit s (Calling locals place) u h = tt
meeting_fit s (Trying scope ways) u h = try_fit s scope ways u u.cause h
meeting_fit s (Catching scope caught) u h = tt
meeting_fit s (Finishing scope pending) u h = tt
meeting_fit s (Doing scope block routine) u h = tt
meeting_fit s (Barrier scope key routine) u h = refl

-- After an outward move the unwinding is over or stands at a once block.
abbrev pub IsStopped : List Item → Option Unwinding → Type 0
IsStopped items None = Unit {0}
IsStopped [] (Some u) = ⊥
IsStopped (i ∷ outer) (Some u) = is_once i.role ≡ true

pub record IsOutward (m : Move) : Type 0 where
  pub numbers : HasNumbers m.to
  pub lines : AreCarried m.lines
  pub stopped : IsStopped m.to.items m.to.under_way

stopped_at : (i : Item) (outer : List Item) (u : Option Unwinding) → is_once i.role ≡ true → IsStopped (i ∷ outer) u
stopped_at i outer None e = tt
stopped_at i outer (Some u) e = e

carried_one : (w : What) → is_carried w ≡ true → AreCarried (w ∷ [])
carried_one w e = ap (λ b. b && true) e

met_out : (meets : Meeting) (i : Item) (outer : List Item) (r : Remainder) (further : Move) → IsUnwinding r.under_way → IsFit meets → (is_undoing meets ≡ true → is_once i.role ≡ true) → Has i.role outer → IsOutward further
    → IsOutward (met meets i outer r further)
met_out Drops i outer r further under fit once here out = out
met_out (Begins role body line) i outer r further under fit once here out = record { numbers = record { items = (fit.0, here.1); under = tt }; lines = carried_one line fit.1; stopped = tt }
met_out Undoes i outer r further under fit once here out = record { numbers = record { items = here; under = under }; lines = refl; stopped = stopped_at i outer r.under_way (once refl) }
met_out (Loses line) i outer r further under fit once here out = record { numbers = record { items = here.1; under = tt }; lines = carried_one line fit; stopped = tt }

caught_once : (role : Role) (scope n : ℕ) (x : Exc) (c : Option Handler) → is_undoing (caught_by scope n x c) ≡ true → is_once role ≡ true
caught_once role scope n x None e = absurd (cc)
caught_once role scope n x (Some c) e = absurd (cc)

try_once : (role : Role) (s : Script) (scope : ℕ) (ways : Ways) (u : Unwinding) (cause : Cause) → is_undoing (at_try s scope ways u cause) ≡ true → is_once role ≡ true
try_once role s scope (Finally body) u cause e = absurd (cc)
try_once role s scope (Catches clauses) u (Raised x) e = caught_once role scope u.number x (first_catch s x clauses) e
try_once role s scope (Catches clauses) u (Exit v) e = absurd (cc)

meeting_once : (s : Script) (role : Role) (u : Unwinding) → is_undoing (meeting s role u) ≡ true → is_once role ≡ true
meeting_once s (Calling locals place) u e = absurd (cc)
meeting_once s (Trying scope ways) u e = try_once (Trying scope ways) s scope ways u u.cause e
meeting_once s (Catching scope caught) u e = absurd (cc)
meeting_once s (Finishing scope pending) u e = absurd (cc)
meeting_once s (Doing scope block routine) u e = refl
meeting_once s (Barrier scope key routine) u e = absurd (cc)

from_out : (s : Script) (u : Unwinding) (items : List Item) (r : Remainder) → IsPositive u.number → IsUnwinding r.under_way → AreItems items → IsOutward (outward_from s u items r)
from_out s u [] r h under here = record { numbers = record { items = tt; under = tt }; lines = refl; stopped = tt }
from_out s u (i ∷ outer) r h under here =
    met_out (meeting s i.role u) i outer r (outward_from s u outer r) under (meeting_fit s i.role u h) (meeting_once s i.role u) here (from_out s u outer r h under here.1)

pub outward_out : (g : Setting) (u : Unwinding) (r : Remainder) → IsPositive u.number → HasNumbers r → IsOutward (outward g u r)
unfolding outward
outward_out g u r h has = from_out g.script u r.items r h has.under has.items

-- ---- once blocks, destructors and replies

pub once_keeps : (g : Setting) (block routine : NameId) (r : Remainder) → HasNumbers r → HasNumbers (begins_once g block routine r).to
once_keeps g block routine r has = record { items = (tt, (tt, has.items)); under = has.under }

pub destructor_keeps : (g : Setting) (key routine : NameId) (n : ℤ) (r : Remainder) → HasNumbers r → HasNumbers (begins_destructor g key routine n r).to
destructor_keeps g key routine n r has = record { items = (tt, (tt, has.items)); under = has.under }

pub raised_keeps : (x : Exc) (r : Remainder) → HasNumbers r → HasNumbers (raised x r).to
raised_keeps x r has = record { items = has.items; under = positive r.unwindings }

pub delivered_keeps : (r : Remainder) → HasNumbers r → HasNumbers (delivered r).to
delivered_keeps r has = record { items = has.items; under = positive r.unwindings }

raised_if_keeps : (x : Option Exc) (r : Remainder) → HasNumbers r → Keeps (raised_if x r)
raised_if_keeps None r has = has
raised_if_keeps (Some x) r has = raised_keeps x r has

replied_by_keeps : (g : Setting) (act : Act) (h : Spot) (r : Remainder) (y : Reply) → HasNumbers r → Has h.role h.outer → Keeps (replied_by g act h r y)
replied_by_keeps g (Asks call) h r y has here = raised_if_keeps (raised_by _ call y) _ (record { items = stores_keep (stores call y) (passed h) here; under = has.under })
replied_by_keeps g _ h r y has here = has

replied_at_keeps : (g : Setting) (place : Place) (r : Remainder) (y : Reply) → HasNumbers r → HasPlace place → Keeps (replied_at g place r y)
replied_at_keeps g Nowhere r y has here = has
replied_at_keeps g (AtEnd close role outer) r y has here = has
replied_at_keeps g (At h) r y has here = replied_by_keeps g (act_at h) h r y has here

pub replied_keeps : (g : Setting) (y : Reply) (r : Remainder) → HasNumbers r → HasNumbers (replied g y r).to
unfolding replied
replied_keeps g y r has = replied_at_keeps g (place_in r.items) r y has (place_has r.items has.items)

pub fresh_has : (s : Script) (routine : NameId) (n : ℤ) → HasNumbers (fresh s routine n)
fresh_has s routine n = record { items = (tt, tt); under = tt }
