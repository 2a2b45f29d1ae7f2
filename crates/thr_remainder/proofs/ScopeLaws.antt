-- The numbers of open scopes rise inward at each step.
use Rattle.std.proofs.Common.{◌≡◌, ℕ, ◌+◌, ◌≤◌, ℤ, pos, Bool, true, false, List, [], ◌∷◌, Option, Some, None, Ok, Err, arith, refl, sym, subst, if◌then◌else◌}
use Rattle.thr_values.specs.declared.number.NameId.{NameId}
use Rattle.thr_values.specs.declared.exception.Exc.{Exc}
use Rattle.thr_values.specs.declared.history.What.{What}
use Rattle.thr_values.specs.declared.history.What.TheVariants as what
use Rattle.thr_values.specs.declared.reply.Reply.{Reply}
use Rattle.thr_syntax.specs.declared.expr.Var.{Var}
use Rattle.thr_syntax.specs.declared.expr.Var.TheVariants.{Local, Shared}
use Rattle.thr_syntax.specs.declared.tree.Script.{Script}
use Rattle.thr_remainder.specs.declared.unwinding.Cause.{Cause}
use Rattle.thr_remainder.specs.declared.unwinding.Cause.TheVariants.{Raised, Exit}
use Rattle.thr_remainder.specs.declared.unwinding.Unwinding.{Unwinding}
use Rattle.thr_remainder.specs.Places.{Placed, Handler, Ways, Catches, Finally}
use Rattle.thr_remainder.specs.Acts.{Act, Sets, Says, Chooses, Repeats, Tries, Raises, RaisesAgain, Calls, Returns, Exits, Asks}
use Rattle.thr_remainder.specs.Declarations.{Entry, entry_of}
use Rattle.thr_remainder.specs.Remainders.{Item, Role, Calling, Trying, Catching, Finishing, Doing, Barrier, Setting, Remainder, Move, Spot, Place, Nowhere, AtEnd, At, place_in, place_inside, act_at, passed, role_with, is_call, with_local, has_room}
use Rattle.thr_remainder.specs.Expressions.{Value, SharedValues, none_shared, value_of}
use Rattle.thr_remainder.specs.Starts.{fresh, begins, begins_once, begins_destructor}
use Rattle.thr_remainder.specs.Steps.{stored, place_for, variable_set, or_raised, made, ended, step_at, quiet, shared_step}
use Rattle.thr_remainder.specs.Outward.{Meeting, Drops, Begins, Undoes, Loses, meeting, at_try, caught_by, first_catch, met, outward_from, outward, undone}
use Rattle.thr_remainder.specs.Replies.{stored_in, raised_if, replied_by, replied_at, replied, raised_by}
use Rattle.thr_remainder.specs.Calls.{stores}
use Rattle.thr_remainder.specs.Scopes.{scope_of, IsBelow, bound, AreScopes, HasScopes}
use Rattle.thr_remainder.proofs.StepsKept.{IsKeptBySteps}

-- ---- lists of items

-- An item of this scope with those outside it.
abbrev Has : ℕ → Option ℕ → List Item → Type 0
Has n scope outer = IsBelow n scope × AreScopes (bound n scope) outer

wider_at : (n m : ℕ) (scope : Option ℕ) (outer : List Item) → n ≤ m → (AreScopes n outer → AreScopes m outer) → Has n scope outer → Has m scope outer
wider_at n m None outer le tail h = (tt, tail h.1)
wider_at n m (Some scope) outer le tail h = (omega (arith, h.0, le), h.1)

wider : (n m : ℕ) (items : List Item) → n ≤ m → AreScopes n items → AreScopes m items
wider n m [] le h = tt
wider n m (i ∷ items) le h = wider_at n m (scope_of i.role) items le (wider n m items le) h

outside : (n : ℕ) (scope : Option ℕ) (outer : List Item) → Has n scope outer → AreScopes n outer
outside n None outer h = h.1
outside n (Some scope) outer h = wider scope n outer (omega (arith, h.0)) h.1

local_at : (p : ℕ) (v : ℤ) (role : Role) (outer rest : List Item) (n : ℕ) → ((k : ℕ) → AreScopes k outer → AreScopes k rest) → Has n (scope_of role) outer → Has n (scope_of (role_with p v role)) (if is_call role then outer else rest)
local_at p v (Calling locals place) outer rest n keeps h = h
local_at p v (Trying scope ways) outer rest n keeps h = (h.0, keeps scope h.1)
local_at p v (Catching scope caught) outer rest n keeps h = (h.0, keeps scope h.1)
local_at p v (Finishing scope pending) outer rest n keeps h = (h.0, keeps scope h.1)
local_at p v (Doing scope block routine) outer rest n keeps h = (h.0, keeps scope h.1)
local_at p v (Barrier scope key routine) outer rest n keeps h = (h.0, keeps scope h.1)

local_keeps : (p : ℕ) (v : ℤ) (items : List Item) (n : ℕ) → AreScopes n items → AreScopes n (with_local p v items)
local_keeps p v [] n h = tt
local_keeps p v (i ∷ items) n h = local_at p v i.role items (with_local p v items) n (local_keeps p v items) h

variable_keeps : (v : Var) (x : ℤ) (items : List Item) (n : ℕ) → AreScopes n items → AreScopes n (variable_set v x items)
variable_keeps (Local p) x items n h = local_keeps p x items n h
variable_keeps (Shared name) x items n h = h

stored_keeps : (place : Option ℕ) (x : ℤ) (items : List Item) (n : ℕ) → AreScopes n items → AreScopes n (stored place x items)
stored_keeps None x items n h = h
stored_keeps (Some p) x items n h = local_keeps p x items n h

stores_keep : (stores : List (Var × ℤ)) (items : List Item) (n : ℕ) → AreScopes n items → AreScopes n (stored_in stores items)
stores_keep [] items n h = h
stores_keep ((Local p, x) ∷ stores) items n h = stores_keep stores (with_local p x items) n (local_keeps p x items n h)
stores_keep ((Shared name, x) ∷ stores) items n h = stores_keep stores items n h

-- ---- places

abbrev HasPlace : ℕ → Place → Type 0
HasPlace n Nowhere = Unit {0}
HasPlace n (AtEnd close role outer) = Has n (scope_of role) outer
HasPlace n (At h) = Has n (scope_of h.role) h.outer

place_inside_has : (n : ℕ) (todo : List Placed) (close : ℕ) (role : Role) (outer : List Item) → Has n (scope_of role) outer → HasPlace n (place_inside todo close role outer)
place_inside_has n [] close role outer h = h
place_inside_has n (p ∷ todo) close role outer h = h

place_has : (n : ℕ) (items : List Item) → AreScopes n items → HasPlace n (place_in items)
place_has n [] h = tt
place_has n (i ∷ outer) h = place_inside_has n i.inside.todo i.inside.close i.role outer h

-- ---- moves

abbrev Keeps : Move → Type 0
Keeps m = HasScopes m.to

either_keeps : (b : Bool) (m o : Move) → Keeps m → Keeps o → Keeps (if b then m else o)
either_keeps true m o h k = h
either_keeps false m o h k = k

valued_keeps : (value : Value) (step : ℤ → Move) (r : Remainder) → ((n : ℤ) → Keeps (step n)) → HasScopes r → Keeps (or_raised value step r)
valued_keeps (Ok n) step r h k = h n
valued_keeps (Err x) step r h k = record { open_scopes = k.open_scopes }

module _ (g : Setting) (tells : Bool) (shared : SharedValues) (h : Spot) (r : Remainder) (has : HasScopes r) (here : Has (r.scopes + 1) (scope_of h.role) h.outer) where
  out : AreScopes (r.scopes + 1) h.outer
  out = outside (r.scopes + 1) (scope_of h.role) h.outer here

  made_keeps : (act : Act) → Keeps (made g tells shared act h r)
  made_keeps (Sets v e) = valued_keeps (value_of g shared r e) _ r (λ n. record { open_scopes = variable_keeps v n (passed h) (r.scopes + 1) here }) has
  made_keeps (Says e) = valued_keeps (value_of g shared r e) _ r (λ n. record { open_scopes = here }) has
  made_keeps (Chooses e body other) = valued_keeps (value_of g shared r e) _ r (λ n. record { open_scopes = here }) has
  made_keeps (Repeats e again) = valued_keeps (value_of g shared r e) _ r (λ n. record { open_scopes = here }) has
  made_keeps (Tries body ways) = either_keeps (has_room g r 1) _ _ (record { open_scopes = (omega arith, here) }) (record { open_scopes = has.open_scopes })
  made_keeps (Raises name) = record { open_scopes = has.open_scopes }
  made_keeps RaisesAgain = record { open_scopes = has.open_scopes }
  made_keeps (Calls routine e place) = either_keeps (has_room g r 1) _ _ (valued_keeps (value_of g shared r e) _ r (λ n. record { open_scopes = (tt, here) }) has) (record { open_scopes = has.open_scopes })
  made_keeps (Returns e) = valued_keeps (value_of g shared r e) _ r (λ n. record { open_scopes = stored_keeps (place_for h.role) n h.outer (r.scopes + 1) out }) has
  made_keeps (Exits e) = valued_keeps (value_of g shared r e) _ r (λ n. record { open_scopes = has.open_scopes }) has
  made_keeps (Asks call) = record { open_scopes = has.open_scopes }

ended_keeps : (role : Role) (outer : List Item) (r : Remainder) → Has (r.scopes + 1) (scope_of role) outer → Keeps (ended role outer r)
ended_keeps (Calling locals place) outer r here = record { open_scopes = stored_keeps place (pos 0) outer (r.scopes + 1) here.1 }
ended_keeps (Trying scope (Catches handlers)) outer r here = record { open_scopes = outside (r.scopes + 1) (Some scope) outer here }
ended_keeps (Trying scope (Finally body)) outer r here = record { open_scopes = here }
ended_keeps (Catching scope caught) outer r here = record { open_scopes = outside (r.scopes + 1) (Some scope) outer here }
ended_keeps (Finishing scope pending) outer r here = record { open_scopes = outside (r.scopes + 1) (Some scope) outer here }
ended_keeps (Doing scope block routine) outer r here = record { open_scopes = outside (r.scopes + 1) (Some scope) outer here }
ended_keeps (Barrier scope key routine) outer r here = record { open_scopes = outside (r.scopes + 1) (Some scope) outer here }

step_keeps : (g : Setting) (tells : Bool) (shared : SharedValues) (place : Place) (r : Remainder) → HasScopes r → HasPlace (r.scopes + 1) place → Keeps (step_at g tells shared place r)
step_keeps g tells shared Nowhere r has here = record { open_scopes = has.open_scopes }
step_keeps g tells shared (AtEnd close role outer) r has here = ended_keeps role outer r here
step_keeps g tells shared (At h) r has here = made_keeps g tells shared h r has here (act_at h)

pub quiet_keeps : (g : Setting) (r : Remainder) → HasScopes r → HasScopes (quiet g r).to
unfolding quiet
quiet_keeps g r has = step_keeps g false none_shared (place_in r.items) r has (place_has (r.scopes + 1) r.items has.open_scopes)

pub shared_keeps : (g : Setting) (shared : SharedValues) (r : Remainder) → HasScopes r → HasScopes (shared_step g shared r).to
unfolding shared_step
shared_keeps g shared r has = step_keeps g true shared (place_in r.items) r has (place_has (r.scopes + 1) r.items has.open_scopes)

-- ---- unwindings

-- A body that begins in an item's place has its scope.
abbrev SameScope : Role → Meeting → Type 0
SameScope i Drops = Unit {0}
SameScope i (Begins role body line) = scope_of role ≡ scope_of i
SameScope i Undoes = Unit {0}
SameScope i (Loses line) = Unit {0}

caught_same : (scope n : ℕ) (x : Exc) (ways : Ways) (c : Option Handler) → SameScope (Trying scope ways) (caught_by scope n x c)
caught_same scope n x ways None = tt
caught_same scope n x ways (Some c) = refl

try_same : (s : Script) (scope : ℕ) (ways : Ways) (u : Unwinding) (cause : Cause) → SameScope (Trying scope ways) (at_try s scope ways u cause)
try_same s scope (Finally body) u cause = refl
try_same s scope (Catches clauses) u (Raised x) = caught_same scope u.number x (Catches clauses) (first_catch s x clauses)
try_same s scope (Catches clauses) u (Exit v) = tt

meeting_same : (s : Script) (role : Role) (u : Unwinding) → SameScope role (meeting s role u)
meeting_same s (Calling locals place) u = tt
meeting_same s (Trying scope ways) u = try_same s scope ways u u.cause
meeting_same s (Catching scope caught) u = tt
meeting_same s (Finishing scope pending) u = tt
meeting_same s (Doing scope block routine) u = tt
meeting_same s (Barrier scope key routine) u = tt

met_keeps : (n : ℕ) (meets : Meeting) (i : Item) (outer : List Item) (r : Remainder) (further : Move) → n ≡ r.scopes + 1 → SameScope i.role meets → Has n (scope_of i.role) outer → Keeps further → Keeps (met meets i outer r further)
met_keeps n Drops i outer r further e same here keeps = keeps
met_keeps n (Begins role body line) i outer r further e same here keeps =
    record { open_scopes = subst (λ m. AreScopes m (record { role = role; inside = body } ∷ outer)) e (subst (λ scope. Has n scope outer) (sym same) here) }
met_keeps n Undoes i outer r further e same here keeps = record { open_scopes = subst (λ m. AreScopes m (i ∷ outer)) e here }
met_keeps n (Loses line) i outer r further e same here keeps = record { open_scopes = subst (λ m. AreScopes m outer) e (outside n (scope_of i.role) outer here) }

outward_from_keeps : (s : Script) (u : Unwinding) (items : List Item) (r : Remainder) → AreScopes (r.scopes + 1) items → Keeps (outward_from s u items r)
outward_from_keeps s u [] r h = record { open_scopes = tt }
outward_from_keeps s u (i ∷ outer) r h =
    met_keeps (r.scopes + 1) (meeting s i.role u) i outer r (outward_from s u outer r) refl (meeting_same s i.role u) h
    (outward_from_keeps s u outer r (outside (r.scopes + 1) (scope_of i.role) outer h))

pub outward_keeps : (g : Setting) (u : Unwinding) (r : Remainder) → HasScopes r → HasScopes (outward g u r).to
unfolding outward
outward_keeps g u r has = outward_from_keeps g.script u r.items r has.open_scopes

-- ---- once blocks and destructors

begins_keep : (entry : Entry) (role : Role) (n : ℤ) (line : What) (r : Remainder) → scope_of role ≡ Some (r.scopes + 1) → HasScopes r → Keeps (begins entry role n line r)
begins_keep entry role n line r e has = record {
  open_scopes = (tt, subst (λ scope. Has (r.scopes + 1 + 1) scope r.items) (sym e) (omega arith, has.open_scopes));
}

pub once_keeps : (g : Setting) (block routine : NameId) (r : Remainder) → HasScopes r → HasScopes (begins_once g block routine r).to
once_keeps g block routine r has = begins_keep (entry_of g.script routine) (Doing (r.scopes + 1) block routine) (pos 0) (what.Once (r.scopes + 1) block) r refl has

pub destructor_keeps : (g : Setting) (key routine : NameId) (n : ℤ) (r : Remainder) → HasScopes r → HasScopes (begins_destructor g key routine n r).to
destructor_keeps g key routine n r has = begins_keep (entry_of g.script routine) (Barrier (r.scopes + 1) key routine) n (what.Destroy (r.scopes + 1) key n) r refl has

-- ---- replies

raised_if_keeps : (x : Option Exc) (r : Remainder) → HasScopes r → Keeps (raised_if x r)
raised_if_keeps None r has = has
raised_if_keeps (Some x) r has = record { open_scopes = has.open_scopes }

replied_by_keeps : (g : Setting) (act : Act) (h : Spot) (r : Remainder) (y : Reply) → HasScopes r → Has (r.scopes + 1) (scope_of h.role) h.outer → Keeps (replied_by g act h r y)
replied_by_keeps g (Asks call) h r y has here = raised_if_keeps (raised_by _ call y) _ (record { open_scopes = stores_keep (stores call y) (passed h) (r.scopes + 1) here })
replied_by_keeps g (Sets v e) h r y has here = has
replied_by_keeps g (Says e) h r y has here = has
replied_by_keeps g (Chooses e body other) h r y has here = has
replied_by_keeps g (Repeats e again) h r y has here = has
replied_by_keeps g (Tries body ways) h r y has here = has
replied_by_keeps g (Raises name) h r y has here = has
replied_by_keeps g RaisesAgain h r y has here = has
replied_by_keeps g (Calls routine e place) h r y has here = has
replied_by_keeps g (Returns e) h r y has here = has
replied_by_keeps g (Exits e) h r y has here = has

replied_at_keeps : (g : Setting) (place : Place) (r : Remainder) (y : Reply) → HasScopes r → HasPlace (r.scopes + 1) place → Keeps (replied_at g place r y)
replied_at_keeps g Nowhere r y has here = has
replied_at_keeps g (AtEnd close role outer) r y has here = has
replied_at_keeps g (At h) r y has here = replied_by_keeps g (act_at h) h r y has here

pub replied_keeps : (g : Setting) (y : Reply) (r : Remainder) → HasScopes r → HasScopes (replied g y r).to
unfolding replied
replied_keeps g y r has = replied_at_keeps g (place_in r.items) r y has (place_has (r.scopes + 1) r.items has.open_scopes)

-- ---- a thread that begins

pub fresh_has : (s : Script) (routine : NameId) (n : ℤ) → HasScopes (fresh s routine n)
fresh_has s routine n = record { open_scopes = (tt, tt) }

-- ---- all steps

undone_keeps : (scope : ℕ) (i : Item) (u : Unwinding) (outer : List Item) (r : Remainder) → r.items ≡ i ∷ outer → HasScopes r → HasScopes (undone scope u outer r).to
undone_keeps scope i u outer r e has = record { open_scopes = outside (r.scopes + 1) (scope_of i.role) outer (subst (AreScopes (r.scopes + 1)) e has.open_scopes) }

pub scopes_are_kept : IsKeptBySteps (λ s. HasScopes)
scopes_are_kept = record {
  begins = fresh_has;
  steps = quiet_keeps;
  shares = shared_keeps;
  goes = λ g u r e has. outward_keeps g u r has;
  undoes = λ g scope block routine left u outer r e has. undone_keeps scope _ u outer r e has;
  replies = replied_keeps;
  runs = λ g block routine r after asks has more. once_keeps g block routine after more;
  destroys = destructor_keeps;
  raises = λ s x r has. record { open_scopes = has.open_scopes };
  delivers = λ s r has. record { open_scopes = has.open_scopes };
}
