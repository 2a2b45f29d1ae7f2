-- Steps open no once block.
use Rattle.std.proofs.Common.{◌≡◌, ℕ, ℤ, pos, Bool, true, false, ◌||◌, List, [], ◌∷◌, Option, Some, None, Ok, Err, refl, ap, sym, ◌∙◌, if◌then◌else◌}
use Rattle.std.proofs.lemmas.Bool.{false≢true}
use Rattle.thr_values.specs.declared.exception.Exc.{Exc}
use Rattle.thr_values.specs.Exceptions.{stackovf_e}
use Rattle.thr_syntax.specs.declared.expr.Var.{Var}
use Rattle.thr_syntax.specs.declared.expr.Var.TheVariants.{Local, Shared}
use Rattle.thr_syntax.specs.declared.tree.Script.{Script}
use Rattle.thr_syntax.specs.Shared.{is_shared}
use Rattle.thr_remainder.specs.declared.unwinding.Cause.{Cause}
use Rattle.thr_remainder.specs.declared.unwinding.Cause.TheVariants.{Raised, Exit}
use Rattle.thr_remainder.specs.declared.unwinding.Unwinding.{Unwinding}
use Rattle.thr_remainder.specs.Places.{Placed, Handler, Ways, Catches, Finally}
use Rattle.thr_remainder.specs.Acts.{Act, Sets, Says, Chooses, Repeats, Tries, Raises, RaisesAgain, Calls, Returns, Exits, Asks}
use Rattle.thr_remainder.specs.Remainders.{Item, Role, Calling, Trying, Catching, Finishing, Doing, Barrier, Setting, Remainder, Move, Spot, Place, Nowhere, AtEnd, At, place_in, place_inside, act_at, is_call, role_with, with_local, passed, has_room}
use Rattle.thr_remainder.specs.Calls.{is_point, shape_of}
use Rattle.thr_remainder.specs.Expressions.{Value, SharedValues, value_of}
use Rattle.thr_remainder.specs.Starts.{raised, tries, if_room}
use Rattle.thr_remainder.specs.Steps.{stored, place_for, variable_set, valued, or_raised, made, items_tried, ended, step_at, quiet}
use Rattle.thr_remainder.specs.Outward.{first_catch, Meeting, Drops, Begins, Undoes, Loses, caught_by, at_try, meeting, met, outward_from, outward}
use Rattle.thr_remainder.specs.Next.{Next, GoesOutward, UndoesOnce, EndsThread, EndsOnce, Shares, IsAtPoint, StepsQuietly, outward_or_undone, next_outward, next_end, next_shared, next_at, next_by, next}
use Rattle.thr_frames.specs.Stacks.{is_once, have_once, HasNoOnce}

-- ---- items

-- Where none of an item and those outside it is a once block's, none of those outside is.
none_outside : (b c : Bool) → (b || c) ≡ false → c ≡ false
none_outside true c h = absurd (false≢true (sym h))
none_outside false c h = h

once_role : (p : ℕ) (n : ℤ) (x : Role) → is_once (role_with p n x) ≡ is_once x
once_role p n (Calling locals place) = refl
once_role p n (Trying scope ways) = refl
once_role p n (Catching scope caught) = refl
once_role p n (Finishing scope pending) = refl
once_role p n (Doing scope block routine) = refl
once_role p n (Barrier scope key routine) = refl

once_if : (b : Bool) (x y : List Item) → have_once y ≡ have_once x → have_once (if b then x else y) ≡ have_once x
once_if true x y e = refl
once_if false x y e = e

-- A local that is set is nothing to once blocks.
pub once_local : (p : ℕ) (n : ℤ) (items : List Item) → have_once (with_local p n items) ≡ have_once items
once_local p n [] = refl
once_local p n (i ∷ items) = λ j. once_role p n i.role j || once_if (is_call i.role) items (with_local p n items) (once_local p n items) j

once_stored : (place : Option ℕ) (n : ℤ) (outer : List Item) → have_once (stored place n outer) ≡ have_once outer
once_stored None n outer = refl
once_stored (Some p) n outer = once_local p n outer

once_set : (v : Var) (n : ℤ) (items : List Item) → have_once (variable_set v n items) ≡ have_once items
once_set (Local p) n items = once_local p n items
once_set (Shared name) n items = refl

-- ---- steps at the innermost place

-- The item at this place, or one outside it, is that of a once block.
abbrev pub place_once : Place → Bool
place_once Nowhere = false
place_once (AtEnd close x outer) = is_once x || have_once outer
place_once (At h) = is_once h.role || have_once h.outer

once_inside : (todo : List Placed) (close : ℕ) (x : Role) (outer : List Item) → place_once (place_inside todo close x outer) ≡ (is_once x || have_once outer)
once_inside [] close x outer = refl
once_inside (p ∷ todo) close x outer = refl

pub once_place : (items : List Item) → place_once (place_in items) ≡ have_once items
once_place [] = refl
once_place (i ∷ items) = once_inside i.inside.todo i.inside.close i.role items

-- No once block is open after the move.
abbrev pub Leaves : Move → Type 0
Leaves m = HasNoOnce m.to

leaves_if : (b : Bool) (x y : Move) → Leaves x → Leaves y → Leaves (if b then x else y)
leaves_if true x y h k = h
leaves_if false x y h k = k

module _ (g : Setting) (tells : Bool) (h : Spot) (r : Remainder) (here : (is_once h.role || have_once h.outer) ≡ false) (all : HasNoOnce r) where
  leaves_valued : (a : Act) (n : ℤ) → Leaves (valued g tells a h r n)
  leaves_valued (Sets v e) n = once_set v n (passed h) ∙ here
  leaves_valued (Says e) n = here
  leaves_valued (Chooses e body other) n = here
  leaves_valued (Repeats e again) n = here
  leaves_valued (Tries body ways) n = here
  leaves_valued (Raises name) n = here
  leaves_valued RaisesAgain n = here
  leaves_valued (Calls routine e place) n = here
  leaves_valued (Returns e) n = once_stored (place_for h.role) n h.outer ∙ none_outside (is_once h.role) (have_once h.outer) here
  leaves_valued (Exits e) n = all
  leaves_valued (Asks call) n = here

  leaves_or : (v : Value) (a : Act) → Leaves (or_raised v (valued g tells a h r) r)
  leaves_or (Ok n) a = leaves_valued a n
  leaves_or (Err x) a = all

  leaves_room : (m : Move) → Leaves m → Leaves (if_room g r m)
  leaves_room m k = leaves_if (has_room g r 1) m (raised stackovf_e r) k all

  leaves_made : (shared : SharedValues) (a : Act) → Leaves (made g tells shared a h r)
  leaves_made shared (Sets v e) = leaves_or (value_of g shared r e) (Sets v e)
  leaves_made shared (Says e) = leaves_or (value_of g shared r e) (Says e)
  leaves_made shared (Chooses e body other) = leaves_or (value_of g shared r e) (Chooses e body other)
  leaves_made shared (Repeats e again) = leaves_or (value_of g shared r e) (Repeats e again)
  leaves_made shared (Tries body ways) = leaves_room (tries body ways h r) here
  leaves_made shared (Raises name) = all
  leaves_made shared RaisesAgain = all
  leaves_made shared (Calls routine e place) = leaves_room (or_raised (value_of g shared r e) (valued g tells (Calls routine e place) h r) r) (leaves_or (value_of g shared r e) (Calls routine e place))
  leaves_made shared (Returns e) = leaves_or (value_of g shared r e) (Returns e)
  leaves_made shared (Exits e) = leaves_or (value_of g shared r e) (Exits e)
  leaves_made shared (Asks call) = all

once_tried : (scope : ℕ) (ways : Ways) (outer : List Item) → have_once outer ≡ false → have_once (items_tried scope ways outer) ≡ false
once_tried scope (Catches handlers) outer h = h
once_tried scope (Finally body) outer h = h

leaves_ended : (x : Role) (outer : List Item) (r : Remainder) → have_once outer ≡ false → Leaves (ended x outer r)
leaves_ended (Calling locals place) outer r h = once_stored place (pos 0) outer ∙ h
leaves_ended (Trying scope ways) outer r h = once_tried scope ways outer h
leaves_ended (Catching scope caught) outer r h = h
leaves_ended (Finishing scope pending) outer r h = h
leaves_ended (Doing scope block routine) outer r h = h
leaves_ended (Barrier scope key routine) outer r h = h

leaves_at : (g : Setting) (tells : Bool) (shared : SharedValues) (p : Place) (r : Remainder) → place_once p ≡ false → HasNoOnce r → Leaves (step_at g tells shared p r)
leaves_at g tells shared Nowhere r here all = all
leaves_at g tells shared (AtEnd close x outer) r here all = leaves_ended x outer r (none_outside (is_once x) (have_once outer) here)
leaves_at g tells shared (At h) r here all = leaves_made g tells h r here all shared (act_at h)

pub leaves_step : (g : Setting) (tells : Bool) (shared : SharedValues) (r : Remainder) → HasNoOnce r → HasNoOnce (step_at g tells shared (place_in r.items) r).to
leaves_step g tells shared r all = leaves_at g tells shared (place_in r.items) r (once_place r.items ∙ all) all

-- ---- outward steps

-- The body that begins is that of a once block.
begins_once : Meeting → Bool
begins_once (Begins x body line) = is_once x
begins_once Drops = false
begins_once Undoes = false
begins_once (Loses line) = false

once_caught : (scope n : ℕ) (x : Exc) (clause : Option Handler) → begins_once (caught_by scope n x clause) ≡ false
unfolding begins_once
once_caught scope n x None = refl
once_caught scope n x (Some clause) = refl

once_try : (s : Script) (scope : ℕ) (ways : Ways) (u : Unwinding) (cause : Cause) → begins_once (at_try s scope ways u cause) ≡ false
unfolding begins_once
once_try s scope (Finally body) u cause = refl
once_try s scope (Catches clauses) u (Raised x) = once_caught scope u.number x (first_catch s x clauses)
once_try s scope (Catches clauses) u (Exit v) = refl

once_meeting : (s : Script) (x : Role) (u : Unwinding) → begins_once (meeting s x u) ≡ false
unfolding begins_once
once_meeting s (Calling locals place) u = refl
once_meeting s (Trying scope ways) u = once_try s scope ways u u.cause
once_meeting s (Catching scope caught) u = refl
once_meeting s (Finishing scope pending) u = refl
once_meeting s (Doing scope block routine) u = refl
once_meeting s (Barrier scope key routine) u = refl

leaves_met : (m : Meeting) (i : Item) (outer : List Item) (r : Remainder) (further : Move) → begins_once m ≡ false → (is_once i.role || have_once outer) ≡ false → Leaves further → Leaves (met m i outer r further)
unfolding begins_once
leaves_met Drops i outer r further b h k = k
leaves_met (Begins x body line) i outer r further b h k = ap (λ (y : Bool). y || have_once outer) b ∙ none_outside (is_once i.role) (have_once outer) h
leaves_met Undoes i outer r further b h k = h
leaves_met (Loses line) i outer r further b h k = none_outside (is_once i.role) (have_once outer) h

pub leaves_outward : (s : Script) (u : Unwinding) (items : List Item) (r : Remainder) → have_once items ≡ false → HasNoOnce (outward_from s u items r).to
leaves_outward s u [] r h = refl
leaves_outward s u (i ∷ outer) r h =
    leaves_met (meeting s i.role u) i outer r (outward_from s u outer r) (once_meeting s i.role u) h (leaves_outward s u outer r (none_outside (is_once i.role) (have_once outer) h))

-- ---- the next step

-- The next step is that of a once block.
abbrev pub is_next_once : Next → Bool
is_next_once (GoesOutward move) = false
is_next_once (UndoesOnce block move) = true
is_next_once EndsThread = false
is_next_once (EndsOnce block move) = true
is_next_once (Shares h) = false
is_next_once (IsAtPoint h) = false
is_next_once (StepsQuietly move) = false

next_or_undone : (x : Role) (u : Unwinding) (outer : List Item) (r : Remainder) (m : Move) → (is_once x || have_once outer) ≡ false → is_next_once (outward_or_undone x u outer r m) ≡ false
next_or_undone (Calling locals place) u outer r m h = refl
next_or_undone (Trying scope ways) u outer r m h = refl
next_or_undone (Catching scope caught) u outer r m h = refl
next_or_undone (Finishing scope pending) u outer r m h = refl
next_or_undone (Doing scope block routine) u outer r m h = h
next_or_undone (Barrier scope key routine) u outer r m h = refl

next_under_way : (u : Unwinding) (items : List Item) (r : Remainder) (m : Move) → have_once items ≡ false → is_next_once (next_outward u items r m) ≡ false
next_under_way u [] r m h = refl
next_under_way u (i ∷ outer) r m h = next_or_undone i.role u outer r m h

next_ended : (x : Role) (outer : List Item) (r : Remainder) (m : Move) → (is_once x || have_once outer) ≡ false → is_next_once (next_end x outer r m) ≡ false
next_ended (Calling locals place) outer r m h = refl
next_ended (Trying scope ways) outer r m h = refl
next_ended (Catching scope caught) outer r m h = refl
next_ended (Finishing scope pending) outer r m h = refl
next_ended (Doing scope block routine) outer r m h = h
next_ended (Barrier scope key routine) outer r m h = refl

next_point : (b : Bool) (h : Spot) → is_next_once (if b then IsAtPoint h else Shares h) ≡ false
next_point true h = refl
next_point false h = refl

next_act : (a : Act) (h : Spot) → is_next_once (next_shared a h) ≡ false
next_act (Sets v e) h = refl
next_act (Says e) h = refl
next_act (Chooses e body other) h = refl
next_act (Repeats e again) h = refl
next_act (Tries body ways) h = refl
next_act (Raises name) h = refl
next_act RaisesAgain h = refl
next_act (Calls routine e place) h = refl
next_act (Returns e) h = refl
next_act (Exits e) h = refl
next_act (Asks call) h = next_point (is_point (shape_of call).word) h

next_if : (b : Bool) (a : Act) (h : Spot) (m : Move) → is_next_once (if b then next_shared a h else StepsQuietly m) ≡ false
next_if true a h m = next_act a h
next_if false a h m = refl

next_here : (p : Place) (r : Remainder) (m : Move) → place_once p ≡ false → is_next_once (next_at p r m) ≡ false
next_here Nowhere r m e = refl
next_here (AtEnd close x outer) r m e = next_ended x outer r m e
next_here (At h) r m e = next_if (is_shared h.stmt) (act_at h) h m

-- Where no once block is open, none is undone or done next.
pub next_outside : (g : Setting) (r : Remainder) → HasNoOnce r → is_next_once (next g r) ≡ false
unfolding next
next_outside g r all = by r.under_way
  where
    by : (o : Option Unwinding) → is_next_once (next_by g o r) ≡ false
    by (Some u) = next_under_way u r.items r (outward g u r) all
    by None = next_here (place_in r.items) r (quiet g r) (once_place r.items ∙ all)
