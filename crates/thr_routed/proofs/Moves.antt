-- Each step of a thread goes on with its course.
use Rattle.std.proofs.Common.{◌≡◌, ℕ, ◌+◌, ℤ, pos, Bool, true, false, List, [], ◌∷◌, ◌++◌, Option, Some, None, Ok, Err, refl, sym, ap, ◌∙◌, subst, append-nil, if◌then◌else◌}
use Rattle.thr_values.specs.declared.number.NameId.{NameId}
use Rattle.thr_values.specs.declared.exception.Exc.{Exc}
use Rattle.thr_values.specs.declared.history.What.{What}
use Rattle.thr_values.specs.declared.history.What.TheVariants as what
use Rattle.thr_values.specs.declared.reply.Reply.{Reply}
use Rattle.thr_syntax.specs.declared.expr.Var.{Var}
use Rattle.thr_syntax.specs.declared.expr.Var.TheVariants.{Local, Shared}
use Rattle.thr_syntax.specs.declared.tree.Script.{Script}
use Rattle.thr_remainder.specs.declared.unwinding.Cause.{Cause}
use Rattle.thr_remainder.specs.declared.unwinding.Cause.TheVariants.{Raised, Exit}
use Rattle.thr_remainder.specs.declared.unwinding.Unwinding.{Unwinding}
use Rattle.thr_remainder.specs.Places.{Placed, Handler, Ways, Catches, Finally}
use Rattle.thr_remainder.specs.Acts.{Act, Sets, Says, Chooses, Repeats, Tries, Raises, RaisesAgain, Calls, Returns, Exits, Asks}
use Rattle.thr_remainder.specs.Remainders.{Item, Role, Calling, Trying, Catching, Finishing, Doing, Barrier, Setting, Remainder, Move, Spot, Place, Nowhere, AtEnd, At, place_in, place_inside, act_at, passed, role_with, is_call, with_local, has_room}
use Rattle.thr_remainder.specs.Expressions.{Value, SharedValues, none_shared, value_of}
use Rattle.thr_remainder.specs.Starts.{raised, delivered, begins_once, begins_destructor}
use Rattle.thr_remainder.specs.Steps.{stored, place_for, variable_set, told, or_raised, valued, made, ended, step_at, quiet, shared_step}
use Rattle.thr_remainder.specs.Outward.{meeting, at_try, caught_by, first_catch, met, outward_from, outward, undone}
use Rattle.thr_remainder.specs.Replies.{stored_in, raised_if, replied_by, replied_at, replied, raised_by}
use Rattle.thr_remainder.specs.Calls.{stores}
use Rattle.thr_routed.specs.Courses.{Outline, with_role, roles_in, outline, at_rest, on_way, unwinding, IsPassedBy, SetsOut, Opens, Closes, Change, Course}
use Rattle.thr_routed.specs.Courses as courses
use Rattle.thr_routed.specs.Reaching.{IsRightReturn, IsRightAct, IsRightAt}

-- ---- roles

local_role : (p : ℕ) (v : ℤ) (role : Role) (outer rest : List Item) → roles_in rest ≡ roles_in outer
    → with_role (role_with p v role) (roles_in (if is_call role then outer else rest)) ≡ with_role role (roles_in outer)
local_role p v (Calling locals place) outer rest e = refl
local_role p v (Trying scope ways) outer rest e = ap (λ (rs : List Role). Trying scope ways ∷ rs) e
local_role p v (Catching scope caught) outer rest e = ap (λ (rs : List Role). Catching scope caught ∷ rs) e
local_role p v (Finishing scope pending) outer rest e = ap (λ (rs : List Role). Finishing scope pending ∷ rs) e
local_role p v (Doing scope block routine) outer rest e = ap (λ (rs : List Role). Doing scope block routine ∷ rs) e
local_role p v (Barrier scope key routine) outer rest e = ap (λ (rs : List Role). Barrier scope key routine ∷ rs) e

local_roles : (p : ℕ) (v : ℤ) (items : List Item) → roles_in (with_local p v items) ≡ roles_in items
local_roles p v [] = refl
local_roles p v (i ∷ items) = local_role p v i.role items (with_local p v items) (local_roles p v items)

variable_roles : (v : Var) (x : ℤ) (items : List Item) → roles_in (variable_set v x items) ≡ roles_in items
variable_roles (Local p) x items = local_roles p x items
variable_roles (Shared name) x items = refl

stored_roles : (place : Option ℕ) (x : ℤ) (items : List Item) → roles_in (stored place x items) ≡ roles_in items
stored_roles None x items = refl
stored_roles (Some p) x items = local_roles p x items

stores_roles : (stores : List (Var × ℤ)) (items : List Item) → roles_in (stored_in stores items) ≡ roles_in items
stores_roles [] items = refl
stores_roles ((Local p, x) ∷ stores) items = stores_roles stores (with_local p x items) ∙ local_roles p x items
stores_roles ((Shared name, x) ∷ stores) items = stores_roles stores items

-- The place is the innermost one of these items.
abbrev pub IsPlaceOf : Place → List Item → Type 0
IsPlaceOf Nowhere items = items ≡ []
IsPlaceOf (AtEnd close role outer) items = roles_in items ≡ with_role role (roles_in outer)
IsPlaceOf (At h) items = roles_in items ≡ with_role h.role (roles_in h.outer)

place_inside_is : (todo : List Placed) (close : ℕ) (role : Role) (outer items : List Item) → roles_in items ≡ with_role role (roles_in outer) → IsPlaceOf (place_inside todo close role outer) items
place_inside_is [] close role outer items e = e
place_inside_is (p ∷ todo) close role outer items e = e

pub place_is : (items : List Item) → IsPlaceOf (place_in items) items
place_is [] = refl
place_is (i ∷ outer) = place_inside_is i.inside.todo i.inside.close i.role outer (i ∷ outer) refl

module _ (s : Script) (HasWays : ℕ → Ways → Type 0) (MayReturn : Type 0) where
  -- The thread has had this course so far.
  abbrev pub Ran : List Role → Option Unwinding → ℕ → ℕ → List What → Type 0
  Ran roles under k n lines = Course s HasWays MayReturn (Some (record { roles = roles; under = under; scopes = k; unwindings = n })) lines

  -- The step goes on with the course of a thread that has this left.
  abbrev pub Goes : Remainder → Move → Type 0
  Goes r m = (lines : List What) → Course s HasWays MayReturn (Some (outline r)) lines → Course s HasWays MayReturn (Some (outline m.to)) (lines ++ m.lines)

  pub no_line : (o : Option Outline) (lines : List What) → Course s HasWays MayReturn o lines → Course s HasWays MayReturn o (lines ++ [])
  no_line o lines c = subst (λ ls. Course s HasWays MayReturn o ls) (sym (append-nil lines)) c

  same_roles : (roles roles' : List Role) (under : Option Unwinding) (k n : ℕ) (lines : List What) → roles' ≡ roles → Ran roles under k n lines → Ran roles' under k n lines
  same_roles roles roles' under k n lines e c = subst (λ rs. Ran rs under k n lines) (sym e) c

  -- An unwinding sets out.
  sets : (roles : List Role) (under : Option Unwinding) (k n : ℕ) (cause : Cause) (w : What) (lines : List What) → under ≡ None → SetsOut (n + 1) cause w → Ran roles under k n lines
      → Ran roles (Some (unwinding (n + 1) cause)) k (n + 1) (lines ++ w ∷ [])
  sets roles under k n cause w lines e out c = courses.after (subst (λ u. Ran roles u k n lines) e c) (courses.sets_out roles k n cause w out)

  pub raised_goes : (x : Exc) (r : Remainder) → r.under_way ≡ None → Goes r (raised x r)
  raised_goes x r e lines c = sets (roles_in r.items) r.under_way r.scopes r.unwindings (Raised x) _ lines e (courses.by_raise x) c

  pub delivered_goes : (r : Remainder) → r.under_way ≡ None → Goes r (delivered r)
  delivered_goes r e lines c = sets (roles_in r.items) r.under_way r.scopes r.unwindings (Raised _) _ lines e (courses.by_delivery _) c

  -- A line that is passed by.
  pub passed_line : (roles : List Role) (under : Option Unwinding) (k n : ℕ) (w : What) (lines : List What) → under ≡ None → IsPassedBy w → Ran roles under k n lines → Ran roles under k n (lines ++ w ∷ [])
  passed_line roles under k n w lines e p c =
      subst (λ u. Ran roles u k n (lines ++ w ∷ [])) (sym e) (courses.after (subst (λ u. Ran roles u k n lines) e c) (courses.passes roles k n w p))

  told_true : (act : Act) (line : ℕ) (v : ℤ) (roles : List Role) (under : Option Unwinding) (k n : ℕ) (lines : List What) → under ≡ None → Ran roles under k n lines → Ran roles under k n (lines ++ told act line v)
  told_true (Sets x e) line v roles under k n lines none c = passed_line roles under k n _ lines none (record { scopes = λ ss. refl; making = refl; carrying = refl; closing = λ i. refl; going = λ i ss. refl; pausing = refl; ending = refl }) c
  told_true (Says e) line v roles under k n lines none c = passed_line roles under k n _ lines none (record { scopes = λ ss. refl; making = refl; carrying = refl; closing = λ i. refl; going = λ i ss. refl; pausing = refl; ending = refl }) c
  told_true (Chooses e body other) line v roles under k n lines none c = passed_line roles under k n _ lines none (record { scopes = λ ss. refl; making = refl; carrying = refl; closing = λ i. refl; going = λ i ss. refl; pausing = refl; ending = refl }) c
  told_true (Repeats e again) line v roles under k n lines none c = passed_line roles under k n _ lines none (record { scopes = λ ss. refl; making = refl; carrying = refl; closing = λ i. refl; going = λ i ss. refl; pausing = refl; ending = refl }) c
  told_true (Calls routine e place) line v roles under k n lines none c = passed_line roles under k n _ lines none (record { scopes = λ ss. refl; making = refl; carrying = refl; closing = λ i. refl; going = λ i ss. refl; pausing = refl; ending = refl }) c
  told_true (Returns e) line v roles under k n lines none c = passed_line roles under k n _ lines none (record { scopes = λ ss. refl; making = refl; carrying = refl; closing = λ i. refl; going = λ i ss. refl; pausing = refl; ending = refl }) c
  told_true _ line v roles under k n lines none c = no_line _ lines c

  told_goes : (tells : Bool) (act : Act) (line : ℕ) (v : ℤ) (roles : List Role) (under : Option Unwinding) (k n : ℕ) (lines : List What) → under ≡ None → Ran roles under k n lines
      → Ran roles under k n (lines ++ (if tells then told act line v else []))
  told_goes true act line v roles under k n lines none c = told_true act line v roles under k n lines none c
  told_goes false act line v roles under k n lines none c = no_line _ lines c

  valued_goes : (value : Value) (step : ℤ → Move) (r : Remainder) → r.under_way ≡ None → ((n : ℤ) → Goes r (step n)) → Goes r (or_raised value step r)
  valued_goes (Ok n) step r none h = h n
  valued_goes (Err x) step r none h = raised_goes x r none

  either_goes : (b : Bool) (r : Remainder) (m o : Move) → Goes r m → Goes r o → Goes r (if b then m else o)
  either_goes true r m o h k = h
  either_goes false r m o h k = k

  -- ---- statements

  -- A scope that a return leaves, or none.
  returned : (role : Role) (outer : List Role) (under : Option Unwinding) (k n : ℕ) (lines : List What) → under ≡ None → (is_call role ≡ false → MayReturn) → Ran (with_role role outer) under k n lines → Ran outer under k n lines
  returned role outer under k n lines none may c =
      subst (λ u. Ran outer u k n lines) (sym none) (by_role role may (subst (λ u. Ran (with_role role outer) u k n lines) none c))
    where
      by_role : (role : Role) → (is_call role ≡ false → MayReturn) → Ran (with_role role outer) None k n lines → Ran outer None k n lines
      by_role (Calling locals place) may c = c
      by_role (Trying scope ways) may c = courses.slips (Trying scope ways) (may refl) c
      by_role (Catching scope caught) may c = courses.slips (Catching scope caught) (may refl) c
      by_role (Finishing scope pending) may c = courses.slips (Finishing scope pending) (may refl) c
      by_role (Doing scope block routine) may c = courses.slips (Doing scope block routine) (may refl) c
      by_role (Barrier scope key routine) may c = courses.slips (Barrier scope key routine) (may refl) c

  -- Only what is inside the items changes.
  inside_goes : (tells : Bool) (act : Act) (line : ℕ) (v : ℤ) (items : List Item) (value : ℤ) (r : Remainder) → r.under_way ≡ None → roles_in items ≡ roles_in r.items
      → (let m : Move = record { to = record r { items = items; value = value }; lines = if tells then told act line v else [] } in Goes r m)
  inside_goes tells act line v items value r none e lines c =
      told_goes tells act line v (roles_in items) r.under_way r.scopes r.unwindings lines none (same_roles (roles_in r.items) (roles_in items) r.under_way r.scopes r.unwindings lines e c)

  return_goes : (tells : Bool) (e : _) (line : ℕ) (v : ℤ) (role : Role) (outer items : List Item) (value : ℤ) (r : Remainder) → r.under_way ≡ None → roles_in r.items ≡ with_role role (roles_in outer) → roles_in items ≡ roles_in outer
      → (is_call role ≡ false → MayReturn) → (let m : Move = record { to = record r { items = items; value = value }; lines = if tells then told (Returns e) line v else [] } in Goes r m)
  return_goes tells e line v role outer items value r none is same may lines c =
      told_goes tells (Returns e) line v (roles_in items) r.under_way r.scopes r.unwindings lines none
      (same_roles (roles_in outer) (roles_in items) r.under_way r.scopes r.unwindings lines same
      (returned role (roles_in outer) r.under_way r.scopes r.unwindings lines none may (same_roles (roles_in r.items) (with_role role (roles_in outer)) r.under_way r.scopes r.unwindings lines (sym is) c)))

  -- A scope is opened.
  opened : (roles : List Role) (under : Option Unwinding) (k n : ℕ) (role : Role) (w : What) (lines : List What) → under ≡ None → Opens HasWays (k + 1) role w → Ran roles under k n lines
      → Ran (role ∷ roles) under (k + 1) n (lines ++ w ∷ [])
  opened roles under k n role w lines e o c =
      subst (λ u. Ran (role ∷ roles) u (k + 1) n (lines ++ w ∷ [])) (sym e) (courses.after (subst (λ u. Ran roles u k n lines) e c) (courses.opens roles k n role w o))

  may_return : (b : Bool) → IsRightReturn MayReturn b → b ≡ false → MayReturn
  may_return true h e = absurd (cc)
  may_return false h e = h

  module _ (g : Setting) (tells : Bool) (shared : SharedValues) (h : Spot) (r : Remainder) (none : r.under_way ≡ None) (here : roles_in r.items ≡ with_role h.role (roles_in h.outer)) where
    made_goes : (act : Act) → IsRightAct HasWays MayReturn h.line h.role act → Goes r (made g tells shared act h r)
    made_goes (Sets v e) right =
        valued_goes (value_of g shared r e) _ r none (λ n. inside_goes tells (Sets v e) h.line n (variable_set v n (passed h)) r.value r none (variable_roles v n (passed h) ∙ sym here))
    made_goes (Says e) right = valued_goes (value_of g shared r e) _ r none (λ n. inside_goes tells (Says e) h.line n (passed h) r.value r none (sym here))
    made_goes (Chooses e body other) right = valued_goes (value_of g shared r e) _ r none (λ n. inside_goes tells (Chooses e body other) h.line n (valued g tells (Chooses e body other) h r n).to.items r.value r none (sym here))
    made_goes (Repeats e again) right = valued_goes (value_of g shared r e) _ r none (λ n. inside_goes tells (Repeats e again) h.line n (valued g tells (Repeats e again) h r n).to.items r.value r none (sym here))
    made_goes (Tries body ways) right =
        either_goes (has_room g r 1) r _ _
        (λ lines c. opened _ r.under_way r.scopes r.unwindings (Trying (r.scopes + 1) ways) _ lines none (courses.by_try _ ways right) (same_roles (roles_in r.items) _ r.under_way r.scopes r.unwindings lines (sym here) c))
        (raised_goes _ r none)
    made_goes (Raises name) right = raised_goes _ r none
    made_goes RaisesAgain right = λ lines c. sets (roles_in r.items) r.under_way r.scopes r.unwindings (Raised _) _ lines none (courses.by_reraise _) c
    made_goes (Calls routine e place) right =
        either_goes (has_room g r 1) r _ _
        (valued_goes (value_of g shared r e) _ r none (λ n. inside_goes tells (Calls routine e place) h.line n (valued g tells (Calls routine e place) h r n).to.items r.value r none (sym here))) (raised_goes _ r none)
    made_goes (Returns e) right =
        valued_goes (value_of g shared r e) _ r none (λ n. return_goes tells e h.line n h.role h.outer (stored (place_for h.role) n h.outer) (valued g tells (Returns e) h r n).to.value r none here (stored_roles (place_for h.role) n h.outer) (may_return (is_call h.role) right))
    made_goes (Exits e) right =
        valued_goes (value_of g shared r e) _ r none (λ n lines c. sets (roles_in r.items) r.under_way r.scopes r.unwindings (Exit n) _ lines none (courses.by_exit n) c)
    made_goes (Asks call) right = λ lines c. no_line _ lines c

  -- ---- ends

  closed : (roles : List Role) (under pending : Option Unwinding) (k n : ℕ) (role : Role) (w : What) (lines : List What) → under ≡ None → Closes role w pending → Ran (role ∷ roles) under k n lines
      → Ran roles pending k n (lines ++ w ∷ [])
  closed roles under pending k n role w lines e o c = courses.after (subst (λ u. Ran (role ∷ roles) u k n lines) e c) (courses.closes roles k n role w pending o)

  closed_none : (roles : List Role) (under : Option Unwinding) (k n : ℕ) (role : Role) (w : What) (lines : List What) → under ≡ None → Closes role w None → Ran (role ∷ roles) under k n lines
      → Ran roles under k n (lines ++ w ∷ [])
  closed_none roles under k n role w lines e o c = subst (λ u. Ran roles u k n (lines ++ w ∷ [])) (sym e) (closed roles under None k n role w lines e o c)

  tried_goes : (scope : ℕ) (ways : Ways) (outer : List Item) (r : Remainder) → r.under_way ≡ None → roles_in r.items ≡ Trying scope ways ∷ roles_in outer → Goes r (ended (Trying scope ways) outer r)
  tried_goes scope (Catches handlers) outer r none here lines c =
      closed_none (roles_in outer) r.under_way r.scopes r.unwindings _ _ lines none (courses.by_endtry scope handlers) (same_roles _ _ r.under_way r.scopes r.unwindings lines (sym here) c)
  tried_goes scope (Finally body) outer r none here lines c =
      subst (λ u. Ran (Finishing scope None ∷ roles_in outer) u r.scopes r.unwindings (lines ++ what.Finally scope 0 ∷ [])) (sym none)
      (courses.after (subst (λ u. Ran (Trying scope (Finally body) ∷ roles_in outer) u r.scopes r.unwindings lines) none (same_roles _ _ r.under_way r.scopes r.unwindings lines (sym here) c))
      (courses.finishes (roles_in outer) r.scopes r.unwindings scope body))

  ended_goes : (role : Role) (outer : List Item) (r : Remainder) → r.under_way ≡ None → roles_in r.items ≡ with_role role (roles_in outer) → Goes r (ended role outer r)
  ended_goes (Calling locals place) outer r none here lines c =
      no_line _ lines (same_roles (roles_in r.items) _ r.under_way r.scopes r.unwindings lines (stored_roles place (pos 0) outer ∙ sym here) c)
  ended_goes (Trying scope ways) outer r none here lines c = tried_goes scope ways outer r none here lines c
  ended_goes (Catching scope caught) outer r none here lines c =
      closed_none (roles_in outer) r.under_way r.scopes r.unwindings _ _ lines none (courses.by_endcatch scope caught) (same_roles _ _ r.under_way r.scopes r.unwindings lines (sym here) c)
  ended_goes (Finishing scope pending) outer r none here lines c =
      closed (roles_in outer) r.under_way pending r.scopes r.unwindings _ _ lines none (courses.by_endfin scope pending) (same_roles _ _ r.under_way r.scopes r.unwindings lines (sym here) c)
  ended_goes (Doing scope block routine) outer r none here lines c =
      closed_none (roles_in outer) r.under_way r.scopes r.unwindings _ _ lines none (courses.by_done scope block routine) (same_roles _ _ r.under_way r.scopes r.unwindings lines (sym here) c)
  ended_goes (Barrier scope key routine) outer r none here lines c =
      closed_none (roles_in outer) r.under_way r.scopes r.unwindings _ _ lines none (courses.by_enddes scope key routine) (same_roles _ _ r.under_way r.scopes r.unwindings lines (sym here) c)

  -- ---- steps

  step_goes : (g : Setting) (tells : Bool) (shared : SharedValues) (place : Place) (r : Remainder) → r.under_way ≡ None → IsPlaceOf place r.items → IsRightAt HasWays MayReturn place → Goes r (step_at g tells shared place r)
  step_goes g tells shared Nowhere r none here right = λ lines c. no_line _ lines c
  step_goes g tells shared (AtEnd close role outer) r none here right = ended_goes role outer r none here
  step_goes g tells shared (At h) r none here right = made_goes g tells shared h r none here (act_at h) right

  pub quiet_goes : (g : Setting) (r : Remainder) → r.under_way ≡ None → IsRightAt HasWays MayReturn (place_in r.items) → Goes r (quiet g r)
  unfolding quiet
  quiet_goes g r none right = step_goes g false none_shared (place_in r.items) r none (place_is r.items) right

  pub shared_goes : (g : Setting) (shared : SharedValues) (r : Remainder) → r.under_way ≡ None → IsRightAt HasWays MayReturn (place_in r.items) → Goes r (shared_step g shared r)
  unfolding shared_step
  shared_goes g shared r none right = step_goes g true shared (place_in r.items) r none (place_is r.items) right

  -- ---- replies

  raised_if_goes : (o : Option Exc) (r : Remainder) → r.under_way ≡ None → Goes r (raised_if o r)
  raised_if_goes None r none = λ lines c. no_line _ lines c
  raised_if_goes (Some x) r none = raised_goes x r none

  reply_goes : (g : Setting) (act : Act) (h : Spot) (r : Remainder) (y : Reply) → r.under_way ≡ None → roles_in r.items ≡ with_role h.role (roles_in h.outer) → Goes r (replied_by g act h r y)
  reply_goes g (Asks call) h r y none here lines c =
      let x : List Item = stored_in (stores call y) (passed h) in
      raised_if_goes (raised_by _ call y) (record r { items = x; err = _ }) none lines
      (same_roles (roles_in r.items) (roles_in x) r.under_way r.scopes r.unwindings lines (stores_roles (stores call y) (passed h) ∙ sym here) c)
  reply_goes g _ h r y none here lines c = no_line _ lines c

  replied_at_goes : (g : Setting) (place : Place) (r : Remainder) (y : Reply) → r.under_way ≡ None → IsPlaceOf place r.items → Goes r (replied_at g place r y)
  replied_at_goes g (At h) r y none here = reply_goes g (act_at h) h r y none here
  replied_at_goes g _ r y none here = λ lines c. no_line _ lines c

  pub replied_goes : (g : Setting) (y : Reply) (r : Remainder) → r.under_way ≡ None → Goes r (replied g y r)
  unfolding replied
  replied_goes g y r none = replied_at_goes g (place_in r.items) r y none (place_is r.items)

  -- ---- once blocks and destructors

  pub once_goes : (g : Setting) (block routine : NameId) (r : Remainder) → r.under_way ≡ None → Goes r (begins_once g block routine r)
  once_goes g block routine r none lines c = opened (roles_in r.items) r.under_way r.scopes r.unwindings _ _ lines none (courses.by_once block routine) c

  pub destructor_goes : (g : Setting) (key routine : NameId) (n : ℤ) (r : Remainder) → r.under_way ≡ None → Goes r (begins_destructor g key routine n r)
  destructor_goes g key routine n r none lines c = opened (roles_in r.items) r.under_way r.scopes r.unwindings _ _ lines none (courses.by_destructor key routine n) c

  -- ---- unwindings

  -- The unwinding is under way at these items.
  abbrev RanAt : Unwinding → List Item → Remainder → List What → Type 0
  RanAt u items r lines = Ran (roles_in items) (Some u) r.scopes r.unwindings lines

  caught_goes : (u : Unwinding) (scope : ℕ) (handlers : List Handler) (x : Exc) (o : Option Handler) (i : Item) (outer : List Item) (r : Remainder) (further : Move) (lines : List What)
      → u ≡ unwinding u.number (Raised x) → first_catch s x handlers ≡ o → meeting s (Trying scope (Catches handlers)) u ≡ caught_by scope u.number x o → Ran (Trying scope (Catches handlers) ∷ roles_in outer) (Some u) r.scopes r.unwindings lines
      → (RanAt u outer r lines → Course s HasWays MayReturn (Some (outline further.to)) (lines ++ further.lines))
      → Course s HasWays MayReturn (Some (outline (met (caught_by scope u.number x o) i outer r further).to)) (lines ++ (met (caught_by scope u.number x o) i outer r further).lines)
  caught_goes u scope handlers x None i outer r further lines is e m c more = more (courses.drops (Trying scope (Catches handlers)) u m c)
  caught_goes u scope handlers x (Some h) i outer r further lines is e m c more =
      courses.after (subst (λ v. Ran (Trying scope (Catches handlers) ∷ roles_in outer) (Some v) r.scopes r.unwindings lines) is c)
      (courses.is_caught (roles_in outer) r.scopes r.unwindings scope handlers u.number x h e)

  catch_goes : (cause : Cause) (u : Unwinding) (scope : ℕ) (handlers : List Handler) (i : Item) (outer : List Item) (r : Remainder) (further : Move) (lines : List What)
      → u ≡ unwinding u.number cause → meeting s (Trying scope (Catches handlers)) u ≡ at_try s scope (Catches handlers) u cause → Ran (Trying scope (Catches handlers) ∷ roles_in outer) (Some u) r.scopes r.unwindings lines
      → (RanAt u outer r lines → Course s HasWays MayReturn (Some (outline further.to)) (lines ++ further.lines))
      → Course s HasWays MayReturn (Some (outline (met (at_try s scope (Catches handlers) u cause) i outer r further).to)) (lines ++ (met (at_try s scope (Catches handlers) u cause) i outer r further).lines)
  catch_goes (Raised x) u scope handlers i outer r further lines is m c more =
      caught_goes u scope handlers x (first_catch s x handlers) i outer r further lines is refl m c more
  catch_goes (Exit v) u scope handlers i outer r further lines is m c more = more (courses.drops (Trying scope (Catches handlers)) u m c)

  try_goes : (u : Unwinding) (scope : ℕ) (ways : Ways) (i : Item) (outer : List Item) (r : Remainder) (further : Move) (lines : List What)
      → Ran (Trying scope ways ∷ roles_in outer) (Some u) r.scopes r.unwindings lines → (RanAt u outer r lines → Course s HasWays MayReturn (Some (outline further.to)) (lines ++ further.lines))
      → Course s HasWays MayReturn (Some (outline (met (meeting s (Trying scope ways) u) i outer r further).to)) (lines ++ (met (meeting s (Trying scope ways) u) i outer r further).lines)
  try_goes u scope (Catches handlers) i outer r further lines c more = catch_goes u.cause u scope handlers i outer r further lines refl refl c more
  try_goes u scope (Finally body) i outer r further lines c more = courses.after c (courses.is_pending (roles_in outer) r.scopes r.unwindings scope body u)

  item_goes : (role : Role) (u : Unwinding) (i : Item) (outer : List Item) (r : Remainder) (further : Move) (lines : List What) → i.role ≡ role → r.under_way ≡ Some u
      → Ran (with_role role (roles_in outer)) (Some u) r.scopes r.unwindings lines → (RanAt u outer r lines → Course s HasWays MayReturn (Some (outline further.to)) (lines ++ further.lines))
      → Course s HasWays MayReturn (Some (outline (met (meeting s role u) i outer r further).to)) (lines ++ (met (meeting s role u) i outer r further).lines)
  item_goes (Calling locals place) u i outer r further lines e under c more = more c
  item_goes (Trying scope ways) u i outer r further lines e under c more = try_goes u scope ways i outer r further lines c more
  item_goes (Catching scope caught) u i outer r further lines e under c more = more (courses.drops (Catching scope caught) u refl c)
  item_goes (Finishing scope pending) u i outer r further lines e under c more = more (courses.drops (Finishing scope pending) u refl c)
  item_goes (Doing scope block routine) u i outer r further lines e under c more =
      no_line _ lines
      (subst (λ v. Ran (with_role i.role (roles_in outer)) v r.scopes r.unwindings lines) (sym under)
      (subst (λ role. Ran (with_role role (roles_in outer)) (Some u) r.scopes r.unwindings lines) (sym e) c))
  item_goes (Barrier scope key routine) u i outer r further lines e under c more = courses.after c (courses.is_lost (roles_in outer) r.scopes r.unwindings scope key routine u)

  outward_from_goes : (u : Unwinding) (items : List Item) (r : Remainder) (lines : List What) → r.under_way ≡ Some u → RanAt u items r lines
      → Course s HasWays MayReturn (Some (outline (outward_from s u items r).to)) (lines ++ (outward_from s u items r).lines)
  outward_from_goes u [] r lines under c = courses.after c (courses.leaves r.scopes r.unwindings u)
  outward_from_goes u (i ∷ outer) r lines under c =
      item_goes i.role u i outer r (outward_from s u outer r) lines refl under c (λ d. outward_from_goes u outer r lines under d)

  pub outward_goes : (g : Setting) (u : Unwinding) (r : Remainder) → g.script ≡ s → r.under_way ≡ Some u → Goes r (outward g u r)
  unfolding outward
  outward_goes g u r e under lines c =
      subst (λ x. Course s HasWays MayReturn (Some (outline (outward_from x u r.items r).to)) (lines ++ (outward_from x u r.items r).lines)) (sym e)
      (outward_from_goes u r.items r lines under (subst (λ v. Ran (roles_in r.items) v r.scopes r.unwindings lines) under c))

  pub undone_goes : (scope : ℕ) (block routine : NameId) (u : Unwinding) (outer : List Item) (r : Remainder) → r.under_way ≡ Some u → roles_in r.items ≡ Doing scope block routine ∷ roles_in outer → Goes r (undone scope u outer r)
  undone_goes scope block routine u outer r under here lines c =
      subst (λ v. Ran (roles_in outer) v r.scopes r.unwindings (lines ++ what.Undone scope u.number ∷ [])) (sym under)
      (courses.after (subst (λ v. Ran (Doing scope block routine ∷ roles_in outer) v r.scopes r.unwindings lines) under (same_roles _ _ r.under_way r.scopes r.unwindings lines (sym here) c))
      (courses.undoes (roles_in outer) r.scopes r.unwindings scope block routine u))
