-- The open scopes that the lines tell are those of the roles.
use Rattle.std.proofs.Common.{◌≡◌, ℕ, ◌≤◌, ◌<◌, ◌==◌, Bool, true, false, not, cond, List, [], ◌∷◌, ◌++◌, Option, Some, None, refl, sym, ap, ◌∙◌, arith, subst, append_assoc, if◌then◌else◌}
use Rattle.std.proofs.lemmas.Bool.Decides.{nat_tests}
use Rattle.thr_values.specs.declared.exception.Exc.{Exc}
use Rattle.thr_syntax.specs.declared.tree.Script.{Script}
use Rattle.thr_remainder.specs.declared.unwinding.Cause.{Cause}
use Rattle.thr_remainder.specs.declared.unwinding.Cause.TheVariants.{Raised, Exit}
use Rattle.thr_remainder.specs.declared.unwinding.Unwinding.{Unwinding}
use Rattle.thr_remainder.specs.Places.{Handler, Ways, Catches, Finally}
use Rattle.thr_remainder.specs.Remainders.{Role, Calling, Trying, Catching, Finishing, Doing, Barrier}
use Rattle.thr_remainder.specs.Outward.{Drops, meeting, at_try, caught_by, first_catch, left_value}
use Rattle.thr_laws.specs.Scopes.{Open, Stage, InBody, InCatch, InFinally, InOnce, InDestructor, without, outside}
use Rattle.thr_laws.specs.Routes.{Carried, Undoes, Loses, Leaves, value_left, route, at_scope}
use Rattle.thr_routed.specs.Courses.{HasClauses, at_handler, at_ways}

-- The number of what is there, or 0.
abbrev pub number_of : Option Unwinding → ℕ
number_of None = 0
number_of (Some u) = u.number

abbrev pub open_at : ℕ → Stage → Open
open_at scope stage = record { scope = scope; stage = stage }

module _ (s : Script) where
  -- The scope is open as the role says.
  abbrev pub IsStage : Role → Open → Type 0
  IsStage (Calling locals place) o = ⊥
  IsStage (Trying scope ways) o = (line : ℕ) × (o ≡ open_at scope (InBody line)) × HasClauses s line ways
  IsStage (Catching scope caught) o = o ≡ open_at scope InCatch
  IsStage (Finishing scope pending) o = o ≡ open_at scope (InFinally (number_of pending))
  IsStage (Doing scope block routine) o = o ≡ open_at scope InOnce
  IsStage (Barrier scope key routine) o = o ≡ open_at scope InDestructor

  -- The open scopes are those of the roles, and their numbers fall from t on.
  abbrev pub AreOpen : ℕ → List Open → List Role → Type 0
  AreOpen t scopes [] = scopes ≡ []
  AreOpen t scopes (role ∷ roles) = (o : Open) × (more : List Open) × (scopes ≡ o ∷ more) × IsStage role o × (o.scope < t) × AreOpen o.scope more roles

  pub open_more : (t v : ℕ) (scopes : List Open) (roles : List Role) → t ≤ v → AreOpen t scopes roles → AreOpen v scopes roles
  open_more t v scopes [] le h = h
  open_more t v scopes (role ∷ roles) le h = (h.0, h.1, h.2, h.3, omega (arith, le, h.4), h.5)

  abbrev pub AreAbove : ℕ → List Open → Type 0
  AreAbove b [] = Unit {0}
  AreAbove b (o ∷ scopes) = (b ≤ o.scope) × AreAbove b scopes

  -- In front of them stand scopes that the unwinding under way has dropped.
  pub record Behind (t : ℕ) (scopes : List Open) (roles : List Role) : Type 0 where
    pub front : List Open
    pub inner : List Open
    pub bound : ℕ
    pub parts : scopes ≡ front ++ inner
    pub above : AreAbove bound front
    pub open_ : AreOpen bound inner roles
    pub le : bound ≤ t

  abbrev pub HasOpen : Option Unwinding → ℕ → List Open → List Role → Type 0
  HasOpen None t scopes roles = AreOpen t scopes roles
  HasOpen (Some u) t scopes roles = Behind t scopes roles

  pub nothing_in_front : (t : ℕ) (scopes : List Open) (roles : List Role) → AreOpen t scopes roles → Behind t scopes roles
  nothing_in_front t scopes roles h = record { front = []; inner = scopes; bound = t; parts = refl; above = tt; open_ = h; le = omega arith }

  pub has_open : (o : Option Unwinding) (t : ℕ) (scopes : List Open) (roles : List Role) → AreOpen t scopes roles → HasOpen o t scopes roles
  has_open None t scopes roles h = h
  has_open (Some u) t scopes roles h = nothing_in_front t scopes roles h

  above_less : (b c : ℕ) (scopes : List Open) (o : Open) → c ≤ b → c ≤ o.scope → AreAbove b scopes → AreAbove c (scopes ++ o ∷ [])
  above_less b c [] o le at h = (at, tt)
  above_less b c (x ∷ scopes) o le at h = (omega (arith, le, h.0), above_less b c scopes o le at h.1)

  -- A scope is dropped.
  pub drop_open : (t : ℕ) (scopes : List Open) (role : Role) (roles : List Role) → Behind t scopes (role ∷ roles) → Behind t scopes roles
  drop_open t scopes role roles h =
      let o = h.open_.0 in record {
        front = h.front ++ o ∷ [];
        inner = h.open_.1;
        bound = o.scope;
        parts = h.parts ∙ ap (λ l. h.front ++ l) h.open_.2 ∙ sym (append_assoc h.front (o ∷ []) h.open_.1);
        above = above_less h.bound o.scope h.front o (omega (arith, h.open_.4)) (omega arith) h.above;
        open_ = h.open_.5;
        le = omega (arith, h.open_.4, h.le);
      }

  other : (a b : ℕ) → b < a → (a == b) ≡ false
  other a b h = grind (arith, nat_tests)

  pub same_number : (a b : ℕ) → a ≡ b → (a == b) ≡ true
  same_number a b e = grind (arith, nat_tests)

  outside_front : (scope : ℕ) (front : List Open) (o : Open) (more : List Open) (b : ℕ) → o.scope ≡ scope → scope < b → AreAbove b front → outside scope (front ++ o ∷ more) ≡ more
  outside_front scope [] o more b e lt h = ap (λ (c : Bool). if c then more else outside scope more) (same_number o.scope scope e)
  outside_front scope (x ∷ front) o more b e lt h =
      ap (λ (c : Bool). if c then front ++ o ∷ more else outside scope (front ++ o ∷ more)) (other x.scope scope (omega (arith, lt, h.0))) ∙ outside_front scope front o more b e lt h.1

  -- What stands outside the innermost role's scope.
  pub outside_open : (t scope : ℕ) (scopes : List Open) (role : Role) (roles : List Role) (h : Behind t scopes (role ∷ roles)) → h.open_.0.scope ≡ scope → outside scope scopes ≡ h.open_.1
  outside_open t scope scopes role roles h e =
      ap (outside scope) (h.parts ∙ ap (λ l. h.front ++ l) h.open_.2) ∙ outside_front scope h.front h.open_.0 h.open_.1 h.bound e (subst (λ n. n < h.bound) e h.open_.4) h.above

  below_kept : (scope : ℕ) (b : ℕ) (scopes : List Open) (roles : List Role) → b ≤ scope → AreOpen b scopes roles → without scope scopes ≡ scopes
  below_kept scope b scopes [] le h = ap (without scope) h ∙ sym h
  below_kept scope b scopes (role ∷ roles) le h =
      ap (without scope) h.2
      ∙ ap (λ (c : Bool). cond (not c) (h.0 ∷ without scope h.1) (without scope h.1)) (not_same h.0.scope scope (omega (arith, le, h.4)))
      ∙ ap (λ l. h.0 ∷ l) (below_kept scope h.0.scope h.1 roles (omega (arith, le, h.4)) h.5) ∙ sym h.2
    where
      not_same : (a b : ℕ) → a < b → (a == b) ≡ false
      not_same a b h = grind (arith, nat_tests)

  -- The innermost scope is closed.
  pub close_open : (t scope : ℕ) (scopes : List Open) (role : Role) (roles : List Role) (h : AreOpen t scopes (role ∷ roles)) → h.0.scope ≡ scope → AreOpen t (without scope scopes) roles
  close_open t scope scopes role roles h e =
      let z : without scope scopes ≡ h.1 =
      ap (without scope) h.2
      ∙ ap (λ (c : Bool). cond (not c) (h.0 ∷ without scope h.1) (without scope h.1)) (same_number h.0.scope scope e)
      ∙ below_kept scope h.0.scope h.1 roles (omega (arith, e)) h.5 in
      open_more h.0.scope t (without scope scopes) roles (omega (arith, h.4)) (subst (λ l. AreOpen h.0.scope l roles) (sym z) h.5)

  -- Another role stands in the place of the innermost one.
  pub change_open : (t scope : ℕ) (stage : Stage) (scopes : List Open) (role new : Role) (roles : List Role) (h : Behind t scopes (role ∷ roles)) → h.open_.0.scope ≡ scope
      → IsStage new (open_at scope stage) → AreOpen t (open_at scope stage ∷ outside scope scopes) (new ∷ roles)
  change_open t scope stage scopes role new roles h e is = (
    open_at scope stage,
    outside scope scopes,
    refl,
    is,
    omega (arith, e, h.open_.4, h.le),
    subst (λ l. AreOpen scope l roles) (sym (outside_open t scope scopes role roles h e)) (subst (λ n. AreOpen n h.open_.1 roles) e h.open_.5),
  )

  -- The same where nothing is under way.
  pub change_rest : (t scope : ℕ) (stage : Stage) (scopes : List Open) (role new : Role) (roles : List Role) (h : AreOpen t scopes (role ∷ roles)) → h.0.scope ≡ scope
      → IsStage new (open_at scope stage) → AreOpen t (open_at scope stage ∷ outside scope scopes) (new ∷ roles)
  unfolding nothing_in_front
  change_rest t scope stage scopes role new roles h e is = change_open t scope stage scopes role new roles (nothing_in_front t scopes (role ∷ roles) h) e is

  -- The innermost scope is left.
  pub leave_open : (t scope : ℕ) (scopes : List Open) (role : Role) (roles : List Role) (h : Behind t scopes (role ∷ roles)) → h.open_.0.scope ≡ scope → AreOpen t (outside scope scopes) roles
  leave_open t scope scopes role roles h e =
      subst (λ l. AreOpen t l roles) (sym (outside_open t scope scopes role roles h e)) (open_more h.open_.0.scope t h.open_.1 roles (omega (arith, h.open_.4, h.le)) h.open_.5)

  -- ---- the route through the roles

  abbrev pub at_role : Cause → Role → List Carried → List Carried
  at_role cause (Calling locals place) rest = rest
  at_role cause (Trying scope ways) rest = at_ways s scope ways cause rest
  at_role cause (Catching scope caught) rest = rest
  at_role cause (Finishing scope pending) rest = rest
  at_role cause (Doing scope block routine) rest = Undoes scope ∷ rest
  at_role cause (Barrier scope key routine) rest = Loses scope ∷ []

  -- The route of what unwinds, through these roles.
  abbrev pub route_in : Cause → List Role → List Carried
  route_in cause [] = Leaves (left_value cause) ∷ []
  route_in cause (role ∷ roles) = at_role cause role (route_in cause roles)

  same_value : (cause : Cause) → value_left cause ≡ left_value cause
  same_value (Raised x) = refl
  same_value (Exit v) = refl

  stage_route : (cause : Cause) (role : Role) (o : Open) (rest : List Carried) → IsStage role o → at_scope s cause o.scope o.stage rest ≡ at_role cause role rest
  stage_route cause (Calling locals place) o rest h = absurd h
  stage_route cause (Trying scope ways) o rest h = ap (λ (x : Open). at_scope s cause x.scope x.stage rest) h.1 ∙ h.2 scope cause rest
  stage_route cause (Catching scope caught) o rest h = ap (λ (x : Open). at_scope s cause x.scope x.stage rest) h
  stage_route cause (Finishing scope pending) o rest h = ap (λ (x : Open). at_scope s cause x.scope x.stage rest) h
  stage_route cause (Doing scope block routine) o rest h = ap (λ (x : Open). at_scope s cause x.scope x.stage rest) h
  stage_route cause (Barrier scope key routine) o rest h = ap (λ (x : Open). at_scope s cause x.scope x.stage rest) h

  -- The route through the open scopes is the one through the roles.
  pub open_route : (t : ℕ) (scopes : List Open) (roles : List Role) (cause : Cause) → AreOpen t scopes roles → route s scopes cause ≡ route_in cause roles
  open_route t scopes [] cause h = ap (λ l. route s l cause) h ∙ ap (λ v. Leaves v ∷ []) (same_value cause)
  open_route t scopes (role ∷ roles) cause h =
      ap (λ l. route s l cause) h.2 ∙ ap (at_scope s cause h.0.scope h.0.stage) (open_route h.0.scope h.1 roles cause h.5) ∙ stage_route cause role h.0 (route_in cause roles) h.3

  -- ---- roles that are dropped

  handler_drops : (scope n : ℕ) (x : Exc) (o : Option Handler) (rest : List Carried) → caught_by scope n x o ≡ Drops → at_handler scope o rest ≡ rest
  handler_drops scope n x None rest e = refl
  handler_drops scope n x (Some h) rest e = absurd (cc)

  catches_drop : (cause : Cause) (scope : ℕ) (handlers : List Handler) (u : Unwinding) (rest : List Carried) → at_try s scope (Catches handlers) u cause ≡ Drops → at_ways s scope (Catches handlers) cause rest ≡ rest
  catches_drop (Raised x) scope handlers u rest e = handler_drops scope u.number x (first_catch s x handlers) rest e
  catches_drop (Exit v) scope handlers u rest e = refl

  try_drops : (scope : ℕ) (ways : Ways) (u : Unwinding) (rest : List Carried) → meeting s (Trying scope ways) u ≡ Drops → at_ways s scope ways u.cause rest ≡ rest
  try_drops scope (Catches handlers) u rest e = catches_drop u.cause scope handlers u rest e
  try_drops scope (Finally body) u rest e = absurd (cc)

  -- A role that is dropped has no part in the route.
  pub drop_route : (role : Role) (u : Unwinding) (roles : List Role) → meeting s role u ≡ Drops → route_in u.cause (role ∷ roles) ≡ route_in u.cause roles
  drop_route (Calling locals place) u roles e = refl
  drop_route (Trying scope ways) u roles e = try_drops scope ways u (route_in u.cause roles) e
  drop_route (Catching scope caught) u roles e = refl
  drop_route (Finishing scope pending) u roles e = refl
  drop_route (Doing scope block routine) u roles e = absurd (cc)
  drop_route (Barrier scope key routine) u roles e = absurd (cc)
