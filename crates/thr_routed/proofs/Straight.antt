-- Over each course an unwinding goes straight on along its route.
use Rattle.std.proofs.Common.{◌≡◌, ℕ, zero, suc, ◌+◌, ◌≤◌, ◌<◌, ◌==◌, Bool, true, false, ◌&&◌, ◌||◌, List, [], ◌∷◌, ◌++◌, Option, Some, None, refl, sym, ap, ◌∙◌, arith, subst, append_assoc, if◌then◌else◌}
use Rattle.std.proofs.lemmas.Bool.Decides.{nat_tests}
use Rattle.std.proofs.lemmas.Bool.{false≢true}
use Rattle.std.specs.List.{fold, list_any, list_all}
use Rattle.std.specs.Option.{unwrap_or}
use Rattle.thr_values.specs.declared.history.What.{What}
use Rattle.thr_values.specs.declared.history.What.TheVariants as what
use Rattle.thr_syntax.specs.declared.tree.Script.{Script}
use Rattle.thr_remainder.specs.declared.unwinding.Cause.{Cause}
use Rattle.thr_remainder.specs.declared.unwinding.Cause.TheVariants.{Raised, Exit}
use Rattle.thr_remainder.specs.declared.unwinding.Unwinding.{Unwinding}
use Rattle.thr_remainder.specs.Places.{Handler, Ways, Catches, Finally}
use Rattle.thr_remainder.specs.Remainders.{Role, Calling, Trying, Catching, Finishing, Doing, Barrier}
use Rattle.thr_remainder.specs.Outward.{Drops, meeting, first_catch, left_value}
use Rattle.thr_laws.specs.Scopes.{Open, opened, opened_after}
use Rattle.thr_laws.specs.Routes.{Carried, RunsFinally, Undoes, Loses, Leaves, is_same_entry, Carrying, carries, carried, entry_with, carried_by, route}
use Rattle.thr_laws.specs.Routes as routes
use Rattle.thr_laws.specs.Routed.{made_by, Making, with_making, makings_from, entries_of, route_of, is_pause, behind, is_head, comes_next, is_finally_for, runs_for, goes_on_from, goes_behind, goes_on, go_straight_on}
use Rattle.thr_laws.proofs.ReadingLaws.{both, and_both}
use Rattle.thr_routed.specs.Courses.{Outline, at_rest, on_way, unwinding, at_handler, at_ways, HasClauses, SetsOut, by_raise, by_reraise, by_delivery, by_exit, Opens, by_try, by_once, by_destructor, Closes, by_endtry, by_endcatch, by_endfin, by_done, by_enddes, Change, pauses, passes, sets_out, opens, closes, finishes, is_caught, is_pending, undoes, is_lost, leaves, Course, never, begun, after, drops, slips, ended}
use Rattle.thr_routed.proofs.Numbers.{fold_snoc}
use Rattle.thr_routed.proofs.OpenScopes.{number_of, AreOpen, IsStage, route_in, at_role, open_route, drop_route, same_number}
use Rattle.thr_routed.proofs.Kept.{EachMade, IfMade, entry_same, Status, Stat, Agrees, course_agrees, IsPendingAt}

-- ---- a fact about each making and the lines after it

abbrev pub IfAfter : (Unwinding → List Open → List What → Type 0) → List Open → List What → Option Unwinding → Type 0
IfAfter Q scopes lines None = Unit {0}
IfAfter Q scopes lines (Some u) = Q u scopes lines

abbrev pub EachAfter : (Unwinding → List Open → List What → Type 0) → List Open → List What → Type 0
EachAfter Q scopes [] = Unit {0}
EachAfter Q scopes (w ∷ lines) = IfAfter Q scopes lines (made_by w) × EachAfter Q (opened_after scopes w) lines

if_after_map : (S : Unwinding → List Open → Type 0) (P Q : Unwinding → List Open → List What → Type 0) (scopes : List Open) (l m : List What) (o : Option Unwinding)
    → ((u : Unwinding) (ss : List Open) → S u ss → P u ss l → Q u ss m) → IfMade S scopes o → IfAfter P scopes l o → IfAfter Q scopes m o
if_after_map S P Q scopes l m None f g h = tt
if_after_map S P Q scopes l m (Some u) f g h = f u scopes g h

pub after_snoc : (S : Unwinding → List Open → Type 0) (P Q : Unwinding → List Open → List What → Type 0) (scopes : List Open) (lines : List What) (w : What)
    → ((u : Unwinding) (ss : List Open) (ls : List What) → S u ss → P u ss ls → Q u ss (ls ++ w ∷ [])) → EachMade S scopes lines → EachAfter P scopes lines → IfAfter Q (fold opened_after scopes lines) [] (made_by w)
    → EachAfter Q scopes (lines ++ w ∷ [])
after_snoc S P Q scopes [] w f g h i = (i, tt)
after_snoc S P Q scopes (x ∷ lines) w f g h i =
    (if_after_map S P Q scopes lines (lines ++ w ∷ []) (made_by x) (λ u ss. f u ss lines) g.0 h.0, after_snoc S P Q (opened_after scopes x) lines w f g.1 h.1 i)

if_after_more : (P Q : Unwinding → List Open → List What → Type 0) (scopes : List Open) (l : List What) (o : Option Unwinding)
    → ((u : Unwinding) (ss : List Open) (ls : List What) → P u ss ls → Q u ss ls) → IfAfter P scopes l o → IfAfter Q scopes l o
if_after_more P Q scopes l None f h = tt
if_after_more P Q scopes l (Some u) f h = f u scopes l h

pub after_map : (P Q : Unwinding → List Open → List What → Type 0) (scopes : List Open) (lines : List What)
    → ((u : Unwinding) (ss : List Open) (ls : List What) → P u ss ls → Q u ss ls) → EachAfter P scopes lines → EachAfter Q scopes lines
after_map P Q scopes [] f h = tt
after_map P Q scopes (w ∷ lines) f h = (if_after_more P Q scopes lines (made_by w) f h.0, after_map P Q (opened_after scopes w) lines f h.1)

after_with : (Q : Unwinding → List Open → List What → Type 0) (p : Making → Bool) (scopes : List Open) (o : Option Unwinding) (lines : List What) (rest : List Making)
    → ((u : Unwinding) (ss : List Open) (ls : List What) → Q u ss ls → (let m : Making = record { number = u.number; cause = u.cause; scopes = ss; after = ls } in p m ≡ true)) → IfAfter Q scopes lines o → list_all p rest ≡ true
    → list_all p (with_making o scopes lines rest) ≡ true
after_with Q p scopes None lines rest f h r = r
after_with Q p scopes (Some u) lines rest f h r = and_both (p _) (list_all p rest) (f u scopes lines h) r

pub after_all : (Q : Unwinding → List Open → List What → Type 0) (p : Making → Bool) (scopes : List Open) (lines : List What)
    → ((u : Unwinding) (ss : List Open) (ls : List What) → Q u ss ls → (let m : Making = record { number = u.number; cause = u.cause; scopes = ss; after = ls } in p m ≡ true)) → EachAfter Q scopes lines
    → list_all p (makings_from scopes lines) ≡ true
after_all Q p scopes [] f h = refl
after_all Q p scopes (w ∷ lines) f h = after_with Q p scopes (made_by w) lines (makings_from (opened_after scopes w) lines) f h.0 (after_all Q p (opened_after scopes w) lines f h.1)

-- ---- the entries of a route

-- The scopes of the entries fall from t on.
abbrev pub FallEntries : ℕ → List Carried → Type 0
FallEntries t [] = Unit {0}
FallEntries t (routes.Catches scope line ∷ route) = (scope < t) × FallEntries scope route
FallEntries t (RunsFinally scope ∷ route) = (scope < t) × FallEntries scope route
FallEntries t (Undoes scope ∷ route) = (scope < t) × FallEntries scope route
FallEntries t (Loses scope ∷ route) = (scope < t) × FallEntries scope route
FallEntries t (Leaves v ∷ route) = route ≡ []

entries_more : (t v : ℕ) (route : List Carried) → t ≤ v → FallEntries t route → FallEntries v route
entries_more t v [] le h = tt
entries_more t v (routes.Catches scope line ∷ route) le h = (omega (arith, h.0, le), h.1)
entries_more t v (RunsFinally scope ∷ route) le h = (omega (arith, h.0, le), h.1)
entries_more t v (Undoes scope ∷ route) le h = (omega (arith, h.0, le), h.1)
entries_more t v (Loses scope ∷ route) le h = (omega (arith, h.0, le), h.1)
entries_more t v (Leaves x ∷ route) le h = h

-- The entry has this scope.
abbrev pub IsOf : ℕ → Carried → Type 0
IsOf scope (RunsFinally other) = other ≡ scope
IsOf scope (Undoes other) = other ≡ scope
IsOf scope _ = ⊥

head_below : (t scope : ℕ) (c : Carried) (rest : List Carried) → IsOf scope c → FallEntries t (c ∷ rest) → scope < t
head_below t scope (RunsFinally other) rest is h = omega (arith, is, h.0)
head_below t scope (Undoes other) rest is h = omega (arith, is, h.0)
head_below t scope (routes.Catches other line) rest is h = absurd is
head_below t scope (Loses other) rest is h = absurd is
head_below t scope (Leaves v) rest is h = absurd is

not_nil : (p : List Carried) (c : Carried) (rest : List Carried) → p ++ c ∷ rest ≡ [] → ⊥
not_nil [] c rest e = cc
not_nil (x ∷ p) c rest e = cc

later_below : (t scope : ℕ) (p : List Carried) (c : Carried) (rest : List Carried) → IsOf scope c → FallEntries t (p ++ c ∷ rest) → scope < t
later_below t scope [] c rest is h = head_below t scope c rest is h
later_below t scope (routes.Catches other line ∷ p) c rest is h = let b = later_below other scope p c rest is h.1 in omega (arith, b, h.0)
later_below t scope (RunsFinally other ∷ p) c rest is h = let b = later_below other scope p c rest is h.1 in omega (arith, b, h.0)
later_below t scope (Undoes other ∷ p) c rest is h = let b = later_below other scope p c rest is h.1 in omega (arith, b, h.0)
later_below t scope (Loses other ∷ p) c rest is h = let b = later_below other scope p c rest is h.1 in omega (arith, b, h.0)
later_below t scope (Leaves v ∷ p) c rest is h = absurd (not_nil p c rest h)

other_scope : (a b scope : ℕ) → a ≡ scope → scope < b → (a == b) ≡ false
other_scope a b scope e h = grind (arith, nat_tests)

-- The entry isn't the one before it.
unlike : (scope t : ℕ) (x : Carried) (p : List Carried) (c : Carried) (rest : List Carried) → IsOf scope c → FallEntries t (x ∷ (p ++ c ∷ rest)) → is_same_entry c x ≡ false
unlike scope t (routes.Catches other line) p (RunsFinally a) rest is h = refl
unlike scope t (routes.Catches other line) p (Undoes a) rest is h = refl
unlike scope t (RunsFinally other) p (RunsFinally a) rest is h = other_scope a other scope is (later_below other scope p (RunsFinally a) rest is h.1)
unlike scope t (RunsFinally other) p (Undoes a) rest is h = refl
unlike scope t (Undoes other) p (RunsFinally a) rest is h = refl
unlike scope t (Undoes other) p (Undoes a) rest is h = other_scope a other scope is (later_below other scope p (Undoes a) rest is h.1)
unlike scope t (Loses other) p (RunsFinally a) rest is h = refl
unlike scope t (Loses other) p (Undoes a) rest is h = refl
unlike scope t (Leaves v) p (RunsFinally a) rest is h = refl
unlike scope t (Leaves v) p (Undoes a) rest is h = refl
unlike scope t x p (routes.Catches a line) rest is h = absurd is
unlike scope t x p (Loses a) rest is h = absurd is
unlike scope t x p (Leaves v) rest is h = absurd is

tail_falls : (t : ℕ) (x : Carried) (p : List Carried) (c : Carried) (rest : List Carried) → FallEntries t (x ∷ (p ++ c ∷ rest)) → (u : ℕ) × FallEntries u (p ++ c ∷ rest)
tail_falls t (routes.Catches other line) p c rest h = (other, h.1)
tail_falls t (RunsFinally other) p c rest h = (other, h.1)
tail_falls t (Undoes other) p c rest h = (other, h.1)
tail_falls t (Loses other) p c rest h = (other, h.1)
tail_falls t (Leaves v) p c rest h = absurd (not_nil p c rest h)

-- What stands behind an entry that is there once.
pub behind_is : (scope t : ℕ) (p : List Carried) (c : Carried) (rest : List Carried) → IsOf scope c → FallEntries t (p ++ c ∷ rest) → behind c (p ++ c ∷ rest) ≡ rest
behind_is scope t [] c rest is h = ap (λ (b : Bool). if b then rest else behind c rest) (entry_same c)
behind_is scope t (x ∷ p) c rest is h =
    let f = tail_falls t x p c rest h in
    ap (λ (b : Bool). if b then p ++ c ∷ rest else behind c (p ++ c ∷ rest)) (unlike scope t x p c rest is h) ∙ behind_is scope f.0 p c rest is f.1

-- ---- pauses

abbrev pub all_pauses : List What → Bool
all_pauses [] = true
all_pauses (w ∷ lines) = is_pause w && all_pauses lines

pub pauses_last : (lines : List What) (w : What) → all_pauses (lines ++ w ∷ []) ≡ true → (all_pauses lines ≡ true) × (is_pause w ≡ true)
pauses_last [] w h = (refl, (both (is_pause w) true h).0)
pauses_last (x ∷ lines) w h =
    let b = both (is_pause x) (all_pauses (lines ++ w ∷ [])) h in
    let c = pauses_last lines w b.1 in (and_both (is_pause x) (all_pauses lines) b.0 c.0, c.1)

next_more : (b : Bool) (n : ℕ) (route : List Carried) (lines : List What) (w : What) (head : Bool) → (comes_next n route lines ≡ true → (all_pauses lines ≡ true → comes_next n route (w ∷ []) ≡ true) → comes_next n route (lines ++ w ∷ []) ≡ true)
    → (if b then comes_next n route lines else head) ≡ true → ((b && all_pauses lines) ≡ true → comes_next n route (w ∷ []) ≡ true) → (if b then comes_next n route (lines ++ w ∷ []) else head) ≡ true
next_more true n route lines w head more h k = more h k
next_more false n route lines w head more h k = h

pub next_snoc : (n : ℕ) (route : List Carried) (lines : List What) (w : What) → comes_next n route lines ≡ true → (all_pauses lines ≡ true → comes_next n route (w ∷ []) ≡ true) → comes_next n route (lines ++ w ∷ []) ≡ true
next_snoc n route [] w h k = k refl
next_snoc n route (x ∷ lines) w h k = next_more (is_pause x) n route lines w (is_head route (carried_by n x)) (next_snoc n route lines w) h k

-- ---- what is expected

module _ (s : Script) where
  handler_falls : (t scope : ℕ) (o : Option Handler) (rest : List Carried) → scope < t → FallEntries scope rest → FallEntries t (at_handler scope o rest)
  handler_falls t scope None rest lt h = entries_more scope t rest (omega (arith, lt)) h
  handler_falls t scope (Some x) rest lt h = (lt, tt)

  ways_fall : (t scope : ℕ) (ways : Ways) (cause : Cause) (rest : List Carried) → scope < t → FallEntries scope rest → FallEntries t (at_ways s scope ways cause rest)
  ways_fall t scope (Finally body) cause rest lt h = (lt, h)
  ways_fall t scope (Catches handlers) (Raised x) rest lt h = handler_falls t scope (first_catch s x handlers) rest lt h
  ways_fall t scope (Catches handlers) (Exit v) rest lt h = entries_more scope t rest (omega (arith, lt)) h

  role_falls : (t : ℕ) (cause : Cause) (role : Role) (o : Open) (rest : List Carried) → IsStage s role o → o.scope < t → FallEntries o.scope rest → FallEntries t (at_role s cause role rest)
  role_falls t cause (Calling locals place) o rest is lt h = absurd is
  role_falls t cause (Trying scope ways) o rest is lt h =
      let e : o.scope ≡ scope = ap (λ (x : Open). x.scope) is.1 in ways_fall t scope ways cause rest (omega (arith, e, lt)) (subst (λ n. FallEntries n rest) e h)
  role_falls t cause (Catching scope caught) o rest is lt h = entries_more o.scope t rest (omega (arith, lt)) h
  role_falls t cause (Finishing scope pending) o rest is lt h = entries_more o.scope t rest (omega (arith, lt)) h
  role_falls t cause (Doing scope block routine) o rest is lt h =
      let e : o.scope ≡ scope = ap (λ (x : Open). x.scope) is in (omega (arith, e, lt), subst (λ n. FallEntries n rest) e h)
  role_falls t cause (Barrier scope key routine) o rest is lt h = let e : o.scope ≡ scope = ap (λ (x : Open). x.scope) is in (omega (arith, e, lt), tt)

  route_falls : (t : ℕ) (scopes : List Open) (roles : List Role) (cause : Cause) → AreOpen s t scopes roles → FallEntries t (route_in s cause roles)
  route_falls t scopes [] cause h = refl
  route_falls t scopes (role ∷ roles) cause h = role_falls t cause role h.0 (route_in s cause roles) h.3 h.4 (route_falls h.0.scope h.1 roles cause h.5)

  -- Unwinding n is under way, and this is left of its route.
  abbrev pub Expects : Outline → ℕ → List Carried → Type 0
  Expects a n left = (u : Unwinding) × (a.under ≡ Some u) × (u.number ≡ n) × (left ≡ route_in s u.cause a.roles)

  abbrev pub IfDone : Outline → ℕ → List Carried → Option Carried → List What → Type 0
  IfDone a n route None lines = Unit {0}
  IfDone a n route (Some c) lines = all_pauses lines ≡ true → Expects a n (behind c route)

  -- So it is where an entry of its route was done and only pauses came after it.
  abbrev pub AreDone : Outline → ℕ → List Carried → List Open → List What → Type 0
  AreDone a n route scopes [] = Unit {0}
  AreDone a n route scopes (w ∷ lines) = IfDone a n route (goes_on_from n scopes w) lines × AreDone a n route (opened_after scopes w) lines

  -- Where an unwinding stands on its way, by the lines after the one that made it.
  pub record OnWay (a : Outline) (now : List Open) (n : ℕ) (route : List Carried) (scopes : List Open) (lines : List What) : Type 0 where
    pub now_open : fold opened_after scopes lines ≡ now
    pub bound : ℕ
    pub falls : FallEntries bound route
    pub first : comes_next n route lines ≡ true
    pub going : goes_on n route scopes lines ≡ true
    pub expects : all_pauses lines ≡ true → Expects a n route
    pub done : AreDone a n route scopes lines

  -- What a line does to it.
  pub record Leads (a b : Outline) (w : What) : Type 0 where
    pub meets : (n : ℕ) (left : List Carried) → Expects a n left → comes_next n left (w ∷ []) ≡ true
    pub stays : (n : ℕ) (left : List Carried) → is_pause w ≡ true → Expects a n left → Expects b n left

  if_done_keeps : (a b : Outline) (n : ℕ) (route : List Carried) (o : Option Carried) (lines : List What) (w : What) → Leads a b w → IfDone a n route o lines → IfDone b n route o (lines ++ w ∷ [])
  if_done_keeps a b n route None lines w l h = tt
  if_done_keeps a b n route (Some c) lines w l h = λ e. let p = pauses_last lines w e in l.stays n (behind c route) p.1 (h p.0)

  done_snoc : (a b : Outline) (n : ℕ) (route : List Carried) (scopes : List Open) (lines : List What) (w : What) → Leads a b w → AreDone a n route scopes lines
      → IfDone b n route (goes_on_from n (fold opened_after scopes lines) w) [] → AreDone b n route scopes (lines ++ w ∷ [])
  done_snoc a b n route scopes [] w l h i = (i, tt)
  done_snoc a b n route scopes (x ∷ lines) w l h i =
      (if_done_keeps a b n route (goes_on_from n scopes x) lines w l h.0, done_snoc a b n route (opened_after scopes x) lines w l h.1 i)

  behind_more : (a b : Outline) (n : ℕ) (route : List Carried) (o : Option Carried) (lines : List What) (w : What) → Leads a b w → IfDone a n route o lines → goes_behind n route o lines ≡ true → goes_behind n route o (lines ++ w ∷ []) ≡ true
  behind_more a b n route None lines w l h g = refl
  behind_more a b n route (Some c) lines w l h g = next_snoc n (behind c route) lines w g (λ e. l.meets n (behind c route) (h e))

  behind_last : (n : ℕ) (route : List Carried) (o : Option Carried) → goes_behind n route o [] ≡ true
  behind_last n route None = refl
  behind_last n route (Some c) = refl

  going_snoc : (a b : Outline) (n : ℕ) (route : List Carried) (scopes : List Open) (lines : List What) (w : What) → Leads a b w → AreDone a n route scopes lines → goes_on n route scopes lines ≡ true
      → goes_on n route scopes (lines ++ w ∷ []) ≡ true
  going_snoc a b n route scopes [] w l h g = and_both (goes_behind n route (goes_on_from n scopes w) []) true (behind_last n route (goes_on_from n scopes w)) refl
  going_snoc a b n route scopes (x ∷ lines) w l h g =
      let p = both (goes_behind n route (goes_on_from n scopes x) lines) (goes_on n route (opened_after scopes x) lines) g in
      and_both (goes_behind n route (goes_on_from n scopes x) (lines ++ w ∷ [])) (goes_on n route (opened_after scopes x) (lines ++ w ∷ []))
      (behind_more a b n route (goes_on_from n scopes x) lines w l h.0 p.0) (going_snoc a b n route (opened_after scopes x) lines w l h.1 p.1)

  -- One more line.
  on_way_snoc : (a b : Outline) (now : List Open) (n : ℕ) (route : List Carried) (scopes : List Open) (lines : List What) (w : What) → Leads a b w → OnWay a now n route scopes lines
      → IfDone b n route (goes_on_from n now w) [] → OnWay b (opened_after now w) n route scopes (lines ++ w ∷ [])
  on_way_snoc a b now n route scopes lines w l h i = record {
    now_open = fold_snoc opened_after scopes lines w ∙ ap (λ ss. opened_after ss w) h.now_open;
    bound = h.bound;
    falls = h.falls;
    first = next_snoc n route lines w h.first (λ e. l.meets n route (h.expects e));
    going = going_snoc a b n route scopes lines w l h.done h.going;
    expects = λ e. let p = pauses_last lines w e in l.stays n route p.1 (h.expects p.0);
    done = done_snoc a b n route scopes lines w l h.done (subst (λ ss. IfDone b n route (goes_on_from n ss w) []) (sym h.now_open) i);
  }

  -- ---- each line

  abbrev pub Way : Outline → List Open → Unwinding → List Open → List What → Type 0
  Way a now u scopes lines = OnWay a now u.number (route s scopes u.cause) scopes lines

  -- Each unwinding is so on its way.
  abbrev pub AreOnWay : Outline → List What → Type 0
  AreOnWay a lines = EachAfter (Way a (opened lines)) [] lines

  -- An entry that the line is done with is followed by what is expected.
  abbrev pub IsFollowed : Outline → Outline → List Open → What → Type 0
  IsFollowed a b now w = (n t : ℕ) (R P : List Carried) → Status s a n R P → FallEntries t R → IfDone b n R (goes_on_from n now w) []

  line_leads : (a b : Outline) (lines : List What) (w : What) → Agrees s a lines → AreOnWay a lines → Leads a b w → IsFollowed a b (opened lines) w
      → IfAfter (Way b (opened_after (opened lines) w)) (opened lines) [] (made_by w) → AreOnWay b (lines ++ w ∷ [])
  line_leads a b lines w g h l f new =
      subst (λ now. EachAfter (Way b now) [] (lines ++ w ∷ [])) (sym (fold_snoc opened_after [] lines w))
      (after_snoc (Stat s a lines) (Way a (opened lines)) (Way b (opened_after (opened lines) w)) [] lines w
      (λ u ss ls x y. on_way_snoc a b (opened lines) u.number (route s ss u.cause) ss ls w l y (f u.number y.bound (route s ss u.cause) (entries_of u.number lines) x y.falls))
      g.each h new)

  -- Nothing is expected where nothing is under way.
  rest_leads : (a b : Outline) (w : What) → a.under ≡ None → Leads a b w
  rest_leads a b w e = record {
    meets = λ n left x. absurd (nothing x.0 (sym e ∙ x.1));
    stays = λ n left p x. absurd (nothing x.0 (sym e ∙ x.1));
  }
    where
      nothing : (u : Unwinding) → (let o : Option Unwinding = None in o ≡ Some u) → ⊥
      nothing u e = cc

  same_one : (u v : Unwinding) → Some u ≡ Some v → u ≡ v
  same_one u v e = ap (λ o. unwrap_or o u) e

  -- What carries the unwinding under way is what was expected.
  carry_leads : (roles : List Role) (x y : ℕ) (u : Unwinding) (b : Outline) (w : What) (c : Carried) (more : List Carried) → is_pause w ≡ false → carried w ≡ carries u.number c → route_in s u.cause roles ≡ c ∷ more
      → Leads (on_way roles u x y) b w
  carry_leads roles x y u b w c more quiet is goes = record {
    meets = λ n left e.
        let q : e.0 ≡ u = sym (same_one u e.0 e.1) in
        let m : u.number ≡ n = ap (λ (v : Unwinding). v.number) (sym q) ∙ e.2 in
        let r : left ≡ c ∷ more = e.3 ∙ ap (λ (v : Unwinding). route_in s v.cause roles) q ∙ goes in
        ap (λ (p : Bool). if p then true else is_head left (carried_by n w)) quiet
        ∙ ap (λ o. is_head left (entry_with n o)) is
        ∙ ap (λ (p : Bool). is_head left (if p then Some c else None)) (same_number s u.number n m)
        ∙ ap (λ l. is_head l (Some c)) r
        ∙ entry_same c;
    stays = λ n left p e. absurd (false≢true (sym quiet ∙ p));
  }

  new_way : (roles : List Role) (k n : ℕ) (cause : Cause) (lines : List What) (w : What) → Agrees s (at_rest roles k n) lines → ((ss : List Open) → opened_after ss w ≡ ss)
      → Way (on_way roles (unwinding (n + 1) cause) k (n + 1)) (opened_after (opened lines) w) (unwinding (n + 1) cause) (opened lines) []
  new_way roles k n cause lines w g same = record {
    now_open = sym (same (opened lines));
    bound = k + 1;
    falls = subst (FallEntries (k + 1)) (sym (open_route s (k + 1) (opened lines) roles cause g.open_)) (route_falls (k + 1) (opened lines) roles cause g.open_);
    first = refl;
    going = refl;
    expects = λ e. (unwinding (n + 1) cause, refl, refl, open_route s (k + 1) (opened lines) roles cause g.open_);
    done = tt;
  }

  set_way : (roles : List Role) (k n : ℕ) (cause : Cause) (lines : List What) (w : What) → SetsOut (n + 1) cause w → Agrees s (at_rest roles k n) lines → AreOnWay (at_rest roles k n) lines
      → AreOnWay (on_way roles (unwinding (n + 1) cause) k (n + 1)) (lines ++ w ∷ [])
  set_way roles k n cause lines w (by_raise x) g h =
      line_leads (at_rest roles k n) _ lines w g h (rest_leads _ _ w refl) (λ i t R P z f. tt) (new_way roles k n cause lines w g (λ ss. refl))
  set_way roles k n cause lines w (by_reraise x) g h =
      line_leads (at_rest roles k n) _ lines w g h (rest_leads _ _ w refl) (λ i t R P z f. tt) (new_way roles k n cause lines w g (λ ss. refl))
  set_way roles k n cause lines w (by_delivery line) g h =
      line_leads (at_rest roles k n) _ lines w g h (rest_leads _ _ w refl) (λ i t R P z f. tt) (new_way roles k n cause lines w g (λ ss. refl))
  set_way roles k n cause lines w (by_exit v) g h =
      line_leads (at_rest roles k n) _ lines w g h (rest_leads _ _ w refl) (λ i t R P z f. tt) (new_way roles k n cause lines w g (λ ss. refl))

  open_way : (roles : List Role) (k n : ℕ) (role : Role) (lines : List What) (w : What) → Opens (HasClauses s) (k + 1) role w → Agrees s (at_rest roles k n) lines → AreOnWay (at_rest roles k n) lines
      → AreOnWay (at_rest (role ∷ roles) (k + 1) n) (lines ++ w ∷ [])
  open_way roles k n role lines w (by_try line ways has) g h = line_leads (at_rest roles k n) _ lines w g h (rest_leads _ _ w refl) (λ i t R P z f. tt) tt
  open_way roles k n role lines w (by_once block routine) g h = line_leads (at_rest roles k n) _ lines w g h (rest_leads _ _ w refl) (λ i t R P z f. tt) tt
  open_way roles k n role lines w (by_destructor key routine v) g h = line_leads (at_rest roles k n) _ lines w g h (rest_leads _ _ w refl) (λ i t R P z f. tt) tt

  -- ---- the end of a FINALLY body

  or_second : (a b : Bool) → b ≡ false → (a || b) ≡ true → a ≡ true
  or_second true b e h = refl
  or_second false b e h = absurd (false≢true (sym e ∙ h))

  and_false : (a b : Bool) → a ≡ false → (a && b) ≡ false
  and_false true b e = absurd (false≢true (sym e))
  and_false false b e = refl

  is_equal : (a b : ℕ) → (a == b) ≡ true → a ≡ b
  is_equal a b e = grind (arith, nat_tests)

  differ : (a b : ℕ) → (a ≡ b → ⊥) → (a == b) ≡ false
  differ a b h = grind (arith, nat_tests)

  less_differs : (a b : ℕ) → a < b → (a == b) ≡ false
  less_differs a b h = grind (arith, nat_tests)

  or_false : (a b : Bool) → a ≡ false → b ≡ false → (a || b) ≡ false
  or_false true b e f = absurd (false≢true (sym e))
  or_false false b e f = f

  none_for : (n scope b : ℕ) (scopes : List Open) (roles : List Role) → b ≤ scope → AreOpen s b scopes roles → list_any (is_finally_for n scope) scopes ≡ false
  none_for n scope b scopes [] le h = ap (list_any (is_finally_for n scope)) h
  none_for n scope b scopes (role ∷ roles) le h =
      ap (list_any (is_finally_for n scope)) h.2
      ∙ or_false (is_finally_for n scope h.0) (list_any (is_finally_for n scope) h.1)
      (and_false (h.0.scope == scope) (runs_for n h.0.stage) (less_differs h.0.scope scope (omega (arith, h.4, le))))
      (none_for n scope h.0.scope h.1 roles (omega (arith, h.4, le)) h.5)

  finally_found : (n scope t : ℕ) (scopes : List Open) (pending : Option Unwinding) (roles : List Role) → AreOpen s t scopes (Finishing scope pending ∷ roles) → list_any (is_finally_for n scope) scopes ≡ true
      → number_of pending ≡ n
  finally_found n scope t scopes pending roles h e =
      let at : h.0.scope ≡ scope = ap (λ (x : Open). x.scope) h.3 in
      let z : (is_finally_for n scope h.0 || list_any (is_finally_for n scope) h.1) ≡ true = sym (ap (list_any (is_finally_for n scope)) h.2) ∙ e in
      let y : is_finally_for n scope h.0 ≡ true = or_second (is_finally_for n scope h.0) (list_any (is_finally_for n scope) h.1) (none_for n scope h.0.scope h.1 roles (omega (arith, at)) h.5) z in
      let x : ((scope == scope) && (number_of pending == n)) ≡ true = sym (ap (is_finally_for n scope) h.3) ∙ y in
      is_equal (number_of pending) n (both (scope == scope) (number_of pending == n) x).1

  found_follows : (pending : Option Unwinding) (roles : List Role) (k m scope n t : ℕ) (R P : List Carried) → 0 < n → number_of pending ≡ n → IsPendingAt s n R P scope pending roles → FallEntries t R
      → Expects (record { roles = roles; under = pending; scopes = k; unwindings = m }) n (behind (RunsFinally scope) R)
  found_follows None roles k m scope n t R P pos e w f = absurd (omega (arith, pos, e))
  found_follows (Some u) roles k m scope n t R P pos e w f =
      let x = w e in
      let is : R ≡ x.0 ++ RunsFinally scope ∷ route_in s u.cause roles =
      x.2 ∙ ap (λ l. l ++ route_in s u.cause roles) x.1 ∙ append_assoc x.0 (RunsFinally scope ∷ []) (route_in s u.cause roles) in (
        u,
        refl,
        e,
        ap (behind (RunsFinally scope)) is ∙ behind_is scope t x.0 (RunsFinally scope) (route_in s u.cause roles) refl (subst (FallEntries t) is f),
      )

  fin_followed : (found : Bool) (pending : Option Unwinding) (roles : List Role) (k m scope n t : ℕ) (R P : List Carried) → 0 < n → (found ≡ true → number_of pending ≡ n) → IsPendingAt s n R P scope pending roles → FallEntries t R
      → IfDone (record { roles = roles; under = pending; scopes = k; unwindings = m }) n R (if found then Some (RunsFinally scope) else None) []
  fin_followed true pending roles k m scope n t R P pos e w f = λ q. found_follows pending roles k m scope n t R P pos (e refl) w f
  fin_followed false pending roles k m scope n t R P pos e w f = tt

  close_way : (roles : List Role) (k n : ℕ) (role : Role) (lines : List What) (w : What) (o : Option Unwinding) → Closes role w o → Agrees s (at_rest (role ∷ roles) k n) lines → AreOnWay (at_rest (role ∷ roles) k n) lines
      → AreOnWay (record { roles = roles; under = o; scopes = k; unwindings = n }) (lines ++ w ∷ [])
  close_way roles k n role lines w o (by_endtry scope handlers) g h = line_leads (at_rest (role ∷ roles) k n) _ lines w g h (rest_leads _ _ w refl) (λ i t R P z f. tt) tt
  close_way roles k n role lines w o (by_endcatch scope caught) g h = line_leads (at_rest (role ∷ roles) k n) _ lines w g h (rest_leads _ _ w refl) (λ i t R P z f. tt) tt
  close_way roles k n role lines w o (by_endfin scope pending) g h =
      line_leads (at_rest (role ∷ roles) k n) _ lines w g h (rest_leads _ _ w refl)
      (λ i t R P z f. fin_followed (list_any (is_finally_for i scope) (opened lines)) pending roles k n scope i t R P z.positive
      (λ e. finally_found i scope (k + 1) (opened lines) pending roles g.open_ e) z.waits.0 f) tt
  close_way roles k n role lines w o (by_done scope block routine) g h = line_leads (at_rest (role ∷ roles) k n) _ lines w g h (rest_leads _ _ w refl) (λ i t R P z f. tt) tt
  close_way roles k n role lines w o (by_enddes scope key routine) g h = line_leads (at_rest (role ∷ roles) k n) _ lines w g h (rest_leads _ _ w refl) (λ i t R P z f. tt) tt

  -- ---- the once block that is undone

  undo_follows : (roles : List Role) (k m scope n t : ℕ) (block routine : _) (u : Unwinding) (R P : List Carried) (same : Bool) → (same ≡ true → u.number ≡ n)
      → Status s (on_way (Doing scope block routine ∷ roles) u k m) n R P → FallEntries t R → IfDone (on_way roles u k m) n R (if same then Some (Undoes scope) else None) []
  undo_follows roles k m scope n t block routine u R P true e z f = λ q.
      let is : R ≡ P ++ Undoes scope ∷ route_in s u.cause roles = z.live (e refl) in (
        u,
        refl,
        e refl,
        ap (behind (Undoes scope)) is ∙ behind_is scope t P (Undoes scope) (route_in s u.cause roles) refl (subst (FallEntries t) is f),
      )
  undo_follows roles k m scope n t block routine u R P false e z f = tt

  line_way : (a b : Outline) (lines : List What) (w : What) → Change s (HasClauses s) a w b → Agrees s a lines → AreOnWay a lines → AreOnWay b (lines ++ w ∷ [])
  line_way a b lines w (pauses c) g h = line_leads a a lines w g h (record { meets = λ n left e. refl; stays = λ n left p e. e }) (λ i t R P z f. tt) tt
  line_way a b lines w (passes roles k n x p) g h =
      line_leads a a lines w g h (rest_leads a a w refl) (λ i t R P z f. subst (λ o. IfDone a i R o []) (sym (p.going i (opened lines))) tt)
      (subst (IfAfter (Way a (opened_after (opened lines) w)) (opened lines) []) (sym p.making) tt)
  line_way a b lines w (sets_out roles k n cause x p) g h = set_way roles k n cause lines w p g h
  line_way a b lines w (opens roles k n role x p) g h = open_way roles k n role lines w p g h
  line_way a b lines w (closes roles k n role x o p) g h = close_way roles k n role lines w o p g h
  line_way a b lines w (finishes roles k n scope body) g h = line_leads a b lines w g h (rest_leads a b w refl) (λ i t R P z f. tt) tt
  line_way a b lines w (is_caught roles k n scope handlers number x c e) g h =
      line_leads a b lines w g h
      (carry_leads (Trying scope (Catches handlers) ∷ roles) k n (unwinding number (Raised x)) b w (routes.Catches scope c.line) [] refl refl (ap (λ o. at_handler scope o (route_in s (Raised x) roles)) e))
      (λ i t R P z f. tt) tt
  line_way a b lines w (is_pending roles k n scope body u) g h =
      line_leads a b lines w g h
      (carry_leads (Trying scope (Finally body) ∷ roles) k n u b w (RunsFinally scope) (route_in s u.cause roles) refl (finally_carries scope u.number g.under.0) refl) (λ i t R P z f. tt) tt
    where
      finally_carries : (scope n : ℕ) → 0 < n → carried (what.Finally scope n) ≡ carries n (RunsFinally scope)
      finally_carries scope zero h = absurd (omega (arith, h))
      finally_carries scope (suc n) h = refl
  line_way a b lines w (undoes roles k n scope block routine u) g h =
      line_leads a b lines w g h
      (carry_leads (Doing scope block routine ∷ roles) k n u b w (Undoes scope) (route_in s u.cause roles) refl refl refl)
      (λ i t R P z f. undo_follows roles k n scope i t block routine u R P (u.number == i) (is_equal u.number i) z f) tt
  line_way a b lines w (is_lost roles k n scope key routine u) g h =
      line_leads a b lines w g h (carry_leads (Barrier scope key routine ∷ roles) k n u b w (Loses scope) [] refl refl refl) (λ i t R P z f. tt) tt
  line_way a b lines w (leaves k n u) g h =
      line_leads a b lines w g h (carry_leads [] k n u b w (Leaves (left_value u.cause)) [] refl refl refl) (λ i t R P z f. tt) tt

  -- ---- a scope that is dropped

  drop_expects : (roles : List Role) (k m n : ℕ) (role : Role) (u : Unwinding) (left : List Carried) → meeting s role u ≡ Drops → Expects (on_way (role ∷ roles) u k m) n left → Expects (on_way roles u k m) n left
  drop_expects roles k m n role u left d e =
      let q : e.0 ≡ u = sym (same_one u e.0 e.1) in (u, refl, ap (λ (v : Unwinding). v.number) (sym q) ∙ e.2, e.3 ∙ ap (λ (v : Unwinding). route_in s v.cause (role ∷ roles)) q ∙ drop_route s role u roles d)

  drop_if_done : (a b : Outline) (n : ℕ) (R : List Carried) (o : Option Carried) (lines : List What) → ((left : List Carried) → Expects a n left → Expects b n left) → IfDone a n R o lines → IfDone b n R o lines
  drop_if_done a b n R None lines f h = tt
  drop_if_done a b n R (Some c) lines f h = λ e. f (behind c R) (h e)

  drop_done : (a b : Outline) (n : ℕ) (R : List Carried) (scopes : List Open) (lines : List What) → ((left : List Carried) → Expects a n left → Expects b n left) → AreDone a n R scopes lines → AreDone b n R scopes lines
  drop_done a b n R scopes [] f h = tt
  drop_done a b n R scopes (w ∷ lines) f h = (drop_if_done a b n R (goes_on_from n scopes w) lines f h.0, drop_done a b n R (opened_after scopes w) lines f h.1)

  drop_way : (roles : List Role) (k n : ℕ) (lines : List What) (role : Role) (u : Unwinding) → meeting s role u ≡ Drops → AreOnWay (on_way (role ∷ roles) u k n) lines → AreOnWay (on_way roles u k n) lines
  drop_way roles k n lines role u d h =
      let a : Outline = on_way (role ∷ roles) u k n in
      let b : Outline = on_way roles u k n in
      after_map (Way a (opened lines)) (Way b (opened lines)) [] lines
      (λ v ss ls x. record {
        now_open = x.now_open;
        bound = x.bound;
        falls = x.falls;
        first = x.first;
        going = x.going;
        expects = λ e. drop_expects roles k n v.number role u (route s ss v.cause) d (x.expects e);
        done = drop_done a b v.number (route s ss v.cause) ss ls (λ left. drop_expects roles k n v.number role u left d) x.done;
      }) h

  -- ---- courses

  abbrev AreOnWayIf : Option Outline → List What → Type 0
  AreOnWayIf None lines = (a : Outline) × AreOnWay a lines
  AreOnWayIf (Some a) lines = AreOnWay a lines

  pub course_on_way : (o : Option Outline) (all : List What) → Course s (HasClauses s) ⊥ o all → AreOnWayIf o all
  course_on_way o all never = (at_rest [] 0 0, tt)
  course_on_way o all begun = tt
  course_on_way o all (after {a} {b} {lines} {w} c x) = line_way a b lines w x (course_agrees s (Some a) lines c) (course_on_way (Some a) lines c)
  course_on_way o all (drops {roles} {k} {n} {lines} role u e c) = drop_way roles k n lines role u e (course_on_way (Some (on_way (role ∷ roles) u k n)) lines c)
  course_on_way o all (slips {roles} {k} {n} {lines} role may c) = absurd may
  course_on_way o all (ended {k} {n} {lines} v c) = (
    at_rest [] k n,
    line_leads (at_rest [] k n) (at_rest [] k n) lines (what.End v) (course_agrees s (Some (at_rest [] k n)) lines c) (course_on_way (Some (at_rest [] k n)) lines c)
        (rest_leads (at_rest [] k n) (at_rest [] k n) (what.End v) refl) (λ i t R P z f. tt) tt,
  )

  straight_on : (a : Outline) (lines : List What) → AreOnWay a lines → go_straight_on s lines ≡ true
  straight_on a lines h =
      after_all (Way a (opened lines)) (λ m. comes_next m.number (route_of s m) m.after && goes_on m.number (route_of s m) m.scopes m.after) [] lines
      (λ u ss ls x. and_both (comes_next u.number (route s ss u.cause) ls) (goes_on u.number (route s ss u.cause) ss ls) x.first x.going) h

  straight_if : (o : Option Outline) (lines : List What) → AreOnWayIf o lines → go_straight_on s lines ≡ true
  straight_if None lines h = straight_on h.0 lines h.1
  straight_if (Some a) lines h = straight_on a lines h

  pub course_straight : (o : Option Outline) (lines : List What) → Course s (HasClauses s) ⊥ o lines → go_straight_on s lines ≡ true
  course_straight o lines c = straight_if o lines (course_on_way o lines c)
