-- What each line of a course does to the fates of unwindings.
use Rattle.std.proofs.Common.{◌≡◌, ℕ, zero, suc, ◌+◌, ◌≤◌, ◌<◌, ◌==◌, Bool, true, false, not, ◌&&◌, ◌||◌, List, [], ◌∷◌, ◌++◌, Option, Some, None, refl, sym, ap, ◌∙◌, arith, subst, append-nil, if◌then◌else◌}
use Rattle.std.proofs.lemmas.Bool.Decides.{nat_tests}
use Rattle.std.proofs.lemmas.Bool.{false≢true}
use Rattle.std.specs.List.{list_any, list_all}
use Rattle.std.specs.Option.{unwrap_or}
use Rattle.thr_values.specs.declared.history.What.{What}
use Rattle.thr_values.specs.declared.history.What.TheVariants as what
use Rattle.thr_syntax.specs.declared.tree.Script.{Script}
use Rattle.thr_remainder.specs.declared.unwinding.Cause.{Cause}
use Rattle.thr_remainder.specs.declared.unwinding.Cause.TheVariants.{Raised}
use Rattle.thr_remainder.specs.declared.unwinding.Unwinding.{Unwinding}
use Rattle.thr_remainder.specs.Places.{Catches, Finally}
use Rattle.thr_remainder.specs.Remainders.{Role, Calling, Trying, Catching, Finishing, Doing, Barrier}
use Rattle.thr_remainder.specs.Outward.{left_value}
use Rattle.thr_laws.specs.Lines.{is_end}
use Rattle.thr_laws.specs.Scopes.{Open, opened, outside}
use Rattle.thr_laws.specs.Routes.{Carried, RunsFinally, Undoes, Loses, Leaves, Carrying, carries, carried, entry_with, carried_by, route}
use Rattle.thr_laws.specs.Routes as routes
use Rattle.thr_laws.specs.Routed.{made_by, entries_of, is_at, passes_by, ends_finally, is_whole, is_prefix, is_replaced, route_of, last_carried, replaced_after, take_whole_routes, makings}
use Rattle.thr_laws.proofs.ReadingLaws.{and_both}
use Rattle.thr_routed.specs.Courses.{Outline, at_rest, on_way, unwinding, at_handler, HasClauses, SetsOut, by_raise, by_reraise, by_delivery, by_exit, Opens, by_try, by_once, by_destructor, Closes, by_endtry, by_endcatch, by_endfin, by_done, by_enddes, Change, pauses, passes, sets_out, opens, closes, finishes, is_caught, is_pending, undoes, is_lost, leaves, Course, never, begun, after, drops, slips, ended}
use Rattle.thr_routed.proofs.Numbers.{pending_of}
use Rattle.thr_routed.proofs.OpenScopes.{AreOpen, Behind, drop_open, nothing_in_front, outside_open, route_in}
use Rattle.thr_routed.proofs.Kept.{Status, Stat, Agrees, course_agrees, entries_none, entries_same, entries_other, prefix_of, IsBelow, Fall, fall_outside}
use Rattle.thr_routed.proofs.Straight.{IfAfter, EachAfter, after_snoc, after_map, after_all}
use Rattle.thr_routed.proofs.Whole.{finally_later, finally_now, replaced_later, replaced_now, IsOther, AreOther, IsHeld, IsHeldIn, Pends, holds, holds_outside, Fate, goes, pends, is_whole_now, is_passed, is_replaced_now}

differ : (a b : ℕ) → (a ≡ b → ⊥) → (a == b) ≡ false
differ a b h = grind (arith, nat_tests)

equal : (a b : ℕ) → a ≡ b → (a == b) ≡ true
equal a b e = grind (arith, nat_tests)

tail_same : (a b : Role) (l m : List Role) → a ∷ l ≡ b ∷ m → l ≡ m
tail_same a b l m e = cc

head_same : (a b : Role) (l m : List Role) → a ∷ l ≡ b ∷ m → b ≡ a
head_same a b l m e = cc

-- ---- what a line carries

carried_none : (n : ℕ) (w : What) → carried w ≡ None → carried_by n w ≡ None
carried_none n w e = ap (entry_with n) e

carried_other : (n : ℕ) (w : What) (k : ℕ) (c : Carried) → carried w ≡ carries k c → (k ≡ n → ⊥) → carried_by n w ≡ None
carried_other n w k c e h = ap (entry_with n) e ∙ ap (λ (b : Bool). if b then Some c else None) (differ k n h)

carried_same : (n : ℕ) (w : What) (k : ℕ) (c : Carried) → carried w ≡ carries k c → k ≡ n → carried_by n w ≡ Some c
carried_same n w k c e h = ap (entry_with n) e ∙ ap (λ (b : Bool). if b then Some c else None) (equal k n h)

module _ (s : Script) where
  -- ---- unwindings that are pending

  fall_other_by : (t n : ℕ) (o : Option Unwinding) → IsBelow s t o → t ≤ n → IsOther n o
  fall_other_by t n None h le = tt
  fall_other_by t n (Some u) h le = λ e. absurd (omega (arith, h, le, e))

  fall_others : (t n : ℕ) (roles : List Role) → Fall s t roles → t ≤ n → AreOther n roles
  fall_others t n [] h le = tt
  fall_others t n (role ∷ roles) h le = (fall_other_by t n (pending_of role) h.0 le, fall_others t n roles (fall_outside s t role roles h) le)

  held_later : (n : ℕ) (scopes : List Open) (lines : List What) (w : What) (scope : ℕ) (u : Unwinding) (roles : List Role) → carried_by n w ≡ None → ends_finally scope w ≡ false → IsHeld s n scopes lines scope u roles
      → IsHeld s n scopes (lines ++ w ∷ []) scope u roles
  held_later n scopes lines w scope u roles e f h = record {
    same = h.same;
    here = finally_later n scope lines w e f h.here;
    bound = h.bound;
    open_ = h.open_;
    wide = h.wide;
    before = h.before;
    others = h.others;
  }

  held_in_later : (n : ℕ) (scopes : List Open) (lines : List What) (w : What) (role : Role) (roles : List Role) → carried_by n w ≡ None → ((scope : ℕ) → ends_finally scope w ≡ false) → IsHeldIn s n scopes lines role roles
      → IsHeldIn s n scopes (lines ++ w ∷ []) role roles
  held_in_later n scopes lines w (Finishing scope (Some u)) roles e f h = held_later n scopes lines w scope u roles e (f scope) h
  held_in_later n scopes lines w (Finishing scope None) roles e f h = absurd h
  held_in_later n scopes lines w (Calling locals place) roles e f h = absurd h
  held_in_later n scopes lines w (Trying scope ways) roles e f h = absurd h
  held_in_later n scopes lines w (Catching scope caught) roles e f h = absurd h
  held_in_later n scopes lines w (Doing scope block routine) roles e f h = absurd h
  held_in_later n scopes lines w (Barrier scope key routine) roles e f h = absurd h

  pends_later : (n : ℕ) (scopes : List Open) (lines : List What) (w : What) (roles : List Role) → carried_by n w ≡ None → ((scope : ℕ) → ends_finally scope w ≡ false) → Pends s n scopes lines roles → Pends s n scopes (lines ++ w ∷ []) roles
  pends_later n scopes lines w roles e f (holds role outer h) = holds role outer (held_in_later n scopes lines w role outer e f h)
  pends_later n scopes lines w roles e f (holds_outside role outer o p) = holds_outside role outer o (pends_later n scopes lines w outer e f p)

  -- A FINALLY body that ends further in.
  held_in_under : (n b scope : ℕ) (scopes now : List Open) (lines : List What) (role : Role) (roles : List Role) → b ≤ scope → AreOpen s b now (role ∷ roles) → IsHeldIn s n scopes lines role roles
      → IsHeldIn s n scopes (lines ++ what.Endfin scope ∷ []) role roles
  held_in_under n b scope scopes now lines (Finishing inner (Some u)) roles le o h =
      let e : o.0.scope ≡ inner = ap (λ (x : Open). x.scope) o.3 in
      held_later n scopes lines (what.Endfin scope) inner u roles refl (differ scope inner (λ q. omega (arith, e, o.4, le, q))) h
  held_in_under n b scope scopes now lines (Finishing inner None) roles le o h = absurd h
  held_in_under n b scope scopes now lines (Calling locals place) roles le o h = absurd h
  held_in_under n b scope scopes now lines (Trying inner ways) roles le o h = absurd h
  held_in_under n b scope scopes now lines (Catching inner caught) roles le o h = absurd h
  held_in_under n b scope scopes now lines (Doing inner block routine) roles le o h = absurd h
  held_in_under n b scope scopes now lines (Barrier inner key routine) roles le o h = absurd h

  pends_under : (n scope : ℕ) (scopes : List Open) (lines : List What) (b : ℕ) (now : List Open) (roles : List Role) → b ≤ scope → AreOpen s b now roles → Pends s n scopes lines roles → Pends s n scopes (lines ++ what.Endfin scope ∷ []) roles
  pends_under n scope scopes lines b now roles le o (holds role outer h) = holds role outer (held_in_under n b scope scopes now lines role outer le o h)
  pends_under n scope scopes lines b now roles le o (holds_outside role outer q p) =
      holds_outside role outer q (pends_under n scope scopes lines o.0.scope o.1 outer (omega (arith, o.4, le)) o.5 p)

  no_pends : (n : ℕ) (scopes : List Open) (lines : List What) (roles : List Role) → roles ≡ [] → Pends s n scopes lines roles → ⊥
  no_pends n scopes lines roles e (holds role outer h) = cc
  no_pends n scopes lines roles e (holds_outside role outer o p) = cc

  -- ---- from rest

  none_some : (under : Option Unwinding) (u : Unwinding) → under ≡ None → under ≡ Some u → ⊥
  none_some under u e f = cc

  rest_fate : (n : ℕ) (R P : List Carried) (scopes : List Open) (lines : List What) (w : What) (under under' : Option Unwinding) (roles roles' : List Role) → under ≡ None → carried_by n w ≡ None
      → (AreOther n roles → IsOther n under' × AreOther n roles') → (Pends s n scopes lines roles → Fate s n R P scopes (lines ++ w ∷ []) under' roles')
      → Fate s n R P scopes lines under roles → Fate s n R P scopes (lines ++ w ∷ []) under' roles'
  rest_fate n R P scopes lines w under under' roles roles' none e f g (goes u rs bound is before others) = absurd (none_some under u none refl)
  rest_fate n R P scopes lines w under under' roles roles' none e f g (pends un rs other p) = g p
  rest_fate n R P scopes lines w under under' roles roles' none e f g (is_whole_now un rs other others h) = is_whole_now under' roles' (f others).0 (f others).1 h
  rest_fate n R P scopes lines w under under' roles roles' none e f g (is_passed un rs other others h) = absurd (none_some under h.u none h.is_under)
  rest_fate n R P scopes lines w under under' roles roles' none e f g (is_replaced_now un rs other others h) =
      is_replaced_now under' roles' (f others).0 (f others).1 (replaced_later n scopes lines w e h)

  -- A pause.
  pause_fate : (n : ℕ) (R P : List Carried) (scopes : List Open) (lines : List What) (under : Option Unwinding) (roles : List Role) → Fate s n R P scopes lines under roles → Fate s n R P scopes (lines ++ what.Pause ∷ []) under roles
  pause_fate n R P scopes lines under roles (goes u rs bound is before others) = goes u rs bound is before others
  pause_fate n R P scopes lines under roles (pends un rs other p) = pends un rs other (pends_later n scopes lines what.Pause roles refl (λ i. refl) p)
  pause_fate n R P scopes lines under roles (is_whole_now un rs other others h) = is_whole_now un rs other others h
  pause_fate n R P scopes lines under roles (is_passed un rs other others h) =
      is_passed un rs other others (record { u = h.u; is_under = h.is_under; scope = h.scope; here = finally_later n h.scope lines what.Pause refl refl h.here; bound = h.bound; before = h.before })
  pause_fate n R P scopes lines under roles (is_replaced_now un rs other others h) = is_replaced_now un rs other others (replaced_later n scopes lines what.Pause refl h)

  -- ---- on the way

  carry_fate : (n : ℕ) (R P P' : List Carried) (scopes : List Open) (lines : List What) (w : What) (u : Unwinding) (c : Carried) (under under' : Option Unwinding) (roles roles' : List Role) → under ≡ Some u → carried w ≡ carries u.number c
      → ((t : ℕ) (outer : List Open) → Behind s t outer roles → is_at outer c ≡ true)
      → (u.number ≡ n → (t : ℕ) → Behind s t scopes roles → AreOther n roles → Fate s n R P' scopes (lines ++ w ∷ []) under' roles')
      → ((u.number ≡ n → ⊥) → AreOther n roles → IsOther n under' × AreOther n roles')
      → ((u.number ≡ n → ⊥) → Pends s n scopes lines roles → Fate s n R P' scopes (lines ++ w ∷ []) under' roles')
      → ((u.number ≡ n → ⊥) → P' ≡ P) → Fate s n R P scopes lines under roles → Fate s n R P' scopes (lines ++ w ∷ []) under' roles'
  carry_fate n R P P' scopes lines w u c under under' roles roles' e is at mine others pend same (goes v rs bound number before o) =
      let q : v ≡ u = ap (λ x. unwrap_or x v) e in mine (ap (λ (x : Unwinding). x.number) (sym q) ∙ number) bound before o
  carry_fate n R P P' scopes lines w u c under under' roles roles' e is at mine others pend same (pends un rs other p) = pend (subst (IsOther n) e other) p
  carry_fate n R P P' scopes lines w u c under under' roles roles' e is at mine others pend same (is_whole_now un rs other o h) =
      let ne : u.number ≡ n → ⊥ = subst (IsOther n) e other in is_whole_now under' roles' (others ne o).0 (others ne o).1 (h ∙ sym (same ne))
  carry_fate n R P P' scopes lines w u c under under' roles roles' e is at mine others pend same (is_passed un rs other o h) =
      let ne : u.number ≡ n → ⊥ = subst (IsOther n) e other in
      is_replaced_now under' roles' (others ne o).0 (others ne o).1
      (replaced_now n h.scope scopes lines w (carried_other n w u.number c is ne) h.here
      (ap (passes_by n (outside h.scope scopes)) is ∙ ap (λ (b : Bool). not b && is_at (outside h.scope scopes) c) (differ u.number n ne) ∙ at h.bound (outside h.scope scopes) h.before))
  carry_fate n R P P' scopes lines w u c under under' roles roles' e is at mine others pend same (is_replaced_now un rs other o h) =
      let ne : u.number ≡ n → ⊥ = subst (IsOther n) e other in is_replaced_now under' roles' (others ne o).0 (others ne o).1 (replaced_later n scopes lines w (carried_other n w u.number c is ne) h)

  -- The scope of the innermost role is among those that it stands behind.
  any_here : (scope : ℕ) (front : List Open) (o : Open) (more : List Open) → o.scope ≡ scope → list_any (λ (x : Open). x.scope == scope) (front ++ o ∷ more) ≡ true
  any_here scope [] o more e = ap (λ (b : Bool). b || list_any (λ (x : Open). x.scope == scope) more) (equal o.scope scope e)
  any_here scope (x ∷ front) o more e = or_right (x.scope == scope) (list_any (λ (x : Open). x.scope == scope) (front ++ o ∷ more)) (any_here scope front o more e)
    where
      or_right : (a b : Bool) → b ≡ true → (a || b) ≡ true
      or_right true b e = refl
      or_right false b e = e

  scope_here : (t scope : ℕ) (outer : List Open) (role : Role) (roles : List Role) (h : Behind s t outer (role ∷ roles)) → h.open_.0.scope ≡ scope → list_any (λ (x : Open). x.scope == scope) outer ≡ true
  scope_here t scope outer role roles h e =
      ap (list_any (λ (x : Open). x.scope == scope)) (h.parts ∙ ap (λ l. h.front ++ l) h.open_.2) ∙ any_here scope h.front h.open_.0 h.open_.1 e

  -- ---- a scope that is dropped

  drop_held : (n : ℕ) (R P : List Carried) (scopes : List Open) (lines : List What) (role : Role) (u : Unwinding) (roles : List Role) → IsOther n (Some u) → IsHeldIn s n scopes lines role roles → Fate s n R P scopes lines (Some u) roles
  drop_held n R P scopes lines (Finishing scope (Some v)) u roles other h =
      is_passed (Some u) roles other h.others (record { u = u; is_under = refl; scope = scope; here = h.here; bound = h.bound; before = nothing_in_front s h.bound (outside scope scopes) roles h.open_ })
  drop_held n R P scopes lines (Finishing scope None) u roles other h = absurd h
  drop_held n R P scopes lines (Calling locals place) u roles other h = absurd h
  drop_held n R P scopes lines (Trying scope ways) u roles other h = absurd h
  drop_held n R P scopes lines (Catching scope caught) u roles other h = absurd h
  drop_held n R P scopes lines (Doing scope block routine) u roles other h = absurd h
  drop_held n R P scopes lines (Barrier scope key routine) u roles other h = absurd h

  drop_pends : (n : ℕ) (R P : List Carried) (scopes : List Open) (lines : List What) (u : Unwinding) (all : List Role) (role : Role) (roles : List Role) → all ≡ role ∷ roles → IsOther n (Some u) → Pends s n scopes lines all → Fate s n R P scopes lines (Some u) roles
  drop_pends n R P scopes lines u all role roles e other (holds r rs h) =
      let q : rs ≡ roles = tail_same r role rs roles e in
      subst (λ l. Fate s n R P scopes lines (Some u) l) q (drop_held n R P scopes lines r u rs other h)
  drop_pends n R P scopes lines u all role roles e other (holds_outside r rs o p) =
      let q : rs ≡ roles = tail_same r role rs roles e in pends (Some u) roles other (subst (Pends s n scopes lines) q p)

  drop_fate : (n : ℕ) (R P : List Carried) (scopes : List Open) (lines : List What) (u : Unwinding) (under : Option Unwinding) (all : List Role) (role : Role) (roles : List Role) → under ≡ Some u → all ≡ role ∷ roles → Fate s n R P scopes lines under all
      → Fate s n R P scopes lines (Some u) roles
  drop_fate n R P scopes lines u under all role roles e f (goes v rs bound is before others) =
      let q : v ≡ u = ap (λ x. unwrap_or x v) e in
      goes u roles bound (ap (λ (x : Unwinding). x.number) (sym q) ∙ is) (drop_open s bound scopes role roles (subst (Behind s bound scopes) f before)) (subst (AreOther n) f others).1
  drop_fate n R P scopes lines u under all role roles e f (pends un rs other p) = drop_pends n R P scopes lines u all role roles f (subst (IsOther n) e other) p
  drop_fate n R P scopes lines u under all role roles e f (is_whole_now un rs other others h) = is_whole_now (Some u) roles (subst (IsOther n) e other) (subst (AreOther n) f others).1 h
  drop_fate n R P scopes lines u under all role roles e f (is_passed un rs other others h) =
      is_passed (Some u) roles (subst (IsOther n) e other) (subst (AreOther n) f others).1
      (record { u = h.u; is_under = sym e ∙ h.is_under; scope = h.scope; here = h.here; bound = h.bound; before = drop_open s h.bound (outside h.scope scopes) role roles (subst (Behind s h.bound (outside h.scope scopes)) f h.before) })
  drop_fate n R P scopes lines u under all role roles e f (is_replaced_now un rs other others h) = is_replaced_now (Some u) roles (subst (IsOther n) e other) (subst (AreOther n) f others).1 h

  -- ---- the innermost role isn't a pending one

  abbrev IsPlainRole : Role → Type 0
  IsPlainRole (Finishing scope pending) = ⊥
  IsPlainRole _ = Unit {0}

  plain_not_held : (n : ℕ) (scopes : List Open) (lines : List What) (role : Role) (roles : List Role) → IsPlainRole role → IsHeldIn s n scopes lines role roles → ⊥
  plain_not_held n scopes lines (Finishing scope pending) roles p h = p
  plain_not_held n scopes lines (Calling locals place) roles p h = h
  plain_not_held n scopes lines (Trying scope ways) roles p h = h
  plain_not_held n scopes lines (Catching scope caught) roles p h = h
  plain_not_held n scopes lines (Doing scope block routine) roles p h = h
  plain_not_held n scopes lines (Barrier scope key routine) roles p h = h

  pends_outside : (n : ℕ) (scopes : List Open) (lines : List What) (all : List Role) (role : Role) (roles : List Role) → all ≡ role ∷ roles → IsPlainRole role → Pends s n scopes lines all → Pends s n scopes lines roles
  pends_outside n scopes lines all role roles e plain (holds r rs h) = absurd (plain_not_held n scopes lines r rs (subst IsPlainRole (head_same r role rs roles e) plain) h)
  pends_outside n scopes lines all role roles e plain (holds_outside r rs o p) = subst (Pends s n scopes lines) (tail_same r role rs roles e) p

  -- ---- each line

  abbrev pub FateOf : Outline → List What → Unwinding → List Open → List What → Type 0
  FateOf a lines u scopes later = Fate s u.number (route s scopes u.cause) (entries_of u.number lines) scopes later a.under a.roles

  abbrev pub HaveFates : Outline → List What → Type 0
  HaveFates a lines = EachAfter (FateOf a lines) [] lines

  -- What the line does to each fate.
  abbrev pub IsFated : Outline → Outline → List What → What → Type 0
  IsFated a b lines w = (n : ℕ) (R : List Carried) (scopes : List Open) (ls : List What) → Status s a n R (entries_of n lines) → Fate s n R (entries_of n lines) scopes ls a.under a.roles
      → Fate s n R (entries_of n (lines ++ w ∷ [])) scopes (ls ++ w ∷ []) b.under b.roles

  line_fates : (a b : Outline) (lines : List What) (w : What) → Agrees s a lines → HaveFates a lines → IsFated a b lines w → IfAfter (FateOf b (lines ++ w ∷ [])) (opened lines) [] (made_by w) → HaveFates b (lines ++ w ∷ [])
  line_fates a b lines w g h f new =
      after_snoc (Stat s a lines) (FateOf a lines) (FateOf b (lines ++ w ∷ [])) [] lines w (λ u ss ls x y. f u.number (route s ss u.cause) ss ls x y) g.each h new

  -- A line of a thread at rest that carries nothing.
  quiet_fated : (a b : Outline) (lines : List What) (w : What) → a.under ≡ None → carried w ≡ None → ((n : ℕ) → n ≤ a.unwindings → AreOther n a.roles → IsOther n b.under × AreOther n b.roles)
      → ((n : ℕ) (R P : List Carried) (scopes : List Open) (ls : List What) → n ≤ a.unwindings → Pends s n scopes ls a.roles → Fate s n R P scopes (ls ++ w ∷ []) b.under b.roles) → IsFated a b lines w
  quiet_fated a b lines w none is others pend n R scopes ls x y =
      subst (λ P. Fate s n R P scopes (ls ++ w ∷ []) b.under b.roles) (sym (entries_none n lines w is))
      (rest_fate n R (entries_of n lines) scopes ls w a.under b.under a.roles b.roles none (carried_none n w is) (others n x.bound) (pend n R (entries_of n lines) scopes ls x.bound) y)

  new_fate : (roles : List Role) (k n : ℕ) (cause : Cause) (lines : List What) (w : What) → Agrees s (at_rest roles k n) lines → FateOf (on_way roles (unwinding (n + 1) cause) k (n + 1)) (lines ++ w ∷ []) (unwinding (n + 1) cause) (opened lines) []
  new_fate roles k n cause lines w g =
      goes (unwinding (n + 1) cause) roles (k + 1) refl (nothing_in_front s (k + 1) (opened lines) roles g.open_) (fall_others (n + 1) (n + 1) roles g.fall (omega arith))

  set_fated : (roles : List Role) (k n : ℕ) (cause : Cause) (lines : List What) (w : What) → carried w ≡ None → ((scope : ℕ) → ends_finally scope w ≡ false) → IsFated (at_rest roles k n) (on_way roles (unwinding (n + 1) cause) k (n + 1)) lines w
  set_fated roles k n cause lines w is f =
      quiet_fated (at_rest roles k n) (on_way roles (unwinding (n + 1) cause) k (n + 1)) lines w refl is (λ i le o. ((λ e. omega (arith, le, e)), o))
      (λ i R P scopes ls le p. pends (Some (unwinding (n + 1) cause)) roles (λ e. omega (arith, le, e)) (pends_later i scopes ls w roles (carried_none i w is) f p))

  set_fates : (roles : List Role) (k n : ℕ) (cause : Cause) (lines : List What) (w : What) → SetsOut (n + 1) cause w → Agrees s (at_rest roles k n) lines → HaveFates (at_rest roles k n) lines
      → HaveFates (on_way roles (unwinding (n + 1) cause) k (n + 1)) (lines ++ w ∷ [])
  set_fates roles k n cause lines w (by_raise x) g h = line_fates (at_rest roles k n) (on_way roles (unwinding (n + 1) cause) k (n + 1)) lines w g h (set_fated roles k n cause lines w refl (λ i. refl)) (new_fate roles k n cause lines w g)
  set_fates roles k n cause lines w (by_reraise x) g h = line_fates (at_rest roles k n) (on_way roles (unwinding (n + 1) cause) k (n + 1)) lines w g h (set_fated roles k n cause lines w refl (λ i. refl)) (new_fate roles k n cause lines w g)
  set_fates roles k n cause lines w (by_delivery line) g h = line_fates (at_rest roles k n) (on_way roles (unwinding (n + 1) cause) k (n + 1)) lines w g h (set_fated roles k n cause lines w refl (λ i. refl)) (new_fate roles k n cause lines w g)
  set_fates roles k n cause lines w (by_exit v) g h = line_fates (at_rest roles k n) (on_way roles (unwinding (n + 1) cause) k (n + 1)) lines w g h (set_fated roles k n cause lines w refl (λ i. refl)) (new_fate roles k n cause lines w g)

  open_fated : (roles : List Role) (k n : ℕ) (role : Role) (lines : List What) (w : What) → ((i : ℕ) → IsOther i (pending_of role)) → carried w ≡ None → ((scope : ℕ) → ends_finally scope w ≡ false)
      → IsFated (at_rest roles k n) (at_rest (role ∷ roles) (k + 1) n) lines w
  open_fated roles k n role lines w other is f =
      quiet_fated (at_rest roles k n) (at_rest (role ∷ roles) (k + 1) n) lines w refl is (λ i le o. (tt, (other i, o)))
      (λ i R P scopes ls le p. pends None (role ∷ roles) tt (holds_outside role roles (other i) (pends_later i scopes ls w roles (carried_none i w is) f p)))

  open_fates : (roles : List Role) (k n : ℕ) (role : Role) (lines : List What) (w : What) → Opens (HasClauses s) (k + 1) role w → Agrees s (at_rest roles k n) lines → HaveFates (at_rest roles k n) lines
      → HaveFates (at_rest (role ∷ roles) (k + 1) n) (lines ++ w ∷ [])
  open_fates roles k n role lines w (by_try line ways has) g h = line_fates (at_rest roles k n) (at_rest (role ∷ roles) (k + 1) n) lines w g h (open_fated roles k n role lines w (λ i. tt) refl (λ i. refl)) tt
  open_fates roles k n role lines w (by_once block routine) g h = line_fates (at_rest roles k n) (at_rest (role ∷ roles) (k + 1) n) lines w g h (open_fated roles k n role lines w (λ i. tt) refl (λ i. refl)) tt
  open_fates roles k n role lines w (by_destructor key routine v) g h = line_fates (at_rest roles k n) (at_rest (role ∷ roles) (k + 1) n) lines w g h (open_fated roles k n role lines w (λ i. tt) refl (λ i. refl)) tt

  close_fated : (roles : List Role) (k n : ℕ) (role : Role) (lines : List What) (w : What) → IsPlainRole role → carried w ≡ None → ((scope : ℕ) → ends_finally scope w ≡ false) → IsFated (at_rest (role ∷ roles) k n) (at_rest roles k n) lines w
  close_fated roles k n role lines w plain is f =
      quiet_fated (at_rest (role ∷ roles) k n) (at_rest roles k n) lines w refl is (λ i le o. (tt, o.1))
      (λ i R P scopes ls le p. pends None roles tt (pends_later i scopes ls w roles (carried_none i w is) f (pends_outside i scopes ls (role ∷ roles) role roles refl plain p)))

  -- A FINALLY body ends.
  fin_held : (n : ℕ) (R P : List Carried) (scopes : List Open) (ls : List What) (w : What) (role : Role) (roles : List Role) → IsHeldIn s n scopes ls role roles → Fate s n R P scopes (ls ++ w ∷ []) (pending_of role) roles
  fin_held n R P scopes ls w (Finishing scope (Some u)) roles h = goes u roles h.wide h.same h.before h.others
  fin_held n R P scopes ls w (Finishing scope None) roles h = absurd h
  fin_held n R P scopes ls w (Calling locals place) roles h = absurd h
  fin_held n R P scopes ls w (Trying scope ways) roles h = absurd h
  fin_held n R P scopes ls w (Catching scope caught) roles h = absurd h
  fin_held n R P scopes ls w (Doing scope block routine) roles h = absurd h
  fin_held n R P scopes ls w (Barrier scope key routine) roles h = absurd h

  fin_pends : (n k scope : ℕ) (R P : List Carried) (scopes : List Open) (lines : List What) (ls : List What) (pending : Option Unwinding) (roles all : List Role) → all ≡ Finishing scope pending ∷ roles → AreOpen s (k + 1) (opened lines) (Finishing scope pending ∷ roles)
      → Pends s n scopes ls all → Fate s n R P scopes (ls ++ what.Endfin scope ∷ []) pending roles
  fin_pends n k scope R P scopes lines ls pending roles all e o (holds r rs h) =
      let q : Finishing scope pending ≡ r = head_same r (Finishing scope pending) rs roles e in
      let t : rs ≡ roles = tail_same r (Finishing scope pending) rs roles e in
      subst (λ l. Fate s n R P scopes (ls ++ what.Endfin scope ∷ []) pending l) t
      (subst (λ p. Fate s n R P scopes (ls ++ what.Endfin scope ∷ []) p rs) (ap pending_of (sym q)) (fin_held n R P scopes ls (what.Endfin scope) r rs h))
  fin_pends n k scope R P scopes lines ls pending roles all e o (holds_outside r rs other p) =
      let q : Finishing scope pending ≡ r = head_same r (Finishing scope pending) rs roles e in
      let t : rs ≡ roles = tail_same r (Finishing scope pending) rs roles e in
      pends pending roles (subst (IsOther n) (ap pending_of (sym q)) other)
      (pends_under n scope scopes ls o.0.scope o.1 roles (omega (arith, ap (λ (x : Open). x.scope) o.3)) o.5 (subst (Pends s n scopes ls) t p))

  close_fates : (roles : List Role) (k n : ℕ) (role : Role) (lines : List What) (w : What) (o : Option Unwinding) → Closes role w o → Agrees s (at_rest (role ∷ roles) k n) lines → HaveFates (at_rest (role ∷ roles) k n) lines
      → HaveFates (record { roles = roles; under = o; scopes = k; unwindings = n }) (lines ++ w ∷ [])
  close_fates roles k n role lines w o (by_endtry scope handlers) g h = line_fates (at_rest (role ∷ roles) k n) (at_rest roles k n) lines w g h (close_fated roles k n role lines w tt refl (λ i. refl)) tt
  close_fates roles k n role lines w o (by_endcatch scope caught) g h = line_fates (at_rest (role ∷ roles) k n) (at_rest roles k n) lines w g h (close_fated roles k n role lines w tt refl (λ i. refl)) tt
  close_fates roles k n role lines w o (by_endfin scope pending) g h =
      line_fates (at_rest (role ∷ roles) k n) (record { roles = roles; under = pending; scopes = k; unwindings = n }) lines w g h
      (quiet_fated (at_rest (role ∷ roles) k n) (record { roles = roles; under = pending; scopes = k; unwindings = n }) lines w refl refl (λ i le o. o)
      (λ i R P scopes ls le p. fin_pends i k scope R P scopes lines ls pending roles (role ∷ roles) refl g.open_ p)) tt
  close_fates roles k n role lines w o (by_done scope block routine) g h = line_fates (at_rest (role ∷ roles) k n) (at_rest roles k n) lines w g h (close_fated roles k n role lines w tt refl (λ i. refl)) tt
  close_fates roles k n role lines w o (by_enddes scope key routine) g h = line_fates (at_rest (role ∷ roles) k n) (at_rest roles k n) lines w g h (close_fated roles k n role lines w tt refl (λ i. refl)) tt

  -- A line that carries the unwinding under way.
  carry_fated : (role : Role) (roles roles' : List Role) (under' : Option Unwinding) (k m : ℕ) (u : Unwinding) (c : Carried) (lines : List What) (w : What) → (let b : Outline = record { roles = roles'; under = under'; scopes = k; unwindings = m } in carried w ≡ carries u.number c
      → ((t : ℕ) (outer : List Open) → Behind s t outer (role ∷ roles) → is_at outer c ≡ true)
      → ((n : ℕ) (R P : List Carried) (scopes : List Open) (ls : List What) → u.number ≡ n → R ≡ P ++ route_in s u.cause (role ∷ roles) → (t : ℕ) → Behind s t scopes (role ∷ roles) → AreOther n (role ∷ roles) → Fate s n R (P ++ c ∷ []) scopes (ls ++ w ∷ []) under' roles')
      → ((n : ℕ) → (u.number ≡ n → ⊥) → AreOther n (role ∷ roles) → IsOther n under' × AreOther n roles')
      → ((n : ℕ) (R P : List Carried) (scopes : List Open) (ls : List What) → (u.number ≡ n → ⊥) → Pends s n scopes (ls ++ w ∷ []) roles → Fate s n R P scopes (ls ++ w ∷ []) under' roles')
      → ((scope : ℕ) → ends_finally scope w ≡ false) → IsPlainRole role → IsFated (on_way (role ∷ roles) u k m) b lines w)
  carry_fated role roles roles' under' k m u c lines w is at mine others pend f plain n R scopes ls x y =
      carry_fate n R (entries_of n lines) (entries_of n (lines ++ w ∷ [])) scopes ls w u c (Some u) under' (role ∷ roles) roles' refl is at
      (λ e t before o. subst (λ P. Fate s n R P scopes (ls ++ w ∷ []) under' roles') (sym (entries_same n lines w u.number c is e)) (mine n R (entries_of n lines) scopes ls e (x.live e) t before o))
      (others n)
      (λ ne p. pend n R (entries_of n (lines ++ w ∷ [])) scopes ls ne (pends_later n scopes ls w roles (carried_other n w u.number c is ne) f (pends_outside n scopes ls (role ∷ roles) role roles refl plain p)))
      (λ ne. entries_other n lines w u.number c is ne) y

  finally_carries : (scope n : ℕ) → 0 < n → carried (what.Finally scope n) ≡ carries n (RunsFinally scope)
  finally_carries scope zero h = absurd (omega (arith, h))
  finally_carries scope (suc n) h = refl

  held_now : (n : ℕ) (scopes : List Open) (ls : List What) (scope : ℕ) (w : What) (role : Role) (u : Unwinding) (roles : List Role) (t : ℕ) (h : Behind s t scopes (role ∷ roles)) → h.open_.0.scope ≡ scope → carried_by n w ≡ Some (RunsFinally scope) → u.number ≡ n → AreOther n roles
      → IsHeld s n scopes (ls ++ w ∷ []) scope u roles
  held_now n scopes ls scope w role u roles t h e is same others = record {
    same = same;
    here = finally_now n scope ls w is;
    bound = h.open_.0.scope;
    open_ = subst (λ l. AreOpen s h.open_.0.scope l roles) (sym (outside_open s t scope scopes role roles h e)) h.open_.5;
    wide = t;
    before = drop_open s t scopes role roles h;
    others = others;
  }

  line_has_fates : (a b : Outline) (lines : List What) (w : What) → Change s (HasClauses s) a w b → Agrees s a lines → HaveFates a lines → HaveFates b (lines ++ w ∷ [])
  line_has_fates a b lines w (pauses c) g h =
      line_fates a a lines w g h (λ n R scopes ls x y. subst (λ P. Fate s n R P scopes (ls ++ what.Pause ∷ []) a.under a.roles) (sym (entries_none n lines what.Pause refl)) (pause_fate n R (entries_of n lines) scopes ls a.under a.roles y)) tt
  line_has_fates a b lines w (passes roles k n x p) g h =
      line_fates a a lines w g h
      (quiet_fated a a lines w refl p.carrying (λ i le o. (tt, o)) (λ i R P scopes ls le q. pends None roles tt (pends_later i scopes ls w roles (carried_none i w p.carrying) p.closing q)))
      (subst (IfAfter (FateOf a (lines ++ w ∷ [])) (opened lines) []) (sym p.making) tt)
  line_has_fates a b lines w (sets_out roles k n cause x p) g h = set_fates roles k n cause lines w p g h
  line_has_fates a b lines w (opens roles k n role x p) g h = open_fates roles k n role lines w p g h
  line_has_fates a b lines w (closes roles k n role x o p) g h = close_fates roles k n role lines w o p g h
  line_has_fates a b lines w (finishes roles k n scope body) g h =
      line_fates a b lines w g h
      (quiet_fated a b lines w refl refl (λ i le o. (tt, (tt, o.1)))
      (λ i R P scopes ls le p. pends None (Finishing scope None ∷ roles) tt (holds_outside (Finishing scope None) roles tt
      (pends_later i scopes ls w roles refl (λ j. refl) (pends_outside i scopes ls (Trying scope (Finally body) ∷ roles) (Trying scope (Finally body)) roles refl tt p))))) tt
  line_has_fates a b lines w (is_caught roles k n scope handlers number x c e) g h =
      line_fates a b lines w g h
      (carry_fated (Trying scope (Catches handlers)) roles (Catching scope x ∷ roles) None k n (unwinding number (Raised x)) (routes.Catches scope c.line) lines w refl
      (λ t outer q. scope_here t scope outer (Trying scope (Catches handlers)) roles q (ap (λ (y : Open). y.scope) q.open_.3.1))
      (λ i R P scopes ls same live t before o. is_whole_now None (Catching scope x ∷ roles) tt (tt, o.1) (live ∙ ap (λ y. P ++ at_handler scope y (route_in s (Raised x) roles)) e))
      (λ i ne o. (tt, (tt, o.1))) (λ i R P scopes ls ne p. pends None (Catching scope x ∷ roles) tt (holds_outside (Catching scope x) roles tt p)) (λ i. refl) tt) tt
  line_has_fates a b lines w (is_pending roles k n scope body u) g h =
      line_fates a b lines w g h
      (carry_fated (Trying scope (Finally body)) roles (Finishing scope (Some u) ∷ roles) None k n u (RunsFinally scope) lines w (finally_carries scope u.number g.under.0)
      (λ t outer q. scope_here t scope outer (Trying scope (Finally body)) roles q (ap (λ (y : Open). y.scope) q.open_.3.1))
      (λ i R P scopes ls same live t before o. pends None (Finishing scope (Some u) ∷ roles) tt (holds (Finishing scope (Some u)) roles
      (held_now i scopes ls scope w (Trying scope (Finally body)) u roles t before (ap (λ (y : Open). y.scope) before.open_.3.1) (carried_same i w u.number (RunsFinally scope) (finally_carries scope u.number g.under.0) same) same o.1)))
      (λ i ne o. (tt, (ne, o.1))) (λ i R P scopes ls ne p. pends None (Finishing scope (Some u) ∷ roles) tt (holds_outside (Finishing scope (Some u)) roles ne p)) (λ i. refl) tt) tt
  line_has_fates a b lines w (undoes roles k n scope block routine u) g h =
      line_fates a b lines w g h
      (carry_fated (Doing scope block routine) roles roles (Some u) k n u (Undoes scope) lines w refl
      (λ t outer q. scope_here t scope outer (Doing scope block routine) roles q (ap (λ (y : Open). y.scope) q.open_.3))
      (λ i R P scopes ls same live t before o. goes u roles t same (drop_open s t scopes (Doing scope block routine) roles before) o.1)
      (λ i ne o. (ne, o.1)) (λ i R P scopes ls ne p. pends (Some u) roles ne p) (λ i. refl) tt) tt
  line_has_fates a b lines w (is_lost roles k n scope key routine u) g h =
      line_fates a b lines w g h
      (carry_fated (Barrier scope key routine) roles roles None k n u (Loses scope) lines w refl
      (λ t outer q. scope_here t scope outer (Barrier scope key routine) roles q (ap (λ (y : Open). y.scope) q.open_.3))
      (λ i R P scopes ls same live t before o. is_whole_now None roles tt o.1 live)
      (λ i ne o. (tt, o.1)) (λ i R P scopes ls ne p. pends None roles tt p) (λ i. refl) tt) tt
  line_has_fates a b lines w (leaves k n u) g h =
      line_fates a b lines w g h
      (λ i R scopes ls x y. carry_fate i R (entries_of i lines) (entries_of i (lines ++ w ∷ [])) scopes ls w u (Leaves (left_value u.cause)) (Some u) None [] [] refl refl (λ t outer q. refl)
      (λ e t before o. is_whole_now None [] tt tt (x.live e ∙ sym (entries_same i lines w u.number (Leaves (left_value u.cause)) refl e)))
      (λ ne o. (tt, tt)) (λ ne p. absurd (no_pends i scopes ls [] refl p)) (λ ne. entries_other i lines w u.number (Leaves (left_value u.cause)) refl ne) y) tt

  -- ---- courses

  abbrev HaveFatesIf : Option Outline → List What → Type 0
  HaveFatesIf None lines = (k : ℕ) × (n : ℕ) × HaveFates (at_rest [] k n) lines
  HaveFatesIf (Some a) lines = HaveFates a lines

  end_fates : (k n : ℕ) (lines : List What) (w : What) → carried w ≡ None → made_by w ≡ None → ((scope : ℕ) → ends_finally scope w ≡ false) → Agrees s (at_rest [] k n) lines → HaveFates (at_rest [] k n) lines → HaveFates (at_rest [] k n) (lines ++ w ∷ [])
  end_fates k n lines w is made f g h =
      line_fates (at_rest [] k n) (at_rest [] k n) lines w g h
      (quiet_fated (at_rest [] k n) (at_rest [] k n) lines w refl is (λ i le o. (tt, tt)) (λ i R P scopes ls le q. absurd (no_pends i scopes ls [] refl q)))
      (subst (IfAfter (FateOf (at_rest [] k n) (lines ++ w ∷ [])) (opened lines) []) (sym made) tt)

  course_fates : (o : Option Outline) (all : List What) → Course s (HasClauses s) ⊥ o all → HaveFatesIf o all
  course_fates o all never = (0, 0, tt)
  course_fates o all begun = tt
  course_fates o all (after {a} {b} {lines} {w} c x) = line_has_fates a b lines w x (course_agrees s (Some a) lines c) (course_fates (Some a) lines c)
  course_fates o all (drops {roles} {k} {n} {lines} role u e c) =
      after_map (FateOf (on_way (role ∷ roles) u k n) lines) (FateOf (on_way roles u k n) lines) [] lines
      (λ v ss ls x. drop_fate v.number (route s ss v.cause) (entries_of v.number lines) ss ls u (Some u) (role ∷ roles) role roles refl refl x) (course_fates (Some (on_way (role ∷ roles) u k n)) lines c)
  course_fates o all (slips {roles} {k} {n} {lines} role may c) = absurd may
  course_fates o all (ended {k} {n} {lines} v c) =
      (k, n, end_fates k n lines (what.End v) refl refl (λ i. refl) (course_agrees s (Some (at_rest [] k n)) lines c) (course_fates (Some (at_rest [] k n)) lines c))

  -- ---- the law

  or_first : (a b : Bool) → a ≡ true → (a || b) ≡ true
  or_first true b e = refl
  or_first false b e = absurd (false≢true e)

  or_last : (a b : Bool) → b ≡ true → (a || b) ≡ true
  or_last true b e = refl
  or_last false b e = e

  whole_same : (R P : List Carried) → R ≡ P → is_whole P R ≡ true
  whole_same R P e =
      subst (λ l. is_whole P l ≡ true) (sym e) (and_both (is_prefix P P) (is_prefix P P) (self P) (self P))
    where
      self : (P : List Carried) → is_prefix P P ≡ true
      self P = ap (is_prefix P) (sym (append-nil P)) ∙ prefix_of P []

  fate_ends : (n : ℕ) (R P : List Carried) (scopes : List Open) (ls : List What) (under : Option Unwinding) (roles : List Role) → under ≡ None → roles ≡ [] → Fate s n R P scopes ls under roles
      → (is_whole P R || replaced_after n scopes (last_carried n ls)) ≡ true
  fate_ends n R P scopes ls under roles e f (goes u rs bound is before others) = absurd (none_some under u e refl)
  fate_ends n R P scopes ls under roles e f (pends un rs other p) = absurd (no_pends n scopes ls roles f p)
  fate_ends n R P scopes ls under roles e f (is_whole_now un rs other others h) = or_first (is_whole P R) (replaced_after n scopes (last_carried n ls)) (whole_same R P h)
  fate_ends n R P scopes ls under roles e f (is_passed un rs other others h) = absurd (none_some under h.u e h.is_under)
  fate_ends n R P scopes ls under roles e f (is_replaced_now un rs other others h) = or_last (is_whole P R) (replaced_after n scopes (last_carried n ls)) h

  end_last : (lines : List What) (w : What) → list_any is_end lines ≡ false → is_end w ≡ false → list_any is_end (lines ++ w ∷ []) ≡ false
  end_last [] w h e = ap (λ (b : Bool). b || false) e
  end_last (x ∷ lines) w h e = neither_more (is_end x) (list_any is_end lines) (list_any is_end (lines ++ w ∷ [])) h (λ q. end_last lines w q e)
    where
      neither_more : (a b c : Bool) → (a || b) ≡ false → (b ≡ false → c ≡ false) → (a || c) ≡ false
      neither_more true b c h f = h
      neither_more false b c h f = f h

  no_end : (a b : Outline) (w : What) → Change s (HasClauses s) a w b → is_end w ≡ false
  no_end a b w (pauses c) = refl
  no_end a b w (passes roles k n x p) = p.ending
  no_end a b w (sets_out roles k n cause x p) = set_end n cause w p
    where
      set_end : (n : ℕ) (cause : Cause) (w : What) → SetsOut (n + 1) cause w → is_end w ≡ false
      set_end n cause w (by_raise x) = refl
      set_end n cause w (by_reraise x) = refl
      set_end n cause w (by_delivery line) = refl
      set_end n cause w (by_exit v) = refl
  no_end a b w (opens roles k n role x p) = open_end k role w p
    where
      open_end : (k : ℕ) (role : Role) (w : What) → Opens (HasClauses s) (k + 1) role w → is_end w ≡ false
      open_end k role w (by_try line ways has) = refl
      open_end k role w (by_once block routine) = refl
      open_end k role w (by_destructor key routine v) = refl
  no_end a b w (closes roles k n role x o p) = close_end role w o p
    where
      close_end : (role : Role) (w : What) (o : Option Unwinding) → Closes role w o → is_end w ≡ false
      close_end role w o (by_endtry scope handlers) = refl
      close_end role w o (by_endcatch scope caught) = refl
      close_end role w o (by_endfin scope pending) = refl
      close_end role w o (by_done scope block routine) = refl
      close_end role w o (by_enddes scope key routine) = refl
  no_end a b w (finishes roles k n scope body) = refl
  no_end a b w (is_caught roles k n scope handlers number x c e) = refl
  no_end a b w (is_pending roles k n scope body u) = refl
  no_end a b w (undoes roles k n scope block routine u) = refl
  no_end a b w (is_lost roles k n scope key routine u) = refl
  no_end a b w (leaves k n u) = refl

  abbrev Unended : Option Outline → List What → Type 0
  Unended None lines = Unit {0}
  Unended (Some a) lines = list_any is_end lines ≡ false

  course_unended : (o : Option Outline) (all : List What) → Course s (HasClauses s) ⊥ o all → Unended o all
  course_unended o all never = tt
  course_unended o all begun = refl
  course_unended o all (after {a} {b} {lines} {w} c x) = end_last lines w (course_unended (Some a) lines c) (no_end a b w x)
  course_unended o all (drops {roles} {k} {n} {lines} role u e c) = course_unended (Some (on_way (role ∷ roles) u k n)) lines c
  course_unended o all (slips {roles} {k} {n} {lines} role may c) = absurd may
  course_unended o all (ended v c) = tt

  ends_whole : (k n : ℕ) (lines : List What) → HaveFates (at_rest [] k n) lines → list_all (λ m. is_whole (entries_of m.number lines) (route_of s m) || is_replaced m) (makings lines) ≡ true
  ends_whole k n lines h =
      after_all (FateOf (at_rest [] k n) lines) (λ m. is_whole (entries_of m.number lines) (route_of s m) || is_replaced m) [] lines
      (λ u ss ls x. fate_ends u.number (route s ss u.cause) (entries_of u.number lines) ss ls None [] refl refl x) h

  whole_if : (o : Option Outline) (lines : List What) → HaveFatesIf o lines → Unended o lines → take_whole_routes s lines ≡ true
  whole_if None lines h u = or_first (list_all (λ m. is_whole (entries_of m.number lines) (route_of s m) || is_replaced m) (makings lines)) (not (list_any is_end lines)) (ends_whole h.0 h.1 lines h.2)
  whole_if (Some a) lines h u = or_last (list_all (λ m. is_whole (entries_of m.number lines) (route_of s m) || is_replaced m) (makings lines)) (not (list_any is_end lines)) (ap not u)

  pub course_whole : (o : Option Outline) (lines : List What) → Course s (HasClauses s) ⊥ o lines → take_whole_routes s lines ≡ true
  course_whole o lines c = whole_if o lines (course_fates o lines c) (course_unended o lines c)
