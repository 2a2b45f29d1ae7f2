-- Over each course the lines that carry an unwinding keep to its route.
use Rattle.std.proofs.Common.{◌≡◌, ℕ, zero, suc, ◌+◌, ◌≤◌, ◌<◌, ◌==◌, Bool, true, false, List, [], ◌∷◌, ◌++◌, Option, Some, None, refl, sym, ap, ◌∙◌, arith, subst, append_assoc, append-nil, inl, inr, if◌then◌else◌}
use Rattle.std.proofs.lemmas.Bool.Decides.{nat_tests}
use Rattle.std.proofs.lemmas.Bool.{cases_eq}
use Rattle.std.proofs.lemmas.List.Elements.{filter_map-append}
use Rattle.std.specs.List.{fold, list_all, cons_option}
use Rattle.std.specs.Prelude.{ℤ}
use Rattle.std.specs.Ordering.{int_eq}
use Rattle.thr_values.specs.declared.history.What.{What}
use Rattle.thr_values.specs.declared.history.What.TheVariants as what
use Rattle.thr_syntax.specs.declared.tree.Script.{Script}
use Rattle.thr_remainder.specs.declared.unwinding.Cause.{Cause}
use Rattle.thr_remainder.specs.declared.unwinding.Cause.TheVariants.{Raised}
use Rattle.thr_remainder.specs.declared.unwinding.Unwinding.{Unwinding}
use Rattle.thr_remainder.specs.Places.{Catches, Finally}
use Rattle.thr_remainder.specs.Remainders.{Role, Calling, Trying, Catching, Finishing, Doing, Barrier}
use Rattle.thr_remainder.specs.Outward.{Drops, meeting, left_value}
use Rattle.thr_laws.specs.Scopes.{Open, InBody, InCatch, InFinally, InOnce, InDestructor, opened, opened_after, without, outside}
use Rattle.thr_laws.specs.Routes.{Carried, RunsFinally, Undoes, Loses, Leaves, is_same_entry, Carrying, carries, carried, entry_with, carried_by, route}
use Rattle.thr_laws.specs.Routes as routes
use Rattle.thr_laws.specs.Routed.{made_by, Making, with_making, makings_from, entries_of, is_prefix, keep_to_routes, route_of}
use Rattle.thr_laws.proofs.ReadingLaws.{and_both}
use Rattle.thr_routed.specs.Courses.{Outline, at_rest, on_way, unwinding, at_handler, HasClauses, SetsOut, by_raise, by_reraise, by_delivery, by_exit, Opens, by_try, by_once, by_destructor, Closes, by_endtry, by_endcatch, by_endfin, by_done, by_enddes, Change, pauses, passes, sets_out, opens, closes, finishes, is_caught, is_pending, undoes, is_lost, leaves, Course, never, begun, after, drops, slips, ended}
use Rattle.thr_routed.proofs.Numbers.{fold_snoc, pending_of}
use Rattle.thr_routed.proofs.OpenScopes.{open_at, AreOpen, Behind, HasOpen, nothing_in_front, has_open, drop_open, close_open, change_open, change_rest, leave_open, route_in, open_route, drop_route}

-- ---- a fact about each making

-- The fact holds of what the line makes, if it makes an unwinding where these scopes are open.
abbrev pub IfMade : (Unwinding → List Open → Type 0) → List Open → Option Unwinding → Type 0
IfMade Q scopes None = Unit {0}
IfMade Q scopes (Some u) = Q u scopes

-- The fact holds of each unwinding that the lines make.
abbrev pub EachMade : (Unwinding → List Open → Type 0) → List Open → List What → Type 0
EachMade Q scopes [] = Unit {0}
EachMade Q scopes (w ∷ lines) = IfMade Q scopes (made_by w) × EachMade Q (opened_after scopes w) lines

if_made_map : (P Q : Unwinding → List Open → Type 0) (scopes : List Open) (o : Option Unwinding) → ((u : Unwinding) (ss : List Open) → P u ss → Q u ss) → IfMade P scopes o → IfMade Q scopes o
if_made_map P Q scopes None f h = tt
if_made_map P Q scopes (Some u) f h = f u scopes h

pub each_map : (P Q : Unwinding → List Open → Type 0) (scopes : List Open) (lines : List What) → ((u : Unwinding) (ss : List Open) → P u ss → Q u ss) → EachMade P scopes lines → EachMade Q scopes lines
each_map P Q scopes [] f h = tt
each_map P Q scopes (w ∷ lines) f h = (if_made_map P Q scopes (made_by w) f h.0, each_map P Q (opened_after scopes w) lines f h.1)

pub each_snoc : (Q : Unwinding → List Open → Type 0) (scopes : List Open) (lines : List What) (w : What) → EachMade Q scopes lines → IfMade Q (fold opened_after scopes lines) (made_by w) → EachMade Q scopes (lines ++ w ∷ [])
each_snoc Q scopes [] w h i = (i, tt)
each_snoc Q scopes (x ∷ lines) w h i = (h.0, each_snoc Q (opened_after scopes x) lines w h.1 i)

each_with : (Q : Unwinding → List Open → Type 0) (p : Making → Bool) (scopes : List Open) (o : Option Unwinding) (lines : List What) (rest : List Making)
    → ((u : Unwinding) (ss : List Open) (ls : List What) → Q u ss → (let m : Making = record { number = u.number; cause = u.cause; scopes = ss; after = ls } in p m ≡ true)) → IfMade Q scopes o → list_all p rest ≡ true
    → list_all p (with_making o scopes lines rest) ≡ true
each_with Q p scopes None lines rest f h r = r
each_with Q p scopes (Some u) lines rest f h r = and_both (p _) (list_all p rest) (f u scopes lines h) r

pub each_all : (Q : Unwinding → List Open → Type 0) (p : Making → Bool) (scopes : List Open) (lines : List What)
    → ((u : Unwinding) (ss : List Open) (ls : List What) → Q u ss → (let m : Making = record { number = u.number; cause = u.cause; scopes = ss; after = ls } in p m ≡ true)) → EachMade Q scopes lines
    → list_all p (makings_from scopes lines) ≡ true
each_all Q p scopes [] f h = refl
each_all Q p scopes (w ∷ lines) f h = each_with Q p scopes (made_by w) lines (makings_from (opened_after scopes w) lines) f h.0 (each_all Q p (opened_after scopes w) lines f h.1)

-- ---- entries

pub entries_snoc : (n : ℕ) (lines : List What) (w : What) (o : Option Carrying) → carried w ≡ o → entries_of n (lines ++ w ∷ []) ≡ entries_of n lines ++ cons_option (entry_with n o) []
entries_snoc n lines w o e = filter_map-append (carried_by n) lines (w ∷ []) ∙ ap (λ c. entries_of n lines ++ cons_option (entry_with n c) []) e

pub entries_none : (n : ℕ) (lines : List What) (w : What) → carried w ≡ None → entries_of n (lines ++ w ∷ []) ≡ entries_of n lines
entries_none n lines w e = entries_snoc n lines w None e ∙ append-nil (entries_of n lines)

pub entries_same : (k : ℕ) (lines : List What) (w : What) (n : ℕ) (c : Carried) → carried w ≡ carries n c → n ≡ k → entries_of k (lines ++ w ∷ []) ≡ entries_of k lines ++ c ∷ []
entries_same k lines w n c e q =
    entries_snoc k lines w (carries n c) e ∙ ap (λ (b : Bool). entries_of k lines ++ cons_option (if b then Some c else None) []) (same_number' n k q)
  where
    same_number' : (a b : ℕ) → a ≡ b → (a == b) ≡ true
    same_number' a b e = grind (arith, nat_tests)

other_number : (a b : ℕ) → (a ≡ b → ⊥) → (a == b) ≡ false
other_number a b h = grind (arith, nat_tests)

pub entries_other : (k : ℕ) (lines : List What) (w : What) (n : ℕ) (c : Carried) → carried w ≡ carries n c → (n ≡ k → ⊥) → entries_of k (lines ++ w ∷ []) ≡ entries_of k lines
entries_other k lines w n c e q =
    entries_snoc k lines w (carries n c) e ∙ ap (λ (b : Bool). entries_of k lines ++ cons_option (if b then Some c else None) []) (other_number n k q) ∙ append-nil (entries_of k lines)

-- ---- prefixes

int_same : (v : ℤ) → int_eq v v ≡ true
int_same v = grind arith

pub entry_same : (c : Carried) → is_same_entry c c ≡ true
entry_same (routes.Catches scope line) = grind (arith, nat_tests)
entry_same (RunsFinally scope) = grind (arith, nat_tests)
entry_same (Undoes scope) = grind (arith, nat_tests)
entry_same (Loses scope) = grind (arith, nat_tests)
entry_same (Leaves v) = int_same v

pub prefix_of : (p rest : List Carried) → is_prefix p (p ++ rest) ≡ true
prefix_of [] rest = refl
prefix_of (c ∷ p) rest = and_both (is_same_entry c c) (is_prefix p (p ++ rest)) (entry_same c) (prefix_of p rest)

module _ (s : Script) where
  -- ---- pending unwindings

  -- The numbers of the pending unwindings fall from t on.
  abbrev pub IsBelow : ℕ → Option Unwinding → Type 0
  IsBelow t None = Unit {0}
  IsBelow t (Some u) = u.number < t

  abbrev pub bound_by : ℕ → Option Unwinding → ℕ
  bound_by t None = t
  bound_by t (Some u) = u.number

  abbrev pub Fall : ℕ → List Role → Type 0
  Fall t [] = Unit {0}
  Fall t (role ∷ roles) = IsBelow t (pending_of role) × Fall (bound_by t (pending_of role)) roles

  fall_more_by : (t v : ℕ) (o : Option Unwinding) (roles : List Role) → t ≤ v → ((a b : ℕ) → a ≤ b → Fall a roles → Fall b roles) → IsBelow t o × Fall (bound_by t o) roles → IsBelow v o × Fall (bound_by v o) roles
  fall_more_by t v None roles le more h = (tt, more t v le h.1)
  fall_more_by t v (Some u) roles le more h = (omega (arith, h.0, le), h.1)

  pub fall_more : (t v : ℕ) (roles : List Role) → t ≤ v → Fall t roles → Fall v roles
  fall_more t v [] le h = tt
  fall_more t v (role ∷ roles) le h = fall_more_by t v (pending_of role) roles le (λ a b. fall_more a b roles) h

  fall_tail : (t : ℕ) (o : Option Unwinding) (roles : List Role) → IsBelow t o × Fall (bound_by t o) roles → Fall t roles
  fall_tail t None roles h = h.1
  fall_tail t (Some u) roles h = fall_more u.number t roles (omega (arith, h.0)) h.1

  pub fall_outside : (t : ℕ) (role : Role) (roles : List Role) → Fall t (role ∷ roles) → Fall t roles
  fall_outside t role roles h = fall_tail t (pending_of role) roles h

  -- ---- where an unwinding stands

  -- If the unwinding that is there has number n, this much of its route R is written, and the rest goes through these roles.
  abbrev pub IsAt : ℕ → List Carried → List Carried → Option Unwinding → List Role → Type 0
  IsAt n R P None roles = Unit {0}
  IsAt n R P (Some u) roles = u.number ≡ n → R ≡ P ++ route_in s u.cause roles

  -- The same of an unwinding that is pending in a role, with the FINALLY body as its last entry.
  abbrev pub IsPendingAt : ℕ → List Carried → List Carried → ℕ → Option Unwinding → List Role → Type 0
  IsPendingAt n R P scope None roles = Unit {0}
  IsPendingAt n R P scope (Some u) roles = u.number ≡ n → (Q : List Carried) × (P ≡ Q ++ RunsFinally scope ∷ []) × (R ≡ P ++ route_in s u.cause roles)

  abbrev pub IsPendingIn : ℕ → List Carried → List Carried → Role → List Role → Type 0
  IsPendingIn n R P (Finishing scope pending) roles = IsPendingAt n R P scope pending roles
  IsPendingIn n R P _ roles = Unit {0}

  abbrev pub ArePending : ℕ → List Carried → List Carried → List Role → Type 0
  ArePending n R P [] = Unit {0}
  ArePending n R P (role ∷ roles) = IsPendingIn n R P role roles × ArePending n R P roles

  not_pending_at : (n t : ℕ) (R P : List Carried) (scope : ℕ) (o : Option Unwinding) (roles : List Role) → IsBelow t o → t ≤ n → IsPendingAt n R P scope o roles
  not_pending_at n t R P scope None roles h le = tt
  not_pending_at n t R P scope (Some u) roles h le = λ e. absurd (omega (arith, h, le, e))

  not_pending_in : (n t : ℕ) (R P : List Carried) (role : Role) (roles : List Role) → IsBelow t (pending_of role) → t ≤ n → IsPendingIn n R P role roles
  not_pending_in n t R P (Finishing scope pending) roles h le = not_pending_at n t R P scope pending roles h le
  not_pending_in n t R P (Calling locals place) roles h le = tt
  not_pending_in n t R P (Trying scope ways) roles h le = tt
  not_pending_in n t R P (Catching scope caught) roles h le = tt
  not_pending_in n t R P (Doing scope block routine) roles h le = tt
  not_pending_in n t R P (Barrier scope key routine) roles h le = tt

  -- Nothing that is pending has a number from t on.
  pub not_pending : (n t : ℕ) (R P : List Carried) (roles : List Role) → Fall t roles → t ≤ n → ArePending n R P roles
  not_pending n t R P [] h le = tt
  not_pending n t R P (role ∷ roles) h le = (not_pending_in n t R P role roles h.0 le, not_pending n t R P roles (fall_outside t role roles h) le)

  -- Where unwinding n stands whose route is R, and of which P is written.
  pub record Status (a : Outline) (n : ℕ) (R P : List Carried) : Type 0 where
    pub positive : 0 < n
    pub bound : n ≤ a.unwindings
    pub rest : List Carried
    pub begins : R ≡ P ++ rest
    pub live : IsAt n R P a.under a.roles
    pub waits : ArePending n R P a.roles

  abbrev pub Stat : Outline → List What → Unwinding → List Open → Type 0
  Stat a lines u scopes = Status a u.number (route s scopes u.cause) (entries_of u.number lines)

  abbrev pub above : Option Unwinding → ℕ → ℕ
  above None n = n + 1
  above (Some u) n = u.number

  abbrev pub IsUnder : Option Unwinding → ℕ → Type 0
  IsUnder None n = Unit {0}
  IsUnder (Some u) n = (0 < u.number) × (u.number ≤ n)

  abbrev pub AreUnder : List Role → ℕ → Type 0
  AreUnder [] n = Unit {0}
  AreUnder (role ∷ roles) n = IsUnder (pending_of role) n × AreUnder roles n

  under_more : (o : Option Unwinding) (n : ℕ) → IsUnder o n → IsUnder o (n + 1)
  under_more None n h = tt
  under_more (Some u) n h = (h.0, omega (arith, h.1))

  all_under_more : (roles : List Role) (n : ℕ) → AreUnder roles n → AreUnder roles (n + 1)
  all_under_more [] n h = tt
  all_under_more (role ∷ roles) n h = (under_more (pending_of role) n h.0, all_under_more roles n h.1)

  pub record Agrees (a : Outline) (lines : List What) : Type 0 where
    pub open_ : HasOpen s a.under (a.scopes + 1) (opened lines) a.roles
    pub fall : Fall (above a.under a.unwindings) a.roles
    pub under : IsUnder a.under a.unwindings
    pub pending : AreUnder a.roles a.unwindings
    pub unmade : (k : ℕ) → a.unwindings < k → entries_of k lines ≡ []
    pub each : EachMade (Stat a lines) [] lines

  -- ---- a line that carries nothing and makes nothing

  -- What stays of an unwinding's status.
  abbrev pub Keeps : Outline → Outline → Type 0
  Keeps a b = (n : ℕ) (R P : List Carried) → 0 < n → IsAt n R P a.under a.roles → ArePending n R P a.roles → IsAt n R P b.under b.roles × ArePending n R P b.roles

  quiet_line : (a b : Outline) (lines : List What) (w : What) → Agrees a lines → made_by w ≡ None → carried w ≡ None → b.unwindings ≡ a.unwindings
      → HasOpen s b.under (b.scopes + 1) (opened_after (opened lines) w) b.roles → Fall (above b.under b.unwindings) b.roles → IsUnder b.under b.unwindings → AreUnder b.roles b.unwindings → Keeps a b → Agrees b (lines ++ w ∷ [])
  quiet_line a b lines w h made none count o fall under pending keeps =
      record {
        open_ = subst (λ ss. HasOpen s b.under (b.scopes + 1) ss b.roles) (sym (fold_snoc opened_after [] lines w)) o;
        fall = fall;
        under = under;
        pending = pending;
        unmade = λ k lt. entries_none k lines w none ∙ h.unmade k (omega (arith, lt, count));
        each = each_snoc (Stat b (lines ++ w ∷ [])) [] lines w
            (each_map (Stat a lines) (Stat b (lines ++ w ∷ [])) [] lines
            (λ u ss x.
            let y = keeps u.number (route s ss u.cause) (entries_of u.number lines) x.positive x.live x.waits in
            subst (λ P. Status b u.number (route s ss u.cause) P) (sym (entries_none u.number lines w none))
            (record { positive = x.positive; bound = omega (arith, x.bound, count); rest = x.rest; begins = x.begins; live = y.0; waits = y.1 }))
            h.each)
            (subst (IfMade (Stat b (lines ++ w ∷ [])) (fold opened_after [] lines)) (sym made) tt);
      }

  -- ---- a line that makes an unwinding

  new_line : (roles : List Role) (k n : ℕ) (cause : Cause) (lines : List What) (w : What) → Agrees (at_rest roles k n) lines → made_by w ≡ Some (unwinding (n + 1) cause) → carried w ≡ None
      → ((ss : List Open) → opened_after ss w ≡ ss) → Agrees (on_way roles (unwinding (n + 1) cause) k (n + 1)) (lines ++ w ∷ [])
  new_line roles k n cause lines w h made none same =
      let b : Outline = on_way roles (unwinding (n + 1) cause) k (n + 1) in
      let ss : List Open = opened lines in
      record {
        open_ = subst (λ l. Behind s (k + 1) l roles) (sym (fold_snoc opened_after [] lines w ∙ same ss)) (nothing_in_front s (k + 1) ss roles h.open_);
        fall = h.fall;
        under = (omega arith, omega arith);
        pending = all_under_more roles n h.pending;
        unmade = λ i lt. entries_none i lines w none ∙ h.unmade i (omega (arith, lt));
        each = each_snoc (Stat b (lines ++ w ∷ [])) [] lines w
            (each_map (Stat (at_rest roles k n) lines) (Stat b (lines ++ w ∷ [])) [] lines
            (λ u zs x. subst (λ P. Status b u.number (route s zs u.cause) P) (sym (entries_none u.number lines w none))
            (record { positive = x.positive; bound = omega (arith, x.bound); rest = x.rest; begins = x.begins; live = λ e. absurd (omega (arith, x.bound, e)); waits = x.waits }))
            h.each)
            (subst (IfMade (Stat b (lines ++ w ∷ [])) ss) (sym made)
            (subst (λ P. Status b (n + 1) (route s ss cause) P) (sym (entries_none (n + 1) lines w none ∙ h.unmade (n + 1) (omega arith)))
            (record {
              positive = omega arith;
              bound = omega arith;
              rest = route s ss cause;
              begins = refl;
              live = λ e. open_route s (k + 1) ss roles cause h.open_;
              waits = not_pending (n + 1) (n + 1) (route s ss cause) [] roles h.fall (omega arith);
            })));
      }

  -- ---- a line that carries the unwinding under way

  -- What the line does to the status of unwinding k: it writes c, and more is left.
  abbrev pub Carries : Unwinding → Carried → List Carried → List Role → Outline → Type 0
  Carries u c more roles b = (k : ℕ) (R P : List Carried) → 0 < k → (u.number ≡ k → (Q : List Carried) × (P ≡ Q ++ c ∷ []) × (R ≡ P ++ more)) → ArePending k R P roles → IsAt k R P b.under b.roles × ArePending k R P b.roles

  carry_same : (u : Unwinding) (c : Carried) (more : List Carried) (roles : List Role) (x y : ℕ) (b : Outline) (lines : List What) (w : What) (k : ℕ) (R : List Carried)
      → carried w ≡ carries u.number c → route_in s u.cause roles ≡ c ∷ more → b.unwindings ≡ y → Fall u.number roles → Carries u c more roles b → u.number ≡ k
      → Status (on_way roles u x y) k R (entries_of k lines) → Status b k R (entries_of k (lines ++ w ∷ []))
  carry_same u c more roles x y b lines w k R is goes count fall keeps e h =
      let old : List Carried = entries_of k lines in
      let r : R ≡ (old ++ c ∷ []) ++ more = h.live e ∙ ap (λ l. old ++ l) goes ∙ sym (append_assoc old (c ∷ []) more) in
      let z = keeps k R (old ++ c ∷ []) h.positive (λ q. (old, refl, r)) (not_pending k u.number R (old ++ c ∷ []) roles fall (omega (arith, e))) in
      subst (λ P. Status b k R P) (sym (entries_same k lines w u.number c is e))
      (record { positive = h.positive; bound = omega (arith, h.bound, count); rest = more; begins = r; live = z.0; waits = z.1 })

  carry_other : (u : Unwinding) (c : Carried) (more : List Carried) (roles : List Role) (x y : ℕ) (b : Outline) (lines : List What) (w : What) (k : ℕ) (R : List Carried)
      → carried w ≡ carries u.number c → b.unwindings ≡ y → Carries u c more roles b → (u.number ≡ k → ⊥)
      → Status (on_way roles u x y) k R (entries_of k lines) → Status b k R (entries_of k (lines ++ w ∷ []))
  carry_other u c more roles x y b lines w k R is count keeps e h =
      let z = keeps k R (entries_of k lines) h.positive (λ q. absurd (e q)) h.waits in
      subst (λ P. Status b k R P) (sym (entries_other k lines w u.number c is e))
      (record { positive = h.positive; bound = omega (arith, h.bound, count); rest = h.rest; begins = h.begins; live = z.0; waits = z.1 })

  carry_line : (roles : List Role) (x y : ℕ) (u : Unwinding) (b : Outline) (lines : List What) (w : What) (c : Carried) (more : List Carried) → Agrees (on_way roles u x y) lines → made_by w ≡ None → carried w ≡ carries u.number c
      → route_in s u.cause roles ≡ c ∷ more → b.unwindings ≡ y → HasOpen s b.under (b.scopes + 1) (opened_after (opened lines) w) b.roles → Fall (above b.under b.unwindings) b.roles → IsUnder b.under b.unwindings → AreUnder b.roles b.unwindings
      → Carries u c more roles b → Agrees b (lines ++ w ∷ [])
  carry_line roles x y u b lines w c more h made is goes count o fall under pending keeps =
      record {
        open_ = subst (λ ss. HasOpen s b.under (b.scopes + 1) ss b.roles) (sym (fold_snoc opened_after [] lines w)) o;
        fall = fall;
        under = under;
        pending = pending;
        unmade = λ k lt. entries_other k lines w u.number c is (λ e. omega (arith, lt, count, e, h.under.1)) ∙ h.unmade k (omega (arith, lt, count));
        each = each_snoc (Stat b (lines ++ w ∷ [])) [] lines w
            (each_map (Stat (on_way roles u x y) lines) (Stat b (lines ++ w ∷ [])) [] lines
            (λ v ss z. elim (cases_eq u.number v.number) [
              | inl e ↦ carry_same u c more roles x y b lines w v.number (route s ss v.cause) is goes count h.fall keeps e z
              | inr e ↦ carry_other u c more roles x y b lines w v.number (route s ss v.cause) is count keeps e z
            ])
            h.each)
            (subst (IfMade (Stat b (lines ++ w ∷ [])) (fold opened_after [] lines)) (sym made) tt);
      }

  -- ---- each line

  open_line : (roles : List Role) (k n : ℕ) (role : Role) (lines : List What) (w : What) → Opens (HasClauses s) (k + 1) role w → Agrees (at_rest roles k n) lines → Agrees (at_rest (role ∷ roles) (k + 1) n) (lines ++ w ∷ [])
  open_line roles k n role lines w (by_try line ways has) h =
      quiet_line (at_rest roles k n) (at_rest (role ∷ roles) (k + 1) n) lines w h refl refl refl
      (open_at (k + 1) (InBody line.0), opened lines, refl, (line.0, refl, has), omega arith, h.open_) (tt, h.fall) tt (tt, h.pending) (λ i R P p l z. (tt, (tt, z)))
  open_line roles k n role lines w (by_once block routine) h =
      quiet_line (at_rest roles k n) (at_rest (role ∷ roles) (k + 1) n) lines w h refl refl refl
      (open_at (k + 1) InOnce, opened lines, refl, refl, omega arith, h.open_) (tt, h.fall) tt (tt, h.pending) (λ i R P p l z. (tt, (tt, z)))
  open_line roles k n role lines w (by_destructor key routine v) h =
      quiet_line (at_rest roles k n) (at_rest (role ∷ roles) (k + 1) n) lines w h refl refl refl
      (open_at (k + 1) InDestructor, opened lines, refl, refl, omega arith, h.open_) (tt, h.fall) tt (tt, h.pending) (λ i R P p l z. (tt, (tt, z)))

  goes_on_at : (n : ℕ) (R P : List Carried) (scope : ℕ) (o : Option Unwinding) (roles : List Role) → IsPendingAt n R P scope o roles → IsAt n R P o roles
  goes_on_at n R P scope None roles h = tt
  goes_on_at n R P scope (Some u) roles h = λ e. (h e).2

  fall_above : (n : ℕ) (o : Option Unwinding) (roles : List Role) → IsBelow (n + 1) o × Fall (bound_by (n + 1) o) roles → Fall (above o n) roles
  fall_above n None roles h = h.1
  fall_above n (Some u) roles h = h.1

  close_line : (roles : List Role) (k n : ℕ) (role : Role) (lines : List What) (w : What) (o : Option Unwinding) → Closes role w o → Agrees (at_rest (role ∷ roles) k n) lines
      → Agrees (record { roles = roles; under = o; scopes = k; unwindings = n }) (lines ++ w ∷ [])
  close_line roles k n role lines w o (by_endtry scope handlers) h =
      quiet_line (at_rest (role ∷ roles) k n) (at_rest roles k n) lines w h refl refl refl
      (close_open s (k + 1) scope (opened lines) role roles h.open_ (ap (λ (x : Open). x.scope) h.open_.3.1)) h.fall.1 tt h.pending.1 (λ i R P p l z. (tt, z.1))
  close_line roles k n role lines w o (by_endcatch scope caught) h =
      quiet_line (at_rest (role ∷ roles) k n) (at_rest roles k n) lines w h refl refl refl
      (close_open s (k + 1) scope (opened lines) role roles h.open_ (ap (λ (x : Open). x.scope) h.open_.3)) h.fall.1 tt h.pending.1 (λ i R P p l z. (tt, z.1))
  close_line roles k n role lines w o (by_endfin scope pending) h =
      quiet_line (at_rest (role ∷ roles) k n) (record { roles = roles; under = pending; scopes = k; unwindings = n }) lines w h refl refl refl
      (has_open s pending (k + 1) (without scope (opened lines)) roles (close_open s (k + 1) scope (opened lines) role roles h.open_ (ap (λ (x : Open). x.scope) h.open_.3)))
      (fall_above n pending roles h.fall) h.pending.0 h.pending.1 (λ i R P p l z. (goes_on_at i R P scope pending roles z.0, z.1))
  close_line roles k n role lines w o (by_done scope block routine) h =
      quiet_line (at_rest (role ∷ roles) k n) (at_rest roles k n) lines w h refl refl refl
      (close_open s (k + 1) scope (opened lines) role roles h.open_ (ap (λ (x : Open). x.scope) h.open_.3)) h.fall.1 tt h.pending.1 (λ i R P p l z. (tt, z.1))
  close_line roles k n role lines w o (by_enddes scope key routine) h =
      quiet_line (at_rest (role ∷ roles) k n) (at_rest roles k n) lines w h refl refl refl
      (close_open s (k + 1) scope (opened lines) role roles h.open_ (ap (λ (x : Open). x.scope) h.open_.3)) h.fall.1 tt h.pending.1 (λ i R P p l z. (tt, z.1))

  set_line : (roles : List Role) (k n : ℕ) (cause : Cause) (lines : List What) (w : What) → SetsOut (n + 1) cause w → Agrees (at_rest roles k n) lines → Agrees (on_way roles (unwinding (n + 1) cause) k (n + 1)) (lines ++ w ∷ [])
  set_line roles k n cause lines w (by_raise x) h = new_line roles k n cause lines w h refl refl (λ ss. refl)
  set_line roles k n cause lines w (by_reraise x) h = new_line roles k n cause lines w h refl refl (λ ss. refl)
  set_line roles k n cause lines w (by_delivery line) h = new_line roles k n cause lines w h refl refl (λ ss. refl)
  set_line roles k n cause lines w (by_exit v) h = new_line roles k n cause lines w h refl refl (λ ss. refl)

  finally_carries : (scope n : ℕ) → 0 < n → carried (what.Finally scope n) ≡ carries n (RunsFinally scope)
  finally_carries scope zero h = absurd (omega (arith, h))
  finally_carries scope (suc n) h = refl

  line_agrees : (a b : Outline) (lines : List What) (w : What) → Change s (HasClauses s) a w b → Agrees a lines → Agrees b (lines ++ w ∷ [])
  line_agrees a b lines w (pauses c) h = quiet_line a a lines w h refl refl refl h.open_ h.fall h.under h.pending (λ i R P p l z. (l, z))
  line_agrees a b lines w (passes roles k n x p) h =
      quiet_line a a lines w h p.making p.carrying refl (subst (λ ss. AreOpen s (k + 1) ss roles) (sym (p.scopes (opened lines))) h.open_) h.fall tt h.pending (λ i R P p l z. (l, z))
  line_agrees a b lines w (sets_out roles k n cause x p) h = set_line roles k n cause lines w p h
  line_agrees a b lines w (opens roles k n role x p) h = open_line roles k n role lines w p h
  line_agrees a b lines w (closes roles k n role x o p) h = close_line roles k n role lines w o p h
  line_agrees a b lines w (finishes roles k n scope body) h =
      quiet_line a b lines w h refl refl refl
      (change_rest s (k + 1) scope (InFinally 0) (opened lines) (Trying scope (Finally body)) (Finishing scope None) roles h.open_
      (ap (λ (x : Open). x.scope) h.open_.3.1) refl) (tt, h.fall.1) tt (tt, h.pending.1) (λ i R P p l z. (tt, (tt, z.1)))
  line_agrees a b lines w (is_caught roles k n scope handlers number x c e) h =
      carry_line (Trying scope (Catches handlers) ∷ roles) k n (unwinding number (Raised x)) b lines w (routes.Catches scope c.line) [] h refl refl
      (ap (λ o. at_handler scope o (route_in s (Raised x) roles)) e) refl
      (change_open s (k + 1) scope InCatch (opened lines) (Trying scope (Catches handlers)) (Catching scope x) roles h.open_ (ap (λ (x : Open). x.scope) h.open_.open_.3.1) refl)
      (tt, fall_more number (n + 1) roles (omega (arith, h.under.1)) h.fall.1) tt (tt, h.pending.1) (λ i R P p l z. (tt, (tt, z.1)))
  line_agrees a b lines w (is_pending roles k n scope body u) h =
      carry_line (Trying scope (Finally body) ∷ roles) k n u b lines w (RunsFinally scope) (route_in s u.cause roles) h refl (finally_carries scope u.number h.under.0) refl refl
      (change_open s (k + 1) scope (InFinally u.number) (opened lines) (Trying scope (Finally body)) (Finishing scope (Some u)) roles h.open_ (ap (λ (x : Open). x.scope) h.open_.open_.3.1) refl)
      (omega (arith, h.under.1), h.fall.1) tt (h.under, h.pending.1) (λ i R P p l z. (tt, (l, z.1)))
  line_agrees a b lines w (undoes roles k n scope block routine u) h =
      carry_line (Doing scope block routine ∷ roles) k n u b lines w (Undoes scope) (route_in s u.cause roles) h refl refl refl refl
      (nothing_in_front s (k + 1) (outside scope (opened lines)) roles (leave_open s (k + 1) scope (opened lines) (Doing scope block routine) roles h.open_ (ap (λ (x : Open). x.scope) h.open_.open_.3)))
      h.fall.1 h.under h.pending.1 (λ i R P p l z. ((λ e. (l e).2), z.1))
  line_agrees a b lines w (is_lost roles k n scope key routine u) h =
      carry_line (Barrier scope key routine ∷ roles) k n u b lines w (Loses scope) [] h refl refl refl refl
      (leave_open s (k + 1) scope (opened lines) (Barrier scope key routine) roles h.open_ (ap (λ (x : Open). x.scope) h.open_.open_.3))
      (fall_more u.number (n + 1) roles (omega (arith, h.under.1)) h.fall.1) tt h.pending.1 (λ i R P p l z. (tt, z.1))
  line_agrees a b lines w (leaves k n u) h =
      carry_line [] k n u b lines w (Leaves (left_value u.cause)) [] h refl refl refl refl refl tt tt tt (λ i R P p l z. (tt, tt))

  drop_agrees : (roles : List Role) (k n : ℕ) (lines : List What) (role : Role) (u : Unwinding) → meeting s role u ≡ Drops → Agrees (on_way (role ∷ roles) u k n) lines → Agrees (on_way roles u k n) lines
  drop_agrees roles k n lines role u e h = record {
    open_ = drop_open s (k + 1) (opened lines) role roles h.open_;
    fall = fall_outside u.number role roles h.fall;
    under = h.under;
    pending = h.pending.1;
    unmade = h.unmade;
    each = each_map (Stat (on_way (role ∷ roles) u k n) lines) (Stat (on_way roles u k n) lines) [] lines
        (λ v ss x. record {
          positive = x.positive;
          bound = x.bound;
          rest = x.rest;
          begins = x.begins;
          live = λ q. x.live q ∙ ap (λ l. entries_of v.number lines ++ l) (drop_route s role u roles e);
          waits = x.waits.1;
        })
        h.each;
  }

  begun_agrees : Agrees (at_rest [] 0 0) []
  begun_agrees = record { open_ = refl; fall = tt; under = tt; pending = tt; unmade = λ k lt. refl; each = tt }

  end_line : (k n : ℕ) (lines : List What) (v : ℤ) → Agrees (at_rest [] k n) lines → Agrees (at_rest [] k n) (lines ++ what.End v ∷ [])
  end_line k n lines v h = quiet_line (at_rest [] k n) (at_rest [] k n) lines (what.End v) h refl refl refl h.open_ tt tt tt (λ i R P p l z. (tt, tt))

  agree_kept : (a : Outline) (lines : List What) → Agrees a lines → keep_to_routes s lines ≡ true
  agree_kept a lines h =
      each_all (Stat a lines) (λ m. is_prefix (entries_of m.number lines) (route_of s m)) [] lines
      (λ u ss ls x. ap (is_prefix (entries_of u.number lines)) x.begins ∙ prefix_of (entries_of u.number lines) x.rest) h.each

  -- What is known of a course.
  abbrev pub AgreesIf : Option Outline → List What → Type 0
  AgreesIf None lines = (a : Outline) × Agrees a lines
  AgreesIf (Some a) lines = Agrees a lines

  pub course_agrees : (o : Option Outline) (all : List What) → Course s (HasClauses s) ⊥ o all → AgreesIf o all
  course_agrees o all never = (at_rest [] 0 0, begun_agrees)
  course_agrees o all begun = begun_agrees
  course_agrees o all (after {a} {b} {lines} {w} c x) = line_agrees a b lines w x (course_agrees (Some a) lines c)
  course_agrees o all (drops {roles} {k} {n} {lines} role u e c) = drop_agrees roles k n lines role u e (course_agrees (Some (on_way (role ∷ roles) u k n)) lines c)
  course_agrees o all (slips {roles} {k} {n} {lines} role may c) = absurd may
  course_agrees o all (ended {k} {n} {lines} v c) = (at_rest [] k n, end_line k n lines v (course_agrees (Some (at_rest [] k n)) lines c))

  kept_if : (o : Option Outline) (lines : List What) → AgreesIf o lines → keep_to_routes s lines ≡ true
  kept_if None lines h = agree_kept h.0 lines h.1
  kept_if (Some a) lines h = agree_kept a lines h

  pub course_kept : (o : Option Outline) (lines : List What) → Course s (HasClauses s) ⊥ o lines → keep_to_routes s lines ≡ true
  course_kept o lines c = kept_if o lines (course_agrees o lines c)
