-- Over each course the unwindings are numbered from 1, and only those that were made are carried.
use Rattle.std.proofs.Common.{◌≡◌, ℕ, zero, suc, ◌+◌, ◌≤◌, ◌<◌, ◌==◌, Bool, true, ◌||◌, List, [], ◌∷◌, ◌++◌, Option, Some, None, refl, sym, ap, ◌∙◌, arith, subst}
use Rattle.std.proofs.lemmas.Bool.Decides.{nat_tests}
use Rattle.std.specs.List.{fold, list_any}
use Rattle.thr_values.specs.declared.history.What.{What}
use Rattle.thr_values.specs.declared.history.What.TheVariants as what
use Rattle.thr_syntax.specs.declared.tree.Script.{Script}
use Rattle.thr_remainder.specs.declared.unwinding.Cause.{Cause}
use Rattle.thr_remainder.specs.declared.unwinding.Unwinding.{Unwinding}
use Rattle.thr_remainder.specs.Places.{Ways}
use Rattle.thr_remainder.specs.Remainders.{Role, Finishing}
use Rattle.thr_laws.specs.Lines.{fits}
use Rattle.thr_laws.specs.Scopes.{Open, opened_after}
use Rattle.thr_laws.specs.Routes.{Carried, Carrying, carries, carried}
use Rattle.thr_laws.specs.Routed.{made_by, Making, with_making, makings_from, are_numbered, with_number, numbers_after, is_among, numbers_count_up, only_made_are_carried}
use Rattle.thr_laws.proofs.ReadingLaws.{both, and_both}
use Rattle.thr_routed.specs.Courses.{Outline, at_rest, on_way, SetsOut, by_raise, by_reraise, by_delivery, by_exit, Opens, by_try, by_once, by_destructor, Closes, by_endtry, by_endcatch, by_endfin, by_done, by_enddes, Change, pauses, passes, sets_out, opens, closes, finishes, is_caught, is_pending, undoes, is_lost, leaves, Course, never, begun, after, drops, slips, ended}

-- ---- how many unwindings lines make

abbrev pub counted : Option Unwinding → ℕ → ℕ
counted None n = n
counted (Some u) n = n + 1

-- How many unwindings these lines make.
abbrev pub count : List What → ℕ
count [] = 0
count (w ∷ lines) = counted (made_by w) (count lines)

counted_twice : (o p : Option Unwinding) (n : ℕ) → counted o (counted p n) ≡ counted p (counted o n)
counted_twice None p n = refl
counted_twice (Some u) None n = refl
counted_twice (Some u) (Some v) n = refl

pub count_snoc : (lines : List What) (w : What) → count (lines ++ w ∷ []) ≡ counted (made_by w) (count lines)
count_snoc [] w = refl
count_snoc (x ∷ lines) w = ap (counted (made_by x)) (count_snoc lines w) ∙ counted_twice (made_by x) (made_by w) (count lines)

-- ---- numbers

abbrev HasNumber : ℕ → Option Unwinding → Type 0
HasNumber n None = Unit {0}
HasNumber n (Some u) = u.number ≡ n

same : (a b : ℕ) → a ≡ b → (a == b) ≡ true
same a b e = grind (arith, nat_tests)

numbered_last : (o : Option Unwinding) (n : ℕ) (scopes : List Open) → HasNumber n o → are_numbered n (with_making o scopes [] []) ≡ true
numbered_last None n scopes h = refl
numbered_last (Some u) n scopes h = and_both (u.number == n) true (same u.number n h) refl

numbered_more : (o : Option Unwinding) (k n c : ℕ) (scopes : List Open) (l m : List What) (old new : List Making) → k ≡ n + counted o c
    → ((i : ℕ) → k ≡ i + c → are_numbered i old ≡ true → are_numbered i new ≡ true)
    → are_numbered n (with_making o scopes l old) ≡ true → are_numbered n (with_making o scopes m new) ≡ true
numbered_more None k n c scopes l m old new e more h = more n e h
numbered_more (Some u) k n c scopes l m old new e more h =
    let b = both (u.number == n) (are_numbered (n + 1) old) h in and_both (u.number == n) (are_numbered (n + 1) new) b.0 (more (n + 1) (omega (arith, e)) b.1)

empty_count : (n k : ℕ) → k ≡ n + 0 → k ≡ n
empty_count n k e = omega (arith, e)

numbered_snoc : (lines : List What) (w : What) (scopes : List Open) (k n : ℕ) → HasNumber k (made_by w) → k ≡ n + count lines
    → are_numbered n (makings_from scopes lines) ≡ true → are_numbered n (makings_from scopes (lines ++ w ∷ [])) ≡ true
numbered_snoc [] w scopes k n h e old = numbered_last (made_by w) n scopes (subst (λ i. HasNumber i (made_by w)) (empty_count n k e) h)
numbered_snoc (x ∷ lines) w scopes k n h e old =
    numbered_more (made_by x) k n (count lines) scopes lines (lines ++ w ∷ []) (makings_from (opened_after scopes x) lines) (makings_from (opened_after scopes x) (lines ++ w ∷ [])) e
    (λ i f. numbered_snoc lines w (opened_after scopes x) k i h f) old

-- ---- along the lines

pub fits_snoc : {A B : Type 0} (next : A → B → A) (test : A → B → Bool) (a : A) (lines : List B) (w : B) → fits next test a lines ≡ true → test (fold next a lines) w ≡ true
    → fits next test a (lines ++ w ∷ []) ≡ true
fits_snoc next test a [] w h t = and_both (test a w) true t refl
fits_snoc next test a (x ∷ lines) w h t =
    let b = both (test a x) (fits next test (next a x) lines) h in
    and_both (test a x) (fits next test (next a x) (lines ++ w ∷ [])) b.0 (fits_snoc next test (next a x) lines w b.1 t)

pub fold_snoc : {A B : Type 0} (next : A → B → A) (a : A) (lines : List B) (w : B) → fold next a (lines ++ w ∷ []) ≡ next (fold next a lines) w
fold_snoc next a [] w = refl
fold_snoc next a (x ∷ lines) w = fold_snoc next (next a x) lines w

-- ---- what is made

-- The numbers that were made.
abbrev numbers : List What → List ℕ
numbers lines = fold numbers_after [] lines

abbrev has_number : ℕ → List ℕ → Bool
has_number k numbers = list_any (λ n. n == k) numbers

-- The number of what is there is one of the first n.
abbrev pub IsOne : ℕ → Option Unwinding → Type 0
IsOne n None = Unit {0}
IsOne n (Some u) = (0 < u.number) × (u.number ≤ n)

abbrev pub pending_of : Role → Option Unwinding
pending_of (Finishing scope pending) = pending
pending_of _ = None

-- So are those of the unwindings that are pending.
abbrev pub AreOnes : ℕ → List Role → Type 0
AreOnes n [] = Unit {0}
AreOnes n (role ∷ roles) = IsOne n (pending_of role) × AreOnes n roles

one_more : (n : ℕ) (o : Option Unwinding) → IsOne n o → IsOne (n + 1) o
one_more n None h = tt
one_more n (Some u) h = (h.0, omega (arith, h.1))

ones_more : (n : ℕ) (roles : List Role) → AreOnes n roles → AreOnes (n + 1) roles
ones_more n [] h = tt
ones_more n (role ∷ roles) h = (one_more n (pending_of role) h.0, ones_more n roles h.1)

-- Exactly the first n were made so far.
abbrev AreMade : ℕ → List What → Type 0
AreMade n lines = (k : ℕ) → 0 < k → k ≤ n → has_number k (numbers lines) ≡ true

record HasCount (a : Outline) (lines : List What) : Type 0 where
  count_is : count lines ≡ a.unwindings
  made : AreMade a.unwindings lines
  under : IsOne a.unwindings a.under
  pending : AreOnes a.unwindings a.roles

abbrev HasCountOf : Option Outline → List What → Type 0
HasCountOf None lines = Unit {0}
HasCountOf (Some a) lines = HasCount a lines

record Counted (o : Option Outline) (lines : List What) : Type 0 where
  numbered : are_numbered 1 (makings_from [] lines) ≡ true
  carrying : only_made_are_carried lines ≡ true
  state : HasCountOf o lines

-- ---- one line

-- The carried number was made.
abbrev IsMade : List What → Option Carrying → Type 0
IsMade lines o = is_among (numbers lines) o ≡ true

none_made : (lines : List What) (o : Option Carrying) → o ≡ None → IsMade lines o
none_made lines o e = ap (is_among (numbers lines)) e

made_one : (n : ℕ) (lines : List What) (u : Unwinding) (entry : Carried) → AreMade n lines → IsOne n (Some u) → IsMade lines (carries u.number entry)
made_one n lines u entry made h = made u.number h.0 h.1

made_finally : (n : ℕ) (lines : List What) (k scope : ℕ) → AreMade n lines → k ≤ n → IsMade lines (carried (what.Finally scope k))
made_finally n lines zero scope made h = refl
made_finally n lines (suc k) scope made h = made (suc k) (omega arith) h

quiet_numbers : (w : What) (lines : List What) → made_by w ≡ None → numbers (lines ++ w ∷ []) ≡ numbers lines
quiet_numbers w lines e = fold_snoc numbers_after [] lines w ∙ ap (with_number (numbers lines)) e

-- A line that makes no unwinding.
quiet_line : (a b : Outline) (lines : List What) (w : What) → Counted (Some a) lines → made_by w ≡ None → IsMade lines (carried w)
    → b.unwindings ≡ a.unwindings → IsOne a.unwindings b.under → AreOnes a.unwindings b.roles → Counted (Some b) (lines ++ w ∷ [])
quiet_line a b lines w h e among same_count under pending = record {
  numbered = numbered_snoc lines w [] (count lines + 1) 1 (subst (HasNumber (count lines + 1)) (sym e) tt) (omega arith) h.numbered;
  carrying = fits_snoc numbers_after _ [] lines w h.carrying among;
  state = record {
    count_is = count_snoc lines w ∙ ap (λ o. counted o (count lines)) e ∙ h.state.count_is ∙ sym same_count;
    made = subst (λ n. AreMade n (lines ++ w ∷ [])) (sym same_count) (λ k p q. ap (has_number k) (quiet_numbers w lines e) ∙ h.state.made k p q);
    under = subst (λ n. IsOne n b.under) (sym same_count) under;
    pending = subst (λ n. AreOnes n b.roles) (sym same_count) pending;
  };
}

among_new : (k n : ℕ) (ns : List ℕ) → k ≤ n + 1 → (k ≤ n → has_number k ns ≡ true) → (((n + 1) == k) || has_number k ns) ≡ true
among_new k n ns h old = grind (arith, nat_tests)

new_line : (roles : List Role) (k n : ℕ) (lines : List What) (w : What) (u : Unwinding) → u.number ≡ n + 1 → made_by w ≡ Some u → carried w ≡ None → Counted (Some (at_rest roles k n)) lines
    → Counted (Some (on_way roles u k (n + 1))) (lines ++ w ∷ [])
new_line roles k n lines w u is made none h =
    let new : numbers (lines ++ w ∷ []) ≡ u.number ∷ numbers lines = fold_snoc numbers_after [] lines w ∙ ap (with_number (numbers lines)) made in record {
      numbered = numbered_snoc lines w [] (n + 1) 1 (subst (HasNumber (n + 1)) (sym made) is) (omega (arith, h.state.count_is)) h.numbered;
      carrying = fits_snoc numbers_after _ [] lines w h.carrying (none_made lines (carried w) none);
      state = record {
        count_is = count_snoc lines w ∙ ap (λ o. counted o (count lines)) made ∙ ap (λ i. i + 1) h.state.count_is;
        made = λ i p q. ap (has_number i) (new ∙ ap (λ (j : ℕ). j ∷ numbers lines) is) ∙ among_new i n (numbers lines) q (h.state.made i p);
        under = (omega (arith, is), omega (arith, is));
        pending = ones_more n roles h.state.pending;
      };
    }

sets_line : (roles : List Role) (k n : ℕ) (cause : Cause) (lines : List What) (w : What) → SetsOut (n + 1) cause w → Counted (Some (at_rest roles k n)) lines
    → Counted (Some (on_way roles (record { number = n + 1; cause = cause }) k (n + 1))) (lines ++ w ∷ [])
sets_line roles k n cause lines w (by_raise x) h = new_line roles k n lines w _ refl refl refl h
sets_line roles k n cause lines w (by_reraise x) h = new_line roles k n lines w _ refl refl refl h
sets_line roles k n cause lines w (by_delivery line) h = new_line roles k n lines w _ refl refl refl h
sets_line roles k n cause lines w (by_exit v) h = new_line roles k n lines w _ refl refl refl h

opens_line : (HasWays : ℕ → Ways → Type 0) (roles : List Role) (k n : ℕ) (role : Role) (lines : List What) (w : What) → Opens HasWays (k + 1) role w → Counted (Some (at_rest roles k n)) lines
    → Counted (Some (at_rest (role ∷ roles) (k + 1) n)) (lines ++ w ∷ [])
opens_line HasWays roles k n role lines w (by_try line ways has) h = quiet_line (at_rest roles k n) _ lines w h refl refl refl tt (tt, h.state.pending)
opens_line HasWays roles k n role lines w (by_once block routine) h = quiet_line (at_rest roles k n) _ lines w h refl refl refl tt (tt, h.state.pending)
opens_line HasWays roles k n role lines w (by_destructor key routine v) h = quiet_line (at_rest roles k n) _ lines w h refl refl refl tt (tt, h.state.pending)

closes_line : (roles : List Role) (k n : ℕ) (role : Role) (lines : List What) (w : What) (o : Option Unwinding) → Closes role w o → Counted (Some (at_rest (role ∷ roles) k n)) lines
    → Counted (Some (record { roles = roles; under = o; scopes = k; unwindings = n })) (lines ++ w ∷ [])
closes_line roles k n role lines w o (by_endtry scope handlers) h = quiet_line (at_rest (role ∷ roles) k n) _ lines w h refl refl refl tt h.state.pending.1
closes_line roles k n role lines w o (by_endcatch scope caught) h = quiet_line (at_rest (role ∷ roles) k n) _ lines w h refl refl refl tt h.state.pending.1
closes_line roles k n role lines w o (by_endfin scope pending) h = quiet_line (at_rest (role ∷ roles) k n) _ lines w h refl refl refl h.state.pending.0 h.state.pending.1
closes_line roles k n role lines w o (by_done scope block routine) h = quiet_line (at_rest (role ∷ roles) k n) _ lines w h refl refl refl tt h.state.pending.1
closes_line roles k n role lines w o (by_enddes scope key routine) h = quiet_line (at_rest (role ∷ roles) k n) _ lines w h refl refl refl tt h.state.pending.1

module _ (s : Script) (HasWays : ℕ → Ways → Type 0) (MayReturn : Type 0) where
  line_counted : (a b : Outline) (lines : List What) (w : What) → Change s HasWays a w b → Counted (Some a) lines → Counted (Some b) (lines ++ w ∷ [])
  line_counted a b lines w (pauses c) h = quiet_line a a lines w h refl refl refl h.state.under h.state.pending
  line_counted a b lines w (passes roles k n x p) h = quiet_line a a lines w h p.making (none_made lines (carried w) p.carrying) refl tt h.state.pending
  line_counted a b lines w (sets_out roles k n cause x p) h = sets_line roles k n cause lines w p h
  line_counted a b lines w (opens roles k n role x p) h = opens_line HasWays roles k n role lines w p h
  line_counted a b lines w (closes roles k n role x o p) h = closes_line roles k n role lines w o p h
  line_counted a b lines w (finishes roles k n scope body) h = quiet_line a b lines w h refl refl refl tt (tt, h.state.pending.1)
  line_counted a b lines w (is_caught roles k n scope handlers number x c e) h = quiet_line a b lines w h refl (h.state.made number h.state.under.0 h.state.under.1) refl tt (tt, h.state.pending.1)
  line_counted a b lines w (is_pending roles k n scope body u) h = quiet_line a b lines w h refl (made_finally n lines u.number scope h.state.made h.state.under.1) refl tt (h.state.under, h.state.pending.1)
  line_counted a b lines w (undoes roles k n scope block routine u) h = quiet_line a b lines w h refl (h.state.made u.number h.state.under.0 h.state.under.1) refl h.state.under h.state.pending.1
  line_counted a b lines w (is_lost roles k n scope key routine u) h = quiet_line a b lines w h refl (h.state.made u.number h.state.under.0 h.state.under.1) refl tt h.state.pending.1
  line_counted a b lines w (leaves k n u) h = quiet_line a b lines w h refl (h.state.made u.number h.state.under.0 h.state.under.1) refl tt tt

  counted_course : (o : Option Outline) (all : List What) → Course s HasWays MayReturn o all → Counted o all
  counted_course o all never = record { numbered = refl; carrying = refl; state = tt }
  counted_course o all begun = record { numbered = refl; carrying = refl; state = record { count_is = refl; made = λ k p q. absurd (omega (arith, p, q)); under = tt; pending = tt } }
  counted_course o all (after {a} {b} {lines} {w} c x) = line_counted a b lines w x (counted_course (Some a) lines c)
  counted_course o all (drops {roles} {k} {n} {lines} role u e c) =
      let h = counted_course (Some (on_way (role ∷ roles) u k n)) lines c in record {
        numbered = h.numbered;
        carrying = h.carrying;
        state = record { count_is = h.state.count_is; made = h.state.made; under = h.state.under; pending = h.state.pending.1 };
      }
  counted_course o all (slips {roles} {k} {n} {lines} role may c) =
      let h = counted_course (Some (at_rest (role ∷ roles) k n)) lines c in record {
        numbered = h.numbered;
        carrying = h.carrying;
        state = record { count_is = h.state.count_is; made = h.state.made; under = tt; pending = h.state.pending.1 };
      }
  counted_course o all (ended {k} {n} {lines} v c) =
      let h = counted_course (Some (at_rest [] k n)) lines c in
      let q : Counted (Some (at_rest [] k n)) (lines ++ what.End v ∷ []) = quiet_line (at_rest [] k n) (at_rest [] k n) lines (what.End v) h refl refl refl tt tt in record {
        numbered = q.numbered;
        carrying = q.carrying;
        state = tt;
      }

  pub course_numbered : (o : Option Outline) (lines : List What) → Course s HasWays MayReturn o lines → numbers_count_up lines ≡ true
  course_numbered o lines c = (counted_course o lines c).numbered

  pub course_made : (o : Option Outline) (lines : List What) → Course s HasWays MayReturn o lines → only_made_are_carried lines ≡ true
  course_made o lines c = (counted_course o lines c).carrying
