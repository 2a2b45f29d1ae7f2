-- Tables with one entry more or less, and places in them.
use Rattle.std.proofs.Common.{◌≡◌, ℕ, suc, ◌<◌, ◌≤◌, Bool, true, false, not, cond, eqb, ltb, List, [], ◌∷◌, length, Option, Some, None, refl, sym, arith, ◌∙◌, ap, subst}
use Rattle.std.proofs.lemmas.Bool.Decides.{nat_tests}
use Rattle.std.specs.Prelude.{◌||◌}
use Rattle.std.specs.List.{filter}
use Rattle.std.specs.Option.{is_some}
use Rattle.thr_parts.specs.Tables.{Table, get, has, put, cut, IsCanonical}
use Rattle.thr_parts.proofs.TableLaws.{has_get, get_put, get_cut, canonical_put, canonical_cut, same_table}
use Rattle.thr_parts.proofs.EntryLaws.{get_cons, get_empty, cut_is}
use Rattle.thr_parts.proofs.LengthLaws.{not_longer}
use Rattle.thr_tables.specs.Places.{has_place}

same-number : (k q : ℕ) → eqb k q ≡ true → k ≡ q
same-number k q e = grind (arith, nat_tests)

other-number : (k q : ℕ) → (k ≡ q → ⊥) → eqb k q ≡ false
other-number k q h = grind (arith, nat_tests)

-- ---- two entries

either-order : {A : Type 0} (b c : Bool) (x y z : A) → (b ≡ true → c ≡ true → ⊥) → cond b x (cond c y z) ≡ cond c y (cond b x z)
either-order true true x y z h = absurd (h refl refl)
either-order true false x y z h = refl
either-order false true x y z h = refl
either-order false false x y z h = refl

-- What is put at two numbers may be put in either order.
pub put-swap : {A : Type 0} (m : Table A) (k q : ℕ) (v w : A) → IsCanonical m → (k ≡ q → ⊥) → put (put m k v) q w ≡ put (put m q w) k v
put-swap m k q v w h apart =
    same_table _ _ (canonical_put (put m k v) q w (canonical_put m k v h)) (canonical_put (put m q w) k v (canonical_put m q w h)) (λ p.
    get_put (put m k v) q p w ∙ ap (cond (eqb q p) (Some w)) (get_put m k p v)
    ∙ either-order (eqb q p) (eqb k p) (Some w) (Some v) (get m p) (λ e f. apart (same-number k p f ∙ sym (same-number q p e)))
    ∙ sym (get_put (put m q w) k p v ∙ ap (cond (eqb k p) (Some v)) (get_put m q p w)))

gone-twice : {A : Type 0} (b : Bool) (v : A) (o : Option A) → cond b None (cond b (Some v) o) ≡ cond b None o
gone-twice true v o = refl
gone-twice false v o = refl

-- What is cut may have been put there.
pub cut-put : {A : Type 0} (m : Table A) (k : ℕ) (v : A) → IsCanonical m → cut (put m k v) k ≡ cut m k
cut-put m k v h =
    same_table _ _ (canonical_cut (put m k v) k (canonical_put m k v h)) (canonical_cut m k h) (λ p.
    get_cut (put m k v) k p ∙ ap (cond (eqb k p) None) (get_put m k p v) ∙ gone-twice (eqb k p) v (get m p) ∙ sym (get_cut m k p))

-- ---- what is there

-- Something stands where it was put.
pub get-here : {A : Type 0} (m : Table A) (k : ℕ) (v : A) → get (put m k v) k ≡ Some v
get-here m k v = get_put m k k v ∙ ap (λ (b : Bool). cond b (Some v) (get m k)) (same k)
  where
    same : (k : ℕ) → eqb k k ≡ true
    same k = grind (arith, nat_tests)

pub has-some : {A : Type 0} (m : Table A) (k : ℕ) (v : A) → get m k ≡ Some v → has m k ≡ true
has-some m k v e = has_get m k ∙ ap is_some e

some-in : {A : Type 0} (o : Option A) → is_some o ≡ true → (v : A) × (o ≡ Some v)
some-in None h = absurd (cc)
some-in (Some v) h = (v, refl)

pub some-has : {A : Type 0} (m : Table A) (k : ℕ) → has m k ≡ true → (v : A) × (get m k ≡ Some v)
some-has m k h = some-in (get m k) (sym (has_get m k) ∙ h)

-- ---- places

filter-shorter : {A : Type 0} (p : A → Bool) (xs : List A) → length (filter p xs) ≤ length xs
filter-shorter p [] = omega arith
filter-shorter p (x ∷ xs) =
    let rest : length (filter p xs) ≤ length xs = filter-shorter p xs in
    elim (p x) as (λ b. length (cond b (x ∷ filter p xs) (filter p xs)) ≤ suc (length xs)) [ true ↦ omega (arith, rest) | false ↦ omega (arith, rest) ]

abbrev others : {A : Type 0} → ℕ → ℕ × A → Bool
others k e = not (eqb k e.0)

turned-test : (k n : ℕ) → eqb k n ≡ eqb n k
turned-test k n = grind (arith, nat_tests)

one-head : {A : Type 0} (k : ℕ) (e : ℕ × A) (es : Table A) (b : Bool) → eqb e.0 k ≡ b → length (filter (others k) es) ≤ length es
    → (is_some (get es k) ≡ true → length (filter (others k) es) < length es) → is_some (cond b (Some e.1) (get es k)) ≡ true
    → length (cond (not b) (e ∷ filter (others k) es) (filter (others k) es)) < suc (length es)
one-head k e es true is at_most rest h = omega (arith, at_most)
one-head k e es false is at_most rest h = omega (arith, rest h)

one-less : {A : Type 0} (k : ℕ) (es : Table A) → is_some (get es k) ≡ true → length (filter (others k) es) < length es
one-less k [] h = absurd (cc (get_empty k))
one-less k (e ∷ es) h =
    subst (λ (b : Bool). length (cond (not b) (e ∷ filter (others k) es) (filter (others k) es)) < suc (length es)) (turned-test e.0 k)
    (one-head k e es (eqb e.0 k) refl (filter-shorter (others k) es) (one-less k es) (sym (ap is_some (get_cons e es k)) ∙ h))

-- A table is shorter without what stands at a number.
fewer : {A : Type 0} (m : Table A) (k : ℕ) → has m k ≡ true → length (cut m k) < length m
fewer m k h = subst (λ (l : Table _). length l < length m) (sym (cut_is m k)) (one-less k m (sym (has_get m k) ∙ h))

not-at : {A : Type 0} (b : Bool) (o : Option A) → b ≡ false → is_some o ≡ true → is_some (cond b None o) ≡ true
not-at true o e h = absurd (cc)
not-at false o e h = h

has-else : {A : Type 0} (n : Table A) (t q : ℕ) → (t ≡ q → ⊥) → has n q ≡ true → has (cut n t) q ≡ true
has-else n t q apart h = has_get (cut n t) q ∙ ap is_some (get_cut n t q) ∙ not-at (eqb t q) (get n q) (other-number t q apart) (sym (has_get n q) ∙ h)

room-by : (n k l most : ℕ) → n ≤ k → k < l → l ≤ most → ltb n most ≡ true
room-by n k l most a b c = grind (arith, nat_tests)

differ : {A : Type 0} (m : Table A) (t q : ℕ) → has m t ≡ false → has m q ≡ true → t ≡ q → ⊥
differ m t q gone here same = absurd (cc (ap (has m) same))

-- There is a place for a number of another table that isn't longer than the most, where all numbers are that table's.
pub place-among : {A B : Type 0} (m : Table A) (n : Table B) (t most : ℕ) → IsCanonical m → has n t ≡ true → length n ≤ most → ((q : ℕ) → has m q ≡ true → has n q ≡ true) → has_place m t most ≡ true
place-among {A} {B} m n t most h at few among = by (has m t) refl
  where
    by : (b : Bool) → has m t ≡ b → (b || ltb (length m) most) ≡ true
    by true e = refl
    by false e =
        room-by (length m) (length (cut n t)) (length n) most (not_longer m (cut n t) h (λ q is. has-else n t q (differ m t q e is) (among q is))) (fewer n t at) few
