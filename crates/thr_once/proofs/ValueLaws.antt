-- The values of a key among those of all keys, and after a change.
use Rattle.std.proofs.Common.{◌≡◌, ℕ, ℤ, pos, ◌<◌, ◌≤◌, Bool, true, false, ◌&&◌, cond, eqb, List, [], ◌∷◌, Option, Some, None, refl, sym, arith, ◌∙◌, ap}
use Rattle.std.proofs.lemmas.Bool.Decides.{nat_tests}
use Rattle.std.specs.Option.{unwrap_or}
use Rattle.thr_values.specs.declared.number.Tid.{Tid}
use Rattle.thr_parts.specs.Tables.{Table, names, none, get, at, put, cut, IsCanonical}
use Rattle.thr_parts.specs.Keys.{is_zero, with_value}
use Rattle.thr_parts.proofs.TableLaws.{get_none, get_put, get_cut, at_get, canonical_none, canonical_put, canonical_cut, same_table}
use Rattle.thr_parts.proofs.EntryLaws.{get_cons, get_empty, itself}
use Rattle.thr_once.specs.declared.values.KeyValue.{KeyValue}
use Rattle.thr_once.specs.Values.{place_number, is_of, by_place, stored, values_of, AreNamed}
use Rattle.thr_once.proofs.OrderLaws.{entry_of, same_place}

values_cons : (k : ℕ) (v : KeyValue) (vs : List KeyValue) → values_of k (v ∷ vs) ≡ cond (eqb v.key.0 k) (put (values_of k vs) v.thread.0 v.value) (values_of k vs)
unfolding values_of
values_cons k v vs = refl

values_empty : (k : ℕ) → values_of k [] ≡ none
unfolding values_of
values_empty k = refl

canonical_by : (b : Bool) (m : Table ℤ) (u : ℕ) (x : ℤ) → IsCanonical m → IsCanonical (cond b (put m u x) m)
canonical_by true m u x h = canonical_put m u x h
canonical_by false m u x h = h

pub canonical_values : (k : ℕ) (vs : List KeyValue) → IsCanonical (values_of k vs)
unfolding values_of
canonical_values k [] = canonical_none ℤ
canonical_values k (v ∷ vs) = canonical_by (eqb v.key.0 k) (values_of k vs) v.thread.0 v.value (canonical_values k vs)

-- ---- the value of a thread

get_by : (b : Bool) (m : Table ℤ) (u q : ℕ) (x : ℤ) → get (cond b (put m u x) m) q ≡ cond (b && eqb u q) (Some x) (get m q)
get_by true m u q x = get_put m u q x
get_by false m u q x = refl

get_value : (k q : ℕ) (v : KeyValue) (vs : List KeyValue) → get (values_of k (v ∷ vs)) q ≡ cond (is_of k q v) (Some v.value) (get (values_of k vs) q)
get_value k q v vs = ap (λ (m : Table ℤ). get m q) (values_cons k v vs) ∙ get_by (eqb v.key.0 k) (values_of k vs) v.thread.0 q v.value

-- ---- by its place

-- The value of a key for a thread stands at its place.
get_by_place : (k q : ℕ) (vs : List KeyValue) → k < names → AreNamed vs → get (values_of k vs) q ≡ get (by_place vs) (place_number k q)
get_by_place k q [] h g = ap (λ (m : Table ℤ). get m q) (values_empty k) ∙ get_none q ∙ sym (get_empty (place_number k q))
get_by_place k q (v ∷ vs) h g =
    get_value k q v vs ∙ ap (λ b. cond b (Some v.value) (get (values_of k vs) q)) (sym (same_place k q v.key.0 v.thread.0 h g.0))
    ∙ ap (cond (eqb (place_number v.key.0 v.thread.0) (place_number k q)) (Some v.value)) (get_by_place k q vs h g.1)
    ∙ sym (get_cons (entry_of v) (by_place vs) (place_number k q))

pub at_by_place : (k t : ℕ) (vs : List KeyValue) → k < names → AreNamed vs → at (by_place vs) (place_number k t) (pos 0) ≡ at (values_of k vs) t (pos 0)
at_by_place k t vs h g =
    at_get (by_place vs) (place_number k t) (pos 0) ∙ ap (λ o. unwrap_or o (pos 0)) (sym (get_by_place k t vs h g)) ∙ sym (at_get (values_of k vs) t (pos 0))

other_key : (j k n : ℕ) → j < n → n ≤ k → eqb j k ≡ false
other_key j k n h g = grind (arith, nat_tests)

-- No value is one of a key without a name.
pub unnamed : (k : ℕ) (vs : List KeyValue) → names ≤ k → AreNamed vs → values_of k vs ≡ none
unnamed k [] h g = values_empty k
unnamed k (v ∷ vs) h g = values_cons k v vs ∙ ap (λ b. cond b (put (values_of k vs) v.thread.0 v.value) (values_of k vs)) (other_key v.key.0 k names g.0 h) ∙ unnamed k vs h g.1

-- ---- after a change

here_by : (k t q : ℕ) (x : ℤ) (o : Option ℤ) (m : Table ℤ) (b : Bool) → k < names → get m (place_number k q) ≡ o
    → get (cond b (cut m (place_number k t)) (put m (place_number k t) x)) (place_number k q) ≡ cond (eqb t q) (cond b None (Some x)) o
here_by k t q x o m true h e =
    get_cut m (place_number k t) (place_number k q) ∙ ap (λ c. cond c None (get m (place_number k q))) (same_place k q k t h h ∙ ap (λ c. c && eqb t q) (itself k)) ∙ ap (cond (eqb t q) None) e
here_by k t q x o m false h e =
    get_put m (place_number k t) (place_number k q) x ∙ ap (λ c. cond c (Some x) (get m (place_number k q))) (same_place k q k t h h ∙ ap (λ c. c && eqb t q) (itself k)) ∙ ap (cond (eqb t q) (Some x)) e

with_by : (m : Table ℤ) (t q : ℕ) (x : ℤ) (b : Bool) → get (cond b (cut m t) (put m t x)) q ≡ cond (eqb t q) (cond b None (Some x)) (get m q)
with_by m t q x true = get_cut m t q
with_by m t q x false = get_put m t q x

canonical_with : (m : Table ℤ) (t : ℕ) (x : ℤ) (b : Bool) → IsCanonical m → IsCanonical (cond b (cut m t) (put m t x))
canonical_with m t x true h = canonical_cut m t h
canonical_with m t x false h = canonical_put m t x h

-- The values of the key change as the table does.
pub values_stored : (k : ℕ) (t : Tid) (x : ℤ) (vs new : List KeyValue) → k < names → AreNamed vs → AreNamed new → by_place new ≡ stored (by_place vs) (place_number k t.0) x
    → values_of k new ≡ with_value (values_of k vs) t x
values_stored k t x vs new h g n e =
    same_table (values_of k new) (with_value (values_of k vs) t x) (canonical_values k new) (canonical_with (values_of k vs) t.0 x (is_zero x) (canonical_values k vs)) (λ q.
    get_by_place k q new h n ∙ ap (λ (m : Table ℤ). get m (place_number k q)) e
    ∙ here_by k t.0 q x (get (values_of k vs) q) (by_place vs) (is_zero x) h (sym (get_by_place k q vs h g)) ∙ sym (with_by (values_of k vs) t.0 q x (is_zero x)))

other_by : (k t j q : ℕ) (x : ℤ) (m : Table ℤ) (b : Bool) → k < names → j < names → eqb k j ≡ false
    → get (cond b (cut m (place_number k t)) (put m (place_number k t) x)) (place_number j q) ≡ get m (place_number j q)
other_by k t j q x m true h l e =
    get_cut m (place_number k t) (place_number j q) ∙ ap (λ c. cond c None (get m (place_number j q))) (same_place j q k t l h ∙ ap (λ c. c && eqb t q) e)
other_by k t j q x m false h l e =
    get_put m (place_number k t) (place_number j q) x ∙ ap (λ c. cond c (Some x) (get m (place_number j q))) (same_place j q k t l h ∙ ap (λ c. c && eqb t q) e)

other_named : (k t : ℕ) (x : ℤ) (j : ℕ) (vs new : List KeyValue) → k < names → j < names → AreNamed vs → AreNamed new → by_place new ≡ stored (by_place vs) (place_number k t) x → eqb k j ≡ false
    → values_of j new ≡ values_of j vs
other_named k t x j vs new h l g n e other =
    same_table (values_of j new) (values_of j vs) (canonical_values j new) (canonical_values j vs) (λ q.
    get_by_place j q new l n ∙ ap (λ (m : Table ℤ). get m (place_number j q)) e ∙ other_by k t j q x (by_place vs) (is_zero x) h l other ∙ sym (get_by_place j q vs l g))

named_or_not : (n j : ℕ) (a b : Table ℤ) → (j < n → a ≡ b) → (n ≤ j → a ≡ b) → a ≡ b
named_or_not n j a b h g = grind (arith, nat_tests)

-- The values of other keys stay.
pub other_stored : (k t : ℕ) (x : ℤ) (j : ℕ) (vs new : List KeyValue) → k < names → AreNamed vs → AreNamed new → by_place new ≡ stored (by_place vs) (place_number k t) x → eqb k j ≡ false
    → values_of j new ≡ values_of j vs
other_stored k t x j vs new h g n e other =
    named_or_not names j (values_of j new) (values_of j vs) (λ l. other_named k t x j vs new h l g n e other) (λ past. unnamed j new past n ∙ sym (unnamed j vs past g))
