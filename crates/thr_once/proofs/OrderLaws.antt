-- The order of values, and what is found and changed at a place.
use Rattle.std.proofs.Common.{◌≡◌, ℕ, zero, suc, ℤ, pos, ◌<◌, ◌≤◌, Bool, true, false, ◌&&◌, cond, eqb, ltb, List, [], ◌∷◌, ◌++◌, map, length, take, drop, get_or, set, Some, refl, sym, arith, ◌∙◌, ap, subst}
use Rattle.std.proofs.lemmas.Bool.Decides.{nat_tests}
use Rattle.std.proofs.lemmas.List.{length-map, get_or-map, map-set, map-append, take-map, drop-map}
use Rattle.std.specs.List.{insert, remove}
use Rattle.std.specs.List.Sorted.{IsPartitionedBy, IsPartitionPoint}
use Rattle.std.specs.Option.{unwrap_or}
use Rattle.thr_parts.specs.Tables.{names, at, put, cut, IsCanonical}
use Rattle.thr_parts.proofs.TableLaws.{at_get, canonical_put, canonical_cut}
use Rattle.thr_tables.specs.Places.{place, is_there}
use Rattle.thr_tables.proofs.PlaceLaws.{place_within, rises_from, own_place, is_place, is_before_place, is_past_place, get_there, get_missed, put_there, put_missed, cut_there, cut_missed, not_past, there_at, not_there_at}
use Rattle.thr_once.specs.declared.values.KeyValue.{KeyValue}
use Rattle.thr_once.specs.Values.{place_number, comes_before, is_of, by_place, AreNamed, AreOrdered}

-- No value.
abbrev pub nothing : KeyValue
nothing = record { key = record { 0 = 0 }; thread = record { 0 = 0 }; value = pos 0 }

-- A value at its place.
abbrev pub entry_of : KeyValue → ℕ × ℤ
entry_of v = (place_number v.key.0 v.thread.0, v.value)

-- ---- one value

same_by : (k t j u : ℕ) (b : Bool) → k < 65536 → j < 65536 → eqb u t ≡ b → eqb (place_number j u) (place_number k t) ≡ (eqb j k && b)
same_by k t j u true h g e = grind (arith, nat_tests)
same_by k t j u false h g e = grind (arith, nat_tests)

-- Two places are one for the same key and thread.
pub same_place : (k t j u : ℕ) → k < names → j < names → eqb (place_number j u) (place_number k t) ≡ (eqb j k && eqb u t)
same_place k t j u h g = same_by k t j u (eqb u t) (omega arith) (omega arith) refl

before_by : (k t j u : ℕ) (b : Bool) → k < 65536 → j < 65536 → eqb u t ≡ b → cond b (ltb j k) (ltb u t) ≡ ltb (place_number j u) (place_number k t)
before_by k t j u true h g e = grind (arith, nat_tests)
before_by k t j u false h g e = grind (arith, nat_tests)

pub before_is : (k t : ℕ) (v : KeyValue) → k < names → v.key.0 < names → comes_before k t v ≡ ltb (place_number v.key.0 v.thread.0) (place_number k t)
before_is k t v h g = before_by k t v.key.0 v.thread.0 (eqb v.thread.0 t) (omega arith) (omega arith) refl

-- ---- their places

pub named_at : (vs : List KeyValue) (i : ℕ) (d : KeyValue) → AreNamed vs → i < length vs → (get_or vs i d).key.0 < names
named_at [] i d h l = absurd (omega arith)
named_at (v ∷ vs) zero d h l = h.0
named_at (v ∷ vs) (suc i) d h l = named_at vs i d h.1 (omega arith)

entry_at : (vs : List KeyValue) (i : ℕ) (d : KeyValue) → i < length vs → get_or (by_place vs) i (entry_of d) ≡ entry_of (get_or vs i d)
entry_at vs i d l = get_or-map entry_of vs i d (entry_of d) l

pub as_many : (vs : List KeyValue) → length (by_place vs) ≡ length vs
as_many vs = length-map vs entry_of

-- ---- how many come before

below : (x n : ℕ) → ltb x n ≡ true → x < n
below x n e = grind (arith, nat_tests)

past : (x n : ℕ) → ltb x n ≡ false → n ≤ x
past x n e = grind (arith, nat_tests)

lower : (x y n : ℕ) → x ≤ y → ltb y n ≡ true → ltb x n ≡ true
lower x y n h e = grind (arith, nat_tests)

number_at : (vs : List KeyValue) (i : ℕ) (d : KeyValue) → i < length vs → (get_or (by_place vs) i (entry_of d)).0 ≡ place_number (get_or vs i d).key.0 (get_or vs i d).thread.0
number_at vs i d l = ap (λ (e : ℕ × ℤ). e.0) (entry_at vs i d l)

before_at : (k t : ℕ) (vs : List KeyValue) (i : ℕ) (d : KeyValue) → k < names → AreNamed vs → i < length vs → comes_before k t (get_or vs i d) ≡ ltb (get_or (by_place vs) i (entry_of d)).0 (place_number k t)
before_at k t vs i d h g l = before_is k t (get_or vs i d) h (named_at vs i d g l) ∙ ap (λ n. ltb n (place_number k t)) (sym (number_at vs i d l))

pub parted : (k t : ℕ) (vs : List KeyValue) → k < names → AreOrdered vs → IsPartitionedBy (comes_before k t) vs
parted k t vs h g = λ i j d le l e.
    let count : length (by_place vs) ≡ length vs = as_many vs in
    before_at k t vs i d h g.named (omega arith)
    ∙ lower _ _ (place_number k t) (rises_from (by_place vs) i j (entry_of d) g.rises le (omega arith)) (sym (before_at k t vs j d h g.named l) ∙ e)

pub place_is : (k t : ℕ) (vs : List KeyValue) (i : ℕ) → k < names → AreOrdered vs → i ≤ length vs → IsPartitionPoint (λ v. comes_before k t v ≡ true) (λ v. comes_before k t v ≡ false) vs i
    → i ≡ place (place_number k t) (by_place vs)
place_is k t vs i h g w found =
    let d : KeyValue = nothing in
    let count : length (by_place vs) ≡ length vs = as_many vs in
    is_place (by_place vs) (place_number k t) i (entry_of d) g.rises (omega arith)
    (λ j less. below _ _ (sym (before_at k t vs j d h g.named (omega arith)) ∙ found.0 j d (omega arith) less))
    (λ l. past _ _ (sym (before_at k t vs i d h g.named (omega arith)) ∙ found.1 i d (omega arith) (omega arith)))

-- ---- whether it stands there

same_number : (x y : ℕ) → eqb x y ≡ true → x ≡ y
same_number x y e = grind (arith, nat_tests)

own_number : (x y : ℕ) → x ≡ y → eqb x y ≡ true
own_number x y e = grind (arith, nat_tests)

of_at : (k t : ℕ) (vs : List KeyValue) (i : ℕ) (d : KeyValue) → k < names → AreNamed vs → i < length vs → eqb (get_or (by_place vs) i (entry_of d)).0 (place_number k t) ≡ is_of k t (get_or vs i d)
of_at k t vs i d h g l = ap (λ n. eqb n (place_number k t)) (number_at vs i d l) ∙ same_place k t (get_or vs i d).key.0 (get_or vs i d).thread.0 h (named_at vs i d g l)

pub stands_there : (k t : ℕ) (vs : List KeyValue) (i : ℕ) (d : KeyValue) → k < names → AreOrdered vs → i ≡ place (place_number k t) (by_place vs) → i < length vs → is_of k t (get_or vs i d) ≡ true
    → is_there (place_number k t) (by_place vs) ≡ true
stands_there k t vs i d h g at l is =
    let count : length (by_place vs) ≡ length vs = as_many vs in
    there_at (by_place vs) (place_number k t) i (entry_of d) at (omega arith) (same_number _ _ (of_at k t vs i d h g.named l ∙ is))

not_both : (b : Bool) → b ≡ true → b ≡ false → ⊥
not_both true e f = absurd (cc)
not_both false e f = absurd (cc)

pub stands_not : (k t : ℕ) (vs : List KeyValue) (i : ℕ) (d : KeyValue) → k < names → AreOrdered vs → i ≡ place (place_number k t) (by_place vs) → i < length vs → is_of k t (get_or vs i d) ≡ false
    → is_there (place_number k t) (by_place vs) ≡ false
stands_not k t vs i d h g at l is =
    not_there_at (by_place vs) (place_number k t) i (entry_of d) at (λ e. not_both _ (sym (of_at k t vs i d h g.named l) ∙ own_number _ _ e) is)

pub ends_before : (k t : ℕ) (vs : List KeyValue) (i : ℕ) → i ≡ place (place_number k t) (by_place vs) → length vs ≤ i → is_there (place_number k t) (by_place vs) ≡ false
ends_before k t vs i at l = let count : length (by_place vs) ≡ length vs = as_many vs in not_past (place_number k t) (by_place vs) (omega (arith, at, l, count))

pub place_in : (k t : ℕ) (vs : List KeyValue) (i : ℕ) → i ≡ place (place_number k t) (by_place vs) → i ≤ length vs
place_in k t vs i at = let count : length (by_place vs) ≡ length vs = as_many vs in let w = place_within (place_number k t) (by_place vs) in omega (arith, at, count, w)

-- ---- what stands there

pub value_there : (k t : ℕ) (vs : List KeyValue) (i : ℕ) (d : KeyValue) → AreOrdered vs → i ≡ place (place_number k t) (by_place vs) → i < length vs → is_there (place_number k t) (by_place vs) ≡ true
    → (get_or vs i d).value ≡ at (by_place vs) (place_number k t) (pos 0)
value_there k t vs i d g is l there =
    ap (λ o. unwrap_or o (pos 0)) (ap Some (sym (ap (λ (e : ℕ × ℤ). e.1) (entry_at vs i d l))) ∙ get_there (by_place vs) (place_number k t) i (entry_of d) g.rises is there)
    ∙ sym (at_get (by_place vs) (place_number k t) (pos 0))

pub value_missed : (k t : ℕ) (vs : List KeyValue) → AreOrdered vs → is_there (place_number k t) (by_place vs) ≡ false → pos 0 ≡ at (by_place vs) (place_number k t) (pos 0)
value_missed k t vs g there = ap (λ o. unwrap_or o (pos 0)) (get_missed (by_place vs) (place_number k t) g.rises there) ∙ sym (at_get (by_place vs) (place_number k t) (pos 0))

-- ---- changes

named_take : (vs : List KeyValue) (n : ℕ) → AreNamed vs → AreNamed (take n vs)
named_take [] zero h = tt
named_take [] (suc n) h = tt
named_take (v ∷ vs) zero h = tt
named_take (v ∷ vs) (suc n) h = (h.0, named_take vs n h.1)

named_drop : (vs : List KeyValue) (n : ℕ) → AreNamed vs → AreNamed (drop n vs)
named_drop [] zero h = tt
named_drop [] (suc n) h = tt
named_drop (v ∷ vs) zero h = h
named_drop (v ∷ vs) (suc n) h = named_drop vs n h.1

named_both : (vs ws : List KeyValue) → AreNamed vs → AreNamed ws → AreNamed (vs ++ ws)
named_both [] ws h g = g
named_both (v ∷ vs) ws h g = (h.0, named_both vs ws h.1 g)

named_set : (vs : List KeyValue) (i : ℕ) (v : KeyValue) → v.key.0 < names → AreNamed vs → AreNamed (set vs i v)
named_set [] i v g h = tt
named_set (w ∷ vs) zero v g h = (g, h.1)
named_set (w ∷ vs) (suc i) v g h = (h.0, named_set vs i v g h.1)

by_remove : (vs : List KeyValue) (i : ℕ) → by_place (remove vs i) ≡ remove (by_place vs) i
by_remove vs i =
    map-append entry_of (take i vs) (drop (suc i) vs)
    ∙ ap (λ l. l ++ map entry_of (drop (suc i) vs)) (sym (take-map entry_of i vs)) ∙ ap (λ l. take i (by_place vs) ++ l) (sym (drop-map entry_of (suc i) vs))

by_insert : (vs : List KeyValue) (i : ℕ) (v : KeyValue) → by_place (insert vs i v) ≡ insert (by_place vs) i (entry_of v)
by_insert vs i v =
    map-append entry_of (take i vs) (v ∷ drop i vs)
    ∙ ap (λ l. l ++ entry_of v ∷ map entry_of (drop i vs)) (sym (take-map entry_of i vs)) ∙ ap (λ l. take i (by_place vs) ++ entry_of v ∷ l) (sym (drop-map entry_of i vs))

-- The value that stands there goes.
pub removed_is : (k t : ℕ) (vs : List KeyValue) (i : ℕ) → AreOrdered vs → i ≡ place (place_number k t) (by_place vs) → is_there (place_number k t) (by_place vs) ≡ true
    → by_place (remove vs i) ≡ cut (by_place vs) (place_number k t)
removed_is k t vs i g is there = by_remove vs i ∙ cut_there (by_place vs) (place_number k t) i g.rises is there

pub ordered_removed : (k t : ℕ) (vs : List KeyValue) (i : ℕ) → AreOrdered vs → i ≡ place (place_number k t) (by_place vs) → is_there (place_number k t) (by_place vs) ≡ true → AreOrdered (remove vs i)
ordered_removed k t vs i g is there = record {
  rises = subst IsCanonical (sym (removed_is k t vs i g is there)) (canonical_cut (by_place vs) (place_number k t) g.rises);
  named = named_both (take i vs) (drop (suc i) vs) (named_take vs i g.named) (named_drop vs (suc i) g.named);
}

-- Where none stands nothing changes.
pub missed_is : (k t : ℕ) (vs : List KeyValue) → AreOrdered vs → is_there (place_number k t) (by_place vs) ≡ false → by_place vs ≡ cut (by_place vs) (place_number k t)
missed_is k t vs g there = cut_missed (by_place vs) (place_number k t) g.rises there

-- The value that stands there is replaced, or this one comes in at its place.
pub replaced_is : (vs : List KeyValue) (i : ℕ) (v : KeyValue) → i ≡ place (place_number v.key.0 v.thread.0) (by_place vs) → is_there (place_number v.key.0 v.thread.0) (by_place vs) ≡ true
    → by_place (set vs i v) ≡ put (by_place vs) (place_number v.key.0 v.thread.0) v.value
replaced_is vs i v is there = map-set entry_of vs i v ∙ put_there (by_place vs) (place_number v.key.0 v.thread.0) i v.value is there

pub inserted_is : (vs : List KeyValue) (i : ℕ) (v : KeyValue) → i ≡ place (place_number v.key.0 v.thread.0) (by_place vs) → is_there (place_number v.key.0 v.thread.0) (by_place vs) ≡ false
    → by_place (insert vs i v) ≡ put (by_place vs) (place_number v.key.0 v.thread.0) v.value
inserted_is vs i v is there = by_insert vs i v ∙ put_missed (by_place vs) (place_number v.key.0 v.thread.0) i v.value is there

pub ordered_replaced : (vs : List KeyValue) (i : ℕ) (v : KeyValue) → v.key.0 < names → AreOrdered vs → by_place (set vs i v) ≡ put (by_place vs) (place_number v.key.0 v.thread.0) v.value → AreOrdered (set vs i v)
ordered_replaced vs i v h g is = record {
  rises = subst IsCanonical (sym is) (canonical_put (by_place vs) (place_number v.key.0 v.thread.0) v.value g.rises);
  named = named_set vs i v h g.named;
}

pub ordered_inserted : (vs : List KeyValue) (i : ℕ) (v : KeyValue) → v.key.0 < names → AreOrdered vs → by_place (insert vs i v) ≡ put (by_place vs) (place_number v.key.0 v.thread.0) v.value → AreOrdered (insert vs i v)
ordered_inserted vs i v h g is = record {
  rises = subst IsCanonical (sym is) (canonical_put (by_place vs) (place_number v.key.0 v.thread.0) v.value g.rises);
  named = named_both (take i vs) (v ∷ drop i vs) (named_take vs i g.named) (h, named_drop vs i g.named);
}

-- ---- the place of a value

own_at : (vs : List KeyValue) (i : ℕ) (d : KeyValue) → AreOrdered vs → i < length vs → i ≡ place (place_number (get_or vs i d).key.0 (get_or vs i d).thread.0) (by_place vs)
own_at vs i d g l =
    let count : length (by_place vs) ≡ length vs = as_many vs in
    sym (ap (λ n. place n (by_place vs)) (sym (number_at vs i d l)) ∙ own_place (by_place vs) i (entry_of d) g.rises (omega arith))

itself : (k t : ℕ) → (eqb k k && eqb t t) ≡ true
itself k t = grind (arith, nat_tests)

-- The value of a key for a thread is the one that stands among all.
pub own_value : (vs : List KeyValue) (i : ℕ) (d : KeyValue) → AreOrdered vs → i < length vs
    → (get_or vs i d).value ≡ at (by_place vs) (place_number (get_or vs i d).key.0 (get_or vs i d).thread.0) (pos 0)
own_value vs i d g l =
    let v : KeyValue = get_or vs i d in
    value_there v.key.0 v.thread.0 vs i d g (own_at vs i d g l) l
    (stands_there v.key.0 v.thread.0 vs i d (named_at vs i d g.named l) g (own_at vs i d g l) l (itself v.key.0 v.thread.0))

lower_key : (j k t u : ℕ) → j ≤ k → u ≡ t → place_number j t ≤ place_number k u
lower_key j k t u h e = omega (arith, h, e)

-- A lesser key of the thread has its place there or before.
pub before_key : (j t : ℕ) (vs : List KeyValue) (i : ℕ) (d : KeyValue) → i < length vs → (get_or vs i d).thread.0 ≡ t → j ≤ (get_or vs i d).key.0 → place (place_number j t) (by_place vs) ≤ i
before_key j t vs i d l same h =
    let count : length (by_place vs) ≡ length vs = as_many vs in
    is_past_place (place_number j t) i (entry_of d) (by_place vs) (omega arith)
    (subst (λ n. place_number j t ≤ n) (sym (number_at vs i d l)) (lower_key j (get_or vs i d).key.0 t (get_or vs i d).thread.0 h same))

not_lesser : (x n i p : ℕ) → (x < n → i < p) → p ≤ i → n ≤ x
not_lesser x n i p h g = grind (arith, nat_tests)

later_thread : (j k t u : ℕ) → j < 65536 → k < 65536 → place_number 0 t ≤ place_number k u → (u ≡ t → ⊥) → place_number j t ≤ place_number k u
later_thread j k t u h g le n = grind (arith, nat_tests)

-- So has each key of a thread where a value of another stands behind the thread's first place.
pub before_other : (j t : ℕ) (vs : List KeyValue) (i : ℕ) (d : KeyValue) → j < names → AreOrdered vs → i < length vs → place (place_number 0 t) (by_place vs) ≤ i → ((get_or vs i d).thread.0 ≡ t → ⊥)
    → place (place_number j t) (by_place vs) ≤ i
before_other j t vs i d h g l from n =
    let count : length (by_place vs) ≡ length vs = as_many vs in
    let named : (get_or vs i d).key.0 < names = named_at vs i d g.named l in
    let least : place_number 0 t ≤ (get_or (by_place vs) i (entry_of d)).0 =
    not_lesser _ (place_number 0 t) i (place (place_number 0 t) (by_place vs)) (λ less. is_before_place (place_number 0 t) i (entry_of d) (by_place vs) g.rises (omega arith) less) from in
    is_past_place (place_number j t) i (entry_of d) (by_place vs) (omega arith)
    (subst (λ x. place_number j t ≤ x) (sym (number_at vs i d l))
    (later_thread j (get_or vs i d).key.0 t (get_or vs i d).thread.0 (omega arith) (omega arith) (subst (λ x. place_number 0 t ≤ x) (number_at vs i d l) least) n))
