-- Which destructor is called next.
use Rattle.std.proofs.Common.{◌≡◌, ℕ, pos, ◌+◌, ◌<◌, ◌≤◌, Bool, true, false, ◌&&◌, cond, eqb, List, [], ◌∷◌, length, get_or, Option, Some, None, IfSome, is_some, refl, sym, arith, ◌∙◌, ap}
use Rattle.std.proofs.lemmas.Bool.Decides.{nat_tests}
use Rattle.std.specs.Option.{option_map, option_or}
use Rattle.std.specs.Ordering.{nat_cmp}
use Rattle.std.specs.FinMap.Entries as entries
use Rattle.thr_values.specs.declared.number.Tid.{Tid}
use Rattle.thr_values.specs.declared.number.NameId.{NameId}
use Rattle.thr_parts.specs.Tables.{Table, names, get, at, has, IsCanonical}
use Rattle.thr_parts.specs.Keys.{Key, DestructorCall, call_for, first_call}
use Rattle.thr_parts.proofs.EntryLaws.{both_true, get_cons, get_empty, get_first, get_behind, above}
use Rattle.thr_once.specs.declared.values.KeyValue.{KeyValue}
use Rattle.thr_tables.specs.Places.{place, is_there}
use Rattle.thr_tables.proofs.PlaceLaws.{places_rise}
use Rattle.thr_once.specs.Values.{place_number, is_of, by_place, values_of, key_of, keys_of, AreOrdered, IsKept, call_at, called_at}
use Rattle.thr_once.proofs.OrderLaws.{named_at, stands_not, ends_before, value_missed, own_value, before_key, before_other}
use Rattle.thr_once.proofs.ValueLaws.{at_by_place}
use Rattle.thr_once.proofs.KeyLaws.{get_keys, has_keys, canonical_keys}

same_number : (x y : ℕ) → eqb x y ≡ true → x ≡ y
same_number x y e = grind (arith, nat_tests)

first_cons : (t : Tid) (e : ℕ × Key) (es : Table Key) → first_call t (e ∷ es) ≡ option_or (call_for t e) (first_call t es)
unfolding first_call
first_cons t e es = refl

first_empty : (t : Tid) → first_call t [] ≡ None
unfolding first_call
first_empty t = refl

below_parts : (e : ℕ × Key) (es : Table Key) → IsCanonical (e ∷ es) → (entries.below_all nat_cmp e.0 es ≡ true) × (IsCanonical es)
below_parts e es h = both_true _ _ h

head_call : (t : Tid) (e : ℕ × Key) (es : Table Key) → call_at e.0 t (get (e ∷ es) e.0) ≡ call_for t e
head_call t e es = ap (call_at e.0 t) (get_first e es)

-- A key that has no call has none among those behind the first.
behind : (t : Tid) (e : ℕ × Key) (es : Table Key) (j : ℕ) (o : Option Key) → entries.below_all nat_cmp e.0 es ≡ true → get es j ≡ o → call_at j t (get (e ∷ es) j) ≡ None → call_at j t o ≡ None
behind t e es j None below is h = refl
behind t e es j (Some v) below is h = sym (ap (call_at j t) (get_behind e es j v below is)) ∙ h

none_or : {A : Type 0} (o p : Option A) → o ≡ None → option_or o p ≡ p
none_or o p e = ap (λ x. option_or x p) e

some_or : {A : Type 0} (o p : Option A) (c : A) → o ≡ Some c → option_or o p ≡ Some c
some_or o p c e = ap (λ x. option_or x p) e

no_call : (t : Tid) (m : Table Key) → IsCanonical m → ((j : ℕ) → call_at j t (get m j) ≡ None) → first_call t m ≡ None
no_call t [] h calls = first_empty t
no_call t (e ∷ es) h calls =
    let parts = below_parts e es h in
    first_cons t e es ∙ none_or (call_for t e) (first_call t es) (sym (head_call t e es) ∙ calls e.0)
    ∙ no_call t es parts.1 (λ j. behind t e es j (get es j) parts.0 refl (calls j))

later : (t : Tid) (e : ℕ × Key) (es : Table Key) (k : ℕ) (c : DestructorCall) (o : Option Key) → entries.below_all nat_cmp e.0 es ≡ true → get es k ≡ o → call_at k t o ≡ Some c → e.0 < k
later t e es k c None below is h = absurd (cc)
later t e es k c (Some v) below is h = above e.0 k v es below is

first_by : (t : Tid) (e : ℕ × Key) (es : Table Key) (k : ℕ) (c : DestructorCall) (b : Bool) → eqb e.0 k ≡ b → entries.below_all nat_cmp e.0 es ≡ true
    → ((j : ℕ) → j < k → call_at j t (get (e ∷ es) j) ≡ None) → call_at k t (get (e ∷ es) k) ≡ Some c → (call_at k t (get es k) ≡ Some c → first_call t es ≡ Some c)
    → option_or (call_for t e) (first_call t es) ≡ Some c
first_by t e es k c true at below calls is rest =
    some_or (call_for t e) (first_call t es) c (sym (head_call t e es) ∙ ap (λ n. call_at n t (get (e ∷ es) n)) (same_number e.0 k at) ∙ is)
first_by t e es k c false at below calls is rest =
    let here : call_at k t (get es k) ≡ Some c = sym (ap (call_at k t) (get_cons e es k ∙ ap (λ b. cond b (Some e.1) (get es k)) at)) ∙ is in
    none_or (call_for t e) (first_call t es) (sym (head_call t e es) ∙ calls e.0 (later t e es k c (get es k) below refl here)) ∙ rest here

-- The key of least number that has a call is the first.
first_is : (t : Tid) (m : Table Key) (k : ℕ) (c : DestructorCall) → IsCanonical m → ((j : ℕ) → j < k → call_at j t (get m j) ≡ None) → call_at k t (get m k) ≡ Some c → first_call t m ≡ Some c
first_is t [] k c h calls is = absurd (cc (ap (call_at k t) (get_empty {A = Key} k)))
first_is t (e ∷ es) k c h calls is =
    let parts = below_parts e es h in
    first_cons t e es ∙ first_by t e es k c (eqb e.0 k) refl parts.0 calls is (λ here.
    first_is t es k c parts.1 (λ j less. behind t e es j (get es j) parts.0 refl (calls j less)) here)

-- ---- the call of one key

-- The call of a key for a thread, by its destructor and the value at its place.
abbrev pub key_call : Table (Option NameId) → List KeyValue → Tid → ℕ → Option DestructorCall
key_call made vs t k = called_at k (get made k) (at (by_place vs) (place_number k t.0) (pos 0))

call_by : (k : ℕ) (t : Tid) (vs : List KeyValue) (o : Option (Option NameId)) → call_at k t (option_map (λ d. key_of k d vs) o) ≡ called_at k o (at (values_of k vs) t.0 (pos 0))
call_by k t vs None = refl
call_by k t vs (Some d) = refl

call_is : (made : Table (Option NameId)) (vs : List KeyValue) (t : Tid) (k : ℕ) → k < names → AreOrdered vs → call_at k t (get (keys_of made vs) k) ≡ key_call made vs t k
call_is made vs t k h g = ap (call_at k t) (get_keys made vs k) ∙ call_by k t vs (get made k) ∙ ap (called_at k (get made k)) (sym (at_by_place k t.0 vs h g.named))

no_call_of_zero : (k : ℕ) (o : Option (Option NameId)) → called_at k o (pos 0) ≡ None
no_call_of_zero k None = refl
no_call_of_zero k (Some None) = refl
no_call_of_zero k (Some (Some routine)) = refl

missed_call : (made : Table (Option NameId)) (vs : List KeyValue) (t : Tid) (k : ℕ) → AreOrdered vs → is_there (place_number k t.0) (by_place vs) ≡ false → key_call made vs t k ≡ None
missed_call made vs t k g missed = ap (called_at k (get made k)) (sym (value_missed k t.0 vs g missed)) ∙ no_call_of_zero k (get made k)

-- ---- the calls of a thread, by its values in turn

-- No key of which the place comes before this one has a call.
abbrev pub HaveNoCall : Table (Option NameId) → List KeyValue → Tid → ℕ → Type 0
HaveNoCall made vs t i = (j : ℕ) → j < names → place (place_number j t.0) (by_place vs) < i → key_call made vs t j ≡ None

-- What the passes over values keep: none of the thread's keys has a call that was passed.
pub record Passed (made : Table (Option NameId)) (vs : List KeyValue) (t : Tid) (i : ℕ) : Type 0 where
  pub from : place (place_number 0 t.0) (by_place vs) ≤ i
  pub calls : HaveNoCall made vs t i

not_lesser : (k t : ℕ) → place_number 0 t ≤ place_number k t
not_lesser k t = omega arith

pub none_passed : (made : Table (Option NameId)) (vs : List KeyValue) (t : Tid) (i : ℕ) → i ≡ place (place_number 0 t.0) (by_place vs) → Passed made vs t i
none_passed made vs t i at = record {
  from = omega (arith, at);
  calls = λ j h less. let above = places_rise (by_place vs) (place_number 0 t.0) (place_number j t.0) (not_lesser j t.0) in absurd (omega (arith, at, less, above));
}

before_or_at : (p i : ℕ) (o : Option DestructorCall) → p ≤ i → (p < i → o ≡ None) → (i ≡ p → o ≡ None) → o ≡ None
before_or_at p i o le h g = grind (arith, nat_tests)

-- A key that is not the value's has no call where its place is there or before.
other_call : (made : Table (Option NameId)) (vs : List KeyValue) (t : Tid) (i j : ℕ) (d : KeyValue) → AreOrdered vs → i < length vs → j < names → is_of j t.0 (get_or vs i d) ≡ false
    → place (place_number j t.0) (by_place vs) ≤ i → HaveNoCall made vs t i → key_call made vs t j ≡ None
other_call made vs t i j d g l h other le calls =
    before_or_at (place (place_number j t.0) (by_place vs)) i (key_call made vs t j) le (calls j h) (λ at. missed_call made vs t j g (stands_not j t.0 vs i d h g at l other))

no_key : (j k : ℕ) (b : Bool) → eqb k j ≡ false → (eqb k j && b) ≡ false
no_key j k b e = ap (λ c. c && b) e

no_thread : (u t : ℕ) (b : Bool) → (u ≡ t → ⊥) → (b && eqb u t) ≡ false
no_thread u t true n = grind (arith, nat_tests)
no_thread u t false n = refl

own_call : (made : Table (Option NameId)) (vs : List KeyValue) (t : Tid) (i : ℕ) (d : KeyValue) → AreOrdered vs → i < length vs → (get_or vs i d).thread.0 ≡ t.0
    → key_call made vs t (get_or vs i d).key.0 ≡ called_at (get_or vs i d).key.0 (get made (get_or vs i d).key.0) (get_or vs i d).value
own_call made vs t i d g l same =
    let k : ℕ = (get_or vs i d).key.0 in
    ap (called_at k (get made k)) (ap (λ u. at (by_place vs) (place_number k u) (pos 0)) (sym same) ∙ sym (own_value vs i d g l))

passed_by : (made : Table (Option NameId)) (vs : List KeyValue) (t : Tid) (i j : ℕ) (d : KeyValue) (b : Bool) → eqb (get_or vs i d).key.0 j ≡ b → AreOrdered vs → i < length vs → j < names
    → (get_or vs i d).thread.0 ≡ t.0 → called_at (get_or vs i d).key.0 (get made (get_or vs i d).key.0) (get_or vs i d).value ≡ None → place (place_number j t.0) (by_place vs) ≤ i → HaveNoCall made vs t i
    → key_call made vs t j ≡ None
passed_by made vs t i j d true at g l h same none le calls = ap (key_call made vs t) (sym (same_number _ j at)) ∙ own_call made vs t i d g l same ∙ none
passed_by made vs t i j d false at g l h same none le calls = other_call made vs t i j d g l h (no_key j (get_or vs i d).key.0 (eqb (get_or vs i d).thread.0 t.0) at) le calls

-- A value of the thread that has no call is passed.
pub one_passed : (made : Table (Option NameId)) (vs : List KeyValue) (t : Tid) (i : ℕ) (d : KeyValue) (o : Option DestructorCall) → AreOrdered vs → i < length vs → (get_or vs i d).thread.0 ≡ t.0
    → Passed made vs t i → is_some o ≡ false → o ≡ called_at (get_or vs i d).key.0 (get made (get_or vs i d).key.0) (get_or vs i d).value → Passed made vs t (i + 1)
one_passed made vs t i d None g l same p none is = record {
  from = let h = p.from in omega (arith, h);
  calls = λ j h less. passed_by made vs t i j d (eqb (get_or vs i d).key.0 j) refl g l h same (sym is) (omega (arith, less)) p.calls;
}
one_passed made vs t i d (Some c) g l same p none is = absurd (cc)

-- A value of the thread that has a call is the first.
pub found_call : (made : Table (Option NameId)) (vs : List KeyValue) (t : Tid) (i : ℕ) (d : KeyValue) (o : Option DestructorCall) → IsKept made vs → i < length vs → (get_or vs i d).thread.0 ≡ t.0
    → Passed made vs t i → is_some o ≡ true → o ≡ called_at (get_or vs i d).key.0 (get made (get_or vs i d).key.0) (get_or vs i d).value → o ≡ first_call t (keys_of made vs)
found_call made vs t i d None h l same p there is = absurd (cc)
found_call made vs t i d (Some c) h l same p there is =
    let k : ℕ = (get_or vs i d).key.0 in
    let known : k < names = named_at vs i d h.ordered.named l in
    sym (first_is t (keys_of made vs) k c (canonical_keys made vs h.rises) (λ j less.
    call_is made vs t j (omega (arith, less, known)) h.ordered
    ∙ other_call made vs t i j d h.ordered l (omega (arith, less, known)) (no_key j k (eqb (get_or vs i d).thread.0 t.0) (greater j k less))
    (before_key j t.0 vs i d l same (omega (arith, less))) p.calls)
    (call_is made vs t k known h.ordered ∙ own_call made vs t i d h.ordered l same ∙ sym is))
  where
    greater : (j k : ℕ) → j < k → eqb k j ≡ false
    greater j k h = grind (arith, nat_tests)

below_or_past : (n j : ℕ) (o : Option DestructorCall) → (j < n → o ≡ None) → (n ≤ j → o ≡ None) → o ≡ None
below_or_past n j o h g = grind (arith, nat_tests)

unknown_call : (made : Table (Option NameId)) (vs : List KeyValue) (t : Tid) (j : ℕ) → IsKept made vs → names ≤ j → call_at j t (get (keys_of made vs) j) ≡ None
unknown_call made vs t j h past = ap (call_at j t) (get_keys made vs j ∙ ap (option_map _) (h.known j past))

none_at_all : (made : Table (Option NameId)) (vs : List KeyValue) (t : Tid) → IsKept made vs → ((j : ℕ) → j < names → key_call made vs t j ≡ None) → None ≡ first_call t (keys_of made vs)
none_at_all made vs t h calls = sym (no_call t (keys_of made vs) (canonical_keys made vs h.rises) (λ j.
    below_or_past names j (call_at j t (get (keys_of made vs) j)) (λ known. call_is made vs t j known h.ordered ∙ calls j known) (λ past. unknown_call made vs t j h past)))

-- Past all values there is none.
pub no_value_left : (made : Table (Option NameId)) (vs : List KeyValue) (t : Tid) (i : ℕ) → IsKept made vs → length vs ≤ i → Passed made vs t i → None ≡ first_call t (keys_of made vs)
no_value_left made vs t i h end p = none_at_all made vs t h (λ j known.
    below_or_past i (place (place_number j t.0) (by_place vs)) (key_call made vs t j) (p.calls j known) (λ past.
    missed_call made vs t j h.ordered (ends_before j t.0 vs (place (place_number j t.0) (by_place vs)) refl (omega (arith, end, past)))))

-- At a value of another thread there is none.
pub no_value_here : (made : Table (Option NameId)) (vs : List KeyValue) (t : Tid) (i : ℕ) (d : KeyValue) → IsKept made vs → i < length vs → ((get_or vs i d).thread.0 ≡ t.0 → ⊥) → Passed made vs t i
    → None ≡ first_call t (keys_of made vs)
no_value_here made vs t i d h l other p = none_at_all made vs t h (λ j known.
    other_call made vs t i j d h.ordered l known (no_thread (get_or vs i d).thread.0 t.0 (eqb (get_or vs i d).key.0 j) other) (before_other j t.0 vs i d known h.ordered l p.from other) p.calls)

-- The key that is called is made, by either word.
pub its_made : (made : Table (Option NameId)) (vs : List KeyValue) (keys : Table Key) (o : Option DestructorCall) → keys_of made vs ≡ keys → IfSome o (λ c. has made c.0.0 ≡ true)
    → IfSome o (λ c. has keys c.0.0 ≡ true)
its_made made vs keys None is h = tt
its_made made vs keys (Some c) is h = ap (λ (m : Table Key). has m c.0.0) (sym is) ∙ has_keys made vs c.0.0 ∙ h
