-- The keys that are made, as their destructors and the list of values tell them, and after a change.
use Rattle.std.proofs.Common.{◌≡◌, ℕ, ℤ, ◌<◌, ◌≤◌, Bool, true, false, ◌&&◌, cond, eqb, List, [], ◌∷◌, Option, Some, None, refl, sym, arith, ◌∙◌, ap, subst}
use Rattle.std.proofs.lemmas.Bool.Decides.{nat_tests}
use Rattle.std.specs.Option.{is_some, option_map}
use Rattle.std.specs.Ordering.{nat_cmp, is_lt}
use Rattle.std.specs.FinMap.Entries as entries
use Rattle.thr_values.specs.declared.number.Tid.{Tid}
use Rattle.thr_values.specs.declared.number.NameId.{NameId}
use Rattle.thr_parts.specs.Tables.{Table, names, none, get, has, put, put_if, IsCanonical}
use Rattle.thr_parts.specs.Keys.{Key, new_key, with_value, as_valued, value_in}
use Rattle.thr_parts.proofs.TableLaws.{has_get, get_none, get_put, canonical_none, canonical_put, same_table}
use Rattle.thr_parts.proofs.EntryLaws.{get_cons, get_empty}
use Rattle.thr_once.specs.declared.values.KeyValue.{KeyValue}
use Rattle.thr_once.specs.Values.{place_number, by_place, stored, values_of, key_of, keys_of, AreOrdered, IsKept}
use Rattle.thr_once.proofs.ValueLaws.{values_stored, other_stored}

same_number : (x y : ℕ) → eqb x y ≡ true → x ≡ y
same_number x y e = grind (arith, nat_tests)

-- ---- what stands at a number

key_by : (q : ℕ) (e : ℕ × Option NameId) (vs : List KeyValue) (o : Option (Option NameId)) (b : Bool) → eqb e.0 q ≡ b
    → cond b (Some (key_of e.0 e.1 vs)) (option_map (λ d. key_of q d vs) o) ≡ option_map (λ d. key_of q d vs) (cond b (Some e.1) o)
key_by q e vs o true is = ap (λ n. Some (key_of n e.1 vs)) (same_number e.0 q is)
key_by q e vs o false is = refl

pub get_keys : (made : Table (Option NameId)) (vs : List KeyValue) (q : ℕ) → get (keys_of made vs) q ≡ option_map (λ d. key_of q d vs) (get made q)
unfolding keys_of
get_keys [] vs q = get_empty q ∙ sym (ap (option_map (λ d. key_of q d vs)) (get_empty q))
get_keys (e ∷ es) vs q =
    get_cons (e.0, key_of e.0 e.1 vs) (keys_of es vs) q ∙ ap (cond (eqb e.0 q) (Some (key_of e.0 e.1 vs))) (get_keys es vs q) ∙ key_by q e vs (get es q) (eqb e.0 q) refl
    ∙ sym (ap (option_map (λ d. key_of q d vs)) (get_cons e es q))

some_mapped : {A B : Type 0} (f : A → B) (o : Option A) → is_some (option_map f o) ≡ is_some o
some_mapped f None = refl
some_mapped f (Some x) = refl

pub has_keys : (made : Table (Option NameId)) (vs : List KeyValue) (q : ℕ) → has (keys_of made vs) q ≡ has made q
has_keys made vs q = has_get (keys_of made vs) q ∙ ap is_some (get_keys made vs q) ∙ some_mapped (λ d. key_of q d vs) (get made q) ∙ sym (has_get made q)

below_keys : (x : ℕ) (made : Table (Option NameId)) (vs : List KeyValue) → entries.below_all nat_cmp x (keys_of made vs) ≡ entries.below_all nat_cmp x made
unfolding keys_of
below_keys x [] vs = refl
below_keys x (e ∷ es) vs = ap (λ b. is_lt (nat_cmp x e.0) && b) (below_keys x es vs)

sorted_keys : (made : Table (Option NameId)) (vs : List KeyValue) → entries.is_sorted nat_cmp (keys_of made vs) ≡ entries.is_sorted nat_cmp made
unfolding keys_of
sorted_keys [] vs = refl
sorted_keys (e ∷ es) vs = ap (λ b. b && entries.is_sorted nat_cmp (keys_of es vs)) (below_keys e.0 es vs) ∙ ap (λ b. entries.below_all nat_cmp e.0 es && b) (sorted_keys es vs)

pub canonical_keys : (made : Table (Option NameId)) (vs : List KeyValue) → IsCanonical made → IsCanonical (keys_of made vs)
canonical_keys made vs h = sorted_keys made vs ∙ h

-- The value that a thread has of the key that is there.
pub value_is : (made : Table (Option NameId)) (vs : List KeyValue) (k : ℕ) (t : Tid) (o : Option (Option NameId)) → o ≡ get made k
    → option_map (λ key. value_in key t) (option_map (λ d. key_of k d vs) o) ≡ option_map (λ key. value_in key t) (get (keys_of made vs) k)
value_is made vs k t o e = ap (option_map (λ key. value_in key t)) (ap (option_map (λ d. key_of k d vs)) e ∙ sym (get_keys made vs k))

none_has : {A : Type 0} (o : Option A) → is_some o ≡ false → o ≡ None
none_has None e = refl
none_has (Some x) e = absurd (cc)

-- Where nothing stands, by either word.
pub not_there : {A : Type 0} (m : Table A) (k : ℕ) → has m k ≡ false → get m k ≡ None
not_there m k e = none_has (get m k) (sym (has_get m k) ∙ e)

-- ---- nothing is made

pub keys_none : (made : Table (Option NameId)) (vs : List KeyValue) → made ≡ none → keys_of made vs ≡ none
unfolding keys_of none
keys_none made vs e = ap (λ (m : Table (Option NameId)). keys_of m vs) e

pub kept_none : (made : Table (Option NameId)) (vs : List KeyValue) → made ≡ none → vs ≡ [] → IsKept made vs
unfolding values_of
kept_none made vs e f = record {
  rises = subst IsCanonical (sym e) (canonical_none (Option NameId));
  known = λ k h. ap (λ (m : Table (Option NameId)). get m k) e ∙ get_none k;
  unmade = λ k h. ap (values_of k) f;
  ordered = subst AreOrdered (sym f) (record { rises = refl; named = tt });
}

-- ---- a key is made

made_by : (k q : ℕ) (d : Option NameId) (vs : List KeyValue) (made : Table (Option NameId)) (b : Bool) → eqb k q ≡ b → values_of k vs ≡ none
    → option_map (λ x. key_of q x vs) (cond b (Some d) (get made q)) ≡ cond b (Some (new_key d)) (option_map (λ x. key_of q x vs) (get made q))
made_by k q d vs made true is h =
    let here : values_of q vs ≡ none = ap (λ n. values_of n vs) (sym (same_number k q is)) ∙ h in
    ap (λ (m : Table ℤ). Some (let key : Key = record { destructor = d; values = m } in key)) here
made_by k q d vs made false is h = refl

-- A key more, which has no values.
pub keys_made : (made : Table (Option NameId)) (vs : List KeyValue) (k : ℕ) (d : Option NameId) → IsKept made vs → get made k ≡ None → keys_of (put made k d) vs ≡ put (keys_of made vs) k (new_key d)
keys_made made vs k d h new =
    same_table (keys_of (put made k d) vs) (put (keys_of made vs) k (new_key d)) (canonical_keys (put made k d) vs (canonical_put made k d h.rises)) (canonical_put (keys_of made vs) k (new_key d) (canonical_keys made vs h.rises)) (λ q.
    get_keys (put made k d) vs q ∙ ap (option_map (λ x. key_of q x vs)) (get_put made k q d) ∙ made_by k q d vs made (eqb k q) refl (h.unmade k new)
    ∙ sym (get_put (keys_of made vs) k q (new_key d) ∙ ap (cond (eqb k q) (Some (new_key d))) (get_keys made vs q)))

not_at : (k q n : ℕ) → k < n → n ≤ q → eqb k q ≡ false
not_at k q n h g = grind (arith, nat_tests)

still_unmade : (made : Table (Option NameId)) (k j : ℕ) (d : Option NameId) (b : Bool) → cond b (Some d) (get made j) ≡ None → get made j ≡ None
still_unmade made k j d true e = absurd (cc)
still_unmade made k j d false e = e

pub kept_made : (made : Table (Option NameId)) (vs : List KeyValue) (k : ℕ) (d : Option NameId) → IsKept made vs → k < names → IsKept (put made k d) vs
kept_made made vs k d h within = record {
  rises = canonical_put made k d h.rises;
  known = λ q past. get_put made k q d ∙ ap (λ b. cond b (Some d) (get made q)) (not_at k q names within past) ∙ h.known q past;
  unmade = λ j e. h.unmade j (still_unmade made k j d (eqb k j) (sym (get_put made k j d) ∙ e));
  ordered = h.ordered;
}

-- ---- values change

-- The values of one key change for a thread, and those of others stay.
pub record Changes (vs new : List KeyValue) (k : ℕ) (t : Tid) (x : ℤ) : Type 0 where
  pub here : values_of k new ≡ with_value (values_of k vs) t x
  pub others : (j : ℕ) → eqb k j ≡ false → values_of j new ≡ values_of j vs

changed_by : (made : Table (Option NameId)) (vs new : List KeyValue) (k q : ℕ) (t : Tid) (x : ℤ) (d : Option NameId) (b : Bool) → Changes vs new k t x → get made k ≡ Some d → eqb k q ≡ b
    → option_map (λ y. key_of q y new) (get made q) ≡ cond b (Some (as_valued t x (key_of k d vs))) (option_map (λ y. key_of q y vs) (get made q))
changed_by made vs new k q t x d true h is at =
    let same : k ≡ q = same_number k q at in
    ap (λ n. option_map (λ y. key_of n y new) (get made n)) (sym same) ∙ ap (option_map (λ y. key_of k y new)) is
    ∙ ap (λ (m : Table ℤ). Some (let key : Key = record { destructor = d; values = m } in key)) h.here
changed_by made vs new k q t x d false h is at =
    ap (λ (m : Table ℤ). option_map (λ (y : Option NameId). let key : Key = record { destructor = y; values = m } in key) (get made q)) (h.others q at)

changed_keys : (made : Table (Option NameId)) (vs new : List KeyValue) (k : ℕ) (t : Tid) (x : ℤ) (o : Option (Option NameId)) → IsCanonical made → Changes vs new k t x → get made k ≡ o → is_some o ≡ true
    → keys_of made new ≡ put_if (keys_of made vs) k (option_map (as_valued t x) (option_map (λ d. key_of k d vs) o))
changed_keys made vs new k t x None rises h is there = absurd (cc)
changed_keys made vs new k t x (Some d) rises h is there =
    same_table (keys_of made new) (put (keys_of made vs) k (as_valued t x (key_of k d vs))) (canonical_keys made new rises) (canonical_put (keys_of made vs) k (as_valued t x (key_of k d vs)) (canonical_keys made vs rises)) (λ q.
    get_keys made new q ∙ changed_by made vs new k q t x d (eqb k q) h is refl
    ∙ sym (get_put (keys_of made vs) k q (as_valued t x (key_of k d vs)) ∙ ap (cond (eqb k q) (Some (as_valued t x (key_of k d vs)))) (get_keys made vs q)))

-- The key that is made has another value for the thread.
pub keys_changed : (made : Table (Option NameId)) (vs new : List KeyValue) (k : ℕ) (t : Tid) (x : ℤ) → IsKept made vs → Changes vs new k t x → has (keys_of made vs) k ≡ true
    → keys_of made new ≡ put_if (keys_of made vs) k (option_map (as_valued t x) (get (keys_of made vs) k))
keys_changed made vs new k t x h c there =
    changed_keys made vs new k t x (get made k) h.rises c refl (sym (has_keys made vs k ∙ has_get made k) ∙ there)
    ∙ ap (λ (o : Option Key). put_if (keys_of made vs) k (option_map (as_valued t x) o)) (sym (get_keys made vs k))

pub changed : (vs new : List KeyValue) (k : ℕ) (t : Tid) (x : ℤ) → k < names → AreOrdered vs → AreOrdered new → by_place new ≡ stored (by_place vs) (place_number k t.0) x → Changes vs new k t x
changed vs new k t x known h g e = record {
  here = values_stored k t x vs new known h.named g.named e;
  others = λ j other. other_stored k t.0 x j vs new known h.named g.named e other;
}

below_or_none : (n k : ℕ) (o : Option (Option NameId)) → (n ≤ k → o ≡ None) → is_some o ≡ true → k < n
below_or_none n k None h e = absurd (cc)
below_or_none n k (Some d) h e = below n k h
  where
    below : (n k : ℕ) → (n ≤ k → (let o : Option (Option NameId) = Some d in o) ≡ None) → k < n
    below n k h = grind (arith, nat_tests)

-- A key that is made has the number of a name.
pub made_is_known : (made : Table (Option NameId)) (vs : List KeyValue) (k : ℕ) → IsKept made vs → has (keys_of made vs) k ≡ true → k < names
made_is_known made vs k h there = below_or_none names k (get made k) (h.known k) (sym (has_keys made vs k ∙ has_get made k) ∙ there)

unmade_by : (made : Table (Option NameId)) (vs new : List KeyValue) (k j : ℕ) (t : Tid) (x : ℤ) (b : Bool) → Changes vs new k t x → (get made j ≡ None → values_of j vs ≡ none) → has made k ≡ true
    → eqb k j ≡ b → get made j ≡ None → values_of j new ≡ none
unmade_by made vs new k j t x true h old there at e =
    let missing : get made k ≡ None = ap (get made) (same_number k j at) ∙ e in
    absurd (cc (sym there ∙ has_get made k ∙ ap is_some missing))
unmade_by made vs new k j t x false h old there at e = h.others j at ∙ old e

pub kept_changed : (made : Table (Option NameId)) (vs new : List KeyValue) (k : ℕ) (t : Tid) (x : ℤ) → IsKept made vs → Changes vs new k t x → AreOrdered new → has (keys_of made vs) k ≡ true → IsKept made new
kept_changed made vs new k t x h c g there = record {
  rises = h.rises;
  known = h.known;
  unmade = λ j e. unmade_by made vs new k j t x (eqb k j) c (h.unmade j) (sym (has_keys made vs k) ∙ there) refl e;
  ordered = g;
}
