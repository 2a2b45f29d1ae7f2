-- The values of a slab under their numbers' keys, and what they are after a change.
use Rattle.std.proofs.Common.{◌≡◌, ℕ, ◌+◌, ◌≤◌, Bool, true, false, ◌||◌, ◌&&◌, cond, eqb, ltb, T, [], ◌∷◌, length, count_by, Option, Some, None, option_copied, Bor, MutBor, refl, sym, arith, ◌∙◌, ap, subst}
use Rattle.std.proofs.lemmas.Bool.Decides.{nat_tests}
use Rattle.std.proofs.lemmas.List.Sums.{sum_by-set}
use Rattle.std.specs.Option.{is_some, option_copied_mut}
use Rattle.std.specs.Ordering.{nat_cmp, is_lt}
use Rattle.std.specs.Cmp.{nat_cmp_total}
use Rattle.std.specs.FinMap.Entries as entries
use Rattle.slab.specs.Slab.{Slab, get as under, slab_len, ContainsKey, Updates, HasRoomFor, with_value}
use Rattle.slab.proofs.SlabLemmas.{ContainsKey-within, Updates-with_value}
use Rattle.thr_parts.specs.Tables.{Table, none, get, has, put, cut, IsCanonical}
use Rattle.thr_parts.specs.Rows.{most}
use Rattle.thr_parts.proofs.TableLaws.{get_put, get_cut, has_get, canonical_none, canonical_put, canonical_cut, same_table}
use Rattle.thr_parts.proofs.EntryLaws.{both_true, get_cons, get_empty, nothing_at}
use Rattle.thr_parts.proofs.LengthLaws.{not_longer}
use Rattle.thr_tables.specs.Places.{has_place}
use Rattle.thr_stacks.specs.Keys.{behind, values_by, IsKept}

-- ---- numbers

same_number : (x y : ℕ) → eqb x y ≡ true → x ≡ y
same_number x y e = grind (arith, nat_tests)

not_other : (t q : ℕ) → eqb t q ≡ false → q ≡ t → ⊥
not_other t q e f = grind (arith, nat_tests)

-- A table is one longer with what is put at a number at which nothing stood.
pub longer : {A : Type 0} (m : Table A) (t : ℕ) (v : A) → IsCanonical m → get m t ≡ None → length (put m t v) ≡ length m + 1
unfolding put get
longer {A} m t v h e =
    entries.length-put nat_cmp nat_cmp_total t v m (subst T (sym h) tt) ∙ ap (λ (o : Option A). cond (is_some o) (length m) (length m + 1)) e

-- ---- what stands at a number

-- What is under the key that is there.
abbrev pub found : {A : Type 0} → Slab A → Option ℕ → Option A
found s None = None
found s (Some key) = under s key

get_behind : {A : Type 0} (t q : ℕ) (o : Option A) (m : Table A) (s : Slab A) (key : ℕ) (keys : Option ℕ) (b : Bool) → eqb t q ≡ b → o ≡ under s key
    → get m q ≡ found s keys → (t ≡ q → keys ≡ None) → get (behind t o m) q ≡ found s (cond b (Some key) keys)
get_behind t q None m s key keys true is e rest alone = rest ∙ ap (found s) (alone (same_number t q is)) ∙ e
get_behind t q None m s key keys false is e rest alone = rest
get_behind t q (Some v) m s key keys true is e rest alone = get_cons (t, v) m q ∙ ap (λ b. cond b (Some v) (get m q)) is ∙ e
get_behind t q (Some v) m s key keys false is e rest alone = get_cons (t, v) m q ∙ ap (λ b. cond b (Some v) (get m q)) is ∙ rest

-- At a number stands what is under its key.
pub get_values : {A : Type 0} (keys : Table ℕ) (s : Slab A) (q : ℕ) → IsCanonical keys → get (values_by keys s) q ≡ found s (get keys q)
unfolding values_by
get_values [] s q h = get_empty q ∙ sym (ap (found s) (get_empty q))
get_values (e ∷ es) s q h =
    let parts : (entries.below_all nat_cmp e.0 es ≡ true) × (IsCanonical es) = both_true _ _ h in
    get_behind e.0 q (under s e.1) (values_by es s) s e.1 (get es q) (eqb e.0 q) refl refl (get_values es s q parts.1)
    (λ same. ap (get es) (sym same) ∙ nothing_at e.0 es parts.0)
    ∙ sym (ap (found s) (get_cons e es q))

below_behind : {A : Type 0} (x t : ℕ) (o : Option A) (m : Table A) → is_lt (nat_cmp x t) ≡ true → entries.below_all nat_cmp x m ≡ true → entries.below_all nat_cmp x (behind t o m) ≡ true
below_behind x t None m first rest = rest
below_behind x t (Some v) m first rest = ap (λ b. b && entries.below_all nat_cmp x m) first ∙ rest

below_values : {A : Type 0} (x : ℕ) (keys : Table ℕ) (s : Slab A) → entries.below_all nat_cmp x keys ≡ true → entries.below_all nat_cmp x (values_by keys s) ≡ true
unfolding values_by
below_values x [] s h = refl
below_values x (e ∷ es) s h =
    let parts : (is_lt (nat_cmp x e.0) ≡ true) × (entries.below_all nat_cmp x es ≡ true) = both_true _ _ h in
    below_behind x e.0 (under s e.1) (values_by es s) parts.0 (below_values x es s parts.1)

canonical_behind : {A : Type 0} (t : ℕ) (o : Option A) (m : Table A) → entries.below_all nat_cmp t m ≡ true → IsCanonical m → IsCanonical (behind t o m)
canonical_behind t None m first rest = rest
canonical_behind t (Some v) m first rest = ap (λ b. b && entries.is_sorted nat_cmp m) first ∙ rest

pub canonical_values : {A : Type 0} (keys : Table ℕ) (s : Slab A) → IsCanonical keys → IsCanonical (values_by keys s)
unfolding values_by
canonical_values [] s h = refl
canonical_values (e ∷ es) s h =
    let parts : (entries.below_all nat_cmp e.0 es ≡ true) × (IsCanonical es) = both_true _ _ h in
    canonical_behind e.0 (under s e.1) (values_by es s) (below_values e.0 es s parts.0) (canonical_values es s parts.1)

-- ---- which numbers have a value

is_found : {A : Type 0} (s : Slab A) (o : Option ℕ) → ((key : ℕ) → o ≡ Some key → ContainsKey s key) → is_some (found s o) ≡ is_some o
is_found s None stored = refl
is_found s (Some key) stored = stored key refl

pub has_values : {A : Type 0} (keys : Table ℕ) (s : Slab A) (q : ℕ) → IsKept keys s → has (values_by keys s) q ≡ has keys q
has_values keys s q h =
    has_get (values_by keys s) q ∙ ap is_some (get_values keys s q h.rises) ∙ is_found s (get keys q) (λ key e. h.stored q key e) ∙ sym (has_get keys q)

pub length_values : {A : Type 0} (keys : Table ℕ) (s : Slab A) → IsKept keys s → length (values_by keys s) ≡ length keys
length_values keys s h =
    let low : length (values_by keys s) ≤ length keys = not_longer (values_by keys s) keys (canonical_values keys s h.rises) (λ q is. sym (has_values keys s q h) ∙ is) in
    let high : length keys ≤ length (values_by keys s) = not_longer keys (values_by keys s) h.rises (λ q is. has_values keys s q h ∙ is) in
    omega (arith, low, high)

pub place_values : {A : Type 0} (keys : Table ℕ) (s : Slab A) (t n : ℕ) → IsKept keys s → has_place (values_by keys s) t n ≡ has_place keys t n
place_values keys s t n h = ap (λ b. b || ltb (length (values_by keys s)) n) (has_values keys s t h) ∙ ap (λ l. has keys t || ltb l n) (length_values keys s h)

-- ---- tables of keys

put_same_by : (t q : ℕ) (v : ℕ) (keys : Table ℕ) (b : Bool) → eqb t q ≡ b → get keys t ≡ Some v → cond b (Some v) (get keys q) ≡ get keys q
put_same_by t q v keys true is e = sym e ∙ ap (get keys) (same_number t q is)
put_same_by t q v keys false is e = refl

-- What stands at a number may be put there.
pub put_same : (keys : Table ℕ) (t v : ℕ) → IsCanonical keys → get keys t ≡ Some v → put keys t v ≡ keys
put_same keys t v h e = same_table (put keys t v) keys (canonical_put keys t v h) h (λ q. get_put keys t q v ∙ put_same_by t q v keys (eqb t q) refl e)

cut_same_by : {A : Type 0} (t q : ℕ) (m : Table A) (b : Bool) → eqb t q ≡ b → get m t ≡ None → cond b None (get m q) ≡ get m q
cut_same_by t q m true is e = sym e ∙ ap (get m) (same_number t q is)
cut_same_by t q m false is e = refl

-- Where nothing stands nothing is cut.
pub cut_same : {A : Type 0} (m : Table A) (t : ℕ) → IsCanonical m → get m t ≡ None → m ≡ cut m t
cut_same m t h e = sym (same_table (cut m t) m (canonical_cut m t h) h (λ q. get_cut m t q ∙ cut_same_by t q m (eqb t q) refl e))

-- ---- keys of other numbers

some_inside : {A : Type 0} (x y : A) → Some x ≡ Some y → x ≡ y
some_inside x y e = cc

no_value : {A : Type 0} (o : Option A) → o ≡ None → is_some o ≡ true → ⊥
no_value None e f = absurd (cc)
no_value (Some v) e f = absurd (cc)

-- A key under which nothing stands is that of no number.
pub no_number : {A : Type 0} (keys : Table ℕ) (s : Slab A) (t q key : ℕ) → IsKept keys s → under s key ≡ None → get keys q ≡ Some key → q ≡ t
no_number keys s t q key h e f = absurd (no_value (under s key) e (h.stored q key f))

-- No number but this has the key.
abbrev pub IsOwn : Table ℕ → ℕ → ℕ → Type 0
IsOwn keys t key = (q : ℕ) → get keys q ≡ Some key → q ≡ t

found_same : {A : Type 0} (keys : Table ℕ) (s s' : Slab A) (t q key : ℕ) (slot : Option A) (o : Option ℕ) → Updates s s' key slot → IsOwn keys t key
    → eqb t q ≡ false → get keys q ≡ o → found s' o ≡ found s o
found_same keys s s' t q key slot None u own is e = refl
found_same keys s s' t q key slot (Some other) u own is e = u.others other (λ same. not_other t q is (own q (e ∙ ap Some same)))

stored_other : {A : Type 0} (keys : Table ℕ) (s s' : Slab A) (t q key other : ℕ) (slot : Option A) → IsKept keys s → Updates s s' key slot → IsOwn keys t key
    → eqb t q ≡ false → get keys q ≡ Some other → ContainsKey s' other
stored_other keys s s' t q key other slot h u own is e =
    ap is_some (u.others other (λ same. not_other t q is (own q (e ∙ ap Some same)))) ∙ h.stored q other e

-- ---- a value is put

put_at : {A : Type 0} (keys : Table ℕ) (s s' : Slab A) (t q key : ℕ) (v : A) (b : Bool) → Updates s s' key (Some v) → IsOwn keys t key
    → eqb t q ≡ b → found s' (cond b (Some key) (get keys q)) ≡ cond b (Some v) (found s (get keys q))
put_at keys s s' t q key v true u own is = u.changed
put_at keys s s' t q key v false u own is = found_same keys s s' t q key (Some v) (get keys q) u own is refl

-- The values with one more, or with another in its place.
pub put_values : {A : Type 0} (keys : Table ℕ) (s s' : Slab A) (t key : ℕ) (v : A) → IsKept keys s → Updates s s' key (Some v) → IsOwn keys t key
    → values_by (put keys t key) s' ≡ put (values_by keys s) t v
put_values keys s s' t key v h u own =
    same_table (values_by (put keys t key) s') (put (values_by keys s) t v)
    (canonical_values (put keys t key) s' (canonical_put keys t key h.rises)) (canonical_put (values_by keys s) t v (canonical_values keys s h.rises)) (λ q.
    get_values (put keys t key) s' q (canonical_put keys t key h.rises) ∙ ap (found s') (get_put keys t q key) ∙ put_at keys s s' t q key v (eqb t q) u own refl
    ∙ sym (get_put (values_by keys s) t q v ∙ ap (cond (eqb t q) (Some v)) (get_values keys s q h.rises)))

put_stored : {A : Type 0} (keys : Table ℕ) (s s' : Slab A) (t q key other : ℕ) (v : A) (b : Bool) → IsKept keys s → Updates s s' key (Some v) → IsOwn keys t key
    → eqb t q ≡ b → cond b (Some key) (get keys q) ≡ Some other → ContainsKey s' other
put_stored keys s s' t q key other v true h u own is e = subst (λ k. ContainsKey s' k) (some_inside key other e) (ap is_some u.changed)
put_stored keys s s' t q key other v false h u own is e = stored_other keys s s' t q key other (Some v) h u own is e

put_alone : (keys : Table ℕ) (t p q key other : ℕ) (b c : Bool) → ((x y k : ℕ) → get keys x ≡ Some k → get keys y ≡ Some k → y ≡ x) → IsOwn keys t key
    → eqb t p ≡ b → eqb t q ≡ c → cond b (Some key) (get keys p) ≡ Some other → cond c (Some key) (get keys q) ≡ Some other → q ≡ p
put_alone keys t p q key other true true alone own is at e f = sym (same_number t q at) ∙ same_number t p is
put_alone keys t p q key other true false alone own is at e f = absurd (not_other t q at (own q (f ∙ sym e)))
put_alone keys t p q key other false true alone own is at e f = absurd (not_other t p is (own p (e ∙ sym f)))
put_alone keys t p q key other false false alone own is at e f = alone p q other e f

pub kept_put : {A : Type 0} (keys : Table ℕ) (s s' : Slab A) (t key : ℕ) (v : A) → IsKept keys s → Updates s s' key (Some v) → IsOwn keys t key
    → slab_len s' ≡ length (put keys t key) → s'.capacity ≡ s.capacity → IsKept (put keys t key) s'
kept_put keys s s' t key v h u own count capacity = record {
  rises = canonical_put keys t key h.rises;
  stored = λ q other e. put_stored keys s s' t q key other v (eqb t q) h u own refl (sym (get_put keys t q key) ∙ e);
  alone = λ p q other e f. put_alone keys t p q key other (eqb t p) (eqb t q) h.alone own refl refl (sym (get_put keys t p key) ∙ e) (sym (get_put keys t q key) ∙ f);
  as_many = count;
  room = subst (λ n. most ≤ n) (sym capacity) h.room;
}

-- ---- a value is cut

cut_at : {A : Type 0} (keys : Table ℕ) (s s' : Slab A) (t q key : ℕ) (b : Bool) → Updates s s' key None → IsOwn keys t key
    → eqb t q ≡ b → found s' (cond b None (get keys q)) ≡ cond b None (found s (get keys q))
cut_at keys s s' t q key true u own is = refl
cut_at keys s s' t q key false u own is = found_same keys s s' t q key None (get keys q) u own is refl

-- The values without one.
pub cut_values : {A : Type 0} (keys : Table ℕ) (s s' : Slab A) (t key : ℕ) → IsKept keys s → Updates s s' key None → IsOwn keys t key
    → values_by (cut keys t) s' ≡ cut (values_by keys s) t
cut_values keys s s' t key h u own =
    same_table (values_by (cut keys t) s') (cut (values_by keys s) t)
    (canonical_values (cut keys t) s' (canonical_cut keys t h.rises)) (canonical_cut (values_by keys s) t (canonical_values keys s h.rises)) (λ q.
    get_values (cut keys t) s' q (canonical_cut keys t h.rises) ∙ ap (found s') (get_cut keys t q) ∙ cut_at keys s s' t q key (eqb t q) u own refl
    ∙ sym (get_cut (values_by keys s) t q ∙ ap (cond (eqb t q) None) (get_values keys s q h.rises)))

cut_stored : {A : Type 0} (keys : Table ℕ) (s s' : Slab A) (t q key other : ℕ) (b : Bool) → IsKept keys s → Updates s s' key None → IsOwn keys t key
    → eqb t q ≡ b → cond b None (get keys q) ≡ Some other → ContainsKey s' other
cut_stored keys s s' t q key other true h u own is e = absurd (cc)
cut_stored keys s s' t q key other false h u own is e = stored_other keys s s' t q key other None h u own is e

still_there : (b : Bool) (o : Option ℕ) (key : ℕ) → cond b None o ≡ Some key → o ≡ Some key
still_there true o key e = absurd (cc)
still_there false o key e = e

pub kept_cut : {A : Type 0} (keys : Table ℕ) (s s' : Slab A) (t key : ℕ) → IsKept keys s → Updates s s' key None → IsOwn keys t key
    → slab_len s' ≡ length (cut keys t) → s'.capacity ≡ s.capacity → IsKept (cut keys t) s'
kept_cut keys s s' t key h u own count capacity = record {
  rises = canonical_cut keys t h.rises;
  stored = λ q other e. cut_stored keys s s' t q key other (eqb t q) h u own refl (sym (get_cut keys t q) ∙ e);
  alone = λ p q other e f. h.alone p q other (still_there (eqb t p) (get keys p) other (sym (get_cut keys t p) ∙ e)) (still_there (eqb t q) (get keys q) other (sym (get_cut keys t q) ∙ f));
  as_many = count;
  room = subst (λ n. most ≤ n) (sym capacity) h.room;
}

-- ---- a value is lent

same_count : (n m a b : ℕ) → n + a ≡ m + b → a ≡ b → n ≡ m
same_count n m a b e f = omega (arith, e, f)

-- A slab holds as many values after a write through a loan.
pub written_len : {A : Type 0} (s : Slab A) (key : ℕ) (w : A) → ContainsKey s key → slab_len (with_value s key w) ≡ slab_len s
written_len {A} s key w there =
    same_count (slab_len (with_value s key w)) (slab_len s) (cond (is_some (under s key)) 1 0) 1
    (sum_by-set (λ (o : Option A). cond (is_some o) 1 0) s.slots key (Some w) None (ContainsKey-within s key there)) (ap (λ b. cond b 1 0) there)

pub kept_written : {A : Type 0} (keys : Table ℕ) (s : Slab A) (t key : ℕ) (w : A) → IsKept keys s → get keys t ≡ Some key → IsKept keys (with_value s key w)
kept_written keys s t key w h e =
    let there : ContainsKey s key = h.stored t key e in
    let same : put keys t key ≡ keys = put_same keys t key h.rises e in
    subst (λ (ks : Table ℕ). IsKept ks (with_value s key w)) same
    (kept_put keys s (with_value s key w) t key w h (Updates-with_value s key w there) (λ q f. h.alone t q key e f)
    (written_len s key w there ∙ h.as_many ∙ ap length (sym same)) refl)

-- The values after a write through a loan.
pub written_values : {A : Type 0} (keys : Table ℕ) (s : Slab A) (t key : ℕ) (w : A) → IsKept keys s → get keys t ≡ Some key
    → values_by keys (with_value s key w) ≡ put (values_by keys s) t w
written_values keys s t key w h e =
    ap (λ (ks : Table ℕ). values_by ks (with_value s key w)) (sym (put_same keys t key h.rises e))
    ∙ put_values keys s (with_value s key w) t key w h (Updates-with_value s key w (h.stored t key e)) (λ q f. h.alone t q key e f)

-- ---- what the slab tells

pub no_values : {A : Type 0} (keys : Table ℕ) (s : Slab A) → keys ≡ none → values_by keys s ≡ none
unfolding values_by none
no_values keys s e = ap (λ (ks : Table ℕ). values_by ks s) e

no_length : (keys : Table ℕ) → keys ≡ none → length keys ≡ 0
unfolding none
no_length keys e = ap length e

nothing_there : (keys : Table ℕ) (t key : ℕ) → keys ≡ none → get keys t ≡ Some key → ⊥
unfolding none
nothing_there keys t key e f = no_value (get keys t) (ap (λ (ks : Table ℕ). get ks t) e ∙ get_empty t) (ap is_some f)

pub kept_none : {A : Type 0} (keys : Table ℕ) (s : Slab A) → keys ≡ none → s.slots ≡ [] → most ≤ s.capacity → IsKept keys s
kept_none keys s e f room = record {
  rises = subst IsCanonical (sym e) (canonical_none ℕ);
  stored = λ t key g. absurd (nothing_there keys t key e g);
  alone = λ t q key g i. absurd (nothing_there keys t key e g);
  as_many = ap (count_by is_some) f ∙ sym (no_length keys e);
  room = room;
}

last_room : (b : Bool) (l n c : ℕ) → b ≡ false → (b || ltb l n) ≡ true → n ≤ c → l + 1 ≤ c
last_room b l n c e f h = grind (arith, nat_tests)

pub room_for_key : {A : Type 0} (keys : Table ℕ) (s : Slab A) (m : Table A) (t : ℕ) → IsKept keys s → values_by keys s ≡ m → get keys t ≡ None → has_place m t most ≡ true → HasRoomFor s 1
room_for_key {A} keys s m t h is missing room =
    subst (λ n. n + 1 ≤ s.capacity) (sym h.as_many)
    (last_room (has keys t) (length keys) most s.capacity (has_get keys t ∙ ap is_some missing)
    (sym (place_values keys s t most h) ∙ ap (λ (x : Table A). has_place x t most) is ∙ room) h.room)

-- What is under a number's key stands at the number.
pub lent : {A : Type 0} (keys : Table ℕ) (s : Slab A) (t key : ℕ) → IsKept keys s → get keys t ≡ Some key → under s key ≡ get (values_by keys s) t
lent keys s t key h e = sym (get_values keys s t h.rises ∙ ap (found s) e)

pub missed : {A : Type 0} (keys : Table ℕ) (s : Slab A) (t : ℕ) → IsKept keys s → get keys t ≡ None → get (values_by keys s) t ≡ None
missed keys s t h e = get_values keys s t h.rises ∙ ap (found s) e

pub lent_some : {A : Type 0} (r : Option (Bor A)) (o : Option A) → option_copied r ≡ o → is_some r ≡ is_some o
lent_some None o e = ap is_some e
lent_some (Some x) o e = ap is_some e

pub mutably_some : {A : Type 0} (r : Option (MutBor A)) (o : Option A) → option_copied_mut r ≡ o → is_some r ≡ is_some o
mutably_some None o e = ap is_some e
mutably_some (Some x) o e = ap is_some e
