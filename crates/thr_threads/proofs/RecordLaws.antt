-- The records of a slab under their numbers' keys, and what they are after a change.
use Rattle.std.proofs.Common.{◌≡◌, ℕ, suc, ℤ, pos, negsuc, ◌+◌, ◌^◌, ◌<◌, ◌≤◌, Bool, true, false, ◌||◌, ◌&&◌, cond, eqb, ltb, [], ◌∷◌, length, count_by, Option, Some, None, IfSome, option_copied, Bor, refl, sym, arith, ◌∙◌, ap, subst}
use Rattle.std.proofs.lemmas.Bool.Decides.{nat_tests}
use Rattle.std.specs.Option.{is_some, option_map}
use Rattle.std.specs.Int.{FitsUnsignedBits}
use Rattle.std.specs.Ordering.{nat_cmp, is_lt}
use Rattle.std.specs.declared.cmp.Ordering.{Ordering}
use Rattle.std.specs.declared.cmp.Ordering.TheVariants.{Less, Equal, Greater}
use Rattle.std.specs.FinMap.Entries as entries
use Rattle.slab.specs.Slab.{Slab, get as under, slab_len, ContainsKey, Updates, HasRoomFor}
use Rattle.thr_parts.specs.declared.thread.Thread.{Thread}
use Rattle.thr_parts.specs.Tables.{Table, none, get, has, put, cut, IsCanonical}
use Rattle.thr_parts.specs.Rows.{most}
use Rattle.thr_parts.proofs.TableLaws.{get_put, get_cut, has_get, canonical_none, canonical_put, canonical_cut, same_table}
use Rattle.thr_parts.proofs.EntryLaws.{get_cons, get_empty}
use Rattle.thr_tables.specs.Places.{has_place}
use Rattle.thr_threads.specs.Records.{IsRecordOf, IsStored, IsKept, record_in, record_under, records_by, named}

-- ---- what stands at a number

found_head : (s : Slab Thread) (key : ℕ) (o : Option ℕ) (b : Bool)
    → cond b (Some (record_under s key)) (option_map (record_under s) o) ≡ option_map (record_under s) (cond b (Some key) o)
found_head s key o true = refl
found_head s key o false = refl

-- At a number stands the record under its key.
pub get_records : (keys : Table ℕ) (s : Slab Thread) (q : ℕ) → get (records_by keys s) q ≡ option_map (record_under s) (get keys q)
unfolding records_by
get_records [] s q = get_empty q ∙ sym (ap (option_map (record_under s)) (get_empty q))
get_records (e ∷ es) s q =
    get_cons (e.0, record_under s e.1) (records_by es s) q ∙ ap (cond (eqb e.0 q) (Some (record_under s e.1))) (get_records es s q)
    ∙ found_head s e.1 (get es q) (eqb e.0 q) ∙ sym (ap (option_map (record_under s)) (get_cons e es q))

some_mapped : (s : Slab Thread) (o : Option ℕ) → is_some (option_map (record_under s) o) ≡ is_some o
some_mapped s None = refl
some_mapped s (Some key) = refl

pub has_records : (keys : Table ℕ) (s : Slab Thread) (q : ℕ) → has (records_by keys s) q ≡ has keys q
has_records keys s q = has_get (records_by keys s) q ∙ ap is_some (get_records keys s q) ∙ some_mapped s (get keys q) ∙ sym (has_get keys q)

pub length_records : (keys : Table ℕ) (s : Slab Thread) → length (records_by keys s) ≡ length keys
unfolding records_by
length_records [] s = refl
length_records (e ∷ es) s = ap suc (length_records es s)

below_records : (x : ℕ) (keys : Table ℕ) (s : Slab Thread) → entries.below_all nat_cmp x (records_by keys s) ≡ entries.below_all nat_cmp x keys
unfolding records_by
below_records x [] s = refl
below_records x (e ∷ es) s = ap (λ b. is_lt (nat_cmp x e.0) && b) (below_records x es s)

sorted_records : (keys : Table ℕ) (s : Slab Thread) → entries.is_sorted nat_cmp (records_by keys s) ≡ entries.is_sorted nat_cmp keys
unfolding records_by
sorted_records [] s = refl
sorted_records (e ∷ es) s = ap (λ b. b && entries.is_sorted nat_cmp (records_by es s)) (below_records e.0 es s) ∙ ap (λ b. entries.below_all nat_cmp e.0 es && b) (sorted_records es s)

pub canonical_records : (keys : Table ℕ) (s : Slab Thread) → IsCanonical keys → IsCanonical (records_by keys s)
canonical_records keys s h = sorted_records keys s ∙ h

pub place_records : (keys : Table ℕ) (s : Slab Thread) (t n : ℕ) → has_place (records_by keys s) t n ≡ has_place keys t n
place_records keys s t n = ap (λ b. b || ltb (length (records_by keys s)) n) (has_records keys s t) ∙ ap (λ l. has keys t || ltb l n) (length_records keys s)

-- ---- tables of keys

same_number : (x y : ℕ) → eqb x y ≡ true → x ≡ y
same_number x y e = grind (arith, nat_tests)

put_same_by : (t q : ℕ) (v : ℕ) (keys : Table ℕ) (b : Bool) → eqb t q ≡ b → get keys t ≡ Some v → cond b (Some v) (get keys q) ≡ get keys q
put_same_by t q v keys true is e = sym e ∙ ap (get keys) (same_number t q is)
put_same_by t q v keys false is e = refl

-- What stands at a number may be put there.
pub put_same : (keys : Table ℕ) (t v : ℕ) → IsCanonical keys → get keys t ≡ Some v → put keys t v ≡ keys
put_same keys t v h e = same_table (put keys t v) keys (canonical_put keys t v h) h (λ q. get_put keys t q v ∙ put_same_by t q v keys (eqb t q) refl e)

cut_same_by : {A : Type 0} (t q : ℕ) (m : Table A) (b : Bool) → eqb t q ≡ b → get m t ≡ None → cond b None (get m q) ≡ get m q
cut_same_by t q m true is e = sym e ∙ ap (get m) (same_number t q is)
cut_same_by t q m false is e = refl

-- Where nothing stands nothing is cut.
pub cut_same : {A : Type 0} (m : Table A) (t : ℕ) → IsCanonical m → get m t ≡ None → m ≡ cut m t
cut_same m t h e = sym (same_table (cut m t) m (canonical_cut m t h) h (λ q. get_cut m t q ∙ cut_same_by t q m (eqb t q) refl e))

abbrev ordered : {A : Type 0} → ℕ → A → ℕ × A → Table A → Ordering → Table A
ordered t v e es o = entries.by_order o ((t, v) ∷ e ∷ es) ((e.0, v) ∷ es) (e ∷ entries.put nat_cmp t v es)

equal_number : (t x : ℕ) → nat_cmp t x ≡ Equal → eqb x t ≡ true
equal_number t x e = grind (arith, nat_tests)

greater_number : (t x : ℕ) → nat_cmp t x ≡ Greater → eqb x t ≡ false
greater_number t x e = grind (arith, nat_tests)

longer_by : {A : Type 0} (t : ℕ) (v : A) (e : ℕ × A) (es : Table A) (o : Ordering) → nat_cmp t e.0 ≡ o → cond (eqb e.0 t) (Some e.1) (get es t) ≡ None
    → (get es t ≡ None → length (entries.put nat_cmp t v es) ≡ suc (length es)) → length (ordered t v e es o) ≡ suc (suc (length es))
longer_by t v e es Less is missing rest = refl
longer_by t v e es Equal is missing rest = absurd (cc (equal_number t e.0 is))
longer_by t v e es Greater is missing rest = ap suc (rest (sym (ap (λ b. cond b (Some e.1) (get es t)) (greater_number t e.0 is)) ∙ missing))

-- A table is one longer with what is put at a number at which nothing stood.
pub longer : {A : Type 0} (m : Table A) (t : ℕ) (v : A) → get m t ≡ None → length (put m t v) ≡ length m + 1
unfolding put
longer [] t v e = refl
longer (e ∷ es) t v missing = longer_by t v e es (nat_cmp t e.0) refl (sym (get_cons e es t) ∙ missing) (λ none. longer es t v none ∙ omega arith) ∙ omega arith

-- ---- a record that is stored

pub no_value : {A : Type 0} (o : Option A) (v : A) → o ≡ None → o ≡ Some v → ⊥
no_value o v e f = absurd (cc)

some_inside : {A : Type 0} (x y : A) → Some x ≡ Some y → x ≡ y
some_inside x y e = cc

-- A key is that of one number.
pub one_number : (keys : Table ℕ) (s : Slab Thread) (t q key : ℕ) → IsKept keys s → get keys t ≡ Some key → get keys q ≡ Some key → q ≡ t
one_number keys s t q key h e f =
    let a : IsStored s t key = h.stored t key e in
    let b : IsStored s q key = h.stored q key f in
    let same : b.held ≡ a.held = some_inside b.held a.held (sym b.stands ∙ a.stands) in
    sym b.is_its.number ∙ ap (λ (th : Thread). th.tid.0) same ∙ a.is_its.number

-- A key under which nothing stands is that of no number.
pub no_number : (keys : Table ℕ) (s : Slab Thread) (t q key : ℕ) → IsKept keys s → under s key ≡ None → get keys q ≡ Some key → q ≡ t
no_number keys s t q key h e f =
    let b : IsStored s q key = h.stored q key f in
    absurd (no_value (under s key) b.held e b.stands)

-- ---- a record is put

not_other : (t q : ℕ) → eqb t q ≡ false → q ≡ t → ⊥
not_other t q e f = grind (arith, nat_tests)

record_same : (s s' : Slab Thread) (key other : ℕ) (slot : Option Thread) → Updates s s' key slot → (other ≡ key → ⊥) → record_under s' other ≡ record_under s other
record_same s s' key other slot u n = ap record_in (u.others other n)

others_same : (keys : Table ℕ) (s s' : Slab Thread) (t q key : ℕ) (slot : Option Thread) (o : Option ℕ) → Updates s s' key slot → ((p : ℕ) → get keys p ≡ Some key → p ≡ t)
    → eqb t q ≡ false → get keys q ≡ o → option_map (record_under s') o ≡ option_map (record_under s) o
others_same keys s s' t q key slot None u fresh is e = refl
others_same keys s s' t q key slot (Some other) u fresh is e =
    ap Some (record_same s s' key other slot u (λ same. not_other t q is (fresh q (e ∙ ap Some same))))

put_at : (keys : Table ℕ) (s s' : Slab Thread) (t q key : ℕ) (v : Thread) (b : Bool) → Updates s s' key (Some v) → ((p : ℕ) → get keys p ≡ Some key → p ≡ t)
    → eqb t q ≡ b → option_map (record_under s') (cond b (Some key) (get keys q)) ≡ cond b (Some v) (option_map (record_under s) (get keys q))
put_at keys s s' t q key v true u fresh is = ap (λ (o : Option Thread). Some (record_in o)) u.changed
put_at keys s s' t q key v false u fresh is = others_same keys s s' t q key (Some v) (get keys q) u fresh is refl

-- The records with one more, or with another in its place.
pub put_records : (keys : Table ℕ) (s s' : Slab Thread) (t key : ℕ) (v : Thread) → IsKept keys s → Updates s s' key (Some v) → ((p : ℕ) → get keys p ≡ Some key → p ≡ t)
    → records_by (put keys t key) s' ≡ put (records_by keys s) t v
put_records keys s s' t key v h u fresh =
    same_table (records_by (put keys t key) s') (put (records_by keys s) t v)
    (canonical_records (put keys t key) s' (canonical_put keys t key h.rises)) (canonical_put (records_by keys s) t v (canonical_records keys s h.rises)) (λ q.
    get_records (put keys t key) s' q ∙ ap (option_map (record_under s')) (get_put keys t q key) ∙ put_at keys s s' t q key v (eqb t q) u fresh refl
    ∙ sym (get_put (records_by keys s) t q v ∙ ap (cond (eqb t q) (Some v)) (get_records keys s q)))

moved : (s : Slab Thread) (t q key : ℕ) → t ≡ q → IsStored s t key → IsStored s q key
moved s t q key e h = subst (λ n. IsStored s n key) e h

kept_other : (keys : Table ℕ) (s s' : Slab Thread) (t q key other : ℕ) (slot : Option Thread) → IsKept keys s → Updates s s' key slot → ((p : ℕ) → get keys p ≡ Some key → p ≡ t)
    → eqb t q ≡ false → get keys q ≡ Some other → IsStored s' q other
kept_other keys s s' t q key other slot h u fresh is e =
    let a : IsStored s q other = h.stored q other e in record {
      held = a.held;
      stands = u.others other (λ same. not_other t q is (fresh q (e ∙ ap Some same))) ∙ a.stands;
      is_its = a.is_its;
    }

put_stored : (keys : Table ℕ) (s s' : Slab Thread) (t q key other : ℕ) (v : Thread) (b : Bool) → IsKept keys s → Updates s s' key (Some v) → ((p : ℕ) → get keys p ≡ Some key → p ≡ t)
    → IsRecordOf t v → eqb t q ≡ b → cond b (Some key) (get keys q) ≡ Some other → IsStored s' q other
put_stored keys s s' t q key other v true h u fresh its is e =
    subst (λ k. IsStored s' q k) (some_inside key other e) (moved s' t q key (same_number t q is) record { held = v; stands = u.changed; is_its = its })
put_stored keys s s' t q key other v false h u fresh its is e = kept_other keys s s' t q key other (Some v) h u fresh is e

pub kept_put : (keys : Table ℕ) (s s' : Slab Thread) (t key : ℕ) (v : Thread) → IsKept keys s → Updates s s' key (Some v) → ((p : ℕ) → get keys p ≡ Some key → p ≡ t)
    → IsRecordOf t v → slab_len s' ≡ length (put keys t key) → s'.capacity ≡ s.capacity → IsKept (put keys t key) s'
kept_put keys s s' t key v h u fresh its count capacity = record {
  rises = canonical_put keys t key h.rises;
  stored = λ q other e. put_stored keys s s' t q key other v (eqb t q) h u fresh its refl (sym (get_put keys t q key) ∙ e);
  as_many = count;
  room = subst (λ n. most ≤ n) (sym capacity) h.room;
}

-- ---- a record is cut

cut_at : (keys : Table ℕ) (s s' : Slab Thread) (t q key : ℕ) (b : Bool) → Updates s s' key None → ((p : ℕ) → get keys p ≡ Some key → p ≡ t)
    → eqb t q ≡ b → option_map (record_under s') (cond b None (get keys q)) ≡ cond b None (option_map (record_under s) (get keys q))
cut_at keys s s' t q key true u fresh is = refl
cut_at keys s s' t q key false u fresh is = others_same keys s s' t q key None (get keys q) u fresh is refl

-- The records without one.
pub cut_records : (keys : Table ℕ) (s s' : Slab Thread) (t key : ℕ) → IsKept keys s → Updates s s' key None → get keys t ≡ Some key
    → records_by (cut keys t) s' ≡ cut (records_by keys s) t
cut_records keys s s' t key h u e =
    same_table (records_by (cut keys t) s') (cut (records_by keys s) t)
    (canonical_records (cut keys t) s' (canonical_cut keys t h.rises)) (canonical_cut (records_by keys s) t (canonical_records keys s h.rises)) (λ q.
    get_records (cut keys t) s' q ∙ ap (option_map (record_under s')) (get_cut keys t q)
    ∙ cut_at keys s s' t q key (eqb t q) u (λ p f. one_number keys s t p key h e f) refl
    ∙ sym (get_cut (records_by keys s) t q ∙ ap (cond (eqb t q) None) (get_records keys s q)))

cut_stored : (keys : Table ℕ) (s s' : Slab Thread) (t q key other : ℕ) (b : Bool) → IsKept keys s → Updates s s' key None → ((p : ℕ) → get keys p ≡ Some key → p ≡ t)
    → eqb t q ≡ b → cond b None (get keys q) ≡ Some other → IsStored s' q other
cut_stored keys s s' t q key other true h u fresh is e = absurd (cc)
cut_stored keys s s' t q key other false h u fresh is e = kept_other keys s s' t q key other None h u fresh is e

pub kept_cut : (keys : Table ℕ) (s s' : Slab Thread) (t key : ℕ) → IsKept keys s → Updates s s' key None → get keys t ≡ Some key
    → slab_len s' ≡ length (cut keys t) → s'.capacity ≡ s.capacity → IsKept (cut keys t) s'
kept_cut keys s s' t key h u e count capacity = record {
  rises = canonical_cut keys t h.rises;
  stored = λ q other f. cut_stored keys s s' t q key other (eqb t q) h u (λ p g. one_number keys s t p key h e g) refl (sym (get_cut keys t q) ∙ f);
  as_many = count;
  room = subst (λ n. most ≤ n) (sym capacity) h.room;
}

-- ---- what the slab tells

pub no_records : (keys : Table ℕ) (s : Slab Thread) → keys ≡ none → records_by keys s ≡ none
unfolding records_by none
no_records keys s e = ap (λ (ks : Table ℕ). records_by ks s) e

no_length : (keys : Table ℕ) → keys ≡ none → length keys ≡ 0
unfolding none
no_length keys e = ap length e

nothing_at : (keys : Table ℕ) (t key : ℕ) → keys ≡ none → get keys t ≡ Some key → ⊥
unfolding none
nothing_at keys t key e f = no_value (get keys t) key (ap (λ (ks : Table ℕ). get ks t) e ∙ get_empty t) f

pub kept_none : (keys : Table ℕ) (s : Slab Thread) → keys ≡ none → s.slots ≡ [] → most ≤ s.capacity → IsKept keys s
kept_none keys s e f room = record {
  rises = subst IsCanonical (sym e) (canonical_none ℕ);
  stored = λ t key g. absurd (nothing_at keys t key e g);
  as_many = ap (count_by is_some) f ∙ sym (no_length keys e);
  room = room;
}

pub has_key : (keys : Table ℕ) (s : Slab Thread) (t key : ℕ) → IsKept keys s → get keys t ≡ Some key → ContainsKey s key
has_key keys s t key h e = let a : IsStored s t key = h.stored t key e in ap is_some a.stands

last_room : (b : Bool) (l n c : ℕ) → b ≡ false → (b || ltb l n) ≡ true → n ≤ c → l + 1 ≤ c
last_room b l n c e f h = grind (arith, nat_tests)

pub room_for_key : (keys : Table ℕ) (s : Slab Thread) (m : Table Thread) (t : ℕ) → IsKept keys s → records_by keys s ≡ m → get keys t ≡ None → has_place m t most ≡ true → HasRoomFor s 1
room_for_key keys s m t h is missing room =
    subst (λ n. n + 1 ≤ s.capacity) (sym h.as_many)
    (last_room (has keys t) (length keys) most s.capacity (has_get keys t ∙ ap is_some missing)
    (sym (place_records keys s t most) ∙ ap (λ (x : Table Thread). has_place x t most) is ∙ room) h.room)

pub lent : (keys : Table ℕ) (s : Slab Thread) (t key : ℕ) → IsKept keys s → get keys t ≡ Some key → under s key ≡ get (records_by keys s) t
lent keys s t key h e =
    let a : IsStored s t key = h.stored t key e in
    a.stands ∙ sym (get_records keys s t ∙ ap (option_map (record_under s)) e ∙ ap (λ (o : Option Thread). Some (record_in o)) a.stands)

pub lent_some : (r : Option (Bor Thread)) (o : Option Thread) → option_copied r ≡ o → is_some r ≡ is_some o
lent_some None o e = ap is_some e
lent_some (Some x) o e = ap is_some e

its_now : (r : Option (Bor Thread)) (held : Thread) (t : ℕ) → IsRecordOf t held → option_copied r ≡ Some held → IfSome r (λ th. IsRecordOf t th.now)
its_now None held t its e = tt
its_now (Some x) held t its e = subst (IsRecordOf t) (sym (some_inside x.now held e)) its

pub lent_its : (keys : Table ℕ) (s : Slab Thread) (t key : ℕ) (r : Option (Bor Thread)) → IsKept keys s → get keys t ≡ Some key → option_copied r ≡ under s key
    → IfSome r (λ th. IsRecordOf t th.now)
lent_its keys s t key r h e f = let a : IsStored s t key = h.stored t key e in its_now r a.held t a.is_its (f ∙ a.stands)

-- ---- numbers that no thread has

not_stored : (s : Slab Thread) (n : ℕ) (o : Option ℕ) → ((key : ℕ) → o ≡ Some key → IsStored s n key) → (n < 2 ^ 32 → ⊥) → None ≡ option_map (record_under s) o
not_stored s n None stored beyond = refl
not_stored s n (Some key) stored beyond = let a : IsStored s n key = stored key refl in absurd (beyond a.is_its.number_fits)

-- No record is that of a number outside those of threads.
pub none_named : (keys : Table ℕ) (s : Slab Thread) (target : ℤ) → IsKept keys s → (FitsUnsignedBits 32 target → ⊥) → None ≡ named (records_by keys s) target
none_named keys s (pos n) h beyond = not_stored s n (get keys n) (λ key e. h.stored n key e) beyond ∙ sym (get_records keys s n)
none_named keys s (negsuc n) h beyond = refl
