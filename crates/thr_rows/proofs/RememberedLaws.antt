-- The seats among entries, some of which have none.
use Rattle.std.proofs.Common.{◌≡◌, ℕ, zero, suc, ◌+◌, ◌<◌, ◌≤◌, set, Bool, true, false, ◌||◌, cond, eqb, List, [], ◌∷◌, length, Option, Some, None, is_some, refl, sym, arith, ◌∙◌, ap, subst}
use Rattle.std.proofs.lemmas.Bool.Decides.{nat_tests}
use Rattle.std.proofs.lemmas.List.{length-set}
use Rattle.std.specs.Prelude.{nat_lt}
use Rattle.std.specs.List.{filter, insert}
use Rattle.std.specs.Ordering.{nat_cmp}
use Rattle.std.specs.FinMap.Entries as entries
use Rattle.thr_parts.specs.declared.row.Seat.{Seat}
use Rattle.thr_parts.specs.Tables.{Table, none, get, has, put, cut, put_if, IsCanonical}
use Rattle.thr_parts.proofs.TableLaws.{get_none, get_put, get_cut, has_get, canonical_none, canonical_put, canonical_cut, canonical_put_if, same_table, put_cut}
use Rattle.thr_parts.proofs.EntryLaws.{both_true, get_cons, get_empty, nothing_at, pass, pass_none, pass_some, canonical_filter, get_filter}
use Rattle.thr_parts.proofs.LengthLaws.{not_longer}
use Rattle.thr_tables.specs.Places.{place, is_there}
use Rattle.thr_tables.proofs.PlaceLaws.{has_is, put_is}
use Rattle.thr_rows.specs.Remembered.{joined, seated}

same_number : (x y : ℕ) → eqb x y ≡ true → x ≡ y
same_number x y e = grind (arith, nat_tests)

-- ---- how long a table is after a change

inserted_length : {A : Type 0} (xs : List A) (i : ℕ) (x : A) → length (insert xs i x) ≡ suc (length xs)
inserted_length [] zero x = refl
inserted_length [] (suc i) x = refl
inserted_length (y ∷ ys) zero x = refl
inserted_length (y ∷ ys) (suc i) x = ap suc (inserted_length ys i x)

put_length : {A : Type 0} (m : Table A) (k : ℕ) (v : A) (b : Bool) → is_there k m ≡ b → length (put m k v) ≡ cond b (length m) (suc (length m))
put_length m k v true is = ap length (put_is k v m ∙ ap (λ b. cond b (set m (place k m) (k, v)) (insert m (place k m) (k, v))) is) ∙ length-set m (place k m) (k, v)
put_length m k v false is = ap length (put_is k v m ∙ ap (λ b. cond b (set m (place k m) (k, v)) (insert m (place k m) (k, v))) is) ∙ inserted_length m (place k m) (k, v)

pub length_put_known : {A : Type 0} (m : Table A) (k : ℕ) (v : A) → IsCanonical m → has m k ≡ true → length (put m k v) ≡ length m
length_put_known m k v h is = put_length m k v true (sym (has_is k m h) ∙ is)

pub length_put_new : {A : Type 0} (m : Table A) (k : ℕ) (v : A) → IsCanonical m → has m k ≡ false → length (put m k v) ≡ suc (length m)
length_put_new m k v h is = put_length m k v false (sym (has_is k m h) ∙ is)

gone : (k : ℕ) → eqb k k ≡ true
gone k = grind (arith, nat_tests)

pub has_cut : {A : Type 0} (m : Table A) (k : ℕ) → has (cut m k) k ≡ false
has_cut m k = has_get (cut m k) k ∙ ap is_some (get_cut m k k ∙ ap (λ b. cond b None (get m k)) (gone k))

value_of : {A : Type 0} (m : Table A) (k : ℕ) (o : Option A) → get m k ≡ o → has m k ≡ true → A
value_of m k None e h = absurd (never (sym h ∙ has_get m k ∙ ap is_some e))
  where
    never : true ≡ false → ⊥
    never h = absurd (cc)
value_of m k (Some v) e h = v

pub length_cut : {A : Type 0} (m : Table A) (k : ℕ) → IsCanonical m → has m k ≡ true → suc (length (cut m k)) ≡ length m
length_cut m k h is =
    let v : _ = value_of m k (get m k) refl is in
    sym (length_put_new (cut m k) k v (canonical_cut m k h) (has_cut m k)) ∙ ap length (put_cut m k v h) ∙ length_put_known m k v h is

-- ---- the seats among the entries

seated_empty : {A : Type 0} → seated {A = A} [] ≡ none
unfolding seated
seated_empty = refl

seated_cons : {A : Type 0} (e : ℕ × Option A) (es : Table (Option A)) → seated (e ∷ es) ≡ put_if (seated es) e.0 e.1
unfolding seated
seated_cons e es = refl

pub seated_none : none ≡ seated {A = Seat} none
unfolding none seated
seated_none = refl

pub canonical_seated : {A : Type 0} (es : Table (Option A)) → IsCanonical (seated es)
canonical_seated [] = subst IsCanonical (sym seated_empty) (canonical_none _)
canonical_seated (e ∷ es) = subst IsCanonical (sym (seated_cons e es)) (canonical_put_if (seated es) e.0 e.1 (canonical_seated es))

seated_head : {A : Type 0} (k q : ℕ) (o : Option A) (es : Table (Option A)) (b : Bool) → eqb k q ≡ b → entries.below_all nat_cmp k es ≡ true
    → get (seated es) q ≡ joined (get es q) → get (put_if (seated es) k o) q ≡ joined (cond b (Some o) (get es q))
seated_head k q (Some v) es true is below rest = get_put (seated es) k q v ∙ ap (λ b. cond b (Some v) (get (seated es) q)) is
seated_head k q (Some v) es false is below rest = get_put (seated es) k q v ∙ ap (λ b. cond b (Some v) (get (seated es) q)) is ∙ rest
seated_head k q None es true is below rest = rest ∙ ap joined (sym (ap (get es) (same_number k q is)) ∙ nothing_at k es below)
seated_head k q None es false is below rest = rest

pub get_seated : {A : Type 0} (es : Table (Option A)) (q : ℕ) → IsCanonical es → get (seated es) q ≡ joined (get es q)
get_seated [] q h = ap (λ m. get m q) seated_empty ∙ get_none q ∙ sym (ap joined (get_empty q))
get_seated (e ∷ es) q h =
    let parts : (entries.below_all nat_cmp e.0 es ≡ true) × (entries.is_sorted nat_cmp es ≡ true) = both_true _ _ h in
    ap (λ m. get m q) (seated_cons e es) ∙ seated_head e.0 q e.1 es (eqb e.0 q) refl parts.0 (get_seated es q parts.1) ∙ sym (ap joined (get_cons e es q))

joined_put : {A : Type 0} (b : Bool) (v : A) (o : Option (Option A)) → joined (cond b (Some (Some v)) o) ≡ cond b (Some v) (joined o)
joined_put true v o = refl
joined_put false v o = refl

joined_cut : {A : Type 0} (b : Bool) (o : Option (Option A)) → joined (cond b (Some None) o) ≡ cond b None (joined o)
joined_cut true o = refl
joined_cut false o = refl

pub seated_put : {A : Type 0} (es : Table (Option A)) (k : ℕ) (v : A) → IsCanonical es → seated (put es k (Some v)) ≡ put (seated es) k v
seated_put es k v h =
    same_table _ _ (canonical_seated (put es k (Some v))) (canonical_put (seated es) k v (canonical_seated es)) (λ q.
    get_seated (put es k (Some v)) q (canonical_put es k (Some v) h) ∙ ap joined (get_put es k q (Some v)) ∙ joined_put (eqb k q) v (get es q)
    ∙ sym (get_put (seated es) k q v ∙ ap (λ o. cond (eqb k q) (Some v) o) (get_seated es q h)))

pub seated_cut : {A : Type 0} (es : Table (Option A)) (k : ℕ) → IsCanonical es → seated (put es k None) ≡ cut (seated es) k
seated_cut es k h =
    same_table _ _ (canonical_seated (put es k None)) (canonical_cut (seated es) k (canonical_seated es)) (λ q.
    get_seated (put es k None) q (canonical_put es k None h) ∙ ap joined (get_put es k q None) ∙ joined_cut (eqb k q) (get es q)
    ∙ sym (get_cut (seated es) k q ∙ ap (λ o. cond (eqb k q) None o) (get_seated es q h)))

-- ---- without the entries that have none

abbrev sits : {A : Type 0} → ℕ × Option A → Bool
sits e = is_some e.1

joined_pass : {A : Type 0} (q : ℕ) (o : Option (Option A)) → joined (pass sits q o) ≡ joined o
joined_pass q None = ap joined (pass_none sits q)
joined_pass q (Some None) = ap joined (pass_some sits q None)
joined_pass q (Some (Some v)) = ap joined (pass_some sits q (Some v))

pub seated_swept : {A : Type 0} (es : Table (Option A)) → IsCanonical es → seated (filter (λ e. is_some e.1) es) ≡ seated es
seated_swept es h =
    same_table _ _ (canonical_seated (filter sits es)) (canonical_seated es) (λ q.
    get_seated (filter sits es) q (canonical_filter sits es h) ∙ ap joined (get_filter sits q es h) ∙ joined_pass q (get es q) ∙ sym (get_seated es q h))

sits_there : {A : Type 0} (q : ℕ) (o : Option (Option A)) → is_some (pass sits q o) ≡ true → is_some (joined o) ≡ true
sits_there q None h = absurd (never (sym (ap is_some (pass_none sits q)) ∙ h))
  where
    never : false ≡ true → ⊥
    never h = absurd (cc)
sits_there q (Some None) h = absurd (never (sym (ap is_some (pass_some sits q None)) ∙ h))
  where
    never : false ≡ true → ⊥
    never h = absurd (cc)
sits_there q (Some (Some v)) h = refl

pub swept_length : {A : Type 0} (es : Table (Option A)) → IsCanonical es → length (filter (λ e. is_some e.1) es) ≤ length (seated es)
swept_length es h =
    not_longer (filter sits es) (seated es) (canonical_filter sits es h) (λ q is.
    has_get (seated es) q ∙ ap is_some (get_seated es q h) ∙ sits_there q (get es q) (sym (ap is_some (get_filter sits q es h)) ∙ sym (has_get (filter sits es) q) ∙ is))

-- ---- entries by their numbers

joined_some : {A : Type 0} (o : Option (Option A)) → is_some (joined o) ≡ true → is_some o ≡ true
joined_some None h = h
joined_some (Some o) h = refl

pub entry_known : {A : Type 0} (es : Table (Option A)) (k : ℕ) → IsCanonical es → is_some (get (seated es) k) ≡ true → has es k ≡ true
entry_known es k h is = has_get es k ∙ joined_some (get es k) (sym (ap is_some (get_seated es k h)) ∙ is)

pub place_free : {A : Type 0} (m : Table A) (k n : ℕ) → length m < n → (has m k || nat_lt (length m) n) ≡ true
place_free m k n h = grind (arith, nat_tests)

pub find_value : {A : Type 0} (es : Table (Option A)) (q : ℕ) (o : Option (Option A)) → IsCanonical es → o ≡ get es q → joined o ≡ get (seated es) q
find_value es q o h is = ap joined is ∙ sym (get_seated es q h)

pub find_known : {A : Type 0} (es : Table (Option A)) (q : ℕ) (o : Option (Option A)) → IsCanonical es → o ≡ get es q → is_some (joined o) ≡ has (seated es) q
find_known es q o h is = ap is_some (find_value es q o h is) ∙ sym (has_get (seated es) q)

pub nobody_sits : (m : Table (Option Seat)) → m ≡ none → 0 ≡ length (seated m)
unfolding none seated
nobody_sits m is = sym (ap (λ m. length (seated m)) is)

-- ---- how many sit after a change

pub count_known : (n k : ℕ) (s : Seat) (m next : Table Seat) → IsCanonical m → n ≡ length m → has m k ≡ true → next ≡ put m k s → n ≡ length next
count_known n k s m next h count is changed = count ∙ sym (ap length changed ∙ length_put_known m k s h is)

pub count_new : (n k : ℕ) (s : Seat) (m next : Table Seat) → IsCanonical m → n ≡ length m → has m k ≡ false → next ≡ put m k s → n + 1 ≡ length next
count_new n k s m next h count is changed =
    let more : length next ≡ suc (length m) = ap length changed ∙ length_put_new m k s h is in omega (arith, count, more)

pub count_cut : (n k : ℕ) (m next : Table Seat) → IsCanonical m → n ≡ length m → has m k ≡ true → next ≡ cut m k → length next + 1 ≡ n
count_cut n k m next h count is changed =
    let less : suc (length (cut m k)) ≡ length m = length_cut m k h is in
    let same : length next ≡ length (cut m k) = ap length changed in omega (arith, count, less, same)

pub free_place : (m : Table Seat) (k n : ℕ) → has m k ≡ false → (has m k || nat_lt (length m) n) ≡ true → length m < n
free_place m k n missed free = grind (arith, nat_tests, missed, free)

cut_nothing : {A : Type 0} (b : Bool) (o : Option A) → (b ≡ true → o ≡ None) → o ≡ cond b None o
cut_nothing true o h = h refl
cut_nothing false o h = refl

nothing_there : {A : Type 0} (o : Option A) → is_some o ≡ false → o ≡ None
nothing_there None h = refl
nothing_there (Some v) h = absurd (cc)

pub cut_missed : {A : Type 0} (m : Table A) (k : ℕ) → IsCanonical m → has m k ≡ false → m ≡ cut m k
cut_missed m k h missed =
    same_table _ _ h (canonical_cut m k h) (λ q.
    cut_nothing (eqb k q) (get m q) (λ same. ap (get m) (sym (same_number k q same)) ∙ nothing_there (get m k) (sym (has_get m k) ∙ missed)) ∙ sym (get_cut m k q))

pub swept_place : {A : Type 0} (es next : Table (Option A)) → IsCanonical es → next ≡ filter (λ e. is_some e.1) es → length (seated es) ≤ 1024 → length next < 2048
swept_place es next h is within =
    let few : length (filter (λ e. is_some e.1) es) ≤ length (seated es) = swept_length es h in
    let same : length next ≡ length (filter (λ e. is_some e.1) es) = ap length is in omega (arith, few, same, within)

put_nothing : {A : Type 0} (b : Bool) (v : A) (o : Option A) → (b ≡ true → o ≡ Some v) → o ≡ cond b (Some v) o
put_nothing true v o h = h refl
put_nothing false v o h = refl

-- A table stays as it is where what stands at a number is put there.
pub put_same : {A : Type 0} (m : Table A) (k : ℕ) (v : A) → IsCanonical m → get m k ≡ Some v → m ≡ put m k v
put_same m k v h at =
    same_table _ _ h (canonical_put m k v h) (λ q.
    put_nothing (eqb k q) v (get m q) (λ same. ap (get m) (sym (same_number k q same)) ∙ at) ∙ sym (get_put m k q v))
