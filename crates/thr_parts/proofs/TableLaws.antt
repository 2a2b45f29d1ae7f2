-- What a table has after a change, that its numbers still rise, and that it is known by what it has at each number.
use Rattle.std.proofs.Common.{◌≡◌, ℕ, ◌+◌, ◌-◌, ◌<◌, Bool, true, false, not, cond, eqb, ltb, T, List, [], ◌∷◌, length, get_or, set, Option, Some, None, refl, sym, arith, ◌∙◌, ap, subst}
use Rattle.std.proofs.lemmas.Bool.Decides.{nat_tests}
use Rattle.std.proofs.lemmas.List.{get_or-set_same, get_or-set_other}
use Rattle.std.specs.Option.{unwrap_or, is_some}
use Rattle.std.specs.Ordering.{nat_cmp, eq_by_cmp}
use Rattle.std.specs.Cmp.{nat_cmp_total}
use Rattle.std.specs.FinMap.{nat_cmp-IsAntisymmetric}
use Rattle.std.specs.FinMap.Entries as entries
use Rattle.std.specs.declared.cmp.Ordering.TheVariants.{Equal}
use Rattle.thr_parts.specs.Tables.{Table, none, get, at, has, put, cut, put_if, cut_if, present, IsCanonical}

-- ---- what stands at a number

pub same_test : (q k : ℕ) → eq_by_cmp nat_cmp q k ≡ eqb k q
same_test q k = grind (arith, nat_tests)

same_key : (q x k : ℕ) → nat_cmp q x ≡ Equal → not (eqb k x) ≡ not (eqb k q)
same_key q x k e = ap (λ n. not (eqb k n)) (sym (nat_cmp-IsAntisymmetric q x e))

turned : {A : Type 0} (b : Bool) (x y : A) → cond (not b) x y ≡ cond b y x
turned true x y = refl
turned false x y = refl

unwrap_cond : {A : Type 0} (b : Bool) (v d : A) (o : Option A) → unwrap_or (cond b (Some v) o) d ≡ cond b v (unwrap_or o d)
unwrap_cond b v d o = grind arith

unwrap_cut : {A : Type 0} (b : Bool) (d : A) (o : Option A) → unwrap_or (cond b None o) d ≡ cond b d (unwrap_or o d)
unwrap_cut b d o = grind arith

pub get_none : {A : Type 0} (q : ℕ) → get (none {A = A}) q ≡ None
unfolding get none
get_none q = refl

pub get_put : {A : Type 0} (m : Table A) (k q : ℕ) (v : A) → get (put m k v) q ≡ cond (eqb k q) (Some v) (get m q)
unfolding get put
get_put m k q v = entries.find-put nat_cmp nat_cmp_total q k v m ∙ ap (λ b. cond b (Some v) (entries.find nat_cmp q m)) (same_test q k)

pub get_cut : {A : Type 0} (m : Table A) (k q : ℕ) → get (cut m k) q ≡ cond (eqb k q) None (get m q)
unfolding get cut
get_cut m k q = entries.find-where_key nat_cmp (λ j. not (eqb k j)) q (λ x e. same_key q x k e) m ∙ turned (eqb k q) _ _

pub at_get : {A : Type 0} (m : Table A) (q : ℕ) (d : A) → at m q d ≡ unwrap_or (get m q) d
unfolding at get
at_get m q d = refl

pub has_get : {A : Type 0} (m : Table A) (q : ℕ) → has m q ≡ is_some (get m q)
unfolding has get
has_get m q = refl

pub at_none : {A : Type 0} (q : ℕ) (d : A) → at none q d ≡ d
unfolding at none
at_none q d = refl

pub at_put : {A : Type 0} (m : Table A) (k q : ℕ) (v d : A) → at (put m k v) q d ≡ cond (eqb k q) v (at m q d)
at_put m k q v d = at_get (put m k v) q d ∙ ap (λ o. unwrap_or o d) (get_put m k q v) ∙ unwrap_cond (eqb k q) v d (get m q) ∙ ap (cond (eqb k q) v) (sym (at_get m q d))

pub at_cut : {A : Type 0} (m : Table A) (k q : ℕ) (d : A) → at (cut m k) q d ≡ cond (eqb k q) d (at m q d)
at_cut m k q d = at_get (cut m k) q d ∙ ap (λ o. unwrap_or o d) (get_cut m k q) ∙ unwrap_cut (eqb k q) d (get m q) ∙ ap (cond (eqb k q) d) (sym (at_get m q d))

-- ---- numbers that rise

is_true : (b : Bool) → b ≡ true → T b
is_true b e = subst T (sym e) tt

true_is : (b : Bool) → T b → b ≡ true
true_is true p = refl
true_is false p = absurd p

pub canonical_none : (A : Type 0) → IsCanonical (none {A = A})
unfolding none
canonical_none A = refl

pub canonical_put : {A : Type 0} (m : Table A) (k : ℕ) (v : A) → IsCanonical m → IsCanonical (put m k v)
unfolding put
canonical_put m k v h = true_is _ (entries.is_sorted-put nat_cmp nat_cmp_total k v m (is_true _ h))

pub canonical_cut : {A : Type 0} (m : Table A) (k : ℕ) → IsCanonical m → IsCanonical (cut m k)
unfolding cut
canonical_cut m k h = true_is _ (entries.is_sorted-where_key nat_cmp (λ j. not (eqb k j)) m (is_true _ h))

pub canonical_present : {A : Type 0} (n : ℕ) (xs : List (Option A)) → IsCanonical (present n xs)
unfolding present
canonical_present n [] = canonical_none _
canonical_present n (None ∷ xs) = canonical_present (n + 1) xs
canonical_present n (Some x ∷ xs) = canonical_put (present (n + 1) xs) n x (canonical_present (n + 1) xs)

-- Tables that have the same at each number are equal.
pub same_table : {A : Type 0} (m n : Table A) → IsCanonical m → IsCanonical n → ((q : ℕ) → get m q ≡ get n q) → m ≡ n
unfolding get
same_table m n f g same = entries.same_entries nat_cmp nat_cmp_total nat_cmp-IsAntisymmetric m n (is_true _ f) (is_true _ g) same

put_cut_read : {A : Type 0} (b : Bool) (v : A) (o : Option A) → cond b (Some v) (cond b None o) ≡ cond b (Some v) o
put_cut_read true v o = refl
put_cut_read false v o = refl

-- What is put at a number that was cut is put there all the same.
pub put_cut : {A : Type 0} (m : Table A) (k : ℕ) (v : A) → IsCanonical m → put (cut m k) k v ≡ put m k v
put_cut m k v h = same_table _ _ (canonical_put (cut m k) k v (canonical_cut m k h)) (canonical_put m k v h) (λ q.
    get_put (cut m k) k q v ∙ ap (cond (eqb k q) (Some v)) (get_cut m k q) ∙ put_cut_read (eqb k q) v (get m q) ∙ sym (get_put m k q v))

pub canonical_put_if : {A : Type 0} (m : Table A) (k : ℕ) (o : Option A) → IsCanonical m → IsCanonical (put_if m k o)
canonical_put_if m k None h = h
canonical_put_if m k (Some v) h = canonical_put m k v h

pub canonical_cut_if : {A : Type 0} (b : Bool) (m : Table A) (k : ℕ) → IsCanonical m → IsCanonical (cut_if b m k)
canonical_cut_if true m k h = canonical_cut m k h
canonical_cut_if false m k h = h

-- ---- tables of lists

-- The item at a place, counted from n.
abbrev from : {A : Type 0} → ℕ → List (Option A) → ℕ → Option A
from n xs q = cond (ltb q n) None (get_or xs (q - n) None)

no_item : {A : Type 0} (b : Bool) (o : Option A) → o ≡ None → o ≡ cond b None None
no_item b o e = grind arith

step_none : {A : Type 0} (n q : ℕ) (xs : List (Option A)) (o : Option A) → o ≡ from (n + 1) xs q → o ≡ from n (None ∷ xs) q
step_none n q xs o e = grind (arith, nat_tests)

step_some : {A : Type 0} (n q : ℕ) (x : A) (xs : List (Option A)) (o : Option A) → o ≡ from (n + 1) xs q → cond (eqb n q) (Some x) o ≡ from n (Some x ∷ xs) q
step_some n q x xs o e = grind (arith, nat_tests)

pub get_present : {A : Type 0} (n : ℕ) (xs : List (Option A)) (q : ℕ) → get (present n xs) q ≡ from n xs q
unfolding present
get_present n [] q = no_item (ltb q n) _ (get_none q)
get_present n (None ∷ xs) q = step_none n q xs _ (get_present (n + 1) xs q)
get_present n (Some x ∷ xs) q = get_put (present (n + 1) xs) n q x ∙ step_some n q x xs _ (get_present (n + 1) xs q)

at_set : {A : Type 0} (xs : List A) (m k : ℕ) (v d : A) → m < length xs → get_or (set xs m v) k d ≡ cond (eqb m k) v (get_or xs k d)
at_set xs m k v d h = grind (arith, nat_tests, get_or-set_same, get_or-set_other)

put_read : {A : Type 0} (xs : List (Option A)) (i q : ℕ) (v : Option A) → i < length xs → cond (eqb i q) v (from 0 xs q) ≡ from 0 (set xs i v) q
put_read xs i q v h = grind (arith, nat_tests, at_set)

pub put_present : {A : Type 0} (xs : List (Option A)) (i : ℕ) (v : A) → i < length xs → put (present 0 xs) i v ≡ present 0 (set xs i (Some v))
put_present xs i v h = same_table _ _ (canonical_put (present 0 xs) i v (canonical_present 0 xs)) (canonical_present 0 (set xs i (Some v))) (λ q.
    get_put (present 0 xs) i q v ∙ ap (cond (eqb i q) (Some v)) (get_present 0 xs q) ∙ put_read xs i q (Some v) h ∙ sym (get_present 0 (set xs i (Some v)) q))

pub cut_present : {A : Type 0} (xs : List (Option A)) (i : ℕ) → i < length xs → cut (present 0 xs) i ≡ present 0 (set xs i None)
cut_present xs i h = same_table _ _ (canonical_cut (present 0 xs) i (canonical_present 0 xs)) (canonical_present 0 (set xs i None)) (λ q.
    get_cut (present 0 xs) i q ∙ ap (cond (eqb i q) None) (get_present 0 xs q) ∙ put_read xs i q None h ∙ sym (get_present 0 (set xs i None) q))
