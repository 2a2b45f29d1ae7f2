-- What names stand for in made scripts.
use Rattle.std.proofs.Common.{◌≡◌, ℕ, zero, suc, ◌+◌, ◌<◌, ◌≤◌, Bool, true, false, ◌&&◌, ◌||◌, not, if◌then◌else◌, List, [], ◌∷◌, ◌++◌, map, codes, ◌==◌, Option, Some, None, refl, sym, ap, ◌∙◌, arith, inl, inr}
use Rattle.std.specs.Prelude.{◌⊎◌}
use Rattle.std.specs.Str.{bytes_eq}
use Rattle.thr_text.specs.declared.object.Object as kinds
use Rattle.thr_text.specs.declared.object.Object.TheVariants as object
use Rattle.thr_text.specs.Computing.{text_words}
use Rattle.thr_text.specs.Tables.{Entry, builtin_entry, kind_in}
use Rattle.thr_values.specs.Exceptions.{builtin_names}
use Rattle.thr_verdict.specs.Made.{worker_text, numbers_from}
use Rattle.thr_made.proofs.Words.{all_below, holds_below, both}

-- ---- the tables

-- The built-in names and those that stand above all routines.
abbrev pub base : List Entry
base =
    map builtin_entry builtin_names
    ++ (codes "m", object.Mutex) ∷ (codes "odd", object.Exception) ∷ (codes "total", object.Shared) ∷ (codes "caught", object.Shared) ∷ []

abbrev pub worker_entry : ℕ → Entry
worker_entry i = (worker_text i, object.Routine)

abbrev pub workers_from : ℕ → ℕ → List Entry
workers_from i count = map worker_entry (numbers_from i count)

abbrev pub main_entry : Entry
main_entry = (codes "main", object.Routine)

-- ---- lookups in parts

if_none : {A : Type 0} (b : Bool) (k : A) (o : Option A) → (if b then Some k else o) ≡ None → (b ≡ false) × (o ≡ None)
if_none true k o e = absurd cc
if_none false k o e = (refl, e)

pub kind_behind : (xs ys : List Entry) (x : List ℕ) → kind_in xs x ≡ None → kind_in (xs ++ ys) x ≡ kind_in ys x
unfolding kind_in
kind_behind [] ys x h = refl
kind_behind (e ∷ xs) ys x h =
    let f = if_none (bytes_eq x e.0) e.1 (kind_in xs x) h in
    rw f.0 (kind_behind xs ys x f.1)

pub kind_before : (xs ys : List Entry) (x : List ℕ) (k : kinds.Object) → kind_in xs x ≡ Some k → kind_in (xs ++ ys) x ≡ Some k
unfolding kind_in
kind_before [] ys x k h = absurd cc
kind_before (e ∷ xs) ys x k h = step (bytes_eq x e.0) (kind_before xs ys x k) h
  where
    step : (b : Bool) → (kind_in xs x ≡ Some k → kind_in (xs ++ ys) x ≡ Some k) → (if b then Some e.1 else kind_in xs x) ≡ Some k → (if b then Some e.1 else kind_in (xs ++ ys) x) ≡ Some k
    step true f g = g
    step false f g = f g

-- ---- names of workers

one_name : ℕ → ℕ → Bool
one_name i j = (i == j) || not (bytes_eq (worker_text i) (worker_text j))

row_of_names : ℕ → Bool
row_of_names i = all_below (one_name i) 65

names_differ : all_below row_of_names 65 ≡ true
unfolding all_below row_of_names one_name text_words
names_differ = refl

not_true : (b : Bool) → not b ≡ true → b ≡ false
not_true true e = absurd cc
not_true false e = refl

or_second : (a b : Bool) → (a || b) ≡ true → a ≡ false → b ≡ true
or_second true b e h = absurd cc
or_second false b e h = e

differ : (i j : ℕ) → (i == j) ≡ false → i < 65 → j < 65 → bytes_eq (worker_text i) (worker_text j) ≡ false
unfolding row_of_names one_name
differ i j h a b =
    not_true (bytes_eq (worker_text i) (worker_text j))
    (or_second (i == j) (not (bytes_eq (worker_text i) (worker_text j))) (holds_below (one_name i) 65 j (holds_below row_of_names 65 i names_differ a) b) h)

is_nothing : Option kinds.Object → Bool
is_nothing None = true
is_nothing (Some k) = false

nothing : (o : Option kinds.Object) → is_nothing o ≡ true → o ≡ None
unfolding is_nothing
nothing None e = refl
nothing (Some k) e = absurd cc

is_new : ℕ → Bool
is_new i = bytes_eq (worker_text i) (worker_text i) && is_nothing (kind_in base (worker_text i))

are_new : all_below is_new 65 ≡ true
unfolding all_below is_new is_nothing text_words
are_new = refl

same_name : (i : ℕ) → i < 65 → bytes_eq (worker_text i) (worker_text i) ≡ true
unfolding is_new
same_name i h = (both (bytes_eq (worker_text i) (worker_text i)) (is_nothing (kind_in base (worker_text i))) (holds_below is_new 65 i are_new h)).0

pub new_worker : (i : ℕ) → i < 65 → kind_in base (worker_text i) ≡ None
unfolding is_new
new_worker i h = nothing (kind_in base (worker_text i)) (both (bytes_eq (worker_text i) (worker_text i)) (is_nothing (kind_in base (worker_text i))) (holds_below is_new 65 i are_new h)).1

-- ---- lookups among workers

pub no_worker : (x : List ℕ) → ((k : ℕ) → bytes_eq x (worker_text k) ≡ false) → (i count : ℕ) → kind_in (workers_from i count) x ≡ None
unfolding kind_in numbers_from
no_worker x h i zero = refl
no_worker x h i (suc count) = rw (h i) (no_worker x h (i + 1) count)

pub not_yet : (i count k : ℕ) → i + count ≤ k → k < 65 → kind_in (workers_from i count) (worker_text k) ≡ None
unfolding kind_in numbers_from
not_yet i zero k h b = refl
not_yet i (suc count) k h b = rw (differ k i (grind (arith)) b (omega arith)) (not_yet (i + 1) count k (omega arith) b)

pub is_worker : (i count k : ℕ) → i ≤ k → k < i + count → k < 65 → kind_in (workers_from i count) (worker_text k) ≡ Some object.Routine
unfolding kind_in numbers_from
is_worker i zero k a b c = absurd (omega arith)
is_worker i (suc count) k a b c = elim (split k i a) [
  | inl same ↦ rw (ap (λ (n : ℕ). bytes_eq (worker_text k) (worker_text n)) (sym same) ∙ same_name k c) refl
  | inr more ↦ rw (differ k i (grind (arith)) c (omega arith)) (is_worker (i + 1) count k more (omega arith) c)
]
  where
    split : (k i : ℕ) → i ≤ k → (k ≡ i) ⊎ (i + 1 ≤ k)
    split k i h = grind (arith)
