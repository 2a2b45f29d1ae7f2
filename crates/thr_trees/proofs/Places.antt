-- Places in lists, and names that are found at their own places.
use Rattle.std.proofs.Common.{◌≡◌, ℕ, zero, suc, ◌+◌, ◌<◌, ◌≤◌, List, [], ◌∷◌, ◌++◌, map, length, slice_get, Some, refl, sym, ap, subst, ◌∙◌, arith}
use Rattle.std.specs.Prelude.{position}
use Rattle.std.specs.Str.{bytes_eq}
use Rattle.thr_syntax.specs.Spelling.{name_at}
use Rattle.thr_resolving.specs.Scopes.{AreDistinct}

pub get_left : {A : Type 0} (xs ys : List A) (p : ℕ) (x : A) → slice_get xs p ≡ Some x → slice_get (xs ++ ys) p ≡ Some x
get_left [] ys p x e = absurd cc
get_left (a ∷ xs) ys zero x e = e
get_left (a ∷ xs) ys (suc p) x e = get_left xs ys p x e

pub got_left : {A : Type 0} (xs ys : List A) (p : ℕ) (x : A) → p < length xs → slice_get (xs ++ ys) p ≡ Some x → slice_get xs p ≡ Some x
got_left [] ys p x lt e = absurd (omega (arith, lt))
got_left (a ∷ xs) ys zero x lt e = e
got_left (a ∷ xs) ys (suc p) x lt e = got_left xs ys p x (omega (arith, lt)) e

pub get_right : {A : Type 0} (xs ys : List A) (n p : ℕ) (x : A) → n ≡ length xs + p → slice_get ys p ≡ Some x → slice_get (xs ++ ys) n ≡ Some x
get_right [] ys n p x is e = let same : n ≡ p = omega (arith, is) in ap (slice_get ys) same ∙ e
get_right (a ∷ xs) ys zero p x is e = absurd (omega (arith, is))
get_right (a ∷ xs) ys (suc n) p x is e = get_right xs ys n p x (omega (arith, is)) e

-- What stands behind these.
pub record Behind {A : Type 0} (xs ys : List A) (n : ℕ) (x : A) : Type 0 where
  pub place : ℕ
  pub is : n ≡ length xs + place
  pub at : slice_get ys place ≡ Some x

pub got_right : {A : Type 0} (xs ys : List A) (n : ℕ) (x : A) → length xs ≤ n → slice_get (xs ++ ys) n ≡ Some x → Behind xs ys n x
got_right [] ys n x le e = record { place = n; is = omega arith; at = e }
got_right (a ∷ xs) ys zero x le e = absurd (omega (arith, le))
got_right (a ∷ xs) ys (suc n) x le e =
    let r = got_right xs ys n x (omega (arith, le)) e in
    let is : n ≡ length xs + r.place = r.is in
    record { place = r.place; is = omega (arith, is); at = r.at }

-- What is made of this stands there.
pub record MadeOf {A B : Type 0} (f : A → B) (xs : List A) (n : ℕ) (y : B) : Type 0 where
  pub from : A
  pub at : slice_get xs n ≡ Some from
  pub is : f from ≡ y

some_is : {A : Type 0} (x y : A) → Some x ≡ Some y → x ≡ y
some_is x y e = cc

pub got_map : {A B : Type 0} (f : A → B) (xs : List A) (n : ℕ) (y : B) → slice_get (map f xs) n ≡ Some y → MadeOf f xs n y
got_map f [] n y e = absurd cc
got_map f (x ∷ xs) zero y e = record { from = x; at = refl; is = some_is (f x) y e }
got_map f (x ∷ xs) (suc n) y e = let r = got_map f xs n y e in record { from = r.from; at = r.at; is = r.is }

-- ---- names

pub same_place : (names : List (List ℕ)) (i j : ℕ) → AreDistinct names → i < length names → j < length names → name_at names i ≡ name_at names j → i ≡ j
same_place names i j distinct low high same =
    let first : position (bytes_eq (name_at names j)) names ≡ Some i = subst (λ (n : List ℕ). position (bytes_eq n) names ≡ Some i) same (distinct i low) in
    some_is i j (sym first ∙ distinct j high)
