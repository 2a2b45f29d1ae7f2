-- Names that are neither undeclared nor misused.
use Rattle.std.proofs.Common.{◌≡◌, Bool, true, false, List, [], ◌∷◌, refl}
use Rattle.std.specs.Prelude.{◌||◌}
use Rattle.std.specs.List.{list_any}

first_of_neither : (a b : Bool) → (a || b) ≡ false → a ≡ false
first_of_neither false b h = refl
first_of_neither true b h = h

last_of_neither : (a b : Bool) → (a || b) ≡ false → b ≡ false
last_of_neither false b h = h
last_of_neither true b h = absurd cc

module _ {A : Type 0} (p q : A → Bool) where
  pub none_first : (xs : List A) → list_any (λ x. p x || q x) xs ≡ false → list_any p xs ≡ false
  none_first [] h = refl
  none_first (x ∷ xs) h =
      let here : p x ≡ false = first_of_neither (p x) (q x) (first_of_neither (p x || q x) (list_any (λ y. p y || q y) xs) h) in
      let later : list_any p xs ≡ false = none_first xs (last_of_neither (p x || q x) (list_any (λ y. p y || q y) xs) h) in
      rw (here, later) refl

  pub none_last : (xs : List A) → list_any (λ x. p x || q x) xs ≡ false → list_any q xs ≡ false
  none_last [] h = refl
  none_last (x ∷ xs) h =
      let here : q x ≡ false = last_of_neither (p x) (q x) (first_of_neither (p x || q x) (list_any (λ y. p y || q y) xs) h) in
      let later : list_any q xs ≡ false = none_last xs (last_of_neither (p x || q x) (list_any (λ y. p y || q y) xs) h) in
      rw (here, later) refl
