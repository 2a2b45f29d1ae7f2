-- Words that stand in tables, and words that don't.
use Rattle.std.proofs.Common.{◌≡◌, ℕ, Bool, true, false, cond, List, [], ◌∷◌, refl, sym, subst, inl, inr}
use Rattle.std.specs.Prelude.{◌⊎◌, ◌&&◌, ◌||◌, not}
use Rattle.std.specs.List.{list_any, list_all}
use Rattle.std.specs.Str.{bytes_eq}
use Rattle.std.proofs.lemmas.Slice.Eq.{bytes_eq-Decides}
use Rattle.thr_text.specs.declared.word.Word.{Word}
use Rattle.thr_text.specs.declared.word.Word.TheVariants.{Num, Name, Mark}
use Rattle.thr_text.specs.Names.{is_name}
use Rattle.thr_text.specs.Slots.{is_one_of, is_a_name, is_a_number}

-- ---- tests

pub chosen : {A : Type 0} (b : Bool) (x y z : A) → cond b x y ≡ z → ((b ≡ true) × (x ≡ z)) ⊎ ((b ≡ false) × (y ≡ z))
chosen true x y z e = inl (refl, e)
chosen false x y z e = inr (refl, e)

pub either : (a b : Bool) → (a || b) ≡ true → (a ≡ true) ⊎ (b ≡ true)
either true b e = inl refl
either false b e = inr e

neither : (a b : Bool) → (a || b) ≡ false → (a ≡ false) × (b ≡ false)
neither true b e = absurd cc
neither false b e = (refl, e)

or_false : (a b : Bool) → a ≡ false → b ≡ false → (a || b) ≡ false
or_false a b e f = rw e f

pub decided : (b : Bool) → (b ≡ true) ⊎ (b ≡ false)
decided true = inl refl
decided false = inr refl

-- ---- words of tables

-- Tables that have no word in common.
abbrev pub are_apart : List (List ℕ) → List (List ℕ) → Bool
are_apart xs ys = list_all (λ x. not (list_any (λ y. bytes_eq x y) ys)) xs

any_is : (x : List ℕ) (ys : List (List ℕ)) (t : List ℕ) → bytes_eq t x ≡ true → list_any (λ y. bytes_eq x y) ys ≡ false → list_any (λ y. bytes_eq t y) ys ≡ false
any_is x ys t is none = subst (λ v. list_any (λ y. bytes_eq v y) ys ≡ false) (sym ((bytes_eq-Decides t x).0 is)) none

any_is_true : (x : List ℕ) (ys : List (List ℕ)) (t : List ℕ) → bytes_eq t x ≡ true → list_any (λ y. bytes_eq x y) ys ≡ true → list_any (λ y. bytes_eq t y) ys ≡ true
any_is_true x ys t is some = subst (λ v. list_any (λ y. bytes_eq v y) ys ≡ true) (sym ((bytes_eq-Decides t x).0 is)) some

pub both : (a b : Bool) → (a && b) ≡ true → (a ≡ true) × (b ≡ true)
both true b e = (refl, e)
both false b e = absurd cc

not_true : (a : Bool) → not a ≡ true → a ≡ false
not_true true e = absurd cc
not_true false e = refl

text_apart : (xs ys : List (List ℕ)) → are_apart xs ys ≡ true → (t : List ℕ) → list_any (λ x. bytes_eq t x) xs ≡ true → list_any (λ y. bytes_eq t y) ys ≡ false
text_apart [] ys apart t e = absurd cc
text_apart (x ∷ xs) ys apart t e =
    let a = both (not (list_any (λ y. bytes_eq x y) ys)) (are_apart xs ys) apart in
    elim (either (bytes_eq t x) (list_any (λ z. bytes_eq t z) xs) e) [
      | inl is ↦ any_is x ys t is (not_true (list_any (λ y. bytes_eq x y) ys) a.0)
      | inr more ↦ text_apart xs ys a.1 t more
    ]

pub apart : (xs ys : List (List ℕ)) → are_apart xs ys ≡ true → (w : Word) → is_one_of xs w ≡ true → is_one_of ys w ≡ false
apart xs ys e (Num n) one = refl
apart xs ys e (Name text) one = text_apart xs ys e text one
apart xs ys e (Mark text) one = text_apart xs ys e text one

-- Every word of one table is a word of the other.
abbrev pub are_within : List (List ℕ) → List (List ℕ) → Bool
are_within xs ys = list_all (λ x. list_any (λ y. bytes_eq x y) ys) xs

text_within : (xs ys : List (List ℕ)) → are_within xs ys ≡ true → (t : List ℕ) → list_any (λ x. bytes_eq t x) xs ≡ true → list_any (λ y. bytes_eq t y) ys ≡ true
text_within [] ys within t e = absurd cc
text_within (x ∷ xs) ys within t e =
    let a = both (list_any (λ y. bytes_eq x y) ys) (are_within xs ys) within in
    elim (either (bytes_eq t x) (list_any (λ z. bytes_eq t z) xs) e) [
      | inl is ↦ any_is_true x ys t is a.0
      | inr more ↦ text_within xs ys a.1 t more
    ]

pub within : (xs ys : List (List ℕ)) → are_within xs ys ≡ true → (w : Word) → is_one_of xs w ≡ true → is_one_of ys w ≡ true
within xs ys e (Num n) one = absurd cc
within xs ys e (Name text) one = text_within xs ys e text one
within xs ys e (Mark text) one = text_within xs ys e text one

-- No name is a word of a table whose words are no names.
text_no_name : (ys : List (List ℕ)) → list_any is_name ys ≡ false → (t : List ℕ) → is_name t ≡ true → list_any (λ y. bytes_eq t y) ys ≡ false
text_no_name [] none t e = refl
text_no_name (y ∷ ys) none t e =
    let n = neither (is_name y) (list_any is_name ys) none in
    elim (decided (bytes_eq t y)) [
      | inl is ↦ absurd (let s : is_name t ≡ false = subst (λ v. is_name v ≡ false) (sym ((bytes_eq-Decides t y).0 is)) n.0 in cc)
      | inr other ↦ or_false (bytes_eq t y) (list_any (λ z. bytes_eq t z) ys) other (text_no_name ys n.1 t e)
    ]

pub no_name : (ys : List (List ℕ)) → list_any is_name ys ≡ false → (w : Word) → is_a_name w ≡ true → is_one_of ys w ≡ false
no_name ys none (Num n) e = refl
no_name ys none (Name text) e = text_no_name ys none text e
no_name ys none (Mark text) e = absurd cc

pub no_number : (ys : List (List ℕ)) (w : Word) → is_a_number w ≡ true → is_one_of ys w ≡ false
no_number ys (Num n) e = refl
no_number ys (Name text) e = absurd cc
no_number ys (Mark text) e = absurd cc

pub no_more : (xs ys : List (List ℕ)) → are_within xs ys ≡ true → (w : Word) → is_one_of ys w ≡ false → is_one_of xs w ≡ false
no_more xs ys e w none = elim (decided (is_one_of xs w)) [
  | inl one ↦ absurd (let s : is_one_of ys w ≡ true = within xs ys e w one in cc)
  | inr no_one ↦ no_one
]
