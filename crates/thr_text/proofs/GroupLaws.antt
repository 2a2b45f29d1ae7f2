-- Words are found in tables that are parted by first bytes.
use Rattle.std.proofs.Common.{◌≡◌, ℕ, Bool, true, false, List, [], ◌∷◌, ◌-◌, get_or, refl, sym, ap, ◌∙◌, inl, inr, zero, suc}
use Rattle.std.specs.Prelude.{◌||◌, nat_lt, slice_index, codes}
use Rattle.std.specs.List.{list_any, list_all}
use Rattle.std.specs.Str.{bytes_eq}
use Rattle.std.proofs.lemmas.Slice.Eq.{bytes_eq-Decides}
use Rattle.thr_text.specs.declared.word.Word.{Word}
use Rattle.thr_text.specs.declared.word.Word.TheVariants.{Num, Name, Mark}
use Rattle.thr_text.specs.Names.{is_reserved, reserved_words}
use Rattle.thr_text.specs.Slots.{binary_words, is_one_of}
use Rattle.thr_text.specs.Groups.{group_of, is_found, is_in_group, may_operate_text, may_operate, IsNoOperator}
use Rattle.thr_text.proofs.WordTables.{either, both, decided}

-- What holds of each word of a table holds of a text that is one of them.
found : {X : Type 0} (read : X → List ℕ) (p : List ℕ → Bool) (xs : List X) (t : List ℕ) → list_all (λ x. p (read x)) xs ≡ true → list_any (λ x. bytes_eq t (read x)) xs ≡ true → p t ≡ true
found read p [] t all e = absurd cc
found read p (x ∷ xs) t all e =
    let a = both (p (read x)) (list_all (λ y. p (read y)) xs) all in
    elim (either (bytes_eq t (read x)) (list_any (λ y. bytes_eq t (read y)) xs) e) [
      | inl is ↦ ap p ((bytes_eq-Decides t (read x)).0 is) ∙ a.0
      | inr more ↦ found read p xs t a.1 more
    ]

all_at : {X : Type 0} (p : List X → Bool) (groups : List (List X)) (i : ℕ) (other : List X) → list_all p groups ≡ true → p other ≡ true → p (get_or groups i other) ≡ true
all_at p [] i other all o = o
all_at p (g ∷ groups) zero other all o = (both (p g) (list_all p groups) all).0
all_at p (g ∷ groups) (suc i) other all o = all_at p groups i other (both (p g) (list_all p groups) all).1 o

all_in_group : {X : Type 0} (p : List X → Bool) (groups : List (List X)) (others : List X) (first : ℕ) → list_all p groups ≡ true → p others ≡ true → p (group_of groups others first) ≡ true
all_in_group p groups others first all o = elim (decided (nat_lt first 97)) [
  | inl small ↦ rw small o
  | inr large ↦ rw large (all_at p groups (first - 97) others all o)
]

same : (a b : Bool) → (a ≡ true → b ≡ true) → (b ≡ true → a ≡ true) → a ≡ b
same true b to from = sym (to refl)
same false true to from = from refl
same false false to from = refl

-- A table in groups has the reserved words where each of its words is reserved, and each reserved word is in its group.
pub has_reserved_words : {X : Type 0} (read : X → List ℕ) (groups : List (List X)) (others : List X) → list_all (λ g. list_all (λ x. is_reserved (read x)) g) groups ≡ true → list_all (λ x. is_reserved (read x)) others ≡ true → list_all (λ w. is_found read groups others w) reserved_words ≡ true → (word : List ℕ) → is_in_group read groups others word ≡ is_reserved word
unfolding is_reserved is_in_group
has_reserved_words read groups others all rest each word =
    same (is_in_group read groups others word) (is_reserved word)
    (λ e. found read is_reserved (group_of groups others (slice_index word 0)) word (all_in_group (λ g. list_all (λ x. is_reserved (read x)) g) groups others (slice_index word 0) all rest) e)
    (λ e. found (λ w. w) (λ w. is_found read groups others w) reserved_words word each e)

pub is_reserved_told : {X : Type 0} (read : X → List ℕ) (groups : List (List X)) (others : List X) (word : List ℕ) (r : Bool) → r ≡ is_in_group read groups others word → list_all (λ g. list_all (λ x. is_reserved (read x)) g) groups ≡ true → list_all (λ x. is_reserved (read x)) others ≡ true → list_all (λ w. is_found read groups others w) reserved_words ≡ true → r ≡ is_reserved word
is_reserved_told read groups others word r answer all rest each = answer ∙ has_reserved_words read groups others all rest each word

-- ---- operators

pub or_none : (b : Bool) → b ≡ (b || false)
or_none true = refl
or_none false = refl

not_found : (xs : List (List ℕ)) → list_all may_operate_text xs ≡ true → (t : List ℕ) → may_operate_text t ≡ false → list_any (λ x. bytes_eq t x) xs ≡ false
not_found xs all t e = elim (decided (list_any (λ x. bytes_eq t x) xs)) [
  | inl is ↦ absurd (let s = found (λ x. x) may_operate_text xs t all is in cc)
  | inr no_one ↦ no_one
]

no_operator_text : (xs : List (List ℕ)) → list_all may_operate_text xs ≡ true → (w : Word) → may_operate w ≡ false → is_one_of xs w ≡ false
no_operator_text xs all (Num n) e = refl
no_operator_text xs all (Name t) e = not_found xs all t e
no_operator_text xs all (Mark t) e = not_found xs all t e

pub no_operator : (w : Word) → may_operate w ≡ false → IsNoOperator w
unfolding may_operate_text
no_operator w e = record {
  binary = no_operator_text binary_words refl w e;
  negation = no_operator_text (codes "not" ∷ []) refl w e;
  status = no_operator_text (codes "exc_get_status" ∷ []) refl w e;
  matches = no_operator_text (codes "exc_matches" ∷ []) refl w e;
}
