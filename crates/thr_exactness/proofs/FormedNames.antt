-- The names of a script that keeps the rules have the form of names, and are told apart by their texts.
use Rattle.std.proofs.Common.{◌≡◌, ℕ, zero, suc, ◌<◌, Bool, true, false, List, [], ◌∷◌, length, ◌⊎◌, inl, inr, refl, sym, ◌∙◌, ap, arith}
use Rattle.std.specs.Prelude.{◌==◌, not, nat_lt, slice_index}
use Rattle.std.specs.List.{list_all}
use Rattle.std.proofs.lemmas.Bool.{and_parts, false≢true}
use Rattle.std.proofs.lemmas.Bool.Decides.{nat_tests}
use Rattle.thr_values.specs.declared.number.NameId.{NameId}
use Rattle.thr_syntax.specs.declared.tree.Script.{Script}
use Rattle.thr_syntax.specs.Spelling.{name_at}
use Rattle.thr_text.specs.declared.word.Word.{Word}
use Rattle.thr_text.specs.declared.object.Object.{Object}
use Rattle.thr_text.specs.Names.{is_letter, is_letter_or_digit, has_name_form, is_reserved, is_name}
use Rattle.thr_text.specs.NameFaults.{has_main}
use Rattle.thr_text.specs.Reading.{Formed, own_lines}
use Rattle.thr_text.specs.Tables.{declarations, kind_in}
use Rattle.thr_text.specs.Journals.{name_word}
use Rattle.thr_reading.specs.Naming.{AreScopes}
use Rattle.thr_reading.proofs.OneScript.{formed_scopes}
use Rattle.thr_trees.specs.Kinds.{is_name_of}
use Rattle.thr_trees.proofs.KindsAgree.{has_names, named_is_known}
use Rattle.thr_trees.proofs.LineFacts.{main_declared}
use Rattle.thr_trees.proofs.Places.{same_place}
use Rattle.thr_exactness.proofs.Joins.{is_no_space, HasNoSpace}

-- ---- the form of names

from_scopes : (names : List (List ℕ)) (ls : List (List Word)) → has_main ls ≡ true → AreScopes names [] ls → list_all is_name names ≡ true
unfolding declarations kind_in
from_scopes names [] main scopes = absurd (cc)
from_scopes names (l ∷ ls) main scopes = scopes.0.names

pub are_names : (s : Script) → Formed s → list_all is_name s.names ≡ true
are_names s h = from_scopes s.names (own_lines s) (main_declared s h) (formed_scopes s h)

-- A text is that of a name, or of none.
abbrev pub IsNameOrNone : List ℕ → Type 0
IsNameOrNone t = (is_name t ≡ true) ⊎ (t ≡ [])

pub name_or_none : (names : List (List ℕ)) (n : ℕ) → list_all is_name names ≡ true → IsNameOrNone (name_at names n)
name_or_none [] n h = inr refl
name_or_none (t ∷ ts) zero h = inl (and_parts (is_name t) (list_all is_name ts) h).0
name_or_none (t ∷ ts) (suc n) h = name_or_none ts n (and_parts (is_name t) (list_all is_name ts) h).1

pub name_there : (names : List (List ℕ)) (n : ℕ) → list_all is_name names ≡ true → n < length names → is_name (name_at names n) ≡ true
name_there [] n h less = absurd (omega (arith, less))
name_there (t ∷ ts) zero h less = (and_parts (is_name t) (list_all is_name ts) h).0
name_there (t ∷ ts) (suc n) h less = name_there ts n (and_parts (is_name t) (list_all is_name ts) h).1 (omega (arith, less))

-- A place behind the last has no name.
pub none_behind : (names : List (List ℕ)) (n : ℕ) → nat_lt n (length names) ≡ false → name_at names n ≡ []
none_behind [] n e = refl
none_behind (t ∷ ts) zero e = absurd (never (length ts) e)
  where
    never : (k : ℕ) → nat_lt 0 (suc k) ≡ false → ⊥
    never k e = grind (arith, nat_tests)
none_behind (t ∷ ts) (suc n) e = none_behind ts n (less n (length ts) e)
  where
    less : (n k : ℕ) → nat_lt (suc n) (suc k) ≡ false → nat_lt n k ≡ false
    less n k e = grind (arith, nat_tests)

-- ---- the first letter

abbrev pub starts_with_letter : List ℕ → Bool
starts_with_letter [] = false
starts_with_letter (b ∷ bs) = is_letter b

form_parts : (t : List ℕ) → has_name_form t ≡ true → (is_letter (slice_index t 0) ≡ true) × (list_all is_letter_or_digit t ≡ true)
unfolding has_name_form
form_parts t h = let a = and_parts _ _ h in ((and_parts _ _ a.0).1, a.1)

form_some : (t : List ℕ) → has_name_form t ≡ true → nat_lt 0 (length t) ≡ true
unfolding has_name_form
form_some t h = (and_parts _ _ (and_parts _ _ (and_parts _ _ h).0).0).0

pub name_starts : (t : List ℕ) → is_name t ≡ true → starts_with_letter t ≡ true
name_starts t h = by t (and_parts (has_name_form t) (not (is_reserved t)) h).0
  where
    by : (t : List ℕ) → has_name_form t ≡ true → starts_with_letter t ≡ true
    by [] f = absurd (false≢true (form_some [] f))
    by (b ∷ bs) f = (form_parts (b ∷ bs) f).0

pub name_some : (t : List ℕ) → is_name t ≡ true → t ≡ [] → ⊥
name_some t h e = false≢true (sym (ap starts_with_letter e) ∙ name_starts t h)

pub not_reserved : (t w : List ℕ) → is_name t ≡ true → is_reserved w ≡ true → t ≡ w → ⊥
not_reserved t w h r e = clash (is_reserved t) (and_parts (has_name_form t) (not (is_reserved t)) h).1 (ap is_reserved e ∙ r)
  where
    clash : (b : Bool) → not b ≡ true → b ≡ true → ⊥
    clash true e f = absurd (cc)
    clash false e f = absurd (cc)

-- ---- no spaces

letter_no_space : (b : ℕ) → is_letter_or_digit b ≡ true → is_no_space b ≡ true
letter_no_space b h = by (b == 32) refl
  where
    by : (c : Bool) → (b == 32) ≡ c → not c ≡ true
    by false e = refl
    by true e = absurd (false≢true (sym (ap is_letter_or_digit (is b e)) ∙ h))
      where
        is : (b : ℕ) → (b == 32) ≡ true → b ≡ 32
        is b e = grind (arith, nat_tests)

pub all_weaker : (p q : ℕ → Bool) → ((x : ℕ) → p x ≡ true → q x ≡ true) → (xs : List ℕ) → list_all p xs ≡ true → list_all q xs ≡ true
all_weaker p q w [] e = refl
all_weaker p q w (x ∷ xs) e = let s = and_parts (p x) (list_all p xs) e in rw (w x s.0) (all_weaker p q w xs s.1)

pub name_no_space : (t : List ℕ) → IsNameOrNone t → HasNoSpace t
name_no_space t (inl h) = all_weaker is_letter_or_digit is_no_space letter_no_space t (form_parts t (and_parts (has_name_form t) (not (is_reserved t)) h).0).1
name_no_space t (inr e) = ap (list_all is_no_space) e

-- ---- one name

same_id : (a b : NameId) → a.0 ≡ b.0 → a ≡ b
same_id a b e = λ i. record { 0 = e i }

module _ (s : Script) (h : Formed s) where
  pub known : (kind : Object) (b : NameId) → is_name_of s kind b ≡ true → b.0 < length s.names
  known kind b e = (named_is_known s (has_names s h) kind b e).below

  pub known_name : (kind : Object) (b : NameId) → is_name_of s kind b ≡ true → is_name (name_word s.names b) ≡ true
  known_name kind b e = name_there s.names b.0 (are_names s h) (known kind b e)

  -- A name that stands for something is told by its text.
  pub same_name : (kind : Object) (a b : NameId) → is_name_of s kind b ≡ true → name_word s.names a ≡ name_word s.names b → a ≡ b
  same_name kind a b e same = by (nat_lt a.0 (length s.names)) refl
    where
      by : (c : Bool) → nat_lt a.0 (length s.names) ≡ c → a ≡ b
      by true low = same_id a b (same_place s.names a.0 b.0 (has_names s h).distinct (below a.0 (length s.names) low) (known kind b e) same)
        where
          below : (x y : ℕ) → nat_lt x y ≡ true → x < y
          below x y f = grind (arith, nat_tests)
      by false high = absurd (name_some (name_word s.names b) (known_name kind b e) (sym same ∙ none_behind s.names a.0 high))
