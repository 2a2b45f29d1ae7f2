-- The words of a line without faults are words that a line may have.
use Rattle.std.proofs.Common.{◌≡◌, ℕ, zero, suc, ◌^◌, ◌+◌, Bool, true, false, cond, List, [], ◌∷◌, ◌++◌, length, map, take, pos, neg_ℤ, refl, inl, inr, arith}
use Rattle.std.specs.Prelude.{FitsSigned, ◌&&◌, not, nat_lt, nat_le}
use Rattle.std.specs.List.{filter, list_all, list_any, slice_split, onto_first, before_first, prefix_len}
use Rattle.std.specs.Int.{w64}
use Rattle.std.proofs.lemmas.Bool.{cases_Bool, or_parts, ltb-false, leb-false}
use Rattle.thr_text.specs.Names.{has_name_form}
use Rattle.thr_text.specs.Lexing.{is_plain, is_blank, is_hash, is_something, has_minus, has_number_form, magnitude, is_too_large, word_of, pieces_of, words_of, is_ink, IsOfLine, AreOfLine}
use Rattle.thr_text.specs.Faults.{when, word_faults}
use Rattle.thr_lexer.proofs.Canon.{and_both, AreInked, unhashed}

pub record IsFaultless (line : List ℕ) : Type 0 where
  pub plain : list_all is_plain line ≡ true
  pub short : nat_lt 240 (length line) ≡ false
  pub small : list_any is_too_large (pieces_of line) ≡ false
  pub few : nat_lt 24 (length (pieces_of line)) ≡ false

no_faults : (a b c d : Bool) → when (not a) 1 ++ (when b 2 ++ (when c 3 ++ when d 4)) ≡ [] → (a ≡ true) × (b ≡ false) × (c ≡ false) × (d ≡ false)
no_faults true false false false e = (refl, refl, refl, refl)
no_faults true false false true e = absurd cc
no_faults true false true d e = absurd cc
no_faults true true c d e = absurd cc
no_faults false b c d e = absurd cc

pub faultless : (line : List ℕ) → word_faults line ≡ [] → IsFaultless line
faultless line e =
    let h = no_faults (list_all is_plain line) (nat_lt 240 (length line)) (list_any is_too_large (pieces_of line)) (nat_lt 24 (length (pieces_of line))) e in
    record { plain = h.0; short = h.1; small = h.2; few = h.3 }

pub from_faultless : (line : List ℕ) → IsFaultless line → word_faults line ≡ []
from_faultless line h = rw (h.plain, h.short, h.small, h.few) refl

-- ---- before the comment

abbrev is_clean : ℕ → Bool
is_clean b = is_plain b && unhashed b

take_more : (n x : ℕ) (xs : List ℕ) → take (1 + n) (x ∷ xs) ≡ x ∷ take n xs
take_more n x xs = let e : 1 + n ≡ suc n = omega arith in rw e refl

clean_before : (xs : List ℕ) → list_all is_plain xs ≡ true → list_all is_clean (take (prefix_len unhashed xs) xs) ≡ true
clean_before [] e = refl
clean_before (x ∷ xs) e =
    let s = and_both (is_plain x) (list_all is_plain xs) e in
    elim (cases_Bool (unhashed x)) [
      | inl h ↦ rw (h, take_more (prefix_len unhashed xs) x xs, s.0, h) (clean_before xs s.1)
      | inr h ↦ rw h refl
    ]

-- ---- between blanks

abbrev is_inked : List ℕ → Bool
is_inked text = list_all is_ink text

clean_ink : (p b h : Bool) → (p && h) ≡ true → b ≡ false → (p && (not b && h)) ≡ true
clean_ink p b h e f = rw f e

onto_inked : (x : ℕ) (ts : List (List ℕ)) → is_ink x ≡ true → list_all is_inked ts ≡ true → list_all is_inked (onto_first x ts) ≡ true
onto_inked x [] i e = rw i refl
onto_inked x (t ∷ ts) i e = rw i e

split_inked : (xs : List ℕ) → list_all is_clean xs ≡ true → list_all is_inked (slice_split is_blank xs) ≡ true
split_inked [] e = refl
split_inked (x ∷ xs) e =
    let s = and_both (is_clean x) (list_all is_clean xs) e in
    elim (cases_Bool (is_blank x)) [
      | inl b ↦ rw b (split_inked xs s.1)
      | inr b ↦ rw b (onto_inked x (slice_split is_blank xs) (clean_ink (is_plain x) (is_blank x) (unhashed x) s.0 b) (split_inked xs s.1))
    ]

kept_inked : (ts : List (List ℕ)) → list_all is_inked ts ≡ true → AreInked (filter is_something ts)
kept_inked [] e = tt
kept_inked (t ∷ ts) e =
    let s = and_both (is_inked t) (list_all is_inked ts) e in
    elim (cases_Bool (is_something t)) [
      | inl h ↦ rw h ((h, s.0), kept_inked ts s.1)
      | inr h ↦ rw h (kept_inked ts s.1)
    ]

pieces_inked : (line : List ℕ) → list_all is_plain line ≡ true → AreInked (pieces_of line)
pieces_inked line e = kept_inked (slice_split is_blank (before_first is_hash line)) (split_inked (before_first is_hash line) (clean_before line e))

-- ---- each word

value_fits : (minus : Bool) (m : ℕ) → cond minus (nat_lt (2 ^ 63) m) (nat_le (2 ^ 63) m) ≡ false → FitsSigned w64 (cond minus (neg_ℤ (pos m)) (pos m))
value_fits true zero e = record { sfits = omega arith }
value_fits true (suc m) e = record { sfits = omega (arith, ltb-false (2 ^ 63) (suc m) e) }
value_fits false m e = record { sfits = omega (arith, leb-false (2 ^ 63) m e) }

word_fits : (t : List ℕ) → is_something t ≡ true → list_all is_ink t ≡ true → is_too_large t ≡ false → IsOfLine (word_of t)
unfolding word_of is_too_large
word_fits t some ink small =
    elim (cases_Bool (has_number_form t)) [
      | inl h ↦ rw h (value_fits (has_minus t) (magnitude t) (rw h at small))
      | inr h ↦ elim (cases_Bool (has_name_form t)) [
        | inl n ↦ rw (h, n) (h, n)
        | inr n ↦ rw (h, n) (h, n, some, ink)
      ]
    ]

each_fits : (ts : List (List ℕ)) → AreInked ts → list_any is_too_large ts ≡ false → AreOfLine (map word_of ts)
each_fits [] h e = tt
each_fits (t ∷ ts) h e =
    let s = or_parts (is_too_large t) (list_any is_too_large ts) e in
    (word_fits t h.0.0 h.0.1 s.0, each_fits ts h.1 s.1)

pub words_of_line : (line : List ℕ) → word_faults line ≡ [] → AreOfLine (words_of line)
words_of_line line e = let h = faultless line e in each_fits (pieces_of line) (pieces_inked line h.plain) h.small
