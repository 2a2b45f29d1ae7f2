-- The canonical text of a line is no longer than the line.
use Rattle.std.proofs.Common.{◌≡◌, ℕ, zero, suc, ◌<◌, ◌≤◌, ◌^◌, ◌+◌, Bool, true, false, cond, List, [], ◌∷◌, length, map, drop, fold, pos, neg_ℤ, refl, inl, inr, arith, length-append}
use Rattle.std.specs.Prelude.{nat_lt, nat_le}
use Rattle.std.specs.Char.{is_ascii_digit}
use Rattle.std.specs.List.{filter, list_all, list_any, slice_split, onto_first, before_first, position_or_len, join_with_byte}
use Rattle.std.specs.Fmt.{decimal, signed_decimal}
use Rattle.std.proofs.lemmas.Bool.{cases_Bool, or_parts, ltb-false, leb-false}
use Rattle.std.proofs.lemmas.List.{length-take}
use Rattle.std.proofs.lemmas.List.Splits.{length-slice_split}
use Rattle.std.proofs.lemmas.Str.Parse.{digits_value_short}
use Rattle.std.proofs.lemmas.Fmt.{length-decimal-le}
use Rattle.thr_text.specs.Names.{has_name_form}
use Rattle.thr_text.specs.Lexing.{is_blank, is_hash, is_something, digits_of, has_minus, has_number_form, and_digit, magnitude, is_too_large, word_of, pieces_of, words_of, word_text, line_text}
use Rattle.thr_text.specs.Faults.{word_faults}
use Rattle.thr_lexer.proofs.Canon.{and_both, AreDigits, own}
use Rattle.thr_lexer.proofs.OfLine.{faultless}

-- ---- each word

some_digits : (ds : List ℕ) → is_something ds ≡ true → 0 < length ds
some_digits [] e = absurd cc
some_digits (d ∷ ds) e = omega arith

digits_shorter : (ds : List ℕ) → is_something ds ≡ true → AreDigits ds → fold and_digit 0 ds < 2 ^ 64 → length (decimal (fold and_digit 0 ds)) ≤ length ds
digits_shorter ds some digits small = length-decimal-le (length ds) (fold and_digit 0 ds) (some_digits ds some) (digits_value_short own ds (length ds) digits (omega arith)) small

signed_shorter : (n k : ℕ) → length (decimal n) ≤ k → length (signed_decimal (neg_ℤ (pos n))) ≤ suc k
signed_shorter zero k h = omega arith
signed_shorter (suc n) k h = omega arith

abbrev digits_after : Bool → List ℕ → List ℕ
digits_after minus t = cond minus (drop 1 t) t

abbrev size_after : Bool → List ℕ → ℕ
size_after minus t = fold and_digit 0 (digits_after minus t)

number_shorter : (minus : Bool) (t : List ℕ) → is_something (digits_after minus t) ≡ true → AreDigits (digits_after minus t) → cond minus (nat_lt (2 ^ 63) (size_after minus t)) (nat_le (2 ^ 63) (size_after minus t)) ≡ false → length (signed_decimal (cond minus (neg_ℤ (pos (size_after minus t))) (pos (size_after minus t)))) ≤ length t
number_shorter true [] some digits small = absurd cc
number_shorter true (b ∷ ds) some digits small = signed_shorter (fold and_digit 0 ds) (length ds) (digits_shorter ds some digits (omega (arith, ltb-false (2 ^ 63) (fold and_digit 0 ds) small)))
number_shorter false ds some digits small = digits_shorter ds some digits (omega (arith, leb-false (2 ^ 63) (fold and_digit 0 ds) small))

word_shorter : (t : List ℕ) → is_too_large t ≡ false → length (word_text (word_of t)) ≤ length t
unfolding word_of is_too_large has_number_form magnitude
word_shorter t small =
    elim (cases_Bool (has_number_form t)) [
      | inl h ↦
          let d = and_both (is_something (digits_of t)) (list_all is_ascii_digit (digits_of t)) h in
          rw h (number_shorter (has_minus t) t d.0 d.1 (rw h at small))
      | inr h ↦ elim (cases_Bool (has_name_form t)) [
        | inl n ↦ rw (h, n) (omega arith)
        | inr n ↦ rw (h, n) (omega arith)
      ]
    ]

-- ---- all words, each with one byte more

abbrev width : List (List ℕ) → ℕ
width [] = 0
width (t ∷ ts) = suc (length t + width ts)

texts_shorter : (ts : List (List ℕ)) → list_any is_too_large ts ≡ false → width (map word_text (map word_of ts)) ≤ width ts
texts_shorter [] e = omega arith
texts_shorter (t ∷ ts) e =
    let s = or_parts (is_too_large t) (list_any is_too_large ts) e in
    omega (arith, word_shorter t s.0, texts_shorter ts s.1)

onto_width : (x : ℕ) (ts : List (List ℕ)) → 0 < length ts → width (onto_first x ts) ≡ suc (width ts)
onto_width x [] h = absurd (omega arith)
onto_width x (t ∷ ts) h = omega arith

split_width : (xs : List ℕ) → width (slice_split is_blank xs) ≡ suc (length xs)
split_width [] = refl
split_width (x ∷ xs) =
    elim (cases_Bool (is_blank x)) [
      | inl b ↦ rw b (omega (arith, split_width xs))
      | inr b ↦ rw b (omega (arith, split_width xs, onto_width x (slice_split is_blank xs) (omega (arith, length-slice_split is_blank xs))))
    ]

kept_width : (ts : List (List ℕ)) → width (filter is_something ts) ≤ width ts
kept_width [] = omega arith
kept_width (t ∷ ts) =
    elim (cases_Bool (is_something t)) [
      | inl h ↦ rw h (omega (arith, kept_width ts))
      | inr h ↦ rw h (omega (arith, kept_width ts))
    ]

join_width : (t : List ℕ) (ts : List (List ℕ)) → suc (length (join_with_byte 32 (t ∷ ts))) ≤ width (t ∷ ts)
join_width t [] = omega arith
join_width t (u ∷ ts) = omega (arith, length-append t (32 ∷ join_with_byte 32 (u ∷ ts)), join_width u ts)

join_short : (ts : List (List ℕ)) (n : ℕ) → width ts ≤ suc n → length (join_with_byte 32 ts) ≤ n
join_short [] n h = omega arith
join_short (t ∷ ts) n h = omega (arith, join_width t ts)

pieces_width : (line : List ℕ) → width (pieces_of line) ≤ suc (length line)
pieces_width line =
    let text = before_first is_hash line in
    omega (arith, kept_width (slice_split is_blank text), split_width text, length-take (position_or_len is_hash line) line)

pub text_no_longer : (line : List ℕ) → word_faults line ≡ [] → length (line_text (words_of line)) ≤ length line
text_no_longer line e = join_short (map word_text (words_of line)) (length line) (omega (arith, texts_shorter (pieces_of line) (faultless line e).small, pieces_width line))
