-- The text of words has just these words.
use Rattle.std.proofs.Common.{◌≡◌, ℕ, suc, ◌<◌, ◌≤◌, ◌^◌, Bool, true, false, List, [], ◌∷◌, ◌++◌, length, map, fold, pos, negsuc, refl, ap, ◌∙◌, arith, rules}
use Rattle.std.specs.Prelude.{slice_index, ◌==◌, ◌&&◌, not, nat_lt, nat_le}
use Rattle.std.specs.List.{list_all, slice_split, before_first, prefix_len, position_or_len, join_with_byte}
use Rattle.std.specs.Fmt.{decimal}
use Rattle.std.specs.Char.{is_ascii_digit}
use Rattle.std.proofs.lemmas.List.{take_all}
use Rattle.std.proofs.lemmas.List.Folds.{list_all-append}
use Rattle.std.proofs.lemmas.Bool.Decides.{nat_tests}
use Rattle.std.proofs.lemmas.Str.Parse.{IsNumeralModel, numerals_by_fold}
use Rattle.std.proofs.lemmas.Fmt.{digits_decimal, digits_value-decimal, decimal_nonempty}
use Rattle.thr_text.specs.declared.word.Word.{Word}
use Rattle.thr_text.specs.declared.word.Word.TheVariants.{Num, Name, Mark}
use Rattle.thr_text.specs.Names.{is_letter, is_letter_or_digit, has_name_form}
use Rattle.thr_text.specs.Lexing.{is_plain, is_blank, is_hash, is_something, has_minus, has_number_form, and_digit, magnitude, word_of, pieces_between, pieces_of, words_of, word_text, line_text, is_ink, IsOfLine, AreOfLine}

pub and_both : (a b : Bool) → (a && b) ≡ true → (a ≡ true) × (b ≡ true)
and_both true b e = (refl, e)
and_both false b e = absurd cc

not_true : (b : Bool) → not b ≡ true → b ≡ false
not_true true e = absurd cc
not_true false e = refl

all_weaker : {X : Type 0} (p q : X → Bool) → ((x : X) → p x ≡ true → q x ≡ true) → (xs : List X) → list_all p xs ≡ true → list_all q xs ≡ true
all_weaker p q w [] e = refl
all_weaker p q w (x ∷ xs) e = let s = and_both (p x) (list_all p xs) e in rw (w x s.0) (all_weaker p q w xs s.1)

ink_no_blank : (b : ℕ) → is_ink b ≡ true → is_blank b ≡ false
ink_no_blank b e = not_true (is_blank b) (and_both (not (is_blank b)) (not (is_hash b)) (and_both (is_plain b) (not (is_blank b) && not (is_hash b)) e).1).0

ink_no_hash : (b : ℕ) → is_ink b ≡ true → not (is_hash b) ≡ true
ink_no_hash b e = (and_both (not (is_blank b)) (not (is_hash b)) (and_both (is_plain b) (not (is_blank b) && not (is_hash b)) e).1).1

-- ---- the pieces

split_more : (t rest : List ℕ) → list_all is_ink t ≡ true → slice_split is_blank (t ++ 32 ∷ rest) ≡ t ∷ slice_split is_blank rest
split_more [] rest e = refl
split_more (b ∷ t) rest e =
    let s = and_both (is_ink b) (list_all is_ink t) e in
    rw (ink_no_blank b s.0, split_more t rest s.1) refl

split_last : (t : List ℕ) → list_all is_ink t ≡ true → slice_split is_blank t ≡ t ∷ []
split_last [] e = refl
split_last (b ∷ t) e =
    let s = and_both (is_ink b) (list_all is_ink t) e in
    rw (ink_no_blank b s.0, split_last t s.1) refl

abbrev pub AreInked : List (List ℕ) → Type 0
AreInked [] = Unit {0}
AreInked (t ∷ ts) = ((is_something t ≡ true) × (list_all is_ink t ≡ true)) × AreInked ts

pieces_again : (ts : List (List ℕ)) → AreInked ts → pieces_between (join_with_byte 32 ts) ≡ ts
pieces_again [] h = refl
pieces_again (t ∷ []) h = rw (split_last t h.0.1, h.0.0) refl
pieces_again (t ∷ u ∷ ts) h = rw (split_more t (join_with_byte 32 (u ∷ ts)) h.0.1, h.0.0) (ap (λ (xs : List (List ℕ)). t ∷ xs) (pieces_again (u ∷ ts) h.1))

-- ---- no comment

abbrev pub unhashed : ℕ → Bool
unhashed b = not (is_hash b)

whole_prefix : (xs : List ℕ) → list_all unhashed xs ≡ true → prefix_len unhashed xs ≡ length xs
whole_prefix [] e = refl
whole_prefix (x ∷ xs) e = let s = and_both (unhashed x) (list_all unhashed xs) e in rw s.0 (omega (arith, whole_prefix xs s.1))

before_none : (xs : List ℕ) → list_all unhashed xs ≡ true → before_first is_hash xs ≡ xs
before_none xs e = take_all (position_or_len is_hash xs) xs (omega (arith, whole_prefix xs e))

pub join_all : (p : ℕ → Bool) → ((b : ℕ) → is_ink b ≡ true → p b ≡ true) → p 32 ≡ true → (ts : List (List ℕ)) → AreInked ts → list_all p (join_with_byte 32 ts) ≡ true
join_all p w s [] h = refl
join_all p w s (t ∷ []) h = all_weaker is_ink p w t h.0.1
join_all p w s (t ∷ u ∷ ts) h = list_all-append p t (32 ∷ join_with_byte 32 (u ∷ ts)) ∙ rw (all_weaker is_ink p w t h.0.1, s) (join_all p w s (u ∷ ts) h.1)

pub texts_again : (ts : List (List ℕ)) → AreInked ts → pieces_of (join_with_byte 32 ts) ≡ ts
texts_again ts h = ap pieces_between (before_none (join_with_byte 32 ts) (join_all unhashed ink_no_hash refl ts h)) ∙ pieces_again ts h

-- ---- each word

letter_ink : (b : ℕ) → is_letter_or_digit b ≡ true → is_ink b ≡ true
letter_ink b e = grind (arith, nat_tests)

digit_ink : (b : ℕ) → is_ascii_digit b ≡ true → is_ink b ≡ true
digit_ink b e = grind (arith, nat_tests)

abbrev pub AreDigits : List ℕ → Type 0
AreDigits ds = list_all is_ascii_digit ds ≡ true

pub own : IsNumeralModel AreDigits (fold and_digit 0)
own = numerals_by_fold _ (search rules) (fold and_digit) (search rules)

pub no_minus : (ds : List ℕ) → AreDigits ds → has_minus ds ≡ false
no_minus [] e = refl
no_minus (d ∷ ds) e = let digit = (and_both (is_ascii_digit d) (list_all is_ascii_digit ds) e).0 in digit_no_minus d digit
  where
    digit_no_minus : (d : ℕ) → is_ascii_digit d ≡ true → (d == 45) ≡ false
    digit_no_minus d e = grind (arith, nat_tests)

nonempty : (t : List ℕ) → 0 < length t → is_something t ≡ true
nonempty [] h = absurd (omega arith)
nonempty (b ∷ t) h = grind (arith, nat_tests)

something : (t : List ℕ) → nat_lt 0 (length t) ≡ true → is_something t ≡ true
something [] e = absurd cc
something (b ∷ t) e = nonempty (b ∷ t) (omega arith)

unsigned_again : (n : ℕ) → n < 2 ^ 63 → word_of (decimal n) ≡ Num (pos n)
unfolding word_of has_number_form magnitude
unsigned_again n small =
    let below : n < 2 ^ 64 = omega arith in
    let ds = digits_decimal own n below in
    rw (no_minus (decimal n) ds, nonempty (decimal n) (decimal_nonempty n below), ds, digits_value-decimal own n below) refl

signed_again : (n : ℕ) → suc n ≤ 2 ^ 63 → word_of (45 ∷ decimal (suc n)) ≡ Num (negsuc n)
unfolding word_of has_number_form magnitude
signed_again n small =
    let below : suc n < 2 ^ 64 = omega arith in
    let ds = digits_decimal own (suc n) below in
    rw (nonempty (decimal (suc n)) (decimal_nonempty (suc n) below), ds, digits_value-decimal own (suc n) below) refl

word_again : (w : Word) → IsOfLine w → word_of (word_text w) ≡ w
unfolding word_of
word_again (Num (pos n)) h = unsigned_again n (omega (arith, h))
word_again (Num (negsuc n)) h = signed_again n (omega (arith, h))
word_again (Name bytes) h = rw (h.0, h.1) refl
word_again (Mark bytes) h = rw (h.0, h.1) refl

word_inked : (w : Word) → IsOfLine w → (is_something (word_text w) ≡ true) × (list_all is_ink (word_text w) ≡ true)
unfolding has_name_form
word_inked (Num (pos n)) h =
    let below : n < 2 ^ 64 = omega (arith, h) in
    (nonempty (decimal n) (decimal_nonempty n below), all_weaker is_ascii_digit is_ink digit_ink (decimal n) (digits_decimal own n below))
word_inked (Num (negsuc n)) h =
    let below : suc n < 2 ^ 64 = omega (arith, h) in
    (nonempty (45 ∷ decimal (suc n)) (omega arith), all_weaker is_ascii_digit is_ink digit_ink (decimal (suc n)) (digits_decimal own (suc n) below))
word_inked (Name bytes) h =
    let a = and_both (nat_lt 0 (length bytes) && nat_le (length bytes) 24 && is_letter (slice_index bytes 0)) (list_all is_letter_or_digit bytes) h.1 in
    let b = and_both (nat_lt 0 (length bytes) && nat_le (length bytes) 24) (is_letter (slice_index bytes 0)) a.0 in
    (something bytes (and_both (nat_lt 0 (length bytes)) (nat_le (length bytes) 24) b.0).0, all_weaker is_letter_or_digit is_ink letter_ink bytes a.1)
word_inked (Mark bytes) h = (h.2, h.3)

pub inked : (ws : List Word) → AreOfLine ws → AreInked (map word_text ws)
inked [] h = tt
inked (w ∷ ws) h = (word_inked w h.0, inked ws h.1)

each_again : (ws : List Word) → AreOfLine ws → map word_of (map word_text ws) ≡ ws
each_again [] h = refl
each_again (w ∷ ws) h = rw (word_again w h.0, each_again ws h.1) refl

pub line_again : (ws : List Word) → AreOfLine ws → words_of (line_text ws) ≡ ws
line_again ws h = ap (map word_of) (texts_again (map word_text ws) (inked ws h)) ∙ each_again ws h
