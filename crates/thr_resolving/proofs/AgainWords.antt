-- Texts whose words are words of a line, each the same text again.
use Rattle.std.proofs.Common.{◌≡◌, ℕ, ℤ, Bool, true, false, List, [], ◌∷◌, ◌++◌, map, refl, sym, ap, ◌∙◌, inl, inr, arith}
use Rattle.std.specs.Prelude.{◌&&◌, not, ◌==◌, nat_lt, nat_le, length, FitsSigned}
use Rattle.std.specs.Int.{w64}
use Rattle.std.specs.Fmt.{signed_decimal}
use Rattle.std.specs.List.{list_all}
use Rattle.std.specs.Char.{is_ascii_digit}
use Rattle.std.proofs.lemmas.Bool.{cases_Bool}
use Rattle.std.proofs.lemmas.Bool.Decides.{nat_tests}
use Rattle.thr_text.specs.declared.word.Word.{Word}
use Rattle.thr_text.specs.declared.word.Word.TheVariants.{Num, Name, Mark}
use Rattle.thr_text.specs.Names.{is_letter, is_letter_or_digit, has_name_form, is_reserved, is_name}
use Rattle.thr_text.specs.Lexing.{is_something, is_ink, has_number_form, word_of, word_text, IsOfLine, AreOfLine}
use Rattle.thr_lexer.proofs.Canon.{and_both, inked, texts_again, line_again}

pub record IsProper (text : List ℕ) : Type 0 where
  pub of_line : IsOfLine (word_of text)
  pub same : word_text (word_of text) ≡ text

abbrev pub AreProper : List (List ℕ) → Type 0
AreProper [] = Unit {0}
AreProper (t ∷ ts) = IsProper t × AreProper ts

pub proper_append : (ts us : List (List ℕ)) → AreProper ts → AreProper us → AreProper (ts ++ us)
proper_append [] us h k = k
proper_append (t ∷ ts) us h k = (h.0, proper_append ts us h.1 k)

pub proper_words : (ts : List (List ℕ)) → AreProper ts → AreOfLine (map word_of ts)
proper_words [] h = tt
proper_words (t ∷ ts) h = (h.0.of_line, proper_words ts h.1)

pub proper_texts : (ts : List (List ℕ)) → AreProper ts → map word_text (map word_of ts) ≡ ts
proper_texts [] h = refl
proper_texts (t ∷ ts) h = rw (h.0.same, proper_texts ts h.1) refl

-- ---- fixed words

-- The text is no number, and its bytes may stand in a word.
abbrev pub is_fixed : List ℕ → Bool
is_fixed text = not (has_number_form text) && (is_something text && list_all is_ink text)

pub not_true : (b : Bool) → not b ≡ true → b ≡ false
not_true true e = absurd cc
not_true false e = refl

pub fixed_proper : (text : List ℕ) → is_fixed text ≡ true → IsProper text
unfolding word_of
fixed_proper text e =
    let a = and_both (not (has_number_form text)) (is_something text && list_all is_ink text) e in
    let b = and_both (is_something text) (list_all is_ink text) a.1 in
    let n = not_true (has_number_form text) a.0 in
    elim (cases_Bool (has_name_form text)) [
      | inl h ↦ record { of_line = rw (n, h) (n, h); same = rw (n, h) refl }
      | inr h ↦ record { of_line = rw (n, h) (n, h, b.0, b.1); same = rw (n, h) refl }
    ]

-- ---- names

letter_no_digit : (b : ℕ) → is_letter b ≡ true → is_ascii_digit b ≡ false
letter_no_digit b e = grind (arith, nat_tests)

letter_no_minus : (b : ℕ) → is_letter b ≡ true → (b == 45) ≡ false
letter_no_minus b e = grind (arith, nat_tests)

and_false : (a : Bool) → (a && false) ≡ false
and_false true = refl
and_false false = refl

begins_no_number : (b : ℕ) (text : List ℕ) → is_letter b ≡ true → has_number_form (b ∷ text) ≡ false
unfolding has_number_form
begins_no_number b text e = rw (letter_no_minus b e, letter_no_digit b e) (and_false (is_something (b ∷ text)))

nothing_no_number : has_number_form [] ≡ false
unfolding has_number_form
nothing_no_number = refl

pub name_no_number : (text : List ℕ) → has_name_form text ≡ true → has_number_form text ≡ false
unfolding has_name_form
name_no_number [] e = nothing_no_number
name_no_number (b ∷ text) e =
    let s = and_both (nat_lt 0 (length (b ∷ text)) && nat_le (length (b ∷ text)) 24 && is_letter b) (list_all is_letter_or_digit (b ∷ text)) e in
    begins_no_number b text (and_both (nat_lt 0 (length (b ∷ text)) && nat_le (length (b ∷ text)) 24) (is_letter b) s.0).1

named_word : (text : List ℕ) → has_name_form text ≡ true → word_of text ≡ Name text
unfolding word_of
named_word text e = rw (name_no_number text e, e) refl

pub name_form_of : (text : List ℕ) → is_name text ≡ true → has_name_form text ≡ true
name_form_of text e = (and_both (has_name_form text) (not (is_reserved text)) e).0

-- The word of a name is that name.
pub name_word : (text : List ℕ) → is_name text ≡ true → word_of text ≡ Name text
name_word text e = named_word text (name_form_of text e)

pub name_proper : (text : List ℕ) → is_name text ≡ true → IsProper text
name_proper text e =
    let h = name_form_of text e in
    record { of_line = rw (name_word text e) (name_no_number text h, h); same = rw (name_word text e) refl }

pub nothing_word : word_of [] ≡ Mark []
unfolding word_of has_number_form has_name_form
nothing_word = refl

-- ---- numbers

first_same : (v w : Word) → v ∷ [] ≡ w ∷ [] → v ≡ w
first_same v w e = cc

-- The word of a number in its shortest form is that number.
pub number_word : (n : ℤ) → FitsSigned w64 n → word_of (signed_decimal n) ≡ Num n
number_word n h =
    let of_line : AreOfLine (Num n ∷ []) = (h, tt) in
    first_same (word_of (signed_decimal n)) (Num n) (sym (ap (map word_of) (texts_again (signed_decimal n ∷ []) (inked (Num n ∷ []) of_line))) ∙ line_again (Num n ∷ []) of_line)

pub number_proper : (n : ℤ) → FitsSigned w64 n → IsProper (signed_decimal n)
number_proper n h = record { of_line = rw (number_word n h) h; same = rw (number_word n h) refl }
