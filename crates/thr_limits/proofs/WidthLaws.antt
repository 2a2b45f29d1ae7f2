-- Words after words, and when a line is short.
use Rattle.std.proofs.Common.{◌≡◌, ℕ, ◌+◌, ◌≤◌, List, [], ◌∷◌, ◌++◌, length, length-append, refl, ap, sym, ◌∙◌, arith}
use Rattle.std.specs.Prelude.{◌&&◌, nat_le}
use Rattle.std.specs.List.{join_with_byte}
use Rattle.std.proofs.lemmas.Bool.Decides.{nat_tests}
use Rattle.thr_syntax.proofs.FoldLaws.{each_expr_laws}
use Rattle.thr_limits.specs.Limits.{is_short_line}
use Rattle.thr_limits.specs.Capped.{capped}
use Rattle.thr_limits.specs.declared.width.Width.{Width}
use Rattle.thr_limits.specs.Widths.{nothing, after_word, after_words}

pub after_words_append : (w : Width) (xs ys : List (List ℕ)) → after_words w (xs ++ ys) ≡ after_words (after_words w xs) ys
after_words_append w [] ys = refl
after_words_append w (x ∷ xs) ys = after_words_append (after_word w x) xs ys

pub after_both : (w v a r : Width) (xs ys : List (List ℕ)) → v ≡ w → a ≡ after_words v xs → r ≡ after_words a ys → r ≡ after_words w (xs ++ ys)
after_both w v a r xs ys same first second =
    second ∙ ap (λ (u : Width). after_words u ys) (first ∙ ap (λ (u : Width). after_words u xs) same) ∙ sym (after_words_append w xs ys)

-- The ends of the two calls with two expressions.
pub after_two : (w v a b r : Width) (xs ys : List (List ℕ)) (z : List ℕ) → v ≡ w → a ≡ after_words v xs → b ≡ after_words a ys → r ≡ after_word b z → r ≡ after_words w (xs ++ (ys ++ z ∷ []))
after_two w v a b r xs ys z same first second end =
    end ∙ ap (λ (u : Width). after_word u z) (second ∙ ap (λ (u : Width). after_words u ys) (first ∙ ap (λ (u : Width). after_words u xs) same))
    ∙ sym (after_words_append w xs (ys ++ z ∷ []) ∙ after_words_append (after_words w xs) ys (z ∷ []))

pub after_parted : (w v a m b r : Width) (xs ys : List (List ℕ)) (y z : List ℕ) → v ≡ w → a ≡ after_words v xs → m ≡ after_word a y → b ≡ after_words m ys → r ≡ after_word b z → r ≡ after_words w (xs ++ y ∷ (ys ++ z ∷ []))
after_parted w v a m b r xs ys y z same first middle second end =
    end ∙ ap (λ (u : Width). after_word u z) (second ∙ ap (λ (u : Width). after_words u ys) (middle ∙ ap (λ (u : Width). after_word u y) (first ∙ ap (λ (u : Width). after_words u xs) same)))
    ∙ sym (after_words_append w xs (y ∷ (ys ++ z ∷ [])) ∙ after_words_append (after_word (after_words w xs) y) ys (z ∷ []))

pub ruleset width_laws = (after_words_append, each_expr_laws)

-- ---- when a line is short

-- The bytes of words, with a space or the end after each.
abbrev pub total : List (List ℕ) → ℕ
total [] = 0
total (word ∷ words) = length word + 1 + total words

pub joined_length : (word : List ℕ) (words : List (List ℕ)) → length (join_with_byte 32 (word ∷ words)) + 1 ≡ total (word ∷ words)
joined_length word [] = omega arith
joined_length word (next ∷ words) = omega (arith, length-append word (32 ∷ join_with_byte 32 (next ∷ words)), joined_length next words)

pub width_words : (w : Width) (words : List (List ℕ)) → w.words ≤ 4294967295 → (after_words w words).words ≡ capped (w.words + length words)
width_words w [] le = omega arith
width_words w (word ∷ words) le = width_words (after_word w word) words (omega arith) ∙ grind arith

pub width_bytes : (w : Width) (words : List (List ℕ)) → w.bytes ≤ 4294967295 → (after_words w words).bytes ≡ capped (w.bytes + total words)
width_bytes w [] le = omega arith
width_bytes w (word ∷ words) le = width_bytes (after_word w word) words (omega arith) ∙ grind arith

same_tests : (m n a b l : ℕ) → m ≡ capped (0 + n) → a ≡ capped (0 + b) → l + 1 ≡ b → (nat_le m 24 && nat_le a 241) ≡ (nat_le n 24 && nat_le l 240)
same_tests m n a b l words bytes line = grind (arith, nat_tests)

pub short_line : (words : List (List ℕ)) → (nat_le (after_words nothing words).words 24 && nat_le (after_words nothing words).bytes 241) ≡ is_short_line words
short_line [] = refl
short_line (word ∷ words) =
    same_tests (after_words nothing (word ∷ words)).words (length (word ∷ words)) (after_words nothing (word ∷ words)).bytes (total (word ∷ words)) (length (join_with_byte 32 (word ∷ words)))
    (width_words nothing (word ∷ words) (omega arith)) (width_bytes nothing (word ∷ words) (omega arith)) (joined_length word words)

pub short_width : (w : Width) (words : List (List ℕ)) → w ≡ after_words nothing words → (nat_le w.words 24 && nat_le w.bytes 241) ≡ is_short_line words
short_width w words is = ap (λ (u : Width). nat_le u.words 24 && nat_le u.bytes 241) is ∙ short_line words
