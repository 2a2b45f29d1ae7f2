-- The canonical text of a line without faults has none.
use Rattle.std.proofs.Common.{◌≡◌, ℕ, suc, ◌<◌, ◌≤◌, ◌^◌, true, false, List, [], ◌∷◌, length, map, pos, negsuc, refl, arith}
use Rattle.std.specs.Prelude.{◌&&◌, not}
use Rattle.std.specs.List.{list_any}
use Rattle.std.specs.Fmt.{decimal}
use Rattle.std.proofs.lemmas.Bool.{and_right, or_from, lt-leb, le-ltb, ltb-false}
use Rattle.std.proofs.lemmas.List.{length-map}
use Rattle.std.proofs.lemmas.Fmt.{digits_decimal, digits_value-decimal}
use Rattle.thr_text.specs.declared.word.Word.{Word}
use Rattle.thr_text.specs.declared.word.Word.TheVariants.{Num, Name, Mark}
use Rattle.thr_text.specs.Lexing.{is_plain, has_number_form, magnitude, is_too_large, word_of, pieces_of, words_of, word_text, line_text, is_ink, is_blank, is_hash, IsOfLine, AreOfLine}
use Rattle.thr_text.specs.Faults.{word_faults}
use Rattle.thr_lexer.proofs.Canon.{and_both, join_all, texts_again, inked, own, no_minus}
use Rattle.thr_lexer.proofs.OfLine.{IsFaultless, faultless, from_faultless, words_of_line}
use Rattle.thr_lexer.proofs.Shorter.{text_no_longer}

ink_plain : (b : ℕ) → is_ink b ≡ true → is_plain b ≡ true
ink_plain b e = (and_both (is_plain b) (not (is_blank b) && not (is_hash b)) e).0

unsigned_small : (n : ℕ) → n < 2 ^ 63 → is_too_large (decimal n) ≡ false
unfolding is_too_large magnitude
unsigned_small n small =
    let below : n < 2 ^ 64 = omega arith in
    and_right (has_number_form (decimal n)) _ (rw (no_minus (decimal n) (digits_decimal own n below), digits_value-decimal own n below) (lt-leb (2 ^ 63) n small))

signed_small : (n : ℕ) → n ≤ 2 ^ 63 → is_too_large (45 ∷ decimal n) ≡ false
unfolding is_too_large magnitude
signed_small n small =
    let below : n < 2 ^ 64 = omega arith in
    and_right (has_number_form (45 ∷ decimal n)) _ (rw (digits_value-decimal own n below) (le-ltb (2 ^ 63) n small))

word_small : (w : Word) → IsOfLine w → is_too_large (word_text w) ≡ false
unfolding is_too_large
word_small (Num (pos n)) h = unsigned_small n (omega (arith, h))
word_small (Num (negsuc n)) h = signed_small (suc n) (omega (arith, h))
word_small (Name bytes) h = rw h.0 refl
word_small (Mark bytes) h = rw h.0 refl

each_small : (ws : List Word) → AreOfLine ws → list_any is_too_large (map word_text ws) ≡ false
each_small [] h = refl
each_small (w ∷ ws) h = or_from (is_too_large (word_text w)) (list_any is_too_large (map word_text ws)) (word_small w h.0) (each_small ws h.1)

-- Words that a line may have are a line where they are few and their text is short.
rules_kept : (ws : List Word) → AreOfLine ws → length ws ≤ 24 → length (line_text ws) ≤ 240 → IsFaultless (line_text ws)
rules_kept ws h few short =
    let again = texts_again (map word_text ws) (inked ws h) in
    record {
      plain = join_all is_plain ink_plain refl (map word_text ws) (inked ws h);
      short = le-ltb 240 (length (line_text ws)) short;
      small = rw again (each_small ws h);
      few = rw again (le-ltb 24 (length (map word_text ws)) (omega (arith, length-map ws word_text)));
    }

pub text_faultless : (line : List ℕ) → word_faults line ≡ [] → word_faults (line_text (words_of line)) ≡ []
text_faultless line e =
    let h = faultless line e in
    from_faultless (line_text (words_of line)) (rules_kept (words_of line) (words_of_line line e)
    (omega (arith, length-map (pieces_of line) word_of, ltb-false 24 (length (pieces_of line)) h.few))
    (omega (arith, text_no_longer line e, ltb-false 240 (length line) h.short)))
