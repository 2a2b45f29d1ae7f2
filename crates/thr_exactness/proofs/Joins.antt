-- Words without spaces are told from the line that they make.
use Rattle.std.proofs.Common.{◌≡◌, ℕ, Bool, true, false, List, [], ◌∷◌, ◌++◌, refl, sym, ◌∙◌, ap}
use Rattle.std.specs.Prelude.{◌==◌, not}
use Rattle.std.specs.List.{list_all, slice_split, join_with_byte}
use Rattle.std.proofs.lemmas.Bool.{and_parts}
use Rattle.std.proofs.lemmas.List.{append_cancel_right}
use Rattle.thr_syntax.specs.Canon.{line}

abbrev pub is_no_space : ℕ → Bool
is_no_space b = not (b == 32)

-- No space stands in the word.
abbrev pub HasNoSpace : List ℕ → Type 0
HasNoSpace w = list_all is_no_space w ≡ true

abbrev pub HaveNoSpace : List (List ℕ) → Type 0
HaveNoSpace [] = Unit {0}
HaveNoSpace (w ∷ ws) = HasNoSpace w × HaveNoSpace ws

abbrev is_space : ℕ → Bool
is_space b = b == 32

no_space : (b : Bool) → not b ≡ true → b ≡ false
no_space true e = absurd (cc)
no_space false e = refl

split_more : (w rest : List ℕ) → HasNoSpace w → slice_split is_space (w ++ 32 ∷ rest) ≡ w ∷ slice_split is_space rest
split_more [] rest e = refl
split_more (b ∷ w) rest e =
    let s = and_parts (is_no_space b) (list_all is_no_space w) e in
    rw (no_space (b == 32) s.0, split_more w rest s.1) refl

split_last : (w : List ℕ) → HasNoSpace w → slice_split is_space w ≡ w ∷ []
split_last [] e = refl
split_last (b ∷ w) e =
    let s = and_parts (is_no_space b) (list_all is_no_space w) e in
    rw (no_space (b == 32) s.0, split_last w s.1) refl

words_again : (w : List ℕ) (ws : List (List ℕ)) → HaveNoSpace (w ∷ ws) → slice_split is_space (join_with_byte 32 (w ∷ ws)) ≡ w ∷ ws
words_again w [] h = split_last w h.0
words_again w (v ∷ ws) h = split_more w (join_with_byte 32 (v ∷ ws)) h.0 ∙ ap (λ (vs : List (List ℕ)). w ∷ vs) (words_again v ws h.1)

-- Two lines that are the same have the same words.
pub same_words : (w v : List ℕ) (ws vs : List (List ℕ)) → HaveNoSpace (w ∷ ws) → HaveNoSpace (v ∷ vs) → line (w ∷ ws) ≡ line (v ∷ vs) → w ∷ ws ≡ v ∷ vs
same_words w v ws vs h k e =
    sym (words_again w ws h)
    ∙ ap (slice_split is_space) (append_cancel_right (join_with_byte 32 (w ∷ ws)) (join_with_byte 32 (v ∷ vs)) (10 ∷ []) e)
    ∙ words_again v vs k
