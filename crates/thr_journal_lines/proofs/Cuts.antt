-- The first word of a text, and what is left of it.
use Rattle.std.proofs.Common.{◌≡◌, ℕ, suc, ◌+◌, ◌-◌, ◌<◌, ◌≤◌, Bool, true, false, List, [], ◌∷◌, length, take, drop, Option, Some, None, refl, sym, ap, ◌∙◌, arith}
use Rattle.std.specs.Prelude.{position, ◌==◌, nat_lt, if◌then◌else◌}
use Rattle.std.specs.List.{slice_split, onto_first, position_or_len}
use Rattle.std.proofs.lemmas.Bool.Decides.{nat_tests}
use Rattle.std.proofs.lemmas.List.{take_all, length-drop}
use Rattle.std.proofs.lemmas.List.Splits.{slice_split-cons_no, slice_split_first, length-slice_split}
use Rattle.std.proofs.lemmas.Option.{cond_some}
use Rattle.thr_journals.specs.Lines.{is_space, line_words}

pub some_words : (text : List ℕ) → (length (line_words text) == 0) ≡ false
some_words text = let n = length-slice_split is_space text in grind (arith, nat_tests)

is_less : (a b : ℕ) → nat_lt a b ≡ true → a < b
is_less a b e = grind (arith, nat_tests)

rest_whole : (text : List ℕ) (k : ℕ) → take (length text - k) (drop k text) ≡ drop k text
rest_whole text k = take_all (length text - k) (drop k text) (omega (arith, length-drop k text))

pub cut_first : (text : List ℕ) (at : ℕ) → position is_space text ≡ Some at → line_words text ≡ take at text ∷ line_words (take (length text - (at + 1)) (drop (at + 1) text))
cut_first text at e =
    let s = cond_some (nat_lt (position_or_len is_space text) (length text)) (position_or_len is_space text) at e in
    let split = slice_split_first is_space text 0 (is_less (position_or_len is_space text) (length text) s.0) in
    split ∙ ap (λ (k : ℕ). take k text ∷ line_words (drop (k + 1) text)) s.1 ∙ ap (λ (rest : List ℕ). take at text ∷ line_words rest) (sym (rest_whole text (at + 1)))

uncut_by : (p : ℕ → Bool) (x : ℕ) (xs : List ℕ) (b : Bool) → p x ≡ b → (length xs ≤ position_or_len p xs → slice_split p xs ≡ xs ∷ []) → length (x ∷ xs) ≤ position_or_len p (x ∷ xs)
    → slice_split p (x ∷ xs) ≡ (x ∷ xs) ∷ []
uncut_by p x xs true e more h = absurd (omega (arith, rw e at h))
uncut_by p x xs false e more h = slice_split-cons_no p x xs e ∙ ap (onto_first x) (more (omega (arith, rw e at h)))

uncut_past : (p : ℕ → Bool) (xs : List ℕ) → length xs ≤ position_or_len p xs → slice_split p xs ≡ xs ∷ []
uncut_past p [] h = refl
uncut_past p (x ∷ xs) h = uncut_by p x xs (p x) refl (uncut_past p xs) h

not_less : (b : Bool) (n : ℕ) → (if b then Some n else None) ≡ None → b ≡ false
not_less true n e = absurd cc
not_less false n e = refl

at_least : (a b : ℕ) → nat_lt a b ≡ false → b ≤ a
at_least a b e = grind (arith, nat_tests)

pub uncut : (text : List ℕ) → position is_space text ≡ None → line_words text ≡ text ∷ []
uncut text e = uncut_past is_space text (at_least (position_or_len is_space text) (length text) (not_less (nat_lt (position_or_len is_space text) (length text)) (position_or_len is_space text) e))
