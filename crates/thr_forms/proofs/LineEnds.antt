-- The next line of a text.
use Rattle.std.proofs.Common.{◌≡◌, ℕ, suc, ◌+◌, ◌<◌, ◌≤◌, Bool, true, false, cond, List, [], ◌∷◌, length, take, drop, Some, None, refl, sym, ap, ◌∙◌, arith}
use Rattle.std.specs.Prelude.{not, position, ◌==◌, nat_lt}
use Rattle.std.specs.List.{slice_split, position_or_len, before_first, after_first}
use Rattle.std.specs.Str.Lines.{lines, lines_of_parts, strip_carriage_return}
use Rattle.std.proofs.lemmas.Bool.{ltb-true, ltb-false}
use Rattle.std.proofs.lemmas.List.Splits.{slice_split_first, length-slice_split}

abbrev is_lf : ℕ → Bool
is_lf b = b == 10

some_first : (b : Bool) (n at : ℕ) → Some at ≡ cond b (Some n) None → (b ≡ true) × (at ≡ n)
some_first true n at e = (refl, cc)
some_first false n at e = absurd cc

none_first : (b : Bool) (n : ℕ) → None ≡ cond b (Some n) None → b ≡ false
none_first true n e = absurd cc
none_first false n e = refl

parts_more : (x : List ℕ) (parts : List (List ℕ)) → 0 < length parts → lines_of_parts (x ∷ parts) ≡ strip_carriage_return x ∷ lines_of_parts parts
parts_more x [] h = absurd (omega arith)
parts_more x (y ∷ parts) h = refl

pub cut_at : (rest : List ℕ) (at : ℕ) → Some at ≡ position is_lf rest → lines rest ≡ strip_carriage_return (take at rest) ∷ lines (drop (at + 1) rest)
cut_at rest at e =
    let s = some_first (nat_lt (position_or_len is_lf rest) (length rest)) (position_or_len is_lf rest) at e in
    let lt : position_or_len is_lf rest < length rest = ltb-true _ _ s.0 in
    ap lines_of_parts (slice_split_first is_lf rest 0 lt) ∙ parts_more (before_first is_lf rest) (slice_split is_lf (after_first is_lf rest)) (omega (arith, length-slice_split is_lf (after_first is_lf rest)))
    ∙ ap (λ (n : ℕ). strip_carriage_return (take n rest) ∷ lines (drop (n + 1) rest)) (sym s.1)

none_step : (b : Bool) (n m : ℕ) → suc m ≤ cond (not b) (1 + n) 0 → (b ≡ false) × (m ≤ n)
none_step true n m e = absurd (omega arith)
none_step false n m e = (refl, omega arith)

split_none : (xs : List ℕ) → length xs ≤ position_or_len is_lf xs → slice_split is_lf xs ≡ xs ∷ []
split_none [] h = refl
split_none (x ∷ xs) h =
    let s = none_step (is_lf x) (position_or_len is_lf xs) (length xs) h in
    rw (s.0, split_none xs s.1) refl

last_part : (xs : List ℕ) → 0 < length xs → lines_of_parts (xs ∷ []) ≡ xs ∷ []
last_part [] h = absurd (omega arith)
last_part (x ∷ xs) h = grind arith

pub cut_none : (rest : List ℕ) → None ≡ position is_lf rest → 0 < length rest → lines rest ≡ rest ∷ []
cut_none rest e h =
    let f = none_first (nat_lt (position_or_len is_lf rest) (length rest)) (position_or_len is_lf rest) e in
    ap lines_of_parts (split_none rest (ltb-false _ _ f)) ∙ last_part rest h
