-- Lines that are written with their ends are read again.
use Rattle.std.proofs.Common.{◌≡◌, ℕ, zero, suc, ◌-◌, ◌<◌, Bool, true, false, List, [], ◌∷◌, ◌++◌, map, length, refl, ap, ◌∙◌, arith, append_assoc}
use Rattle.std.specs.Prelude.{◌==◌, ◌&&◌, slice_index}
use Rattle.std.specs.List.{slice_split, list_all}
use Rattle.std.specs.Str.Lines.{lines, lines_of_parts, strip_carriage_return}
use Rattle.std.proofs.lemmas.Bool.Decides.{nat_tests}
use Rattle.std.proofs.lemmas.List.Splits.{length-slice_split}
use Rattle.thr_syntax.specs.Lines.{joined}
use Rattle.thr_text.specs.Lexing.{is_plain}

abbrev is_lf : ℕ → Bool
is_lf b = b == 10

both : (a b : Bool) → (a && b) ≡ true → (a ≡ true) × (b ≡ true)
both true b e = (refl, e)
both false b e = absurd cc

plain_no_lf : (b : ℕ) → is_plain b ≡ true → is_lf b ≡ false
plain_no_lf b h = grind (arith, nat_tests)

plain_no_cr : (b : ℕ) → is_plain b ≡ true → (b == 13) ≡ false
plain_no_cr b h = grind (arith, nat_tests)

no_cr_at : (l : List ℕ) (i : ℕ) → list_all is_plain l ≡ true → (slice_index l i == 13) ≡ false
no_cr_at [] i h = refl
no_cr_at (b ∷ l) zero h = plain_no_cr b (both (is_plain b) (list_all is_plain l) h).0
no_cr_at (b ∷ l) (suc i) h = no_cr_at l i (both (is_plain b) (list_all is_plain l) h).1

no_cr : (l : List ℕ) → list_all is_plain l ≡ true → strip_carriage_return l ≡ l
no_cr l h = rw (no_cr_at l (length l - 1) h) refl

parts_more : (x : List ℕ) (parts : List (List ℕ)) → 0 < length parts → lines_of_parts (x ∷ parts) ≡ strip_carriage_return x ∷ lines_of_parts parts
parts_more x [] h = absurd (omega arith)
parts_more x (y ∷ parts) h = refl

split_lf : (l rest : List ℕ) → list_all is_plain l ≡ true → slice_split is_lf (l ++ 10 ∷ rest) ≡ l ∷ slice_split is_lf rest
split_lf [] rest h = refl
split_lf (b ∷ l) rest h =
    let p = both (is_plain b) (list_all is_plain l) h in
    rw (plain_no_lf b p.0, split_lf l rest p.1) refl

abbrev pub ArePlain : List (List ℕ) → Type 0
ArePlain [] = Unit {0}
ArePlain (l ∷ ls) = (list_all is_plain l ≡ true) × ArePlain ls

abbrev pub ended : List ℕ → List ℕ
ended l = l ++ 10 ∷ []

pub lines_again : (ls : List (List ℕ)) → ArePlain ls → lines (joined (map ended ls)) ≡ ls
lines_again [] h = refl
lines_again (l ∷ ls) h =
    let rest = joined (map ended ls) in
    ap lines (append_assoc l (10 ∷ []) rest)
    ∙ ap lines_of_parts (split_lf l rest h.0) ∙ parts_more l (slice_split is_lf rest) (omega (arith, length-slice_split is_lf rest))
    ∙ rw (no_cr l h.0, lines_again ls h.1) refl
