-- No fault of a script stands behind the line after the last.
use Rattle.std.proofs.Common.{◌≡◌, ℕ, ◌+◌, ◌≤◌, Bool, true, false, cond, List, [], ◌∷◌, ◌++◌, map, length, Option, Some, None, refl, sym, ap, subst, ◌∙◌, arith}
use Rattle.std.specs.Prelude.{not, ◌==◌, ◌&&◌, ◌||◌, nat_lt, nat_le, if◌then◌else◌}
use Rattle.std.specs.List.{slice_split, count_by}
use Rattle.std.specs.Str.Lines.{lines, lines_of_parts}
use Rattle.std.proofs.lemmas.Bool.Decides.{nat_tests}
use Rattle.std.proofs.lemmas.List.Splits.{length-slice_split}
use Rattle.std.proofs.lemmas.List.Sums.{sum_by-cons}
use Rattle.thr_text.specs.declared.word.Word.{Word}
use Rattle.thr_text.specs.Faults.{when, word_faults, first_of}
use Rattle.thr_text.specs.Lexing.{words_of}
use Rattle.thr_text.specs.declared.block.Block.{Block}
use Rattle.thr_text.specs.Blocks.{Line, at_line, misfits, is_open, blocks_below, shape_of_line, mentions_this, block_faults}
use Rattle.thr_text.specs.NameFaults.{Above, above_next, nothing_above, name_misfits, has_main, words_in, own_faults, lines_faults, with_last_line, name_faults}
use Rattle.thr_text.specs.Reading.{Fault, in_pass, has_words, form_faults, line_at, lines_from, scan_faults, script_lines, end_of, faults}

-- These faults are at lines up to this one.
abbrev UpTo : ℕ → List (ℕ × ℕ) → Type 0
UpTo n [] = Unit {0}
UpTo n (f ∷ fs) = (f.0 ≤ n) × UpTo n fs

-- So are these lines.
abbrev LinesUpTo : ℕ → List Line → Type 0
LinesUpTo n [] = Unit {0}
LinesUpTo n (l ∷ ls) = (l.0 ≤ n) × LinesUpTo n ls

up_append : (n : ℕ) (xs ys : List (ℕ × ℕ)) → UpTo n xs → UpTo n ys → UpTo n (xs ++ ys)
up_append n [] ys a b = b
up_append n (x ∷ xs) ys a b = (a.0, up_append n xs ys a.1 b)

up_line : (n at : ℕ) (ns : List ℕ) → at ≤ n → UpTo n (at_line at ns)
up_line n at [] le = tt
up_line n at (x ∷ ns) le = (le, up_line n at ns le)

scan_up : (n at : ℕ) (seen : Bool) (ls : List (List ℕ)) → at + length ls ≤ n → UpTo n (scan_faults at seen ls)
unfolding scan_faults
scan_up n at seen [] le = up_line n at (when (not seen) 5) (omega (arith, le))
scan_up n at seen (l ∷ ls) le =
    up_append n (at_line at (word_faults l ++ form_faults seen (words_of l))) (scan_faults (at + 1) (seen || has_words (words_of l)) ls) (up_line n at _ (omega (arith, le)))
    (scan_up n (at + 1) (seen || has_words (words_of l)) ls (omega (arith, le)))

lines_append : (n : ℕ) (xs ys : List Line) → LinesUpTo n xs → LinesUpTo n ys → LinesUpTo n (xs ++ ys)
lines_append n [] ys a b = b
lines_append n (x ∷ xs) ys a b = (a.0, lines_append n xs ys a.1 b)

line_up : (n at : ℕ) (seen : Bool) (ws : List Word) → at ≤ n → LinesUpTo n (line_at at seen ws)
line_up n at seen [] le = tt
line_up n at true (w ∷ ws) le = (le, tt)
line_up n at false (w ∷ ws) le = tt

lines_up : (n at : ℕ) (seen : Bool) (ls : List (List ℕ)) → at + length ls ≤ n → LinesUpTo n (lines_from at seen ls)
unfolding lines_from
lines_up n at seen [] le = tt
lines_up n at seen (l ∷ ls) le =
    lines_append n (line_at at seen (words_of l)) (lines_from (at + 1) (seen || has_words (words_of l)) ls) (line_up n at seen (words_of l) (omega (arith, le)))
    (lines_up n (at + 1) (seen || has_words (words_of l)) ls (omega (arith, le)))

blocks_up : (n end : ℕ) (bs : List Block) (ls : List Line) → end ≤ n → LinesUpTo n ls → UpTo n (block_faults end bs ls)
unfolding block_faults
blocks_up n end bs [] le h = up_line n end (when (is_open bs) 8) le
blocks_up n end bs (l ∷ ls) le h =
    up_append n (at_line l.0 (misfits bs (shape_of_line l.1) (mentions_this l.1))) (block_faults end (blocks_below bs (shape_of_line l.1)) ls) (up_line n l.0 _ h.0)
    (blocks_up n end (blocks_below bs (shape_of_line l.1)) ls le h.1)

names_up : (n : ℕ) (whole : List (List Word)) (above : Above) (ls : List Line) → LinesUpTo n ls → UpTo n (lines_faults whole above ls)
unfolding lines_faults
names_up n whole above [] h = tt
names_up n whole above (l ∷ ls) h =
    up_append n (at_line l.0 (name_misfits whole above l.1)) (lines_faults whole (above_next above l.1) ls) (up_line n l.0 _ h.0) (names_up n whole (above_next above l.1) ls h.1)

last_up : (n : ℕ) (fs : List (ℕ × ℕ)) → 20001 ≤ n → UpTo n fs → UpTo n (with_last_line fs)
unfolding with_last_line
last_up n [] le h = (le, tt)
last_up n (f ∷ fs) le h = by (nat_lt f.0 20001 || ((f.0 == 20001) && nat_lt f.1 18)) (last_up n fs le h.1)
  where
    by : (b : Bool) → UpTo n (with_last_line fs) → UpTo n (if b then f ∷ with_last_line fs else (20001, 18) ∷ f ∷ fs)
    by true more = (h.0, more)
    by false more = (le, (h.0, h.1))

all_names_up : (n end : ℕ) (ls : List Line) → end ≤ n → LinesUpTo n ls → UpTo n (name_faults end ls)
unfolding name_faults
all_names_up n end ls le h = by (nat_le end 20001) refl (up_append n (lines_faults (words_in ls) nothing_above ls) (at_line end (when (not (has_main (words_in ls))) 18)) (names_up n (words_in ls) nothing_above ls h) (up_line n end _ le))
  where
    is_large : (end : ℕ) → nat_le end 20001 ≡ false → 20001 ≤ end
    is_large end e = grind (arith, nat_tests)

    by : (b : Bool) → nat_le end 20001 ≡ b → UpTo n (own_faults end ls) → UpTo n (if b then own_faults end ls else with_last_line (own_faults end ls))
    by true e own = own
    by false e own = last_up n (own_faults end ls) (let large = is_large end e in omega (arith, large, le)) own

first_up : (n pass : ℕ) (fs : List (ℕ × ℕ)) (more : List Fault) (f : Fault) → UpTo n fs → (first_of more ≡ Some f → f.1 ≤ n) → first_of (map (in_pass pass) fs ++ more) ≡ Some f → f.1 ≤ n
first_up n pass [] more f h rest e = rest e
first_up n pass (x ∷ fs) more f h rest e = let same : in_pass pass x ≡ f = cc in subst (λ (y : Fault). y.1 ≤ n) same h.0

none_of : (n : ℕ) (f : Fault) → first_of {A = Fault} [] ≡ Some f → f.1 ≤ n
none_of n f e = absurd cc

append_nil : (fs : List Fault) → fs ++ [] ≡ fs
append_nil [] = refl
append_nil (f ∷ fs) = ap (λ (gs : List Fault). f ∷ gs) (append_nil fs)

first_fault_up : (bytes : List ℕ) (f : Fault) → first_of (faults bytes) ≡ Some f → f.1 ≤ end_of bytes
unfolding faults
first_fault_up bytes f e =
    let n = end_of bytes in
    let above = lines_up n 1 false (lines bytes) (omega arith) in
    first_up n 1 (scan_faults 1 false (lines bytes)) _ f (scan_up n 1 false (lines bytes) (omega arith))
    (first_up n 2 (block_faults n [] (script_lines bytes)) _ f (blocks_up n n [] (script_lines bytes) (omega arith) above)
    (λ last. first_up n 3 (name_faults n (script_lines bytes)) [] f (all_names_up n n (script_lines bytes) (omega arith) above) (none_of n f) (ap first_of (append_nil (map (in_pass 3) (name_faults n (script_lines bytes)))) ∙ last)))
    e

-- ---- a text has no more lines than bytes, and one

few_lines : (parts : List (List ℕ)) → length (lines_of_parts parts) ≤ length parts
few_lines [] = omega arith
few_lines (x ∷ []) = by (length x == 0)
  where
    by : (b : Bool) → length (if b then [] else x ∷ []) ≤ 1
    by true = omega arith
    by false = omega arith
few_lines (x ∷ y ∷ more) = let rest = few_lines (y ∷ more) in omega (arith, rest)

one_at_most : (b : Bool) → cond b 1 0 ≤ 1
one_at_most true = omega arith
one_at_most false = omega arith

few_that_pass : (p : ℕ → Bool) (bs : List ℕ) → count_by p bs ≤ length bs
few_that_pass p [] = omega arith
few_that_pass p (b ∷ bs) = let one = one_at_most (p b) in let more = few_that_pass p bs in let all = sum_by-cons (λ (y : ℕ). cond (p y) 1 0) b bs in omega (arith, one, more, all)

pub few_parts : (p : ℕ → Bool) (bs : List ℕ) → length (slice_split p bs) ≤ length bs + 1
few_parts p bs = let n = length-slice_split p bs in let m = few_that_pass p bs in omega (arith, n, m)

pub fault_line : (bytes : List ℕ) (f : Fault) → first_of (faults bytes) ≡ Some f → f.1 ≤ length bytes + 2
fault_line bytes f e =
    let up = first_fault_up bytes f e in
    let few = few_lines (slice_split (λ b. b == 10) bytes) in
    let parts = few_parts (λ b. b == 10) bytes in
    omega (arith, up, few, parts)
