-- One line more of a text.
use Rattle.std.proofs.Common.{◌≡◌, ℕ, ◌+◌, Bool, true, false, List, [], ◌∷◌, ◌++◌, length, Some, refl, sym, ap, ◌∙◌, subst, arith}
use Rattle.std.specs.Prelude.{◌||◌}
use Rattle.std.proofs.lemmas.List.{append_assoc, append-nil}
use Rattle.thr_text.specs.declared.word.Word.{Word}
use Rattle.thr_text.specs.declared.fault.ParseFault.{ParseFault}
use Rattle.thr_text.specs.declared.fault.ParseFault.TheVariants.{Refused, NoMemory}
use Rattle.thr_text.specs.Lexing.{words_of}
use Rattle.thr_text.specs.Faults.{word_faults, first_of}
use Rattle.thr_text.specs.Blocks.{Line, at_line}
use Rattle.thr_text.specs.Reading.{has_words, form_faults, scan_faults, line_at, lines_from}
use Rattle.thr_text.specs.Refusals.{IsFirst}

first_more : (xs ys : List (ℕ × ℕ)) (f : ℕ × ℕ) → first_of xs ≡ Some f → first_of (xs ++ ys) ≡ Some f
first_more [] ys f e = absurd cc
first_more (x ∷ xs) ys f e = e

is_first_more : (e : ParseFault) (xs ys : List (ℕ × ℕ)) → IsFirst e xs → IsFirst e (xs ++ ys)
is_first_more (Refused p) xs ys h = first_more xs ys (p.line, p.number) h
is_first_more NoMemory xs ys h = tt

at_line_more : (at : ℕ) (ns ms : List ℕ) → at_line at (ns ++ ms) ≡ at_line at ns ++ at_line at ms
at_line_more at [] ms = refl
at_line_more at (n ∷ ns) ms = ap (λ (fs : List (ℕ × ℕ)). (at, n) ∷ fs) (at_line_more at ns ms)

one_line : (at : ℕ) (seen : Bool) (l : List ℕ) (ws : List Word) (ls : List (List ℕ)) → word_faults l ≡ [] → ws ≡ words_of l
    → scan_faults at seen (l ∷ ls) ≡ at_line at (form_faults seen ws) ++ scan_faults (at + 1) (seen || has_words ws) ls
unfolding scan_faults
one_line at seen l ws ls none same =
    ap (λ (ns : List ℕ). at_line at (ns ++ form_faults seen (words_of l)) ++ scan_faults (at + 1) (seen || has_words (words_of l)) ls) none
    ∙ ap (λ (x : List Word). at_line at (form_faults seen x) ++ scan_faults (at + 1) (seen || has_words x) ls) (sym same)

-- ---- a line with a fault

-- a fault of the line by its words
pub stops_by_words : (e : ParseFault) (at : ℕ) (seen : Bool) (l : List ℕ) (all ls : List (List ℕ)) (w : List (ℕ × ℕ)) → all ≡ l ∷ ls
    → IsFirst e (at_line at (word_faults l)) → scan_faults at seen all ≡ w → IsFirst e w
unfolding scan_faults
stops_by_words e at seen l all ls w is h so_far =
    let ns = form_faults seen (words_of l) in
    let here : IsFirst e (at_line at (word_faults l ++ ns)) = subst (IsFirst e) (sym (at_line_more at (word_faults l) ns)) (is_first_more e (at_line at (word_faults l)) (at_line at ns) h) in
    subst (IsFirst e) (ap (scan_faults at seen) (sym is) ∙ so_far) (is_first_more e (at_line at (word_faults l ++ ns)) (scan_faults (at + 1) (seen || has_words (words_of l)) ls) here)

-- a fault of the line by its form
pub stops_by_form : (e : ParseFault) (at : ℕ) (seen : Bool) (l : List ℕ) (ws : List Word) (all ls : List (List ℕ)) (w : List (ℕ × ℕ)) → all ≡ l ∷ ls
    → word_faults l ≡ [] → ws ≡ words_of l → IsFirst e (at_line at (form_faults seen ws)) → scan_faults at seen all ≡ w → IsFirst e w
stops_by_form e at seen l ws all ls w is none same h so_far =
    subst (IsFirst e) (sym (one_line at seen l ws ls none same) ∙ ap (scan_faults at seen) (sym is) ∙ so_far) (is_first_more e (at_line at (form_faults seen ws)) (scan_faults (at + 1) (seen || has_words ws) ls) h)

-- ---- a line without a fault

pub goes_on : (at : ℕ) (seen seen' : Bool) (l : List ℕ) (ws : List Word) (all ls : List (List ℕ)) (w : List (ℕ × ℕ)) → all ≡ l ∷ ls
    → word_faults l ≡ [] → ws ≡ words_of l → form_faults seen ws ≡ [] → seen' ≡ (seen || has_words ws) → scan_faults at seen all ≡ w → scan_faults (at + 1) seen' ls ≡ w
goes_on at seen seen' l ws all ls w is none same formed s so_far =
    ap (λ (x : Bool). scan_faults (at + 1) x ls) s
    ∙ ap (λ (ns : List ℕ). at_line at ns ++ scan_faults (at + 1) (seen || has_words ws) ls) (sym formed)
    ∙ sym (one_line at seen l ws ls none same) ∙ ap (scan_faults at seen) (sym is) ∙ so_far

pub keeps_on : (kept kept' : List Line) (at : ℕ) (seen seen' : Bool) (l : List ℕ) (ws : List Word) (all ls : List (List ℕ)) (w : List Line) → all ≡ l ∷ ls
    → ws ≡ words_of l → kept' ≡ kept ++ line_at at seen ws → seen' ≡ (seen || has_words ws) → kept ++ lines_from at seen all ≡ w → kept' ++ lines_from (at + 1) seen' ls ≡ w
unfolding lines_from
keeps_on kept kept' at seen seen' l ws all ls w is same k s so_far =
    ap (λ (x : List Line). x ++ lines_from (at + 1) seen' ls) k
    ∙ ap (λ (x : Bool). kept ++ line_at at seen ws ++ lines_from (at + 1) x ls) s
    ∙ append_assoc kept (line_at at seen ws) (lines_from (at + 1) (seen || has_words ws) ls)
    ∙ ap (λ (x : List Word). kept ++ (line_at at seen x ++ lines_from (at + 1) (seen || has_words x) ls)) same
    ∙ ap (λ (x : List (List ℕ)). kept ++ lines_from at seen x) (sym is) ∙ so_far

pub counts_on : (at n : ℕ) (l : List ℕ) (all ls : List (List ℕ)) → all ≡ l ∷ ls → at + length all ≡ n → at + 1 + length ls ≡ n
counts_on at n l all ls is so_far = let one : length all ≡ length (l ∷ ls) = ap length is in omega (arith, one, so_far)

-- ---- the end of the text

pub nothing_at_end : (at : ℕ) (all : List (List ℕ)) (w : List (ℕ × ℕ)) → all ≡ [] → scan_faults at true all ≡ w → w ≡ []
unfolding scan_faults
nothing_at_end at all w is so_far = sym so_far ∙ ap (scan_faults at true) is

pub header_at_end : (at : ℕ) (all : List (List ℕ)) (w : List (ℕ × ℕ)) → all ≡ [] → scan_faults at false all ≡ w → w ≡ (at, 5) ∷ []
unfolding scan_faults
header_at_end at all w is so_far = sym so_far ∙ ap (scan_faults at false) is

pub kept_at_end : (kept : List Line) (at : ℕ) (seen : Bool) (all : List (List ℕ)) (w : List Line) → all ≡ [] → kept ++ lines_from at seen all ≡ w → kept ≡ w
unfolding lines_from
kept_at_end kept at seen all w is so_far = sym (append-nil kept) ∙ ap (λ (x : List (List ℕ)). kept ++ lines_from at seen x) (sym is) ∙ so_far
