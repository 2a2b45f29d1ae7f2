-- The script between the first two lines and the line `history`.
use Rattle.std.proofs.Common.{◌≡◌, ℕ, zero, suc, ◌+◌, ◌-◌, ◌<◌, ◌≤◌, Bool, true, false, List, [], ◌∷◌, ◌++◌, length, length-append, take, drop, slice_get, Option, Some, None, refl, sym, ap, ◌∙◌, arith}
use Rattle.std.specs.Prelude.{◌==◌, ◌&&◌, not, codes, unwrap_or, if◌then◌else◌}
use Rattle.std.specs.Str.{bytes_eq}
use Rattle.std.proofs.lemmas.Bool.Decides.{nat_tests}
use Rattle.std.proofs.lemmas.List.{length-drop, drop-drop}
use Rattle.thr_text.specs.Faults.{first_of}
use Rattle.thr_text.specs.Reading as scripts
use Rattle.thr_journals.specs.Faults.{Fault, script_count, script_text, is_history, has_script, text_faults, history_faults, names_of, faults_below, faults_by, script_faults}
use Rattle.thr_journals.specs.Reading.{line_at}
use Rattle.thr_journal_reading.specs.Parts.{IsScriptPart}

abbrev refusal : List Fault
refusal = (3, 2) ∷ []

no_script_by : (k : ℕ) (parts : List (List ℕ)) → has_script k parts ≡ false → faults_by (Some k) parts ≡ refusal
no_script_by k parts e = rw e refl

no_lines : (k : ℕ) → has_script k [] ≡ false
no_lines k = refl

-- the third line has no LF
pub no_third : (parts : List (List ℕ)) (tail : List ℕ) → parts ≡ tail ∷ [] → script_faults parts ≡ refusal
no_third parts tail e = ap script_faults e ∙ by (script_count tail)
  where
    by : (o : Option ℕ) → faults_by o [] ≡ refusal
    by None = refl
    by (Some k) = no_script_by k [] (no_lines k)

-- it names no number of lines
pub no_count : (parts more : List (List ℕ)) (l : List ℕ) → parts ≡ l ∷ more → script_count l ≡ None → script_faults parts ≡ refusal
no_count parts more l e none = ap script_faults e ∙ ap (λ (o : Option ℕ). faults_by o more) none

told : (parts more : List (List ℕ)) (l : List ℕ) (k : ℕ) → parts ≡ l ∷ more → script_count l ≡ Some k → script_faults parts ≡ faults_by (Some k) more
told parts more l k e count = ap script_faults e ∙ ap (λ (o : Option ℕ). faults_by o more) count

past : (parts : List (List ℕ)) (k : ℕ) → length parts ≤ k → slice_get parts k ≡ None
past [] k le = refl
past (p ∷ parts) zero le = absurd (omega arith)
past (p ∷ parts) (suc k) le = past parts k (omega arith)

-- there are fewer lines
pub too_few_lines : (parts more : List (List ℕ)) (l : List ℕ) (k : ℕ) → parts ≡ l ∷ more → script_count l ≡ Some k → length more ≤ k → script_faults parts ≡ refusal
too_few_lines parts more l k e count le = told parts more l k e count ∙ no_script_by k more (rw (past more k le) refl)

got : (parts rest : List (List ℕ)) (l : List ℕ) (k : ℕ) → drop k parts ≡ l ∷ rest → slice_get parts k ≡ Some l
got [] rest l zero e = absurd cc
got [] rest l (suc k) e = absurd cc
got (p ∷ parts) rest l zero e = let same : p ≡ l = cc in ap Some same
got (p ∷ parts) rest l (suc k) e = got parts rest l k e

one_left : (parts : List (List ℕ)) (tail : List ℕ) (k : ℕ) → drop k parts ≡ tail ∷ [] → (length parts == k + 1) ≡ true
one_left parts tail k e = let n : length (drop k parts) ≡ 1 = ap length e in is_one (length parts) k (omega (arith, n, length-drop k parts))
  where
    is_one : (n k : ℕ) → n ≡ k + 1 → (n == k + 1) ≡ true
    is_one n k e = grind (arith, nat_tests)

and_false : (b : Bool) → (b && false) ≡ false
and_false true = refl
and_false false = refl

-- the line behind them has no LF
pub no_history_end : (parts more : List (List ℕ)) (l tail : List ℕ) (k : ℕ) → parts ≡ l ∷ more → script_count l ≡ Some k → drop k more ≡ tail ∷ [] → script_faults parts ≡ refusal
no_history_end parts more l tail k e count left = told parts more l k e count ∙ no_script_by k more (rw (one_left more tail k left) (and_false (is_history (slice_get more k))))

-- it isn't `history`
pub no_history : (parts more rest : List (List ℕ)) (l line : List ℕ) (k : ℕ) → parts ≡ l ∷ more → script_count l ≡ Some k → drop k more ≡ line ∷ rest → bytes_eq line (codes "history") ≡ false
    → script_faults parts ≡ refusal
no_history parts more rest l line k e count left other = told parts more l k e count ∙ no_script_by k more (rw (got more rest line k left, other) refl)

more_left : (parts rest : List (List ℕ)) (line next : List ℕ) (k : ℕ) → drop k parts ≡ line ∷ next ∷ rest → (length parts == k + 1) ≡ false
more_left parts rest line next k e = let n : length (drop k parts) ≡ length (line ∷ next ∷ rest) = ap length e in is_more (length parts) k (omega (arith, n, length-drop k parts))
  where
    is_more : (n k : ℕ) → k + 2 ≤ n → (n == k + 1) ≡ false
    is_more n k e = grind (arith, nat_tests)

-- the script stands there
pub script_there : (parts more behind rest : List (List ℕ)) (l line next text : List ℕ) (k : ℕ) → parts ≡ l ∷ more → script_count l ≡ Some k → drop k more ≡ line ∷ behind → behind ≡ next ∷ rest
    → bytes_eq line (codes "history") ≡ true → script_text k more ≡ text → IsScriptPart parts k text behind
script_there parts more behind rest l line next text k e count left some is same =
    let cut : drop k more ≡ line ∷ next ∷ rest = left ∙ ap (λ (ls : List (List ℕ)). line ∷ ls) some in
    let stands : has_script k more ≡ true = rw (got more (next ∷ rest) line k cut, is, more_left more rest line next k cut) refl in
    let past_history : drop (k + 1) more ≡ behind = sym (drop-drop 1 k more) ∙ ap (drop 1) left in
    record {
      count = rw (e, count) refl;
      taken = ap (λ (ls : List (List ℕ)). script_text k (drop 1 ls)) e ∙ same;
      left = ap (drop (k + 2)) e ∙ ap (λ (n : ℕ). drop n (l ∷ more)) (two_is k) ∙ past_history;
      faults = told parts more l k e count ∙ stands_by k more stands
          ∙ ap (λ (t : List ℕ). text_faults t (first_of (scripts.faults t)) ++ history_faults (names_of t) (k + 5) 1 (drop (k + 1) more)) same
          ∙ ap (λ (ls : List (List ℕ)). text_faults text (first_of (scripts.faults text)) ++ history_faults (names_of text) (k + 5) 1 ls) past_history;
    }
  where
    two_is : (k : ℕ) → k + 2 ≡ suc (k + 1)
    two_is k = omega arith

    stands_by : (k : ℕ) (more : List (List ℕ)) → has_script k more ≡ true → faults_by (Some k) more ≡ faults_below k more
    stands_by k more e = rw e refl

front : (xs ys : List ℕ) → take (length xs) (xs ++ ys) ≡ xs
front [] ys = refl
front (x ∷ xs) ys = ap (λ (zs : List ℕ). x ∷ zs) (front xs ys)

taken : (xs ys : List ℕ) → take (length (xs ++ ys) - length ys) (xs ++ ys) ≡ xs
taken xs ys = ap (λ (n : ℕ). take n (xs ++ ys)) (let n = length-append xs ys in omega (arith, n)) ∙ front xs ys

-- The text that is cut off before what is left is the script's.
pub cut_off : (whole text after : List ℕ) → whole ≡ text ++ after → take (length whole - length after) whole ≡ text
cut_off whole text after e = rw e (taken text after)

pub cut_length : (whole text after : List ℕ) → whole ≡ text ++ after → length text + length after ≡ length whole
cut_length whole text after e = let n : length whole ≡ length (text ++ after) = ap length e in omega (arith, n, length-append text after)

-- The script is refused at 3 plus the line of its fault.
pub script_refused : (text : List ℕ) (pass line number at : ℕ) → first_of (scripts.faults text) ≡ Some (pass, line, number) → at ≡ 3 + line → first_of (text_faults text (first_of (scripts.faults text))) ≡ Some (at, 3)
script_refused text pass line number at e same = ap (λ (o : Option scripts.Fault). first_of (text_faults text o)) e ∙ ap (λ (n : ℕ). Some (let f : Fault = (n, 3) in f)) (sym same)
