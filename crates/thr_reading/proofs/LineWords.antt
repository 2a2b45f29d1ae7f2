-- What the lines of a text without a fault of the first pass are.
use Rattle.std.proofs.Common.{◌≡◌, ℕ, ◌+◌, ◌≤◌, Bool, true, false, List, [], ◌∷◌, ◌++◌, length, length-append, None, Option, Some, refl, arith}
use Rattle.std.specs.Prelude.{◌||◌}
use Rattle.thr_text.specs.declared.word.Word.{Word}
use Rattle.thr_text.specs.Lexing.{words_of, line_text, AreOfLine}
use Rattle.thr_text.specs.Faults.{word_faults}
use Rattle.thr_text.specs.Slots.{form_fault}
use Rattle.thr_text.specs.Blocks.{Line, at_line}
use Rattle.thr_text.specs.NameFaults.{words_in}
use Rattle.thr_text.specs.Reading.{has_words, listed, form_faults, scan_faults, line_at, lines_from, HaveForms}
use Rattle.thr_lexer.proofs.OfLine.{words_of_line}
use Rattle.thr_lexer.proofs.Faultless.{text_faultless}
use Rattle.thr_reading.specs.Naming.{HaveGoodWords}

pub first_nil : {A : Type 0} (xs ys : List A) → xs ++ ys ≡ [] → xs ≡ []
first_nil [] ys e = refl
first_nil (x ∷ xs) ys e = absurd cc

pub second_nil : {A : Type 0} (xs ys : List A) → xs ++ ys ≡ [] → ys ≡ []
second_nil [] ys e = e
second_nil (x ∷ xs) ys e = absurd cc

pub none_at : (line : ℕ) (ns : List ℕ) → at_line line ns ≡ [] → ns ≡ []
none_at line [] e = refl
none_at line (n ∷ ns) e = absurd cc

none_listed : (o : Option ℕ) → listed o ≡ [] → o ≡ None
none_listed None e = refl
none_listed (Some n) e = absurd cc

-- Lines whose words are good and whose canonical texts have no fault.
pub record AreGood (ws : List (List Word)) : Type 0 where
  pub words : HaveGoodWords ws
  pub forms : HaveForms ws

no_lines : AreGood []
no_lines = record { words = tt; forms = tt }

more_lines : (l : List Word) (ls : List (List Word)) → (l ≡ [] → ⊥) → form_fault l ≡ None → AreOfLine l → word_faults (line_text l) ≡ [] → AreGood ls → AreGood (l ∷ ls)
more_lines l ls some form of_line text h = record { words = ((some, form, of_line), h.words); forms = (form, text, h.forms) }

not_empty : (w : Word) (ws : List Word) → w ∷ ws ≡ [] → ⊥
not_empty w ws e = cc

kept_line : (at : ℕ) (seen : Bool) (ws : List Word) (rest : List Line) → form_faults seen ws ≡ [] → AreOfLine ws → word_faults (line_text ws) ≡ [] → AreGood (words_in rest) → AreGood (words_in (line_at at seen ws ++ rest))
kept_line at seen [] rest form of_line text h = h
kept_line at true (w ∷ ws) rest form of_line text h = more_lines (w ∷ ws) (words_in rest) (not_empty w ws) (none_listed (form_fault (w ∷ ws)) form) of_line text h
kept_line at false (w ∷ ws) rest form of_line text h = h

-- How a line and those below it have no fault.
record Split (at : ℕ) (seen : Bool) (l : List ℕ) (ls : List (List ℕ)) : Type 0 where
  pub word : word_faults l ≡ []
  pub form : form_faults seen (words_of l) ≡ []
  pub rest : scan_faults (at + 1) (seen || has_words (words_of l)) ls ≡ []

split : (at : ℕ) (seen : Bool) (l : List ℕ) (ls : List (List ℕ)) → scan_faults at seen (l ∷ ls) ≡ [] → Split at seen l ls
unfolding scan_faults
split at seen l ls e =
    let fs = word_faults l ++ form_faults seen (words_of l) in
    let here : fs ≡ [] = none_at at fs (first_nil (at_line at fs) (scan_faults (at + 1) (seen || has_words (words_of l)) ls) e) in
    record {
      word = first_nil (word_faults l) (form_faults seen (words_of l)) here;
      form = second_nil (word_faults l) (form_faults seen (words_of l)) here;
      rest = second_nil (at_line at fs) (scan_faults (at + 1) (seen || has_words (words_of l)) ls) e;
    }

pub good_lines : (at : ℕ) (seen : Bool) (ls : List (List ℕ)) → scan_faults at seen ls ≡ [] → AreGood (words_in (lines_from at seen ls))
unfolding lines_from
good_lines at seen [] e = no_lines
good_lines at seen (l ∷ ls) e =
    let s = split at seen l ls e in
    kept_line at seen (words_of l) (lines_from (at + 1) (seen || has_words (words_of l)) ls) s.form (words_of_line l s.word) (text_faultless l s.word)
    (good_lines (at + 1) (seen || has_words (words_of l)) ls s.rest)

-- ---- how many they are: the first line with words is none of them

kept_count : (at : ℕ) (seen : Bool) (ws : List Word) → length (line_at at seen ws) ≤ 1
kept_count at seen [] = omega arith
kept_count at true (w ∷ ws) = omega arith
kept_count at false (w ∷ ws) = omega arith

few_lines : (at : ℕ) (seen : Bool) (ls : List (List ℕ)) → length (lines_from at seen ls) ≤ length ls
unfolding lines_from
few_lines at seen [] = omega arith
few_lines at seen (l ∷ ls) =
    let next = lines_from (at + 1) (seen || has_words (words_of l)) ls in
    omega (arith, length-append (line_at at seen (words_of l)) next, kept_count at seen (words_of l), few_lines (at + 1) (seen || has_words (words_of l)) ls)

no_header : (at : ℕ) → scan_faults at false [] ≡ [] → ⊥
unfolding scan_faults
no_header at e = cc

fewer_by : (at : ℕ) (ws : List Word) (l : List ℕ) (ls : List (List ℕ)) → (scan_faults (at + 1) false ls ≡ [] → length (lines_from (at + 1) false ls) + 1 ≤ length ls)
    → scan_faults (at + 1) (false || has_words ws) ls ≡ [] → length (line_at at false ws ++ lines_from (at + 1) (false || has_words ws) ls) + 1 ≤ length (l ∷ ls)
fewer_by at [] l ls more e = omega (arith, more e)
fewer_by at (w ∷ ws) l ls more e = omega (arith, few_lines (at + 1) true ls)

pub fewer_lines : (at : ℕ) (ls : List (List ℕ)) → scan_faults at false ls ≡ [] → length (lines_from at false ls) + 1 ≤ length ls
unfolding lines_from
fewer_lines at [] e = absurd (no_header at e)
fewer_lines at (l ∷ ls) e = fewer_by at (words_of l) l ls (fewer_lines (at + 1) ls) (split at false l ls e).rest
