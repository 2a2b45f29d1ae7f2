-- Which line of a text is the first with a fault by itself (docs/script.md, "Faults").
use Rattle.std.specs.Prelude.{◌≡◌, ℕ, ◌+◌, Bool, false, ◌||◌, List, [], ◌∷◌, ◌++◌, length, ⊤}
use Rattle.thr_text.specs.Lexing.{words_of}
use Rattle.thr_text.specs.Faults.{word_faults}
use Rattle.thr_text.specs.Reading.{has_words, form_faults}

-- The faults F1 to F7 of a line, where `seen` says that a line above has words.
abbrev pub faults_of_line : Bool → List ℕ → List ℕ
faults_of_line seen line = word_faults line ++ form_faults seen (words_of line)

-- A line above or one of these has words.
abbrev pub seen_below : Bool → List (List ℕ) → Bool
seen_below seen [] = seen
seen_below seen (l ∷ ls) = seen_below (seen || has_words (words_of l)) ls

abbrev pub AreFaultless : Bool → List (List ℕ) → Type 0
AreFaultless seen [] = ⊤
AreFaultless seen (l ∷ ls) = (faults_of_line seen l ≡ []) × AreFaultless (seen || has_words (words_of l)) ls

-- No line above this one has a fault by itself and it has one; this is its least. The first of the lines has the number `at`.
pub record IsFirstFaulty (at : ℕ) (seen : Bool) (lines : List (List ℕ)) (f : ℕ × ℕ) : Type 0 where
  pub above : List (List ℕ)
  pub line : List ℕ
  pub below : List (List ℕ)
  pub greater : List ℕ
  pub split : lines ≡ above ++ line ∷ below
  pub faultless : AreFaultless seen above
  pub faulty : faults_of_line (seen_below seen above) line ≡ f.1 ∷ greater
  pub number : f.0 ≡ at + length above

-- No line has a fault by itself, and none has words: F5 at the line after the last.
pub record IsWordless (at : ℕ) (seen : Bool) (lines : List (List ℕ)) (f : ℕ × ℕ) : Type 0 where
  pub faultless : AreFaultless seen lines
  pub unseen : seen_below seen lines ≡ false
  pub number : f.0 ≡ at + length lines
  pub five : f.1 ≡ 5
