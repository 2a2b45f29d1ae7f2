-- Which line of a text is the first that breaks the rules for names or a limit (docs/script.md, "Faults").
use Rattle.std.specs.Prelude.{◌≡◌, ℕ, ◌<◌, ◌⊎◌, false, List, [], ◌∷◌, ◌++◌, ⊤}
use Rattle.thr_text.specs.declared.word.Word.{Word}
use Rattle.thr_text.specs.Blocks.{Line}
use Rattle.thr_text.specs.NameFaults.{Above, above_next, nothing_above, name_misfits, has_main, words_in}

-- Each of these lines keeps the rules for names and the limits below what stands above it, where `whole` are all lines.
abbrev pub AreWellNamed : List (List Word) → Above → List (List Word) → Type 0
AreWellNamed whole above [] = ⊤
AreWellNamed whole above (l ∷ ls) = (name_misfits whole above l ≡ []) × AreWellNamed whole (above_next above l) ls

-- What stands above a line that stands below these.
abbrev pub above_after : Above → List (List Word) → Above
above_after above [] = above
above_after above (l ∷ ls) = above_after (above_next above l) ls

-- All lines above this one keep the rules and it doesn't; this is the least number that says why.
pub record IsFirstMisnamed (lines : List Line) (f : ℕ × ℕ) : Type 0 where
  pub above : List Line
  pub line : Line
  pub below : List Line
  pub greater : List ℕ
  pub split : lines ≡ above ++ line ∷ below
  pub named : AreWellNamed (words_in lines) nothing_above (words_in above)
  pub misnamed : name_misfits (words_in lines) (above_after nothing_above (words_in above)) line.1 ≡ f.1 ∷ greater
  pub at : f.0 ≡ line.0

-- All lines keep the rules, and no routine is named `main`: F18 at the line after the last.
pub record HasNoMain (end : ℕ) (lines : List Line) (f : ℕ × ℕ) : Type 0 where
  pub named : AreWellNamed (words_in lines) nothing_above (words_in lines)
  pub without : has_main (words_in lines) ≡ false
  pub at : f ≡ (end, 18)

-- The fault comes before F18 of line 20,001.
abbrev pub IsBeforeLast : ℕ × ℕ → Type 0
IsBeforeLast f = (f.0 < 20001) ⊎ ((f.0 ≡ 20001) × (f.1 < 18))

-- In a text of more than 20,000 lines: the first line that doesn't keep the rules has its fault before F18 of line 20,001.
pub record IsMisnamedInTime (lines : List Line) (f : ℕ × ℕ) : Type 0 where
  pub first : IsFirstMisnamed lines f
  pub before : IsBeforeLast f

-- In such a text: there is no such line, so that F18 of line 20,001 comes first.
pub record IsTooLong (lines : List Line) (f : ℕ × ℕ) : Type 0 where
  pub none : (g : ℕ × ℕ) → IsFirstMisnamed lines g → IsBeforeLast g → ⊥
  pub at : f ≡ (20001, 18)
