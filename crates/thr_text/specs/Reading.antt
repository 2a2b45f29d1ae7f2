-- What bytes are read as, and what they are refused for (docs/script.md, "Reading").
use Rattle.std.specs.Prelude.{◌≡◌, ℕ, ◌+◌, ◌≤◌, Bool, true, false, ◌||◌, not, List, [], ◌∷◌, ◌++◌, map, drop, length, Option, None, Some}
use Rattle.std.specs.Str.Lines.{lines}
use Rattle.thr_values.specs.Exceptions.{builtin_names}
use Rattle.thr_syntax.specs.declared.tree.Script.{Script}
use Rattle.thr_syntax.specs.Canon.{script_words}
use Rattle.thr_syntax.specs.Lines.{lines_of}
use Rattle.thr_text.specs.declared.word.Word.{Word}
use Rattle.thr_text.specs.Lexing.{word_of, words_of, line_text}
use Rattle.thr_text.specs.Faults.{when, word_faults}
use Rattle.thr_text.specs.Slots.{form_fault, is_header}
use Rattle.thr_text.specs.Blocks.{Line, at_line, block_faults}
use Rattle.thr_text.specs.Tables.{declarations}
use Rattle.thr_text.specs.NameFaults.{name_faults}
use Rattle.thr_text.specs.Numbers.{HaveNumbers}

-- ---- the first pass: each line by itself

abbrev pub has_words : List Word → Bool
has_words [] = false
has_words (w ∷ ws) = true

abbrev pub listed : Option ℕ → List ℕ
listed None = []
listed (Some n) = n ∷ []

-- F5 of the first line with words, F6 or F7 of any other line with words.
abbrev pub form_faults : Bool → List Word → List ℕ
form_faults seen [] = []
form_faults true (w ∷ ws) = listed (form_fault (w ∷ ws))
form_faults false (w ∷ ws) = when (not (is_header (w ∷ ws))) 5

-- The faults of lines by themselves, in rising order, from line `at` on; `seen` says that a line above has words. Where no
-- line has words there is one at the line after the last.
unfoldable pub scan_faults : ℕ → Bool → List (List ℕ) → List (ℕ × ℕ)
scan_faults at seen [] = at_line at (when (not seen) 5)
scan_faults at seen (l ∷ ls) =
    at_line at (word_faults l ++ form_faults seen (words_of l)) ++ scan_faults (at + 1) (seen || has_words (words_of l)) ls

-- ---- the lines of a text that the other passes see

-- A line with words, where one above has words too.
abbrev pub line_at : ℕ → Bool → List Word → List Line
line_at at seen [] = []
line_at at true (w ∷ ws) = (at, w ∷ ws) ∷ []
line_at at false (w ∷ ws) = []

unfoldable pub lines_from : ℕ → Bool → List (List ℕ) → List Line
lines_from at seen [] = []
lines_from at seen (l ∷ ls) = line_at at seen (words_of l) ++ lines_from (at + 1) (seen || has_words (words_of l)) ls

-- The lines with words after the first such line.
abbrev pub script_lines : List ℕ → List Line
script_lines bytes = lines_from 1 false (lines bytes)

-- The line after the last.
abbrev pub end_of : List ℕ → ℕ
end_of bytes = 1 + length (lines bytes)

-- ---- faults

-- A pass, a line and a number.
abbrev pub Fault : Type 0
Fault = ℕ × ℕ × ℕ

abbrev pub in_pass : ℕ → ℕ × ℕ → Fault
in_pass pass f = (pass, f.0, f.1)

-- The faults of a text. The first is the first stated fault, the least by pass, line and number; what follows it is free.
unfoldable pub faults : List ℕ → List Fault
faults bytes =
    map (in_pass 1) (scan_faults 1 false (lines bytes))
    ++ (map (in_pass 2) (block_faults (end_of bytes) [] (script_lines bytes))
    ++ map (in_pass 3) (name_faults (end_of bytes) (script_lines bytes)))

-- ---- reading

-- The lines of a script after the first, word by word.
abbrev pub own_lines : Script → List (List Word)
own_lines s = map (map word_of) (drop 1 (script_words s))

-- Lines with their numbers, from this number on.
unfoldable pub numbered_lines : ℕ → List (List Word) → List Line
numbered_lines at [] = []
numbered_lines at (l ∷ ls) = (at, l) ∷ numbered_lines (at + 1) ls

abbrev pub HaveForms : List (List Word) → Type 0
HaveForms [] = Unit {0}
HaveForms (l ∷ ls) = (form_fault l ≡ None) × (word_faults (line_text l) ≡ []) × HaveForms ls

-- A script that keeps the rules: its names are the built-in ones and then the declared ones in their order, its numbers have
-- 64 bits, and its own lines have no fault.
pub record Formed (s : Script) : Type 0 where
  pub names : s.names ≡ builtin_names ++ map (λ e. e.0) (declarations (own_lines s))
  pub numbers : HaveNumbers (lines_of s)
  pub forms : HaveForms (own_lines s)
  pub blocks : block_faults (length (own_lines s) + 2) [] (numbered_lines 2 (own_lines s)) ≡ []
  pub names_and_limits : name_faults (length (own_lines s) + 2) (numbered_lines 2 (own_lines s)) ≡ []

-- The bytes are the text of this script: no line has a fault by itself, the words of the lines after the first are those of
-- the script's own lines, the script keeps the rules, and there are at most 20,000 lines.
pub record Reads (bytes : List ℕ) (s : Script) : Type 0 where
  pub plain : scan_faults 1 false (lines bytes) ≡ []
  pub words : map (λ l. l.1) (script_lines bytes) ≡ own_lines s
  pub formed : Formed s
  pub short : end_of bytes ≤ 20001
