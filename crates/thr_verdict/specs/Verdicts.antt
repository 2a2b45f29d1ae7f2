-- The text of a verdict (docs/journal.md, "The verdict").
use Rattle.std.specs.Prelude.{ℕ, ◌+◌, ◌-◌, List, [], ◌∷◌, ◌++◌, length, codes, slice_get, unwrap_or, Option, None, Some}
use Rattle.std.specs.Fmt.{decimal}
use Rattle.thr_values.specs.declared.history.Entry.{Entry}
use Rattle.thr_values.specs.declared.event.Stop.{Stop}
use Rattle.thr_syntax.specs.declared.tree.Script.{Script}
use Rattle.thr_syntax.specs.Canon.{line, script_words}
use Rattle.thr_text.specs.Journals.{Names, who_word, what_words, stop_words}

-- ---- lines of a journal below `history`

-- A line of the history with its number, or the stop line (docs/journal.md, "The verdict").
pub data JournalLine : Type 0 where
  Numbered : (number : ℕ) → (entry : Entry) → JournalLine
  Stopped : (stop : Stop) → JournalLine

-- The lines below `history` in their order, where the first has this number.
unfoldable pub lines_below : ℕ → List Entry → Stop → List JournalLine
lines_below n [] stop = Stopped stop ∷ []
lines_below n (e ∷ es) stop = Numbered n e ∷ lines_below (n + 1) es stop

-- The line at a place of the history, counted from 1. The stop line stands at the place after the last line.
abbrev pub line_at : List Entry → Stop → ℕ → JournalLine
line_at entries stop place = unwrap_or (slice_get (lines_below 1 entries stop) (place - 1)) (Stopped stop)

-- The number in the whole journal of the line at this place: four lines and the script stand above the history.
abbrev pub journal_line : Script → ℕ → ℕ
journal_line s place = length (script_words s) + 4 + place

-- The words of a line.
abbrev pub line_words : Names → JournalLine → List (List ℕ)
line_words names (Numbered n e) = decimal n ∷ who_word e.who ∷ what_words names e.what
line_words names (Stopped stop) = stop_words stop

-- ---- verdicts

-- The first line of a journal that differs from what the machine gives: its number in the journal, what stands there, and
-- what is to stand there, which is nothing where the line begins an event that isn't legal there or is a stop that doesn't
-- hold (docs/journal.md, "The verdict").
pub record Differs : Type 0 where
  pub line : ℕ
  pub has : JournalLine
  pub should : Option JournalLine

-- A journal's line at a place of its history differs from what is to stand there.
abbrev pub differs_at : Script → List Entry → Stop → ℕ → Option JournalLine → Differs
differs_at s entries stop place right = record {
  line = journal_line s place;
  has = line_at entries stop place;
  should = right;
}

-- The words of the line that is to stand at a place, or `nothing`.
abbrev pub right_words : Names → Option JournalLine → List (List ℕ)
right_words names None = codes "nothing" ∷ []
right_words names (Some l) = line_words names l

-- The verdict on a journal of this script, where no line differs or this one (docs/journal.md, "The verdict").
unfoldable pub verdict_text : Script → Option Differs → List ℕ
verdict_text s None = line (codes "legal" ∷ [])
verdict_text s (Some d) =
    line (codes "illegal" ∷ codes "line" ∷ decimal d.line ∷ [])
    ++ (line (codes "has" ∷ line_words s.names d.has)
    ++ line (codes "should" ∷ right_words s.names d.should))
