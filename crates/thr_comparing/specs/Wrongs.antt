-- Places that are wrong, and lines of the machine beside those of a journal (docs/journal.md, "The verdict").
use Rattle.std.specs.Prelude.{◌≡◌, ℕ, ◌+◌, ◌<◌, ◌≤◌, List, drop, length, slice_index_or, Option, Some, None, Ok, Err}
use Rattle.std.specs.Option.{option_map}
use Rattle.thr_values.specs.declared.history.Entry.{Entry}
use Rattle.thr_text.specs.Journals.{Names}
use Rattle.thr_verdict.specs.Verdicts.{JournalLine, Numbered, Stopped}
use Rattle.thr_verdict.specs.FirstWrong as verdict
use Rattle.thr_verdict.specs.FirstWrong.{lines_after, wrong_after}
use Rattle.thr_comparing.specs.declared.wrong.Right.{Right}
use Rattle.thr_comparing.specs.declared.wrong.Right.TheVariants as right
use Rattle.thr_comparing.specs.declared.wrong.Wrong.{Wrong}

-- What is to stand at a place.
abbrev pub line_of : ℕ → Right → JournalLine
line_of n (right.Line e) = Numbered n e
line_of n (right.Stop stop) = Stopped stop

-- The place that is wrong, as the verdict is defined.
abbrev pub told : Wrong → verdict.Wrong
told w = record { place = w.place; right = option_map (line_of w.place) w.right }

-- The line at this place in the machine's lines is the first, from a place on, that doesn't stand in the journal.
pub record IsOther (names : Names) (made entries : List Entry) (from i : ℕ) : Type 0 where
  pub before : i < length made
  pub there : i ≤ length entries
  pub first : (line : Entry) → line ≡ slice_index_or made i line → lines_after names from (drop from made) (drop from entries) ≡ Err (wrong_after i (Some (Numbered (i + 1) line)))

-- All of the machine's lines, from a place on, stand in the journal.
pub record AllStand (names : Names) (made entries : List Entry) (from : ℕ) : Type 0 where
  pub stand : lines_after names from (drop from made) (drop from entries) ≡ Ok (drop (length made) entries)
  pub fits : length made ≤ length entries

-- What comes of comparing the lines of the machine with those of a journal, from a place on.
abbrev pub Compares : Names → (made entries : List Entry) → (from : ℕ) → Option ℕ → Type 0
Compares names made entries from None = AllStand names made entries from
Compares names made entries from (Some i) = IsOther names made entries from i
