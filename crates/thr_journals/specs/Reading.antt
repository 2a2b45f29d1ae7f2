-- What a text is read as that is read as a journal (docs/journal.md, "Faults of a journal").
use Rattle.std.specs.Prelude.{◌≡◌, ℕ, ◌+◌, List, [], ◌∷◌, drop, slice_get, unwrap_or, Option, Some, None}
use Rattle.std.specs.Option.{option_map}
use Rattle.thr_values.specs.declared.history.Entry.{Entry}
use Rattle.thr_values.specs.declared.event.Stop.{Stop}
use Rattle.thr_syntax.specs.declared.journal.Journal.{Journal}
use Rattle.thr_text.specs.Reading.{Reads}
use Rattle.thr_journals.specs.Fields.{Names}
use Rattle.thr_journals.specs.Lines.{Below, Told, Stopped, below}
use Rattle.thr_journals.specs.Faults.{parts_of, workers_in, script_count, script_text, names_of, faults}

-- The lines of a history up to the stop line, and the stop.
abbrev pub History : Type 0
History = List Entry × Stop

-- This line, and then these.
abbrev pub with_entry : Entry → History → History
with_entry e h = (e ∷ h.0, h.1)

-- The history that is read from lines.
unfoldable pub history_in : Names → List (List ℕ) → Option History
history_in names [] = None
history_in names (l ∷ parts) = by_line (below names l) (history_in names parts)
  where
    by_line : Option Below → Option History → Option History
    by_line None more = None
    by_line (Some (Stopped stop)) more = Some ([], stop)
    by_line (Some (Told text entry)) more = option_map (with_entry entry) more

-- The line at this place, counted from 0.
abbrev pub line_at : List (List ℕ) → ℕ → List ℕ
line_at parts place = unwrap_or (slice_get parts place) []

-- How many lines of a script the third line says that there are.
abbrev pub script_size : List (List ℕ) → ℕ
script_size parts = unwrap_or (script_count (line_at parts 2)) 0

-- The text of the script.
abbrev pub script_in : List (List ℕ) → List ℕ
script_in parts = script_text (script_size parts) (drop 3 parts)

-- The lines behind `history`.
abbrev pub history_lines : List (List ℕ) → List (List ℕ)
history_lines parts = drop (script_size parts + 4) parts

-- The bytes have no fault and are read as this journal: its workers, its script and its history.
pub record ReadsJournal (bytes : List ℕ) (j : Journal) : Type 0 where
  pub faultless : faults bytes ≡ []
  pub workers : workers_in (line_at (parts_of bytes) 1) ≡ Some j.workers
  pub script : Reads (script_in (parts_of bytes)) j.script
  pub history : history_in (names_of (script_in (parts_of bytes))) (history_lines (parts_of bytes)) ≡ Some (j.entries, j.stop)
