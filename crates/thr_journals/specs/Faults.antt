-- What a text that is read as a journal is refused for (docs/journal.md, "Faults of a journal").
use Rattle.std.specs.Prelude.{ℕ, ◌+◌, ◌==◌, Bool, true, false, ◌&&◌, not, if◌then◌else◌, List, [], ◌∷◌, ◌++◌, map, take, drop, length, slice_get, is_none, codes, Option, Some, None}
use Rattle.std.specs.List.{slice_split, flat_map}
use Rattle.std.specs.Option.{option_and_then}
use Rattle.std.specs.Str.{bytes_eq}
use Rattle.thr_values.specs.declared.history.Entry.{Entry}
use Rattle.thr_text.specs.declared.word.Word.{Word}
use Rattle.thr_text.specs.Faults.{first_of}
use Rattle.thr_text.specs.Lexing.{line_text}
use Rattle.thr_text.specs.Tables.{entries_of}
use Rattle.thr_text.specs.Reading as scripts
use Rattle.thr_journals.specs.Numbers.{number_in, number_of}
use Rattle.thr_journals.specs.Fields.{Names, alone, word_as}
use Rattle.thr_journals.specs.Lines.{Below, Told, Stopped, line_words, below}

-- ---- lines

abbrev pub is_end : ℕ → Bool
is_end b = b == 10

-- What stands between the line feeds of a text: its lines, each of which has its LF, and last what stands behind the last LF.
abbrev pub parts_of : List ℕ → List (List ℕ)
parts_of bytes = slice_split is_end bytes

-- A line with its LF.
abbrev pub with_end : List ℕ → List ℕ
with_end text = text ++ 10 ∷ []

-- ---- faults

-- A line of the text and the number of the fault, J1 as 1.
abbrev pub Fault : Type 0
Fault = ℕ × ℕ

-- This fault, where the test says so.
abbrev pub fault_if : Bool → ℕ → ℕ → List Fault
fault_if true line number = (line, number) ∷ []
fault_if false line number = []

-- ---- J1: the first two lines

abbrev pub is_title : List ℕ → Bool
is_title text = bytes_eq text (codes "dcethr journal 1")

-- The number behind a word that stands before it alone, from one number to another.
abbrev pub number_behind : List ℕ → ℕ → ℕ → List ℕ → Option ℕ
number_behind before least most text = of_words (line_words text)
  where
    of_words : List (List ℕ) → Option ℕ
    of_words [] = None
    of_words (w ∷ ws) = if bytes_eq w before then alone (word_as (number_in least most)) ws else None

abbrev pub workers_in : List ℕ → Option ℕ
workers_in = number_behind (codes "workers") 1 16

-- J1 of line 2, where it is a line.
abbrev pub workers_faults : List (List ℕ) → List Fault
workers_faults [] = (2, 1) ∷ []
workers_faults (tail ∷ []) = (2, 1) ∷ []
workers_faults (l ∷ p ∷ parts) = fault_if (is_none (workers_in l)) 2 1

-- J1 of the first two lines.
abbrev pub title_faults : List (List ℕ) → List Fault
title_faults [] = (1, 1) ∷ []
title_faults (tail ∷ []) = (1, 1) ∷ []
title_faults (l ∷ p ∷ parts) = fault_if (not (is_title l)) 1 1 ++ workers_faults (p ∷ parts)

-- ---- J2 and J3: the script

-- How many lines of a script the line says that there are, one at least.
abbrev pub script_count : List ℕ → Option ℕ
script_count = number_behind (codes "script") 1 18446744073709551615

-- The line is `history`.
abbrev pub is_history : Option (List ℕ) → Bool
is_history None = false
is_history (Some text) = bytes_eq text (codes "history")

-- So many lines and then the line `history` stand there, each with its LF.
abbrev pub has_script : ℕ → List (List ℕ) → Bool
has_script k parts = is_history (slice_get parts k) && not (length parts == k + 1)

-- So many lines as one text.
abbrev pub script_text : ℕ → List (List ℕ) → List ℕ
script_text k parts = flat_map with_end (take k parts)

-- The canonical text of the words of a script's lines, where the text is that of a script.
abbrev pub canonical : List ℕ → List ℕ
canonical bytes = with_end (codes "dcethr 1") ++ flat_map (λ l. with_end (line_text l.1)) (scripts.script_lines bytes)

-- J3 of a text that stands at line 4: the first stated fault of the text, or that it is no canonical text.
abbrev pub text_faults : List ℕ → Option scripts.Fault → List Fault
text_faults bytes (Some f) = (3 + f.1, 3) ∷ []
text_faults bytes None = fault_if (not (bytes_eq bytes (canonical bytes))) 4 3

-- The names of the script that is read from a text, with their kinds.
abbrev pub names_of : List ℕ → Names
names_of bytes = entries_of (map (λ l. l.1) (scripts.script_lines bytes))

-- ---- J4 to J7: the history

-- J6: a byte stands behind the stop line.
abbrev pub end_faults : ℕ → List (List ℕ) → List Fault
end_faults at [] = []
end_faults at (tail ∷ []) = fault_if (not (length tail == 0)) at 6
end_faults at (l ∷ p ∷ parts) = (at, 6) ∷ []

-- J7 behind the last LF, or J4 of what has none.
abbrev pub tail_fault : List ℕ → ℕ → Fault
tail_fault tail at = (at, if length tail == 0 then 7 else 4)

-- The faults from a line on: J4 of one without a form, J5 of one whose number isn't this one, J6 behind the stop line, and J7
-- where there is none.
unfoldable pub history_faults : Names → ℕ → ℕ → List (List ℕ) → List Fault
history_faults names at number [] = (at, 7) ∷ []
history_faults names at number (tail ∷ []) = tail_fault tail at ∷ []
history_faults names at number (l ∷ p ∷ parts) =
    by_line (below names l) (end_faults (at + 1) (p ∷ parts)) (history_faults names (at + 1) (number + 1) (p ∷ parts))
  where
    by_line : Option Below → List Fault → List Fault → List Fault
    by_line None behind more = (at, 4) ∷ []
    by_line (Some (Stopped stop)) behind more = behind
    by_line (Some (Told text entry)) behind more = fault_if (not (number_of text == number)) at 5 ++ more

-- ---- the whole

-- J3 and what follows it, where so many lines of a script stand there.
abbrev pub faults_below : ℕ → List (List ℕ) → List Fault
faults_below k parts =
    text_faults (script_text k parts) (first_of (scripts.faults (script_text k parts)))
    ++ history_faults (names_of (script_text k parts)) (k + 5) 1 (drop (k + 1) parts)

abbrev pub faults_by : Option ℕ → List (List ℕ) → List Fault
faults_by None parts = (3, 2) ∷ []
faults_by (Some k) parts = if has_script k parts then faults_below k parts else (3, 2) ∷ []

-- J2 and what follows it, from line 3 on.
abbrev pub script_faults : List (List ℕ) → List Fault
script_faults [] = (3, 2) ∷ []
script_faults (l ∷ parts) = faults_by (script_count l) parts

-- The faults of a text that is read as a journal. The first is the one that is answered; what follows it is free (docs/journal.md,
-- "Faults of a journal").
unfoldable pub faults : List ℕ → List Fault
faults bytes = title_faults (parts_of bytes) ++ script_faults (drop 2 (parts_of bytes))
