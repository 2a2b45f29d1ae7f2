-- The first line of a journal that differs from what the machine gives (docs/journal.md, "The verdict").
use Rattle.std.specs.Prelude.{◌≡◌, ◌↔◌, ℕ, zero, suc, ◌+◌, ◌==◌, Bool, true, false, ◌&&◌, if◌then◌else◌, List, [], ◌∷◌, length, Option, None, Some, Result, Ok, Err}
use Rattle.std.specs.Option.{option_map, option_and_then}
use Rattle.std.specs.Str.{bytes_eq}
use Rattle.thr_values.specs.declared.number.Tid.{Tid}
use Rattle.thr_values.specs.declared.event.Event.{Event}
use Rattle.thr_values.specs.declared.event.Event.TheVariants as event
use Rattle.thr_values.specs.declared.event.Stop.{Stop}
use Rattle.thr_values.specs.declared.event.Stop.TheVariants as stops
use Rattle.thr_values.specs.declared.history.Who.{Who}
use Rattle.thr_values.specs.declared.history.Who.TheVariants as who
use Rattle.thr_values.specs.declared.history.Entry.{Entry}
use Rattle.thr_syntax.specs.declared.tree.Script.{Script}
use Rattle.thr_syntax.specs.declared.journal.Journal.{Journal}
use Rattle.thr_text.specs.Journals.{Names, numbered_line}
use Rattle.thr_parts.specs.declared.row.Place.{Place}
use Rattle.thr_parts.specs.declared.row.Place.TheVariants.{Runs, Stands}
use Rattle.thr_parts.specs.Rows.{Rows, seat_of}
use Rattle.thr_model.specs.States.{State, opening}
use Rattle.thr_model.specs.Turns.{Made}
use Rattle.thr_model.specs.Events.{made_by}
use Rattle.thr_model.specs.Histories.{Legal, stop_at}
use Rattle.thr_verdict.specs.Verdicts.{JournalLine, Numbered, Stopped, Differs, differs_at}
use Rattle.thr_verdict.specs.FormedJournals.{FormedJournal}

-- A place of the history, counted from 1, and the line that is to stand there, or nothing.
pub record Wrong : Type 0 where
  pub place : ℕ
  pub right : Option JournalLine

-- After so many lines this is to stand.
abbrev pub wrong_after : ℕ → Option JournalLine → Wrong
wrong_after count right = record { place = count + 1; right = right }

-- ---- the event that a line names

-- The processor of a thread at this place, if it runs (docs/machine.md, "Threads").
abbrev pub processor_at : Place → Option ℕ
processor_at (Runs p slice) = Some p
processor_at (Stands r arrival) = None

-- The processor that a thread runs on.
abbrev pub processor_of : Rows → Tid → Option ℕ
processor_of rs t = option_and_then (λ seat. processor_at seat.place) (seat_of rs t)

-- The event that the who of a line names: of a processor its dispatch, of the clock its move, and of a thread the turn of the
-- processor that runs it (docs/journal.md, "The verdict").
abbrev pub event_of : State → Who → Option Event
event_of st (who.Proc p) = Some (event.Dispatch p)
event_of st (who.Thread t) = option_map event.Turn (processor_of st.rows t)
event_of st who.Clock = Some event.Clock

-- What the event makes that a line names, and nothing where that isn't legal.
abbrev pub made_at : Script → ℕ → State → Who → Option Made
made_at s n st w = option_and_then (made_by s n st) (event_of st w)

-- ---- lines

-- The two are the same line of a journal.
abbrev pub is_same_line : Names → Entry → Entry → Bool
is_same_line names a b = bytes_eq (numbered_line names 0 a) (numbered_line names 0 b)

-- The lines after those of an event, or the first of its lines that doesn't stand there, after so many lines.
abbrev pub lines_after : Names → ℕ → List Entry → List Entry → Result (List Entry) Wrong
lines_after names count [] rest = Ok rest
lines_after names count (m ∷ made) [] = Err (wrong_after count (Some (Numbered (count + 1) m)))
lines_after names count (m ∷ made) (e ∷ rest) =
    if is_same_line names m e then lines_after names (count + 1) made rest
    else Err (wrong_after count (Some (Numbered (count + 1) m)))

-- ---- stops

-- The two stops are the same.
abbrev pub is_same_stop : Stop → Stop → Bool
is_same_stop stops.Finished stops.Finished = true
is_same_stop (stops.Deadlock n t) (stops.Deadlock m u) = (n == m) && (t.0 == u.0)
is_same_stop stops.Limit stops.Limit = true
is_same_stop stops.Memory stops.Memory = true
is_same_stop _ _ = false

-- ---- the whole

-- What is wrong first once an event's lines stand there, or the first of them that doesn't (docs/journal.md, "The verdict").
abbrev pub goes_on : (ℕ → State → List Entry → Option Wrong) → ℕ → Made → Result (List Entry) Wrong → Option Wrong
goes_on more count made (Err w) = Some w
goes_on more count made (Ok rest) = more (count + length made.lines) made.state rest

-- What is wrong first from an event on: its first line, where it isn't legal there (docs/journal.md, "The verdict").
abbrev pub after_event : (ℕ → State → List Entry → Option Wrong) → Names → ℕ → List Entry → Option Made → Option Wrong
after_event more names count rest None = Some (wrong_after count None)
after_event more names count rest (Some made) = goes_on more count made (lines_after names count made.lines rest)

-- What is wrong first between two events, where this stop holds or none, and the journal stops so: where a stop holds, it is to
-- stand there; a stop that doesn't hold, and an event that isn't legal, are not to stand there; and the lines of an event are
-- those that the machine gives (docs/journal.md, "The verdict").
abbrev pub at_boundary : (ℕ → State → List Entry → Option Wrong) → Script → ℕ → Stop → Option Stop → ℕ → State → List Entry → Option Wrong
at_boundary more s n stop (Some holds) count st [] = if is_same_stop holds stop then None else Some (wrong_after count (Some (Stopped holds)))
at_boundary more s n stop (Some holds) count st (e ∷ rest) = Some (wrong_after count (Some (Stopped holds)))
at_boundary more s n stop None count st [] = if is_same_stop stops.Memory stop then None else Some (wrong_after count None)
at_boundary more s n stop None count st (e ∷ rest) = after_event more s.names count (e ∷ rest) (made_at s n st e.who)

-- What is wrong first in these lines after so many others, which have at most so many events.
unfoldable pub wrong_in : ℕ → Script → ℕ → Stop → ℕ → State → List Entry → Option Wrong
wrong_in zero s n stop count st rest = None
wrong_in (suc k) s n stop count st rest = at_boundary (wrong_in k s n stop) s n stop (stop_at s st count) count st rest

-- What is wrong first in a history, or nothing. Each event has one line at least, so it has no more events than lines.
abbrev pub wrong_of : Script → ℕ → List Entry → Stop → Option Wrong
wrong_of s n entries stop = wrong_in (length entries + 1) s n stop 0 (opening s) entries

-- The first line of a journal that differs from what the machine gives (docs/journal.md, "The verdict").
abbrev pub first_wrong : Journal → Option Differs
first_wrong j = option_map (λ w. differs_at j.script j.entries j.stop w.place w.right) (wrong_of j.script j.workers j.entries j.stop)

-- A line differs exactly where the history isn't legal (docs/journal.md, "The verdict").
abbrev pub FirstWrongIsExact : Journal → Type 0
FirstWrongIsExact j = FormedJournal j → ((first_wrong j ≡ None) ↔ Legal j.script j.workers j.entries j.stop)
