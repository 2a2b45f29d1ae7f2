-- Events of one's choice, played from the opening, so that a worked history computes (docs/theorems.md, "Laws of the machine").
use Rattle.std.specs.Prelude.{ℕ, zero, suc, List, [], ◌∷◌, length, Bool, true, false, is_none, is_some, unwrap_or, if◌then◌else◌, Option, None, Some}
use Rattle.std.specs.Option.{option_and_then, option_map}
use Rattle.thr_values.specs.declared.event.Event.{Event}
use Rattle.thr_values.specs.declared.event.Event.TheVariants as event
use Rattle.thr_syntax.specs.declared.tree.Script.{Script}
use Rattle.thr_parts.specs.Dispatch.{running, some_can_run}
use Rattle.thr_model.specs.States.{State}
use Rattle.thr_model.specs.Events.{made_by}
use Rattle.thr_model.specs.Histories.{Execution, at_opening, after_event, stop_at}

-- One more event, where it is legal (docs/machine.md, "Histories").
abbrev pub next : Script → ℕ → Execution → Event → Option Execution
next s n x e = if is_none (stop_at s x.state (length x.entries)) then option_map (after_event x e) (made_by s n x.state e) else None

-- These events, the oldest first, one after the other (docs/machine.md, "Histories").
unfoldable pub play : Script → ℕ → List Event → Execution → Option Execution
play s n [] x = Some x
play s n (e ∷ events) x = option_and_then (play s n events) (next s n x e)

-- What these events make of a script, or its opening where one of them isn't legal (docs/machine.md, "Histories").
abbrev pub execution_by : Script → ℕ → List Event → Execution
execution_by s n events = unwrap_or (play s n events (at_opening s)) (at_opening s)

-- ---- one processor

-- A turn where a thread runs on processor 0, else a dispatch where one can run, else the clock (docs/machine.md, "Events").
abbrev pub event_where : Bool → Bool → Event
event_where true can_go = event.Turn 0
event_where false true = event.Dispatch 0
event_where false false = event.Clock

-- The one event that may be legal on one processor.
abbrev pub only_event : State → Event
only_event st = event_where (is_some (running st.rows 0)) (some_can_run st.rows)

-- What comes of the execution after one more event, or this execution where that event isn't legal (docs/machine.md,
-- "Histories").
abbrev pub goes_further : (Execution → Execution) → Execution → Option Execution → Execution
goes_further further x None = x
goes_further further x (Some after) = further after

-- The execution on one processor after at most so many events more, as far as it goes (docs/machine.md, "Histories").
unfoldable pub alone : ℕ → Script → Execution → Execution
alone zero s x = x
alone (suc k) s x = goes_further (alone k s) x (next s 1 x (only_event x.state))
