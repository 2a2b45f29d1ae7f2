-- Legal histories (docs/machine.md, "Histories").
use Rattle.std.specs.Prelude.{◌≡◌, ℕ, ◌+◌, nat_le, List, [], ◌∷◌, ◌++◌, length, Bool, true, false, ◌||◌, is_some, Option, None, Some}
use Rattle.thr_values.specs.declared.number.Tid.{Tid}
use Rattle.thr_values.specs.declared.event.Event.{Event}
use Rattle.thr_values.specs.declared.event.Event.TheVariants as event
use Rattle.thr_values.specs.declared.event.Stop.{Stop}
use Rattle.thr_values.specs.declared.event.Stop.TheVariants as stops
use Rattle.thr_values.specs.declared.history.Entry.{Entry}
use Rattle.thr_syntax.specs.declared.tree.Script.{Script}
use Rattle.thr_syntax.specs.declared.tree.Item.{Item}
use Rattle.thr_syntax.specs.declared.tree.Item.TheVariants as item
use Rattle.thr_parts.specs.Dispatch.{some_can_run}
use Rattle.thr_parts.specs.Threads.{live}
use Rattle.thr_parts.specs.Expiry.{earliest}
use Rattle.thr_model.specs.States.{State, opening}
use Rattle.thr_model.specs.Turns.{Made}
use Rattle.thr_model.specs.Events.{made_by}

-- ---- stops

-- The limit of the first `limit` line, or 100,000 where there is none (docs/script.md, "Lines").
abbrev pub limit_in : List Item → ℕ
limit_in [] = 100000
limit_in (item.Limit n ∷ items) = n
limit_in (_ ∷ items) = limit_in items

-- The limit on lines that a script sets (docs/script.md, "Lines").
unfoldable pub limit_of : Script → ℕ
limit_of s = limit_in s.items

-- A thread is ready or runs, or one waits for a time.
abbrev pub goes_on : State → Bool
goes_on st = some_can_run st.rows || is_some (earliest st.conds)

-- The stop `limit`, where there are at least as many lines as the limit (docs/machine.md, "Stops").
abbrev pub limit_stop : Bool → Option Stop
limit_stop true = Some stops.Limit
limit_stop false = None

-- The stop where these threads have not ended, which can go on or can't.
abbrev pub stop_with : List Tid → Bool → Bool → Option Stop
stop_with [] going full = Some stops.Finished
stop_with (t ∷ ts) false full = Some (stops.Deadlock (length ts + 1) t)
stop_with (t ∷ ts) true full = limit_stop full

-- The stop that holds in this state after so many lines, want of memory aside: all threads have ended; or nothing can go on;
-- or the lines have come to the script's limit (docs/machine.md, "Stops").
unfoldable pub stop_at : Script → State → ℕ → Option Stop
stop_at s st count = stop_with (live st.threads) (goes_on st) (nat_le (limit_of s) count)

-- ---- histories

-- How many turns an event has: a turn one, and any other none (docs/machine.md, "Histories").
abbrev pub turn_count : Event → ℕ
turn_count (event.Dispatch p) = 0
turn_count (event.Turn p) = 1
turn_count event.Clock = 0

-- An execution of the machine: the state that it has come to, its events, the newest first, its lines, the oldest first, and
-- how many of the events are turns (docs/machine.md, "Histories").
pub record Execution : Type 0 where
  pub state : State
  pub events : List Event
  pub entries : List Entry
  pub turns : ℕ

-- The execution at the opening, without an event (docs/machine.md, "Histories").
abbrev pub at_opening : Script → Execution
at_opening s = record { state = opening s; events = []; entries = []; turns = 0 }

-- The execution after one more event, which made this (docs/machine.md, "Histories").
abbrev pub after_event : Execution → Event → Made → Execution
after_event x e made = record {
  state = made.state;
  events = e ∷ x.events;
  entries = x.entries ++ made.lines;
  turns = x.turns + turn_count e;
}

-- The executions of the machine of n processors that was opened on the script: that at the opening, and each further one by
-- an event that is legal where no stop holds (docs/machine.md, "Histories").
pub data History (s : Script) (n : ℕ) : Execution → Type 0 where
  opened : History s n (at_opening s)
  then_event : {x : Execution} → History s n x → stop_at s x.state (length x.entries) ≡ None → (e : Event) (made : Made) → made_by s n x.state e ≡ Some made
      → History s n (after_event x e made)

-- The stop is the one that holds, or want of memory where none does (docs/machine.md, "Stops").
abbrev pub StopsWith : Option Stop → Stop → Type 0
StopsWith None stop = stop ≡ stops.Memory
StopsWith (Some holds) stop = stop ≡ holds

-- These are the lines of a history of the machine of n processors that was opened on the script, and it stops so
-- (docs/machine.md, "Histories").
pub record Legal (s : Script) (n : ℕ) (entries : List Entry) (stop : Stop) : Type 0 where
  pub execution : Execution
  pub history : History s n execution
  pub lines : execution.entries ≡ entries
  pub stops : StopsWith (stop_at s execution.state (length entries)) stop
