-- What a book stands for, and what its calls do (docs/theorems.md, "The book").
use Rattle.std.specs.Prelude.{◌≡◌, ℕ, ◌+◌, ◌-◌, ◌≤◌, ◌<◌, nat_le, List, [], ◌++◌, codes, length, position, unwrap_or, Bool, true, ◌&&◌, Option, None, Some, IfSome, is_some, vec_len, vec_capacity}
use Rattle.std.specs.Str.{bytes_eq}
use Rattle.thr_values.specs.declared.number.NameId.{NameId}
use Rattle.thr_values.specs.declared.event.Event.{Event}
use Rattle.thr_values.specs.declared.event.Stop.{Stop}
use Rattle.thr_syntax.specs.declared.tree.Script.{Script}
use Rattle.thr_text.specs.Reading.{Formed}
use Rattle.thr_remainder.specs.Declarations.{interface_of}
use Rattle.thr_remainder.specs.Remainders.{Setting}
use Rattle.thr_parts.specs.Tables.{Table}
use Rattle.thr_parts.specs.Rows.{thread}
use Rattle.thr_model.specs.States.{State, opening}
use Rattle.thr_model.specs.States as states
use Rattle.thr_model.specs.Turns.{Made}
use Rattle.thr_model.specs.Events.{made_by}
use Rattle.thr_model.specs.Histories.{History, stop_at, StopsWith, limit_of, turn_count}
use Rattle.thr_frames.specs.Stacks.{StackView, most_frames, HasNoFrame}
use Rattle.thr_services.specs.Views.{state_with}
use Rattle.thr_stacks.specs.Stacks.{remainders_of, StacksStand}
use Rattle.thr_turns.specs.declared.workings.Workings.{Workings}
use Rattle.thr_machine.specs.Views.{BookView}
use Rattle.thr_machine.specs.declared.book.Book.TheInside.{Inside}

-- ---- the representation

-- The name `main` among these, or the first of them (docs/machine.md, "The opening").
abbrev pub main_in : List (List ℕ) → NameId
main_in ns = record { 0 = unwrap_or (position (λ name. bytes_eq name (codes "main")) ns) 0 }

-- How many lines an event writes at most (docs/machine.md, "Turns").
abbrev pub most_lines : ℕ
most_lines = 1160

-- For how many frames a stack has memory (docs/machine.md, "Frames").
abbrev pub most_size : ℕ
most_size = 1024

-- There is memory for one event: for its lines, for the stack of a thread that it makes, and for a value of a key that it sets
-- (docs/theorems.md, "The book").
abbrev pub has_memory : Workings → Option StackView → Bool
has_memory w spare = nat_le most_lines (vec_capacity w.entries - vec_len w.entries) && (is_some spare && nat_le 1 w.services.onces.room)

-- The state for which a book stands (docs/machine.md, "The state").
abbrev pub state_of : Script → Workings → Table StackView → State
state_of s w stacks = state_with w.services (remainders_of s stacks) w.shared

-- What contracts see of a book with these fields (docs/theorems.md, "The book").
abbrev pub view_of : Inside → BookView
view_of a = record {
  script = a.lines;
  workers = a.workers;
  state = state_of a.lines a.workings a.stacks;
  entries = a.workings.entries.items;
  turns = a.turns;
  stopped = a.stopped;
  room = has_memory a.workings a.spare;
}

-- The stop that holds in a book, want of memory aside.
abbrev pub stop_of : BookView → Option Stop
stop_of b = stop_at b.script b.state (length b.entries)

-- The state is that of the history, by some events (docs/theorems.md, "The book").
pub record IsReached (b : BookView) : Type 0 where
  pub events : List Event
  pub history : History b.script b.workers (record { state = b.state; events = events; entries = b.entries; turns = b.turns })

-- What stays in a thread by its number, where the state is this (docs/machine.md, "Frames").
abbrev pub settings_in : Script → State → ℕ → Setting
settings_in s st t = states.setting_of s st (thread t)

-- A stack that no thread has, for the next that begins (docs/theorems.md, "The book").
pub record IsSpare (k : StackView) : Type 0 where
  pub no_frame : HasNoFrame k
  pub large : most_frames k ≡ most_size

-- What each book keeps.
pub record IsKept (a : Inside) : Type 0 where
  pub formed : Formed a.lines
  pub limit : a.limit ≡ limit_of a.lines
  pub some : 1 ≤ a.workers
  pub few : a.workers ≤ 16
  pub stand : StacksStand a.lines a.stacks (settings_in a.lines (state_of a.lines a.workings a.stacks))
  pub interface : a.workings.interface ≡ interface_of a.lines
  pub spare : IfSome a.spare IsSpare
  pub reached : IsReached (view_of a)
  pub counted : a.turns ≤ vec_len a.workings.entries
  pub stopped : IfSome a.stopped (λ why. StopsWith (stop_of (view_of a)) why)

-- ---- contracts

-- A book that was opened now (docs/theorems.md, "The book").
pub record IsOpened (b : BookView) (s : Script) (n : ℕ) : Type 0 where
  pub script : b.script ≡ s
  pub workers : b.workers ≡ n
  pub state : b.state ≡ opening s
  pub entries : b.entries ≡ []
  pub turns : b.turns ≡ 0
  pub stopped : b.stopped ≡ None

-- An event may be made: the book is not stopped, no stop holds, and there is memory.
pub record IsOpen (b : BookView) : Type 0 where
  pub going : b.stopped ≡ None
  pub no_stop : stop_of b ≡ None
  pub room : b.room ≡ true

-- This event was made and wrote its lines, of which there is one at least and 1,160 at most; but for the room nothing else has
-- changed (docs/theorems.md, "The book").
pub record Makes (old new : BookView) (e : Event) : Type 0 where
  pub made : Made
  pub is_made : made_by old.script old.workers old.state e ≡ Some made
  pub some : 0 < length made.lines
  pub few : length made.lines ≤ most_lines
  pub after : new ≡ record old { state = made.state; entries = old.entries ++ made.lines; turns = old.turns + turn_count e; room = new.room }

-- Nothing but the room has changed.
abbrev pub RoomOnly : BookView → BookView → Type 0
RoomOnly old new = new ≡ record old { room = new.room }
