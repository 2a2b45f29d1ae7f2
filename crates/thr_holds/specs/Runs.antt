-- What workers keep of a run (docs/theorems.md, "Workers").
use Rattle.std.specs.Prelude.{◌≡◌, ◌≢◌, ℕ, List, Some}
use Rattle.thr_values.specs.declared.event.Event.{Event}
use Rattle.thr_values.specs.declared.event.Stop.{Stop}
use Rattle.thr_values.specs.declared.event.Stop.TheVariants as stops
use Rattle.thr_syntax.specs.declared.tree.Script.{Script}
use Rattle.thr_model.specs.Histories.{History}
use Rattle.thr_machine.specs.Views.{BookView}

-- The book is one of this script, with so many processors.
pub record IsOver (b : BookView) (s : Script) (n : ℕ) : Type 0 where
  pub script : b.script ≡ s
  pub workers : b.workers ≡ n

-- So many of the events of the book's history are turns.
pub record HasTurns (b : BookView) (count : ℕ) : Type 0 where
  pub events : List Event
  pub history : History b.script b.workers (record { state = b.state; events = events; entries = b.entries; turns = count })

-- The book goes on, or was stopped for another reason than want of memory.
abbrev pub HasCause : BookView → Type 0
HasCause b = (why : Stop) → b.stopped ≡ Some why → why ≢ stops.Memory
