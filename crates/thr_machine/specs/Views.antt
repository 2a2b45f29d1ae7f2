-- What contracts see of a book (docs/theorems.md, "The book").
use Rattle.std.specs.Prelude.{ℕ, List, Bool, Option}
use Rattle.thr_values.specs.declared.event.Stop.{Stop}
use Rattle.thr_values.specs.declared.history.Entry.{Entry}
use Rattle.thr_syntax.specs.declared.tree.Script.{Script}
use Rattle.thr_model.specs.States.{State}

-- A book as contracts see it: script, workers, state, history, the stop that it took, and whether there is memory for one event
-- (docs/theorems.md, "The book").
pub record BookView : Type 0 where
  pub script : Script
  pub workers : ℕ
  pub state : State
  pub entries : List Entry
  pub turns : ℕ
  pub stopped : Option Stop
  pub room : Bool
