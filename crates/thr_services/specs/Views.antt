-- The thread service as contracts see it (docs/machine.md, "The state").
use Rattle.std.specs.Prelude.{ℤ, pos, List, [], ◌∷◌}
use Rattle.thr_syntax.specs.declared.tree.Item.{Item}
use Rattle.thr_remainder.specs.Remainders.{Remainder}
use Rattle.thr_parts.specs.Tables.{Table, none}
use Rattle.thr_parts.specs.Rows.{Rows, no_rows, thread}
use Rattle.thr_parts.specs.Moves.{put_in_row}
use Rattle.thr_parts.specs.declared.row.RowId.TheVariants as row
use Rattle.thr_parts.specs.Threads.{Threads, first_threads, rank_at}
use Rattle.thr_parts.specs.Mutexes.{Locks, no_locks}
use Rattle.thr_parts.specs.Conditions.{Conds, no_conds}
use Rattle.thr_parts.specs.Pipes.{Pipes, first_pipes}
use Rattle.thr_parts.specs.Keys.{no_onces}
use Rattle.thr_once.specs.Views.{OncesView}
use Rattle.thr_model.specs.States.{State}
use Rattle.thr_model.specs.States as states
use Rattle.thr_services.specs.declared.debt.Debt.{Debt}
use Rattle.thr_services.specs.declared.debt.Debt.TheVariants as debt

-- What the service has of the machine's state, and for how many more values of keys there is room (docs/machine.md, "The
-- state").
pub record ServicesView : Type 0 where
  pub threads : Threads
  pub debts : Table Debt
  pub rows : Rows
  pub locks : Locks
  pub conds : Conds
  pub onces : OncesView
  pub pipes : Pipes
  pub clock : ℤ

-- The debt as the state has it (docs/machine.md, "What threads owe").
abbrev pub as_owed : Debt → states.Debt
as_owed (debt.Return y) = states.Return y
as_owed debt.Delivery = states.Delivery
as_owed debt.Running = states.Running

-- What threads owe, as the state has it (docs/machine.md, "What threads owe").
unfoldable pub all_owed : Table Debt → Table states.Debt
all_owed [] = []
all_owed (e ∷ es) = (e.0, as_owed e.1) ∷ all_owed es

-- The state of the machine, with what is left to do in threads and the values of shared variables, which the service doesn't
-- have (docs/machine.md, "The state").
abbrev pub state_with : ServicesView → Table Remainder → Table ℤ → State
state_with v remainders shared = record {
  threads = v.threads;
  remainders = remainders;
  debts = all_owed v.debts;
  rows = v.rows;
  locks = v.locks;
  conds = v.conds;
  onces = v.onces.state;
  pipes = v.pipes;
  shared = shared;
  clock = v.clock;
}

-- The state at the opening on these declarations, with this left to do and these values of shared variables (docs/machine.md,
-- "The opening").
abbrev pub opened : List Item → Table Remainder → Table ℤ → State
opened items remainders shared = record {
  threads = first_threads;
  remainders = remainders;
  debts = none;
  rows = put_in_row no_rows row.Ready (thread 1) (rank_at first_threads (thread 1));
  locks = no_locks;
  conds = no_conds;
  onces = no_onces;
  pipes = first_pipes items;
  shared = shared;
  clock = pos 0;
}
