-- What becomes of threads in the machine: which wait or owe something (docs/machine.md, "What threads owe").
use Rattle.std.specs.Prelude.{ℕ, Bool, true, false, Option, Some, None}
use Rattle.thr_parts.specs.declared.row.RowId.{RowId}
use Rattle.thr_parts.specs.declared.row.RowId.TheVariants as row
use Rattle.thr_parts.specs.declared.row.Seat.{Seat}
use Rattle.thr_parts.specs.declared.wait.Wait.{Wait}
use Rattle.thr_parts.specs.Tables.{Table, get}
use Rattle.thr_parts.specs.Rows.{row_in, row_at}
use Rattle.thr_model.specs.States.{State, Debt}

-- A thread isn't there; it neither waits nor owes anything; it waits or owes something; or it is on record as waiting on a
-- condition or for a time and stands in no such row, which never comes about.
pub data Status : Type 0 where
  Absent : Status
  Calm : Status
  Waiting : Status
  Astray : Status

-- The status by the row of a thread that owes nothing.
abbrev pub by_row : Option RowId → Status
by_row None = Calm
by_row (Some row.Ready) = Calm
by_row (Some (row.Mutex m)) = Waiting
by_row (Some row.Global) = Waiting
by_row (Some (row.Cond c)) = Waiting
by_row (Some (row.Join t)) = Waiting
by_row (Some (row.Once o)) = Waiting
by_row (Some (row.Reader p)) = Waiting
by_row (Some (row.Writer p)) = Waiting
by_row (Some row.Time) = Waiting

-- The status by the row of a thread that is on record as waiting on a condition or for a time.
abbrev pub by_wait_row : Option RowId → Status
by_wait_row (Some (row.Cond c)) = Waiting
by_wait_row (Some row.Time) = Waiting
by_wait_row None = Astray
by_wait_row (Some row.Ready) = Astray
by_wait_row (Some (row.Mutex m)) = Astray
by_wait_row (Some row.Global) = Astray
by_wait_row (Some (row.Join t)) = Astray
by_wait_row (Some (row.Once o)) = Astray
by_wait_row (Some (row.Reader p)) = Astray
by_wait_row (Some (row.Writer p)) = Astray

-- The status of a thread that owes this, has this seat and this wait.
abbrev pub status : Option Debt → Option Seat → Option Wait → Status
status d s (Some w) = by_wait_row (row_at s)
status (Some d) s None = Waiting
status None None None = Absent
status None (Some s) None = by_row (row_in s.place)

-- The status of a thread in these tables.
abbrev pub status_in : Table Debt → Table Seat → Table Wait → ℕ → Status
status_in debts seats waits u = status (get debts u) (get seats u) (get waits u)

-- The status of a thread.
abbrev pub status_of : State → ℕ → Status
status_of st u = status_in st.debts st.rows.seats st.conds.waits u

-- The thread waits or owes something.
abbrev pub is_waiting : Status → Bool
is_waiting Waiting = true
is_waiting Absent = false
is_waiting Calm = false
is_waiting Astray = false

-- The status of a caller whose reply is `blocks`, or another.
abbrev pub status_after : Bool → Status
status_after true = Waiting
status_after false = Calm
