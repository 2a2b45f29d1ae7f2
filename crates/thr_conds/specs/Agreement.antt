-- Who waits, by the conditions and by the rows (docs/machine.md, "Conditions").
use Rattle.std.specs.Prelude.{◌≡◌, Option, Some, None}
use Rattle.std.specs.Option.{option_map}
use Rattle.thr_values.specs.declared.number.Tid.{Tid}
use Rattle.thr_parts.specs.declared.row.RowId.{RowId}
use Rattle.thr_parts.specs.declared.row.RowId.TheVariants as row
use Rattle.thr_parts.specs.declared.wait.Wait.{Wait}
use Rattle.thr_parts.specs.declared.wait.Wait.TheVariants.{Cond, Delay}
use Rattle.thr_parts.specs.Rows.{Rows, row_of}
use Rattle.thr_parts.specs.Conditions.{Conds, wait_of}

-- The row in which a thread stands that waits so (docs/machine.md, "Rows").
abbrev pub waiting_row : Wait → RowId
waiting_row (Cond c m until) = row.Cond c
waiting_row (Delay until) = row.Time

-- The row that is there, where threads stand in it that wait on a condition or for a time.
abbrev pub if_waiting : Option RowId → Option RowId
if_waiting (Some (row.Cond c)) = Some (row.Cond c)
if_waiting (Some row.Time) = Some row.Time
if_waiting _ = None

-- A thread stands in the row of a condition or of times exactly where it is kept as waiting there (docs/machine.md,
-- "Conditions").
pub record WaitsAgree (cs : Conds) (rs : Rows) : Type 0 where
  pub same : (t : Tid) → option_map waiting_row (wait_of cs t) ≡ if_waiting (row_of rs t)
