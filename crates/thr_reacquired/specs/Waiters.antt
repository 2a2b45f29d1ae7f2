-- What the machine's state keeps for a thread that waits on a condition, or has done so and not yet returned (docs/laws.md,
-- "Cancels in every history").
use Rattle.std.specs.Prelude.{◌≡◌, ℕ, true, Some}
use Rattle.thr_values.specs.declared.number.NameId.{NameId}
use Rattle.thr_parts.specs.declared.row.RowId.TheVariants as row
use Rattle.thr_parts.specs.Rows.{Rows, thread, row_of}
use Rattle.thr_parts.specs.Mutexes.{Locks, owner}
use Rattle.thr_parts.specs.Locking.{is_held_by}
use Rattle.thr_parts.specs.Conditions.{Conds}
use Rattle.thr_parts.specs.Waking.{mutex_with}

-- The thread is on record as waiting on a condition with the mutex, or stands in the mutex's row, or owns the mutex (docs/laws.md,
-- "Cancels in every history").
pub data Has (t : ℕ) (m : NameId) (cs : Conds) (ls : Locks) (rs : Rows) : Type 0 where
  waits : mutex_with cs (thread t) ≡ Some m → Has t m cs ls rs
  stands : row_of rs (thread t) ≡ Some (row.Mutex m) → Has t m cs ls rs
  owns : is_held_by (owner ls (Some m)) (thread t) ≡ true → Has t m cs ls rs
