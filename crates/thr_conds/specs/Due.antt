-- The best of the threads whose time has come, found one by one (docs/machine.md, "Times").
use Rattle.std.specs.Prelude.{ℕ, ℤ, Option}
use Rattle.std.specs.List.{filter}
use Rattle.std.specs.Option.{option_and_then}
use Rattle.thr_values.specs.declared.number.Tid.{Tid}
use Rattle.thr_parts.specs.declared.row.Seat.{Seat}
use Rattle.thr_parts.specs.declared.wait.Wait.{Wait}
use Rattle.thr_parts.specs.Tables.{Table, get, keep_if}
use Rattle.thr_parts.specs.Rows.{Rows, best_of, number_in}
use Rattle.thr_parts.specs.Conditions.{time_of}
use Rattle.thr_parts.specs.Expiry.{has_come}

-- The seat of the thread of a wait, where that has one and the wait's time has come (docs/machine.md, "Times").
abbrev pub due_seat : Rows → ℤ → ℕ × Wait → Option Seat
due_seat rs now e = keep_if (has_come now (time_of e.1)) (get rs.seats e.0)

-- The best thread whose time has come by these waits (docs/machine.md, "Times").
abbrev pub best_due : Table Wait → Rows → ℤ → Option Tid
best_due waits rs now = number_in (best_of (filter (λ e. has_come now (option_and_then time_of (get waits e.0))) rs.seats))
