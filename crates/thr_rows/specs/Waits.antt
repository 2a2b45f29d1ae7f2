-- Threads that wait, in the order in which they leave their rows.
use Rattle.std.specs.Prelude.{ℕ, suc, Bool, true, false, not, ◌&&◌, ◌||◌, ◌==◌, nat_lt, if◌then◌else◌, [], ◌∷◌, Option, Some, None}
use Rattle.std.specs.List.{filter}
use Rattle.thr_parts.specs.declared.row.RowId.{RowId}
use Rattle.thr_parts.specs.declared.row.RowId.TheVariants as row
use Rattle.thr_parts.specs.declared.row.Seat.{Seat}
use Rattle.thr_parts.specs.Tables.{Table, none, put, has}
use Rattle.thr_parts.specs.Rows.{Seated, is_same_row, is_before}
use Rattle.thr_parts.specs.Dispatch.{can_run}

-- The one is before the other, or neither is and it has the greater number: then it leaves its row first.
abbrev pub leaves_first : ℕ × Seat → ℕ × Seat → Bool
leaves_first e f = is_before e.1 f.1 || (not (is_before f.1 e.1) && nat_lt f.0 e.0)

-- The thread leaves before all of these.
unfoldable pub leads : ℕ × Seat → Seated → Bool
leads e [] = true
leads e (f ∷ fs) = leaves_first e f && leads e fs

-- No thread is there twice, and each leaves before those that follow.
unfoldable pub is_queue : Seated → Bool
is_queue [] = true
is_queue (e ∷ es) = not (has es e.0) && (leads e es && is_queue es)

-- The same threads in the order of their numbers.
unfoldable pub table_of : Seated → Table Seat
table_of [] = none
table_of (e ∷ es) = put (table_of es) e.0 e.1

-- The place of a thread, which is past the end where it isn't there.
unfoldable pub spot : ℕ → Seated → ℕ
spot t [] = 0
spot t (e ∷ es) = if e.0 == t then 0 else suc (spot t es)

-- The thread that is there waits.
abbrev pub is_waiting : Option Seat → Bool
is_waiting None = false
is_waiting (Some s) = not (can_run s.place)

-- The seats of the threads that wait.
abbrev pub waiting_of : Table Seat → Table Seat
waiting_of seats = filter (λ e. not (can_run e.1.place)) seats

-- The row is that of the ready threads.
abbrev pub is_ready : RowId → Bool
is_ready r = is_same_row r row.Ready
