-- Threads that come into rows, leave them and become ready (docs/machine.md, "Rows").
use Rattle.std.specs.Prelude.{ℕ, ◌+◌, Bool, if◌then◌else◌, List, [], ◌∷◌, Option, Some, None}
use Rattle.std.specs.Option.{option_map}
use Rattle.thr_values.specs.declared.number.Tid.{Tid}
use Rattle.thr_parts.specs.declared.row.RowId.{RowId}
use Rattle.thr_parts.specs.declared.row.RowId.TheVariants as row
use Rattle.thr_parts.specs.declared.row.Place.TheVariants.{Stands}
use Rattle.thr_parts.specs.declared.row.Seat.{Seat}
use Rattle.thr_parts.specs.Tables.{Table, put, put_if, cut_if}
use Rattle.thr_parts.specs.Rows.{Rows, seat_of, is_in_row, is_running, best_first}

-- ---- threads that come and go

-- The thread stands in the row from now on, with this rank and the next arrival (docs/machine.md, "Rows").
abbrev pub put_in_row : Rows → RowId → Tid → ℕ → Rows
put_in_row rs r t rank = record {
  seats = put rs.seats t.0 (record { rank = rank; place = Stands r rs.next_arrival });
  next_arrival = rs.next_arrival + 1;
}

-- The rows after a thread was to leave its row, and whether it stood in one (docs/machine.md, "Rows").
pub record LeftRow : Type 0 where
  pub rows : Rows
  pub stood : Bool

-- The thread leaves its row; where it stands in none nothing changes (docs/machine.md, "Rows").
abbrev pub take_out : Rows → Tid → LeftRow
take_out rs t = record {
  rows = record { seats = cut_if (is_in_row (seat_of rs t)) rs.seats t.0; next_arrival = rs.next_arrival };
  stood = is_in_row (seat_of rs t);
}

-- The seats without that of the thread that is there.
abbrev pub seats_without : Rows → Option Tid → Table Seat
seats_without rs None = rs.seats
seats_without rs (Some t) = (take_out rs t).rows.seats

-- The thread that is there leaves its row.
abbrev pub take_out_if : Rows → Option Tid → Rows
take_out_if rs o = record { seats = seats_without rs o; next_arrival = rs.next_arrival }

-- The thread's processor becomes free; where it runs nowhere nothing changes (docs/machine.md, "Rows").
abbrev pub leave : Rows → Tid → Rows
leave rs t = record { seats = cut_if (is_running (seat_of rs t)) rs.seats t.0; next_arrival = rs.next_arrival }

-- The running thread leaves its processor and stands in the row (docs/machine.md, "Rows").
abbrev pub block_in : Rows → RowId → Tid → ℕ → Rows
block_in rs r t rank = put_in_row (leave rs t) r t rank

-- The same, or nothing.
abbrev pub block_if : Bool → Rows → RowId → Tid → ℕ → Rows
block_if waits rs r t rank = record {
  seats = if waits then (block_in rs r t rank).seats else rs.seats;
  next_arrival = if waits then (block_in rs r t rank).next_arrival else rs.next_arrival;
}

-- The seat with this rank.
abbrev pub as_ranked : ℕ → Seat → Seat
as_ranked rank s = record { rank = rank; place = s.place }

-- The thread has this rank at its place, and keeps its arrival (docs/machine.md, "Ranks and arrivals").
abbrev pub set_rank : Rows → Tid → ℕ → Rows
set_rank rs t rank = record {
  seats = put_if rs.seats t.0 (option_map (as_ranked rank) (seat_of rs t));
  next_arrival = rs.next_arrival;
}

-- ---- threads that become ready

-- The thread, which stands nowhere, becomes ready with its rank.
abbrev pub make_ready : (Tid → ℕ) → Rows → Tid → Rows
make_ready rank rs t = put_in_row rs row.Ready t (rank t)

-- These threads leave their rows and become ready, in this order.
unfoldable pub make_all_ready : (Tid → ℕ) → Rows → List Tid → Rows
make_all_ready rank rs [] = rs
make_all_ready rank rs (t ∷ ts) = make_all_ready rank (make_ready rank (take_out rs t).rows t) ts

-- The rows after all threads of a row became ready, and these threads in their order (docs/machine.md, "Waits that end").
pub record Freed : Type 0 where
  pub rows : Rows
  pub woken : List Tid

-- All threads of a row become ready, the best first: those that wait for a once block that is done, or for the end of a
-- thread (docs/machine.md, "Once blocks" and "Thread records").
abbrev pub free_row : (Tid → ℕ) → Rows → RowId → Freed
free_row rank rs r = record { rows = make_all_ready rank rs (best_first rs r); woken = best_first rs r }
