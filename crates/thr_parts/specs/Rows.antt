-- Threads in rows and on processors, and the best thread of a row (docs/machine.md, "Rows").
use Rattle.std.specs.Prelude.{ℕ, Bool, true, false, ◌&&◌, ◌||◌, ◌==◌, nat_lt, if◌then◌else◌, is_some, is_none, List, [], ◌∷◌, map, length, Option, Some, None}
use Rattle.std.specs.List.{filter, list_any}
use Rattle.std.specs.Option.{option_map}
use Rattle.thr_values.specs.declared.number.Tid.{Tid}
use Rattle.thr_parts.specs.declared.row.RowId.{RowId}
use Rattle.thr_parts.specs.declared.row.RowId.TheVariants as row
use Rattle.thr_parts.specs.declared.row.Place.{Place}
use Rattle.thr_parts.specs.declared.row.Place.TheVariants.{Runs, Stands}
use Rattle.thr_parts.specs.declared.row.Seat.{Seat}
use Rattle.thr_parts.specs.Tables.{Table, none, get}

-- The seats of the threads that stand in a row or run, by their numbers, and the next arrival number (docs/machine.md,
-- "Rows").
pub record Rows : Type 0 where
  pub seats : Table Seat
  pub next_arrival : ℕ

-- No thread stands in a row or runs.
abbrev pub no_rows : Rows
no_rows = record { seats = none; next_arrival = 0 }

-- The thread of a number.
abbrev pub thread : ℕ → Tid
thread n = record { 0 = n }

-- The seat of a thread, unless it stands nowhere.
abbrev pub seat_of : Rows → Tid → Option Seat
seat_of rs t = get rs.seats t.0

-- ---- rows

-- Two rows are the same.
abbrev pub is_same_row : RowId → RowId → Bool
is_same_row row.Ready row.Ready = true
is_same_row (row.Mutex a) (row.Mutex b) = a.0 == b.0
is_same_row row.Global row.Global = true
is_same_row (row.Cond a) (row.Cond b) = a.0 == b.0
is_same_row (row.Join a) (row.Join b) = a.0 == b.0
is_same_row (row.Once a) (row.Once b) = a.0 == b.0
is_same_row (row.Reader a) (row.Reader b) = a.0 == b.0
is_same_row (row.Writer a) (row.Writer b) = a.0 == b.0
is_same_row row.Time row.Time = true
is_same_row _ _ = false

-- The place is in the row.
abbrev pub place_in : RowId → Place → Bool
place_in r (Runs p slice) = false
place_in r (Stands s arrival) = is_same_row r s

-- The row of a place, unless that is a processor.
abbrev pub row_in : Place → Option RowId
row_in (Runs p slice) = None
row_in (Stands r arrival) = Some r

-- The row of a seat that is there.
abbrev pub row_at : Option Seat → Option RowId
row_at None = None
row_at (Some s) = row_in s.place

-- The row in which a thread stands, unless it runs or stands nowhere (docs/machine.md, "Rows").
abbrev pub row_of : Rows → Tid → Option RowId
row_of rs t = row_at (seat_of rs t)

-- The seat that is there is in a row.
abbrev pub is_in_row : Option Seat → Bool
is_in_row s = is_some (row_at s)

-- The seat that is there is on a processor.
abbrev pub is_running : Option Seat → Bool
is_running None = false
is_running (Some s) = is_none (row_in s.place)

-- How many threads can stand in rows or run, and how many have a record at most (docs/machine.md, "Thread records").
abbrev pub most : ℕ
most = 1024

-- The thread runs, or there is room for one more.
abbrev pub has_room : Rows → Tid → Bool
has_room rs t = is_running (seat_of rs t) || nat_lt (length rs.seats) most

-- ---- the best of several threads

-- The arrival of a thread that stands in a row.
abbrev pub arrival_in : Place → ℕ
arrival_in (Runs p slice) = 0
arrival_in (Stands r arrival) = arrival

-- The one has greater rank, or equal rank and lesser arrival (docs/machine.md, "Ranks and arrivals").
abbrev pub is_before : Seat → Seat → Bool
is_before a b = nat_lt b.rank a.rank || ((a.rank == b.rank) && nat_lt (arrival_in a.place) (arrival_in b.place))

-- The same of seats that are there.
abbrev pub is_seat_before : Option Seat → Option Seat → Bool
is_seat_before (Some a) (Some b) = is_before a b
is_seat_before _ _ = false

-- Of two threads that stand in rows the first is before the second (docs/machine.md, "Ranks and arrivals").
abbrev pub before : Rows → Tid → Tid → Bool
before rs a b = is_seat_before (seat_of rs a) (seat_of rs b)

-- Threads with their seats.
abbrev pub Seated : Type 0
Seated = List (ℕ × Seat)

-- The better of a thread and another that may be there.
abbrev pub better : ℕ × Seat → Option (ℕ × Seat) → ℕ × Seat
better e None = e
better e (Some f) = if is_before e.1 f.1 then e else f

-- The best of these threads.
unfoldable pub best_of : Seated → Option (ℕ × Seat)
best_of [] = None
best_of (e ∷ es) = Some (better e (best_of es))

-- A thread in its place among those in order.
unfoldable pub placed : ℕ × Seat → Seated → Seated
placed e [] = e ∷ []
placed e (f ∷ fs) = if is_before e.1 f.1 then e ∷ f ∷ fs else f ∷ placed e fs

-- The same threads, the best first.
unfoldable pub in_order : Seated → Seated
in_order [] = []
in_order (e ∷ es) = placed e (in_order es)

-- The threads that stand in a row.
unfoldable pub standing : Rows → RowId → Seated
standing rs r = filter (λ e. place_in r e.1.place) rs.seats

-- Their numbers.
abbrev pub numbers_of : Seated → List Tid
numbers_of es = map (λ e. thread e.0) es

-- The number of the one that is there.
abbrev pub number_in : Option (ℕ × Seat) → Option Tid
number_in o = option_map (λ e. thread e.0) o

-- The best thread of a row (docs/machine.md, "Ranks and arrivals").
abbrev pub best : Rows → RowId → Option Tid
best rs r = number_in (best_of (standing rs r))

-- All threads of a row, the best first (docs/machine.md, "Ranks and arrivals").
abbrev pub best_first : Rows → RowId → List Tid
best_first rs r = numbers_of (in_order (standing rs r))

-- The thread is one of these.
abbrev pub is_among : Tid → List Tid → Bool
is_among t ts = list_any (λ u. u.0 == t.0) ts
