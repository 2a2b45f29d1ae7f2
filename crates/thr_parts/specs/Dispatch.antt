-- Threads that take processors, keep them and give them up (docs/machine.md, "Dispatch and slices").
use Rattle.std.specs.Prelude.{ℕ, ◌+◌, ◌-◌, Bool, true, false, not, ◌&&◌, ◌||◌, ◌==◌, nat_lt, if◌then◌else◌, is_none, [], ◌∷◌, Option, Some, None}
use Rattle.std.specs.List.{filter, list_any}
use Rattle.std.specs.Option.{option_map}
use Rattle.thr_values.specs.declared.number.Tid.{Tid}
use Rattle.thr_parts.specs.declared.row.RowId.TheVariants as row
use Rattle.thr_parts.specs.declared.row.Place.{Place}
use Rattle.thr_parts.specs.declared.row.Place.TheVariants.{Runs, Stands}
use Rattle.thr_parts.specs.declared.row.Seat.{Seat}
use Rattle.thr_parts.specs.Tables.{Table, put, put_if}
use Rattle.thr_parts.specs.Rows.{Rows, Seated, seat_of, is_same_row, is_running, standing, best_of, number_in}

-- How many turns a thread has that takes a processor or begins a new slice (docs/machine.md, "Dispatch and slices").
abbrev pub whole_slice : ℕ
whole_slice = 8

-- The place is on this processor.
abbrev pub runs_on : ℕ → Place → Bool
runs_on p (Runs q slice) = p == q
runs_on p (Stands r arrival) = false

-- The first of these threads.
abbrev pub first : Seated → Option (ℕ × Seat)
first [] = None
first (e ∷ es) = Some e

-- The thread that a processor has (docs/machine.md, "Dispatch and slices").
unfoldable pub running : Rows → ℕ → Option Tid
running rs p = number_in (first (filter (λ e. runs_on p e.1.place) rs.seats))

-- The thread at this place can run: it is ready or runs.
abbrev pub can_run : Place → Bool
can_run (Runs p slice) = true
can_run (Stands r arrival) = is_same_row r row.Ready

-- Some thread is ready or runs (docs/machine.md, "Stops").
abbrev pub some_can_run : Rows → Bool
some_can_run rs = list_any (λ e. can_run e.1.place) rs.seats

-- ---- dispatch

-- The rows after a processor was to take a thread, and the thread that it took (docs/machine.md, "Dispatch and slices").
pub record Dispatched : Type 0 where
  pub rows : Rows
  pub taken : Option Tid

-- The best ready thread, unless the processor has a thread.
abbrev pub next_for : Rows → ℕ → Option (ℕ × Seat)
next_for rs p = if is_none (running rs p) then best_of (standing rs row.Ready) else None

-- The seats with the thread that is there on the processor.
abbrev pub with_processor : Option (ℕ × Seat) → Table Seat → ℕ → Table Seat
with_processor None seats p = seats
with_processor (Some e) seats p = put seats e.0 (record { rank = e.1.rank; place = Runs p whole_slice })

-- A processor without a thread takes the best ready one with a whole slice (docs/machine.md, "Dispatch and slices").
abbrev pub dispatch : Rows → ℕ → Dispatched
dispatch rs p = record {
  rows = record { seats = with_processor (next_for rs p) rs.seats p; next_arrival = rs.next_arrival };
  taken = number_in (next_for rs p);
}

-- ---- keeping

-- A ready thread has greater rank than this.
abbrev pub is_outranked : Rows → ℕ → Bool
is_outranked rs rank = list_any (λ e. nat_lt rank e.1.rank) (standing rs row.Ready)

-- A ready thread has this rank.
abbrev pub is_matched : Rows → ℕ → Bool
is_matched rs rank = list_any (λ e. e.1.rank == rank) (standing rs row.Ready)

-- The thread that is there has greater rank than this.
abbrev pub outranks : ℕ → Option (ℕ × Seat) → Bool
outranks rank None = false
outranks rank (Some e) = nat_lt rank e.1.rank

-- The thread that is there has this rank.
abbrev pub matches_rank : ℕ → Option (ℕ × Seat) → Bool
matches_rank rank None = false
matches_rank rank (Some e) = e.1.rank == rank

-- What is left of a slice after a turn. Under SCHED_FIFO nothing is lost (docs/machine.md, "Dispatch and slices").
abbrev pub slice_after : Bool → ℕ → ℕ
slice_after true slice = slice
slice_after false slice = slice - 1

-- The policy isn't SCHED_FIFO, and nothing is left of the slice.
abbrev pub is_spent : Bool → ℕ → Bool
is_spent fifo slice = not fifo && (slice_after fifo slice == 0)

-- A running thread gives its processor up after a turn: a ready thread has greater rank, or nothing is left of the slice and
-- a ready thread has equal rank (docs/machine.md, "Dispatch and slices").
abbrev pub gives_way : Rows → Bool → ℕ → Place → Bool
gives_way rs fifo rank (Runs p slice) = is_outranked rs rank || (is_spent fifo slice && is_matched rs rank)
gives_way rs fifo rank (Stands r arrival) = false

-- The same of a seat that is there.
abbrev pub does_give_way : Rows → Bool → Option Seat → Bool
does_give_way rs fifo None = false
does_give_way rs fifo (Some s) = gives_way rs fifo s.rank s.place

-- The place a turn later, with a whole slice where nothing is left of the old one.
abbrev pub a_turn_later : Bool → Place → Place
a_turn_later fifo (Runs p slice) = Runs p (if is_spent fifo slice then whole_slice else slice_after fifo slice)
a_turn_later fifo (Stands r arrival) = Stands r arrival

-- The seat of a running thread after its turn.
abbrev pub as_kept : Rows → Bool → Seat → Seat
as_kept rs fifo s = record {
  rank = s.rank;
  place = if gives_way rs fifo s.rank s.place then Stands row.Ready rs.next_arrival else a_turn_later fifo s.place;
}

-- The rows after a running thread's turn, and whether it still runs (docs/machine.md, "Dispatch and slices").
pub record Kept : Type 0 where
  pub rows : Rows
  pub stays : Bool

-- A running thread, whose policy is SCHED_FIFO or isn't, keeps its processor after a turn or becomes ready (docs/machine.md,
-- "Dispatch and slices").
abbrev pub keeps : Rows → Tid → Bool → Kept
keeps rs t fifo =
    let gives : Bool = does_give_way rs fifo (seat_of rs t) in record {
      rows = record {
        seats = put_if rs.seats t.0 (option_map (as_kept rs fifo) (seat_of rs t));
        next_arrival = if gives then rs.next_arrival + 1 else rs.next_arrival;
      };
      stays = is_running (seat_of rs t) && not gives;
    }
