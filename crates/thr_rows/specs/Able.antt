-- The threads that can run among those that have a seat.
use Rattle.std.specs.List.{filter}
use Rattle.thr_parts.specs.declared.row.Seat.{Seat}
use Rattle.thr_parts.specs.Tables.{Table}
use Rattle.thr_parts.specs.Dispatch.{can_run}

-- The seats of the threads that are ready or run.
abbrev pub able_of : Table Seat → Table Seat
able_of seats = filter (λ e. can_run e.1.place) seats
