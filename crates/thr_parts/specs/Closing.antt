-- Pipes that are closed, and waiters that leave them (docs/machine.md, "Pipes").
use Rattle.std.specs.Prelude.{ℕ, ◌==◌, Bool, true, false, not, if◌then◌else◌, is_some, List, [], Option, Some}
use Rattle.std.specs.List.{filter}
use Rattle.thr_values.specs.declared.number.Tid.{Tid}
use Rattle.thr_values.specs.declared.number.NameId.{NameId}
use Rattle.thr_values.specs.declared.reply.Reply.{Reply}
use Rattle.thr_values.specs.declared.reply.Reply.TheVariants as reply
use Rattle.thr_parts.specs.declared.pipe.Writing.{Writing}
use Rattle.thr_parts.specs.declared.row.RowId.{RowId}
use Rattle.thr_parts.specs.declared.row.RowId.TheVariants as row
use Rattle.thr_parts.specs.Tables.{Table, put_if, keep_if}
use Rattle.thr_parts.specs.Rows.{Rows, row_of}
use Rattle.thr_parts.specs.Moves.{take_out_if, Freed, free_row}
use Rattle.thr_parts.specs.Pipes.{Pipe, Pipes, pipe_at, writing_without}

-- ---- close

-- A reply, and pipes after it (docs/machine.md, "Pipes").
pub record PipesReply : Type 0 where
  pub reply : Reply
  pub pipes : Pipes

-- What closing a pipe replies that is open or isn't.
abbrev pub close_reply : Bool → Reply
close_reply true = reply.Done
close_reply false = reply.Einval

-- The pipe closed. Its items stay.
abbrev pub as_closed : Pipe → Pipe
as_closed x = record { capacity = x.capacity; is_open = false; items = x.items }

-- The waiting writers of other pipes.
unfoldable pub writing_elsewhere : Table Writing → NameId → Table Writing
writing_elsewhere writing p = filter (λ e. not (e.1.pipe.0 == p.0)) writing

-- A pipe takes no more items. It keeps those in it, and those of its waiting writers are dropped (docs/machine.md, "Pipes").
abbrev pub close : Pipes → NameId → PipesReply
close ps p =
    let opened : Bool = (pipe_at ps p).is_open in record {
      reply = close_reply opened;
      pipes = record {
        pipes = put_if ps.pipes p.0 (keep_if opened (Some (as_closed (pipe_at ps p))));
        writing = if opened then writing_elsewhere ps.writing p else ps.writing;
      };
    }

-- The same with rows after it, and the readers and the writers that became ready (docs/machine.md, "Pipes").
pub record Closed : Type 0 where
  pub reply : Reply
  pub pipes : Pipes
  pub rows : Rows
  pub readers : List Tid
  pub writers : List Tid

-- All threads of a row become ready, or none.
abbrev pub free_if : Bool → (Tid → ℕ) → Rows → RowId → Freed
free_if frees rank rs r = record {
  rows = record {
    seats = if frees then (free_row rank rs r).rows.seats else rs.seats;
    next_arrival = if frees then (free_row rank rs r).rows.next_arrival else rs.next_arrival;
  };
  woken = if frees then (free_row rank rs r).woken else [];
}

-- A pipe is closed and its waiters become ready, readers first and of both the best first (docs/machine.md, "Pipes").
abbrev pub close_out : (Tid → ℕ) → Pipes → Rows → NameId → Closed
close_out rank ps rs p =
    let opened : Bool = (pipe_at ps p).is_open in
    let readers : Freed = free_if opened rank rs (row.Reader p) in
    let writers : Freed = free_if opened rank readers.rows (row.Writer p) in record {
      reply = (close ps p).reply;
      pipes = (close ps p).pipes;
      rows = writers.rows;
      readers = readers.woken;
      writers = writers.woken;
    }

-- ---- a waiter that leaves

-- Pipes and rows after a thread was to leave its wait, and whether it had one (docs/machine.md, "Waits that end").
pub record LeftPipe : Type 0 where
  pub pipes : Pipes
  pub rows : Rows
  pub stood : Bool

-- The row that is there is one of a pipe.
abbrev pub is_pipe_row : Option RowId → Bool
is_pipe_row (Some (row.Reader p)) = true
is_pipe_row (Some (row.Writer p)) = true
is_pipe_row _ = false

-- The thread leaves its wait as a reader or as a writer, whose item is dropped; where it has none nothing changes
-- (docs/machine.md, "Waits that end").
abbrev pub pull_out : Pipes → Rows → Tid → LeftPipe
pull_out ps rs t =
    let who : Option Tid = keep_if (is_pipe_row (row_of rs t)) (Some t) in record {
      pipes = record { pipes = ps.pipes; writing = writing_without ps.writing who };
      rows = take_out_if rs who;
      stood = is_some who;
    }
