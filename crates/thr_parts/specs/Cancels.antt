-- Cancelabilities, and what a cancel does (docs/machine.md, "Cancels").
use Rattle.std.specs.Prelude.{Bool, true, false, ◌&&◌, if◌then◌else◌, is_some, ℤ, pos, Option, Some, None}
use Rattle.std.specs.Option.{option_map}
use Rattle.thr_values.specs.declared.number.Tid.{Tid}
use Rattle.thr_values.specs.declared.reply.Effect.{Effect}
use Rattle.thr_values.specs.declared.reply.Effect.TheVariants as effect
use Rattle.thr_values.specs.declared.reply.Reply.{Reply}
use Rattle.thr_values.specs.declared.reply.Reply.TheVariants as reply
use Rattle.thr_values.specs.declared.scheduling.Mode.{Mode}
use Rattle.thr_parts.specs.declared.row.RowId.{RowId}
use Rattle.thr_parts.specs.declared.row.RowId.TheVariants as row
use Rattle.thr_parts.specs.declared.thread.Thread.{Thread}
use Rattle.thr_parts.specs.Tables.{put_if, keep_if}
use Rattle.thr_parts.specs.Rows.{Rows, row_of}
use Rattle.thr_parts.specs.Threads.{Threads, ThreadsReply, natural, new_mode, record_of, record_at, with_records}

-- ---- cancelabilities

-- The mode in a record that is there.
abbrev pub mode_in : Option Thread → Mode
mode_in None = new_mode
mode_in (Some th) = th.mode

-- The mode of a thread: both cancelabilities, and whether a cancel is pending (docs/machine.md, "Cancels").
abbrev pub mode_at : Threads → Tid → Mode
mode_at ths t = mode_in (record_at ths t)

-- The record with this mode.
abbrev pub with_mode : Mode → Thread → Thread
with_mode m th = record th { mode = m }

-- A thread gets this mode.
abbrev pub set_mode : Threads → Tid → Mode → Threads
set_mode ths t m = with_records ths (put_if ths.records t.0 (option_map (with_mode m) (record_at ths t)))

-- 1 for a cancelability that is on, and 0 for one that is off.
abbrev pub state_number : Bool → ℤ
state_number true = pos 1
state_number false = pos 0

-- A thread sets its general cancelability; the old state is replied (docs/machine.md, "Cancels").
abbrev pub setcancel : Threads → Tid → Bool → ThreadsReply
setcancel ths t on = record {
  reply = reply.Value (state_number (mode_at ths t).general);
  threads = set_mode ths t (record (mode_at ths t) { general = on });
}

-- A thread sets its asynchronous cancelability; the old state is replied (docs/machine.md, "Cancels").
abbrev pub setasynccancel : Threads → Tid → Bool → ThreadsReply
setasynccancel ths t on = record {
  reply = reply.Value (state_number (mode_at ths t).asynchronous);
  threads = set_mode ths t (record (mode_at ths t) { asynchronous = on });
}

-- ---- cancels

-- The waits in this row are points (docs/machine.md, "Cancels").
abbrev pub is_point_row : RowId → Bool
is_point_row row.Ready = false
is_point_row (row.Mutex m) = false
is_point_row row.Global = false
is_point_row (row.Cond c) = true
is_point_row (row.Join t) = true
is_point_row (row.Once o) = false
is_point_row (row.Reader p) = true
is_point_row (row.Writer p) = true
is_point_row row.Time = true

-- The same of a row that is there.
abbrev pub is_point : Option RowId → Bool
is_point None = false
is_point (Some r) = is_point_row r

-- The thread waits at a point.
abbrev pub waits_at_point : Rows → Tid → Bool
waits_at_point rs t = is_point (row_of rs t)

-- What a cancel does to a thread that waits at a point or doesn't: the first that holds (docs/machine.md, "Cancels").
abbrev pub effect_on : Thread → Bool → Effect
effect_on th at_point =
    if is_some th.ended then effect.Ended
    else (if th.mode.pending then effect.Merged
    else (if th.mode.general && at_point then effect.Wakes else effect.Pending))

-- What a cancel of this thread replies.
abbrev pub cancel_reply : Option Thread → Bool → Reply
cancel_reply None at_point = reply.Esrch
cancel_reply (Some th) at_point = reply.Effect (effect_on th at_point)

-- With this effect the cancel is pending from now on.
abbrev pub marks : Effect → Bool
marks effect.Ended = false
marks effect.Merged = false
marks effect.Pending = true
marks effect.Wakes = true

-- A cancel of this thread is pending from now on.
abbrev pub is_marked : Option Thread → Bool → Bool
is_marked None at_point = false
is_marked (Some th) at_point = marks (effect_on th at_point)

-- The record with a cancel pending.
abbrev pub as_pending : Thread → Thread
as_pending th = record th { mode = record th.mode { pending = true } }

-- The thread that a number names, which waits at a point or doesn't, is cancelled (docs/machine.md, "Cancels").
abbrev pub cancel : Threads → ℤ → Bool → ThreadsReply
cancel ths target at_point =
    let found : Option Thread = record_of ths target in
    let marked : Option Thread = keep_if (is_marked found at_point) (option_map as_pending found) in record {
      reply = cancel_reply found at_point;
      threads = with_records ths (put_if ths.records (natural target) marked);
    }

-- ---- deliveries

-- A delivery clears the mark and leaves both cancelabilities (docs/machine.md, "Cancels").
abbrev pub deliver : Threads → Tid → Threads
deliver ths t = set_mode ths t (record (mode_at ths t) { pending = false })
