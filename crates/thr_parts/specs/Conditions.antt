-- Conditions, and waits that begin on them or for a time (docs/machine.md, "Conditions").
use Rattle.std.specs.Prelude.{ℕ, ◌==◌, Bool, true, false, not, ◌&&◌, if◌then◌else◌, int_le, int_lt, ◌+ℤ◌, ℤ, pos, Option, Some, None, ⊤}
use Rattle.std.specs.List.{list_any}
use Rattle.thr_values.specs.declared.number.Tid.{Tid}
use Rattle.thr_values.specs.declared.number.NameId.{NameId}
use Rattle.thr_values.specs.declared.reply.Reply.{Reply}
use Rattle.thr_values.specs.declared.reply.Reply.TheVariants as reply
use Rattle.thr_parts.specs.declared.row.RowId.TheVariants as row
use Rattle.thr_parts.specs.declared.wait.Wait.{Wait}
use Rattle.thr_parts.specs.declared.wait.Wait.TheVariants.{Cond, Delay}
use Rattle.thr_parts.specs.Tables.{Table, none, get, has, put_if, cut_if, keep_if}
use Rattle.thr_parts.specs.Replies.{is_done, is_blocks, making_reply}
use Rattle.thr_parts.specs.Times.{is_no_interval}
use Rattle.thr_parts.specs.Rows.{Rows}
use Rattle.thr_parts.specs.Moves.{block_if}
use Rattle.thr_parts.specs.Mutexes.{Locks, owner}
use Rattle.thr_parts.specs.Locking.{is_held_by, is_last, GivenUp, give_up_if}

-- The conditions that are made, and the waits of the threads that wait on one or for a time (docs/machine.md, "Conditions").
pub record Conds : Type 0 where
  pub made : Table ⊤
  pub waits : Table Wait

-- No condition is made, and nobody waits (docs/machine.md, "The opening").
abbrev pub no_conds : Conds
no_conds = record { made = none; waits = none }

-- A reply, and the conditions after it (docs/machine.md, "Conditions").
pub record CondsReply : Type 0 where
  pub reply : Reply
  pub conds : Conds

-- ---- waits

-- The wait of a thread, where it has one.
abbrev pub wait_of : Conds → Tid → Option Wait
wait_of cs t = get cs.waits t.0

-- The wait is on this condition.
abbrev pub is_on : NameId → Wait → Bool
is_on c (Cond d m until) = c.0 == d.0
is_on c (Delay until) = false

-- The wait is on a condition with this mutex.
abbrev pub is_with : NameId → Wait → Bool
is_with m (Cond c n until) = m.0 == n.0
is_with m (Delay until) = false

-- The mutex with which a wait is on a condition.
abbrev pub mutex_of : Wait → Option NameId
mutex_of (Cond c m until) = Some m
mutex_of (Delay until) = None

-- The time until which a wait is, where there is one.
abbrev pub time_of : Wait → Option ℤ
time_of (Cond c m until) = until
time_of (Delay until) = Some until

-- A thread has a wait that passes the test.
abbrev pub some_wait : (Wait → Bool) → Conds → Bool
some_wait test cs = list_any (λ e. test e.1) cs.waits

-- A thread waits on this condition.
abbrev pub is_waited_on : Conds → NameId → Bool
is_waited_on cs c = some_wait (is_on c) cs

-- A thread waits on a condition with this mutex (docs/machine.md, "Mutexes").
abbrev pub waits_with : Conds → NameId → Bool
waits_with cs m = some_wait (is_with m) cs

-- A thread waits on this condition with another mutex.
abbrev pub waits_otherwise : Conds → NameId → NameId → Bool
waits_otherwise cs c m = some_wait (λ w. is_on c w && not (is_with m w)) cs

-- ---- made and not made

-- A condition is made (docs/machine.md, "Conditions").
abbrev pub cond_init : Conds → NameId → CondsReply
cond_init cs c = record {
  reply = making_reply (has cs.made c.0);
  conds = record { made = put_if cs.made c.0 (keep_if (not (has cs.made c.0)) (Some tt)); waits = cs.waits };
}

-- What destroying a condition replies that is made or isn't, and waited on or isn't.
abbrev pub cond_destroy_reply : Bool → Bool → Reply
cond_destroy_reply false waited_on = reply.Einval
cond_destroy_reply true true = reply.Ebusy
cond_destroy_reply true false = reply.Done

-- A condition is not made any more (docs/machine.md, "Conditions").
abbrev pub cond_destroy : Conds → NameId → CondsReply
cond_destroy cs c =
    let said : Reply = cond_destroy_reply (has cs.made c.0) (is_waited_on cs c) in record {
      reply = said;
      conds = record { made = cut_if (is_done said) cs.made c.0; waits = cs.waits };
    }

-- ---- waits that begin

-- A reply, conditions, locks and rows after it, and the thread that has the mutex now, taken out of its row (docs/machine.md,
-- "Conditions").
pub record Waited : Type 0 where
  pub reply : Reply
  pub conds : Conds
  pub locks : Locks
  pub rows : Rows
  pub given : Option Tid

-- What a wait by the owner replies, in a state that is right for it or isn't.
abbrev pub right_reply : Bool → Reply
right_reply true = reply.Blocks
right_reply false = reply.Einval

-- What a wait replies by a thread that owns the mutex or doesn't, in a state that is right for it or isn't.
abbrev pub owner_reply : Bool → Bool → Reply
owner_reply false is_right = reply.Eperm
owner_reply true is_right = right_reply is_right

-- What a wait replies. It is right where the mutex is locked once and nobody waits there with another (docs/machine.md,
-- "Conditions").
abbrev pub wait_reply : Conds → Locks → NameId → NameId → Tid → Reply
wait_reply cs ls c m t =
    let held_by : Bool = is_held_by (owner ls (Some m)) t in
    let is_right : Bool = is_last (owner ls (Some m)) && not (waits_otherwise cs c m) in
    if has cs.made c.0 && has ls.mutexes m.0 then owner_reply held_by is_right else reply.Einval

-- What a timed wait replies where a wait replies this and its time is past or isn't.
abbrev pub timedwait_reply : Reply → Bool → Reply
timedwait_reply reply.Blocks true = reply.Eagain
timedwait_reply said is_past = said

-- A wait that is replied so. The caller takes its arrival first, and then it gives the mutex up (docs/machine.md,
-- "Conditions").
abbrev pub begin_wait : Conds → Locks → Rows → NameId → NameId → Option ℤ → Tid → ℕ → Reply → Waited
begin_wait cs ls rs c m until t rank said =
    let waiting : Rows = block_if (is_blocks said) rs (row.Cond c) t rank in
    let after : GivenUp = give_up_if (is_blocks said) (is_blocks said) ls waiting (Some m) in record {
      reply = said;
      conds = record { made = cs.made; waits = put_if cs.waits t.0 (keep_if (is_blocks said) (Some (Cond c m until))) };
      locks = after.locks;
      rows = after.rows;
      given = after.given;
    }

-- A thread waits on a condition and gives its mutex up (docs/machine.md, "Conditions").
abbrev pub wait : Conds → Locks → Rows → NameId → NameId → Tid → ℕ → Waited
wait cs ls rs c m t rank = begin_wait cs ls rs c m None t rank (wait_reply cs ls c m t)

-- The same until a time. Where that isn't after now the caller keeps its mutex (docs/machine.md, "Conditions").
abbrev pub timedwait : Conds → Locks → Rows → NameId → NameId → ℤ → ℤ → Tid → ℕ → Waited
timedwait cs ls rs c m until now t rank =
    begin_wait cs ls rs c m (Some until) t rank (timedwait_reply (wait_reply cs ls c m t) (int_le until now))

-- A reply, and conditions and rows after it (docs/machine.md, "Times").
pub record Delayed : Type 0 where
  pub reply : Reply
  pub conds : Conds
  pub rows : Rows

-- What a delay of so many ticks replies.
abbrev pub delay_reply : ℤ → ℤ → Reply
delay_reply ticks now =
    if is_no_interval ticks now then reply.Einval
    else (if int_lt (pos 0) ticks then reply.Blocks else reply.Done)

-- A thread waits for so many ticks (docs/machine.md, "Times").
abbrev pub delay : Conds → Rows → ℤ → ℤ → Tid → ℕ → Delayed
delay cs rs ticks now t rank =
    let said : Reply = delay_reply ticks now in
    let begun : Option Wait = keep_if (is_blocks said) (Some (Delay (now +ℤ ticks))) in record {
      reply = said;
      conds = record { made = cs.made; waits = put_if cs.waits t.0 begun };
      rows = block_if (is_blocks said) rs row.Time t rank;
    }
