-- Mutexes and the global lock: who locks them, unlocks them and is handed them (docs/machine.md, "Mutexes").
use Rattle.std.specs.Prelude.{ℕ, ◌+◌, ◌-◌, ◌==◌, nat_le, Bool, true, false, ◌&&◌, if◌then◌else◌, is_none, pos, Option, Some, None}
use Rattle.std.specs.Option.{option_map}
use Rattle.thr_values.specs.declared.number.Tid.{Tid}
use Rattle.thr_values.specs.declared.number.NameId.{NameId}
use Rattle.thr_values.specs.declared.reply.Kind.{Kind}
use Rattle.thr_values.specs.declared.reply.Kind.TheVariants.{Fast, Recursive, Nonrecursive}
use Rattle.thr_values.specs.declared.reply.Reply.{Reply}
use Rattle.thr_values.specs.declared.reply.Reply.TheVariants as reply
use Rattle.thr_parts.specs.declared.mutex.Held.{Held}
use Rattle.thr_parts.specs.declared.mutex.Mutex.{Mutex}
use Rattle.thr_parts.specs.declared.row.RowId.TheVariants as row
use Rattle.thr_parts.specs.Tables.{keep_if}
use Rattle.thr_parts.specs.Replies.{is_done, is_blocks}
use Rattle.thr_parts.specs.Rows.{Rows, best}
use Rattle.thr_parts.specs.Moves.{block_if, put_in_row, take_out_if}
use Rattle.thr_parts.specs.Mutexes.{Locks, LocksReply, mutex_at, waiters_row, with_mutex, owner}

-- ---- lock and trylock

-- What a second lock by the owner replies (docs/machine.md, "Mutexes").
abbrev pub relock_reply : Kind → Reply
relock_reply Fast = reply.Blocks
relock_reply Recursive = reply.Done
relock_reply Nonrecursive = reply.Edeadlk

-- The thread is the owner.
abbrev pub is_owner : Held → Tid → Bool
is_owner h t = h.owner.0 == t.0

-- What a lock replies, of this kind and so owned.
abbrev pub held_reply : Kind → Option Held → Tid → Reply
held_reply kind None t = reply.Done
held_reply kind (Some h) t = if is_owner h t then relock_reply kind else reply.Blocks

-- What a lock of the mutex that is there replies (docs/machine.md, "Mutexes").
abbrev pub lock_reply : Option Mutex → Tid → Reply
lock_reply None t = reply.Einval
lock_reply (Some x) t = held_reply x.kind x.held t

-- Once more locked, by this thread.
abbrev pub taken : Option Held → Tid → Held
taken None t = record { owner = t; depth = 1 }
taken (Some h) t = record { owner = t; depth = h.depth + 1 }

-- The mutex once more locked by this thread.
abbrev pub as_taken : Tid → Mutex → Mutex
as_taken t x = record { kind = x.kind; held = Some (taken x.held t) }

-- A reply, and locks and rows after it (docs/machine.md, "Mutexes").
pub record Locked : Type 0 where
  pub reply : Reply
  pub locks : Locks
  pub rows : Rows

-- A thread locks a mutex or the global lock (docs/machine.md, "Mutexes").
abbrev pub lock : Locks → Rows → Option NameId → Tid → ℕ → Locked
lock ls rs m t rank =
    let said : Reply = lock_reply (mutex_at ls m) t in record {
      reply = said;
      locks = with_mutex ls m (keep_if (is_done said) (option_map (as_taken t) (mutex_at ls m)));
      rows = block_if (is_blocks said) rs (waiters_row m) t rank;
    }

-- What trying replies where a lock replies this.
abbrev pub trylock_reply : Reply → Reply
trylock_reply reply.Done = reply.Value (pos 1)
trylock_reply reply.Einval = reply.Einval
trylock_reply _ = reply.Value (pos 0)

-- A thread locks a mutex where a lock would reply `ok` (docs/machine.md, "Mutexes").
abbrev pub trylock : Locks → NameId → Tid → LocksReply
trylock ls m t =
    let said : Reply = lock_reply (mutex_at ls (Some m)) t in record {
      reply = trylock_reply said;
      locks = with_mutex ls (Some m) (keep_if (is_done said) (option_map (as_taken t) (mutex_at ls (Some m))));
    }

-- ---- unlock and hand-over

-- The thread owns what is so owned.
abbrev pub is_held_by : Option Held → Tid → Bool
is_held_by None t = false
is_held_by (Some h) t = is_owner h t

-- What an unlock of the mutex that is there replies.
abbrev pub unlock_reply : Option Mutex → Tid → Reply
unlock_reply None t = reply.Einval
unlock_reply (Some x) t = if is_held_by x.held t then reply.Done else reply.Eperm

-- How often it is locked.
abbrev pub depth_in : Option Held → ℕ
depth_in None = 0
depth_in (Some h) = h.depth

-- It is locked once at most, so that an unlock gives it up.
abbrev pub is_last : Option Held → Bool
is_last h = nat_le (depth_in h) 1

-- Once less locked.
abbrev pub one_less : Held → Held
one_less h = record { owner = h.owner; depth = h.depth - 1 }

-- Locked once by this thread.
abbrev pub owned_by : Tid → Held
owned_by t = record { owner = t; depth = 1 }

-- Who owns it after an unlock: the next owner where it was given up and one is there (docs/machine.md, "Mutexes").
abbrev pub held_after : Option Tid → Option Held → Option Held
held_after next h = if is_last h then option_map owned_by next else option_map one_less h

-- The mutex after an unlock.
abbrev pub as_unlocked : Option Tid → Mutex → Mutex
as_unlocked next x = record { kind = x.kind; held = held_after next x.held }

-- The locks and rows after a hand-over, and the thread that has the mutex now, taken out of its row (docs/machine.md,
-- "Mutexes").
pub record GivenUp : Type 0 where
  pub locks : Locks
  pub rows : Rows
  pub given : Option Tid

-- A mutex or the global lock is unlocked or isn't, and is given up by that or isn't.
abbrev pub give_up_if : (unlocks gives : Bool) → Locks → Rows → Option NameId → GivenUp
give_up_if unlocks gives ls rs m =
    let next : Option Tid = keep_if gives (best rs (waiters_row m)) in record {
      locks = with_mutex ls m (keep_if unlocks (option_map (as_unlocked next) (mutex_at ls m)));
      rows = take_out_if rs next;
      given = next;
    }

-- A mutex or the global lock, which is locked once, is given up: the best that waits for it has it at once, and it is free
-- where nobody does (docs/machine.md, "Mutexes").
abbrev pub give_up : Locks → Rows → Option NameId → GivenUp
give_up ls rs m = give_up_if true true ls rs m

-- A reply, and the same after it (docs/machine.md, "Mutexes").
pub record Unlocked : Type 0 where
  pub reply : Reply
  pub locks : Locks
  pub rows : Rows
  pub given : Option Tid

-- A thread unlocks a mutex or the global lock. Where that becomes free the best that waits for it has it at once
-- (docs/machine.md, "Mutexes").
abbrev pub unlock : Locks → Rows → Option NameId → Tid → Unlocked
unlock ls rs m t =
    let said : Reply = unlock_reply (mutex_at ls m) t in
    let after : GivenUp = give_up_if (is_done said) (is_done said && is_last (owner ls m)) ls rs m in record {
      reply = said;
      locks = after.locks;
      rows = after.rows;
      given = after.given;
    }

-- ---- a thread that left a condition

-- The locks and rows after a thread was to get its mutex back, and whether it got it at once (docs/machine.md, "Waits that
-- end").
pub record Regained : Type 0 where
  pub locks : Locks
  pub rows : Rows
  pub gets : Bool

-- The mutex is made and nobody owns it.
abbrev pub is_free : Option Mutex → Bool
is_free None = false
is_free (Some x) = is_none x.held

-- The thread, which stands nowhere, gets its mutex and is ready where that is free, and else waits for it (docs/machine.md,
-- "Waits that end").
abbrev pub regain : Locks → Rows → NameId → Tid → ℕ → Regained
regain ls rs m t rank =
    let gets : Bool = is_free (mutex_at ls (Some m)) in record {
      locks = with_mutex ls (Some m) (keep_if gets (option_map (as_taken t) (mutex_at ls (Some m))));
      rows = put_in_row rs (if gets then row.Ready else row.Mutex m) t rank;
      gets = gets;
    }
