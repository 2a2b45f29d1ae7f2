-- Mutexes, their attribute cells and the global lock (docs/machine.md, "Mutexes").
use Rattle.std.specs.Prelude.{Bool, true, false, not, ◌||◌, is_some, Option, Some, None}
use Rattle.std.specs.Option.{option_map}
use Rattle.thr_values.specs.declared.number.NameId.{NameId}
use Rattle.thr_values.specs.declared.reply.Kind.{Kind}
use Rattle.thr_values.specs.declared.reply.Kind.TheVariants.{Fast, Recursive}
use Rattle.thr_values.specs.declared.reply.Reply.{Reply}
use Rattle.thr_values.specs.declared.reply.Reply.TheVariants as reply
use Rattle.thr_parts.specs.declared.mutex.Held.{Held}
use Rattle.thr_parts.specs.declared.mutex.Mutex.{Mutex}
use Rattle.thr_parts.specs.declared.row.RowId.{RowId}
use Rattle.thr_parts.specs.declared.row.RowId.TheVariants as row
use Rattle.thr_parts.specs.Tables.{Table, none, get, has, put, put_if, cut_if, keep_if}
use Rattle.thr_parts.specs.Replies.{is_done, making_reply, made_reply}
use Rattle.thr_parts.specs.Rows.{Rows, best}

-- The kinds of the mutex attribute cells that are made, the mutexes that are made, and who owns the global lock
-- (docs/machine.md, "Mutexes").
pub record Locks : Type 0 where
  pub kinds : Table Kind
  pub mutexes : Table Mutex
  pub global : Option Held

-- Nothing is made, and the global lock is free (docs/machine.md, "The opening").
abbrev pub no_locks : Locks
no_locks = record { kinds = none; mutexes = none; global = None }

-- A reply, and the locks after it (docs/machine.md, "Mutexes").
pub record LocksReply : Type 0 where
  pub reply : Reply
  pub locks : Locks

-- The locks with these attribute cells.
abbrev pub with_kinds : Locks → Table Kind → Locks
with_kinds ls kinds = record { kinds = kinds; mutexes = ls.mutexes; global = ls.global }

-- The locks with these mutexes.
abbrev pub with_mutexes : Locks → Table Mutex → Locks
with_mutexes ls mutexes = record { kinds = ls.kinds; mutexes = mutexes; global = ls.global }

-- ---- attribute cells

-- A cell is made, of the kind fast (docs/machine.md, "Mutexes").
abbrev pub mutexattr_create : Locks → NameId → LocksReply
mutexattr_create ls a = record {
  reply = making_reply (has ls.kinds a.0);
  locks = with_kinds ls (put_if ls.kinds a.0 (keep_if (not (has ls.kinds a.0)) (Some Fast)));
}

-- A cell is not made any more (docs/machine.md, "Mutexes").
abbrev pub mutexattr_delete : Locks → NameId → LocksReply
mutexattr_delete ls a = record {
  reply = made_reply (has ls.kinds a.0);
  locks = with_kinds ls (cut_if (has ls.kinds a.0) ls.kinds a.0);
}

-- A cell gets a kind (docs/machine.md, "Mutexes").
abbrev pub setkind : Locks → NameId → Kind → LocksReply
setkind ls a kind = record {
  reply = made_reply (has ls.kinds a.0);
  locks = with_kinds ls (put_if ls.kinds a.0 (keep_if (has ls.kinds a.0) (Some kind)));
}

-- ---- made and not made

-- The kind by the cell of a name that is there, and else by `default`.
abbrev pub kind_at : Locks → Option NameId → Option Kind
kind_at ls None = Some Fast
kind_at ls (Some a) = get ls.kinds a.0

-- What making a mutex of this kind replies, which is made already or isn't.
abbrev pub init_reply : Option Kind → Bool → Reply
init_reply None is_made = reply.Einval
init_reply (Some kind) is_made = making_reply is_made

-- A mutex that nobody owns.
abbrev pub free_mutex : Kind → Mutex
free_mutex kind = record { kind = kind; held = None }

-- A mutex is made, of its cell's kind and free (docs/machine.md, "Mutexes").
abbrev pub init : Locks → NameId → Option NameId → LocksReply
init ls m a =
    let made : Option Mutex = option_map free_mutex (kind_at ls a) in record {
      reply = init_reply (kind_at ls a) (has ls.mutexes m.0);
      locks = with_mutexes ls (put_if ls.mutexes m.0 (keep_if (not (has ls.mutexes m.0)) made));
    }

-- The mutex of a name that is there, and else the global lock, which is recursive and always made (docs/machine.md,
-- "Mutexes").
abbrev pub mutex_at : Locks → Option NameId → Option Mutex
mutex_at ls None = Some (record { kind = Recursive; held = ls.global })
mutex_at ls (Some m) = get ls.mutexes m.0

-- The row of those that wait for it.
abbrev pub waiters_row : Option NameId → RowId
waiters_row None = row.Global
waiters_row (Some m) = row.Mutex m

-- The mutexes with the one that is there at the name that is there.
abbrev pub mutexes_with : Table Mutex → Option NameId → Option Mutex → Table Mutex
mutexes_with mutexes (Some m) (Some x) = put mutexes m.0 x
mutexes_with mutexes _ _ = mutexes

-- The global lock as the one that is there says, where no name is.
abbrev pub global_with : Option Held → Option NameId → Option Mutex → Option Held
global_with global None (Some x) = x.held
global_with global _ _ = global

-- The locks with the mutex that is there, if one is, for what the name says.
abbrev pub with_mutex : Locks → Option NameId → Option Mutex → Locks
with_mutex ls m x = record { kinds = ls.kinds; mutexes = mutexes_with ls.mutexes m x; global = global_with ls.global m x }

-- Who owns a mutex that is there.
abbrev pub owner_in : Option Mutex → Option Held
owner_in None = None
owner_in (Some x) = x.held

-- Who owns it, and how often it is locked (docs/machine.md, "Mutexes").
abbrev pub owner : Locks → Option NameId → Option Held
owner ls m = owner_in (mutex_at ls m)

-- It is owned or waited for, or a thread waits on a condition with it.
abbrev pub is_used : Locks → Rows → NameId → Bool → Bool
is_used ls rs m waits_with = is_some (owner ls (Some m)) || is_some (best rs (row.Mutex m)) || waits_with

-- What destroying a mutex replies that is made or isn't, and used or isn't.
abbrev pub destroy_reply : Bool → Bool → Reply
destroy_reply false used = reply.Einval
destroy_reply true true = reply.Ebusy
destroy_reply true false = reply.Done

-- A mutex is not made any more; whether a thread waits on a condition with it is told (docs/machine.md, "Mutexes").
abbrev pub destroy : Locks → Rows → NameId → Bool → LocksReply
destroy ls rs m waits_with =
    let said : Reply = destroy_reply (has ls.mutexes m.0) (is_used ls rs m waits_with) in record {
      reply = said;
      locks = with_mutexes ls (cut_if (is_done said) ls.mutexes m.0);
    }
