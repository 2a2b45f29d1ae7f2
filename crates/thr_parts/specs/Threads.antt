-- Records of threads: who is created, joined, detached and ended (docs/machine.md, "Thread records").
use Rattle.std.specs.Prelude.{ℕ, ◌+◌, ◌==◌, nat_lt, Bool, true, false, is_some, is_none, if◌then◌else◌, ℤ, pos, negsuc, List, map, length, Option, Some, None}
use Rattle.std.specs.List.{filter}
use Rattle.std.specs.Option.{option_map}
use Rattle.thr_values.specs.Ranks.{rank_of}
use Rattle.thr_values.specs.declared.number.Tid.{Tid}
use Rattle.thr_values.specs.declared.number.NameId.{NameId}
use Rattle.thr_values.specs.declared.reply.Reply.{Reply}
use Rattle.thr_values.specs.declared.reply.Reply.TheVariants as reply
use Rattle.thr_values.specs.declared.scheduling.Policy.{Policy}
use Rattle.thr_values.specs.declared.scheduling.Policy.TheVariants as policy
use Rattle.thr_values.specs.declared.scheduling.Mode.{Mode}
use Rattle.thr_parts.specs.declared.thread.Attr.{Attr}
use Rattle.thr_parts.specs.declared.thread.Thread.{Thread}
use Rattle.thr_parts.specs.Tables.{Table, none, get, put, put_if, cut, keep_if}
use Rattle.thr_parts.specs.Replies.{is_value}
use Rattle.thr_parts.specs.Rows.{thread, most}

-- The records by the numbers of their threads, the number of the next thread, and the attribute cells that are made, by their
-- names (docs/machine.md, "Thread records").
pub record Threads : Type 0 where
  pub records : Table Thread
  pub next : ℕ
  pub attrs : Table Attr

-- A reply, and records and cells after it (docs/machine.md, "Thread records").
pub record ThreadsReply : Type 0 where
  pub reply : Reply
  pub threads : Threads

-- The threads with these records.
abbrev pub with_records : Threads → Table Thread → Threads
with_records ths records = record { records = records; next = ths.next; attrs = ths.attrs }

-- The threads with these attribute cells.
abbrev pub with_attrs : Threads → Table Attr → Threads
with_attrs ths attrs = record { records = ths.records; next = ths.next; attrs = attrs }

-- An attribute cell as it is created, which `default` stands for (docs/machine.md, "Attribute cells").
abbrev pub new_attr : Attr
new_attr = record { policy = policy.Fg; prio = 16; inherits = true; frames = 256 }

-- A thread begins with general cancelability on, asynchronous off and no cancel pending (docs/machine.md, "Cancels").
abbrev pub new_mode : Mode
new_mode = record { pending = false; general = true; asynchronous = false }

-- A thread as it is created.
abbrev pub new_thread : Tid → Policy → ℕ → ℕ → Thread
new_thread t p prio frames = record {
  tid = t;
  policy = p;
  prio = prio;
  frames = frames;
  mode = new_mode;
  detached = false;
  ended = None;
}

-- At the opening there is the first thread alone, made as `default` says (docs/machine.md, "The opening").
abbrev pub first_threads : Threads
first_threads = record {
  records = put none 1 (new_thread (thread 1) new_attr.policy new_attr.prio new_attr.frames);
  next = 2;
  attrs = none;
}

-- ---- records

-- The natural number that a number is, where it is one.
abbrev pub natural : ℤ → ℕ
natural (pos n) = n
natural (negsuc n) = 0

-- The record of the thread that a number names (docs/machine.md, "Thread records").
abbrev pub record_of : Threads → ℤ → Option Thread
record_of ths (pos n) = get ths.records n
record_of ths (negsuc n) = None

-- The record of a thread.
abbrev pub record_at : Threads → Tid → Option Thread
record_at ths t = get ths.records t.0

-- The rank by a record that is there.
abbrev pub rank_in : Option Thread → ℕ
rank_in None = 0
rank_in (Some th) = rank_of th.policy th.prio

-- The rank of a thread (docs/machine.md, "Ranks and arrivals").
abbrev pub rank_at : Threads → Tid → ℕ
rank_at ths t = rank_in (record_at ths t)

-- The thread of a record has not ended.
abbrev pub is_live : ℕ × Thread → Bool
is_live e = is_none e.1.ended

-- The threads that have not ended, the least first (docs/machine.md, "Stops").
abbrev pub live : Threads → List Tid
live ths = map (λ e. thread e.0) (filter is_live ths.records)

-- ---- create

-- The attribute cell of a name that is there, and else `default`.
abbrev pub attr_at : Threads → Option NameId → Option Attr
attr_at ths None = Some new_attr
attr_at ths (Some a) = get ths.attrs a.0

-- What a creation with this cell replies.
abbrev pub create_reply : Threads → Option Attr → Reply
create_reply ths None = reply.Einval
create_reply ths (Some a) = if nat_lt (length ths.records) most then reply.Value (pos ths.next) else reply.Eagain

-- The policy of a thread with this maker and this cell.
abbrev pub policy_from : Option Thread → Attr → Policy
policy_from None a = a.policy
policy_from (Some maker) a = if a.inherits then maker.policy else a.policy

-- The priority of a thread with this maker and this cell.
abbrev pub prio_from : Option Thread → Attr → ℕ
prio_from None a = a.prio
prio_from (Some maker) a = if a.inherits then maker.prio else a.prio

-- The thread of this number with this maker and this cell.
abbrev pub created_by : ℕ → Option Thread → Attr → Thread
created_by t maker a = new_thread (thread t) (policy_from maker a) (prio_from maker a) a.frames

-- A thread creates another, whose number is replied (docs/machine.md, "Thread records").
abbrev pub create : Threads → Tid → Option NameId → ThreadsReply
create ths maker a =
    let said : Reply = create_reply ths (attr_at ths a) in
    let made : Option Thread = option_map (created_by ths.next (record_at ths maker)) (attr_at ths a) in record {
      reply = said;
      threads = record {
        records = put_if ths.records ths.next (keep_if (is_value said) made);
        next = if is_value said then ths.next + 1 else ths.next;
        attrs = ths.attrs;
      };
    }

-- ---- join, detach and end

-- What the join of a thread replies that has ended or hasn't.
abbrev pub ended_reply : Option ℤ → Reply
ended_reply None = reply.Blocks
ended_reply (Some value) = reply.Value value

-- What the join of this thread replies, which is the caller or isn't.
abbrev pub join_reply : Bool → Option Thread → Reply
join_reply is_caller None = reply.Esrch
join_reply true (Some th) = reply.Edeadlk
join_reply false (Some th) = if th.detached then reply.Einval else ended_reply th.ended

-- A thread joins the one that a number names. Where it blocks it waits for the other's end (docs/machine.md, "Thread
-- records").
abbrev pub join : Threads → Tid → ℤ → Reply
join ths caller target = join_reply (natural target == caller.0) (record_of ths target)

-- What marking this thread detached replies.
abbrev pub detach_reply : Option Thread → Reply
detach_reply None = reply.Esrch
detach_reply (Some th) = if th.detached then reply.Einval else reply.Done

-- The record marked detached.
abbrev pub as_detached : Thread → Thread
as_detached th = record th { detached = true }

-- The records with this one marked detached, or without it where its thread has ended.
abbrev pub records_detached : Threads → ℤ → Option Thread → Table Thread
records_detached ths target None = ths.records
records_detached ths target (Some th) =
    if th.detached then ths.records
    else (if is_some th.ended then cut ths.records (natural target) else put ths.records (natural target) (as_detached th))

-- The thread that a number names is marked detached, and its record is reclaimed where it has ended (docs/machine.md, "Thread
-- records").
abbrev pub detach : Threads → ℤ → ThreadsReply
detach ths target = record {
  reply = detach_reply (record_of ths target);
  threads = with_records ths (records_detached ths target (record_of ths target));
}

-- The record of a thread that has ended with this value.
abbrev pub as_ended : ℤ → Thread → Thread
as_ended value th = record th { ended = Some value }

-- The records with this one of an ended thread, or without it where it is marked detached.
abbrev pub records_ended : Threads → Tid → ℤ → Option Thread → Table Thread
records_ended ths t value None = ths.records
records_ended ths t value (Some th) = if th.detached then cut ths.records t.0 else put ths.records t.0 (as_ended value th)

-- A thread ends with a value, and its record is reclaimed where it is marked detached (docs/machine.md, "Thread records").
abbrev pub set_ended : Threads → Tid → ℤ → Threads
set_ended ths t value = with_records ths (records_ended ths t value (record_at ths t))
