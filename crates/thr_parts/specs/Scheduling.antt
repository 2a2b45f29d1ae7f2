-- Policies and priorities of threads, and attribute cells (docs/machine.md, "Thread records" and "Attribute cells").
use Rattle.std.specs.Prelude.{ℕ, nat_le, Bool, true, false, not, ◌&&◌, ℤ, pos, negsuc, Option, Some, None}
use Rattle.std.specs.Option.{option_map}
use Rattle.thr_values.specs.declared.number.NameId.{NameId}
use Rattle.thr_values.specs.declared.reply.Reply.{Reply}
use Rattle.thr_values.specs.declared.reply.Reply.TheVariants as reply
use Rattle.thr_values.specs.declared.scheduling.Policy.{Policy}
use Rattle.thr_values.specs.declared.scheduling.Policy.TheVariants as policy
use Rattle.thr_parts.specs.declared.thread.Attr.{Attr}
use Rattle.thr_parts.specs.declared.thread.Thread.{Thread}
use Rattle.thr_parts.specs.Tables.{get, has, put_if, cut_if, keep_if}
use Rattle.thr_parts.specs.Replies.{making_reply, made_reply}
use Rattle.thr_parts.specs.Threads.{Threads, ThreadsReply, new_attr, natural, record_of, with_records, with_attrs}

-- The number of a policy (docs/machine.md, "Thread records").
abbrev pub policy_number : Policy → ℤ
policy_number policy.Fifo = pos 0
policy_number policy.Rr = pos 1
policy_number policy.Fg = pos 2
policy_number policy.Bg = pos 3

-- The number lies from low to high.
abbrev pub is_within : ℕ → ℕ → ℤ → Bool
is_within low high (pos n) = nat_le low n && nat_le n high
is_within low high (negsuc n) = false

-- The number can be a priority (docs/machine.md, "Ranks and arrivals").
abbrev pub is_prio : ℤ → Bool
is_prio = is_within 0 31

-- The number can be a stack size (docs/machine.md, "Attribute cells").
abbrev pub is_stack_size : ℤ → Bool
is_stack_size = is_within 16 1024

-- ---- threads

-- What asking for the priority replies.
abbrev pub prio_reply : Option Thread → Reply
prio_reply None = reply.Esrch
prio_reply (Some th) = reply.Value (pos th.prio)

-- The priority of the thread that a number names (docs/machine.md, "Thread records").
abbrev pub getprio : Threads → ℤ → Reply
getprio ths target = prio_reply (record_of ths target)

-- What asking for the policy replies.
abbrev pub policy_reply : Option Thread → Reply
policy_reply None = reply.Esrch
policy_reply (Some th) = reply.Value (policy_number th.policy)

-- The policy of the thread that a number names (docs/machine.md, "Thread records").
abbrev pub getscheduler : Threads → ℤ → Reply
getscheduler ths target = policy_reply (record_of ths target)

-- What a change of this thread replies, to a priority that is right or isn't: the old value where it is made.
abbrev pub set_reply : Option Thread → Bool → Reply → Reply
set_reply None is_right old = reply.Esrch
set_reply (Some th) false old = reply.Einval
set_reply (Some th) true old = old

-- The record of the thread that a number names is changed, where there is one and the priority is right.
abbrev pub change_record : Threads → ℤ → Bool → Reply → (Thread → Thread) → ThreadsReply
change_record ths target is_right old change =
    let changed : Option Thread = option_map change (record_of ths target) in record {
      reply = set_reply (record_of ths target) is_right old;
      threads = with_records ths (put_if ths.records (natural target) (keep_if is_right changed));
    }

-- The record with this priority.
abbrev pub with_prio : ℤ → Thread → Thread
with_prio prio th = record th { prio = natural prio }

-- The thread that a number names gets a priority; the old one is replied (docs/machine.md, "Thread records").
abbrev pub setprio : Threads → ℤ → ℤ → ThreadsReply
setprio ths target prio = change_record ths target (is_prio prio) (getprio ths target) (with_prio prio)

-- The record with this policy and priority.
abbrev pub with_policy : Policy → ℤ → Thread → Thread
with_policy p prio th = record th { policy = p; prio = natural prio }

-- The thread that a number names gets a policy and a priority; the old policy is replied (docs/machine.md, "Thread records").
abbrev pub setscheduler : Threads → ℤ → Policy → ℤ → ThreadsReply
setscheduler ths target p prio = change_record ths target (is_prio prio) (getscheduler ths target) (with_policy p prio)

-- ---- attribute cells

-- A cell is made (docs/machine.md, "Attribute cells").
abbrev pub attr_create : Threads → NameId → ThreadsReply
attr_create ths a = record {
  reply = making_reply (has ths.attrs a.0);
  threads = with_attrs ths (put_if ths.attrs a.0 (keep_if (not (has ths.attrs a.0)) (Some new_attr)));
}

-- A cell is not made any more (docs/machine.md, "Attribute cells").
abbrev pub attr_delete : Threads → NameId → ThreadsReply
attr_delete ths a = record {
  reply = made_reply (has ths.attrs a.0);
  threads = with_attrs ths (cut_if (has ths.attrs a.0) ths.attrs a.0);
}

-- A cell is changed, where it is made and the value is right.
abbrev pub change_attr : Threads → NameId → Bool → (Attr → Attr) → ThreadsReply
change_attr ths a is_right change = record {
  reply = made_reply (has ths.attrs a.0 && is_right);
  threads = with_attrs ths (put_if ths.attrs a.0 (keep_if is_right (option_map change (get ths.attrs a.0))));
}

-- A cell gets a policy (docs/machine.md, "Attribute cells").
abbrev pub attr_setsched : Threads → NameId → Policy → ThreadsReply
attr_setsched ths a p = change_attr ths a true (λ c. record c { policy = p })

-- A cell gets a priority (docs/machine.md, "Attribute cells").
abbrev pub attr_setprio : Threads → NameId → ℤ → ThreadsReply
attr_setprio ths a prio = change_attr ths a (is_prio prio) (λ c. record c { prio = natural prio })

-- A cell says whether a thread has its maker's policy and priority (docs/machine.md, "Attribute cells").
abbrev pub attr_setinherit : Threads → NameId → Bool → ThreadsReply
attr_setinherit ths a inherits = change_attr ths a true (λ c. record c { inherits = inherits })

-- A cell gets a stack size (docs/machine.md, "Attribute cells").
abbrev pub attr_setstack : Threads → NameId → ℤ → ThreadsReply
attr_setstack ths a frames = change_attr ths a (is_stack_size frames) (λ c. record c { frames = natural frames })
