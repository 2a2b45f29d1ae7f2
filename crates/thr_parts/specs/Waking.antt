-- Waits on conditions and for times that end (docs/machine.md, "Waits that end").
use Rattle.std.specs.Prelude.{ℕ, Bool, true, false, if◌then◌else◌, is_some, List, [], ◌∷◌, ◌++◌, Option, Some, None}
use Rattle.std.specs.Option.{option_map, option_and_then}
use Rattle.thr_values.specs.declared.number.Tid.{Tid}
use Rattle.thr_values.specs.declared.number.NameId.{NameId}
use Rattle.thr_values.specs.declared.reply.Reply.{Reply}
use Rattle.thr_parts.specs.declared.row.RowId.TheVariants as row
use Rattle.thr_parts.specs.declared.wait.Wait.{Wait}
use Rattle.thr_parts.specs.Tables.{Table, has, cut, keep_if}
use Rattle.thr_parts.specs.Replies.{made_reply}
use Rattle.thr_parts.specs.Rows.{Rows, best, best_first}
use Rattle.thr_parts.specs.Moves.{take_out_if, make_ready}
use Rattle.thr_parts.specs.Mutexes.{Locks}
use Rattle.thr_parts.specs.Locking.{Regained, regain}
use Rattle.thr_parts.specs.Conditions.{Conds, wait_of, mutex_of}

-- ---- one thread leaves its wait

-- The waits without that of the thread that is there.
abbrev pub waits_without : Table Wait → Option Tid → Table Wait
waits_without waits None = waits
waits_without waits (Some t) = cut waits t.0

-- The conditions without the wait of the thread that is there.
abbrev pub without_wait : Conds → Option Tid → Conds
without_wait cs t = record { made = cs.made; waits = waits_without cs.waits t }

-- The thread, or none.
abbrev pub some_if : Bool → Tid → Option Tid
some_if b t = keep_if b (Some t)

-- Conditions and rows after a thread was to leave its wait. Where it had one, the mutex is told with which it waited on a
-- condition (docs/machine.md, "Waits that end").
pub record LeftWait : Type 0 where
  pub conds : Conds
  pub rows : Rows
  pub left : Option (Option NameId)

-- The thread leaves its wait on a condition or for a time; where it has none nothing changes (docs/machine.md, "Waits that
-- end").
abbrev pub pull_out : Conds → Rows → Tid → LeftWait
pull_out cs rs t = record {
  conds = without_wait cs (some_if (is_some (wait_of cs t)) t);
  rows = take_out_if rs (some_if (is_some (wait_of cs t)) t);
  left = option_map mutex_of (wait_of cs t);
}

-- The mutex with which a thread waits on a condition.
abbrev pub mutex_with : Conds → Tid → Option NameId
mutex_with cs t = option_and_then mutex_of (wait_of cs t)

-- A thread that waits on a condition, with its mutex.
abbrev pub beside_mutex : Conds → Tid → Option (Tid × NameId)
beside_mutex cs t = option_map (λ m. (t, m)) (mutex_with cs t)

-- A thread, with the mutex with which it waits on a condition.
abbrev pub beside_wait : Conds → Tid → Tid × Option NameId
beside_wait cs t = (t, mutex_with cs t)

-- The thread of a pair that is there.
abbrev pub thread_in : {A : Type 0} → Option (Tid × A) → Option Tid
thread_in o = option_map (λ p. p.0) o

-- The best thread that waits on a condition, with its mutex.
abbrev pub next_waiter : Conds → Rows → NameId → Option (Tid × NameId)
next_waiter cs rs c = option_and_then (beside_mutex cs) (best rs (row.Cond c))

-- Conditions and rows after the best waiter was to leave a condition, and that waiter with its mutex (docs/machine.md, "Waits
-- that end").
pub record TakenNext : Type 0 where
  pub conds : Conds
  pub rows : Rows
  pub waiter : Option (Tid × NameId)

-- The best waiter leaves the condition, as each does in turn at a broadcast (docs/machine.md, "Waits that end").
abbrev pub take_next : Conds → Rows → NameId → TakenNext
take_next cs rs c =
    let next : Option (Tid × NameId) = next_waiter cs rs c in record {
      conds = without_wait cs (thread_in next);
      rows = take_out_if rs (thread_in next);
      waiter = next;
    }

-- The same with a reply (docs/machine.md, "Waits that end").
pub record Signalled : Type 0 where
  pub reply : Reply
  pub conds : Conds
  pub rows : Rows
  pub waiter : Option (Tid × NameId)

-- A signal: the best waiter leaves the condition (docs/machine.md, "Waits that end").
abbrev pub signal : Conds → Rows → NameId → Signalled
signal cs rs c =
    let next : Option (Tid × NameId) = keep_if (has cs.made c.0) (next_waiter cs rs c) in record {
      reply = made_reply (has cs.made c.0);
      conds = without_wait cs (thread_in next);
      rows = take_out_if rs (thread_in next);
      waiter = next;
    }

-- ---- several threads leave their waits

-- Conditions, locks and rows after threads have left their waits; these threads in their order, each with its mutex if it
-- waited on a condition; and those that got their mutex at once, in the same order (docs/machine.md, "Waits that end").
pub record Woken : Type 0 where
  pub conds : Conds
  pub locks : Locks
  pub rows : Rows
  pub woken : List (Tid × Option NameId)
  pub gifts : List (Tid × NameId)

-- A thread that left a wait is ready; one that waited on a condition gets its mutex first or waits for it (docs/machine.md,
-- "Waits that end").
abbrev pub resume : (Tid → ℕ) → Locks → Rows → Tid → Option NameId → Regained
resume rank ls rs t None = record { locks = ls; rows = make_ready rank rs t; gets = false }
resume rank ls rs t (Some m) = regain ls rs m t (rank t)

-- The gift of the mutex that is there, if the thread got it.
abbrev pub gift_of : Tid → Option NameId → Bool → List (Tid × NameId)
gift_of t (Some m) true = (t, m) ∷ []
gift_of t _ _ = []

-- What was woken after a thread that was woken first.
abbrev pub woken_first : Tid → Option NameId → Bool → Woken → Woken
woken_first t m gets rest = record {
  conds = rest.conds;
  locks = rest.locks;
  rows = rest.rows;
  woken = (t, m) ∷ rest.woken;
  gifts = gift_of t m gets ++ rest.gifts;
}

-- These threads leave their waits one after the other.
unfoldable pub wake_all : (Tid → ℕ) → Conds → Locks → Rows → List Tid → Woken
wake_all rank cs ls rs [] = record { conds = cs; locks = ls; rows = rs; woken = []; gifts = [] }
wake_all rank cs ls rs (t ∷ ts) =
    let left : LeftWait = pull_out cs rs t in
    let o : Regained = resume rank ls left.rows t (mutex_with cs t) in
    woken_first t (mutex_with cs t) o.gets (wake_all rank left.conds o.locks o.rows ts)

-- One thread leaves its wait, and after it those that the conditions and rows tell then.
abbrev pub wake_then : (Tid → ℕ) → Conds → Locks → Rows → Tid → (Conds → Rows → List Tid) → Woken
wake_then rank cs ls rs t others =
    let left : LeftWait = pull_out cs rs t in
    let o : Regained = resume rank ls left.rows t (mutex_with cs t) in
    woken_first t (mutex_with cs t) o.gets (wake_all rank left.conds o.locks o.rows (others left.conds o.rows))

-- A reply, and what was woken (docs/machine.md, "Waits that end").
pub record Notified : Type 0 where
  pub reply : Reply
  pub woken : Woken

-- A broadcast: every thread that waits on the condition leaves it, the best first (docs/machine.md, "Waits that end").
abbrev pub broadcast : (Tid → ℕ) → Conds → Locks → Rows → NameId → Notified
broadcast rank cs ls rs c = record {
  reply = made_reply (has cs.made c.0);
  woken = wake_all rank cs ls rs (if has cs.made c.0 then best_first rs (row.Cond c) else []);
}
