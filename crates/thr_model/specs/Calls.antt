-- What each call of the thread service does to the state (docs/machine.md, "Calls").
use Rattle.std.specs.Prelude.{ℕ, ℤ, pos, List, [], ◌∷◌, map, Bool, true, false, if◌then◌else◌, Option, Some, None}
use Rattle.thr_values.specs.declared.number.NameId.{NameId}
use Rattle.thr_values.specs.declared.number.Tid.{Tid}
use Rattle.thr_values.specs.declared.reply.Effect.TheVariants as effect
use Rattle.thr_values.specs.declared.reply.Reply.{Reply}
use Rattle.thr_values.specs.declared.reply.Reply.TheVariants as reply
use Rattle.thr_syntax.specs.declared.dce.DceCall.{DceCall}
use Rattle.thr_syntax.specs.declared.dce.DceCall.TheVariants as dce
use Rattle.thr_syntax.specs.declared.tree.Script.{Script}
use Rattle.thr_remainder.specs.Starts.{fresh}
use Rattle.thr_parts.specs.declared.row.RowId.TheVariants as row
use Rattle.thr_parts.specs.Tables.{put_if, keep_if}
use Rattle.thr_parts.specs.Replies.{is_value, is_blocks}
use Rattle.thr_parts.specs.Rows.{Rows, thread}
use Rattle.thr_parts.specs.Moves.{make_ready, block_in, block_if, set_rank}
use Rattle.thr_parts.specs.Threads as threads
use Rattle.thr_parts.specs.Threads.{Threads, ThreadsReply, natural, rank_at}
use Rattle.thr_parts.specs.Scheduling.{getprio, getscheduler, setprio, setscheduler, attr_create, attr_delete, attr_setsched, attr_setprio, attr_setinherit, attr_setstack}
use Rattle.thr_parts.specs.Cancels.{setcancel, setasynccancel, waits_at_point}
use Rattle.thr_parts.specs.Cancels as cancels
use Rattle.thr_parts.specs.CancelledWaits.{Cancelled, cancel_wait}
use Rattle.thr_parts.specs.Mutexes.{LocksReply, mutexattr_create, mutexattr_delete, setkind, init, destroy}
use Rattle.thr_parts.specs.Locking.{Locked, Unlocked, Regained, lock, trylock, unlock, regain}
use Rattle.thr_parts.specs.Times.{expiration}
use Rattle.thr_parts.specs.Conditions.{CondsReply, Waited, Delayed, cond_init, cond_destroy, wait, timedwait, delay, waits_with}
use Rattle.thr_parts.specs.Waking.{Signalled, Notified, signal, broadcast}
use Rattle.thr_parts.specs.Keys.{OncesReply, keycreate, setspecific, getspecific}
use Rattle.thr_parts.specs.OnceBlocks.{Entered, enter}
use Rattle.thr_parts.specs.Pipes.{ReadReply, WriteReply, read, write}
use Rattle.thr_parts.specs.Closing.{Closed, close_out}
use Rattle.thr_model.specs.States.{State, Return, Delivery, rank_of, owes, owes_or_keeps, all_owe}

-- Threads that were given a mutex, or the global lock, in their order.
abbrev pub Gifts : Type 0
Gifts = List (Tid × Option NameId)

-- What a call replies, the state after it, the threads that it gave a mutex, and whether its caller is to run the routine of a
-- once block (docs/machine.md, "Calls").
pub record Answered : Type 0 where
  pub reply : Reply
  pub state : State
  pub gifts : Gifts
  pub runs : Bool

-- A reply with this state, and nothing given.
abbrev pub answers : Reply → State → Answered
answers y st = record { reply = y; state = st; gifts = []; runs = false }

-- ---- threads

-- A call on threads or attribute cells: its reply, and the records and cells after it (docs/machine.md, "Thread records").
abbrev pub on_threads : State → ThreadsReply → Answered
on_threads st o = answers o.reply (record st { threads = o.threads })

-- The rows where the new thread is ready, or where they stay as they are (docs/machine.md, "Rows").
abbrev pub ready_if : Bool → (Tid → ℕ) → Rows → Tid → Rows
ready_if true rank rs t = make_ready rank rs t
ready_if false rank rs t = rs

-- The new thread is ready at its routine (docs/machine.md, "Thread records").
abbrev pub creates : Script → State → NameId → ℤ → ThreadsReply → Answered
creates s st routine n o =
    let new : Tid = thread st.threads.next in answers o.reply (record st {
      threads = o.threads;
      remainders = put_if st.remainders st.threads.next (keep_if (is_value o.reply) (Some (fresh s routine n)));
      rows = ready_if (is_value o.reply) (rank_at o.threads) st.rows new;
    })

-- A caller whose reply is `blocks` waits for the end of the other thread.
abbrev pub joins : State → Tid → ℤ → Reply → Answered
joins st t target y =
    answers y (record st { rows = block_if (is_blocks y) st.rows (row.Join (thread (natural target))) t (rank_of st t) })

-- The rows where the thread has its new rank, or where they stay as they are (docs/machine.md, "Ranks and arrivals").
abbrev pub rank_if : Bool → Threads → Rows → Tid → Rows
rank_if true ths rs t = set_rank rs t (rank_at ths t)
rank_if false ths rs t = rs

-- A thread whose policy or priority has changed has its new rank at once (docs/machine.md, "Ranks and arrivals").
abbrev pub ranks : State → ℤ → ThreadsReply → Answered
ranks st target o = answers o.reply (record st {
  threads = o.threads;
  rows = rank_if (is_value o.reply) o.threads st.rows (thread (natural target));
})

-- ---- cancels

-- The thread leaves its wait and owes the delivery; out of a condition it is given its mutex first, or waits for it
-- (docs/machine.md, "Cancels").
abbrev pub wakes : State → Tid → ThreadsReply → Cancelled → Answered
wakes st target o c = record {
  reply = o.reply;
  state = record st {
    threads = o.threads;
    debts = owes st.debts Delivery target;
    rows = c.rows;
    locks = c.locks;
    conds = c.conds;
    pipes = c.pipes;
  };
  gifts = map (λ g. (g.0, Some g.1)) c.gifts;
  runs = false;
}

-- A cancel with this reply: `wakes` ends the thread's wait, any other reply leaves it (docs/machine.md, "Cancels").
abbrev pub cancelled : State → Tid → ThreadsReply → Reply → Answered
cancelled st target o (reply.Effect effect.Wakes) = wakes st target o (cancel_wait (rank_of st) st.conds st.pipes st.locks st.rows target)
cancelled st target o y = on_threads st o

-- A thread is cancelled (docs/machine.md, "Cancels").
abbrev pub cancels_thread : State → ℤ → Answered
cancels_thread st target =
    let who : Tid = thread (natural target) in
    let o : ThreadsReply = cancels.cancel st.threads target (waits_at_point st.rows who) in
    cancelled st who o o.reply

-- ---- mutexes and the global lock

-- A call on mutexes or their attribute cells: its reply, and both after it (docs/machine.md, "Mutexes").
abbrev pub on_locks : State → LocksReply → Answered
on_locks st o = answers o.reply (record st { locks = o.locks })

-- A lock of a mutex or of the global lock: its reply, and the locks and rows after it (docs/machine.md, "Mutexes").
abbrev pub locks_it : State → Locked → Answered
locks_it st o = answers o.reply (record st { locks = o.locks; rows = o.rows })

-- The thread that was given a mutex is ready, and owes `ok` unless it owes something already (docs/machine.md, "Mutexes").
abbrev pub given_state : State → Rows → Option Tid → State
given_state st rs None = record st { rows = rs }
given_state st rs (Some t) = record st { rows = make_ready (rank_of st) rs t; debts = owes_or_keeps st.debts (Return reply.Done) t }

-- The gift of this mutex, or of the global lock, where a thread was given it (docs/machine.md, "Mutexes").
abbrev pub gifts_of : Option Tid → Option NameId → Gifts
gifts_of None m = []
gifts_of (Some t) m = (t, m) ∷ []

-- The best waiter has the mutex that was given up (docs/machine.md, "Mutexes").
abbrev pub unlocks : State → Option NameId → Unlocked → Answered
unlocks st m o = record {
  reply = o.reply;
  state = given_state (record st { locks = o.locks }) o.rows o.given;
  gifts = gifts_of o.given m;
  runs = false;
}

-- ---- conditions and times

-- A condition is made, or isn't any more: the reply, and the conditions after it (docs/machine.md, "Conditions").
abbrev pub on_conds : State → CondsReply → Answered
on_conds st o = answers o.reply (record st { conds = o.conds })

-- A wait gives its mutex up, and the best waiter has it (docs/machine.md, "Conditions").
abbrev pub waits : State → NameId → Waited → Answered
waits st m o = record {
  reply = o.reply;
  state = given_state (record st { conds = o.conds; locks = o.locks }) o.rows o.given;
  gifts = gifts_of o.given (Some m);
  runs = false;
}

-- A delay: its reply, and the waits and rows after it (docs/machine.md, "Times").
abbrev pub delays : State → Delayed → Answered
delays st o = answers o.reply (record st { conds = o.conds; rows = o.rows })

-- The thread that left a condition owes `ok`, and is given its mutex or waits for it (docs/machine.md, "Conditions").
abbrev pub regains : Reply → State → Tid → NameId → Regained → Answered
regains y st t m o = record {
  reply = y;
  state = record st { locks = o.locks; rows = o.rows; debts = owes st.debts (Return reply.Done) t };
  gifts = if o.gets then (t, Some m) ∷ [] else [];
  runs = false;
}

-- A signal by which this waiter left the condition, or none (docs/machine.md, "Conditions").
abbrev pub signals_one : State → Signalled → Option (Tid × NameId) → Answered
signals_one st o None = answers o.reply (record st { conds = o.conds; rows = o.rows })
signals_one st o (Some w) = regains o.reply (record st { conds = o.conds }) w.0 w.1 (regain st.locks o.rows w.1 w.0 (rank_of st w.0))

-- A signal (docs/machine.md, "Conditions").
abbrev pub signals : State → Signalled → Answered
signals st o = signals_one st o o.waiter

-- A broadcast: each thread that left the condition owes `ok` (docs/machine.md, "Conditions").
abbrev pub notifies : State → Notified → Answered
notifies st o = record {
  reply = o.reply;
  state = record st {
    conds = o.woken.conds;
    locks = o.woken.locks;
    rows = o.woken.rows;
    debts = all_owe st.debts (Return reply.Done) (map (λ w. w.0) o.woken.woken);
  };
  gifts = map (λ g. (g.0, Some g.1)) o.woken.gifts;
  runs = false;
}

-- ---- once blocks and keys

-- A thread enters a once block (docs/machine.md, "Once blocks").
abbrev pub enters : State → Entered → Answered
enters st o = record { reply = o.reply; state = record st { onces = o.onces; rows = o.rows }; gifts = []; runs = o.runs }

-- A call that makes a key or sets a value of one: its reply, and the keys after it (docs/machine.md, "Keys").
abbrev pub on_onces : State → OncesReply → Answered
on_onces st o = answers o.reply (record st { onces = o.onces })

-- ---- pipes

-- The thread that is there is ready and owes this return.
abbrev pub woken_state : State → Rows → Reply → Option Tid → State
woken_state st rs y None = record st { rows = rs }
woken_state st rs y (Some t) = record st { rows = make_ready (rank_of st) rs t; debts = owes st.debts (Return y) t }

-- The writer whose item entered owes `ok` (docs/machine.md, "Pipes").
abbrev pub reads : State → ReadReply → Answered
reads st o = answers o.reply (woken_state (record st { pipes = o.pipes }) o.rows reply.Done o.relieved)

-- The reader that was given the item owes it (docs/machine.md, "Pipes").
abbrev pub writes : State → ℤ → WriteReply → Answered
writes st n o = answers o.reply (woken_state (record st { pipes = o.pipes }) o.rows (reply.Value n) o.reader)

-- The readers that waited owe `eof`, and the writers EPIPE (docs/machine.md, "Pipes").
abbrev pub closes : State → Closed → Answered
closes st o = answers o.reply (record st {
  pipes = o.pipes;
  rows = o.rows;
  debts = all_owe (all_owe st.debts (Return reply.Eof) o.readers) (Return reply.Epipe) o.writers;
})

-- ---- the calls

-- The value of the first expression of a call, or 0 where it has none (docs/machine.md, "Calls").
abbrev pub first : List ℤ → ℤ
first [] = pos 0
first (n ∷ ns) = n

-- The value of the second expression of a call, or 0 where it has none (docs/machine.md, "Calls").
abbrev pub second : List ℤ → ℤ
second [] = pos 0
second (n ∷ ns) = first ns

-- What a call by this thread does, where its expressions have these values (docs/machine.md, "Calls").
unfoldable pub answered : Script → State → Tid → DceCall → List ℤ → Answered
answered s st t (dce.AttrCreate a) ns = on_threads st (attr_create st.threads a)
answered s st t (dce.AttrDelete a) ns = on_threads st (attr_delete st.threads a)
answered s st t (dce.AttrSetsched a policy) ns = on_threads st (attr_setsched st.threads a policy)
answered s st t (dce.AttrSetprio a e) ns = on_threads st (attr_setprio st.threads a (first ns))
answered s st t (dce.AttrSetinheritsched a inherits) ns = on_threads st (attr_setinherit st.threads a inherits)
answered s st t (dce.AttrSetstacksize a e) ns = on_threads st (attr_setstack st.threads a (first ns))
answered s st t (dce.Create v a routine e) ns = creates s st routine (first ns) (threads.create st.threads t a)
answered s st t (dce.Join e v) ns = joins st t (first ns) (threads.join st.threads t (first ns))
answered s st t (dce.Detach e) ns = on_threads st (threads.detach st.threads (first ns))
answered s st t dce.Yield ns = answers reply.Done (record st { rows = block_in st.rows row.Ready t (rank_of st t) })
answered s st t (dce.Cancel e) ns = cancels_thread st (first ns)
answered s st t dce.Testcancel ns = answers reply.Done st
answered s st t (dce.Setcancel on v) ns = on_threads st (setcancel st.threads t on)
answered s st t (dce.Setasynccancel on v) ns = on_threads st (setasynccancel st.threads t on)
answered s st t (dce.Setprio e f v) ns = ranks st (first ns) (setprio st.threads (first ns) (second ns))
answered s st t (dce.Getprio e v) ns = answers (getprio st.threads (first ns)) st
answered s st t (dce.Setscheduler e policy f v) ns = ranks st (first ns) (setscheduler st.threads (first ns) policy (second ns))
answered s st t (dce.Getscheduler e v) ns = answers (getscheduler st.threads (first ns)) st
answered s st t (dce.DelayNp e) ns = delays st (delay st.conds st.rows (first ns) st.clock t (rank_of st t))
answered s st t (dce.GetExpirationNp e v) ns = answers (expiration (first ns) st.clock) st
answered s st t (dce.MutexattrCreate a) ns = on_locks st (mutexattr_create st.locks a)
answered s st t (dce.MutexattrSetkindNp a kind) ns = on_locks st (setkind st.locks a kind)
answered s st t (dce.MutexattrDelete a) ns = on_locks st (mutexattr_delete st.locks a)
answered s st t (dce.MutexInit m a) ns = on_locks st (init st.locks m a)
answered s st t (dce.MutexDestroy m) ns = on_locks st (destroy st.locks st.rows m (waits_with st.conds m))
answered s st t (dce.MutexLock m) ns = locks_it st (lock st.locks st.rows (Some m) t (rank_of st t))
answered s st t (dce.MutexTrylock m v) ns = on_locks st (trylock st.locks m t)
answered s st t (dce.MutexUnlock m) ns = unlocks st (Some m) (unlock st.locks st.rows (Some m) t)
answered s st t dce.LockGlobalNp ns = locks_it st (lock st.locks st.rows None t (rank_of st t))
answered s st t dce.UnlockGlobalNp ns = unlocks st None (unlock st.locks st.rows None t)
answered s st t (dce.CondInit c) ns = on_conds st (cond_init st.conds c)
answered s st t (dce.CondDestroy c) ns = on_conds st (cond_destroy st.conds c)
answered s st t (dce.CondWait c m) ns = waits st m (wait st.conds st.locks st.rows c m t (rank_of st t))
answered s st t (dce.CondTimedwait c m e) ns = waits st m (timedwait st.conds st.locks st.rows c m (first ns) st.clock t (rank_of st t))
answered s st t (dce.CondSignal c) ns = signals st (signal st.conds st.rows c)
answered s st t (dce.CondBroadcast c) ns = notifies st (broadcast (rank_of st) st.conds st.locks st.rows c)
answered s st t (dce.Once o routine) ns = enters st (enter st.onces st.rows o t (rank_of st t))
answered s st t (dce.Keycreate k destructor) ns = on_onces st (keycreate st.onces k destructor)
answered s st t (dce.Setspecific k e) ns = on_onces st (setspecific st.onces k t (first ns))
answered s st t (dce.Getspecific k v) ns = answers (getspecific st.onces k t) st
answered s st t (dce.Read p v w) ns = reads st (read st.pipes st.rows p t (rank_of st t))
answered s st t (dce.Write p e) ns = writes st (first ns) (write st.pipes st.rows p (first ns) t (rank_of st t))
answered s st t (dce.Close p) ns = closes st (close_out (rank_of st) st.pipes st.rows p)
