-- In every history the numbers of the state's tables are in order.
use Rattle.std.proofs.Common.{◌≡◌, ℕ, ℤ, Bool, true, false, List, [], ◌∷◌, map, Option, Some, None, Ok, Err, ap, subst}
use Rattle.std.specs.Prelude.{if◌then◌else◌, nat_lt}
use Rattle.std.specs.Option.{option_map, unwrap_or}
use Rattle.thr_values.specs.declared.number.NameId.{NameId}
use Rattle.thr_values.specs.declared.number.Tid.{Tid}
use Rattle.thr_values.specs.declared.event.Event.{Event}
use Rattle.thr_values.specs.declared.event.Event.TheVariants as event
use Rattle.thr_values.specs.declared.reply.Effect.TheVariants as effect
use Rattle.thr_values.specs.declared.reply.Reply.{Reply}
use Rattle.thr_values.specs.declared.reply.Reply.TheVariants as reply
use Rattle.thr_syntax.specs.declared.dce.DceCall.{DceCall}
use Rattle.thr_syntax.specs.declared.dce.DceCall.TheVariants as dce
use Rattle.thr_syntax.specs.declared.tree.Item.{Item}
use Rattle.thr_syntax.specs.declared.tree.Item.TheVariants as item
use Rattle.thr_syntax.specs.declared.tree.Script.{Script}
use Rattle.thr_remainder.specs.Acts.{Act, Asks}
use Rattle.thr_remainder.specs.Remainders.{Setting, Remainder, act_at}
use Rattle.thr_remainder.specs.Steps.{written}
use Rattle.thr_remainder.specs.Replies.{Values, asked}
use Rattle.thr_remainder.specs.Runs.{Halt, Delivers, Shares, Undoes, Completes, Ends, Pauses, Run, run_of, most_steps}
use Rattle.thr_parts.specs.declared.row.RowId.TheVariants as row
use Rattle.thr_parts.specs.Tables.{Table, none, get, put, IsCanonical}
use Rattle.thr_parts.specs.Rows.{Rows, thread}
use Rattle.thr_parts.specs.Moves.{Freed, free_row}
use Rattle.thr_parts.specs.Dispatch.{Dispatched, running, some_can_run, dispatch}
use Rattle.thr_parts.specs.Threads as threads
use Rattle.thr_parts.specs.Threads.{Threads, ThreadsReply, natural, record_at}
use Rattle.thr_parts.specs.Cancels.{waits_at_point, mode_at}
use Rattle.thr_parts.specs.Cancels as cancels
use Rattle.thr_parts.specs.Mutexes.{Locks}
use Rattle.thr_parts.specs.Conditions.{Conds}
use Rattle.thr_parts.specs.Locking.{unlock}
use Rattle.thr_parts.specs.Conditions.{Waited, wait, timedwait, waits_with}
use Rattle.thr_parts.specs.Waking.{Signalled, mutex_with, signal, broadcast}
use Rattle.thr_parts.specs.Expiry.{earliest, due_first, expire_all}
use Rattle.thr_parts.specs.Keys.{Onces, DestructorCall, NextDestructor, next_destructor}
use Rattle.thr_parts.specs.OnceBlocks as once
use Rattle.thr_parts.specs.Pipes.{Pipes, read, write}
use Rattle.thr_parts.specs.Closing.{Closed, close_out}
use Rattle.thr_parts.proofs.EachLaws.{each_none}
use Rattle.thr_parts.proofs.TableLaws.{canonical_none, canonical_put, canonical_cut, canonical_put_if}
use Rattle.thr_model.specs.States.{State, Debt, Return, Delivery, Running, rank_of, remainder_of, with_remainder, setting_of, debt_of, owes, owes_more, all_owe, shared_values, with_writes, declared_values, opening}
use Rattle.thr_model.specs.Calls.{Answered, answered, cancelled, given_state, signals_one, woken_state, first}
use Rattle.thr_model.specs.Turns.{Made, with_stores, stores_of, called, written_to, shared_made, handed_on, end_made, debt_made, halt_made, turn_by, kept, turn_of}
use Rattle.thr_model.specs.Events.{dispatch_made, due_debt, due_owe, clock_to, clock_of, made_by}
use Rattle.thr_model.specs.Histories.{Execution, History, opened, then_event}
use Rattle.thr_model.specs.Canonical.{IsCanonicalState}
use Rattle.thr_model.proofs.RowsKept.{history_canonical}
use Rattle.thr_model.proofs.PartTables.{AreThreads, first_are, attr_create_are, attr_delete_are, put_attrs, create_are, detach_are, set_ended_are, put_records, set_mode_are, cancel_are, AreLocks, mutexattr_create_are, mutexattr_delete_are, setkind_are, init_are, destroy_are, with_mutex_are, lock_are, unlock_are, resume_are, wake_all_locks, AreConds, cond_init_are, cond_destroy_are, waits_are, without_wait_are, wake_all_conds, IsValued, AreOnces, keycreate_are, setspecific_are, next_destructor_are, enter_are, done_are, undone_are, ArePipes, first_pipes_are, read_are, write_are, close_are, pull_out_are}

-- ---- tables of the state itself

all_owe_is : (debts : Table Debt) (d : Debt) (ts : List Tid) → IsCanonical debts → IsCanonical (all_owe debts d ts)
all_owe_is debts d [] h = h
all_owe_is debts d (t ∷ ts) h = all_owe_is (owes debts d t) d ts (canonical_put debts t.0 d h)

owes_more_is : (debts : Table Debt) (earlier : Option Debt) (d : Debt) (t : Tid) → IsCanonical debts → IsCanonical (owes_more debts earlier d t)
owes_more_is debts None d t h = canonical_put debts t.0 d h
owes_more_is debts (Some earlier) d t h = h

due_owe_is : (debts : Table Debt) (ws : List (Tid × Option NameId)) → IsCanonical debts → IsCanonical (due_owe debts ws)
due_owe_is debts [] h = h
due_owe_is debts (w ∷ ws) h = due_owe_is (owes debts (due_debt w.1) w.0) ws (canonical_put debts w.0.0 (due_debt w.1) h)

writes_is : (shared : Table ℤ) (ws : List (NameId × ℤ)) → IsCanonical shared → IsCanonical (with_writes shared ws)
writes_is shared [] h = h
writes_is shared (w ∷ ws) h = writes_is (put shared w.0.0 w.1) ws (canonical_put shared w.0.0 w.1 h)

declared_is : (items : List Item) → IsCanonical (declared_values items)
unfolding declared_values
declared_is [] = canonical_none ℤ
declared_is (item.Shared name n ∷ items) = canonical_put (declared_values items) name.0 n (declared_is items)
declared_is (_ ∷ items) = declared_is items

-- ---- the state but for its rows

-- The numbers of all tables but the seats are in order.
record AreTables (st : State) : Type 0 where
  threads : AreThreads st.threads
  remainders : IsCanonical st.remainders
  debts : IsCanonical st.debts
  locks : AreLocks st.locks
  conds : AreConds st.conds
  onces : AreOnces st.onces
  pipes : ArePipes st.pipes
  shared : IsCanonical st.shared

with_threads : (st : State) (x : Threads) → AreTables st → AreThreads x → AreTables (record st { threads = x })
with_threads st x h i = record { threads = i; remainders = h.remainders; debts = h.debts; locks = h.locks; conds = h.conds; onces = h.onces; pipes = h.pipes; shared = h.shared }

with_remainders : (st : State) (x : Table Remainder) → AreTables st → IsCanonical x → AreTables (record st { remainders = x })
with_remainders st x h i = record { threads = h.threads; remainders = i; debts = h.debts; locks = h.locks; conds = h.conds; onces = h.onces; pipes = h.pipes; shared = h.shared }

with_debts : (st : State) (x : Table Debt) → AreTables st → IsCanonical x → AreTables (record st { debts = x })
with_debts st x h i = record { threads = h.threads; remainders = h.remainders; debts = i; locks = h.locks; conds = h.conds; onces = h.onces; pipes = h.pipes; shared = h.shared }

with_rows : (st : State) (x : Rows) → AreTables st → AreTables (record st { rows = x })
with_rows st x h = record { threads = h.threads; remainders = h.remainders; debts = h.debts; locks = h.locks; conds = h.conds; onces = h.onces; pipes = h.pipes; shared = h.shared }

with_locks : (st : State) (x : Locks) → AreTables st → AreLocks x → AreTables (record st { locks = x })
with_locks st x h i = record { threads = h.threads; remainders = h.remainders; debts = h.debts; locks = i; conds = h.conds; onces = h.onces; pipes = h.pipes; shared = h.shared }

with_conds : (st : State) (x : Conds) → AreTables st → AreConds x → AreTables (record st { conds = x })
with_conds st x h i = record { threads = h.threads; remainders = h.remainders; debts = h.debts; locks = h.locks; conds = i; onces = h.onces; pipes = h.pipes; shared = h.shared }

with_onces : (st : State) (x : Onces) → AreTables st → AreOnces x → AreTables (record st { onces = x })
with_onces st x h i = record { threads = h.threads; remainders = h.remainders; debts = h.debts; locks = h.locks; conds = h.conds; onces = i; pipes = h.pipes; shared = h.shared }

with_pipes : (st : State) (x : Pipes) → AreTables st → ArePipes x → AreTables (record st { pipes = x })
with_pipes st x h i = record { threads = h.threads; remainders = h.remainders; debts = h.debts; locks = h.locks; conds = h.conds; onces = h.onces; pipes = i; shared = h.shared }

with_shared : (st : State) (x : Table ℤ) → AreTables st → IsCanonical x → AreTables (record st { shared = x })
with_shared st x h i = record { threads = h.threads; remainders = h.remainders; debts = h.debts; locks = h.locks; conds = h.conds; onces = h.onces; pipes = h.pipes; shared = i }

-- ---- calls

cancelled_are : (st : State) (target : Tid) (o : ThreadsReply) (y : Reply) → AreTables st → AreThreads o.threads → AreTables (cancelled st target o y).state
cancelled_are st target o (reply.Effect effect.Wakes) h i = record {
  threads = i;
  remainders = h.remainders;
  debts = canonical_put st.debts target.0 Delivery h.debts;
  locks = resume_are (rank_of st) st.locks _ target (mutex_with st.conds target) h.locks;
  conds = without_wait_are st.conds _ h.conds;
  onces = h.onces;
  pipes = pull_out_are st.pipes st.rows target h.pipes;
  shared = h.shared;
}
cancelled_are st target o (reply.Effect _) h i = with_threads st o.threads h i
cancelled_are st target o _ h i = with_threads st o.threads h i

given_are : (st : State) (rs : Rows) (o : Option Tid) → AreTables st → AreTables (given_state st rs o)
given_are st rs None h = with_rows st rs h
given_are st rs (Some t) h = with_debts (record st { rows = _ }) _ (with_rows st _ h) (owes_more_is st.debts (get st.debts t.0) (Return reply.Done) t h.debts)

signals_are : (st : State) (o : Signalled) (w : Option (Tid × NameId)) → AreTables st → AreConds o.conds → AreTables (signals_one st o w).state
signals_are st o None h i = with_rows (record st { conds = o.conds }) o.rows (with_conds st o.conds h i)
signals_are st o (Some w) h i = record {
  threads = h.threads;
  remainders = h.remainders;
  debts = canonical_put st.debts w.0.0 (Return reply.Done) h.debts;
  locks = with_mutex_are st.locks (Some w.1) _ h.locks;
  conds = i;
  onces = h.onces;
  pipes = h.pipes;
  shared = h.shared;
}

woken_are : (st : State) (rs : Rows) (y : Reply) (o : Option Tid) → AreTables st → AreTables (woken_state st rs y o)
woken_are st rs y None h = with_rows st rs h
woken_are st rs y (Some t) h = with_debts (record st { rows = _ }) _ (with_rows st _ h) (canonical_put st.debts t.0 (Return y) h.debts)

-- The state after a wait that began, or didn't.
waited_are : (st : State) (o : Waited) → AreTables st → AreConds o.conds → AreLocks o.locks → AreTables (given_state (record st { conds = o.conds; locks = o.locks }) o.rows o.given)
waited_are st o h i j = given_are (record st { conds = o.conds; locks = o.locks }) o.rows o.given (with_locks (record st { conds = o.conds }) o.locks (with_conds st o.conds h i) j)

closed_are : (st : State) (o : Closed) → AreTables st → ArePipes o.pipes
    → AreTables (record st { pipes = o.pipes; rows = o.rows; debts = all_owe (all_owe st.debts (Return reply.Eof) o.readers) (Return reply.Epipe) o.writers })
closed_are st o h i =
    with_debts (record st { pipes = o.pipes; rows = o.rows }) _ (with_rows (record st { pipes = o.pipes }) o.rows (with_pipes st o.pipes h i))
    (all_owe_is _ (Return reply.Epipe) o.writers (all_owe_is st.debts (Return reply.Eof) o.readers h.debts))

answered_are : (s : Script) (st : State) (t : Tid) (call : DceCall) (ns : List ℤ) → AreTables st → AreTables (answered s st t call ns).state
unfolding answered
answered_are s st t (dce.AttrCreate a) ns h = with_threads st _ h (attr_create_are st.threads a h.threads)
answered_are s st t (dce.AttrDelete a) ns h = with_threads st _ h (attr_delete_are st.threads a h.threads)
answered_are s st t (dce.AttrSetsched a policy) ns h = with_threads st _ h (put_attrs st.threads a.0 _ h.threads)
answered_are s st t (dce.AttrSetprio a e) ns h = with_threads st _ h (put_attrs st.threads a.0 _ h.threads)
answered_are s st t (dce.AttrSetinheritsched a inherits) ns h = with_threads st _ h (put_attrs st.threads a.0 _ h.threads)
answered_are s st t (dce.AttrSetstacksize a e) ns h = with_threads st _ h (put_attrs st.threads a.0 _ h.threads)
answered_are s st t (dce.Create v a routine e) ns h =
    let o : ThreadsReply = threads.create st.threads t a in
    with_rows (record st { threads = o.threads; remainders = _ }) _
    (with_remainders (record st { threads = o.threads }) _ (with_threads st o.threads h (create_are st.threads t a h.threads)) (canonical_put_if st.remainders st.threads.next _ h.remainders))
answered_are s st t (dce.Join e v) ns h = with_rows st _ h
answered_are s st t (dce.Detach e) ns h = with_threads st _ h (detach_are st.threads (first ns) h.threads)
answered_are s st t dce.Yield ns h = with_rows st _ h
answered_are s st t (dce.Cancel e) ns h =
    let who : Tid = thread (natural (first ns)) in
    let o : ThreadsReply = cancels.cancel st.threads (first ns) (waits_at_point st.rows who) in cancelled_are st who o o.reply h (cancel_are st.threads (first ns) (waits_at_point st.rows who) h.threads)
answered_are s st t dce.Testcancel ns h = h
answered_are s st t (dce.Setcancel on v) ns h = with_threads st _ h (set_mode_are st.threads t _ h.threads)
answered_are s st t (dce.Setasynccancel on v) ns h = with_threads st _ h (set_mode_are st.threads t _ h.threads)
answered_are s st t (dce.Setprio e f v) ns h = with_rows (record st { threads = _ }) _ (with_threads st _ h (put_records st.threads (natural (first ns)) _ h.threads))
answered_are s st t (dce.Getprio e v) ns h = h
answered_are s st t (dce.Setscheduler e policy f v) ns h = with_rows (record st { threads = _ }) _ (with_threads st _ h (put_records st.threads (natural (first ns)) _ h.threads))
answered_are s st t (dce.Getscheduler e v) ns h = h
answered_are s st t (dce.DelayNp e) ns h = with_rows (record st { conds = _ }) _ (with_conds st _ h (waits_are st.conds t.0 _ h.conds))
answered_are s st t (dce.GetExpirationNp e v) ns h = h
answered_are s st t (dce.MutexattrCreate a) ns h = with_locks st _ h (mutexattr_create_are st.locks a h.locks)
answered_are s st t (dce.MutexattrSetkindNp a kind) ns h = with_locks st _ h (setkind_are st.locks a kind h.locks)
answered_are s st t (dce.MutexattrDelete a) ns h = with_locks st _ h (mutexattr_delete_are st.locks a h.locks)
answered_are s st t (dce.MutexInit m a) ns h = with_locks st _ h (init_are st.locks m a h.locks)
answered_are s st t (dce.MutexDestroy m) ns h = with_locks st _ h (destroy_are st.locks st.rows m (waits_with st.conds m) h.locks)
answered_are s st t (dce.MutexLock m) ns h = with_rows (record st { locks = _ }) _ (with_locks st _ h (lock_are st.locks st.rows (Some m) t (rank_of st t) h.locks))
answered_are s st t (dce.MutexTrylock m v) ns h = with_locks st _ h (with_mutex_are st.locks (Some m) _ h.locks)
answered_are s st t (dce.MutexUnlock m) ns h =
    let o = unlock st.locks st.rows (Some m) t in given_are (record st { locks = o.locks }) o.rows o.given (with_locks st o.locks h (unlock_are st.locks st.rows (Some m) t h.locks))
answered_are s st t dce.LockGlobalNp ns h = with_rows (record st { locks = _ }) _ (with_locks st _ h (lock_are st.locks st.rows None t (rank_of st t) h.locks))
answered_are s st t dce.UnlockGlobalNp ns h =
    let o = unlock st.locks st.rows None t in given_are (record st { locks = o.locks }) o.rows o.given (with_locks st o.locks h (unlock_are st.locks st.rows None t h.locks))
answered_are s st t (dce.CondInit c) ns h = with_conds st _ h (cond_init_are st.conds c h.conds)
answered_are s st t (dce.CondDestroy c) ns h = with_conds st _ h (cond_destroy_are st.conds c h.conds)
answered_are s st t (dce.CondWait c m) ns h =
    waited_are st (wait st.conds st.locks st.rows c m t (rank_of st t)) h (waits_are st.conds t.0 _ h.conds) (with_mutex_are st.locks (Some m) _ h.locks)
answered_are s st t (dce.CondTimedwait c m e) ns h =
    waited_are st (timedwait st.conds st.locks st.rows c m (first ns) st.clock t (rank_of st t)) h (waits_are st.conds t.0 _ h.conds) (with_mutex_are st.locks (Some m) _ h.locks)
answered_are s st t (dce.CondSignal c) ns h =
    let o : Signalled = signal st.conds st.rows c in signals_are st o o.waiter h (without_wait_are st.conds _ h.conds)
answered_are s st t (dce.CondBroadcast c) ns h = record {
  threads = h.threads;
  remainders = h.remainders;
  debts = all_owe_is st.debts (Return reply.Done) (map (λ w. w.0) (broadcast (rank_of st) st.conds st.locks st.rows c).woken.woken) h.debts;
  locks = wake_all_locks (rank_of st) st.conds st.locks st.rows _ h.locks;
  conds = wake_all_conds (rank_of st) st.conds st.locks st.rows _ h.conds;
  onces = h.onces;
  pipes = h.pipes;
  shared = h.shared;
}
answered_are s st t (dce.Once o routine) ns h = with_rows (record st { onces = _ }) _ (with_onces st _ h (enter_are st.onces st.rows o t (rank_of st t) h.onces))
answered_are s st t (dce.Keycreate key destructor) ns h = with_onces st _ h (keycreate_are st.onces key destructor h.onces)
answered_are s st t (dce.Setspecific key e) ns h = with_onces st _ h (setspecific_are st.onces key t (first ns) h.onces)
answered_are s st t (dce.Getspecific key v) ns h = h
answered_are s st t (dce.Read p v w) ns h =
    let o = read st.pipes st.rows p t (rank_of st t) in
    woken_are (record st { pipes = o.pipes }) o.rows reply.Done o.relieved (with_pipes st o.pipes h (read_are st.pipes st.rows p t (rank_of st t) h.pipes))
answered_are s st t (dce.Write p e) ns h =
    let o = write st.pipes st.rows p (first ns) t (rank_of st t) in
    woken_are (record st { pipes = o.pipes }) o.rows (reply.Value (first ns)) o.reader (with_pipes st o.pipes h (write_are st.pipes st.rows p (first ns) t (rank_of st t) h.pipes))
answered_are s st t (dce.Close p) ns h = closed_are st (close_out (rank_of st) st.pipes st.rows p) h (close_are st.pipes p h.pipes)

-- ---- turns

moved_are : (st : State) (t : Tid) (r : Remainder) → AreTables st → AreTables (with_remainder st t r)
moved_are st t r h = with_remainders st _ h (canonical_put st.remainders t.0 r h.remainders)

stored_are : (st : State) (r : Remainder) (y : Reply) → AreTables st → AreTables (with_stores st r y)
stored_are st r y h = with_shared st _ h (writes_is st.shared (stores_of r y) h.shared)

called_are : (s : Script) (st : State) (t : Tid) (g : Setting) (call : DceCall) (r : Remainder) (values : Values) → AreTables st → AreTables (called s st t g call r values).state
called_are s st t g call r (Ok ns) h =
    let o : Answered = answered s st t call ns in moved_are (with_stores o.state r o.reply) t _ (stored_are o.state r o.reply (answered_are s st t call ns h))
called_are s st t g call r (Err x) h = moved_are st t _ h

written_are : (st : State) (o : Option (NameId × ℤ)) → AreTables st → AreTables (written_to st o)
written_are st None h = h
written_are st (Some w) h = with_shared st _ h (writes_is st.shared (w ∷ []) h.shared)

shared_are : (s : Script) (st : State) (t : Tid) (g : Setting) (r : Remainder) (act : Act) → AreTables st → AreTables (shared_made s st t g r act).state
shared_are s st t g r (Asks call) h = called_are s st t g call r (asked g (shared_values st) call r) h
shared_are s st t g r _ h = moved_are (written_to st (written g (shared_values st) r)) t _ (written_are st (written g (shared_values st) r) h)

delivery_are : (st : State) (t : Tid) (r : Remainder) → AreTables st → AreTables (with_remainder (record st { threads = cancels.deliver st.threads t }) t r)
delivery_are st t r h = moved_are (record st { threads = cancels.deliver st.threads t }) t r (with_threads st _ h (set_mode_are st.threads t _ h.threads))

handed_are : (st : State) (o : once.Undone) (who : Option Tid) → AreTables st → AreOnces o.onces → AreTables (handed_on st o who)
handed_are st o None h i = with_rows (record st { onces = o.onces }) o.rows (with_onces st o.onces h i)
handed_are st o (Some t) h i = with_debts (record st { onces = o.onces; rows = _ }) _ (with_rows (record st { onces = o.onces }) _ (with_onces st o.onces h i)) (canonical_put st.debts t.0 Running h.debts)

completed_are : (st : State) (block : NameId) (f : Freed) → AreTables st → AreTables (record st { onces = once.done st.onces block; rows = f.rows; debts = all_owe st.debts (Return reply.Done) f.woken })
completed_are st block f h =
    with_debts (record st { onces = once.done st.onces block; rows = f.rows }) _
    (with_rows (record st { onces = once.done st.onces block }) f.rows (with_onces st _ h (done_are st.onces block h.onces))) (all_owe_is st.debts (Return reply.Done) f.woken h.debts)

end_are : (st : State) (t : Tid) (g : Setting) (r : Remainder) (o : NextDestructor) (c : Option DestructorCall) → AreTables st → AreOnces o.onces → AreTables (end_made st t g r o c).state
end_are st t g r o (Some c) h i = moved_are (record st { onces = o.onces }) t _ (with_onces st o.onces h i)
end_are st t g r o None h i = record {
  threads = set_ended_are st.threads t r.value h.threads;
  remainders = canonical_cut st.remainders t.0 h.remainders;
  debts = all_owe_is st.debts (Return (reply.Value r.value)) (free_row (rank_of st) st.rows (row.Join t)).woken h.debts;
  locks = h.locks;
  conds = h.conds;
  onces = h.onces;
  pipes = h.pipes;
  shared = h.shared;
}

debt_are : (st : State) (t : Tid) (g : Setting) (r : Remainder) (d : Debt) → AreTables st → AreTables (debt_made st t g r d).state
debt_are st t g r (Return y) h = moved_are (with_stores st r y) t _ (stored_are st r y h)
debt_are st t g r Delivery h = delivery_are st t _ h
debt_are st t g r Running h = moved_are st t _ h

halt_are : (s : Script) (st : State) (t : Tid) (g : Setting) (r : Remainder) (halt : Halt) → AreTables st → AreTables (halt_made s st t g r halt).state
halt_are s st t g r Delivers h = delivery_are st t _ h
halt_are s st t g r (Shares spot) h = shared_are s st t g r (act_at spot) h
halt_are s st t g r (Undoes block m) h =
    let o : once.Undone = once.undone st.onces st.rows block in moved_are (handed_on st o o.runner) t m.to (handed_are st o o.runner h (undone_are st.onces st.rows block h.onces))
halt_are s st t g r (Completes block m) h =
    let f : Freed = free_row (rank_of st) st.rows (row.Once block) in
    moved_are (record st { onces = once.done st.onces block; rows = f.rows; debts = all_owe st.debts (Return reply.Done) f.woken }) t m.to (completed_are st block f h)
halt_are s st t g r Ends h = let o : NextDestructor = next_destructor st.onces t in end_are st t g r o o.call h (next_destructor_are st.onces t h.onces)
halt_are s st t g r Pauses h = moved_are st t _ h

turn_by_are : (s : Script) (st : State) (t : Tid) (d : Option Debt) → AreTables st → AreTables (turn_by s st t d).state
turn_by_are s st t (Some d) h = debt_are (record st { debts = _ }) t (setting_of s st t) (remainder_of st t) d (with_debts st _ h (canonical_cut st.debts t.0 h.debts))
turn_by_are s st t None h =
    let run : Run = run_of most_steps (setting_of s st t) (mode_at st.threads t) (remainder_of st t) in halt_are s st t (setting_of s st t) run.to run.halt h

kept_are : (t : Tid) (made : Made) → AreTables made.state → AreTables (kept t made).state
kept_are t made h = with_rows made.state _ h

turn_are : (s : Script) (st : State) (t : Tid) → AreTables st → AreTables (turn_of s st t).state
unfolding turn_of
turn_are s st t h = kept_are t (turn_by s st t (debt_of st t)) (turn_by_are s st t (debt_of st t) h)

-- ---- events

dispatch_are : (st : State) (p : ℕ) (d : Dispatched) (o : Option Tid) (made : Made) → AreTables st → dispatch_made st p d o ≡ Some made → AreTables made.state
dispatch_are st p d None made h e = absurd (cc)
dispatch_are st p d (Some t) made h e = subst (λ (m : Made). AreTables m.state) (ap (λ o. unwrap_or o made) e) (with_rows st d.rows h)

dispatch_if_are : (b : Bool) (st : State) (p : ℕ) (made : Made) → AreTables st → (if b then dispatch_made st p (dispatch st.rows p) (dispatch st.rows p).taken else None) ≡ Some made
    → AreTables made.state
dispatch_if_are true st p made h e = dispatch_are st p (dispatch st.rows p) (dispatch st.rows p).taken made h e
dispatch_if_are false st p made h e = absurd (cc)

turn_if_are : (s : Script) (st : State) (o : Option Tid) (made : Made) → AreTables st → option_map (turn_of s st) o ≡ Some made → AreTables made.state
turn_if_are s st None made h e = absurd (cc)
turn_if_are s st (Some t) made h e = subst (λ (m : Made). AreTables m.state) (ap (λ o. unwrap_or o made) e) (turn_are s st t h)

clock_to_are : (st : State) (now : ℤ) → AreTables st → AreTables (clock_to st now).state
clock_to_are st now h = record {
  threads = h.threads;
  remainders = h.remainders;
  debts = due_owe_is st.debts (expire_all (rank_of st) st.conds st.locks st.rows now).woken h.debts;
  locks = wake_all_locks (rank_of st) st.conds st.locks st.rows (due_first st.conds st.rows now) h.locks;
  conds = wake_all_conds (rank_of st) st.conds st.locks st.rows (due_first st.conds st.rows now) h.conds;
  onces = h.onces;
  pipes = h.pipes;
  shared = h.shared;
}

clock_at_are : (st : State) (o : Option ℤ) (made : Made) → AreTables st → option_map (clock_to st) o ≡ Some made → AreTables made.state
clock_at_are st None made h e = absurd (cc)
clock_at_are st (Some now) made h e = subst (λ (m : Made). AreTables m.state) (ap (λ o. unwrap_or o made) e) (clock_to_are st now h)

clock_are : (st : State) (b : Bool) (made : Made) → AreTables st → clock_of b st ≡ Some made → AreTables made.state
clock_are st true made h e = absurd (cc)
clock_are st false made h e = clock_at_are st (earliest st.conds) made h e

made_are : (s : Script) (n : ℕ) (st : State) (e : Event) (made : Made) → AreTables st → made_by s n st e ≡ Some made → AreTables made.state
unfolding made_by
made_are s n st (event.Dispatch p) made h e = dispatch_if_are (nat_lt p n) st p made h e
made_are s n st (event.Turn p) made h e = turn_if_are s st (running st.rows p) made h e
made_are s n st event.Clock made h e = clock_are st (some_can_run st.rows) made h e

opening_are : (s : Script) → AreTables (opening s)
opening_are s = record {
  threads = first_are;
  remainders = canonical_put none 1 _ (canonical_none Remainder);
  debts = canonical_none Debt;
  locks = record { kinds = canonical_none _; mutexes = canonical_none _ };
  conds = record { made = canonical_none _; waits = canonical_none _ };
  onces = record { blocks = canonical_none _; keys = canonical_none _; values = each_none IsValued };
  pipes = first_pipes_are s.items;
  shared = declared_is s.items;
}

history_are : {s : Script} {n : ℕ} {x : Execution} → History s n x → AreTables x.state
history_are {s} opened = opening_are s
history_are {s} {n} (then_event {x} h open_ e made m) = made_are s n x.state e made (history_are h) m

-- In every history the numbers rise in each table of the state.
pub canonical-state : {s : Script} {n : ℕ} {x : Execution} → History s n x → IsCanonicalState x.state
canonical-state {x = x} h =
    let t : AreTables x.state = history_are h in record {
      records = t.threads.records;
      attrs = t.threads.attrs;
      remainders = t.remainders;
      debts = t.debts;
      seats = history_canonical h;
      kinds = t.locks.kinds;
      mutexes = t.locks.mutexes;
      made = t.conds.made;
      waits = t.conds.waits;
      blocks = t.onces.blocks;
      keys = t.onces.keys;
      values = t.onces.values;
      pipes = t.pipes.pipes;
      writing = t.pipes.writing;
      shared = t.shared;
    }
