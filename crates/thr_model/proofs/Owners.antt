-- In every history a mutex that nobody owns has no waiters.
use Rattle.std.proofs.Common.{◌≡◌, ℕ, ℤ, Bool, true, false, List, Option, Some, None, Ok, Err, refl, ap, subst}
use Rattle.std.specs.Prelude.{if◌then◌else◌, nat_lt, ⊤}
use Rattle.std.specs.Option.{option_map, unwrap_or}
use Rattle.thr_values.specs.declared.number.NameId.{NameId}
use Rattle.thr_values.specs.declared.number.Tid.{Tid}
use Rattle.thr_values.specs.declared.event.Event.{Event}
use Rattle.thr_values.specs.declared.event.Event.TheVariants as event
use Rattle.thr_values.specs.declared.reply.Effect.TheVariants as effect
use Rattle.thr_values.specs.declared.reply.Reply.{Reply}
use Rattle.thr_values.specs.declared.reply.Reply.TheVariants as reply
use Rattle.thr_syntax.specs.declared.dce.DceCall.{DceCall}
use Rattle.thr_syntax.specs.declared.dce.DceCall.TheVariants as dce
use Rattle.thr_syntax.specs.declared.tree.Script.{Script}
use Rattle.thr_remainder.specs.Acts.{Act, Asks}
use Rattle.thr_remainder.specs.Remainders.{Setting, Remainder, act_at}
use Rattle.thr_remainder.specs.Steps.{written}
use Rattle.thr_remainder.specs.Replies.{Values, asked}
use Rattle.thr_remainder.specs.Runs.{Halt, Delivers, Shares, Undoes, Completes, Ends, Pauses, Run, run_of, most_steps}
use Rattle.thr_parts.specs.declared.row.RowId.{RowId}
use Rattle.thr_parts.specs.declared.row.RowId.TheVariants as row
use Rattle.thr_parts.specs.declared.row.Seat.{Seat}
use Rattle.thr_parts.specs.Tables.{Table}
use Rattle.thr_values.specs.declared.reply.Kind.{Kind}
use Rattle.thr_parts.specs.Replies.{is_value, is_blocks}
use Rattle.thr_parts.specs.Rows.{Rows, no_rows, thread, best}
use Rattle.thr_parts.specs.Moves.{take_out_if, free_row}
use Rattle.thr_parts.specs.Dispatch.{running, some_can_run, dispatch}
use Rattle.thr_parts.specs.Threads as threads
use Rattle.thr_parts.specs.Threads.{Threads, ThreadsReply, natural, rank_at, record_at}
use Rattle.thr_parts.specs.Scheduling.{setprio, setscheduler}
use Rattle.thr_parts.specs.Cancels.{mode_at, waits_at_point}
use Rattle.thr_parts.specs.Cancels as cancels
use Rattle.thr_parts.specs.Mutexes.{Locks, no_locks, with_kinds, owner, waiters_row}
use Rattle.thr_parts.specs.Locking.{unlock}
use Rattle.thr_parts.specs.Conditions.{Conds, no_conds, wait, timedwait}
use Rattle.thr_parts.specs.Waking.{signal}
use Rattle.thr_parts.specs.Expiry.{earliest, due_first}
use Rattle.thr_parts.specs.Keys.{DestructorCall, NextDestructor, next_destructor}
use Rattle.thr_parts.specs.OnceBlocks as once
use Rattle.thr_parts.specs.OnceBlocks.{enter}
use Rattle.thr_parts.specs.Pipes.{pipe_at, read, write}
use Rattle.thr_parts.specs.Closing.{free_if}
use Rattle.thr_parts.proofs.TableLaws.{canonical_none}
use Rattle.thr_parts.proofs.EachLaws.{each_none}
use Rattle.thr_parts.proofs.OwnerLaws.{AreOwned, IsOwned, IsMade, lock_owned, trylock_owned, unlock_owned, wait_owned, timedwait_owned, delay_owned, regain_owned, ready_owned, wake_all_owned, cancel_wait_owned, signal_owned, signalled_made, init_owned, destroy_owned, block_if_owned, block_in_owned, take_out_owned, leave_owned, set_rank_owned, free_row_owned, keeps_owned, dispatch_owned, nobody_waits}
use Rattle.thr_model.specs.States.{State, Debt, Return, Delivery, Running, rank_of, remainder_of, setting_of, debt_of, shared_values, opening}
use Rattle.thr_model.specs.Calls.{answered, ready_if, rank_if, cancelled, given_state, signals_one, woken_state, first, second}
use Rattle.thr_model.specs.Turns.{Made, called, written_to, shared_made, handed_on, end_made, debt_made, halt_made, turn_by, kept, is_fifo_in, turn_of}
use Rattle.thr_model.specs.Events.{dispatch_made, clock_to, clock_of, made_by}
use Rattle.thr_model.specs.Histories.{Execution, History, opened, then_event}

abbrev Owned : State → Type 0
Owned st = AreOwned st.locks st.conds st.rows

-- The kinds of attribute cells don't matter.
kinds_owned : (ls : Locks) (cs : Conds) (rs : Rows) (kinds : Table Kind) → AreOwned ls cs rs → AreOwned (with_kinds ls kinds) cs rs
kinds_owned ls cs rs kinds h = record { sorted = h.sorted; owned = h.owned; made = h.made }

-- Nor does it matter which conditions are made.
made_owned : (ls : Locks) (cs : Conds) (rs : Rows) (made : Table ⊤) → AreOwned ls cs rs → (let more : Conds = record { made = made; waits = cs.waits } in AreOwned ls more rs)
made_owned ls cs rs made h = record { sorted = h.sorted; owned = h.owned; made = h.made }

-- ---- calls

ready_if_owned : (ls : Locks) (cs : Conds) (b : Bool) (rank : Tid → ℕ) (rs : Rows) (t : Tid) → AreOwned ls cs rs → AreOwned ls cs (ready_if b rank rs t)
ready_if_owned ls cs true rank rs t h = ready_owned ls cs rs t (rank t) h
ready_if_owned ls cs false rank rs t h = h

rank_if_owned : (ls : Locks) (cs : Conds) (b : Bool) (ths : Threads) (rs : Rows) (t : Tid) → AreOwned ls cs rs → AreOwned ls cs (rank_if b ths rs t)
rank_if_owned ls cs true ths rs t h = set_rank_owned ls cs rs h t (rank_at ths t)
rank_if_owned ls cs false ths rs t h = h

free_if_owned : (ls : Locks) (cs : Conds) (b : Bool) (rank : Tid → ℕ) (rs : Rows) (r : RowId) → AreOwned ls cs rs → AreOwned ls cs (free_if b rank rs r).rows
free_if_owned ls cs true rank rs r h = free_row_owned ls cs rs h rank r
free_if_owned ls cs false rank rs r h = h

cancelled_owned : (st : State) (target : Tid) (o : ThreadsReply) (y : Reply) → Owned st → Owned (cancelled st target o y).state
cancelled_owned st target o (reply.Effect effect.Wakes) h = cancel_wait_owned (rank_of st) st.conds st.pipes st.locks st.rows target h
cancelled_owned st target o (reply.Effect _) h = h
cancelled_owned st target o _ h = h

given_owned : (st : State) (rs : Rows) (o : Option Tid) → AreOwned st.locks st.conds rs → Owned (given_state st rs o)
given_owned st rs None h = h
given_owned st rs (Some t) h = ready_owned st.locks st.conds rs t (rank_of st t) h

woken_owned : (st : State) (rs : Rows) (y : Reply) (o : Option Tid) → AreOwned st.locks st.conds rs → Owned (woken_state st rs y o)
woken_owned st rs y None h = h
woken_owned st rs y (Some t) h = ready_owned st.locks st.conds rs t (rank_of st t) h

signals_owned : (st : State) (c : NameId) (w : Option (Tid × NameId)) → (signal st.conds st.rows c).waiter ≡ w → Owned st → Owned (signals_one st (signal st.conds st.rows c) w).state
signals_owned st c None e h = signal_owned st.locks st.conds st.rows c h
signals_owned st c (Some w) e h =
    let o = signal st.conds st.rows c in
    regain_owned st.locks o.conds o.rows w.1 w.0 (rank_of st w.0) (signalled_made st.locks st.conds st.rows c w h e) (signal_owned st.locks st.conds st.rows c h)

answered_owned : (s : Script) (st : State) (t : Tid) (call : DceCall) (ns : List ℤ) → Owned st → Owned (answered s st t call ns).state
unfolding answered
answered_owned s st t (dce.Create v a routine e) ns h =
    let o : ThreadsReply = threads.create st.threads t a in ready_if_owned st.locks st.conds (is_value o.reply) (rank_at o.threads) st.rows (thread st.threads.next) h
answered_owned s st t (dce.Join e v) ns h = block_if_owned st.locks st.conds st.rows h _ (row.Join _) t (rank_of st t) (λ e. tt)
answered_owned s st t dce.Yield ns h = block_in_owned st.locks st.conds st.rows h row.Ready t (rank_of st t) tt
answered_owned s st t (dce.Cancel e) ns h =
    let who : Tid = thread (natural (first ns)) in
    let o : ThreadsReply = cancels.cancel st.threads (first ns) (waits_at_point st.rows who) in cancelled_owned st who o o.reply h
answered_owned s st t (dce.Setprio e f v) ns h =
    let o : ThreadsReply = setprio st.threads (first ns) (second ns) in rank_if_owned st.locks st.conds (is_value o.reply) o.threads st.rows (thread (natural (first ns))) h
answered_owned s st t (dce.Setscheduler e policy f v) ns h =
    let o : ThreadsReply = setscheduler st.threads (first ns) policy (second ns) in rank_if_owned st.locks st.conds (is_value o.reply) o.threads st.rows (thread (natural (first ns))) h
answered_owned s st t (dce.DelayNp e) ns h = delay_owned st.conds st.locks st.rows (first ns) st.clock t (rank_of st t) h
answered_owned s st t (dce.MutexattrCreate a) ns h = kinds_owned st.locks st.conds st.rows _ h
answered_owned s st t (dce.MutexattrSetkindNp a kind) ns h = kinds_owned st.locks st.conds st.rows _ h
answered_owned s st t (dce.MutexattrDelete a) ns h = kinds_owned st.locks st.conds st.rows _ h
answered_owned s st t (dce.MutexInit m a) ns h = init_owned st.locks st.conds st.rows m a h
answered_owned s st t (dce.MutexDestroy m) ns h = destroy_owned st.locks st.conds st.rows m h
answered_owned s st t (dce.MutexLock m) ns h = lock_owned st.locks st.conds st.rows (Some m) t (rank_of st t) h
answered_owned s st t (dce.MutexTrylock m v) ns h = trylock_owned st.locks st.conds st.rows m t h
answered_owned s st t (dce.MutexUnlock m) ns h =
    let o = unlock st.locks st.rows (Some m) t in given_owned (record st { locks = o.locks }) o.rows o.given (unlock_owned st.locks st.conds st.rows (Some m) t h)
answered_owned s st t dce.LockGlobalNp ns h = lock_owned st.locks st.conds st.rows None t (rank_of st t) h
answered_owned s st t dce.UnlockGlobalNp ns h =
    let o = unlock st.locks st.rows None t in given_owned (record st { locks = o.locks }) o.rows o.given (unlock_owned st.locks st.conds st.rows None t h)
answered_owned s st t (dce.CondInit c) ns h = made_owned st.locks st.conds st.rows _ h
answered_owned s st t (dce.CondDestroy c) ns h = made_owned st.locks st.conds st.rows _ h
answered_owned s st t (dce.CondWait c m) ns h =
    let o = wait st.conds st.locks st.rows c m t (rank_of st t) in
    given_owned (record st { conds = o.conds; locks = o.locks }) o.rows o.given (wait_owned st.conds st.locks st.rows c m t (rank_of st t) h)
answered_owned s st t (dce.CondTimedwait c m e) ns h =
    let o = timedwait st.conds st.locks st.rows c m (first ns) st.clock t (rank_of st t) in
    given_owned (record st { conds = o.conds; locks = o.locks }) o.rows o.given (timedwait_owned st.conds st.locks st.rows c m (first ns) st.clock t (rank_of st t) h)
answered_owned s st t (dce.CondSignal c) ns h = signals_owned st c (signal st.conds st.rows c).waiter refl h
answered_owned s st t (dce.CondBroadcast c) ns h = wake_all_owned (rank_of st) st.conds st.locks st.rows _ h
answered_owned s st t (dce.Once o routine) ns h =
    block_if_owned st.locks st.conds st.rows h (is_blocks (enter st.onces st.rows o t (rank_of st t)).reply) (row.Once o) t (rank_of st t) (λ e. tt)
answered_owned s st t (dce.Read p v w) ns h =
    let o = read st.pipes st.rows p t (rank_of st t) in
    woken_owned (record st { pipes = o.pipes }) o.rows reply.Done o.relieved
    (take_out_owned st.locks st.conds _ (block_if_owned st.locks st.conds st.rows h (is_blocks o.reply) (row.Reader p) t (rank_of st t) (λ e. tt)) o.relieved)
answered_owned s st t (dce.Write p e) ns h =
    let o = write st.pipes st.rows p (first ns) t (rank_of st t) in
    woken_owned (record st { pipes = o.pipes }) o.rows (reply.Value (first ns)) o.reader
    (block_if_owned st.locks st.conds (take_out_if st.rows o.reader) (take_out_owned st.locks st.conds st.rows h o.reader) (is_blocks o.reply) (row.Writer p) t (rank_of st t) (λ e. tt))
answered_owned s st t (dce.Close p) ns h =
    let opened : Bool = (pipe_at st.pipes p).is_open in
    free_if_owned st.locks st.conds opened (rank_of st) (free_if opened (rank_of st) st.rows (row.Reader p)).rows (row.Writer p) (free_if_owned st.locks st.conds opened (rank_of st) st.rows (row.Reader p) h)
answered_owned s st t _ ns h = h

-- ---- turns

called_owned : (s : Script) (st : State) (t : Tid) (g : Setting) (call : DceCall) (r : Remainder) (values : Values) → Owned st → Owned (called s st t g call r values).state
called_owned s st t g call r (Ok ns) h = answered_owned s st t call ns h
called_owned s st t g call r (Err x) h = h

written_owned : (st : State) (o : Option (NameId × ℤ)) → Owned st → Owned (written_to st o)
written_owned st None h = h
written_owned st (Some w) h = h

shared_owned : (s : Script) (st : State) (t : Tid) (g : Setting) (r : Remainder) (act : Act) → Owned st → Owned (shared_made s st t g r act).state
shared_owned s st t g r (Asks call) h = called_owned s st t g call r (asked g (shared_values st) call r) h
shared_owned s st t g r _ h = written_owned st (written g (shared_values st) r) h

handed_owned : (st : State) (o : once.Undone) (w : Option Tid) → AreOwned st.locks st.conds o.rows → Owned (handed_on st o w)
handed_owned st o None h = h
handed_owned st o (Some t) h = ready_owned st.locks st.conds o.rows t (rank_of st t) h

end_owned : (st : State) (t : Tid) (g : Setting) (r : Remainder) (o : NextDestructor) (c : Option DestructorCall) → Owned st → Owned (end_made st t g r o c).state
end_owned st t g r o (Some c) h = h
end_owned st t g r o None h = leave_owned st.locks st.conds (free_row (rank_of st) st.rows (row.Join t)).rows (free_row_owned st.locks st.conds st.rows h (rank_of st) (row.Join t)) t

debt_owned : (st : State) (t : Tid) (g : Setting) (r : Remainder) (d : Debt) → Owned st → Owned (debt_made st t g r d).state
debt_owned st t g r (Return y) h = h
debt_owned st t g r Delivery h = h
debt_owned st t g r Running h = h

halt_owned : (s : Script) (st : State) (t : Tid) (g : Setting) (r : Remainder) (halt : Halt) → Owned st → Owned (halt_made s st t g r halt).state
halt_owned s st t g r Delivers h = h
halt_owned s st t g r (Shares spot) h = shared_owned s st t g r (act_at spot) h
halt_owned s st t g r (Undoes block m) h =
    let o : once.Undone = once.undone st.onces st.rows block in handed_owned st o o.runner (take_out_owned st.locks st.conds st.rows h (best st.rows (row.Once block)))
halt_owned s st t g r (Completes block m) h = free_row_owned st.locks st.conds st.rows h (rank_of st) (row.Once block)
halt_owned s st t g r Ends h = let o : NextDestructor = next_destructor st.onces t in end_owned st t g r o o.call h
halt_owned s st t g r Pauses h = h

turn_by_owned : (s : Script) (st : State) (t : Tid) (d : Option Debt) → Owned st → Owned (turn_by s st t d).state
turn_by_owned s st t (Some d) h = debt_owned (record st { debts = _ }) t (setting_of s st t) (remainder_of st t) d h
turn_by_owned s st t None h =
    let run : Run = run_of most_steps (setting_of s st t) (mode_at st.threads t) (remainder_of st t) in halt_owned s st t (setting_of s st t) run.to run.halt h

kept_owned : (t : Tid) (made : Made) → Owned made.state → Owned (kept t made).state
kept_owned t made h = keeps_owned made.state.locks made.state.conds made.state.rows h t (is_fifo_in (record_at made.state.threads t))

turn_owned : (s : Script) (st : State) (t : Tid) → Owned st → Owned (turn_of s st t).state
unfolding turn_of
turn_owned s st t h = kept_owned t (turn_by s st t (debt_of st t)) (turn_by_owned s st t (debt_of st t) h)

-- ---- events

after_made : (o made : Made) → Some o ≡ Some made → Owned o.state → Owned made.state
after_made o made e h = subst (λ (m : Made). Owned m.state) (ap (λ x. unwrap_or x made) e) h

dispatched_owned : (st : State) (p : ℕ) (o : Option Tid) (made : Made) → Owned st → dispatch_made st p (dispatch st.rows p) o ≡ Some made → Owned made.state
dispatched_owned st p None made h e = absurd (cc)
dispatched_owned st p (Some t) made h e = after_made _ made e (dispatch_owned st.locks st.conds st.rows h p)

dispatch_if_owned : (b : Bool) (st : State) (p : ℕ) (made : Made) → Owned st → (if b then dispatch_made st p (dispatch st.rows p) (dispatch st.rows p).taken else None) ≡ Some made → Owned made.state
dispatch_if_owned true st p made h e = dispatched_owned st p (dispatch st.rows p).taken made h e
dispatch_if_owned false st p made h e = absurd (cc)

turn_if_owned : (s : Script) (st : State) (o : Option Tid) (made : Made) → Owned st → option_map (turn_of s st) o ≡ Some made → Owned made.state
turn_if_owned s st None made h e = absurd (cc)
turn_if_owned s st (Some t) made h e = after_made _ made e (turn_owned s st t h)

clock_at_owned : (st : State) (o : Option ℤ) (made : Made) → Owned st → option_map (clock_to st) o ≡ Some made → Owned made.state
clock_at_owned st None made h e = absurd (cc)
clock_at_owned st (Some now) made h e = after_made _ made e (wake_all_owned (rank_of st) st.conds st.locks st.rows (due_first st.conds st.rows now) h)

clock_owned : (st : State) (b : Bool) (made : Made) → Owned st → clock_of b st ≡ Some made → Owned made.state
clock_owned st true made h e = absurd (cc)
clock_owned st false made h e = clock_at_owned st (earliest st.conds) made h e

made_by_owned : (s : Script) (n : ℕ) (st : State) (e : Event) (made : Made) → Owned st → made_by s n st e ≡ Some made → Owned made.state
unfolding made_by
made_by_owned s n st (event.Dispatch p) made h e = dispatch_if_owned (nat_lt p n) st p made h e
made_by_owned s n st (event.Turn p) made h e = turn_if_owned s st (running st.rows p) made h e
made_by_owned s n st event.Clock made h e = clock_owned st (some_can_run st.rows) made h e

opening_owned : (s : Script) → Owned (opening s)
opening_owned s = ready_owned no_locks no_conds no_rows (thread 1) _ (record { sorted = canonical_none Seat; owned = each_none (IsOwned no_locks); made = each_none (IsMade no_locks) })

history_owned : {s : Script} {n : ℕ} {x : Execution} → History s n x → Owned x.state
history_owned {s} opened = opening_owned s
history_owned {s} {n} (then_event {x} h open_ e made m) = made_by_owned s n x.state e made (history_owned h) m

-- In every history nobody waits for a mutex, or for the global lock, that nobody owns.
pub nobody-waits : {s : Script} {n : ℕ} {x : Execution} → History s n x → (m : Option NameId) → owner x.state.locks m ≡ None → best x.state.rows (waiters_row m) ≡ None
nobody-waits {x = x} h m e = nobody_waits x.state.locks x.state.conds x.state.rows m (history_owned h) e
