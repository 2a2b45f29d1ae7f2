-- In every history no lock is locked more often than there are lines.
use Rattle.std.proofs.Common.{◌≡◌, ℕ, ◌+◌, ◌<◌, ◌≤◌, ℤ, Bool, true, false, List, [], ◌∷◌, ◌++◌, length, Option, Some, None, Ok, Err, refl, ap, subst, arith, length-append}
use Rattle.std.specs.Prelude.{if◌then◌else◌, not, nat_lt, is_none, IfSome}
use Rattle.std.specs.Option.{option_map, unwrap_or}
use Rattle.thr_values.specs.declared.number.NameId.{NameId}
use Rattle.thr_values.specs.declared.number.Tid.{Tid}
use Rattle.thr_values.specs.declared.event.Event.{Event}
use Rattle.thr_values.specs.declared.event.Event.TheVariants as event
use Rattle.thr_values.specs.declared.history.Entry.{Entry}
use Rattle.thr_values.specs.declared.reply.Effect.TheVariants as effect
use Rattle.thr_values.specs.declared.reply.Kind.{Kind}
use Rattle.thr_values.specs.declared.reply.Reply.{Reply}
use Rattle.thr_values.specs.declared.reply.Reply.TheVariants as reply
use Rattle.thr_syntax.specs.declared.dce.DceCall.{DceCall}
use Rattle.thr_syntax.specs.declared.dce.DceCall.TheVariants as dce
use Rattle.thr_syntax.specs.declared.tree.Script.{Script}
use Rattle.thr_remainder.specs.Acts.{Act, Asks}
use Rattle.thr_remainder.specs.Remainders.{Setting, Remainder, act_at}
use Rattle.thr_remainder.specs.Steps.{written}
use Rattle.thr_remainder.specs.Replies.{Values, asked}
use Rattle.thr_remainder.specs.Runs.{Halt, Delivers, Shares, Undoes, Completes, Ends, Pauses, Run, run_of, most_steps}
use Rattle.thr_parts.specs.declared.mutex.Held.{Held}
use Rattle.thr_parts.specs.declared.mutex.Mutex.{Mutex}
use Rattle.thr_parts.specs.Tables.{Table, get, has, cut, keep_if}
use Rattle.thr_parts.specs.Replies.{is_done}
use Rattle.thr_parts.specs.Rows.{Rows, thread}
use Rattle.thr_parts.specs.Moves.{take_out}
use Rattle.thr_parts.specs.Dispatch.{Dispatched, running, some_can_run, dispatch}
use Rattle.thr_parts.specs.Threads.{ThreadsReply, natural}
use Rattle.thr_parts.specs.Cancels.{mode_at, waits_at_point}
use Rattle.thr_parts.specs.Cancels as cancels
use Rattle.thr_parts.specs.Mutexes.{Locks, with_kinds, kind_at, free_mutex, init, mutex_at, with_mutex, owner, owner_in, destroy}
use Rattle.thr_parts.specs.Locking.{taken, as_taken, lock_reply, is_last, owned_by, one_less, as_unlocked, give_up_if, unlock, is_free, regain}
use Rattle.thr_parts.specs.Conditions.{Conds, wait, timedwait, waits_with}
use Rattle.thr_parts.specs.Waking.{pull_out, mutex_with, resume, wake_all, Signalled, signal}
use Rattle.thr_parts.specs.Expiry.{earliest, due_first}
use Rattle.thr_parts.specs.Keys.{DestructorCall, NextDestructor, next_destructor}
use Rattle.thr_parts.specs.OnceBlocks as once
use Rattle.thr_parts.specs.Pipes.{read, write}
use Rattle.thr_parts.proofs.EachLaws.{Each, IfThere, each_none, each_put, each_put_if, each_cut_if, if_there}
use Rattle.thr_model.specs.States.{State, Debt, Return, Delivery, Running, rank_of, remainder_of, setting_of, debt_of, shared_values}
use Rattle.thr_model.specs.Calls.{answered, cancelled, given_state, signals_one, woken_state, first}
use Rattle.thr_model.specs.Turns.{Made, called, written_to, shared_made, handed_on, end_made, debt_made, halt_made, turn_by, turn_of}
use Rattle.thr_model.specs.Events.{dispatch_made, clock_to, clock_of, made_by}
use Rattle.thr_model.specs.Histories.{Execution, History, opened, then_event}
use Rattle.thr_counts.proofs.EventLines.{made_line}

-- It is locked so often at most.
abbrev IsDepth : ℕ → Option Held → Type 0
IsDepth n None = Unit {0}
IsDepth n (Some h) = h.depth ≤ n

abbrev IsMutexDepth : ℕ → Mutex → Type 0
IsMutexDepth n x = IsDepth n x.held

-- So is each mutex, and the global lock.
pub record AreDepths (n : ℕ) (ls : Locks) : Type 0 where
  pub mutexes : Each (IsMutexDepth n) ls.mutexes
  pub global : IsDepth n ls.global

deeper : (n k : ℕ) (o : Option Held) → n ≤ k → IsDepth n o → IsDepth k o
deeper n k None le h = tt
deeper n k (Some x) le h = omega (arith, le, h)

pub weaker : (n k : ℕ) (ls : Locks) → n ≤ k → AreDepths n ls → AreDepths k ls
weaker n k ls le h = record { mutexes = λ q x e. deeper n k x.held le (h.mutexes q x e); global = deeper n k ls.global le h.global }

one_more : (n : ℕ) (ls : Locks) → AreDepths n ls → AreDepths (n + 1) ls
one_more n ls h = weaker n (n + 1) ls (omega arith) h

mutex_depth : (n : ℕ) (ls : Locks) (m : Option NameId) → AreDepths n ls → IfThere (IsMutexDepth n) (mutex_at ls m)
mutex_depth n ls None h = h.global
mutex_depth n ls (Some m) h = if_there (IsMutexDepth n) ls.mutexes m.0 (get ls.mutexes m.0) refl h.mutexes

with_depths : (n : ℕ) (ls : Locks) (m : Option NameId) (o : Option Mutex) → IfThere (IsMutexDepth n) o → AreDepths n ls → AreDepths n (with_mutex ls m o)
with_depths n ls None None here h = record { mutexes = h.mutexes; global = h.global }
with_depths n ls None (Some x) here h = record { mutexes = h.mutexes; global = here }
with_depths n ls (Some m) None here h = record { mutexes = h.mutexes; global = h.global }
with_depths n ls (Some m) (Some x) here h = record { mutexes = each_put (IsMutexDepth n) ls.mutexes m.0 x here h.mutexes; global = h.global }

-- ---- lock and trylock

taken_depth : (n : ℕ) (t : Tid) (o : Option Held) → IsDepth n o → IsDepth (n + 1) (Some (taken o t))
taken_depth n t None h = omega arith
taken_depth n t (Some x) h = omega (arith, h)

taken_if : (n : ℕ) (b : Bool) (t : Tid) (o : Option Mutex) → IfThere (IsMutexDepth n) o → IfThere (IsMutexDepth (n + 1)) (keep_if b (option_map (as_taken t) o))
taken_if n true t None h = tt
taken_if n true t (Some x) h = taken_depth n t x.held h
taken_if n false t o h = tt

locked : (n : ℕ) (ls : Locks) (m : Option NameId) (b : Bool) (t : Tid) → AreDepths n ls → AreDepths (n + 1) (with_mutex ls m (keep_if b (option_map (as_taken t) (mutex_at ls m))))
locked n ls m b t h = with_depths (n + 1) ls m _ (taken_if n b t (mutex_at ls m) (mutex_depth n ls m h)) (one_more n ls h)

-- ---- unlock and hand-over

owned_depth : (n : ℕ) (next : Option Tid) → IsDepth (n + 1) (option_map owned_by next)
owned_depth n None = tt
owned_depth n (Some t) = omega arith

less_depth : (n : ℕ) (o : Option Held) → IsDepth n o → IsDepth (n + 1) (option_map one_less o)
less_depth n None h = tt
less_depth n (Some x) h = omega (arith, h)

after_if : (n : ℕ) (b : Bool) (next : Option Tid) (o : Option Held) → IsDepth n o → IsDepth (n + 1) (if b then option_map owned_by next else option_map one_less o)
after_if n true next o h = owned_depth n next
after_if n false next o h = less_depth n o h

unlocked_if : (n : ℕ) (b : Bool) (next : Option Tid) (o : Option Mutex) → IfThere (IsMutexDepth n) o → IfThere (IsMutexDepth (n + 1)) (keep_if b (option_map (as_unlocked next) o))
unlocked_if n true next None h = tt
unlocked_if n true next (Some x) h = after_if n (is_last x.held) next x.held h
unlocked_if n false next o h = tt

given_up : (n : ℕ) (unlocks gives : Bool) (ls : Locks) (rs : Rows) (m : Option NameId) → AreDepths n ls → AreDepths (n + 1) (give_up_if unlocks gives ls rs m).locks
given_up n unlocks gives ls rs m h =
    with_depths (n + 1) ls m _ (unlocked_if n unlocks (give_up_if unlocks gives ls rs m).given (mutex_at ls m) (mutex_depth n ls m h)) (one_more n ls h)

-- ---- a thread that left a condition

free_depth : (n : ℕ) (t : Tid) (kind : Kind) (held : Option Held) → (let x : Mutex = record { kind = kind; held = Some (taken held t) } in IfThere (IsMutexDepth (n + 1)) (keep_if (is_none held) (Some x)))
free_depth n t kind None = omega arith
free_depth n t kind (Some h) = tt

regained_if : (n : ℕ) (t : Tid) (o : Option Mutex) → IfThere (IsMutexDepth (n + 1)) (keep_if (is_free o) (option_map (as_taken t) o))
regained_if n t None = tt
regained_if n t (Some x) = free_depth n t x.kind x.held

pub regain_depths : (n : ℕ) (ls : Locks) (rs : Rows) (m : NameId) (t : Tid) (rank : ℕ) → AreDepths (n + 1) ls → AreDepths (n + 1) (regain ls rs m t rank).locks
regain_depths n ls rs m t rank h = with_depths (n + 1) ls (Some m) _ (regained_if n t (mutex_at ls (Some m))) h

resume_depths : (n : ℕ) (rank : Tid → ℕ) (ls : Locks) (rs : Rows) (t : Tid) (m : Option NameId) → AreDepths (n + 1) ls → AreDepths (n + 1) (resume rank ls rs t m).locks
resume_depths n rank ls rs t None h = h
resume_depths n rank ls rs t (Some m) h = regain_depths n ls rs m t (rank t) h

wake_depths : (n : ℕ) (rank : Tid → ℕ) (cs : Conds) (ls : Locks) (rs : Rows) (ts : List Tid) → AreDepths (n + 1) ls → AreDepths (n + 1) (wake_all rank cs ls rs ts).locks
unfolding wake_all
wake_depths n rank cs ls rs [] h = h
wake_depths n rank cs ls rs (t ∷ ts) h =
    wake_depths n rank (pull_out cs rs t).conds (resume rank ls (pull_out cs rs t).rows t (mutex_with cs t)).locks (resume rank ls (pull_out cs rs t).rows t (mutex_with cs t)).rows ts
    (resume_depths n rank ls (pull_out cs rs t).rows t (mutex_with cs t) h)

-- ---- made and not made

free_made : (n : ℕ) (b : Bool) (kind : Option Kind) → IfThere (IsMutexDepth n) (keep_if b (option_map free_mutex kind))
free_made n true None = tt
free_made n true (Some kind) = tt
free_made n false kind = tt

init_depths : (n : ℕ) (ls : Locks) (m : NameId) (a : Option NameId) → AreDepths n ls → AreDepths n (init ls m a).locks
init_depths n ls m a h = record { mutexes = each_put_if (IsMutexDepth n) ls.mutexes m.0 _ (free_made n (not (has ls.mutexes m.0)) (kind_at ls a)) h.mutexes; global = h.global }

destroy_depths : (n : ℕ) (ls : Locks) (rs : Rows) (m : NameId) (waited : Bool) → AreDepths n ls → AreDepths n (destroy ls rs m waited).locks
destroy_depths n ls rs m waited h = record { mutexes = each_cut_if (IsMutexDepth n) (is_done (destroy ls rs m waited).reply) ls.mutexes m.0 h.mutexes; global = h.global }

kinds_depths : (n : ℕ) (ls : Locks) (kinds : Table Kind) → AreDepths n ls → AreDepths n (with_kinds ls kinds)
kinds_depths n ls kinds h = record { mutexes = h.mutexes; global = h.global }

-- ---- calls

-- The locks of a state are locked so often at most.
abbrev Have : ℕ → State → Type 0
Have n st = AreDepths n st.locks

cancelled_depths : (n : ℕ) (st : State) (target : Tid) (o : ThreadsReply) (y : Reply) → Have (n + 1) st → Have (n + 1) (cancelled st target o y).state
cancelled_depths n st target o (reply.Effect effect.Wakes) h = resume_depths n (rank_of st) st.locks (take_out st.rows target).rows target (mutex_with st.conds target) h
cancelled_depths n st target o (reply.Effect _) h = h
cancelled_depths n st target o _ h = h

given_depths : (n : ℕ) (st : State) (rs : Rows) (o : Option Tid) → Have n st → Have n (given_state st rs o)
given_depths n st rs None h = h
given_depths n st rs (Some t) h = h

signals_depths : (n : ℕ) (st : State) (o : Signalled) (w : Option (Tid × NameId)) → Have (n + 1) st → Have (n + 1) (signals_one st o w).state
signals_depths n st o None h = h
signals_depths n st o (Some w) h = regain_depths n st.locks o.rows w.1 w.0 (rank_of st w.0) h

woken_depths : (n : ℕ) (st : State) (rs : Rows) (y : Reply) (o : Option Tid) → Have n st → Have n (woken_state st rs y o)
woken_depths n st rs y None h = h
woken_depths n st rs y (Some t) h = h

answered_depths : (n : ℕ) (s : Script) (st : State) (t : Tid) (call : DceCall) (ns : List ℤ) → Have n st → Have (n + 1) (answered s st t call ns).state
unfolding answered
answered_depths n s st t (dce.Cancel e) ns h =
    let who : Tid = thread (natural (first ns)) in
    let o : ThreadsReply = cancels.cancel st.threads (first ns) (waits_at_point st.rows who) in cancelled_depths n st who o o.reply (one_more n st.locks h)
answered_depths n s st t (dce.MutexattrCreate a) ns h = kinds_depths (n + 1) st.locks _ (one_more n st.locks h)
answered_depths n s st t (dce.MutexattrSetkindNp a kind) ns h = kinds_depths (n + 1) st.locks _ (one_more n st.locks h)
answered_depths n s st t (dce.MutexattrDelete a) ns h = kinds_depths (n + 1) st.locks _ (one_more n st.locks h)
answered_depths n s st t (dce.MutexInit m a) ns h = init_depths (n + 1) st.locks m a (one_more n st.locks h)
answered_depths n s st t (dce.MutexDestroy m) ns h = destroy_depths (n + 1) st.locks st.rows m (waits_with st.conds m) (one_more n st.locks h)
answered_depths n s st t (dce.MutexLock m) ns h = locked n st.locks (Some m) (is_done (lock_reply (mutex_at st.locks (Some m)) t)) t h
answered_depths n s st t (dce.MutexTrylock m v) ns h = locked n st.locks (Some m) (is_done (lock_reply (mutex_at st.locks (Some m)) t)) t h
answered_depths n s st t (dce.MutexUnlock m) ns h =
    let o = unlock st.locks st.rows (Some m) t in given_depths (n + 1) (record st { locks = o.locks }) o.rows o.given (given_up n _ _ st.locks st.rows (Some m) h)
answered_depths n s st t dce.LockGlobalNp ns h = locked n st.locks None (is_done (lock_reply (mutex_at st.locks None) t)) t h
answered_depths n s st t dce.UnlockGlobalNp ns h =
    let o = unlock st.locks st.rows None t in given_depths (n + 1) (record st { locks = o.locks }) o.rows o.given (given_up n _ _ st.locks st.rows None h)
answered_depths n s st t (dce.CondWait c m) ns h =
    let o = wait st.conds st.locks st.rows c m t (rank_of st t) in
    given_depths (n + 1) (record st { conds = o.conds; locks = o.locks }) o.rows o.given (given_up n _ _ st.locks _ (Some m) h)
answered_depths n s st t (dce.CondTimedwait c m e) ns h =
    let o = timedwait st.conds st.locks st.rows c m (first ns) st.clock t (rank_of st t) in
    given_depths (n + 1) (record st { conds = o.conds; locks = o.locks }) o.rows o.given (given_up n _ _ st.locks _ (Some m) h)
answered_depths n s st t (dce.CondSignal c) ns h = let o : Signalled = signal st.conds st.rows c in signals_depths n st o o.waiter (one_more n st.locks h)
answered_depths n s st t (dce.CondBroadcast c) ns h = wake_depths n (rank_of st) st.conds st.locks st.rows _ (one_more n st.locks h)
answered_depths n s st t (dce.Read p v w) ns h =
    let o = read st.pipes st.rows p t (rank_of st t) in woken_depths (n + 1) (record st { pipes = o.pipes }) o.rows reply.Done o.relieved (one_more n st.locks h)
answered_depths n s st t (dce.Write p e) ns h =
    let o = write st.pipes st.rows p (first ns) t (rank_of st t) in woken_depths (n + 1) (record st { pipes = o.pipes }) o.rows (reply.Value (first ns)) o.reader (one_more n st.locks h)
answered_depths n s st t _ ns h = one_more n st.locks h

-- ---- turns

called_depths : (n : ℕ) (s : Script) (st : State) (t : Tid) (g : Setting) (call : DceCall) (r : Remainder) (values : Values) → Have n st → Have (n + 1) (called s st t g call r values).state
called_depths n s st t g call r (Ok ns) h = answered_depths n s st t call ns h
called_depths n s st t g call r (Err x) h = one_more n st.locks h

written_depths : (n : ℕ) (st : State) (o : Option (NameId × ℤ)) → Have n st → Have n (written_to st o)
written_depths n st None h = h
written_depths n st (Some w) h = h

shared_depths : (n : ℕ) (s : Script) (st : State) (t : Tid) (g : Setting) (r : Remainder) (act : Act) → Have n st → Have (n + 1) (shared_made s st t g r act).state
shared_depths n s st t g r (Asks call) h = called_depths n s st t g call r (asked g (shared_values st) call r) h
shared_depths n s st t g r _ h = written_depths (n + 1) st (written g (shared_values st) r) (one_more n st.locks h)

handed_depths : (n : ℕ) (st : State) (o : once.Undone) (w : Option Tid) → Have n st → Have n (handed_on st o w)
handed_depths n st o None h = h
handed_depths n st o (Some t) h = h

end_depths : (n : ℕ) (st : State) (t : Tid) (g : Setting) (r : Remainder) (o : NextDestructor) (c : Option DestructorCall) → Have n st → Have n (end_made st t g r o c).state
end_depths n st t g r o (Some c) h = h
end_depths n st t g r o None h = h

debt_depths : (n : ℕ) (st : State) (t : Tid) (g : Setting) (r : Remainder) (d : Debt) → Have n st → Have n (debt_made st t g r d).state
debt_depths n st t g r (Return y) h = h
debt_depths n st t g r Delivery h = h
debt_depths n st t g r Running h = h

halt_depths : (n : ℕ) (s : Script) (st : State) (t : Tid) (g : Setting) (r : Remainder) (halt : Halt) → Have n st → Have (n + 1) (halt_made s st t g r halt).state
halt_depths n s st t g r Delivers h = one_more n st.locks h
halt_depths n s st t g r (Shares spot) h = shared_depths n s st t g r (act_at spot) h
halt_depths n s st t g r (Undoes block m) h = let o : once.Undone = once.undone st.onces st.rows block in handed_depths (n + 1) st o o.runner (one_more n st.locks h)
halt_depths n s st t g r (Completes block m) h = one_more n st.locks h
halt_depths n s st t g r Ends h = let o : NextDestructor = next_destructor st.onces t in end_depths (n + 1) st t g r o o.call (one_more n st.locks h)
halt_depths n s st t g r Pauses h = one_more n st.locks h

by_depths : (n : ℕ) (s : Script) (st : State) (t : Tid) (d : Option Debt) → Have n st → Have (n + 1) (turn_by s st t d).state
by_depths n s st t (Some d) h = debt_depths (n + 1) (record st { debts = cut st.debts t.0 }) t (setting_of s st t) (remainder_of st t) d (one_more n st.locks h)
by_depths n s st t None h =
    let run : Run = run_of most_steps (setting_of s st t) (mode_at st.threads t) (remainder_of st t) in halt_depths n s st t (setting_of s st t) run.to run.halt h

turn_depths : (n : ℕ) (s : Script) (st : State) (t : Tid) → Have n st → Have (n + 1) (turn_of s st t).state
unfolding turn_of
turn_depths n s st t h = by_depths n s st t (debt_of st t) h

-- ---- events

dispatch_depths : (n : ℕ) (st : State) (p : ℕ) (d : Dispatched) (o : Option Tid) (made : Made) → Have n st → dispatch_made st p d o ≡ Some made → Have n made.state
dispatch_depths n st p d None made h e = absurd (cc)
dispatch_depths n st p d (Some t) made h e = subst (λ (m : Made). Have n m.state) (ap (λ o. unwrap_or o made) e) h

dispatch_if_depths : (n : ℕ) (b : Bool) (st : State) (p : ℕ) (made : Made) → Have n st → (if b then dispatch_made st p (dispatch st.rows p) (dispatch st.rows p).taken else None) ≡ Some made → Have n made.state
dispatch_if_depths n true st p made h e = dispatch_depths n st p (dispatch st.rows p) (dispatch st.rows p).taken made h e
dispatch_if_depths n false st p made h e = absurd (cc)

turn_if_depths : (n : ℕ) (s : Script) (st : State) (o : Option Tid) (made : Made) → Have n st → option_map (turn_of s st) o ≡ Some made → Have (n + 1) made.state
turn_if_depths n s st None made h e = absurd (cc)
turn_if_depths n s st (Some t) made h e = subst (λ (m : Made). Have (n + 1) m.state) (ap (λ o. unwrap_or o made) e) (turn_depths n s st t h)

clock_at_depths : (n : ℕ) (st : State) (o : Option ℤ) (made : Made) → Have n st → option_map (clock_to st) o ≡ Some made → Have (n + 1) made.state
clock_at_depths n st None made h e = absurd (cc)
clock_at_depths n st (Some now) made h e =
    subst (λ (m : Made). Have (n + 1) m.state) (ap (λ o. unwrap_or o made) e) (wake_depths n (rank_of st) st.conds st.locks st.rows (due_first st.conds st.rows now) (one_more n st.locks h))

clock_depths : (n : ℕ) (st : State) (b : Bool) (made : Made) → Have n st → clock_of b st ≡ Some made → Have (n + 1) made.state
clock_depths n st true made h e = absurd (cc)
clock_depths n st false made h e = clock_at_depths n st (earliest st.conds) made h e

made_depths : (n : ℕ) (s : Script) (k : ℕ) (st : State) (e : Event) (made : Made) → Have n st → made_by s k st e ≡ Some made → Have (n + 1) made.state
unfolding made_by
made_depths n s k st (event.Dispatch p) made h e = dispatch_if_depths (n + 1) (nat_lt p k) st p made (one_more n st.locks h) e
made_depths n s k st (event.Turn p) made h e = turn_if_depths n s st (running st.rows p) made h e
made_depths n s k st event.Clock made h e = clock_depths n st (some_can_run st.rows) made h e

longer : (xs ys : List Entry) → 0 < length ys → length xs + 1 ≤ length (xs ++ ys)
longer xs ys some = omega (arith, some, length-append xs ys)

depths_kept : {s : Script} {n : ℕ} {x : Execution} → History s n x → AreDepths (length x.entries) x.state.locks
depths_kept opened = record { mutexes = each_none (IsMutexDepth 0); global = tt }
depths_kept {s} {n} (then_event {x} h open_ e made m) =
    weaker (length x.entries + 1) (length (x.entries ++ made.lines)) made.state.locks (longer x.entries made.lines (made_line s n x.state e made m))
    (made_depths (length x.entries) s n x.state e made (depths_kept h) m)

depth_at : (n : ℕ) (o : Option Held) → IsDepth n o → IfSome o (λ h. h.depth ≤ n)
depth_at n None h = tt
depth_at n (Some x) h = h

depth_in : (n : ℕ) (o : Option Mutex) → IfThere (IsMutexDepth n) o → IfSome (owner_in o) (λ h. h.depth ≤ n)
depth_in n None h = tt
depth_in n (Some x) h = depth_at n x.held h

pub depths : (s : Script) (n : ℕ) (x : Execution) → History s n x → (m : Option NameId) → IfSome (owner x.state.locks m) (λ h. h.depth ≤ length x.entries)
depths s n x h m = depth_in (length x.entries) (mutex_at x.state.locks m) (mutex_depth (length x.entries) x.state.locks m (depths_kept h))
