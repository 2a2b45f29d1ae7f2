-- What calls do with locks, in the state and by their lines.
use Rattle.std.proofs.Common.{◌≡◌, ℤ, List, [], ◌∷◌, Option, Some, None, refl, sym, subst}
use Rattle.std.specs.Prelude.{⊤}
use Rattle.thr_values.specs.declared.number.NameId.{NameId}
use Rattle.thr_values.specs.declared.number.Tid.{Tid}
use Rattle.thr_values.specs.declared.call.Arg.{Arg}
use Rattle.thr_values.specs.declared.call.Arg.TheVariants as arg
use Rattle.thr_values.specs.declared.call.CallWord.{CallWord}
use Rattle.thr_values.specs.declared.call.CallWord.TheVariants as word
use Rattle.thr_values.specs.declared.history.What.TheVariants as what
use Rattle.thr_values.specs.declared.history.Entry.{Entry}
use Rattle.thr_values.specs.declared.reply.Effect.TheVariants as effect
use Rattle.thr_values.specs.declared.reply.Kind.{Kind}
use Rattle.thr_values.specs.declared.reply.Reply.{Reply}
use Rattle.thr_values.specs.declared.reply.Reply.TheVariants as reply
use Rattle.thr_syntax.specs.declared.dce.DceCall.{DceCall}
use Rattle.thr_syntax.specs.declared.dce.DceCall.TheVariants as dce
use Rattle.thr_syntax.specs.declared.tree.Script.{Script}
use Rattle.thr_remainder.specs.Calls.{shape_of, arguments}
use Rattle.thr_parts.specs.Replies.{is_done, is_blocks}
use Rattle.thr_parts.specs.Rows.{Rows, thread}
use Rattle.thr_parts.specs.Threads.{ThreadsReply, natural}
use Rattle.thr_parts.specs.Cancels.{waits_at_point}
use Rattle.thr_parts.specs.Cancels as cancels
use Rattle.thr_parts.specs.Mutexes.{Locks, mutex_at}
use Rattle.thr_parts.specs.Locking.{lock_reply, trylock_reply, unlock, is_free}
use Rattle.thr_parts.specs.Conditions.{waits_with, wait, timedwait}
use Rattle.thr_parts.specs.Waking.{Signalled, mutex_with, signal, broadcast}
use Rattle.thr_parts.specs.Moves.{take_out}
use Rattle.thr_parts.specs.Pipes.{read, write}
use Rattle.thr_model.specs.States.{State, rank_of}
use Rattle.thr_model.specs.Calls.{Answered, answered, cancelled, given_state, signals_one, notifies, woken_state, first}
use Rattle.thr_model.specs.Turns.{thread_line, gift_lines}
use Rattle.thr_laws.specs.Owners.{Lock, Unlocks, GivesUp, used_if, Cells, kind_after, kind_done}
use Rattle.thr_laws.specs.Owners as told
use Rattle.thr_owners.specs.Told.{View, view}
use Rattle.thr_owners.proofs.Carrying.{Carries, then_lines, Does, aside_carries}
use Rattle.thr_owners.proofs.Using.{lock_carries, trylock_carries, unlock_carries, wait_carries, timedwait_carries, regain_carries, gift_carries, wake_all_carries}
use Rattle.thr_owners.proofs.Making.{create_carries, set_carries, delete_carries, destroy_carries, init_carries}

-- ---- what the lines of calls do

-- The call makes no mutex.
abbrev IsNoInit : CallWord → Type 0
IsNoInit word.MutexInit = ⊥
IsNoInit _ = ⊤

kind_kept : (lock : Lock) (call : CallWord) (args : List Arg) (cells : Cells) (kind : Kind) → IsNoInit call → kind_done lock call args cells kind ≡ kind
kind_kept None call args cells kind h = refl
kind_kept (Some m) word.MutexInit args cells kind h = absurd h
kind_kept (Some m) _ args cells kind h = refl

tells_no_kind : (call : CallWord) (args : List Arg) (y : Reply) → IsNoInit call → (lock : Lock) (cells : Cells) (kind : Kind) → kind_after lock (what.Call call args y) cells kind ≡ kind
tells_no_kind call args reply.Done h lock cells kind = kind_kept lock call args cells kind h
tells_no_kind call args _ h lock cells kind = refl

lock_does : (m : NameId) (args : List Arg) (y : Reply) → Does (what.Call word.MutexLock (arg.Name m ∷ args) y) (used_if (is_done y) (told.Locks (Some m)))
lock_does m args reply.Done = record { using = refl; cells = λ cells. refl; kind = tells_no_kind word.MutexLock (arg.Name m ∷ args) reply.Done tt }
lock_does m args _ = record { using = refl; cells = λ cells. refl; kind = λ lock cells kind. refl }

lock_global_does : (args : List Arg) (y : Reply) → Does (what.Call word.LockGlobalNp args y) (used_if (is_done y) (told.Locks None))
lock_global_does args reply.Done = record { using = refl; cells = λ cells. refl; kind = tells_no_kind word.LockGlobalNp args reply.Done tt }
lock_global_does args _ = record { using = refl; cells = λ cells. refl; kind = λ lock cells kind. refl }

trylock_does : (m : NameId) (args : List Arg) (y : Reply) → Does (what.Call word.MutexTrylock (arg.Name m ∷ args) (trylock_reply y)) (used_if (is_done y) (told.Locks (Some m)))
trylock_does m args reply.Done = record { using = refl; cells = λ cells. refl; kind = λ lock cells kind. refl }
trylock_does m args reply.Einval = record { using = refl; cells = λ cells. refl; kind = λ lock cells kind. refl }
trylock_does m args _ = record { using = refl; cells = λ cells. refl; kind = λ lock cells kind. refl }

unlock_does : (m : NameId) (args : List Arg) (y : Reply) → Does (what.Call word.MutexUnlock (arg.Name m ∷ args) y) (used_if (is_done y) (Unlocks (Some m)))
unlock_does m args reply.Done = record { using = refl; cells = λ cells. refl; kind = tells_no_kind word.MutexUnlock (arg.Name m ∷ args) reply.Done tt }
unlock_does m args _ = record { using = refl; cells = λ cells. refl; kind = λ lock cells kind. refl }

unlock_global_does : (args : List Arg) (y : Reply) → Does (what.Call word.UnlockGlobalNp args y) (used_if (is_done y) (Unlocks None))
unlock_global_does args reply.Done = record { using = refl; cells = λ cells. refl; kind = tells_no_kind word.UnlockGlobalNp args reply.Done tt }
unlock_global_does args _ = record { using = refl; cells = λ cells. refl; kind = λ lock cells kind. refl }

wait_does : (c : Arg) (m : NameId) (args : List Arg) (y : Reply) → Does (what.Call word.CondWait (c ∷ arg.Name m ∷ args) y) (used_if (is_blocks y) (GivesUp (Some m)))
wait_does c m args reply.Done = record { using = refl; cells = λ cells. refl; kind = tells_no_kind word.CondWait (c ∷ arg.Name m ∷ args) reply.Done tt }
wait_does c m args _ = record { using = refl; cells = λ cells. refl; kind = λ lock cells kind. refl }

timedwait_does : (c : Arg) (m : NameId) (args : List Arg) (y : Reply) → Does (what.Call word.CondTimedwait (c ∷ arg.Name m ∷ args) y) (used_if (is_blocks y) (GivesUp (Some m)))
timedwait_does c m args reply.Done = record { using = refl; cells = λ cells. refl; kind = tells_no_kind word.CondTimedwait (c ∷ arg.Name m ∷ args) reply.Done tt }
timedwait_does c m args _ = record { using = refl; cells = λ cells. refl; kind = λ lock cells kind. refl }

-- ---- states with the same locks

given_locks : (st : State) (rs : Rows) (o : Option Tid) → (given_state st rs o).locks ≡ st.locks
given_locks st rs None = refl
given_locks st rs (Some t) = refl

woken_locks : (st : State) (rs : Rows) (y : Reply) (o : Option Tid) → (woken_state st rs y o).locks ≡ st.locks
woken_locks st rs y None = refl
woken_locks st rs y (Some t) = refl

-- Lines that lead to these locks.
pub to_locks : (k : Lock) (v : View) (ls more : Locks) (lines : List Entry) → more ≡ ls → Carries k v (view k ls) lines → Carries k v (view k more) lines
to_locks k v ls more lines e c = subst (λ (x : Locks). Carries k v (view k x) lines) (sym e) c

-- ---- calls

-- The call's line, and those of the threads that it gave a mutex.
abbrev pub call_lines : Tid → DceCall → List ℤ → Answered → List Entry
call_lines t call ns o = thread_line t (what.Call (shape_of call).word (arguments call ns) o.reply) ∷ gift_lines o.gifts

cancelled_carries : (k : Lock) (st : State) (t target : Tid) (o : ThreadsReply) (y : Reply) (args : List Arg)
    → (let a : Answered = cancelled st target o y in
    Carries k (view k st.locks) (view k a.state.locks) (thread_line t (what.Call word.Cancel args a.reply) ∷ gift_lines a.gifts))
cancelled_carries k st t target o (reply.Effect effect.Wakes) args =
    let a : Answered = cancelled st target o (reply.Effect effect.Wakes) in
    then_lines k (view k st.locks) (view k st.locks) (view k a.state.locks) (thread_line t (what.Call word.Cancel args a.reply) ∷ []) (gift_lines a.gifts)
    (aside_carries k (view k st.locks) t (what.Call word.Cancel args a.reply) tt)
    (gift_carries k (rank_of st) st.locks (take_out st.rows target).rows target (mutex_with st.conds target))
cancelled_carries k st t target o (reply.Effect _) args = aside_carries k (view k st.locks) t (what.Call word.Cancel args o.reply) tt
cancelled_carries k st t target o _ args = aside_carries k (view k st.locks) t (what.Call word.Cancel args o.reply) tt

signals_carries : (k : Lock) (st : State) (t : Tid) (o : Signalled) (w : Option (Tid × NameId)) (args : List Arg)
    → (let a : Answered = signals_one st o w in
    Carries k (view k st.locks) (view k a.state.locks) (thread_line t (what.Call word.CondSignal args a.reply) ∷ gift_lines a.gifts))
signals_carries k st t o None args = aside_carries k (view k st.locks) t (what.Call word.CondSignal args o.reply) tt
signals_carries k st t o (Some w) args =
    let a : Answered = signals_one st o (Some w) in
    then_lines k (view k st.locks) (view k st.locks) (view k a.state.locks) (thread_line t (what.Call word.CondSignal args o.reply) ∷ []) (gift_lines a.gifts)
    (aside_carries k (view k st.locks) t (what.Call word.CondSignal args o.reply) tt)
    (regain_carries k w.1 st.locks w.0 (is_free (mutex_at st.locks (Some w.1))) refl)

broadcast_carries : (k : Lock) (st : State) (t : Tid) (c : NameId) (args : List Arg)
    → (let a : Answered = notifies st (broadcast (rank_of st) st.conds st.locks st.rows c) in
    Carries k (view k st.locks) (view k a.state.locks) (thread_line t (what.Call word.CondBroadcast args a.reply) ∷ gift_lines a.gifts))
broadcast_carries k st t c args =
    let a : Answered = notifies st (broadcast (rank_of st) st.conds st.locks st.rows c) in
    then_lines k (view k st.locks) (view k st.locks) (view k a.state.locks) (thread_line t (what.Call word.CondBroadcast args a.reply) ∷ []) (gift_lines a.gifts)
    (aside_carries k (view k st.locks) t (what.Call word.CondBroadcast args a.reply) tt)
    (wake_all_carries k (rank_of st) st.conds st.locks st.rows _)

pub answered_carries : (k : Lock) (s : Script) (st : State) (t : Tid) (call : DceCall) (ns : List ℤ)
    → (let a : Answered = answered s st t call ns in Carries k (view k st.locks) (view k a.state.locks) (call_lines t call ns a))
unfolding answered shape_of
answered_carries k s st t (dce.Cancel e) ns =
    let who : Tid = thread (natural (first ns)) in
    let o : ThreadsReply = cancels.cancel st.threads (first ns) (waits_at_point st.rows who) in cancelled_carries k st t who o o.reply _
answered_carries k s st t (dce.MutexattrCreate a) ns = create_carries k st.locks a t _
answered_carries k s st t (dce.MutexattrSetkindNp a kind) ns = set_carries k st.locks a kind t _
answered_carries k s st t (dce.MutexattrDelete a) ns = delete_carries k st.locks a t _ tt
answered_carries k s st t (dce.MutexInit m None) ns = init_carries k st.locks m None t _
answered_carries k s st t (dce.MutexInit m (Some a)) ns = init_carries k st.locks m (Some a) t _
answered_carries k s st t (dce.MutexDestroy m) ns = destroy_carries k st.locks st.rows m (waits_with st.conds m) t _ tt
answered_carries k s st t (dce.MutexLock m) ns =
    lock_carries k (Some m) st.locks st.rows t (rank_of st t) _ (lock_does m _ (lock_reply (mutex_at st.locks (Some m)) t))
answered_carries k s st t (dce.MutexTrylock m v) ns = trylock_carries k m st.locks t _ (trylock_does m _ (lock_reply (mutex_at st.locks (Some m)) t))
answered_carries k s st t (dce.MutexUnlock m) ns =
    let o = unlock st.locks st.rows (Some m) t in
    to_locks k (view k st.locks) o.locks _ _ (given_locks (record st { locks = o.locks }) o.rows o.given)
    (unlock_carries k (Some m) st.locks st.rows t _ (unlock_does m _ o.reply))
answered_carries k s st t dce.LockGlobalNp ns =
    lock_carries k None st.locks st.rows t (rank_of st t) _ (lock_global_does _ (lock_reply (mutex_at st.locks None) t))
answered_carries k s st t dce.UnlockGlobalNp ns =
    let o = unlock st.locks st.rows None t in
    to_locks k (view k st.locks) o.locks _ _ (given_locks (record st { locks = o.locks }) o.rows o.given)
    (unlock_carries k None st.locks st.rows t _ (unlock_global_does _ o.reply))
answered_carries k s st t (dce.CondWait c m) ns =
    let o = wait st.conds st.locks st.rows c m t (rank_of st t) in
    to_locks k (view k st.locks) o.locks _ _ (given_locks (record st { conds = o.conds; locks = o.locks }) o.rows o.given)
    (wait_carries k st.conds st.locks st.rows c m t (rank_of st t) _ (wait_does (arg.Name c) m _ o.reply))
answered_carries k s st t (dce.CondTimedwait c m e) ns =
    let o = timedwait st.conds st.locks st.rows c m (first ns) st.clock t (rank_of st t) in
    to_locks k (view k st.locks) o.locks _ _ (given_locks (record st { conds = o.conds; locks = o.locks }) o.rows o.given)
    (timedwait_carries k st.conds st.locks st.rows c m (first ns) st.clock t (rank_of st t) _ (timedwait_does (arg.Name c) m _ o.reply))
answered_carries k s st t (dce.CondSignal c) ns = let o : Signalled = signal st.conds st.rows c in signals_carries k st t o o.waiter _
answered_carries k s st t (dce.CondBroadcast c) ns = broadcast_carries k st t c _
answered_carries k s st t (dce.Read p v w) ns =
    let o = read st.pipes st.rows p t (rank_of st t) in
    to_locks k (view k st.locks) st.locks _ _ (woken_locks (record st { pipes = o.pipes }) o.rows reply.Done o.relieved) (aside_carries k (view k st.locks) t _ tt)
answered_carries k s st t (dce.Write p e) ns =
    let o = write st.pipes st.rows p (first ns) t (rank_of st t) in
    to_locks k (view k st.locks) st.locks _ _ (woken_locks (record st { pipes = o.pipes }) o.rows (reply.Value (first ns)) o.reader) (aside_carries k (view k st.locks) t _ tt)
answered_carries k s st t _ ns = aside_carries k (view k st.locks) t _ tt
