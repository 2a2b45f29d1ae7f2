-- Which threads owe a delivery, and what is left in threads that wait, after each call.
use Rattle.std.proofs.Common.{◌≡◌, ℕ, ℤ, pos, negsuc, Bool, true, false, ◌||◌, cond, eqb, List, [], ◌∷◌, map, Option, Some, None, refl, sym, ap, ◌∙◌, subst}
use Rattle.std.proofs.lemmas.Bool.{eqb-true, false≢true}
use Rattle.std.specs.Ordering.{int_eq}
use Rattle.std.specs.Cmp.{signed_Decides}
use Rattle.thr_values.specs.declared.history.What.TheVariants as what
use Rattle.thr_values.specs.declared.number.NameId.{NameId}
use Rattle.thr_values.specs.declared.number.Tid.{Tid}
use Rattle.thr_values.specs.declared.reply.Effect.TheVariants as effect
use Rattle.thr_values.specs.declared.reply.Reply.{Reply}
use Rattle.thr_values.specs.declared.reply.Reply.TheVariants as reply
use Rattle.thr_syntax.specs.declared.dce.DceCall.{DceCall}
use Rattle.thr_syntax.specs.declared.dce.DceCall.TheVariants as dce
use Rattle.thr_syntax.specs.declared.tree.Script.{Script}
use Rattle.thr_remainder.specs.Remainders.{Remainder}
use Rattle.thr_remainder.specs.Starts.{fresh}
use Rattle.thr_remainder.specs.Calls.{shape_of, arguments}
use Rattle.thr_parts.specs.Tables.{Table, get, at, put, put_if, keep_if}
use Rattle.thr_parts.specs.Replies.{is_value}
use Rattle.thr_parts.specs.Rows.{Rows, thread}
use Rattle.thr_parts.specs.Threads as threads
use Rattle.thr_parts.specs.Threads.{Threads, ThreadsReply, natural, record_of}
use Rattle.thr_parts.specs.Cancels.{waits_at_point, cancel_reply}
use Rattle.thr_parts.specs.Cancels as cancels
use Rattle.thr_parts.specs.Locking.{unlock}
use Rattle.thr_parts.specs.Conditions.{wait, timedwait}
use Rattle.thr_parts.specs.Waking.{Signalled, signal, broadcast}
use Rattle.thr_parts.specs.Pipes.{read, write}
use Rattle.thr_parts.proofs.TableLaws.{get_put, at_put}
use Rattle.thr_laws.specs.Known.{cancel_of, reply_if, is_wakes}
use Rattle.thr_model.specs.States.{State, Debt, Return, Delivery, nothing_left, rank_of, owes_more, all_owe}
use Rattle.thr_model.specs.Calls.{Answered, answered, cancelled, given_state, signals_one, woken_state, first}
use Rattle.thr_model.specs.Events.{due_debt, due_owe}
use Rattle.thr_answers.specs.Owing.{delivers}
use Rattle.thr_answers.proofs.CallLines.{AreValues}
use Rattle.thr_answers.proofs.StatusCalls.{cancelled_reply}
use Rattle.thr_parts.specs.Closing.{close_out}

-- ---- deliveries that are owed

-- Who owes a delivery after owed it before, or this holds of it.
abbrev pub NoNew : Table Debt → Table Debt → (ℕ → Bool) → Type 0
NoNew d d' w = (u : ℕ) → delivers (get d' u) ≡ true → (delivers (get d u) || w u) ≡ true

abbrev pub nobody : ℕ → Bool
nobody u = false

pub either_left : (a b : Bool) → a ≡ true → (a || b) ≡ true
either_left true b e = refl
either_left false b e = absurd (cc)

either_right : (a b : Bool) → b ≡ true → (a || b) ≡ true
either_right true b e = refl
either_right false b e = e

pub only_left : (a : Bool) → (a || false) ≡ true → a ≡ true
only_left true e = refl
only_left false e = absurd (cc)

put_either : (b : Bool) (x o : Option Debt) (w : Bool) → delivers x ≡ false → delivers (cond b x o) ≡ true → (delivers o || w) ≡ true
put_either true x o w n e = absurd (false≢true (sym n ∙ e))
put_either false x o w n e = either_left (delivers o) w e

pub put_no_new : (d : Table Debt) (t : ℕ) (x : Debt) (w : ℕ → Bool) → delivers (Some x) ≡ false → NoNew d (put d t x) w
put_no_new d t x w n u e = put_either (eqb t u) (Some x) (get d u) (w u) n (sym (ap delivers (get_put d t u x)) ∙ e)

pub same_no_new : (d : Table Debt) (w : ℕ → Bool) → NoNew d d w
same_no_new d w u e = either_left (delivers (get d u)) (w u) e

-- Two changes, the second of which makes nobody owe one.
pub then_no_new : (d e f : Table Debt) (w : ℕ → Bool) → NoNew d e w → NoNew e f nobody → NoNew d f w
then_no_new d e f w h k u i = h u (only_left (delivers (get e u)) (k u i))

pub all_no_new : (ts : List Tid) (d : Table Debt) (x : Debt) → delivers (Some x) ≡ false → NoNew d (all_owe d x ts) nobody
all_no_new [] d x n = same_no_new d nobody
all_no_new (t ∷ ts) d x n = then_no_new d (put d t.0 x) (all_owe (put d t.0 x) x ts) nobody (put_no_new d t.0 x nobody n) (all_no_new ts (put d t.0 x) x n)

due_not : (m : Option NameId) → delivers (Some (due_debt m)) ≡ false
due_not None = refl
due_not (Some m) = refl

pub due_no_new : (ws : List (Tid × Option NameId)) (d : Table Debt) → NoNew d (due_owe d ws) nobody
due_no_new [] d = same_no_new d nobody
due_no_new (w ∷ ws) d = then_no_new d (put d w.0.0 (due_debt w.1)) (due_owe (put d w.0.0 (due_debt w.1)) ws) nobody (put_no_new d w.0.0 (due_debt w.1) nobody (due_not w.1)) (due_no_new ws (put d w.0.0 (due_debt w.1)))

more_no_new : (d : Table Debt) (o : Option Debt) (x : Debt) (t : Tid) (w : ℕ → Bool) → delivers (Some x) ≡ false → NoNew d (owes_more d o x t) w
more_no_new d None x t w n = put_no_new d t.0 x w n
more_no_new d (Some earlier) x t w n = same_no_new d w

-- ---- calls

given_no_new : (st : State) (rs : Rows) (o : Option Tid) (w : ℕ → Bool) → NoNew st.debts (given_state st rs o).debts w
given_no_new st rs None w = same_no_new st.debts w
given_no_new st rs (Some t) w = more_no_new st.debts (get st.debts t.0) (Return reply.Done) t w refl

signals_no_new : (st : State) (o : Signalled) (x : Option (Tid × NameId)) (w : ℕ → Bool) → NoNew st.debts (signals_one st o x).state.debts w
signals_no_new st o None w = same_no_new st.debts w
signals_no_new st o (Some x) w = put_no_new st.debts x.0.0 (Return reply.Done) w refl

woken_no_new : (st : State) (rs : Rows) (y : Reply) (o : Option Tid) (w : ℕ → Bool) → NoNew st.debts (woken_state st rs y o).debts w
woken_no_new st rs y None w = same_no_new st.debts w
woken_no_new st rs y (Some t) w = put_no_new st.debts t.0 (Return y) w refl

wider : (d e : Table Debt) (w : ℕ → Bool) → NoNew d e nobody → NoNew d e w
wider d e w h u i = either_left (delivers (get d u)) (w u) (only_left (delivers (get d u)) (h u i))

woken_reply : (n u : ℕ) (b : Bool) → eqb n u ≡ b → (m : Bool) → int_eq (pos n) (pos u) ≡ m → (pos n ≡ pos u → m ≡ true) → (o : Option Debt) → delivers (cond b (Some Delivery) o) ≡ true
    → (delivers o || is_wakes (reply_if m (reply.Effect effect.Wakes))) ≡ true
woken_reply n u true e m i h o k = either_right (delivers o) (is_wakes (reply_if m (reply.Effect effect.Wakes))) (ap (λ b. is_wakes (reply_if b (reply.Effect effect.Wakes))) (h (ap pos (eqb-true n u e))))
woken_reply n u false e m i h o k = either_left (delivers o) _ k

-- The thread of this number is woken by a cancel.
abbrev cancels_it : ℤ → Reply → ℕ → Bool
cancels_it n y u = is_wakes (reply_if (int_eq n (pos u)) y)

cancel_no_new : (st : State) (target : ℤ) (o : ThreadsReply) (y : Reply) → (y ≡ reply.Effect effect.Wakes → (n : ℕ) × (target ≡ pos n)) → NoNew st.debts (cancelled st (thread (natural target)) o y).state.debts (cancels_it target y)
cancel_no_new st target o (reply.Effect effect.Wakes) h =
    let n = h refl in
    subst (λ (x : ℤ). NoNew st.debts (put st.debts (natural x) Delivery) (cancels_it x (reply.Effect effect.Wakes))) (sym n.1)
    (λ u e. woken_reply n.0 u (eqb n.0 u) refl (int_eq (pos n.0) (pos u)) refl (λ i. (signed_Decides (pos n.0) (pos u)).1 i) (get st.debts u) (sym (ap delivers (get_put st.debts n.0 u Delivery)) ∙ e))
cancel_no_new st target o (reply.Effect effect.Ended) h = same_no_new st.debts (cancels_it target (reply.Effect effect.Ended))
cancel_no_new st target o (reply.Effect effect.Merged) h = same_no_new st.debts (cancels_it target (reply.Effect effect.Merged))
cancel_no_new st target o (reply.Effect effect.Pending) h = same_no_new st.debts (cancels_it target (reply.Effect effect.Pending))
cancel_no_new st target o y h = same_no_new st.debts (cancels_it target y)

target_there : (ths : Threads) (target : ℤ) (b : Bool) → cancel_reply (record_of ths target) b ≡ reply.Effect effect.Wakes → (n : ℕ) × (target ≡ pos n)
target_there ths (pos n) b e = (n, refl)
target_there ths (negsuc n) b e = absurd (cc)

-- ---- all calls

-- A call makes nobody owe a delivery but the thread that it wakes.
pub answered_no_new : (s : Script) (st : State) (t : Tid) (call : DceCall) (ns : List ℤ) → AreValues call ns
    → (let o : Answered = answered s st t call ns in NoNew st.debts o.state.debts (λ u. is_wakes (cancel_of u (what.Call (shape_of call).word (arguments call ns) o.reply))))
unfolding answered shape_of
answered_no_new s st t (dce.Cancel e) [] v = absurd (cc)
answered_no_new s st t (dce.Cancel e) (n ∷ ns) v =
    let who : Tid = thread (natural n) in
    let o : ThreadsReply = cancels.cancel st.threads n (waits_at_point st.rows who) in
    subst (λ y. NoNew st.debts (cancelled st who o o.reply).state.debts (cancels_it n y)) (sym (cancelled_reply st who o o.reply refl))
    (cancel_no_new st n o o.reply (λ e. target_there st.threads n (waits_at_point st.rows who) e))
answered_no_new s st t (dce.MutexUnlock m) ns v = let o = unlock st.locks st.rows (Some m) t in given_no_new (record st { locks = o.locks }) o.rows o.given _
answered_no_new s st t dce.UnlockGlobalNp ns v = let o = unlock st.locks st.rows None t in given_no_new (record st { locks = o.locks }) o.rows o.given _
answered_no_new s st t (dce.CondWait c m) ns v =
    let o = wait st.conds st.locks st.rows c m t (rank_of st t) in given_no_new (record st { conds = o.conds; locks = o.locks }) o.rows o.given _
answered_no_new s st t (dce.CondTimedwait c m e) ns v =
    let o = timedwait st.conds st.locks st.rows c m (first ns) st.clock t (rank_of st t) in given_no_new (record st { conds = o.conds; locks = o.locks }) o.rows o.given _
answered_no_new s st t (dce.CondSignal c) ns v = let o : Signalled = signal st.conds st.rows c in signals_no_new st o o.waiter _
answered_no_new s st t (dce.CondBroadcast c) ns v = wider st.debts _ _ (all_no_new (map (λ w. w.0) (broadcast (rank_of st) st.conds st.locks st.rows c).woken.woken) st.debts (Return reply.Done) refl)
answered_no_new s st t (dce.Read p x w) ns v = let o = read st.pipes st.rows p t (rank_of st t) in woken_no_new (record st { pipes = o.pipes }) o.rows reply.Done o.relieved _
answered_no_new s st t (dce.Write p e) ns v = let o = write st.pipes st.rows p (first ns) t (rank_of st t) in woken_no_new (record st { pipes = o.pipes }) o.rows (reply.Value (first ns)) o.reader _
answered_no_new s st t (dce.Close p) ns v =
    let o = close_out (rank_of st) st.pipes st.rows p in
    wider st.debts _ _ (then_no_new st.debts (all_owe st.debts (Return reply.Eof) o.readers) (all_owe (all_owe st.debts (Return reply.Eof) o.readers) (Return reply.Epipe) o.writers) nobody (all_no_new o.readers st.debts (Return reply.Eof) refl) (all_no_new o.writers (all_owe st.debts (Return reply.Eof) o.readers) (Return reply.Epipe) refl))
answered_no_new s st t _ ns v = same_no_new st.debts _

-- ---- what is left in other threads

-- What is left in a thread that waits stays.
abbrev pub LeavesLeft : State → Table Remainder → ℕ → Type 0
LeavesLeft st after u = at after u nothing_left ≡ at st.remainders u nothing_left

pub put_left : (m : Table Remainder) (k u : ℕ) (r : Remainder) (b : Bool) → eqb k u ≡ b → (k ≡ u → ⊥) → at (put m k r) u nothing_left ≡ at m u nothing_left
put_left m k u r true e n = absurd (n (eqb-true k u e))
put_left m k u r false e n = at_put m k u r nothing_left ∙ ap (λ b. cond b r (at m u nothing_left)) e

created_left : (st : State) (u : ℕ) (b : Bool) (r : Remainder) → (st.threads.next ≡ u → ⊥) → LeavesLeft st (put_if st.remainders st.threads.next (keep_if b (Some r))) u
created_left st u true r n = put_left st.remainders st.threads.next u r (eqb st.threads.next u) refl n
created_left st u false r n = refl

cancelled_left : (st : State) (w : Tid) (o : ThreadsReply) (y : Reply) (u : ℕ) → LeavesLeft st (cancelled st w o y).state.remainders u
cancelled_left st w o (reply.Effect effect.Wakes) u = refl
cancelled_left st w o (reply.Effect _) u = refl
cancelled_left st w o _ u = refl

given_left : (st : State) (rs : Rows) (o : Option Tid) (u : ℕ) → LeavesLeft st (given_state st rs o).remainders u
given_left st rs None u = refl
given_left st rs (Some t) u = refl

signals_left : (st : State) (o : Signalled) (w : Option (Tid × NameId)) (u : ℕ) → LeavesLeft st (signals_one st o w).state.remainders u
signals_left st o None u = refl
signals_left st o (Some w) u = refl

woken_left : (st : State) (rs : Rows) (y : Reply) (o : Option Tid) (u : ℕ) → LeavesLeft st (woken_state st rs y o).remainders u
woken_left st rs y None u = refl
woken_left st rs y (Some t) u = refl

pub answered_left : (s : Script) (st : State) (t : Tid) (call : DceCall) (ns : List ℤ) (u : ℕ) → (st.threads.next ≡ u → ⊥) → LeavesLeft st (answered s st t call ns).state.remainders u
unfolding answered
answered_left s st t (dce.Create v a routine e) ns u n = created_left st u (is_value (threads.create st.threads t a).reply) (fresh s routine (first ns)) n
answered_left s st t (dce.Cancel e) ns u n =
    let who : Tid = thread (natural (first ns)) in let o : ThreadsReply = cancels.cancel st.threads (first ns) (waits_at_point st.rows who) in cancelled_left st who o o.reply u
answered_left s st t (dce.MutexUnlock m) ns u n = let o = unlock st.locks st.rows (Some m) t in given_left (record st { locks = o.locks }) o.rows o.given u
answered_left s st t dce.UnlockGlobalNp ns u n = let o = unlock st.locks st.rows None t in given_left (record st { locks = o.locks }) o.rows o.given u
answered_left s st t (dce.CondWait c m) ns u n =
    let o = wait st.conds st.locks st.rows c m t (rank_of st t) in given_left (record st { conds = o.conds; locks = o.locks }) o.rows o.given u
answered_left s st t (dce.CondTimedwait c m e) ns u n =
    let o = timedwait st.conds st.locks st.rows c m (first ns) st.clock t (rank_of st t) in given_left (record st { conds = o.conds; locks = o.locks }) o.rows o.given u
answered_left s st t (dce.CondSignal c) ns u n = let o : Signalled = signal st.conds st.rows c in signals_left st o o.waiter u
answered_left s st t (dce.Read p v w) ns u n = let o = read st.pipes st.rows p t (rank_of st t) in woken_left (record st { pipes = o.pipes }) o.rows reply.Done o.relieved u
answered_left s st t (dce.Write p e) ns u n = let o = write st.pipes st.rows p (first ns) t (rank_of st t) in woken_left (record st { pipes = o.pipes }) o.rows (reply.Value (first ns)) o.reader u
answered_left s st t _ ns u n = refl
