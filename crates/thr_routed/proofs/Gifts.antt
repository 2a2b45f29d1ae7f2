-- Mutexes are given to threads that wait.
use Rattle.std.proofs.Common.{◌≡◌, ℕ, ℤ, Bool, true, false, cond, eqb, ◌++◌, List, [], ◌∷◌, map, Option, Some, None, refl, sym, ap, ◌∙◌}
use Rattle.std.specs.Prelude.{if◌then◌else◌, ◌&&◌}
use Rattle.thr_values.specs.declared.number.NameId.{NameId}
use Rattle.thr_values.specs.declared.number.Tid.{Tid}
use Rattle.thr_values.specs.declared.reply.Effect.TheVariants as effect
use Rattle.thr_values.specs.declared.reply.Reply.{Reply}
use Rattle.thr_values.specs.declared.reply.Reply.TheVariants as reply
use Rattle.thr_syntax.specs.declared.dce.DceCall.{DceCall}
use Rattle.thr_syntax.specs.declared.dce.DceCall.TheVariants as dce
use Rattle.thr_syntax.specs.declared.tree.Script.{Script}
use Rattle.thr_parts.specs.declared.row.RowId.TheVariants as row
use Rattle.thr_parts.specs.declared.row.Seat.{Seat}
use Rattle.thr_parts.specs.declared.wait.Wait.{Wait}
use Rattle.thr_parts.specs.declared.wait.Wait.TheVariants.{Cond}
use Rattle.thr_parts.specs.Tables.{Table, get, put_if, keep_if, has, IsCanonical}
use Rattle.thr_parts.specs.Replies.{is_blocks, is_done}
use Rattle.thr_parts.specs.Rows.{Rows, thread, best, best_first, row_of}
use Rattle.thr_parts.specs.Moves.{block_if}
use Rattle.thr_parts.specs.Threads.{ThreadsReply, natural, record_of}
use Rattle.thr_parts.specs.Cancels.{waits_at_point}
use Rattle.thr_parts.specs.Cancels as cancels
use Rattle.thr_parts.specs.Mutexes.{Locks, waiters_row, owner}
use Rattle.thr_parts.specs.Locking.{Regained, regain, unlock, is_last}
use Rattle.thr_parts.specs.Conditions.{Conds, Waited, begin_wait, wait_reply}
use Rattle.thr_parts.specs.Waking.{LeftWait, Signalled, signal, pull_out, resume, mutex_with, gift_of, wake_all}
use Rattle.thr_parts.proofs.TableLaws.{get_put}
use Rattle.thr_parts.proofs.KeptLaws.{kept_block_if, canonical_is_kept}
use Rattle.thr_laws.proofs.ReadingLaws.{AllLines}
use Rattle.thr_model.specs.States.{State, rank_of}
use Rattle.thr_model.specs.Calls.{Gifts, answered, cancelled, gifts_of, signals_one, first}
use Rattle.thr_answers.specs.Statuses.{Waiting, Astray, status_in, status_of, status_after}
use Rattle.thr_answers.proofs.StatusMoves.{Becomes}
use Rattle.thr_answers.proofs.StatusRows.{NoneAstray, becomes_so, WaitsElsewhere, wait_becomes}
use Rattle.thr_answers.proofs.StatusCalls.{IsCalling, best_elsewhere, mutex_row, mutex_astray, signalled_waits, cond_waiters, point_waits, woken_at_point}

-- The thread waits or owes something.
abbrev pub IsWaiting : State → Tid → Type 0
IsWaiting st w = status_of st w.0 ≡ Waiting

-- All these gifts go to such threads.
abbrev pub AllWait : State → Gifts → Type 0
AllWait st gs = AllLines (λ (g : Tid × Option NameId). IsWaiting st g.0) gs

-- ---- threads that leave their waits

first_gift : (P : Tid → Type 0) (t : Tid) (m : Option NameId) (b : Bool) (rest : List (Tid × NameId)) → P t → AllLines (λ (g : Tid × NameId). P g.0) rest → AllLines (λ (g : Tid × NameId). P g.0) (gift_of t m b ++ rest)
first_gift P t (Some m) true rest h hs = (h, hs)
first_gift P t (Some m) false rest h hs = hs
first_gift P t None true rest h hs = hs
first_gift P t None false rest h hs = hs

pub woken_gifts : (P : Tid → Type 0) (ts : List Tid) (rank : Tid → ℕ) (cs : Conds) (ls : Locks) (rs : Rows) → AllLines P ts → AllLines (λ (g : Tid × NameId). P g.0) (wake_all rank cs ls rs ts).gifts
unfolding wake_all
woken_gifts P [] rank cs ls rs h = tt
woken_gifts P (t ∷ ts) rank cs ls rs h =
    let left : LeftWait = pull_out cs rs t in
    let o : Regained = resume rank ls left.rows t (mutex_with cs t) in
    first_gift P t (mutex_with cs t) o.gets (wake_all rank left.conds o.locks o.rows ts).gifts h.0 (woken_gifts P ts rank left.conds o.locks o.rows h.1)

as_wait : (st : State) (gs : List (Tid × NameId)) → AllLines (λ (g : Tid × NameId). IsWaiting st g.0) gs → AllWait st (map (λ g. (g.0, Some g.1)) gs)
as_wait st [] h = tt
as_wait st (g ∷ gs) h = (h.0, as_wait st gs h.1)

-- ---- calls

given_wait : (st : State) (o : Option Tid) (m : Option NameId) → ((w : Tid) → o ≡ Some w → IsWaiting st w) → AllWait st (gifts_of o m)
given_wait st None m h = tt
given_wait st (Some w) m h = (h w refl, tt)

unlocks_wait : (st : State) (t : Tid) (m : Option NameId) → IsCalling st t.0 → AllWait st (gifts_of (unlock st.locks st.rows m t).given m)
unlocks_wait st t m k =
    let o = unlock st.locks st.rows m t in
    given_wait st o.given m (λ w e. (let x : WaitsElsewhere st.debts st.rows.seats st.conds.waits w.0 = best_elsewhere st.debts st.conds.waits st.rows (waiters_row m) k.none_astray k.sorted (mutex_row m) (mutex_astray m) (is_done o.reply && is_last (owner st.locks m)) w e in x.waits))

-- It isn't the thread that has just begun its wait.
another_waits : (st : State) (t w : Tid) (b e : Bool) (s : Table Seat) (x : Wait) (next : Option Tid) → eqb t.0 w.0 ≡ e → keep_if b next ≡ Some w → WaitsElsewhere st.debts s (put_if st.conds.waits t.0 (keep_if b (Some x))) w.0
    → status_in st.debts s (put_if st.conds.waits t.0 (keep_if b (Some x))) w.0 ≡ cond e (status_after b) (status_of st w.0) → IsWaiting st w
another_waits st t w b false s x next i k el one = sym one ∙ el.waits
another_waits st t w true true s x next i k el one = absurd (no_some (Some x) x refl (sym (ap (λ c. cond c (Some x) (get st.conds.waits w.0)) i) ∙ sym (get_put st.conds.waits t.0 w.0 x) ∙ el.no_wait))
  where
    no_some : (o : Option Wait) (y : Wait) → o ≡ Some y → o ≡ None → ⊥
    no_some o y e f = absurd (cc)
another_waits st t w false true s x next i k el one = absurd (cc)

begun_wait : (st : State) (t : Tid) (c m : NameId) (until : Option ℤ) (said : Reply) → IsCalling st t.0 → (let o : Waited = begin_wait st.conds st.locks st.rows c m until t (rank_of st t) said in AllWait st (gifts_of o.given (Some m)))
begun_wait st t c m until said k =
    let rank : ℕ = rank_of st t in
    let b : Bool = is_blocks said in
    let o : Waited = begin_wait st.conds st.locks st.rows c m until t rank said in
    let waiting : Rows = block_if b st.rows (row.Cond c) t rank in
    let one : Becomes st.debts st.rows.seats st.conds.waits t.0 (status_after b) st.debts waiting.seats o.conds.waits = wait_becomes b st.debts st.conds.waits st.rows (row.Cond c) (Cond c m until) t rank refl k.caller in
    let none : NoneAstray st.debts waiting.seats o.conds.waits = becomes_so st.debts st.debts st.rows.seats waiting.seats st.conds.waits o.conds.waits t.0 (status_after b) k.none_astray (after_not b) one in
    let sorted : IsCanonical waiting.seats = kept_block_if (IsCanonical {A = Seat}) canonical_is_kept b st.rows (row.Cond c) t rank k.sorted in
    given_wait st o.given (Some m) (λ w e.
    another_waits st t w b (eqb t.0 w.0) waiting.seats (Cond c m until) (best waiting (row.Mutex m)) refl e
    (best_elsewhere st.debts o.conds.waits waiting (row.Mutex m) none sorted refl refl b w e) (one w.0))
  where
    after_not : (b : Bool) → status_after b ≡ Astray → ⊥
    after_not true e = absurd (cc)
    after_not false e = absurd (cc)

regained_waits : (st : State) (b : Bool) (w : Tid) (m : NameId) → IsWaiting st w → AllWait st (if b then (w, Some m) ∷ [] else [])
regained_waits st true w m h = (h, tt)
regained_waits st false w m h = tt

signals_wait : (st : State) (o : Signalled) (w : Option (Tid × NameId)) → ((x : Tid × NameId) → w ≡ Some x → IsWaiting st x.0) → AllWait st (signals_one st o w).gifts
signals_wait st o None h = tt
signals_wait st o (Some w) h = regained_waits st (regain st.locks o.rows w.1 w.0 (rank_of st w.0)).gets w.0 w.1 (h w refl)

one_waits : (st : State) (t : Tid) (m : Option NameId) (b : Bool) → IsWaiting st t → AllLines (λ (g : Tid × NameId). IsWaiting st g.0) (gift_of t m b)
one_waits st t (Some m) true h = (h, tt)
one_waits st t (Some m) false h = tt
one_waits st t None true h = tt
one_waits st t None false h = tt

cancelled_waits : (st : State) (w : Tid) (o : ThreadsReply) (y : Reply) → (y ≡ reply.Effect effect.Wakes → IsWaiting st w) → AllWait st (cancelled st w o y).gifts
cancelled_waits st w o (reply.Effect effect.Wakes) h = as_wait st _ (one_waits st w (mutex_with st.conds w) _ (h refl))
cancelled_waits st w o (reply.Effect _) h = tt
cancelled_waits st w o _ h = tt

-- A call gives mutexes to threads that wait.
pub answered_gifts : (s : Script) (st : State) (t : Tid) (call : DceCall) (ns : List ℤ) → IsCalling st t.0 → AllWait st (answered s st t call ns).gifts
unfolding answered
answered_gifts s st t (dce.Cancel e) ns k =
    let who : Tid = thread (natural (first ns)) in
    let o : ThreadsReply = cancels.cancel st.threads (first ns) (waits_at_point st.rows who) in
    cancelled_waits st who o o.reply
    (λ e. point_waits (get st.debts who.0) (get st.rows.seats who.0) (get st.conds.waits who.0) (row_of st.rows who) refl (woken_at_point (record_of st.threads (first ns)) (waits_at_point st.rows who) e) (k.none_astray who.0))
answered_gifts s st t (dce.MutexUnlock m) ns k = unlocks_wait st t (Some m) k
answered_gifts s st t dce.UnlockGlobalNp ns k = unlocks_wait st t None k
answered_gifts s st t (dce.CondWait c m) ns k = begun_wait st t c m None (wait_reply st.conds st.locks c m t) k
answered_gifts s st t (dce.CondTimedwait c m e) ns k = begun_wait st t c m (Some (first ns)) _ k
answered_gifts s st t (dce.CondSignal c) ns k = let o : Signalled = signal st.conds st.rows c in signals_wait st o o.waiter (λ w e. signalled_waits st t.0 c w k e)
answered_gifts s st t (dce.CondBroadcast c) ns k =
    as_wait st _ (woken_gifts (IsWaiting st) (if has st.conds.made c.0 then best_first st.rows (row.Cond c) else []) (rank_of st) st.conds st.locks st.rows (cond_waiters st t.0 c (has st.conds.made c.0) k))
answered_gifts s st t _ ns k = tt
