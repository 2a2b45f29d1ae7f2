-- Where a thread stands after a call.
use Rattle.std.proofs.Common.{◌≡◌, ℕ, suc, ℤ, Bool, true, false, ◌&&◌, cond, eqb, List, [], Option, Some, None, refl, sym, ◌∙◌, ap, subst}
use Rattle.std.proofs.lemmas.Bool.{false≢true}
use Rattle.std.specs.Prelude.{if◌then◌else◌, is_some, not, int_le}
use Rattle.std.specs.Option.{option_map, option_and_then, unwrap_or}
use Rattle.thr_values.specs.declared.number.NameId.{NameId}
use Rattle.thr_values.specs.declared.number.Tid.{Tid}
use Rattle.thr_values.specs.declared.reply.Effect.{Effect}
use Rattle.thr_values.specs.declared.reply.Effect.TheVariants as effect
use Rattle.thr_values.specs.declared.reply.Reply.{Reply}
use Rattle.thr_values.specs.declared.reply.Reply.TheVariants as reply
use Rattle.thr_syntax.specs.declared.dce.DceCall.{DceCall}
use Rattle.thr_syntax.specs.declared.dce.DceCall.TheVariants as dce
use Rattle.thr_syntax.specs.declared.tree.Script.{Script}
use Rattle.thr_remainder.specs.Calls.{shape_of, is_point}
use Rattle.thr_parts.specs.declared.row.RowId.{RowId}
use Rattle.thr_parts.specs.declared.row.RowId.TheVariants as row
use Rattle.thr_parts.specs.declared.row.Place.TheVariants.{Stands}
use Rattle.thr_parts.specs.declared.row.Seat.{Seat}
use Rattle.thr_parts.specs.declared.thread.Thread.{Thread}
use Rattle.thr_parts.specs.Tables.{get, keep_if, has, IsCanonical}
use Rattle.thr_parts.specs.Replies.{is_value, is_blocks}
use Rattle.thr_parts.specs.Rows.{Rows, thread, row_at, best, best_first}
use Rattle.thr_parts.specs.Moves.{take_out_if, block_if, put_in_row}
use Rattle.thr_parts.specs.Threads as threads
use Rattle.thr_parts.specs.Threads.{Threads, ThreadsReply, natural, rank_at, record_of}
use Rattle.thr_parts.specs.Scheduling.{setprio, setscheduler}
use Rattle.thr_parts.specs.Cancels.{is_point_row, waits_at_point, effect_on, cancel_reply}
use Rattle.thr_parts.specs.Cancels as cancels
use Rattle.thr_parts.specs.Mutexes.{waiters_row, mutex_at}
use Rattle.thr_parts.specs.Locking.{is_free, unlock, lock_reply}
use Rattle.thr_parts.specs.Conditions.{Conds, Waited, wait, timedwait, wait_reply, timedwait_reply, delay_reply}
use Rattle.thr_parts.specs.Waking.{beside_mutex, thread_in, mutex_with, signal}
use Rattle.thr_parts.specs.OnceBlocks.{enter}
use Rattle.thr_parts.specs.Pipes.{Pipe, ReadReply, WriteReply, pipe_at, read, write, write_reply}
use Rattle.thr_parts.proofs.TableLaws.{get_put}
use Rattle.thr_parts.proofs.MoveLaws.{canonical_block_if}
use Rattle.thr_parts.proofs.PartLaws.{canonical_free_row}
use Rattle.thr_parts.specs.Closing.{free_if}
use Rattle.thr_model.specs.States.{State, rank_of}
use Rattle.thr_model.specs.Calls.{answered, ready_if, rank_if, cancelled, given_state, signals_one, woken_state, first, second}
use Rattle.thr_cancels.proofs.Seats.{IsMoved, same, created, then_moves, wakes_best, block_moves, block_if_moves, set_rank_moves, row_among, Among, free_if_moves, wake_all_moves, cancel_wait_moves, is_calm_row}

-- The call waits at a point.
abbrev pub waits_there : DceCall → Reply → Bool
waits_there call y = is_blocks y && is_point (shape_of call).word

-- ---- what wakes

pub effect_wakes : (a p g b : Bool) → (let x : Effect = if a then effect.Ended else (if p then effect.Merged else (if g && b then effect.Wakes else effect.Pending)) in reply.Effect x) ≡ reply.Effect effect.Wakes
    → (a ≡ false) × (p ≡ false) × (g ≡ true) × (b ≡ true)
effect_wakes true p g b e = absurd (cc)
effect_wakes false true g b e = absurd (cc)
effect_wakes false false false b e = absurd (cc)
effect_wakes false false true false e = absurd (cc)
effect_wakes false false true true e = (refl, refl, refl, refl)

pub wakes_at_point : (o : Option Thread) (b : Bool) → cancel_reply o b ≡ reply.Effect effect.Wakes → b ≡ true
wakes_at_point None b e = absurd (cc)
wakes_at_point (Some th) b e = (effect_wakes (is_some th.ended) th.mode.pending th.mode.general b e).3

pub point_seat : (rs : Rows) (w : Tid) → waits_at_point rs w ≡ true → is_some (get rs.seats w.0) ≡ true
point_seat rs w e = by_seat (get rs.seats w.0) e
  where
    by_seat : (o : Option Seat) → cancels.is_point (row_at o) ≡ true → is_some o ≡ true
    by_seat None e = absurd (false≢true e)
    by_seat (Some s) e = refl

pub signalled : (cs : Conds) (o : Option Tid) (b : Bool) (w : Tid × NameId) → keep_if b (option_and_then (beside_mutex cs) o) ≡ Some w → o ≡ Some w.0
signalled cs None true w e = absurd (cc)
signalled cs None false w e = absurd (cc)
signalled cs (Some x) false w e = absurd (cc)
signalled cs (Some x) true w e = beside (mutex_with cs x) e
  where
    beside : (m : Option NameId) → option_map (λ (n : NameId). (x, n)) m ≡ Some w → (let o : Option Tid = Some x in o) ≡ Some w.0
    beside None f = absurd (cc)
    beside (Some n) f = ap Some (ap (λ (o : Option (Tid × NameId)). (unwrap_or o (x, n)).0) f)

and_true : (b : Bool) → b ≡ true → (b && true) ≡ true
and_true true e = refl
and_true false e = absurd (false≢true e)

module _ (caller next t : ℕ) (waits : Bool) where
  abbrev Go : Rows → Rows → Type 0
  Go rs rs' = IsMoved caller next t waits (get rs.seats t) (get rs'.seats t)

  given_go : (st : State) (rs : Rows) (r : RowId) (o : Option Tid) (b : Bool) → IsCanonical rs.seats → best rs r ≡ o
      → Go rs (given_state st (take_out_if rs (keep_if b o)) (keep_if b o)).rows
  given_go st rs r None true h e = same refl
  given_go st rs r None false h e = same refl
  given_go st rs r (Some w) false h e = same refl
  given_go st rs r (Some w) true h e = wakes_best caller next t waits rs r row.Ready w (rank_of st w) refl h e

  waited_go : (st : State) (c m : NameId) (who : Tid) (rank : ℕ) (b : Bool) → who.0 ≡ caller → (b ≡ true → waits ≡ true) → IsCanonical st.rows.seats → (now : State)
      → Go st.rows (let waiting : Rows = block_if b st.rows (row.Cond c) who rank in given_state now (take_out_if waiting (keep_if b (best waiting (row.Mutex m)))) (keep_if b (best waiting (row.Mutex m)))).rows
  waited_go st c m who rank b is k h now =
      let waiting : Rows = block_if b st.rows (row.Cond c) who rank in
      let next_owner : Option Tid = keep_if b (best waiting (row.Mutex m)) in
      then_moves caller next t waits st.rows waiting (given_state now (take_out_if waiting next_owner) next_owner).rows (block_if_moves caller next t waits b st.rows who (row.Cond c) rank is (λ e _. k e))
      (given_go now waiting (row.Mutex m) (best waiting (row.Mutex m)) b (canonical_block_if b st.rows (row.Cond c) who rank h) refl)

  calm_gets : (b : Bool) (m : NameId) → is_calm_row (if b then row.Ready else row.Mutex m) ≡ true
  calm_gets true m = refl
  calm_gets false m = refl

  signals_go : (st : State) (c : NameId) (w : Option (Tid × NameId)) → (signal st.conds st.rows c).waiter ≡ w → IsCanonical st.rows.seats
      → Go st.rows (signals_one st (signal st.conds st.rows c) w).state.rows
  signals_go st c None e h = subst (λ (o : Option (Tid × NameId)). Go st.rows (take_out_if st.rows (thread_in o))) (sym e) (same refl)
  signals_go st c (Some w) e h =
      let r : RowId = if is_free (mutex_at st.locks (Some w.1)) then row.Ready else row.Mutex w.1 in
      subst (λ (o : Option (Tid × NameId)). Go st.rows (put_in_row (take_out_if st.rows (thread_in o)) r w.0 (rank_of st w.0))) (sym e)
      (wakes_best caller next t waits st.rows (row.Cond c) r w.0 (rank_of st w.0) (calm_gets (is_free (mutex_at st.locks (Some w.1))) w.1) h
      (signalled st.conds (best st.rows (row.Cond c)) (has st.conds.made c.0) w e))

  among_if : (b : Bool) (rs : Rows) (r : RowId) → IsCanonical rs.seats → Among caller next t waits (if b then best_first rs r else []) → is_some (get rs.seats t) ≡ true
  among_if true rs r h e = row_among caller next t waits rs r h e
  among_if false rs r h e = absurd (false≢true e)

  pub cancelled_go : (st : State) (target : Tid) (o : ThreadsReply) (y : Reply) → (y ≡ reply.Effect effect.Wakes → is_some (get st.rows.seats target.0) ≡ true) → Go st.rows (cancelled st target o y).state.rows
  cancelled_go st target o (reply.Effect effect.Wakes) k = cancel_wait_moves caller next t waits (rank_of st) st.conds st.pipes st.locks st.rows target (k refl)
  cancelled_go st target o (reply.Effect effect.Ended) k = same refl
  cancelled_go st target o (reply.Effect effect.Merged) k = same refl
  cancelled_go st target o (reply.Effect effect.Pending) k = same refl
  cancelled_go st target o _ k = same refl

  pub ready_by : (b : Bool) (rank : Tid → ℕ) (rs : Rows) (x : Bool) → eqb next t ≡ x → Go rs (ready_if b rank rs (thread next))
  ready_by false rank rs x e = same refl
  ready_by true rank rs true e =
      subst (λ (o : Option Seat). IsMoved caller next t waits (get rs.seats t) o) (sym (get_put rs.seats next t (record { rank = rank (thread next); place = Stands row.Ready rs.next_arrival })
      ∙ ap (λ y. cond y (Some (record { rank = rank (thread next); place = Stands row.Ready rs.next_arrival })) (get rs.seats t)) e)) (created e refl)
  ready_by true rank rs false e =
      subst (λ (o : Option Seat). IsMoved caller next t waits (get rs.seats t) o) (sym (get_put rs.seats next t (record { rank = rank (thread next); place = Stands row.Ready rs.next_arrival })
      ∙ ap (λ y. cond y (Some (record { rank = rank (thread next); place = Stands row.Ready rs.next_arrival })) (get rs.seats t)) e)) (same refl)

  rank_go : (b : Bool) (ths : Threads) (rs : Rows) (w : Tid) → Go rs (rank_if b ths rs w)
  rank_go true ths rs w = set_rank_moves caller next t waits rs w (rank_at ths w)
  rank_go false ths rs w = same refl

  read_go : (st now : State) (p : NameId) (who : Tid) (rank : ℕ) (said : Reply) (o : Option Tid) → who.0 ≡ caller → (is_blocks said ≡ true → waits ≡ true) → IsCanonical st.rows.seats
      → best st.rows (row.Writer p) ≡ o
      → Go st.rows (woken_state now (take_out_if (block_if (is_blocks said) st.rows (row.Reader p) who rank) (keep_if (is_value said) o)) reply.Done (keep_if (is_value said) o)).rows
  read_go st now p who rank (reply.Value v) None is k h e = same refl
  read_go st now p who rank (reply.Value v) (Some w) is k h e = wakes_best caller next t waits st.rows (row.Writer p) row.Ready w (rank_of now w) refl h e
  read_go st now p who rank reply.Blocks o is k h e = block_moves caller next t waits st.rows who (row.Reader p) rank is (λ _. k refl)
  read_go st now p who rank _ o is k h e = same refl

  write_go : (st now : State) (p : NameId) (who : Tid) (rank : ℕ) (y : Reply) (b : Bool) (o : Option Tid) → who.0 ≡ caller → (b ≡ true → waits ≡ true) → (is_some o ≡ true → b ≡ false) → IsCanonical st.rows.seats
      → (let x : Option Tid = o in (w : Tid) → x ≡ Some w → best st.rows (row.Reader p) ≡ Some w)
      → Go st.rows (woken_state now (block_if b (take_out_if st.rows o) (row.Writer p) who rank) y o).rows
  write_go st now p who rank y b None is k alone h e = block_if_moves caller next t waits b st.rows who (row.Writer p) rank is (λ f _. k f)
  write_go st now p who rank y true (Some w) is k alone h e = absurd (false≢true (sym (alone refl)))
  write_go st now p who rank y false (Some w) is k alone h e = wakes_best caller next t waits st.rows (row.Reader p) row.Ready w (rank_of now w) refl h (e w refl)

no_wait : (x : Pipe) (o : Option Tid) → is_some o ≡ true → is_blocks (write_reply x o) ≡ false
no_wait x None e = absurd (false≢true e)
no_wait x (Some w) e = by_open x.is_open
  where
    by_open : (b : Bool) → is_blocks (if not b then reply.Epipe else reply.Done) ≡ false
    by_open true = refl
    by_open false = refl

pub kept_best : (b : Bool) (o : Option Tid) (w : Tid) → keep_if b o ≡ Some w → o ≡ Some w
kept_best true o w e = e
kept_best false o w e = absurd (cc)

lock_row : (m : Option NameId) (waits : Bool) → is_point_row (waiters_row m) ≡ true → waits ≡ true
lock_row None waits e = absurd (false≢true e)
lock_row (Some m) waits e = absurd (false≢true e)

abbrev pub creates_one : DceCall → Bool
creates_one (dce.Create v a routine e) = true
creates_one _ = false

-- Where thread u stands after a call of thread t.
pub answered_moves : (s : Script) (st : State) (t : Tid) (call : DceCall) (ns : List ℤ) (u : ℕ) → creates_one call ≡ false → IsCanonical st.rows.seats
    → IsMoved t.0 (suc u) u (waits_there call (answered s st t call ns).reply) (get st.rows.seats u) (get (answered s st t call ns).state.rows.seats u)
unfolding answered shape_of
answered_moves s st t (dce.Create v a routine e) ns u not_one h = absurd (false≢true (sym not_one))
answered_moves s st t (dce.Join e v) ns u not_one h =
    block_if_moves t.0 (suc u) u _ (is_blocks (threads.join st.threads t (first ns))) st.rows t (row.Join (thread (natural (first ns)))) (rank_of st t) refl (λ f _. and_true _ f)
answered_moves s st t dce.Yield ns u not_one h = block_moves t.0 (suc u) u _ st.rows t row.Ready (rank_of st t) refl (λ f. absurd (false≢true f))
answered_moves s st t (dce.Cancel e) ns u not_one h =
    let who : Tid = thread (natural (first ns)) in
    let o : ThreadsReply = cancels.cancel st.threads (first ns) (waits_at_point st.rows who) in
    cancelled_go t.0 (suc u) u _ st who o o.reply (λ f. point_seat st.rows who (wakes_at_point (record_of st.threads (first ns)) (waits_at_point st.rows who) f))
answered_moves s st t (dce.Setprio e f v) ns u not_one h =
    let o : ThreadsReply = setprio st.threads (first ns) (second ns) in rank_go t.0 (suc u) u _ (is_value o.reply) o.threads st.rows (thread (natural (first ns)))
answered_moves s st t (dce.Setscheduler e policy f v) ns u not_one h =
    let o : ThreadsReply = setscheduler st.threads (first ns) policy (second ns) in rank_go t.0 (suc u) u _ (is_value o.reply) o.threads st.rows (thread (natural (first ns)))
answered_moves s st t (dce.DelayNp e) ns u not_one h =
    block_if_moves t.0 (suc u) u _ (is_blocks (delay_reply (first ns) st.clock)) st.rows t row.Time (rank_of st t) refl (λ f _. and_true _ f)
answered_moves s st t (dce.MutexLock m) ns u not_one h =
    block_if_moves t.0 (suc u) u _ (is_blocks (lock_reply (mutex_at st.locks (Some m)) t)) st.rows t (waiters_row (Some m)) (rank_of st t) refl (λ f g. lock_row (Some m) _ g)
answered_moves s st t (dce.MutexUnlock m) ns u not_one h =
    let o = unlock st.locks st.rows (Some m) t in given_go t.0 (suc u) u _ (record st { locks = o.locks }) st.rows (waiters_row (Some m)) (best st.rows (waiters_row (Some m))) _ h refl
answered_moves s st t dce.LockGlobalNp ns u not_one h =
    block_if_moves t.0 (suc u) u _ (is_blocks (lock_reply (mutex_at st.locks None) t)) st.rows t (waiters_row None) (rank_of st t) refl (λ f g. lock_row None _ g)
answered_moves s st t dce.UnlockGlobalNp ns u not_one h =
    let o = unlock st.locks st.rows None t in given_go t.0 (suc u) u _ (record st { locks = o.locks }) st.rows (waiters_row None) (best st.rows (waiters_row None)) _ h refl
answered_moves s st t (dce.CondWait c m) ns u not_one h =
    let o : Waited = wait st.conds st.locks st.rows c m t (rank_of st t) in
    waited_go t.0 (suc u) u _ st c m t (rank_of st t) (is_blocks (wait_reply st.conds st.locks c m t)) refl (λ f. and_true _ f) h (record st { conds = o.conds; locks = o.locks })
answered_moves s st t (dce.CondTimedwait c m e) ns u not_one h =
    let o : Waited = timedwait st.conds st.locks st.rows c m (first ns) st.clock t (rank_of st t) in
    waited_go t.0 (suc u) u _ st c m t (rank_of st t) (is_blocks (timedwait_reply (wait_reply st.conds st.locks c m t) (int_le (first ns) st.clock))) refl (λ f. and_true _ f) h
    (record st { conds = o.conds; locks = o.locks })
answered_moves s st t (dce.CondSignal c) ns u not_one h = signals_go t.0 (suc u) u _ st c (signal st.conds st.rows c).waiter refl h
answered_moves s st t (dce.CondBroadcast c) ns u not_one h =
    wake_all_moves t.0 (suc u) u _ (rank_of st) st.conds st.locks st.rows st.rows _ (among_if t.0 (suc u) u true (has st.conds.made c.0) st.rows (row.Cond c) h) (same refl)
answered_moves s st t (dce.Once o routine) ns u not_one h =
    block_if_moves t.0 (suc u) u _ (is_blocks (enter st.onces st.rows o t (rank_of st t)).reply) st.rows t (row.Once o) (rank_of st t) refl (λ f g. absurd (false≢true g))
answered_moves s st t (dce.Read p v w) ns u not_one h =
    let o : ReadReply = read st.pipes st.rows p t (rank_of st t) in
    read_go t.0 (suc u) u _ st (record st { pipes = o.pipes }) p t (rank_of st t) o.reply (best st.rows (row.Writer p)) refl (λ f. and_true _ f) h refl
answered_moves s st t (dce.Write p e) ns u not_one h =
    let reader : Option Tid = keep_if (pipe_at st.pipes p).is_open (best st.rows (row.Reader p)) in
    let o : WriteReply = write st.pipes st.rows p (first ns) t (rank_of st t) in
    write_go t.0 (suc u) u _ st (record st { pipes = o.pipes }) p t (rank_of st t) (reply.Value (first ns)) (is_blocks (write_reply (pipe_at st.pipes p) reader)) reader refl (λ f. and_true _ f) (no_wait (pipe_at st.pipes p) reader) h
    (λ w f. kept_best (pipe_at st.pipes p).is_open (best st.rows (row.Reader p)) w f)
answered_moves s st t (dce.Close p) ns u not_one h =
    let opened : Bool = (pipe_at st.pipes p).is_open in
    let readers : Rows = (free_if opened (rank_of st) st.rows (row.Reader p)).rows in
    then_moves t.0 (suc u) u _ st.rows readers (free_if opened (rank_of st) readers (row.Writer p)).rows
    (free_if_moves t.0 (suc u) u _ opened (rank_of st) st.rows (row.Reader p) h)
    (free_if_moves t.0 (suc u) u _ opened (rank_of st) readers (row.Writer p) (canonical_free_if opened (rank_of st) st.rows (row.Reader p) h))
  where
    canonical_free_if : (b : Bool) (rank : Tid → ℕ) (rs : Rows) (r : RowId) → IsCanonical rs.seats → IsCanonical (free_if b rank rs r).rows.seats
    canonical_free_if true rank rs r h = canonical_free_row rank rs r h
    canonical_free_if false rank rs r h = h
answered_moves s st t _ ns u not_one h = same refl
