-- In every history pipes and rows agree on who waits as a writer.
use Rattle.std.proofs.Common.{◌≡◌, ℕ, ℤ, Bool, true, false, ◌&&◌, List, Option, Some, None, refl, ap}
use Rattle.std.specs.Prelude.{int_le}
use Rattle.thr_values.specs.declared.number.NameId.{NameId}
use Rattle.thr_values.specs.declared.number.Tid.{Tid}
use Rattle.thr_values.specs.declared.reply.Effect.TheVariants as effect
use Rattle.thr_values.specs.declared.reply.Reply.{Reply}
use Rattle.thr_values.specs.declared.reply.Reply.TheVariants as reply
use Rattle.thr_syntax.specs.declared.dce.DceCall.{DceCall}
use Rattle.thr_syntax.specs.declared.dce.DceCall.TheVariants as dce
use Rattle.thr_syntax.specs.declared.tree.Script.{Script}
use Rattle.thr_parts.specs.declared.row.RowId.{RowId}
use Rattle.thr_parts.specs.declared.row.RowId.TheVariants as row
use Rattle.thr_parts.specs.Tables.{keep_if, IsCanonical}
use Rattle.thr_parts.specs.Replies.{is_done, is_blocks, is_value}
use Rattle.thr_parts.specs.Rows.{Rows, no_rows, thread, best}
use Rattle.thr_parts.specs.Moves.{block_if, leave, free_row}
use Rattle.thr_parts.specs.Threads as threads
use Rattle.thr_parts.specs.Threads.{Threads, ThreadsReply, natural, rank_at, first_threads}
use Rattle.thr_parts.specs.Scheduling.{setprio, setscheduler}
use Rattle.thr_parts.specs.Cancels.{waits_at_point}
use Rattle.thr_parts.specs.Cancels as cancels
use Rattle.thr_parts.specs.Mutexes.{waiters_row, owner}
use Rattle.thr_parts.specs.Locking.{Unlocked, is_last, unlock}
use Rattle.thr_parts.specs.Conditions.{Waited, begin_wait, wait, wait_reply, timedwait, timedwait_reply}
use Rattle.thr_parts.specs.Waking.{signal}
use Rattle.thr_parts.specs.OnceBlocks as once
use Rattle.thr_parts.specs.Pipes.{Pipes, ReadReply, WriteReply, read, write, first_pipes}
use Rattle.thr_parts.proofs.TableLaws.{get_none}
use Rattle.thr_parts.proofs.MoveLaws.{canonical_block_if}
use Rattle.thr_rows.proofs.AgreementLaws.{from_kept}
use Rattle.thr_rows.proofs.AgreementLaws as rows
use Rattle.thr_conds.specs.Agreement.{WaitsAgree}
use Rattle.thr_pipes.specs.Agreement.{writing_of, if_writing, WritersAgree}
use Rattle.thr_pipes.proofs.KeepLaws.{writer_rows, are_other, agree_in, agree_of, agree_opening, no_wait, best_writes_not, agree_put, agree_leave, agree_block_in, agree_set_rank, agree_dispatch, agree_keeps, agree_free_row}
use Rattle.thr_pipes.proofs.CallLaws.{agree_read, agree_write, relieved_writes_not, reader_writes_not}
use Rattle.thr_pipes.proofs.FreedLaws.{agree_close_out}
use Rattle.thr_pipes.proofs.OtherCallLaws.{agree_lock, agree_unlock, agree_regain, agree_enter, agree_undone, agree_wait, agree_timedwait, agree_delay, agree_signal, signalled_writes_not, agree_cancel_wait}
use Rattle.thr_ended_waits.proofs.EndedLaws.{agree_broadcast, agree_expire_all}
use Rattle.thr_model.specs.States.{State, rank_of, opening}
use Rattle.thr_model.specs.Calls.{answered, ready_if, rank_if, cancelled, given_state, signals_one, woken_state, first, second}
use Rattle.thr_model.specs.Turns.{handed_on}
use Rattle.thr_model.specs.Histories.{Execution, History}
use Rattle.thr_answers.proofs.StatusTurns.{InOrder}
use Rattle.thr_answers.proofs.AnswerTurns.{agrees}
use Rattle.thr_waiting.proofs.EventsKept.{IsKeptByEvents, history_kept}
use Rattle.thr_waiting.proofs.Seatless.{next_no_row, run_no_row}
use Rattle.thr_waiting.proofs.WaitsKept.{history_waits}

-- ---- threads that become ready

-- The thread that is there doesn't wait as a writer.
abbrev IfFree : Pipes → Option Tid → Type 0
IfFree ps o = (w : Tid) → o ≡ Some w → writing_of ps w ≡ None

given_agree : (st : State) (rs : Rows) (o : Option Tid) → WritersAgree st.pipes rs → IfFree st.pipes o → WritersAgree (given_state st rs o).pipes (given_state st rs o).rows
given_agree st rs None h free = h
given_agree st rs (Some w) h free = agree_put st.pipes rs row.Ready w (rank_of st w) h (free w refl) refl

woken_agree : (st : State) (rs : Rows) (y : Reply) (o : Option Tid) → WritersAgree st.pipes rs → IfFree st.pipes o → WritersAgree (woken_state st rs y o).pipes (woken_state st rs y o).rows
woken_agree st rs y None h free = h
woken_agree st rs y (Some w) h free = agree_put st.pipes rs row.Ready w (rank_of st w) h (free w refl) refl

best_free : (ps : Pipes) (rs : Rows) (r : RowId) (b : Bool) → IsCanonical rs.seats → WritersAgree ps rs → if_writing (Some r) ≡ None → IfFree ps (keep_if b (best rs r))
best_free ps rs r b h agrees other w e = best_writes_not ps rs r w h agrees other (from_kept b (best rs r) w e)

unlocks_agree : (st : State) (t : Tid) (m : Option NameId) → IsCanonical st.rows.seats → WritersAgree st.pipes st.rows
    → (let o : Unlocked = unlock st.locks st.rows m t in let after : State = given_state (record st { locks = o.locks }) o.rows o.given in WritersAgree after.pipes after.rows)
unlocks_agree st t m h agrees =
    let o : Unlocked = unlock st.locks st.rows m t in
    given_agree (record st { locks = o.locks }) o.rows o.given (agree_unlock st.pipes st.locks st.rows m t h agrees)
    (best_free st.pipes st.rows (waiters_row m) (is_done o.reply && is_last (owner st.locks m)) h agrees (are_other.lock m))

-- ---- calls

create_agree : (b : Bool) (rank : Tid → ℕ) (st : State) → InOrder st → WritersAgree st.pipes st.rows → WritersAgree st.pipes (ready_if b rank st.rows (thread st.threads.next))
create_agree true rank st order h =
    agree_put st.pipes st.rows row.Ready (thread st.threads.next) (rank (thread st.threads.next)) h
    (no_wait st.pipes st.rows (thread st.threads.next) h (ap if_writing (next_no_row st order))) refl
create_agree false rank st order h = h

block_agree : (b : Bool) (ps : Pipes) (rs : Rows) (r : RowId) (t : Tid) (rank : ℕ) → WritersAgree ps rs → writing_of ps t ≡ None → if_writing (Some r) ≡ None → WritersAgree ps (block_if b rs r t rank)
block_agree b ps rs r t rank h alone other = agree_of ps (block_if b rs r t rank) (rows.agree_block_if writer_rows b ps.writing rs r t rank (agree_in ps rs h) alone other)

rank_agree : (b : Bool) (ps : Pipes) (ths : Threads) (rs : Rows) (w : Tid) → WritersAgree ps rs → WritersAgree ps (rank_if b ths rs w)
rank_agree true ps ths rs w h = agree_set_rank ps rs w (rank_at ths w) h
rank_agree false ps ths rs w h = h

cancelled_agree : (st : State) (w : Tid) (o : ThreadsReply) (y : Reply) → WritersAgree st.pipes st.rows → WritersAgree (cancelled st w o y).state.pipes (cancelled st w o y).state.rows
cancelled_agree st w o (reply.Effect effect.Wakes) h = agree_cancel_wait (rank_of st) st.pipes st.conds st.locks st.rows w h
cancelled_agree st w o (reply.Effect _) h = h
cancelled_agree st w o _ h = h

signals_agree : (st : State) (c : NameId) (w : Option (Tid × NameId)) → (signal st.conds st.rows c).waiter ≡ w → IsCanonical st.rows.seats → WritersAgree st.pipes st.rows
    → (let after : State = (signals_one st (signal st.conds st.rows c) w).state in WritersAgree after.pipes after.rows)
signals_agree st c None e h agrees = agree_signal st.pipes st.conds st.rows c h agrees
signals_agree st c (Some w) e h agrees =
    agree_regain st.pipes st.locks (signal st.conds st.rows c).rows w.1 w.0 (rank_of st w.0) (agree_signal st.pipes st.conds st.rows c h agrees)
    (signalled_writes_not st.pipes st.conds st.rows c w.0 w.1 h agrees e)

-- The thread that is given the mutex of a wait that begins.
waits_free : (st : State) (t : Tid) (c m : NameId) (until : Option ℤ) (rank : ℕ) (said : Reply) → IsCanonical st.rows.seats → WritersAgree st.pipes st.rows → writing_of st.pipes t ≡ None
    → IfFree st.pipes (begin_wait st.conds st.locks st.rows c m until t rank said).given
waits_free st t c m until rank said h agrees alone =
    best_free st.pipes (block_if (is_blocks said) st.rows (row.Cond c) t rank) (row.Mutex m) (is_blocks said) (canonical_block_if (is_blocks said) st.rows (row.Cond c) t rank h)
    (block_agree (is_blocks said) st.pipes st.rows (row.Cond c) t rank agrees alone refl) refl

module _ (s : Script) (st : State) (t : Tid) (ns : List ℤ) (order : InOrder st) (h : IsCanonical st.rows.seats) (sorted : IsCanonical st.pipes.writing) (alone : writing_of st.pipes t ≡ None) (agrees_before : WritersAgree st.pipes st.rows) where
  answered_agree : (call : DceCall) → WritersAgree (answered s st t call ns).state.pipes (answered s st t call ns).state.rows
  unfolding answered
  answered_agree (dce.Create v a routine e) =
      let o : ThreadsReply = threads.create st.threads t a in create_agree (is_value o.reply) (rank_at o.threads) st order agrees_before
  answered_agree (dce.Join e v) =
      block_agree (is_blocks (threads.join st.threads t (first ns))) st.pipes st.rows (row.Join (thread (natural (first ns)))) t (rank_of st t) agrees_before alone refl
  answered_agree dce.Yield = agree_block_in st.pipes st.rows row.Ready t (rank_of st t) agrees_before alone refl
  answered_agree (dce.Cancel e) =
      let who : Tid = thread (natural (first ns)) in
      let o : ThreadsReply = cancels.cancel st.threads (first ns) (waits_at_point st.rows who) in cancelled_agree st who o o.reply agrees_before
  answered_agree (dce.Setprio e f v) =
      let o : ThreadsReply = setprio st.threads (first ns) (second ns) in rank_agree (is_value o.reply) st.pipes o.threads st.rows (thread (natural (first ns))) agrees_before
  answered_agree (dce.Setscheduler e policy f v) =
      let o : ThreadsReply = setscheduler st.threads (first ns) policy (second ns) in rank_agree (is_value o.reply) st.pipes o.threads st.rows (thread (natural (first ns))) agrees_before
  answered_agree (dce.DelayNp e) = agree_delay st.pipes st.conds st.rows (first ns) st.clock t (rank_of st t) agrees_before alone
  answered_agree (dce.MutexLock m) = agree_lock st.pipes st.locks st.rows (Some m) t (rank_of st t) agrees_before alone
  answered_agree (dce.MutexUnlock m) = unlocks_agree st t (Some m) h agrees_before
  answered_agree dce.LockGlobalNp = agree_lock st.pipes st.locks st.rows None t (rank_of st t) agrees_before alone
  answered_agree dce.UnlockGlobalNp = unlocks_agree st t None h agrees_before
  answered_agree (dce.CondWait c m) =
      let o : Waited = wait st.conds st.locks st.rows c m t (rank_of st t) in
      given_agree (record st { conds = o.conds; locks = o.locks }) o.rows o.given (agree_wait st.pipes st.conds st.locks st.rows c m t (rank_of st t) h agrees_before alone)
      (waits_free st t c m None (rank_of st t) (wait_reply st.conds st.locks c m t) h agrees_before alone)
  answered_agree (dce.CondTimedwait c m e) =
      let o : Waited = timedwait st.conds st.locks st.rows c m (first ns) st.clock t (rank_of st t) in
      given_agree (record st { conds = o.conds; locks = o.locks }) o.rows o.given (agree_timedwait st.pipes st.conds st.locks st.rows c m (first ns) st.clock t (rank_of st t) h agrees_before alone)
      (waits_free st t c m (Some (first ns)) (rank_of st t) (timedwait_reply (wait_reply st.conds st.locks c m t) (int_le (first ns) st.clock)) h agrees_before alone)
  answered_agree (dce.CondSignal c) = signals_agree st c (signal st.conds st.rows c).waiter refl h agrees_before
  answered_agree (dce.CondBroadcast c) = agree_broadcast (rank_of st) st.conds st.pipes st.locks st.rows c h agrees_before
  answered_agree (dce.Once o routine) = agree_enter st.pipes st.onces st.rows o t (rank_of st t) agrees_before alone
  answered_agree (dce.Read p v w) =
      let o : ReadReply = read st.pipes st.rows p t (rank_of st t) in
      woken_agree (record st { pipes = o.pipes }) o.rows reply.Done o.relieved (agree_read st.pipes st.rows p t (rank_of st t) h agrees_before alone)
      (λ u f. relieved_writes_not st.pipes st.rows p t (rank_of st t) u f)
  answered_agree (dce.Write p e) =
      let o : WriteReply = write st.pipes st.rows p (first ns) t (rank_of st t) in
      woken_agree (record st { pipes = o.pipes }) o.rows (reply.Value (first ns)) o.reader (agree_write st.pipes st.rows p (first ns) t (rank_of st t) h agrees_before)
      (λ u f. reader_writes_not st.pipes st.rows p (first ns) t (rank_of st t) u h agrees_before f)
  answered_agree (dce.Close p) = agree_close_out (rank_of st) st.pipes st.rows p h sorted agrees_before
  answered_agree _ = agrees_before

-- ---- what ends a turn

handed_agree : (st : State) (o : once.Undone) (w : Option Tid) → WritersAgree st.pipes o.rows → IfFree st.pipes w → WritersAgree (handed_on st o w).pipes (handed_on st o w).rows
handed_agree st o None h free = h
handed_agree st o (Some w) h free = agree_put st.pipes o.rows row.Ready w (rank_of st w) h (free w refl) refl

undone_agree : (st : State) (block : NameId) → IsCanonical st.rows.seats → WritersAgree st.pipes st.rows
    → (let o : once.Undone = once.undone st.onces st.rows block in let after : State = handed_on st o o.runner in WritersAgree after.pipes after.rows)
undone_agree st block h agrees =
    let o : once.Undone = once.undone st.onces st.rows block in
    handed_agree st o o.runner (agree_undone st.pipes st.onces st.rows block h agrees) (best_free st.pipes st.rows (row.Once block) true h agrees refl)

ended_agree : (st : State) (t : Tid) → IsCanonical st.rows.seats → WritersAgree st.pipes st.rows → WritersAgree st.pipes (leave (free_row (rank_of st) st.rows (row.Join t)).rows t)
ended_agree st t h agrees = agree_leave st.pipes (free_row (rank_of st) st.rows (row.Join t)).rows t (agree_free_row (rank_of st) st.pipes st.rows (row.Join t) h agrees refl)

-- ---- histories

-- What the writers stand on: the threads that aren't there yet, and the agreement on other waits.
record IsAgreed (st : State) : Type 0 where
  order : InOrder st
  waits : WaitsAgree st.conds st.rows

abbrev Agreed : Script → State → Type 0
Agreed s st = IsAgreed st

abbrev Agreeing : Script → State → Type 0
Agreeing s st = WritersAgree st.pipes st.rows

abbrev Turning : Script → Tid → State → Type 0
Turning s t st = WritersAgree st.pipes st.rows

opening_agrees : (s : Script) → WritersAgree (opening s).pipes (opening s).rows
opening_agrees s = agree_put (first_pipes s.items) no_rows row.Ready (thread 1) (rank_at first_threads (thread 1)) (agree_opening s.items) (get_none 1) refl

writers_by_events : IsKeptByEvents Agreed Agreeing Turning
writers_by_events = record {
  opens = opening_agrees;
  begins = λ s st t i run h. h;
  pays = λ s st t h. h;
  calls = λ s st t call ns i c h. answered_agree s st t ns i.more.order i.tables.seats i.tables.writing (no_wait st.pipes st.rows t h (ap if_writing (run_no_row st t c.run))) h call;
  stores = λ s st t shared h. h;
  delivers = λ s st t i run h. h;
  undoes = λ s st t block i run h. undone_agree st block i.tables.seats h;
  completes = λ s st t block i run h. agree_free_row (rank_of st) st.pipes st.rows (row.Once block) i.tables.seats h refl;
  destroys = λ s st t onces h. h;
  moves = λ s st t r h. h;
  ends = λ s st t v i run e h. ended_agree st t i.tables.seats h;
  keeps = λ s st t fifo h. agree_keeps st.pipes st.rows t fifo h;
  takes = λ s st p i h. agree_dispatch st.pipes st.rows p i.tables.seats h;
  passes = λ s st now i h. agree_expire_all (rank_of st) st.conds st.pipes st.locks st.rows now i.tables.seats i.more.waits h;
}

pub history_writers : {s : Script} {n : ℕ} {x : Execution} → History s n x → WritersAgree x.state.pipes x.state.rows
history_writers {s} {n} {x} h = history_kept Agreed Agreeing Turning writers_by_events (λ y k. record { order = (agrees k).order; waits = history_waits k }) h
