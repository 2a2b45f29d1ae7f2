-- In every history conditions and rows agree on who waits on a condition or for a time.
use Rattle.std.proofs.Common.{◌≡◌, ℕ, ◌≤◌, ℤ, Bool, true, false, ◌&&◌, List, length, Option, Some, None, refl, sym, ◌∙◌, ap}
use Rattle.std.proofs.lemmas.Bool.{false≢true}
use Rattle.std.specs.Option.{is_some}
use Rattle.thr_values.specs.declared.number.NameId.{NameId}
use Rattle.thr_values.specs.declared.number.Tid.{Tid}
use Rattle.thr_values.specs.declared.reply.Effect.TheVariants as effect
use Rattle.thr_values.specs.declared.reply.Reply.{Reply}
use Rattle.thr_values.specs.declared.reply.Reply.TheVariants as reply
use Rattle.thr_syntax.specs.declared.dce.DceCall.{DceCall}
use Rattle.thr_syntax.specs.declared.dce.DceCall.TheVariants as dce
use Rattle.thr_syntax.specs.declared.tree.Script.{Script}
use Rattle.thr_parts.specs.declared.row.RowId.{RowId}
use Rattle.thr_parts.specs.declared.row.RowId.TheVariants as row
use Rattle.thr_parts.specs.declared.row.Seat.{Seat}
use Rattle.thr_parts.specs.Tables.{get, has, keep_if, IsCanonical}
use Rattle.thr_parts.specs.Replies.{is_done, is_blocks, is_value}
use Rattle.thr_parts.specs.Rows.{Rows, no_rows, thread, is_in_row, best, most}
use Rattle.thr_parts.specs.Moves.{block_if, leave, free_row}
use Rattle.thr_parts.specs.Threads as threads
use Rattle.thr_parts.specs.Threads.{Threads, ThreadsReply, natural, rank_at, first_threads}
use Rattle.thr_parts.specs.Scheduling.{setprio, setscheduler}
use Rattle.thr_parts.specs.Cancels.{waits_at_point}
use Rattle.thr_parts.specs.Cancels as cancels
use Rattle.thr_parts.specs.Mutexes.{waiters_row, owner}
use Rattle.thr_parts.specs.Locking.{Unlocked, is_last, unlock}
use Rattle.thr_parts.specs.Conditions.{Conds, no_conds, wait_of, Waited, wait, timedwait}
use Rattle.thr_parts.specs.Waking.{Signalled, signal}
use Rattle.thr_parts.specs.Expiry.{due_first}
use Rattle.thr_parts.specs.OnceBlocks as once
use Rattle.thr_parts.specs.Pipes.{ReadReply, WriteReply, pipe_at, read, write}
use Rattle.thr_parts.proofs.LengthLaws.{not_longer}
use Rattle.thr_parts.proofs.TableLaws.{get_none, has_get}
use Rattle.thr_rows.proofs.AgreementLaws.{from_kept}
use Rattle.thr_rows.proofs.AgreementLaws as rows
use Rattle.thr_conds.specs.Agreement.{if_waiting, WaitsAgree}
use Rattle.thr_conds.proofs.KeepLaws.{wait_rows, are_other, agree_in, agree_of, agree_opening, no_wait, best_waits_not, agree_put, agree_leave, agree_block_in, agree_set_rank, agree_dispatch, agree_keeps, agree_free_row}
use Rattle.thr_conds.proofs.CallLaws.{agree_wait, agree_timedwait, agree_delay, agree_signal, agree_regain, agree_wake_all, signalled_waits_not, given_waits_not, timed_given_waits_not, agree_lock, agree_unlock, agree_enter, agree_undone, agree_read, agree_write, agree_close_out, agree_cancel_wait}
use Rattle.thr_model.specs.States.{State, rank_of, opening}
use Rattle.thr_model.specs.Calls.{answered, ready_if, rank_if, cancelled, given_state, signals_one, woken_state, first, second}
use Rattle.thr_model.specs.Turns.{handed_on}
use Rattle.thr_model.specs.Histories.{Execution, History}
use Rattle.thr_model.specs.Canonical.{IsCanonicalState}
use Rattle.thr_model.proofs.StateTables.{canonical-state}
use Rattle.thr_answers.proofs.StatusTurns.{InOrder}
use Rattle.thr_answers.proofs.AnswerTurns.{agrees}
use Rattle.thr_waiting.proofs.EventsKept.{IsKeptByEvents, history_kept}
use Rattle.thr_waiting.proofs.Seatless.{next_no_row, run_no_row}
use Rattle.thr_waiting.proofs.Living.{at_most, few_seats}

-- ---- threads that become ready

-- The thread that is there has no wait.
abbrev IfFree : Conds → Option Tid → Type 0
IfFree cs o = (w : Tid) → o ≡ Some w → wait_of cs w ≡ None

given_agree : (st : State) (rs : Rows) (o : Option Tid) → WaitsAgree st.conds rs → IfFree st.conds o → WaitsAgree (given_state st rs o).conds (given_state st rs o).rows
given_agree st rs None h free = h
given_agree st rs (Some w) h free = agree_put st.conds rs row.Ready w (rank_of st w) h (free w refl) refl

woken_agree : (st : State) (rs : Rows) (y : Reply) (o : Option Tid) → WaitsAgree st.conds rs → IfFree st.conds o → WaitsAgree (woken_state st rs y o).conds (woken_state st rs y o).rows
woken_agree st rs y None h free = h
woken_agree st rs y (Some w) h free = agree_put st.conds rs row.Ready w (rank_of st w) h (free w refl) refl

best_free : (st : State) (r : RowId) (b : Bool) → IsCanonical st.rows.seats → WaitsAgree st.conds st.rows → if_waiting (Some r) ≡ None → (w : Tid) → keep_if b (best st.rows r) ≡ Some w → wait_of st.conds w ≡ None
best_free st r b h agrees other w e = best_waits_not st.conds st.rows r w h agrees other (from_kept b (best st.rows r) w e)

unlocks_agree : (st : State) (t : Tid) (m : Option NameId) → IsCanonical st.rows.seats → WaitsAgree st.conds st.rows
    → (let o : Unlocked = unlock st.locks st.rows m t in let after : State = given_state (record st { locks = o.locks }) o.rows o.given in WaitsAgree after.conds after.rows)
unlocks_agree st t m h agrees =
    let o : Unlocked = unlock st.locks st.rows m t in
    given_agree (record st { locks = o.locks }) o.rows o.given (agree_unlock st.conds st.locks st.rows m t h agrees)
    (best_free st (waiters_row m) (is_done o.reply && is_last (owner st.locks m)) h agrees (are_other.lock m))

-- ---- calls

create_agree : (b : Bool) (rank : Tid → ℕ) (st : State) → InOrder st → WaitsAgree st.conds st.rows → WaitsAgree st.conds (ready_if b rank st.rows (thread st.threads.next))
create_agree true rank st order h =
    agree_put st.conds st.rows row.Ready (thread st.threads.next) (rank (thread st.threads.next)) h
    (no_wait st.conds st.rows (thread st.threads.next) h (ap if_waiting (next_no_row st order))) refl
create_agree false rank st order h = h

block_agree : (b : Bool) (cs : Conds) (rs : Rows) (r : RowId) (t : Tid) (rank : ℕ) → WaitsAgree cs rs → wait_of cs t ≡ None → if_waiting (Some r) ≡ None → WaitsAgree cs (block_if b rs r t rank)
block_agree b cs rs r t rank h alone other = agree_of cs (block_if b rs r t rank) (rows.agree_block_if wait_rows b cs.waits rs r t rank (agree_in cs rs h) alone other)

rank_agree : (b : Bool) (cs : Conds) (ths : Threads) (rs : Rows) (w : Tid) → WaitsAgree cs rs → WaitsAgree cs (rank_if b ths rs w)
rank_agree true cs ths rs w h = agree_set_rank cs rs w (rank_at ths w) h
rank_agree false cs ths rs w h = h

cancelled_agree : (st : State) (w : Tid) (o : ThreadsReply) (y : Reply) → WaitsAgree st.conds st.rows → WaitsAgree (cancelled st w o y).state.conds (cancelled st w o y).state.rows
cancelled_agree st w o (reply.Effect effect.Wakes) h = agree_cancel_wait (rank_of st) st.conds st.pipes st.locks st.rows w h
cancelled_agree st w o (reply.Effect _) h = h
cancelled_agree st w o _ h = h

signals_agree : (st : State) (c : NameId) (w : Option (Tid × NameId)) → (signal st.conds st.rows c).waiter ≡ w → WaitsAgree st.conds st.rows
    → (let after : State = (signals_one st (signal st.conds st.rows c) w).state in WaitsAgree after.conds after.rows)
signals_agree st c None e h = agree_signal st.conds st.rows c h
signals_agree st c (Some w) e h =
    let o : Signalled = signal st.conds st.rows c in
    agree_regain o.conds st.locks o.rows w.1 w.0 (rank_of st w.0) (agree_signal st.conds st.rows c h) (signalled_waits_not st.conds st.rows c w.0 w.1 e)

module _ (s : Script) (st : State) (t : Tid) (ns : List ℤ) (order : InOrder st) (h : IsCanonical st.rows.seats) (alone : wait_of st.conds t ≡ None) (agrees_before : WaitsAgree st.conds st.rows) where
  answered_agree : (call : DceCall) → WaitsAgree (answered s st t call ns).state.conds (answered s st t call ns).state.rows
  unfolding answered
  answered_agree (dce.Create v a routine e) =
      let o : ThreadsReply = threads.create st.threads t a in create_agree (is_value o.reply) (rank_at o.threads) st order agrees_before
  answered_agree (dce.Join e v) =
      block_agree (is_blocks (threads.join st.threads t (first ns))) st.conds st.rows (row.Join (thread (natural (first ns)))) t (rank_of st t) agrees_before alone refl
  answered_agree dce.Yield = agree_block_in st.conds st.rows row.Ready t (rank_of st t) agrees_before alone refl
  answered_agree (dce.Cancel e) =
      let who : Tid = thread (natural (first ns)) in
      let o : ThreadsReply = cancels.cancel st.threads (first ns) (waits_at_point st.rows who) in cancelled_agree st who o o.reply agrees_before
  answered_agree (dce.Setprio e f v) =
      let o : ThreadsReply = setprio st.threads (first ns) (second ns) in rank_agree (is_value o.reply) st.conds o.threads st.rows (thread (natural (first ns))) agrees_before
  answered_agree (dce.Setscheduler e policy f v) =
      let o : ThreadsReply = setscheduler st.threads (first ns) policy (second ns) in rank_agree (is_value o.reply) st.conds o.threads st.rows (thread (natural (first ns))) agrees_before
  answered_agree (dce.DelayNp e) = agree_delay st.conds st.rows (first ns) st.clock t (rank_of st t) agrees_before
  answered_agree (dce.MutexLock m) = agree_lock st.conds st.locks st.rows (Some m) t (rank_of st t) agrees_before alone
  answered_agree (dce.MutexUnlock m) = unlocks_agree st t (Some m) h agrees_before
  answered_agree dce.LockGlobalNp = agree_lock st.conds st.locks st.rows None t (rank_of st t) agrees_before alone
  answered_agree dce.UnlockGlobalNp = unlocks_agree st t None h agrees_before
  answered_agree (dce.CondInit c) = record { same = agrees_before.same }
  answered_agree (dce.CondDestroy c) = record { same = agrees_before.same }
  answered_agree (dce.CondWait c m) =
      let o : Waited = wait st.conds st.locks st.rows c m t (rank_of st t) in
      given_agree (record st { conds = o.conds; locks = o.locks }) o.rows o.given (agree_wait st.conds st.locks st.rows c m t (rank_of st t) h agrees_before)
      (λ w e. given_waits_not st.conds st.locks st.rows c m t (rank_of st t) w h agrees_before e)
  answered_agree (dce.CondTimedwait c m e) =
      let o : Waited = timedwait st.conds st.locks st.rows c m (first ns) st.clock t (rank_of st t) in
      given_agree (record st { conds = o.conds; locks = o.locks }) o.rows o.given (agree_timedwait st.conds st.locks st.rows c m (first ns) st.clock t (rank_of st t) h agrees_before)
      (λ w f. timed_given_waits_not st.conds st.locks st.rows c m (first ns) st.clock t (rank_of st t) w h agrees_before f)
  answered_agree (dce.CondSignal c) = signals_agree st c (signal st.conds st.rows c).waiter refl agrees_before
  answered_agree (dce.CondBroadcast c) = agree_wake_all (rank_of st) st.conds st.locks st.rows _ agrees_before
  answered_agree (dce.Once o routine) = agree_enter st.conds st.onces st.rows o t (rank_of st t) agrees_before alone
  answered_agree (dce.Read p v w) =
      let o : ReadReply = read st.pipes st.rows p t (rank_of st t) in
      woken_agree (record st { pipes = o.pipes }) o.rows reply.Done o.relieved (agree_read st.conds st.pipes st.rows p t (rank_of st t) h agrees_before alone)
      (best_free st (row.Writer p) (is_value o.reply) h agrees_before refl)
  answered_agree (dce.Write p e) =
      let o : WriteReply = write st.pipes st.rows p (first ns) t (rank_of st t) in
      woken_agree (record st { pipes = o.pipes }) o.rows (reply.Value (first ns)) o.reader (agree_write st.conds st.pipes st.rows p (first ns) t (rank_of st t) h agrees_before alone)
      (best_free st (row.Reader p) (pipe_at st.pipes p).is_open h agrees_before refl)
  answered_agree (dce.Close p) = agree_close_out (rank_of st) st.conds st.pipes st.rows p h agrees_before
  answered_agree _ = agrees_before

-- ---- what ends a turn

handed_agree : (st : State) (o : once.Undone) (w : Option Tid) → WaitsAgree st.conds o.rows → IfFree st.conds w → WaitsAgree (handed_on st o w).conds (handed_on st o w).rows
handed_agree st o None h free = h
handed_agree st o (Some w) h free = agree_put st.conds o.rows row.Ready w (rank_of st w) h (free w refl) refl

undone_agree : (st : State) (block : NameId) → IsCanonical st.rows.seats → WaitsAgree st.conds st.rows
    → (let o : once.Undone = once.undone st.onces st.rows block in let after : State = handed_on st o o.runner in WaitsAgree after.conds after.rows)
undone_agree st block h agrees =
    let o : once.Undone = once.undone st.onces st.rows block in
    handed_agree st o o.runner (agree_undone st.conds st.onces st.rows block h agrees) (best_free st (row.Once block) true h agrees refl)

ended_agree : (st : State) (t : Tid) → IsCanonical st.rows.seats → WaitsAgree st.conds st.rows → WaitsAgree st.conds (leave (free_row (rank_of st) st.rows (row.Join t)).rows t)
ended_agree st t h agrees = agree_leave st.conds (free_row (rank_of st) st.rows (row.Join t)).rows t (agree_free_row (rank_of st) st.conds st.rows (row.Join t) h agrees refl)

-- ---- histories

abbrev Orderly : Script → State → Type 0
Orderly s st = InOrder st

abbrev Agreeing : Script → State → Type 0
Agreeing s st = WaitsAgree st.conds st.rows

abbrev Turning : Script → Tid → State → Type 0
Turning s t st = WaitsAgree st.conds st.rows

opening_agrees : (s : Script) → WaitsAgree (opening s).conds (opening s).rows
opening_agrees s = agree_put no_conds no_rows row.Ready (thread 1) (rank_at first_threads (thread 1)) agree_opening (get_none 1) refl

waits_by_events : IsKeptByEvents Orderly Agreeing Turning
waits_by_events = record {
  opens = opening_agrees;
  begins = λ s st t i run h. h;
  pays = λ s st t h. h;
  calls = λ s st t call ns i c h. answered_agree s st t ns i.more i.tables.seats (no_wait st.conds st.rows t h (ap if_waiting (run_no_row st t c.run))) h call;
  stores = λ s st t shared h. h;
  delivers = λ s st t i run h. h;
  undoes = λ s st t block i run h. undone_agree st block i.tables.seats h;
  completes = λ s st t block i run h. agree_free_row (rank_of st) st.conds st.rows (row.Once block) i.tables.seats h refl;
  destroys = λ s st t onces h. h;
  moves = λ s st t r h. h;
  ends = λ s st t v i run e h. ended_agree st t i.tables.seats h;
  keeps = λ s st t fifo h. agree_keeps st.conds st.rows t fifo h;
  takes = λ s st p i h. agree_dispatch st.conds st.rows p i.tables.seats h;
  passes = λ s st now i h. agree_wake_all (rank_of st) st.conds st.locks st.rows (due_first st.conds st.rows now) h;
}

pub history_waits : {s : Script} {n : ℕ} {x : Execution} → History s n x → WaitsAgree x.state.conds x.state.rows
history_waits {s} {n} {x} h = history_kept Orderly Agreeing Turning waits_by_events (λ y k. (agrees k).order) h

-- ---- how many wait

row_seat : (o : Option Seat) → is_in_row o ≡ true → is_some o ≡ true
row_seat None e = absurd (false≢true e)
row_seat (Some s) e = refl

wait_sits : (cs : Conds) (rs : Rows) (t : ℕ) → WaitsAgree cs rs → has cs.waits t ≡ true → has rs.seats t ≡ true
wait_sits cs rs t h e =
    has_get rs.seats t ∙ row_seat (get rs.seats t) (rows.waits_in_row wait_rows cs.waits rs (thread t) (agree_in cs rs h) (sym (has_get cs.waits t) ∙ e))

pub few_waits : {s : Script} {n : ℕ} {x : Execution} → History s n x → length x.state.conds.waits ≤ most
few_waits {x = x} h =
    let tables : IsCanonicalState x.state = canonical-state h in
    at_most (length x.state.conds.waits) (length x.state.rows.seats) most
    (not_longer x.state.conds.waits x.state.rows.seats tables.waits (λ t e. wait_sits x.state.conds x.state.rows t (history_waits h) e)) (few_seats h)
