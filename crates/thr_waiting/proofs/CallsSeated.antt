-- After each call that creates no thread those that have a seat are the same, whoever comes to owe something has one, and what is left
-- to do is as it was.
use Rattle.std.proofs.Common.{◌≡◌, ℕ, ℤ, Bool, true, false, not, ◌&&◌, ◌||◌, List, [], ◌∷◌, map, Option, Some, None, refl, sym, ◌∙◌, ap, subst}
use Rattle.std.proofs.lemmas.Bool.{false≢true}
use Rattle.std.specs.Prelude.{if◌then◌else◌, int_le}
use Rattle.std.specs.Option.{is_some}
use Rattle.thr_values.specs.declared.number.NameId.{NameId}
use Rattle.thr_values.specs.declared.number.Tid.{Tid}
use Rattle.thr_values.specs.declared.reply.Effect.TheVariants as effect
use Rattle.thr_values.specs.declared.reply.Reply.{Reply}
use Rattle.thr_values.specs.declared.reply.Reply.TheVariants as reply
use Rattle.thr_syntax.specs.declared.dce.DceCall.{DceCall}
use Rattle.thr_syntax.specs.declared.dce.DceCall.TheVariants as dce
use Rattle.thr_syntax.specs.declared.tree.Script.{Script}
use Rattle.thr_parts.specs.declared.row.RowId.{RowId}
use Rattle.thr_parts.specs.declared.row.RowId.TheVariants as row
use Rattle.thr_parts.specs.declared.row.Seat.{Seat}
use Rattle.thr_parts.specs.Tables.{get, has, keep_if, IsCanonical}
use Rattle.thr_parts.specs.Replies.{is_done, is_blocks, is_value, made_reply}
use Rattle.thr_parts.specs.Rows.{Rows, thread, row_at, best, best_first}
use Rattle.thr_parts.specs.Moves.{take_out_if, block_if}
use Rattle.thr_parts.specs.Threads as threads
use Rattle.thr_parts.specs.Threads.{Threads, ThreadsReply, natural, rank_at, record_of}
use Rattle.thr_parts.specs.Scheduling.{setprio, setscheduler}
use Rattle.thr_parts.specs.Cancels.{is_point, waits_at_point}
use Rattle.thr_parts.specs.Cancels as cancels
use Rattle.thr_parts.specs.Mutexes.{mutex_at, waiters_row, owner}
use Rattle.thr_parts.specs.Locking.{Unlocked, is_free, is_last, lock_reply, unlock}
use Rattle.thr_parts.specs.Conditions.{Conds, Waited, begin_wait, wait_reply, timedwait_reply, delay_reply}
use Rattle.thr_parts.specs.Waking.{Signalled, thread_in, without_wait, next_waiter, mutex_with, wake_all, signal}
use Rattle.thr_parts.specs.OnceBlocks.{enter}
use Rattle.thr_parts.specs.Pipes.{Pipe, ReadReply, WriteReply, pipe_at, has_room, read, write, write_reply}
use Rattle.thr_parts.specs.Closing.{free_if}
use Rattle.thr_parts.proofs.MoveLaws.{canonical_block_if}
use Rattle.thr_parts.proofs.PartLaws.{canonical_free_row}
use Rattle.thr_parts.proofs.RowLaws.{best_stands}
use Rattle.thr_rows.proofs.AgreementLaws.{from_kept}
use Rattle.thr_rows.proofs.RoomLaws.{best_by}
use Rattle.thr_model.specs.States.{State, Return, Delivery, rank_of, all_owe}
use Rattle.thr_model.specs.Calls.{answered, rank_if, cancelled, given_state, signals_one, woken_state, first, second}
use Rattle.thr_answers.proofs.StatusCalls.{IsNoCreation, woken_at_point}
use Rattle.thr_waiting.proofs.SeatsStay.{Sits, Stay, AllSit, row_sits, best_sits, row_all_sit, block_stays, block_if_stays, comes_stays, set_rank_stays, free_if_stays, wake_all_stays, cancelled_stays}
use Rattle.thr_waiting.proofs.Owers.{OwersSit, put_sits, more_sits, all_owe_sits, woken_are}

-- What a call leaves.
pub record IsLeft (st after : State) : Type 0 where
  pub seats : Stay st.rows after.rows
  pub owers : OwersSit st.debts st.rows → OwersSit after.debts st.rows
  pub left : after.remainders ≡ st.remainders

-- ---- threads that are given a mutex

-- The thread that is there has a seat.
abbrev pub IfSits : Rows → Option Tid → Type 0
IfSits rs o = (w : Tid) → o ≡ Some w → Sits rs w.0

-- It had one before, too.
sat_before : (rs after : Rows) (o : Option Tid) → Stay rs after → IfSits after o → IfSits rs o
sat_before rs after o h s w e = sym (h w.0) ∙ s w e

given_stays : (st : State) (rs : Rows) (o : Option Tid) → IfSits rs o → Stay rs (given_state st (take_out_if rs o) o).rows
given_stays st rs None s u = refl
given_stays st rs (Some w) s u = comes_stays rs row.Ready w (rank_of st w) (s w refl) u

given_owers : (st : State) (rs before : Rows) (o : Option Tid) → IfSits before o → OwersSit st.debts before → OwersSit (given_state st rs o).debts before
given_owers st rs before None s h = h
given_owers st rs before (Some w) s h = more_sits st.debts before (get st.debts w.0) (Return reply.Done) w (s w refl) h

given_left : (st : State) (rs : Rows) (o : Option Tid) → (given_state st rs o).remainders ≡ st.remainders
given_left st rs None = refl
given_left st rs (Some w) = refl

unlocks_left : (st : State) (t : Tid) (m : Option NameId) → IsCanonical st.rows.seats
    → (let o : Unlocked = unlock st.locks st.rows m t in IsLeft st (given_state (record st { locks = o.locks }) o.rows o.given))
unlocks_left st t m h =
    let o : Unlocked = unlock st.locks st.rows m t in
    let s : IfSits st.rows o.given = best_sits st.rows (waiters_row m) (is_done o.reply && is_last (owner st.locks m)) h in record {
      seats = given_stays (record st { locks = o.locks }) st.rows o.given s;
      owers = given_owers (record st { locks = o.locks }) o.rows st.rows o.given s;
      left = given_left (record st { locks = o.locks }) o.rows o.given;
    }

waits_left : (st : State) (t : Tid) (c m : NameId) (until : Option ℤ) (rank : ℕ) (said : Reply) → IsCanonical st.rows.seats → Sits st.rows t.0
    → (let o : Waited = begin_wait st.conds st.locks st.rows c m until t rank said in IsLeft st (given_state (record st { conds = o.conds; locks = o.locks }) o.rows o.given))
waits_left st t c m until rank said h s =
    let b : Bool = is_blocks said in
    let o : Waited = begin_wait st.conds st.locks st.rows c m until t rank said in
    let now : State = record st { conds = o.conds; locks = o.locks } in
    let waiting : Rows = block_if b st.rows (row.Cond c) t rank in
    let one : Stay st.rows waiting = block_if_stays b st.rows (row.Cond c) t rank s in
    let sits : IfSits waiting o.given = best_sits waiting (row.Mutex m) b (canonical_block_if b st.rows (row.Cond c) t rank h) in record {
      seats = λ u. given_stays now waiting o.given sits u ∙ one u;
      owers = given_owers now o.rows st.rows o.given (sat_before st.rows waiting o.given one sits);
      left = given_left now o.rows o.given;
    }

-- ---- signals

signalled_sits : (cs : Conds) (rs : Rows) (c : NameId) (b : Bool) (w : Tid × NameId) → IsCanonical rs.seats → keep_if b (next_waiter cs rs c) ≡ Some w → Sits rs w.0.0
signalled_sits cs rs c b w h e =
    row_sits (get rs.seats w.0.0) (row.Cond c)
    (best_stands rs (row.Cond c) w.0 h (best_by cs w.0 (best rs (row.Cond c)) (ap (λ (o : Option (Tid × NameId)). thread_in o) (from_kept b (next_waiter cs rs c) w e))))

signal_left : (st : State) (y : Reply) (next : Option (Tid × NameId)) → ((w : Tid × NameId) → next ≡ Some w → Sits st.rows w.0.0)
    → (let o : Signalled = record { reply = y; conds = without_wait st.conds (thread_in next); rows = take_out_if st.rows (thread_in next); waiter = next } in IsLeft st (signals_one st o next).state)
signal_left st y None s = record { seats = λ u. refl; owers = λ h. h; left = refl }
signal_left st y (Some w) s = record {
  seats = comes_stays st.rows (if is_free (mutex_at st.locks (Some w.1)) then row.Ready else row.Mutex w.1) w.0 (rank_of st w.0) (s w refl);
  owers = put_sits st.debts st.rows w.0.0 (Return reply.Done) (s w refl);
  left = refl;
}

waiters_sit : (b : Bool) (rs : Rows) (r : RowId) → IsCanonical rs.seats → AllSit rs (if b then best_first rs r else [])
waiters_sit true rs r h = row_all_sit rs r h
waiters_sit false rs r h = tt

-- ---- cancels

point_sits : (o : Option Seat) → is_point (row_at o) ≡ true → is_some o ≡ true
point_sits None e = absurd (false≢true e)
point_sits (Some x) e = refl

cancelled_left : (st : State) (w : Tid) (o : ThreadsReply) (y : Reply) → (y ≡ reply.Effect effect.Wakes → Sits st.rows w.0) → IsLeft st (cancelled st w o y).state
cancelled_left st w o (reply.Effect effect.Wakes) s = record {
  seats = cancelled_stays (rank_of st) st.locks st.rows w (mutex_with st.conds w) (s refl);
  owers = put_sits st.debts st.rows w.0 Delivery (s refl);
  left = refl;
}
cancelled_left st w o (reply.Effect _) s = record { seats = λ u. refl; owers = λ h. h; left = refl }
cancelled_left st w o _ s = record { seats = λ u. refl; owers = λ h. h; left = refl }

cancels_left : (st : State) (target : ℤ)
    → (let who : Tid = thread (natural target) in let o : ThreadsReply = cancels.cancel st.threads target (waits_at_point st.rows who) in IsLeft st (cancelled st who o o.reply).state)
cancels_left st target =
    let who : Tid = thread (natural target) in
    let o : ThreadsReply = cancels.cancel st.threads target (waits_at_point st.rows who) in
    cancelled_left st who o o.reply (λ e. point_sits (get st.rows.seats who.0) (woken_at_point (record_of st.threads target) (waits_at_point st.rows who) e))

-- ---- ranks

rank_if_stays : (b : Bool) (ths : Threads) (rs : Rows) (w : Tid) → Stay rs (rank_if b ths rs w)
rank_if_stays true ths rs w = set_rank_stays rs w (rank_at ths w)
rank_if_stays false ths rs w = λ u. refl

-- ---- pipes

woken_stays : (st : State) (rs : Rows) (y : Reply) (o : Option Tid) → IfSits rs o → Stay rs (woken_state st (take_out_if rs o) y o).rows
woken_stays st rs y None s u = refl
woken_stays st rs y (Some w) s u = comes_stays rs row.Ready w (rank_of st w) (s w refl) u

woken_owers : (st : State) (rs before : Rows) (y : Reply) (o : Option Tid) → IfSits before o → OwersSit st.debts before → OwersSit (woken_state st rs y o).debts before
woken_owers st rs before y None s h = h
woken_owers st rs before y (Some w) s h = put_sits st.debts before w.0 (Return y) (s w refl) h

woken_left : (st : State) (rs : Rows) (y : Reply) (o : Option Tid) → (woken_state st rs y o).remainders ≡ st.remainders
woken_left st rs y None = refl
woken_left st rs y (Some w) = refl

reads_left : (st : State) (p : NameId) (t : Tid) (rank : ℕ) (y : Reply) → IsCanonical st.rows.seats → Sits st.rows t.0
    → (let o : ReadReply = read st.pipes st.rows p t rank in IsLeft st (woken_state (record st { pipes = o.pipes }) o.rows y o.relieved))
reads_left st p t rank y h s =
    let o : ReadReply = read st.pipes st.rows p t rank in
    let now : State = record st { pipes = o.pipes } in
    let blocked : Rows = block_if (is_blocks o.reply) st.rows (row.Reader p) t rank in
    let one : Stay st.rows blocked = block_if_stays (is_blocks o.reply) st.rows (row.Reader p) t rank s in
    let sits : IfSits st.rows o.relieved = best_sits st.rows (row.Writer p) (is_value o.reply) h in record {
      seats = λ u. woken_stays now blocked y o.relieved (λ w e. one w.0 ∙ sits w e) u ∙ one u;
      owers = woken_owers now o.rows st.rows y o.relieved sits;
      left = woken_left now o.rows y o.relieved;
    }

found_blocks_not : (opened room : Bool) → is_blocks (if not opened then reply.Epipe else (if true || room then reply.Done else reply.Blocks)) ≡ false
found_blocks_not true room = refl
found_blocks_not false room = refl

handed_stays : (st : State) (rs : Rows) (r : RowId) (t w : Tid) (rank : ℕ) (y : Reply) (b : Bool) → b ≡ false → Sits rs w.0 → Stay rs (woken_state st (block_if b (take_out_if rs (Some w)) r t rank) y (Some w)).rows
handed_stays st rs r t w rank y true e s u = absurd (false≢true (sym e))
handed_stays st rs r t w rank y false e s u = comes_stays rs row.Ready w (rank_of st w) s u

written_stays : (st : State) (rs : Rows) (p : NameId) (t : Tid) (rank : ℕ) (y : Reply) (x : Pipe) (o : Option Tid) → Sits rs t.0 → IfSits rs o
    → Stay rs (woken_state st (block_if (is_blocks (write_reply x o)) (take_out_if rs o) (row.Writer p) t rank) y o).rows
written_stays st rs p t rank y x None s here = block_if_stays (is_blocks (write_reply x None)) rs (row.Writer p) t rank s
written_stays st rs p t rank y x (Some w) s here = handed_stays st rs (row.Writer p) t w rank y (is_blocks (write_reply x (Some w))) (found_blocks_not x.is_open (has_room x)) (here w refl)

writes_left : (st : State) (p : NameId) (v : ℤ) (t : Tid) (rank : ℕ) (y : Reply) → IsCanonical st.rows.seats → Sits st.rows t.0
    → (let o : WriteReply = write st.pipes st.rows p v t rank in IsLeft st (woken_state (record st { pipes = o.pipes }) o.rows y o.reader))
writes_left st p v t rank y h s =
    let o : WriteReply = write st.pipes st.rows p v t rank in
    let x : Pipe = pipe_at st.pipes p in
    let now : State = record st { pipes = o.pipes } in
    let sits : IfSits st.rows o.reader = best_sits st.rows (row.Reader p) x.is_open h in record {
      seats = written_stays now st.rows p t rank y x o.reader s sits;
      owers = woken_owers now o.rows st.rows y o.reader sits;
      left = woken_left now o.rows y o.reader;
    }

canonical_free_if : (b : Bool) (rank : Tid → ℕ) (rs : Rows) (r : RowId) → IsCanonical rs.seats → IsCanonical (free_if b rank rs r).rows.seats
canonical_free_if true rank rs r h = canonical_free_row rank rs r h
canonical_free_if false rank rs r h = h

freed_sit : (b : Bool) (rank : Tid → ℕ) (rs : Rows) (r : RowId) → IsCanonical rs.seats → AllSit rs (free_if b rank rs r).woken
freed_sit true rank rs r h = row_all_sit rs r h
freed_sit false rank rs r h = tt

sat_all : (rs after : Rows) (ts : List Tid) → Stay rs after → AllSit after ts → AllSit rs ts
sat_all rs after [] h all = tt
sat_all rs after (w ∷ ts) h all = (sym (h w.0) ∙ all.0, sat_all rs after ts h all.1)

-- ---- the calls

module _ (s : Script) (st : State) (t : Tid) (ns : List ℤ) (h : IsCanonical st.rows.seats) (sits : Sits st.rows t.0) where
  pub answered_left : (call : DceCall) → IsNoCreation call → IsLeft st (answered s st t call ns).state
  unfolding answered
  answered_left (dce.Create v a routine e) i = absurd i
  answered_left (dce.Join e v) i =
      record { seats = block_if_stays (is_blocks (threads.join st.threads t (first ns))) st.rows (row.Join (thread (natural (first ns)))) t (rank_of st t) sits; owers = λ o. o; left = refl }
  answered_left dce.Yield i = record { seats = block_stays st.rows row.Ready t (rank_of st t) sits; owers = λ o. o; left = refl }
  answered_left (dce.Cancel e) i = cancels_left st (first ns)
  answered_left (dce.Setprio e f v) i =
      let o : ThreadsReply = setprio st.threads (first ns) (second ns) in
      record { seats = rank_if_stays (is_value o.reply) o.threads st.rows (thread (natural (first ns))); owers = λ o. o; left = refl }
  answered_left (dce.Setscheduler e policy f v) i =
      let o : ThreadsReply = setscheduler st.threads (first ns) policy (second ns) in
      record { seats = rank_if_stays (is_value o.reply) o.threads st.rows (thread (natural (first ns))); owers = λ o. o; left = refl }
  answered_left (dce.DelayNp e) i = record { seats = block_if_stays (is_blocks (delay_reply (first ns) st.clock)) st.rows row.Time t (rank_of st t) sits; owers = λ o. o; left = refl }
  answered_left (dce.MutexLock m) i =
      record { seats = block_if_stays (is_blocks (lock_reply (mutex_at st.locks (Some m)) t)) st.rows (row.Mutex m) t (rank_of st t) sits; owers = λ o. o; left = refl }
  answered_left (dce.MutexUnlock m) i = unlocks_left st t (Some m) h
  answered_left dce.LockGlobalNp i = record { seats = block_if_stays (is_blocks (lock_reply (mutex_at st.locks None) t)) st.rows row.Global t (rank_of st t) sits; owers = λ o. o; left = refl }
  answered_left dce.UnlockGlobalNp i = unlocks_left st t None h
  answered_left (dce.CondWait c m) i = waits_left st t c m None (rank_of st t) (wait_reply st.conds st.locks c m t) h sits
  answered_left (dce.CondTimedwait c m e) i =
      waits_left st t c m (Some (first ns)) (rank_of st t) (timedwait_reply (wait_reply st.conds st.locks c m t) (int_le (first ns) st.clock)) h sits
  answered_left (dce.CondSignal c) i =
      signal_left st (made_reply (has st.conds.made c.0)) (signal st.conds st.rows c).waiter (λ w e. signalled_sits st.conds st.rows c (has st.conds.made c.0) w h e)
  answered_left (dce.CondBroadcast c) i =
      let ts : List Tid = if has st.conds.made c.0 then best_first st.rows (row.Cond c) else [] in
      let all : AllSit st.rows ts = waiters_sit (has st.conds.made c.0) st.rows (row.Cond c) h in record {
        seats = wake_all_stays ts (rank_of st) st.conds st.locks st.rows all;
        owers = all_owe_sits (map (λ w. w.0) (wake_all (rank_of st) st.conds st.locks st.rows ts).woken) st.debts st.rows (Return reply.Done)
            (subst (AllSit st.rows) (sym (woken_are ts (rank_of st) st.conds st.locks st.rows)) all);
        left = refl;
      }
  answered_left (dce.Once o routine) i =
      record { seats = block_if_stays (is_blocks (enter st.onces st.rows o t (rank_of st t)).reply) st.rows (row.Once o) t (rank_of st t) sits; owers = λ o. o; left = refl }
  answered_left (dce.Read p v w) i = reads_left st p t (rank_of st t) reply.Done h sits
  answered_left (dce.Write p e) i = writes_left st p (first ns) t (rank_of st t) (reply.Value (first ns)) h sits
  answered_left (dce.Close p) i =
      let opened : Bool = (pipe_at st.pipes p).is_open in
      let rank : Tid → ℕ = rank_of st in
      let readers : Rows = (free_if opened rank st.rows (row.Reader p)).rows in
      let one : Stay st.rows readers = free_if_stays opened rank st.rows (row.Reader p) h in
      let sorted : IsCanonical readers.seats = canonical_free_if opened rank st.rows (row.Reader p) h in record {
        seats = λ u. free_if_stays opened rank readers (row.Writer p) sorted u ∙ one u;
        owers = λ o. all_owe_sits (free_if opened rank readers (row.Writer p)).woken (all_owe st.debts (Return reply.Eof) (free_if opened rank st.rows (row.Reader p)).woken) st.rows (Return reply.Epipe)
            (sat_all st.rows readers (free_if opened rank readers (row.Writer p)).woken one (freed_sit opened rank readers (row.Writer p) sorted))
            (all_owe_sits (free_if opened rank st.rows (row.Reader p)).woken st.debts st.rows (Return reply.Eof) (freed_sit opened rank st.rows (row.Reader p) h) o);
        left = refl;
      }
  answered_left _ i = record { seats = λ u. refl; owers = λ o. o; left = refl }
