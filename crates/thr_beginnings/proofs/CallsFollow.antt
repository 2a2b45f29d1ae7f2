-- What follows for threads that stand in the row of a once block or owe its running follows after each call, if it follows for the
-- caller that has to wait for one.
use Rattle.std.proofs.Common.{◌≡◌, ℕ, ℤ, Bool, true, false, eqb, List, [], map, Option, Some, None, refl}
use Rattle.std.specs.Prelude.{if◌then◌else◌, int_le}
use Rattle.thr_values.specs.declared.number.NameId.{NameId}
use Rattle.thr_values.specs.declared.number.Tid.{Tid}
use Rattle.thr_values.specs.declared.reply.Effect.TheVariants as effect
use Rattle.thr_values.specs.declared.reply.Reply.{Reply}
use Rattle.thr_values.specs.declared.reply.Reply.TheVariants as reply
use Rattle.thr_syntax.specs.declared.dce.DceCall.{DceCall}
use Rattle.thr_syntax.specs.declared.dce.DceCall.TheVariants as dce
use Rattle.thr_syntax.specs.declared.tree.Script.{Script}
use Rattle.thr_remainder.specs.Replies.{needs_two_frames}
use Rattle.thr_parts.specs.declared.row.RowId.TheVariants as row
use Rattle.thr_parts.specs.Tables.{get, has}
use Rattle.thr_parts.specs.Replies.{is_value, is_blocks}
use Rattle.thr_parts.specs.Rows.{Rows, thread, best_first}
use Rattle.thr_parts.specs.Moves.{take_out_if, block_if}
use Rattle.thr_parts.specs.Threads as threads
use Rattle.thr_parts.specs.Threads.{Threads, ThreadsReply, natural, rank_at}
use Rattle.thr_parts.specs.Scheduling.{setprio, setscheduler}
use Rattle.thr_parts.specs.Cancels.{waits_at_point}
use Rattle.thr_parts.specs.Cancels as cancels
use Rattle.thr_parts.specs.Mutexes.{mutex_at, waiters_row}
use Rattle.thr_parts.specs.Locking.{lock_reply, unlock}
use Rattle.thr_parts.specs.Conditions.{Waited, wait_reply, timedwait_reply, wait, timedwait, delay_reply}
use Rattle.thr_parts.specs.Waking.{signal, broadcast}
use Rattle.thr_parts.specs.OnceBlocks.{enter}
use Rattle.thr_parts.specs.Pipes.{ReadReply, WriteReply, pipe_at, read, write}
use Rattle.thr_parts.specs.Closing.{close_out, free_if}
use Rattle.thr_model.specs.States.{State, Return, Delivery, rank_of, all_owe}
use Rattle.thr_model.specs.Calls.{answered, ready_if, rank_if, cancelled, given_state, signals_one, woken_state, first, second}
use Rattle.thr_beginnings.proofs.OnceRows.{is_once_row, Follows, row_follows, out_follows, block_follows, block_if_follows, enter_follows, rank_follows, free_if_follows, regain_follows, wake_all_follows, cancel_wait_follows}
use Rattle.thr_beginnings.proofs.RunningDebts.{FollowsOwed, other_follows, more_follows, all_follows}

module _ (u : ℕ) (A : Type 0) where
  -- The fact follows where the thread stands in the row of a once block, and where it owes its running.
  pub record FollowsIn (st : State) : Type 0 where
    pub rows : Follows u A st.rows.seats
    pub owed : FollowsOwed u A st.debts

  -- ---- parts of calls

  ready_if_follows : (b : Bool) (rank : Tid → ℕ) (rs : Rows) (t : Tid) → Follows u A rs.seats → Follows u A (ready_if b rank rs t).seats
  ready_if_follows true rank rs t h = row_follows u A rs row.Ready t (rank t) refl h
  ready_if_follows false rank rs t h = h

  rank_if_follows : (b : Bool) (ths : Threads) (rs : Rows) (t : Tid) → Follows u A rs.seats → Follows u A (rank_if b ths rs t).seats
  rank_if_follows true ths rs t h = rank_follows u A rs t (rank_at ths t) h
  rank_if_follows false ths rs t h = h

  cancelled_follows : (st : State) (target : Tid) (o : ThreadsReply) (y : Reply) → FollowsIn st → FollowsIn (cancelled st target o y).state
  cancelled_follows st target o (reply.Effect effect.Wakes) h = record {
    rows = cancel_wait_follows u A (rank_of st) st.conds st.pipes st.locks st.rows target h.rows;
    owed = other_follows u A st.debts target.0 Delivery refl h.owed;
  }
  cancelled_follows st target o (reply.Effect effect.Ended) h = record { rows = h.rows; owed = h.owed }
  cancelled_follows st target o (reply.Effect effect.Merged) h = record { rows = h.rows; owed = h.owed }
  cancelled_follows st target o (reply.Effect effect.Pending) h = record { rows = h.rows; owed = h.owed }
  cancelled_follows st target o _ h = record { rows = h.rows; owed = h.owed }

  given_follows : (st : State) (rs : Rows) (o : Option Tid) → Follows u A rs.seats → FollowsOwed u A st.debts → FollowsIn (given_state st rs o)
  given_follows st rs None h k = record { rows = h; owed = k }
  given_follows st rs (Some t) h k = record {
    rows = row_follows u A rs row.Ready t (rank_of st t) refl h;
    owed = more_follows u A st.debts (get st.debts t.0) (Return reply.Done) t refl k;
  }

  signals_follow : (st : State) (c : NameId) (o : Option (Tid × NameId)) → FollowsIn st → FollowsIn (signals_one st (signal st.conds st.rows c) o).state
  signals_follow st c None h = record { rows = out_follows u A st.rows _ h.rows; owed = h.owed }
  signals_follow st c (Some w) h = record {
    rows = regain_follows u A st.locks (signal st.conds st.rows c).rows w.1 w.0 (rank_of st w.0) (out_follows u A st.rows _ h.rows);
    owed = other_follows u A st.debts w.0.0 (Return reply.Done) refl h.owed;
  }

  woken_follows : (st : State) (rs : Rows) (y : Reply) (o : Option Tid) → Follows u A rs.seats → FollowsOwed u A st.debts → FollowsIn (woken_state st rs y o)
  woken_follows st rs y None h k = record { rows = h; owed = k }
  woken_follows st rs y (Some t) h k = record {
    rows = row_follows u A rs row.Ready t (rank_of st t) refl h;
    owed = other_follows u A st.debts t.0 (Return y) refl k;
  }

  lock_row : (m : Option NameId) → is_once_row (Some (waiters_row m)) ≡ false
  lock_row None = refl
  lock_row (Some m) = refl

  -- ---- all calls

  -- The call may make this thread wait for a once block.
  abbrev pub MayWait : State → Tid → DceCall → List ℤ → Script → Type 0
  MayWait st t call ns s = needs_two_frames call ≡ true → is_blocks (answered s st t call ns).reply ≡ true → eqb t.0 u ≡ true → A

  pub answered_follows : (s : Script) (st : State) (t : Tid) (call : DceCall) (ns : List ℤ) → MayWait st t call ns s → FollowsIn st → FollowsIn (answered s st t call ns).state
  unfolding answered
  answered_follows s st t (dce.Create v a routine e) ns may h =
      let o : ThreadsReply = threads.create st.threads t a in record { rows = ready_if_follows (is_value o.reply) (rank_at o.threads) st.rows (thread st.threads.next) h.rows; owed = h.owed }
  answered_follows s st t (dce.Join e v) ns may h =
      record { rows = block_if_follows u A (is_blocks (threads.join st.threads t (first ns))) st.rows (row.Join (thread (natural (first ns)))) t (rank_of st t) refl h.rows; owed = h.owed }
  answered_follows s st t dce.Yield ns may h = record { rows = block_follows u A st.rows row.Ready t (rank_of st t) refl h.rows; owed = h.owed }
  answered_follows s st t (dce.Cancel e) ns may h =
      let who : Tid = thread (natural (first ns)) in
      let o : ThreadsReply = cancels.cancel st.threads (first ns) (waits_at_point st.rows who) in cancelled_follows st who o o.reply h
  answered_follows s st t (dce.Setprio e f v) ns may h =
      let o : ThreadsReply = setprio st.threads (first ns) (second ns) in record { rows = rank_if_follows (is_value o.reply) o.threads st.rows (thread (natural (first ns))) h.rows; owed = h.owed }
  answered_follows s st t (dce.Setscheduler e policy f v) ns may h =
      let o : ThreadsReply = setscheduler st.threads (first ns) policy (second ns) in record { rows = rank_if_follows (is_value o.reply) o.threads st.rows (thread (natural (first ns))) h.rows; owed = h.owed }
  answered_follows s st t (dce.DelayNp e) ns may h = record { rows = block_if_follows u A (is_blocks (delay_reply (first ns) st.clock)) st.rows row.Time t (rank_of st t) refl h.rows; owed = h.owed }
  answered_follows s st t (dce.MutexLock m) ns may h =
      record { rows = block_if_follows u A (is_blocks (lock_reply (mutex_at st.locks (Some m)) t)) st.rows (waiters_row (Some m)) t (rank_of st t) refl h.rows; owed = h.owed }
  answered_follows s st t (dce.MutexUnlock m) ns may h =
      let o = unlock st.locks st.rows (Some m) t in given_follows (record st { locks = o.locks }) o.rows o.given (out_follows u A st.rows o.given h.rows) h.owed
  answered_follows s st t dce.LockGlobalNp ns may h =
      record { rows = block_if_follows u A (is_blocks (lock_reply (mutex_at st.locks None) t)) st.rows (waiters_row None) t (rank_of st t) refl h.rows; owed = h.owed }
  answered_follows s st t dce.UnlockGlobalNp ns may h =
      let o = unlock st.locks st.rows None t in given_follows (record st { locks = o.locks }) o.rows o.given (out_follows u A st.rows o.given h.rows) h.owed
  answered_follows s st t (dce.CondWait c m) ns may h =
      let o : Waited = wait st.conds st.locks st.rows c m t (rank_of st t) in
      given_follows (record st { conds = o.conds; locks = o.locks }) o.rows o.given
      (out_follows u A (block_if (is_blocks (wait_reply st.conds st.locks c m t)) st.rows (row.Cond c) t (rank_of st t)) o.given
      (block_if_follows u A (is_blocks (wait_reply st.conds st.locks c m t)) st.rows (row.Cond c) t (rank_of st t) refl h.rows)) h.owed
  answered_follows s st t (dce.CondTimedwait c m e) ns may h =
      let o : Waited = timedwait st.conds st.locks st.rows c m (first ns) st.clock t (rank_of st t) in
      let b : Bool = is_blocks (timedwait_reply (wait_reply st.conds st.locks c m t) (int_le (first ns) st.clock)) in
      given_follows (record st { conds = o.conds; locks = o.locks }) o.rows o.given
      (out_follows u A (block_if b st.rows (row.Cond c) t (rank_of st t)) o.given (block_if_follows u A b st.rows (row.Cond c) t (rank_of st t) refl h.rows)) h.owed
  answered_follows s st t (dce.CondSignal c) ns may h = signals_follow st c (signal st.conds st.rows c).waiter h
  answered_follows s st t (dce.CondBroadcast c) ns may h =
      record {
        rows = wake_all_follows u A (rank_of st) st.conds st.locks st.rows (if has st.conds.made c.0 then best_first st.rows (row.Cond c) else []) h.rows;
        owed = all_follows u A (map (λ w. w.0) (broadcast (rank_of st) st.conds st.locks st.rows c).woken.woken) st.debts (Return reply.Done) refl h.owed;
      }
  answered_follows s st t (dce.Once o routine) ns may h =
      record { rows = enter_follows u A (is_blocks (enter st.onces st.rows o t (rank_of st t)).reply) st.rows (row.Once o) t (rank_of st t) (may refl) h.rows; owed = h.owed }
  answered_follows s st t (dce.Read p v w) ns may h =
      let o : ReadReply = read st.pipes st.rows p t (rank_of st t) in
      woken_follows (record st { pipes = o.pipes }) o.rows reply.Done o.relieved
      (out_follows u A (block_if (is_blocks o.reply) st.rows (row.Reader p) t (rank_of st t)) o.relieved (block_if_follows u A (is_blocks o.reply) st.rows (row.Reader p) t (rank_of st t) refl h.rows)) h.owed
  answered_follows s st t (dce.Write p e) ns may h =
      let o : WriteReply = write st.pipes st.rows p (first ns) t (rank_of st t) in
      woken_follows (record st { pipes = o.pipes }) o.rows (reply.Value (first ns)) o.reader
      (block_if_follows u A (is_blocks o.reply) (take_out_if st.rows o.reader) (row.Writer p) t (rank_of st t) refl (out_follows u A st.rows o.reader h.rows)) h.owed
  answered_follows s st t (dce.Close p) ns may h =
      let opened : Bool = (pipe_at st.pipes p).is_open in
      let o = close_out (rank_of st) st.pipes st.rows p in
      record {
        rows = free_if_follows u A opened (rank_of st) (free_if opened (rank_of st) st.rows (row.Reader p)).rows (row.Writer p) (free_if_follows u A opened (rank_of st) st.rows (row.Reader p) h.rows);
        owed = all_follows u A o.writers (all_owe st.debts (Return reply.Eof) o.readers) (Return reply.Epipe) refl (all_follows u A o.readers st.debts (Return reply.Eof) refl h.owed);
      }
  answered_follows s st t _ ns may h = record { rows = h.rows; owed = h.owed }
