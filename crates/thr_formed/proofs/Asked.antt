-- After each call of the thread service the names that the state keeps are of their kinds, and so are the mutexes that it gives.
use Rattle.std.proofs.Common.{◌≡◌, ℤ, Bool, true, false, List, [], ◌∷◌, Option, Some, None}
use Rattle.std.specs.Prelude.{if◌then◌else◌, int_le}
use Rattle.thr_values.specs.declared.number.NameId.{NameId}
use Rattle.thr_values.specs.declared.number.Tid.{Tid}
use Rattle.thr_values.specs.declared.reply.Effect.TheVariants as effect
use Rattle.thr_values.specs.declared.reply.Reply.{Reply}
use Rattle.thr_values.specs.declared.reply.Reply.TheVariants as reply
use Rattle.thr_syntax.specs.declared.dce.DceCall.{DceCall}
use Rattle.thr_syntax.specs.declared.dce.DceCall.TheVariants as dce
use Rattle.thr_syntax.specs.declared.tree.Script.{Script}
use Rattle.thr_text.specs.declared.object.Object.TheVariants as object
use Rattle.thr_trees.specs.Kinds.{is_name_of}
use Rattle.thr_trees.specs.Names.{named_in_call, AreOfKinds}
use Rattle.thr_remainder.specs.Remainders.{Remainder}
use Rattle.thr_remainder.specs.Starts.{fresh}
use Rattle.thr_parts.specs.declared.wait.Wait.{Wait}
use Rattle.thr_parts.specs.declared.wait.Wait.TheVariants.{Cond, Delay}
use Rattle.thr_parts.specs.declared.row.RowId.TheVariants as row
use Rattle.thr_parts.specs.Tables.{Table, has}
use Rattle.thr_parts.specs.Replies.{is_blocks, is_value}
use Rattle.thr_parts.specs.Rows.{Rows, best, best_first, thread}
use Rattle.thr_parts.specs.Moves.{take_out}
use Rattle.thr_parts.specs.Threads as threads
use Rattle.thr_parts.specs.Threads.{ThreadsReply, natural}
use Rattle.thr_parts.specs.Cancels.{waits_at_point}
use Rattle.thr_parts.specs.Cancels as cancels
use Rattle.thr_parts.specs.Locking.{unlock}
use Rattle.thr_parts.specs.Conditions.{wait, timedwait, wait_reply, timedwait_reply, delay_reply}
use Rattle.thr_parts.specs.Waking.{Signalled, signal, thread_in, mutex_with, resume, gift_of, wake_all}
use Rattle.thr_parts.specs.Keys.{Key}
use Rattle.thr_parts.specs.Pipes.{read, write}
use Rattle.thr_parts.proofs.EachLaws.{Each, each_put_if}
use Rattle.thr_model.specs.States.{State, rank_of}
use Rattle.thr_model.specs.Calls.{Gifts, Answered, answered, cancelled, given_state, signals_one, woken_state, first}
use Rattle.thr_sizes.proofs.Parts.{keep_there}
use Rattle.thr_formed.proofs.Named.{LeftNamed}
use Rattle.thr_formed.proofs.Moves.{fresh_named}
use Rattle.thr_formed.proofs.Given.{KeysNamed, key_put_if, WaitNamed, WaitsNamed, WaiterNamed, begun_named, waits_left, with_named, signalled_named, GiftsNamed, given_named, gift_named, as_gifts, woken_waits, woken_gifts}

-- The names that these parts keep are of their kinds.
pub record NamesIn (s : Script) (rs : Table Remainder) (ws : Table Wait) (ks : Table Key) : Type 0 where
  pub left : Each (LeftNamed s) rs
  pub waits : WaitsNamed s ws
  pub keys : KeysNamed s ks

-- So it is in this state.
abbrev pub StateNamed : Script → State → Type 0
StateNamed s st = NamesIn s st.remainders st.conds.waits st.onces.keys

-- The state after a call, and what it gives.
pub record AnswerNamed (s : Script) (o : Answered) : Type 0 where
  pub state : StateNamed s o.state
  pub gifts : GiftsNamed s o.gifts

module _ (s : Script) where
  cancelled_named : (st : State) (target : Tid) (o : ThreadsReply) (y : Reply) → StateNamed s st → AnswerNamed s (cancelled st target o y)
  cancelled_named st target o (reply.Effect effect.Wakes) h =
      let gets : Bool = (resume (rank_of st) st.locks (take_out st.rows target).rows target (mutex_with st.conds target)).gets in record {
        state = record { left = h.left; waits = waits_left s st.conds.waits _ h.waits; keys = h.keys };
        gifts = as_gifts s (gift_of target (mutex_with st.conds target) gets) (gift_named s target (mutex_with st.conds target) gets (with_named s st.conds target h.waits));
      }
  cancelled_named st target o (reply.Effect _) h = record { state = h; gifts = tt }
  cancelled_named st target o _ h = record { state = h; gifts = tt }

  given_holds : (st : State) (rs : Rows) (o : Option Tid) → StateNamed s st → StateNamed s (given_state st rs o)
  given_holds st rs None h = h
  given_holds st rs (Some t) h = h

  woken_holds : (st : State) (rs : Rows) (y : Reply) (o : Option Tid) → StateNamed s st → StateNamed s (woken_state st rs y o)
  woken_holds st rs y None h = h
  woken_holds st rs y (Some t) h = h

  regain_gift : (b : Bool) (t : Tid) (m : NameId) → is_name_of s object.Mutex m ≡ true → (let gs : Gifts = if b then (t, Some m) ∷ [] else [] in GiftsNamed s gs)
  regain_gift true t m h = (h, tt)
  regain_gift false t m h = tt

  signals_named : (st : State) (o : Signalled) (w : Option (Tid × NameId)) → WaitsNamed s o.conds.waits → WaiterNamed s w → StateNamed s st → AnswerNamed s (signals_one st o w)
  signals_named st o None f k h = record { state = record { left = h.left; waits = f; keys = h.keys }; gifts = tt }
  signals_named st o (Some w) f k h = record { state = record { left = h.left; waits = f; keys = h.keys }; gifts = regain_gift _ w.0 w.1 k }

  module _ (st : State) (t : Tid) (h : StateNamed s st) (ns : List ℤ) where
    pub answered_named : (call : DceCall) → AreOfKinds s (named_in_call call) → AnswerNamed s (answered s st t call ns)
    unfolding answered
    answered_named (dce.Create v a routine e) k = record {
      state = record {
        left = each_put_if (LeftNamed s) st.remainders st.threads.next _
            (keep_there (LeftNamed s) (is_value (threads.create st.threads t a).reply) (Some (fresh s routine (first ns))) (fresh_named s s routine (first ns))) h.left;
        waits = h.waits;
        keys = h.keys;
      };
      gifts = tt;
    }
    answered_named (dce.Cancel e) k =
        let who : Tid = thread (natural (first ns)) in
        let o : ThreadsReply = cancels.cancel st.threads (first ns) (waits_at_point st.rows who) in cancelled_named st who o o.reply h
    answered_named (dce.DelayNp e) k = record {
      state = record {
        left = h.left;
        waits = each_put_if (WaitNamed s) st.conds.waits t.0 _ (begun_named s (is_blocks (delay_reply (first ns) st.clock)) (Delay _) tt) h.waits;
        keys = h.keys;
      };
      gifts = tt;
    }
    answered_named (dce.MutexUnlock m) k =
        let o = unlock st.locks st.rows (Some m) t in record { state = given_holds (record st { locks = o.locks }) o.rows o.given h; gifts = given_named s o.given (Some m) k.0 }
    answered_named dce.UnlockGlobalNp k =
        let o = unlock st.locks st.rows None t in record { state = given_holds (record st { locks = o.locks }) o.rows o.given h; gifts = given_named s o.given None tt }
    answered_named (dce.CondWait c m) k =
        let o = wait st.conds st.locks st.rows c m t (rank_of st t) in record {
          state = given_holds (record st { conds = o.conds; locks = o.locks }) o.rows o.given (record {
            left = h.left;
            waits = each_put_if (WaitNamed s) st.conds.waits t.0 _ (begun_named s (is_blocks (wait_reply st.conds st.locks c m t)) (Cond c m None) k.1.0) h.waits;
            keys = h.keys;
          });
          gifts = given_named s o.given (Some m) k.1.0;
        }
    answered_named (dce.CondTimedwait c m e) k =
        let o = timedwait st.conds st.locks st.rows c m (first ns) st.clock t (rank_of st t) in record {
          state = given_holds (record st { conds = o.conds; locks = o.locks }) o.rows o.given (record {
            left = h.left;
            waits = each_put_if (WaitNamed s) st.conds.waits t.0 _
                (begun_named s (is_blocks (timedwait_reply (wait_reply st.conds st.locks c m t) (int_le (first ns) st.clock))) (Cond c m (Some (first ns))) k.1.0) h.waits;
            keys = h.keys;
          });
          gifts = given_named s o.given (Some m) k.1.0;
        }
    answered_named (dce.CondSignal c) k =
        let o : Signalled = signal st.conds st.rows c in
        signals_named st o o.waiter (waits_left s st.conds.waits (thread_in o.waiter) h.waits) (signalled_named s (has st.conds.made c.0) st.conds (best st.rows (row.Cond c)) h.waits) h
    answered_named (dce.CondBroadcast c) k =
        let ts : List Tid = if has st.conds.made c.0 then best_first st.rows (row.Cond c) else [] in record {
          state = record { left = h.left; waits = woken_waits s (rank_of st) st.conds st.locks st.rows ts h.waits; keys = h.keys };
          gifts = as_gifts s (wake_all (rank_of st) st.conds st.locks st.rows ts).gifts (woken_gifts s (rank_of st) st.conds st.locks st.rows ts h.waits);
        }
    answered_named (dce.Keycreate n d) k = record { state = record { left = h.left; waits = h.waits; keys = key_put_if s st.onces.keys n _ k.0 h.keys }; gifts = tt }
    answered_named (dce.Setspecific n e) k = record { state = record { left = h.left; waits = h.waits; keys = key_put_if s st.onces.keys n _ k.0 h.keys }; gifts = tt }
    answered_named (dce.Read p v w) k =
        let o = read st.pipes st.rows p t (rank_of st t) in record { state = woken_holds (record st { pipes = o.pipes }) o.rows reply.Done o.relieved h; gifts = tt }
    answered_named (dce.Write p e) k =
        let o = write st.pipes st.rows p (first ns) t (rank_of st t) in record { state = woken_holds (record st { pipes = o.pipes }) o.rows (reply.Value (first ns)) o.reader h; gifts = tt }
    answered_named _ k = record { state = h; gifts = tt }
