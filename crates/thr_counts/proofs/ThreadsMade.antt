-- What becomes of thread records and attribute cells in an event: one call on them at most, a delivery, or a thread's end. A
-- fact about them and about what is left in threads that holds after each of these holds after the event.
use Rattle.std.proofs.Common.{◌≡◌, ℕ, ◌≤◌, ℤ, pos, negsuc, Bool, true, false, List, Option, Some, None, Ok, Err, refl, ap, subst, arith}
use Rattle.std.proofs.lemmas.Bool.{false≢true}
use Rattle.std.proofs.lemmas.Bool.Decides.{nat_tests}
use Rattle.std.specs.Prelude.{if◌then◌else◌, not, nat_lt, nat_le, ◌&&◌}
use Rattle.std.specs.Option.{option_map, unwrap_or}
use Rattle.thr_values.specs.declared.number.NameId.{NameId}
use Rattle.thr_values.specs.declared.number.Tid.{Tid}
use Rattle.thr_values.specs.declared.event.Event.{Event}
use Rattle.thr_values.specs.declared.event.Event.TheVariants as event
use Rattle.thr_values.specs.declared.reply.Effect.TheVariants as effect
use Rattle.thr_values.specs.declared.reply.Reply.{Reply}
use Rattle.thr_values.specs.declared.reply.Reply.TheVariants as reply
use Rattle.thr_syntax.specs.declared.dce.DceCall.{DceCall}
use Rattle.thr_syntax.specs.declared.dce.DceCall.TheVariants as dce
use Rattle.thr_syntax.specs.declared.tree.Script.{Script}
use Rattle.thr_remainder.specs.Acts.{Act, Asks}
use Rattle.thr_remainder.specs.Remainders.{Setting, Remainder, act_at}
use Rattle.thr_remainder.specs.Steps.{written}
use Rattle.thr_remainder.specs.Replies.{Values, asked}
use Rattle.thr_remainder.specs.Runs.{Halt, Delivers, Shares, Undoes, Completes, Ends, Pauses, Run, run_of, most_steps}
use Rattle.thr_parts.specs.declared.thread.Attr.{Attr}
use Rattle.thr_parts.specs.declared.thread.Thread.{Thread}
use Rattle.thr_parts.specs.Tables.{Table, get, has, put_if, cut, keep_if}
use Rattle.thr_parts.specs.Rows.{Rows, thread}
use Rattle.thr_parts.specs.Dispatch.{Dispatched, running, some_can_run, dispatch}
use Rattle.thr_parts.specs.Threads.{Threads, ThreadsReply, new_attr, natural, record_of, with_records, with_attrs, create, detach, set_ended}
use Rattle.thr_parts.specs.Scheduling.{is_stack_size, is_prio, with_prio, with_policy, attr_create, attr_delete, attr_setsched, attr_setprio, attr_setinherit, attr_setstack}
use Rattle.thr_parts.specs.Cancels.{mode_at, with_mode, is_marked, as_pending, waits_at_point}
use Rattle.thr_parts.specs.Cancels as cancels
use Rattle.thr_parts.specs.Locking.{unlock}
use Rattle.thr_parts.specs.Conditions.{wait, timedwait}
use Rattle.thr_parts.specs.Waking.{Signalled, signal}
use Rattle.thr_parts.specs.Expiry.{earliest}
use Rattle.thr_parts.specs.Keys.{DestructorCall, NextDestructor, next_destructor}
use Rattle.thr_parts.specs.OnceBlocks as once
use Rattle.thr_parts.specs.Pipes.{read, write}
use Rattle.thr_parts.proofs.EachLaws.{Each, IfThere, each_put_if, each_cut_if, if_there}
use Rattle.thr_model.specs.States.{State, Debt, Return, Delivery, Running, rank_of, remainder_of, setting_of, debt_of, shared_values}
use Rattle.thr_model.specs.Calls.{answered, cancelled, given_state, signals_one, woken_state, first, second}
use Rattle.thr_model.specs.Turns.{Made, called, written_to, shared_made, handed_on, end_made, debt_made, halt_made, turn_by, turn_of}
use Rattle.thr_model.specs.Events.{dispatch_made, clock_to, clock_of, made_by}

-- ---- attribute cells

-- The stack size of a cell is one that can be set.
abbrev pub IsRightCell : Attr → Type 0
IsRightCell a = (16 ≤ a.frames) × (a.frames ≤ 1024)

pub new_right : IsRightCell new_attr
new_right = (omega arith, omega arith)

new_if : (b : Bool) → IfThere IsRightCell (keep_if b (Some new_attr))
new_if true = new_right
new_if false = tt

created_right : (ths : Threads) (a : NameId) → Each IsRightCell ths.attrs → Each IsRightCell (attr_create ths a).threads.attrs
created_right ths a h = each_put_if IsRightCell ths.attrs a.0 _ (new_if (not (has ths.attrs a.0))) h

deleted_right : (ths : Threads) (a : NameId) → Each IsRightCell ths.attrs → Each IsRightCell (attr_delete ths a).threads.attrs
deleted_right ths a h = each_cut_if IsRightCell (has ths.attrs a.0) ths.attrs a.0 h

changed_if : (b : Bool) (change : Attr → Attr) (o : Option Attr) → (b ≡ true → (c : Attr) → IsRightCell c → IsRightCell (change c)) → IfThere IsRightCell o → IfThere IsRightCell (keep_if b (option_map change o))
changed_if true change None keeps h = tt
changed_if true change (Some c) keeps h = keeps refl c h
changed_if false change o keeps h = tt

changed_right : (attrs : Table Attr) (a : ℕ) (b : Bool) (change : Attr → Attr) → (b ≡ true → (c : Attr) → IsRightCell c → IsRightCell (change c)) → Each IsRightCell attrs
    → Each IsRightCell (put_if attrs a (keep_if b (option_map change (get attrs a))))
changed_right attrs a b change keeps h = each_put_if IsRightCell attrs a _ (changed_if b change (get attrs a) keeps (if_there IsRightCell attrs a (get attrs a) refl h)) h

low_size : (n : ℕ) → (nat_le 16 n && nat_le n 1024) ≡ true → 16 ≤ n
low_size n e = grind (arith, nat_tests)

high_size : (n : ℕ) → (nat_le 16 n && nat_le n 1024) ≡ true → n ≤ 1024
high_size n e = grind (arith, nat_tests)

size_right : (n : ℤ) → is_stack_size n ≡ true → (16 ≤ natural n) × (natural n ≤ 1024)
size_right (pos n) e = (low_size n e, high_size n e)
size_right (negsuc n) e = absurd (false≢true e)

-- ---- what becomes of them

-- What may become of records and cells where this thread has its turn: nothing; the cells change; a thread's record changes
-- but for its frames; a thread is created; one is marked detached; or the thread ends, and nothing is left to do in it.
pub record AfterCalls (base : Threads) (me : Tid) (R : Threads → Table Remainder → Type 0) : Type 0 where
  pub same : (left : Table Remainder) → R base left
  pub cells : (attrs : Table Attr) → (Each IsRightCell base.attrs → Each IsRightCell attrs) → (left : Table Remainder) → R (with_attrs base attrs) left
  pub changes : (target : ℤ) (b : Bool) (change : Thread → Thread) → ((th : Thread) → (change th).frames ≡ th.frames) → ((th : Thread) → (change th).ended ≡ th.ended) → (left : Table Remainder)
      → R (with_records base (put_if base.records (natural target) (keep_if b (option_map change (record_of base target))))) left
  pub creates : (a : Option NameId) (left : Table Remainder) → R (create base me a).threads left
  pub detaches : (target : ℤ) (left : Table Remainder) → R (detach base target).threads left
  pub ends : (value : ℤ) (left : Table Remainder) → R (set_ended base me value) (cut left me.0)

module _ (R : Threads → Table Remainder → Type 0) where
  -- The fact holds, whatever is left in threads.
  abbrev All : Threads → Type 0
  All ths = (left : Table Remainder) → R ths left

  -- The fact holds of a state.
  abbrev Has : State → Type 0
  Has st = R st.threads st.remainders

  -- ---- calls

  cancelled_all : (st : State) (target : Tid) (o : ThreadsReply) (y : Reply) → All o.threads → All (cancelled st target o y).state.threads
  cancelled_all st target o (reply.Effect effect.Wakes) h = h
  cancelled_all st target o (reply.Effect _) h = h
  cancelled_all st target o _ h = h

  given_all : (st : State) (rs : Rows) (o : Option Tid) → All st.threads → All (given_state st rs o).threads
  given_all st rs None h = h
  given_all st rs (Some t) h = h

  signals_all : (st : State) (o : Signalled) (w : Option (Tid × NameId)) → All st.threads → All (signals_one st o w).state.threads
  signals_all st o None h = h
  signals_all st o (Some w) h = h

  woken_all : (st : State) (rs : Rows) (y : Reply) (o : Option Tid) → All st.threads → All (woken_state st rs y o).threads
  woken_all st rs y None h = h
  woken_all st rs y (Some t) h = h

  answered_all : (s : Script) (st : State) (t : Tid) (call : DceCall) (ns : List ℤ) → AfterCalls st.threads t R → All (answered s st t call ns).state.threads
  unfolding answered
  answered_all s st t (dce.AttrCreate a) ns k = k.cells (attr_create st.threads a).threads.attrs (created_right st.threads a)
  answered_all s st t (dce.AttrDelete a) ns k = k.cells (attr_delete st.threads a).threads.attrs (deleted_right st.threads a)
  answered_all s st t (dce.AttrSetsched a policy) ns k = k.cells (attr_setsched st.threads a policy).threads.attrs (changed_right st.threads.attrs a.0 true _ (λ b c right. right))
  answered_all s st t (dce.AttrSetprio a e) ns k = k.cells (attr_setprio st.threads a (first ns)).threads.attrs (changed_right st.threads.attrs a.0 (is_prio (first ns)) _ (λ b c right. right))
  answered_all s st t (dce.AttrSetinheritsched a inherits) ns k = k.cells (attr_setinherit st.threads a inherits).threads.attrs (changed_right st.threads.attrs a.0 true _ (λ b c right. right))
  answered_all s st t (dce.AttrSetstacksize a e) ns k =
      k.cells (attr_setstack st.threads a (first ns)).threads.attrs (changed_right st.threads.attrs a.0 (is_stack_size (first ns)) _ (λ b c right. size_right (first ns) b))
  answered_all s st t (dce.Create v a routine e) ns k = k.creates a
  answered_all s st t (dce.Detach e) ns k = k.detaches (first ns)
  answered_all s st t (dce.Cancel e) ns k =
      let who : Tid = thread (natural (first ns)) in
      let o : ThreadsReply = cancels.cancel st.threads (first ns) (waits_at_point st.rows who) in
      cancelled_all st who o o.reply (k.changes (first ns) (is_marked (record_of st.threads (first ns)) (waits_at_point st.rows who)) as_pending (λ th. refl) (λ th. refl))
  answered_all s st t (dce.Setcancel on v) ns k = k.changes (pos t.0) true (with_mode (record (mode_at st.threads t) { general = on })) (λ th. refl) (λ th. refl)
  answered_all s st t (dce.Setasynccancel on v) ns k = k.changes (pos t.0) true (with_mode (record (mode_at st.threads t) { asynchronous = on })) (λ th. refl) (λ th. refl)
  answered_all s st t (dce.Setprio e f v) ns k = k.changes (first ns) (is_prio (second ns)) (with_prio (second ns)) (λ th. refl) (λ th. refl)
  answered_all s st t (dce.Setscheduler e policy f v) ns k = k.changes (first ns) (is_prio (second ns)) (with_policy policy (second ns)) (λ th. refl) (λ th. refl)
  answered_all s st t (dce.MutexUnlock m) ns k = let o = unlock st.locks st.rows (Some m) t in given_all (record st { locks = o.locks }) o.rows o.given k.same
  answered_all s st t dce.UnlockGlobalNp ns k = let o = unlock st.locks st.rows None t in given_all (record st { locks = o.locks }) o.rows o.given k.same
  answered_all s st t (dce.CondWait c m) ns k =
      let o = wait st.conds st.locks st.rows c m t (rank_of st t) in given_all (record st { conds = o.conds; locks = o.locks }) o.rows o.given k.same
  answered_all s st t (dce.CondTimedwait c m e) ns k =
      let o = timedwait st.conds st.locks st.rows c m (first ns) st.clock t (rank_of st t) in given_all (record st { conds = o.conds; locks = o.locks }) o.rows o.given k.same
  answered_all s st t (dce.CondSignal c) ns k = let o : Signalled = signal st.conds st.rows c in signals_all st o o.waiter k.same
  answered_all s st t (dce.Read p v w) ns k = let o = read st.pipes st.rows p t (rank_of st t) in woken_all (record st { pipes = o.pipes }) o.rows reply.Done o.relieved k.same
  answered_all s st t (dce.Write p e) ns k =
      let o = write st.pipes st.rows p (first ns) t (rank_of st t) in woken_all (record st { pipes = o.pipes }) o.rows (reply.Value (first ns)) o.reader k.same
  answered_all s st t _ ns k = k.same

  -- ---- turns

  called_all : (s : Script) (st : State) (t : Tid) (g : Setting) (call : DceCall) (r : Remainder) (values : Values) → AfterCalls st.threads t R → All (called s st t g call r values).state.threads
  called_all s st t g call r (Ok ns) k = answered_all s st t call ns k
  called_all s st t g call r (Err x) k = k.same

  written_all : (st : State) (o : Option (NameId × ℤ)) → All st.threads → All (written_to st o).threads
  written_all st None h = h
  written_all st (Some w) h = h

  shared_all : (s : Script) (st : State) (t : Tid) (g : Setting) (r : Remainder) (act : Act) → AfterCalls st.threads t R → All (shared_made s st t g r act).state.threads
  shared_all s st t g r (Asks call) k = called_all s st t g call r (asked g (shared_values st) call r) k
  shared_all s st t g r _ k = written_all st (written g (shared_values st) r) k.same

  handed_all : (st : State) (o : once.Undone) (w : Option Tid) → All st.threads → All (handed_on st o w).threads
  handed_all st o None h = h
  handed_all st o (Some t) h = h

  delivered_all : (st : State) (t : Tid) → AfterCalls st.threads t R → All (cancels.deliver st.threads t)
  delivered_all st t k = k.changes (pos t.0) true (with_mode (record (mode_at st.threads t) { pending = false })) (λ th. refl) (λ th. refl)

  end_has : (st : State) (t : Tid) (g : Setting) (r : Remainder) (o : NextDestructor) (c : Option DestructorCall) → AfterCalls st.threads t R → Has (end_made st t g r o c).state
  end_has st t g r o (Some c) k = k.same _
  end_has st t g r o None k = k.ends r.value st.remainders

  debt_has : (st : State) (t : Tid) (g : Setting) (r : Remainder) (d : Debt) → AfterCalls st.threads t R → Has (debt_made st t g r d).state
  debt_has st t g r (Return y) k = k.same _
  debt_has st t g r Delivery k = delivered_all st t k _
  debt_has st t g r Running k = k.same _

  halt_has : (s : Script) (st : State) (t : Tid) (g : Setting) (r : Remainder) (halt : Halt) → AfterCalls st.threads t R → Has (halt_made s st t g r halt).state
  halt_has s st t g r Delivers k = delivered_all st t k _
  halt_has s st t g r (Shares spot) k = shared_all s st t g r (act_at spot) k _
  halt_has s st t g r (Undoes block m) k = let o : once.Undone = once.undone st.onces st.rows block in handed_all st o o.runner k.same _
  halt_has s st t g r (Completes block m) k = k.same _
  halt_has s st t g r Ends k = let o : NextDestructor = next_destructor st.onces t in end_has st t g r o o.call k
  halt_has s st t g r Pauses k = k.same _

  turn_by_has : (s : Script) (st : State) (t : Tid) (d : Option Debt) → AfterCalls st.threads t R → Has (turn_by s st t d).state
  turn_by_has s st t (Some d) k = debt_has (record st { debts = cut st.debts t.0 }) t (setting_of s st t) (remainder_of st t) d k
  turn_by_has s st t None k =
      let run : Run = run_of most_steps (setting_of s st t) (mode_at st.threads t) (remainder_of st t) in halt_has s st t (setting_of s st t) run.to run.halt k

  turn_has : (s : Script) (st : State) (t : Tid) → AfterCalls st.threads t R → Has (turn_of s st t).state
  unfolding turn_of
  turn_has s st t k = turn_by_has s st t (debt_of st t) k

  -- ---- events

  dispatch_has : (st : State) (p : ℕ) (d : Dispatched) (o : Option Tid) (made : Made) → Has st → dispatch_made st p d o ≡ Some made → Has made.state
  dispatch_has st p d None made h e = absurd (cc)
  dispatch_has st p d (Some t) made h e = subst (λ (m : Made). Has m.state) (ap (λ o. unwrap_or o made) e) h

  dispatch_if_has : (b : Bool) (st : State) (p : ℕ) (made : Made) → Has st → (if b then dispatch_made st p (dispatch st.rows p) (dispatch st.rows p).taken else None) ≡ Some made → Has made.state
  dispatch_if_has true st p made h e = dispatch_has st p (dispatch st.rows p) (dispatch st.rows p).taken made h e
  dispatch_if_has false st p made h e = absurd (cc)

  turn_if_has : (s : Script) (st : State) (o : Option Tid) (made : Made) → ((t : Tid) → AfterCalls st.threads t R) → option_map (turn_of s st) o ≡ Some made → Has made.state
  turn_if_has s st None made k e = absurd (cc)
  turn_if_has s st (Some t) made k e = subst (λ (m : Made). Has m.state) (ap (λ o. unwrap_or o made) e) (turn_has s st t (k t))

  clock_at_has : (st : State) (o : Option ℤ) (made : Made) → Has st → option_map (clock_to st) o ≡ Some made → Has made.state
  clock_at_has st None made h e = absurd (cc)
  clock_at_has st (Some now) made h e = subst (λ (m : Made). Has m.state) (ap (λ o. unwrap_or o made) e) h

  clock_has : (st : State) (b : Bool) (made : Made) → Has st → clock_of b st ≡ Some made → Has made.state
  clock_has st true made h e = absurd (cc)
  clock_has st false made h e = clock_at_has st (earliest st.conds) made h e

  -- It holds after each event, where it holds whatever the thread does that has a turn.
  pub threads_made : (s : Script) (n : ℕ) (st : State) (e : Event) (made : Made) → ((t : Tid) → AfterCalls st.threads t R) → made_by s n st e ≡ Some made → R made.state.threads made.state.remainders
  unfolding made_by
  threads_made s n st (event.Dispatch p) made k e = dispatch_if_has (nat_lt p n) st p made ((k (thread 0)).same st.remainders) e
  threads_made s n st (event.Turn p) made k e = turn_if_has s st (running st.rows p) made k e
  threads_made s n st event.Clock made k e = clock_has st (some_can_run st.rows) made ((k (thread 0)).same st.remainders) e
