-- What the rows keep in every history: a fact about the seats and the next arrival that stays whatever becomes of a thread
-- stays at each event.
use Rattle.std.proofs.Common.{◌≡◌, ℕ, ℤ, Bool, true, false, List, Option, Some, None, Ok, Err, refl, ap, subst}
use Rattle.std.specs.Prelude.{if◌then◌else◌, nat_lt}
use Rattle.std.specs.Option.{option_map, unwrap_or}
use Rattle.thr_values.specs.declared.number.NameId.{NameId}
use Rattle.thr_values.specs.declared.number.Tid.{Tid}
use Rattle.thr_values.specs.declared.event.Event.{Event}
use Rattle.thr_values.specs.declared.event.Event.TheVariants as event
use Rattle.thr_values.specs.declared.reply.Effect.TheVariants as effect
use Rattle.thr_values.specs.declared.reply.Reply.{Reply}
use Rattle.thr_values.specs.declared.reply.Reply.TheVariants as reply
use Rattle.thr_syntax.specs.declared.dce.DceCall.{DceCall}
use Rattle.thr_syntax.specs.declared.dce.DceCall.TheVariants as dce
use Rattle.thr_syntax.specs.declared.tree.Script.{Script}
use Rattle.thr_remainder.specs.Acts.{Act, Asks}
use Rattle.thr_remainder.specs.Remainders.{Setting, Remainder, act_at}
use Rattle.thr_remainder.specs.Steps.{written}
use Rattle.thr_remainder.specs.Replies.{Values, asked}
use Rattle.thr_remainder.specs.Runs.{Halt, Delivers, Shares, Undoes, Completes, Ends, Pauses, run_of, most_steps}
use Rattle.thr_parts.specs.declared.row.RowId.TheVariants as row
use Rattle.thr_parts.specs.declared.row.Seat.{Seat}
use Rattle.thr_parts.specs.Tables.{Table, none, IsCanonical}
use Rattle.thr_parts.specs.Replies.{is_value, is_blocks}
use Rattle.thr_parts.specs.Rows.{Rows, thread}
use Rattle.thr_parts.specs.Moves.{free_row}
use Rattle.thr_parts.specs.Dispatch.{running, some_can_run, dispatch}
use Rattle.thr_parts.specs.Threads as threads
use Rattle.thr_parts.specs.Threads.{Threads, ThreadsReply, natural, rank_at, record_at}
use Rattle.thr_parts.specs.Cancels.{waits_at_point}
use Rattle.thr_parts.specs.Cancels as cancels
use Rattle.thr_parts.specs.Scheduling.{setprio, setscheduler}
use Rattle.thr_parts.specs.Locking.{unlock}
use Rattle.thr_parts.specs.Conditions.{wait, timedwait}
use Rattle.thr_parts.specs.Waking.{signal}
use Rattle.thr_parts.specs.Expiry.{earliest, due_first}
use Rattle.thr_parts.specs.Keys.{DestructorCall, NextDestructor, next_destructor}
use Rattle.thr_parts.specs.OnceBlocks as once
use Rattle.thr_parts.specs.Pipes.{read, write}
use Rattle.thr_parts.proofs.KeptLaws.{canonical_is_kept, IsSeatBelow, AreBelow, below_is_kept}
use Rattle.thr_parts.proofs.EachLaws.{each_none, each_put}
use Rattle.thr_parts.proofs.TableLaws.{canonical_none, canonical_put}
use Rattle.thr_model.specs.States.{State, Debt, Return, Delivery, Running, rank_of, remainder_of, setting_of, debt_of, shared_values}
use Rattle.thr_model.specs.Calls.{answered, ready_if, rank_if, cancelled, given_state, signals_one, woken_state, first, second}
use Rattle.thr_model.specs.Turns.{Made, called, written_to, shared_made, handed_on, end_made, debt_made, halt_made, turn_by, kept, is_fifo_in, turn_of}
use Rattle.thr_model.specs.Events.{dispatch_made, clock_to, clock_of, made_by}
use Rattle.thr_model.specs.Histories.{Execution, History, opened, then_event}
use Rattle.thr_model.proofs.ArrivalsKept.{Holds, Takes, IsKeptWithArrivals, with_arrivals, kept_put_in_row, kept_block_in, kept_block_if, kept_leave, kept_set_rank, kept_keeps, kept_free_row, kept_lock, kept_unlock, kept_regain, kept_wait, kept_timedwait, kept_delay, kept_signal, kept_wake_all, kept_enter, kept_undone, kept_read, kept_write, kept_close_out, kept_cancel_wait, kept_dispatch}

module _ (R : ℕ → Table Seat → Type 0) (k : IsKeptWithArrivals R) where
  -- The rows of what is made have it.
  abbrev Has : State → Type 0
  Has st = Holds R st.rows

  -- ---- calls

  ready_if_has : (b : Bool) (rank : Tid → ℕ) (rs : Rows) (t : Tid) → Holds R rs → Holds R (ready_if b rank rs t)
  ready_if_has true rank rs t h = kept_put_in_row R k rs row.Ready t (rank t) h
  ready_if_has false rank rs t h = h

  rank_if_has : (b : Bool) (ths : Threads) (rs : Rows) (t : Tid) → Holds R rs → Holds R (rank_if b ths rs t)
  rank_if_has true ths rs t h = kept_set_rank R k rs t (rank_at ths t) h
  rank_if_has false ths rs t h = h

  cancelled_has : (st : State) (target : Tid) (o : ThreadsReply) (y : Reply) → Has st → Has (cancelled st target o y).state
  cancelled_has st target o (reply.Effect effect.Wakes) h = kept_cancel_wait R k (rank_of st) st.conds st.pipes st.locks st.rows target h
  cancelled_has st target o (reply.Effect _) h = h
  cancelled_has st target o _ h = h

  given_has : (st : State) (rs : Rows) (o : Option Tid) → Holds R rs → Has (given_state st rs o)
  given_has st rs None h = h
  given_has st rs (Some t) h = kept_put_in_row R k rs row.Ready t (rank_of st t) h

  signals_has : (st : State) (c : NameId) (o : Option (Tid × NameId)) → Has st → Has (signals_one st (signal st.conds st.rows c) o).state
  signals_has st c None h = kept_signal R k st.conds st.rows c h
  signals_has st c (Some w) h = kept_regain R k st.locks (signal st.conds st.rows c).rows w.1 w.0 (rank_of st w.0) (kept_signal R k st.conds st.rows c h)

  woken_has : (st : State) (rs : Rows) (y : Reply) (o : Option Tid) → Holds R rs → Has (woken_state st rs y o)
  woken_has st rs y None h = h
  woken_has st rs y (Some t) h = kept_put_in_row R k rs row.Ready t (rank_of st t) h

  answered_has : (s : Script) (st : State) (t : Tid) (call : DceCall) (ns : List ℤ) → Has st → Has (answered s st t call ns).state
  unfolding answered
  answered_has s st t (dce.AttrCreate a) ns h = h
  answered_has s st t (dce.AttrDelete a) ns h = h
  answered_has s st t (dce.AttrSetsched a policy) ns h = h
  answered_has s st t (dce.AttrSetprio a e) ns h = h
  answered_has s st t (dce.AttrSetinheritsched a inherits) ns h = h
  answered_has s st t (dce.AttrSetstacksize a e) ns h = h
  answered_has s st t (dce.Create v a routine e) ns h =
      let o : ThreadsReply = threads.create st.threads t a in ready_if_has (is_value o.reply) (rank_at o.threads) st.rows (thread st.threads.next) h
  answered_has s st t (dce.Join e v) ns h =
      kept_block_if R k (is_blocks (threads.join st.threads t (first ns))) st.rows (row.Join (thread (natural (first ns)))) t (rank_of st t) h
  answered_has s st t (dce.Detach e) ns h = h
  answered_has s st t dce.Yield ns h = kept_block_in R k st.rows row.Ready t (rank_of st t) h
  answered_has s st t (dce.Cancel e) ns h =
      let who : Tid = thread (natural (first ns)) in
      let o : ThreadsReply = cancels.cancel st.threads (first ns) (waits_at_point st.rows who) in cancelled_has st who o o.reply h
  answered_has s st t dce.Testcancel ns h = h
  answered_has s st t (dce.Setcancel on v) ns h = h
  answered_has s st t (dce.Setasynccancel on v) ns h = h
  answered_has s st t (dce.Setprio e f v) ns h =
      let o : ThreadsReply = setprio st.threads (first ns) (second ns) in rank_if_has (is_value o.reply) o.threads st.rows (thread (natural (first ns))) h
  answered_has s st t (dce.Getprio e v) ns h = h
  answered_has s st t (dce.Setscheduler e policy f v) ns h =
      let o : ThreadsReply = setscheduler st.threads (first ns) policy (second ns) in rank_if_has (is_value o.reply) o.threads st.rows (thread (natural (first ns))) h
  answered_has s st t (dce.Getscheduler e v) ns h = h
  answered_has s st t (dce.DelayNp e) ns h = kept_delay R k st.conds st.rows (first ns) st.clock t (rank_of st t) h
  answered_has s st t (dce.GetExpirationNp e v) ns h = h
  answered_has s st t (dce.MutexattrCreate a) ns h = h
  answered_has s st t (dce.MutexattrSetkindNp a kind) ns h = h
  answered_has s st t (dce.MutexattrDelete a) ns h = h
  answered_has s st t (dce.MutexInit m a) ns h = h
  answered_has s st t (dce.MutexDestroy m) ns h = h
  answered_has s st t (dce.MutexLock m) ns h = kept_lock R k st.locks st.rows (Some m) t (rank_of st t) h
  answered_has s st t (dce.MutexTrylock m v) ns h = h
  answered_has s st t (dce.MutexUnlock m) ns h =
      let o = unlock st.locks st.rows (Some m) t in given_has (record st { locks = o.locks }) o.rows o.given (kept_unlock R k st.locks st.rows (Some m) t h)
  answered_has s st t dce.LockGlobalNp ns h = kept_lock R k st.locks st.rows None t (rank_of st t) h
  answered_has s st t dce.UnlockGlobalNp ns h =
      let o = unlock st.locks st.rows None t in given_has (record st { locks = o.locks }) o.rows o.given (kept_unlock R k st.locks st.rows None t h)
  answered_has s st t (dce.CondInit c) ns h = h
  answered_has s st t (dce.CondDestroy c) ns h = h
  answered_has s st t (dce.CondWait c m) ns h =
      let o = wait st.conds st.locks st.rows c m t (rank_of st t) in
      given_has (record st { conds = o.conds; locks = o.locks }) o.rows o.given (kept_wait R k st.conds st.locks st.rows c m t (rank_of st t) h)
  answered_has s st t (dce.CondTimedwait c m e) ns h =
      let o = timedwait st.conds st.locks st.rows c m (first ns) st.clock t (rank_of st t) in
      given_has (record st { conds = o.conds; locks = o.locks }) o.rows o.given (kept_timedwait R k st.conds st.locks st.rows c m (first ns) st.clock t (rank_of st t) h)
  answered_has s st t (dce.CondSignal c) ns h = signals_has st c (signal st.conds st.rows c).waiter h
  answered_has s st t (dce.CondBroadcast c) ns h = kept_wake_all R k (rank_of st) st.conds st.locks st.rows _ h
  answered_has s st t (dce.Once o routine) ns h = kept_enter R k st.onces st.rows o t (rank_of st t) h
  answered_has s st t (dce.Keycreate key destructor) ns h = h
  answered_has s st t (dce.Setspecific key e) ns h = h
  answered_has s st t (dce.Getspecific key v) ns h = h
  answered_has s st t (dce.Read p v w) ns h =
      let o = read st.pipes st.rows p t (rank_of st t) in woken_has (record st { pipes = o.pipes }) o.rows reply.Done o.relieved (kept_read R k st.pipes st.rows p t (rank_of st t) h)
  answered_has s st t (dce.Write p e) ns h =
      let o = write st.pipes st.rows p (first ns) t (rank_of st t) in
      woken_has (record st { pipes = o.pipes }) o.rows (reply.Value (first ns)) o.reader (kept_write R k st.pipes st.rows p (first ns) t (rank_of st t) h)
  answered_has s st t (dce.Close p) ns h = kept_close_out R k (rank_of st) st.pipes st.rows p h

  -- ---- turns

  called_has : (s : Script) (st : State) (t : Tid) (g : Setting) (call : DceCall) (r : Remainder) (values : Values) → Has st → Has (called s st t g call r values).state
  called_has s st t g call r (Ok ns) h = answered_has s st t call ns h
  called_has s st t g call r (Err x) h = h

  written_has : (st : State) (o : Option (NameId × ℤ)) → Has st → Has (written_to st o)
  written_has st None h = h
  written_has st (Some w) h = h

  shared_has : (s : Script) (st : State) (t : Tid) (g : Setting) (r : Remainder) (act : Act) → Has st → Has (shared_made s st t g r act).state
  shared_has s st t g r (Asks call) h = called_has s st t g call r (asked g (shared_values st) call r) h
  shared_has s st t g r _ h = written_has st (written g (shared_values st) r) h

  handed_has : (st : State) (o : once.Undone) (who : Option Tid) → Holds R o.rows → Has (handed_on st o who)
  handed_has st o None h = h
  handed_has st o (Some t) h = kept_put_in_row R k o.rows row.Ready t (rank_of st t) h

  end_has : (st : State) (t : Tid) (g : Setting) (r : Remainder) (o : NextDestructor) (c : Option DestructorCall) → Has st → Has (end_made st t g r o c).state
  end_has st t g r o (Some c) h = h
  end_has st t g r o None h = kept_leave R k (free_row (rank_of st) st.rows (row.Join t)).rows t (kept_free_row R k (rank_of st) st.rows (row.Join t) h)

  debt_has : (st : State) (t : Tid) (g : Setting) (r : Remainder) (d : Debt) → Has st → Has (debt_made st t g r d).state
  debt_has st t g r (Return y) h = h
  debt_has st t g r Delivery h = h
  debt_has st t g r Running h = h

  halt_has : (s : Script) (st : State) (t : Tid) (g : Setting) (r : Remainder) (halt : Halt) → Has st → Has (halt_made s st t g r halt).state
  halt_has s st t g r Delivers h = h
  halt_has s st t g r (Shares spot) h = shared_has s st t g r (act_at spot) h
  halt_has s st t g r (Undoes block m) h =
      let o : once.Undone = once.undone st.onces st.rows block in handed_has st o o.runner (kept_undone R k st.onces st.rows block h)
  halt_has s st t g r (Completes block m) h = kept_free_row R k (rank_of st) st.rows (row.Once block) h
  halt_has s st t g r Ends h = let o : NextDestructor = next_destructor st.onces t in end_has st t g r o o.call h
  halt_has s st t g r Pauses h = h

  turn_by_has : (s : Script) (st : State) (t : Tid) (d : Option Debt) → Has st → Has (turn_by s st t d).state
  turn_by_has s st t (Some d) h = debt_has _ t (setting_of s st t) (remainder_of st t) d h
  turn_by_has s st t None h =
      let run = run_of most_steps (setting_of s st t) (cancels.mode_at st.threads t) (remainder_of st t) in halt_has s st t (setting_of s st t) run.to run.halt h

  kept_has : (t : Tid) (made : Made) → Has made.state → Has (kept t made).state
  kept_has t made h = kept_keeps R k made.state.rows t (is_fifo_in (record_at made.state.threads t)) h

  turn_has : (s : Script) (st : State) (t : Tid) → Has st → Has (turn_of s st t).state
  unfolding turn_of
  turn_has s st t h = kept_has t (turn_by s st t (debt_of st t)) (turn_by_has s st t (debt_of st t) h)

  -- ---- events

  -- It stays where a thread takes a processor that is there.
  abbrev pub TakesBelow : ℕ → Type 0
  TakesBelow n = (p : ℕ) → nat_lt p n ≡ true → Takes R p

  dispatch_has : (st : State) (p : ℕ) (o : Option Tid) (made : Made) → Holds R (dispatch st.rows p).rows → dispatch_made st p (dispatch st.rows p) o ≡ Some made → Has made.state
  dispatch_has st p None made h e = absurd (cc)
  dispatch_has st p (Some t) made h e = subst (λ (m : Made). Has m.state) (ap (λ o. unwrap_or o made) e) h

  dispatch_if_has : (n : ℕ) → TakesBelow n → (st : State) (p : ℕ) (b : Bool) (made : Made) → nat_lt p n ≡ b → Has st
      → (if b then dispatch_made st p (dispatch st.rows p) (dispatch st.rows p).taken else None) ≡ Some made → Has made.state
  dispatch_if_has n runs st p true made is h e = dispatch_has st p (dispatch st.rows p).taken made (kept_dispatch R k p (runs p is) st.rows h) e
  dispatch_if_has n runs st p false made is h e = absurd (cc)

  turn_if_has : (s : Script) (st : State) (o : Option Tid) (made : Made) → Has st → option_map (turn_of s st) o ≡ Some made → Has made.state
  turn_if_has s st None made h e = absurd (cc)
  turn_if_has s st (Some t) made h e = subst (λ (m : Made). Has m.state) (ap (λ o. unwrap_or o made) e) (turn_has s st t h)

  clock_to_has : (st : State) (now : ℤ) → Has st → Has (clock_to st now).state
  clock_to_has st now h = kept_wake_all R k (rank_of st) st.conds st.locks st.rows (due_first st.conds st.rows now) h

  clock_at_has : (st : State) (o : Option ℤ) (made : Made) → Has st → option_map (clock_to st) o ≡ Some made → Has made.state
  clock_at_has st None made h e = absurd (cc)
  clock_at_has st (Some now) made h e = subst (λ (m : Made). Has m.state) (ap (λ o. unwrap_or o made) e) (clock_to_has st now h)

  clock_has : (st : State) (b : Bool) (made : Made) → Has st → clock_of b st ≡ Some made → Has made.state
  clock_has st true made h e = absurd (cc)
  clock_has st false made h e = clock_at_has st (earliest st.conds) made h e

  -- Each event keeps it.
  pub made_keeps : (s : Script) (n : ℕ) → TakesBelow n → (st : State) (e : Event) (made : Made) → Holds R st.rows → made_by s n st e ≡ Some made → Holds R made.state.rows
  unfolding made_by
  made_keeps s n runs st (event.Dispatch p) made h e = dispatch_if_has n runs st p (nat_lt p n) made refl h e
  made_keeps s n runs st (event.Turn p) made h e = turn_if_has s st (running st.rows p) made h e
  made_keeps s n runs st event.Clock made h e = clock_has st (some_can_run st.rows) made h e

  -- So it is there in every history.
  pub history_keeps : R 0 none → {s : Script} {n : ℕ} {x : Execution} → TakesBelow n → History s n x → Holds R x.state.rows
  history_keeps start runs opened = k.stands 0 none 1 _ row.Ready start
  history_keeps start {s} {n} runs (then_event {x} h open_ e made m) = made_keeps s n runs x.state e made (history_keeps start runs h) m

-- ---- the numbers of seats rise

-- They do, whatever the next arrival is.
abbrev SeatsRise : ℕ → Table Seat → Type 0
SeatsRise n m = IsCanonical m

rise_is_kept : IsKeptWithArrivals SeatsRise
rise_is_kept = with_arrivals (IsCanonical {A = Seat}) canonical_is_kept

canonical_takes : (n : ℕ) → TakesBelow SeatsRise rise_is_kept n
canonical_takes n p is next m t rank h = canonical_put m t _ h

pub made_canonical : (s : Script) (n : ℕ) (st : State) (e : Event) (made : Made) → IsCanonical st.rows.seats → made_by s n st e ≡ Some made → IsCanonical made.state.rows.seats
made_canonical s n st e made h m = made_keeps SeatsRise rise_is_kept s n (canonical_takes n) st e made h m

pub history_canonical : {s : Script} {n : ℕ} {x : Execution} → History s n x → IsCanonical x.state.rows.seats
history_canonical {s} {n} h = history_keeps SeatsRise rise_is_kept (canonical_none Seat) (canonical_takes n) h

-- ---- only processors that are there have threads

-- They alone do, whatever the next arrival is.
abbrev SeatsBelow : ℕ → ℕ → Table Seat → Type 0
SeatsBelow n next m = AreBelow n m

seats_below_is_kept : (n : ℕ) → IsKeptWithArrivals (SeatsBelow n)
seats_below_is_kept n = with_arrivals (AreBelow n) (below_is_kept n)

below_takes : (n : ℕ) → TakesBelow (SeatsBelow n) (seats_below_is_kept n) n
below_takes n p is next m t rank h = each_put (IsSeatBelow n) m t _ is h

pub history_below : {s : Script} {n : ℕ} {x : Execution} → History s n x → AreBelow n x.state.rows.seats
history_below {s} {n} h = history_keeps (SeatsBelow n) (seats_below_is_kept n) (each_none (IsSeatBelow n)) (below_takes n) h
