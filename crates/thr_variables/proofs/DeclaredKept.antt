-- After each event of a script that keeps the rules the shared variables that have a value are the declared ones.
use Rattle.std.proofs.Common.{◌≡◌, ℕ, ℤ, Bool, true, false, List, [], ◌∷◌, Option, Some, None, Ok, Err, refl, ap, subst}
use Rattle.std.specs.Prelude.{if◌then◌else◌, nat_lt}
use Rattle.std.specs.Option.{option_map, unwrap_or}
use Rattle.thr_values.specs.declared.number.NameId.{NameId}
use Rattle.thr_values.specs.declared.number.Tid.{Tid}
use Rattle.thr_values.specs.declared.event.Event.{Event}
use Rattle.thr_values.specs.declared.event.Event.TheVariants as event
use Rattle.thr_values.specs.declared.reply.Effect.TheVariants as effect
use Rattle.thr_values.specs.declared.reply.Reply.{Reply}
use Rattle.thr_values.specs.declared.reply.Reply.TheVariants as reply
use Rattle.thr_syntax.specs.declared.dce.DceCall.{DceCall}
use Rattle.thr_syntax.specs.declared.dce.DceCall.TheVariants as dce
use Rattle.thr_syntax.specs.declared.tree.Script.{Script}
use Rattle.thr_text.specs.Reading.{Formed}
use Rattle.thr_remainder.specs.Acts.{Act, Asks}
use Rattle.thr_remainder.specs.Remainders.{Setting, Remainder, act_at}
use Rattle.thr_remainder.specs.Steps.{written}
use Rattle.thr_remainder.specs.Replies.{Values, asked}
use Rattle.thr_remainder.specs.Runs.{Halt, Delivers, Shares, Undoes, Completes, Ends, Pauses, Run, run_of, most_steps}
use Rattle.thr_parts.specs.Tables.{Table, cut}
use Rattle.thr_parts.specs.Rows.{Rows, thread}
use Rattle.thr_parts.specs.Dispatch.{Dispatched, running, some_can_run, dispatch}
use Rattle.thr_parts.specs.Threads.{ThreadsReply, natural}
use Rattle.thr_parts.specs.Cancels.{mode_at, waits_at_point}
use Rattle.thr_parts.specs.Cancels as cancels
use Rattle.thr_parts.specs.Locking.{unlock}
use Rattle.thr_parts.specs.Conditions.{wait, timedwait}
use Rattle.thr_parts.specs.Waking.{Signalled, signal}
use Rattle.thr_parts.specs.Expiry.{earliest}
use Rattle.thr_parts.specs.Keys.{DestructorCall, NextDestructor, next_destructor}
use Rattle.thr_parts.specs.OnceBlocks as once
use Rattle.thr_parts.specs.Pipes.{read, write}
use Rattle.thr_parts.proofs.EachLaws.{Each}
use Rattle.thr_model.specs.States.{State, Debt, Return, Delivery, Running, rank_of, remainder_of, setting_of, debt_of, shared_values, with_writes}
use Rattle.thr_model.specs.Calls.{Answered, answered, cancelled, given_state, signals_one, woken_state, first}
use Rattle.thr_model.specs.Turns.{Made, stores_of, called, written_to, shared_made, handed_on, end_made, debt_made, halt_made, turn_by, turn_of}
use Rattle.thr_model.specs.Events.{dispatch_made, clock_to, clock_of, made_by}
use Rattle.thr_model.specs.Histories.{Execution, History, opened, then_event}
use Rattle.thr_answers.specs.Standing.{StandsIn}
use Rattle.thr_answers.proofs.HistoriesStand.{run_stands, remainder_stands, left-stands}
use Rattle.thr_variables.proofs.WritesNamed.{AreShared, IsSharedIf, writes_named, written_named}
use Rattle.thr_variables.proofs.DeclaredNames.{AreDeclared, writes_declared}

module _ (s : Script) (formed : Formed s) where
  -- The shared variables that have a value in this state are the declared ones.
  abbrev Declares : State → Type 0
  Declares st = AreDeclared s st.shared

  -- ---- calls

  cancelled_declares : (st : State) (target : Tid) (o : ThreadsReply) (y : Reply) → Declares st → Declares (cancelled st target o y).state
  cancelled_declares st target o (reply.Effect effect.Wakes) h = h
  cancelled_declares st target o (reply.Effect _) h = h
  cancelled_declares st target o _ h = h

  given_declares : (st : State) (rs : Rows) (o : Option Tid) → Declares st → Declares (given_state st rs o)
  given_declares st rs None h = h
  given_declares st rs (Some t) h = h

  signals_declares : (st : State) (o : Signalled) (w : Option (Tid × NameId)) → Declares st → Declares (signals_one st o w).state
  signals_declares st o None h = h
  signals_declares st o (Some w) h = h

  woken_declares : (st : State) (rs : Rows) (y : Reply) (o : Option Tid) → Declares st → Declares (woken_state st rs y o)
  woken_declares st rs y None h = h
  woken_declares st rs y (Some t) h = h

  answered_declares : (st : State) (t : Tid) (call : DceCall) (ns : List ℤ) → Declares st → Declares (answered s st t call ns).state
  unfolding answered
  answered_declares st t (dce.Cancel e) ns h =
      let who : Tid = thread (natural (first ns)) in
      let o : ThreadsReply = cancels.cancel st.threads (first ns) (waits_at_point st.rows who) in cancelled_declares st who o o.reply h
  answered_declares st t (dce.MutexUnlock m) ns h = let o = unlock st.locks st.rows (Some m) t in given_declares (record st { locks = o.locks }) o.rows o.given h
  answered_declares st t dce.UnlockGlobalNp ns h = let o = unlock st.locks st.rows None t in given_declares (record st { locks = o.locks }) o.rows o.given h
  answered_declares st t (dce.CondWait c m) ns h =
      let o = wait st.conds st.locks st.rows c m t (rank_of st t) in given_declares (record st { conds = o.conds; locks = o.locks }) o.rows o.given h
  answered_declares st t (dce.CondTimedwait c m e) ns h =
      let o = timedwait st.conds st.locks st.rows c m (first ns) st.clock t (rank_of st t) in given_declares (record st { conds = o.conds; locks = o.locks }) o.rows o.given h
  answered_declares st t (dce.CondSignal c) ns h = let o : Signalled = signal st.conds st.rows c in signals_declares st o o.waiter h
  answered_declares st t (dce.Read p v w) ns h = let o = read st.pipes st.rows p t (rank_of st t) in woken_declares (record st { pipes = o.pipes }) o.rows reply.Done o.relieved h
  answered_declares st t (dce.Write p e) ns h =
      let o = write st.pipes st.rows p (first ns) t (rank_of st t) in woken_declares (record st { pipes = o.pipes }) o.rows (reply.Value (first ns)) o.reader h
  answered_declares st t _ ns h = h

  -- ---- turns

  stored_named : (r : Remainder) (y : Reply) → StandsIn s r → AreShared s (stores_of r y)
  stored_named r reply.Blocks h = tt
  stored_named r y h = writes_named s formed r y h

  stored_declares : (shared : Table ℤ) (r : Remainder) (y : Reply) → StandsIn s r → AreDeclared s shared → AreDeclared s (with_writes shared (stores_of r y))
  stored_declares shared r y h all = writes_declared s shared (stores_of r y) (stored_named r y h) all

  called_declares : (st : State) (t : Tid) (g : Setting) (call : DceCall) (r : Remainder) (values : Values) → StandsIn s r → Declares st → Declares (called s st t g call r values).state
  called_declares st t g call r (Ok ns) h all =
      let o : Answered = answered s st t call ns in stored_declares o.state.shared r o.reply h (answered_declares st t call ns all)
  called_declares st t g call r (Err x) h all = all

  written_declares : (st : State) (o : Option (NameId × ℤ)) → IsSharedIf s o → Declares st → Declares (written_to st o)
  written_declares st None named all = all
  written_declares st (Some w) named all = writes_declared s st.shared (w ∷ []) (named, tt) all

  shared_declares : (st : State) (t : Tid) (g : Setting) (r : Remainder) (act : Act) → StandsIn s r → Declares st → Declares (shared_made s st t g r act).state
  shared_declares st t g r (Asks call) h all = called_declares st t g call r (asked g (shared_values st) call r) h all
  shared_declares st t g r _ h all = written_declares st (written g (shared_values st) r) (written_named s formed g (shared_values st) r h) all

  handed_declares : (st : State) (o : once.Undone) (w : Option Tid) → Declares st → Declares (handed_on st o w)
  handed_declares st o None h = h
  handed_declares st o (Some t) h = h

  end_declares : (st : State) (t : Tid) (g : Setting) (r : Remainder) (o : NextDestructor) (c : Option DestructorCall) → Declares st → Declares (end_made st t g r o c).state
  end_declares st t g r o (Some c) h = h
  end_declares st t g r o None h = h

  debt_declares : (st : State) (t : Tid) (g : Setting) (r : Remainder) (d : Debt) → StandsIn s r → Declares st → Declares (debt_made st t g r d).state
  debt_declares st t g r (Return y) h all = stored_declares st.shared r y h all
  debt_declares st t g r Delivery h all = all
  debt_declares st t g r Running h all = all

  halt_declares : (st : State) (t : Tid) (g : Setting) (r : Remainder) (halt : Halt) → StandsIn s r → Declares st → Declares (halt_made s st t g r halt).state
  halt_declares st t g r Delivers h all = all
  halt_declares st t g r (Shares spot) h all = shared_declares st t g r (act_at spot) h all
  halt_declares st t g r (Undoes block m) h all = let o : once.Undone = once.undone st.onces st.rows block in handed_declares st o o.runner all
  halt_declares st t g r (Completes block m) h all = all
  halt_declares st t g r Ends h all = let o : NextDestructor = next_destructor st.onces t in end_declares st t g r o o.call all
  halt_declares st t g r Pauses h all = all

  turn_by_declares : (st : State) (t : Tid) (d : Option Debt) → StandsIn s (remainder_of st t) → Declares st → Declares (turn_by s st t d).state
  turn_by_declares st t (Some d) h all = debt_declares (record st { debts = cut st.debts t.0 }) t (setting_of s st t) (remainder_of st t) d h all
  turn_by_declares st t None h all =
      let g : Setting = setting_of s st t in
      let run : Run = run_of most_steps g (mode_at st.threads t) (remainder_of st t) in
      halt_declares st t g run.to run.halt (run_stands g most_steps (mode_at st.threads t) (remainder_of st t) h) all

  turn_declares : (st : State) (t : Tid) → StandsIn s (remainder_of st t) → Declares st → Declares (turn_of s st t).state
  unfolding turn_of
  turn_declares st t h all = turn_by_declares st t (debt_of st t) h all

  -- ---- events

  dispatch_declares : (st : State) (p : ℕ) (d : Dispatched) (o : Option Tid) (made : Made) → Declares st → dispatch_made st p d o ≡ Some made → Declares made.state
  dispatch_declares st p d None made h e = absurd (cc)
  dispatch_declares st p d (Some t) made h e = subst (λ (m : Made). Declares m.state) (ap (λ o. unwrap_or o made) e) h

  dispatch_if_declares : (b : Bool) (st : State) (p : ℕ) (made : Made) → Declares st → (if b then dispatch_made st p (dispatch st.rows p) (dispatch st.rows p).taken else None) ≡ Some made → Declares made.state
  dispatch_if_declares true st p made h e = dispatch_declares st p (dispatch st.rows p) (dispatch st.rows p).taken made h e
  dispatch_if_declares false st p made h e = absurd (cc)

  turn_if_declares : (st : State) (o : Option Tid) (made : Made) → Each (StandsIn s) st.remainders → Declares st → option_map (turn_of s st) o ≡ Some made → Declares made.state
  turn_if_declares st None made h all e = absurd (cc)
  turn_if_declares st (Some t) made h all e = subst (λ (m : Made). Declares m.state) (ap (λ o. unwrap_or o made) e) (turn_declares st t (remainder_stands s st t h) all)

  clock_at_declares : (st : State) (o : Option ℤ) (made : Made) → Declares st → option_map (clock_to st) o ≡ Some made → Declares made.state
  clock_at_declares st None made h e = absurd (cc)
  clock_at_declares st (Some now) made h e = subst (λ (m : Made). Declares m.state) (ap (λ o. unwrap_or o made) e) h

  clock_declares : (st : State) (b : Bool) (made : Made) → Declares st → clock_of b st ≡ Some made → Declares made.state
  clock_declares st true made h e = absurd (cc)
  clock_declares st false made h e = clock_at_declares st (earliest st.conds) made h e

  made_declares : (n : ℕ) (st : State) (e : Event) (made : Made) → Each (StandsIn s) st.remainders → Declares st → made_by s n st e ≡ Some made → Declares made.state
  unfolding made_by
  made_declares n st (event.Dispatch p) made h all e = dispatch_if_declares (nat_lt p n) st p made all e
  made_declares n st (event.Turn p) made h all e = turn_if_declares st (running st.rows p) made h all e
  made_declares n st event.Clock made h all e = clock_declares st (some_can_run st.rows) made all e

  -- So it is in every history.
  pub always_declared : {n : ℕ} {x : Execution} → History s n x → AreDeclared s x.state.shared
  always_declared opened = λ name. refl
  always_declared {n} (then_event {x} h open_ e made m) = made_declares n x.state e made (left-stands h) (always_declared h) m
