-- A fact about what is left in a thread that each step keeps is there in every history.
use Rattle.std.proofs.Common.{◌≡◌, ℕ, ℤ, Bool, true, false, List, Option, Some, None, Ok, Err, refl, sym, ap, subst}
use Rattle.std.specs.Prelude.{if◌then◌else◌, nat_lt}
use Rattle.std.specs.Option.{option_map, unwrap_or}
use Rattle.thr_values.specs.declared.number.NameId.{NameId}
use Rattle.thr_values.specs.declared.number.Tid.{Tid}
use Rattle.thr_values.specs.declared.event.Event.{Event}
use Rattle.thr_values.specs.declared.event.Event.TheVariants as event
use Rattle.thr_values.specs.declared.reply.Effect.TheVariants as effect
use Rattle.thr_values.specs.declared.reply.Reply.{Reply}
use Rattle.thr_values.specs.declared.reply.Reply.TheVariants as reply
use Rattle.thr_syntax.specs.declared.dce.DceCall.{DceCall}
use Rattle.thr_syntax.specs.declared.dce.DceCall.TheVariants as dce
use Rattle.thr_syntax.specs.declared.tree.Script.{Script}
use Rattle.thr_remainder.specs.Acts.{Act, Asks}
use Rattle.thr_remainder.specs.Remainders.{Setting, Remainder, Move, Spot, Place, At, place_in, act_at}
use Rattle.thr_remainder.specs.Starts.{fresh}
use Rattle.thr_remainder.specs.Steps.{shared_step, written}
use Rattle.thr_remainder.specs.Replies.{Values, asked, replied}
use Rattle.thr_remainder.specs.Runs.{Halt, Delivers, Shares, Undoes, Completes, Ends, Pauses, Run, run_of, most_steps}
use Rattle.thr_remainder.proofs.StepsKept.{IsNextCall, IsKeptBySteps, HaltKeeps, RunKeeps, run_keeps}
use Rattle.thr_parts.specs.Tables.{none, get, keep_if}
use Rattle.thr_parts.specs.Replies.{is_value}
use Rattle.thr_parts.specs.Rows.{Rows, thread}
use Rattle.thr_parts.specs.Dispatch.{Dispatched, running, some_can_run, dispatch}
use Rattle.thr_parts.specs.Threads as threads
use Rattle.thr_parts.specs.Threads.{ThreadsReply, natural}
use Rattle.thr_parts.specs.Cancels.{mode_at, waits_at_point}
use Rattle.thr_parts.specs.Cancels as cancels
use Rattle.thr_parts.specs.Locking.{unlock}
use Rattle.thr_parts.specs.Conditions.{wait, timedwait}
use Rattle.thr_parts.specs.Waking.{Signalled, signal}
use Rattle.thr_parts.specs.Expiry.{earliest}
use Rattle.thr_parts.specs.Keys.{DestructorCall, NextDestructor, next_destructor}
use Rattle.thr_parts.specs.OnceBlocks as once
use Rattle.thr_parts.specs.Pipes.{read, write}
use Rattle.thr_parts.proofs.TableLaws.{at_get}
use Rattle.thr_parts.proofs.EachLaws.{Each, IfThere, each_none, each_put, each_put_if, each_cut, if_there}
use Rattle.thr_model.specs.States.{State, Debt, Return, Delivery, Running, nothing_left, rank_of, remainder_of, setting_of, debt_of, shared_values}
use Rattle.thr_model.specs.Calls.{Answered, answered, cancelled, given_state, signals_one, woken_state, first}
use Rattle.thr_model.specs.Turns.{Made, runs_routine, runs_if, after_reply, called, written_to, shared_made, handed_on, end_made, begun_by, begun_at, debt_made, halt_made, turn_by, turn_of}
use Rattle.thr_model.specs.Events.{dispatch_made, clock_to, clock_of, made_by}
use Rattle.thr_model.specs.Histories.{Execution, History, opened, then_event}

-- A fact that each step keeps and that is there where nothing is left.
pub record IsKeptByTurns (P : Script → Remainder → Type 0) : Type 0 where
  pub kept : IsKeptBySteps P
  pub nothing : (s : Script) → P s nothing_left

module _ (P : Script → Remainder → Type 0) (k : IsKeptByTurns P) where
  -- What is left in each thread has it.
  abbrev Have : Script → State → Type 0
  Have s st = Each (P s) st.remainders

  fresh_if : (s : Script) (b : Bool) (x : Remainder) → P s x → IfThere (P s) (keep_if b (Some x))
  fresh_if s true x h = h
  fresh_if s false x h = tt

  have_at : (s : Script) (o : Option Remainder) → IfThere (P s) o → P s (unwrap_or o nothing_left)
  have_at s None h = k.nothing s
  have_at s (Some r) h = h

  -- So what is left in a thread has it, and where nothing is known of the thread, that nothing is left.
  pub remainder_has : (s : Script) (st : State) (t : Tid) → Each (P s) st.remainders → P s (remainder_of st t)
  remainder_has s st t h = subst (P s) (sym (at_get st.remainders t.0 nothing_left)) (have_at s (get st.remainders t.0) (if_there (P s) st.remainders t.0 (get st.remainders t.0) refl h))

  -- ---- calls

  cancelled_have : (s : Script) (st : State) (target : Tid) (o : ThreadsReply) (y : Reply) → Have s st → Have s (cancelled st target o y).state
  cancelled_have s st target o (reply.Effect effect.Wakes) h = h
  cancelled_have s st target o (reply.Effect _) h = h
  cancelled_have s st target o _ h = h

  given_have : (s : Script) (st : State) (rs : Rows) (o : Option Tid) → Have s st → Have s (given_state st rs o)
  given_have s st rs None h = h
  given_have s st rs (Some t) h = h

  signals_have : (s : Script) (st : State) (o : Signalled) (w : Option (Tid × NameId)) → Have s st → Have s (signals_one st o w).state
  signals_have s st o None h = h
  signals_have s st o (Some w) h = h

  woken_have : (s : Script) (st : State) (rs : Rows) (y : Reply) (o : Option Tid) → Have s st → Have s (woken_state st rs y o)
  woken_have s st rs y None h = h
  woken_have s st rs y (Some t) h = h

  answered_have : (s : Script) (st : State) (t : Tid) (call : DceCall) (ns : List ℤ) → Have s st → Have s (answered s st t call ns).state
  unfolding answered
  answered_have s st t (dce.Create v a routine e) ns h =
      each_put_if (P s) st.remainders st.threads.next _ (fresh_if s (is_value (threads.create st.threads t a).reply) (fresh s routine (first ns)) (k.kept.begins s routine (first ns))) h
  answered_have s st t (dce.Cancel e) ns h =
      let who : Tid = thread (natural (first ns)) in
      let o : ThreadsReply = cancels.cancel st.threads (first ns) (waits_at_point st.rows who) in cancelled_have s st who o o.reply h
  answered_have s st t (dce.MutexUnlock m) ns h = let o = unlock st.locks st.rows (Some m) t in given_have s (record st { locks = o.locks }) o.rows o.given h
  answered_have s st t dce.UnlockGlobalNp ns h = let o = unlock st.locks st.rows None t in given_have s (record st { locks = o.locks }) o.rows o.given h
  answered_have s st t (dce.CondWait c m) ns h =
      let o = wait st.conds st.locks st.rows c m t (rank_of st t) in given_have s (record st { conds = o.conds; locks = o.locks }) o.rows o.given h
  answered_have s st t (dce.CondTimedwait c m e) ns h =
      let o = timedwait st.conds st.locks st.rows c m (first ns) st.clock t (rank_of st t) in given_have s (record st { conds = o.conds; locks = o.locks }) o.rows o.given h
  answered_have s st t (dce.CondSignal c) ns h = let o : Signalled = signal st.conds st.rows c in signals_have s st o o.waiter h
  answered_have s st t (dce.Read p v w) ns h = let o = read st.pipes st.rows p t (rank_of st t) in woken_have s (record st { pipes = o.pipes }) o.rows reply.Done o.relieved h
  answered_have s st t (dce.Write p e) ns h =
      let o = write st.pipes st.rows p (first ns) t (rank_of st t) in woken_have s (record st { pipes = o.pipes }) o.rows (reply.Value (first ns)) o.reader h
  answered_have s st t _ ns h = h

  -- ---- turns

  routine_has : (g : Setting) (call : DceCall) (r : Remainder) (m : Move) → IsNextCall r call → P g.script r → P g.script m.to → P g.script (runs_routine g call m).to
  routine_has g (dce.Once block routine) r m asks i h = k.kept.runs g block routine r m.to asks i h
  routine_has g _ r m asks i h = h

  runs_has : (b : Bool) (g : Setting) (call : DceCall) (r : Remainder) (m : Move) → IsNextCall r call → P g.script r → P g.script m.to → P g.script (runs_if b g call m).to
  runs_has true g call r m asks i h = routine_has g call r m asks i h
  runs_has false g call r m asks i h = h

  replied_has : (g : Setting) (call : DceCall) (runs : Bool) (r : Remainder) (y : Reply) → IsNextCall r call → P g.script r → P g.script (after_reply g call runs r y).to
  replied_has g call runs r reply.Blocks asks h = h
  replied_has g call runs r y asks h = runs_has runs g call r (replied g y r) asks h (k.kept.replies g y r h)

  called_have : (st : State) (t : Tid) (g : Setting) (call : DceCall) (r : Remainder) (values : Values) → IsNextCall r call → Have g.script st → P g.script r → Have g.script (called g.script st t g call r values).state
  called_have st t g call r (Ok ns) asks h i =
      let o : Answered = answered g.script st t call ns in
      each_put (P g.script) o.state.remainders t.0 _ (replied_has g call o.runs r o.reply asks i) (answered_have g.script st t call ns h)
  called_have st t g call r (Err x) asks h i = each_put (P g.script) st.remainders t.0 _ (k.kept.raises g.script x r i) h

  written_have : (s : Script) (st : State) (o : Option (NameId × ℤ)) → Have s st → Have s (written_to st o)
  written_have s st None h = h
  written_have s st (Some w) h = h

  shared_have : (st : State) (t : Tid) (g : Setting) (r : Remainder) (spot : Spot) (act : Act) → place_in r.items ≡ At spot → act_at spot ≡ act → Have g.script st → P g.script r
      → Have g.script (shared_made g.script st t g r act).state
  shared_have st t g r spot (Asks call) here asks h i =
      called_have st t g call r (asked g (shared_values st) call r) (record { spot = spot; here = here; asks = asks }) h i
  shared_have st t g r spot _ here asks h i =
      each_put (P g.script) (written_to st (written g (shared_values st) r)).remainders t.0 (shared_step g (shared_values st) r).to (k.kept.shares g (shared_values st) r i)
      (written_have g.script st (written g (shared_values st) r) h)

  handed_have : (s : Script) (st : State) (o : once.Undone) (w : Option Tid) → Have s st → Have s (handed_on st o w)
  handed_have s st o None h = h
  handed_have s st o (Some t) h = h

  end_have : (st : State) (t : Tid) (g : Setting) (r : Remainder) (o : NextDestructor) (c : Option DestructorCall) → Have g.script st → P g.script r → Have g.script (end_made st t g r o c).state
  end_have st t g r o (Some c) h i = each_put (P g.script) st.remainders t.0 _ (k.kept.destroys g c.0 c.1 c.2 r i) h
  end_have st t g r o None h i = each_cut (P g.script) st.remainders t.0 h

  begun_by_has : (g : Setting) (r : Remainder) (spot : Spot) (act : Act) (m : Move) → place_in r.items ≡ At spot → act_at spot ≡ act → P g.script r → P g.script m.to → P g.script (begun_by g act m).to
  begun_by_has g r spot (Asks call) m here asks i h = routine_has g call r m (record { spot = spot; here = here; asks = asks }) i h
  begun_by_has g r spot _ m here asks i h = h

  begun_has : (g : Setting) (r : Remainder) (p : Place) (m : Move) → place_in r.items ≡ p → P g.script r → P g.script m.to → P g.script (begun_at g p m).to
  begun_has g r (At x) m here i h = begun_by_has g r x (act_at x) m here refl i h
  begun_has g r _ m here i h = h

  debt_have : (st : State) (t : Tid) (g : Setting) (r : Remainder) (d : Debt) → Have g.script st → P g.script r → Have g.script (debt_made st t g r d).state
  debt_have st t g r (Return y) h i = each_put (P g.script) st.remainders t.0 (replied g y r).to (k.kept.replies g y r i) h
  debt_have st t g r Delivery h i = each_put (P g.script) st.remainders t.0 _ (k.kept.delivers g.script r i) h
  debt_have st t g r Running h i =
      each_put (P g.script) st.remainders t.0 _ (begun_has g r (place_in r.items) (replied g reply.Done r) refl i (k.kept.replies g reply.Done r i)) h

  halt_have : (st : State) (t : Tid) (g : Setting) (r : Remainder) (halt : Halt) → Have g.script st → P g.script r → HaltKeeps P g r halt → Have g.script (halt_made g.script st t g r halt).state
  halt_have st t g r Delivers h i j = each_put (P g.script) st.remainders t.0 _ (k.kept.delivers g.script r i) h
  halt_have st t g r (Shares spot) h i j = shared_have st t g r spot (act_at spot) j refl h i
  halt_have st t g r (Undoes block m) h i j =
      let o : once.Undone = once.undone st.onces st.rows block in each_put (P g.script) (handed_on st o o.runner).remainders t.0 m.to j (handed_have g.script st o o.runner h)
  halt_have st t g r (Completes block m) h i j = each_put (P g.script) st.remainders t.0 m.to j h
  halt_have st t g r Ends h i j = let o : NextDestructor = next_destructor st.onces t in end_have st t g r o o.call h i
  halt_have st t g r Pauses h i j = each_put (P g.script) st.remainders t.0 r i h

  turn_by_have : (s : Script) (st : State) (t : Tid) (d : Option Debt) → Have s st → Have s (turn_by s st t d).state
  turn_by_have s st t (Some d) h = debt_have (record st { debts = _ }) t (setting_of s st t) (remainder_of st t) d h (remainder_has s st t h)
  turn_by_have s st t None h =
      let g : Setting = setting_of s st t in
      let run : Run = run_of most_steps g (mode_at st.threads t) (remainder_of st t) in
      let x : RunKeeps P g run = run_keeps P k.kept most_steps g (mode_at st.threads t) (remainder_of st t) (remainder_has s st t h) in
      halt_have st t g run.to run.halt h x.to x.halt

  turn_have : (s : Script) (st : State) (t : Tid) → Have s st → Have s (turn_of s st t).state
  unfolding turn_of
  turn_have s st t h = turn_by_have s st t (debt_of st t) h

  -- ---- events

  dispatch_have : (s : Script) (st : State) (p : ℕ) (d : Dispatched) (o : Option Tid) (made : Made) → Have s st → dispatch_made st p d o ≡ Some made → Have s made.state
  dispatch_have s st p d None made h e = absurd (cc)
  dispatch_have s st p d (Some t) made h e = subst (λ (m : Made). Have s m.state) (ap (λ o. unwrap_or o made) e) h

  dispatch_if_have : (s : Script) (b : Bool) (st : State) (p : ℕ) (made : Made) → Have s st → (if b then dispatch_made st p (dispatch st.rows p) (dispatch st.rows p).taken else None) ≡ Some made → Have s made.state
  dispatch_if_have s true st p made h e = dispatch_have s st p (dispatch st.rows p) (dispatch st.rows p).taken made h e
  dispatch_if_have s false st p made h e = absurd (cc)

  turn_if_have : (s : Script) (st : State) (o : Option Tid) (made : Made) → Have s st → option_map (turn_of s st) o ≡ Some made → Have s made.state
  turn_if_have s st None made h e = absurd (cc)
  turn_if_have s st (Some t) made h e = subst (λ (m : Made). Have s m.state) (ap (λ o. unwrap_or o made) e) (turn_have s st t h)

  clock_at_have : (s : Script) (st : State) (o : Option ℤ) (made : Made) → Have s st → option_map (clock_to st) o ≡ Some made → Have s made.state
  clock_at_have s st None made h e = absurd (cc)
  clock_at_have s st (Some now) made h e = subst (λ (m : Made). Have s m.state) (ap (λ o. unwrap_or o made) e) h

  clock_have : (s : Script) (st : State) (b : Bool) (made : Made) → Have s st → clock_of b st ≡ Some made → Have s made.state
  clock_have s st true made h e = absurd (cc)
  clock_have s st false made h e = clock_at_have s st (earliest st.conds) made h e

  -- Each event keeps it.
  pub made_have : (s : Script) (n : ℕ) (st : State) (e : Event) (made : Made) → Each (P s) st.remainders → made_by s n st e ≡ Some made → Each (P s) made.state.remainders
  unfolding made_by
  made_have s n st (event.Dispatch p) made h e = dispatch_if_have s (nat_lt p n) st p made h e
  made_have s n st (event.Turn p) made h e = turn_if_have s st (running st.rows p) made h e
  made_have s n st event.Clock made h e = clock_have s st (some_can_run st.rows) made h e

  -- So it is there in every history.
  pub history_has : {s : Script} {n : ℕ} {x : Execution} → History s n x → (t : ℕ) (r : Remainder) → get x.state.remainders t ≡ Some r → P s r
  history_has {s} opened = each_put (P s) none 1 _ (k.kept.begins s _ _) (each_none (P s))
  history_has {s} {n} (then_event {x} h open_ e made m) = made_have s n x.state e made (history_has h) m
