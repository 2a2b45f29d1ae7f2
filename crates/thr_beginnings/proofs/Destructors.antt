-- Each key that is made in a history of a script that keeps the rules has a destructor that is a routine of the script, or none.
use Rattle.std.proofs.Common.{◌≡◌, ℕ, zero, suc, ℤ, pos, Bool, true, false, not, List, [], ◌∷◌, Option, Some, None, Ok, Err, IfSome, refl, ap, subst}
use Rattle.std.specs.Prelude.{if◌then◌else◌, nat_lt, slice_get}
use Rattle.std.specs.Option.{option_map, option_or, unwrap_or}
use Rattle.std.specs.Ordering.{nat_cmp}
use Rattle.std.specs.FinMap.Entries as entries
use Rattle.thr_values.specs.declared.number.NameId.{NameId}
use Rattle.thr_values.specs.declared.number.Tid.{Tid}
use Rattle.thr_values.specs.declared.event.Event.{Event}
use Rattle.thr_values.specs.declared.event.Event.TheVariants as event
use Rattle.thr_values.specs.declared.reply.Effect.TheVariants as effect
use Rattle.thr_values.specs.declared.reply.Reply.{Reply}
use Rattle.thr_values.specs.declared.reply.Reply.TheVariants as reply
use Rattle.thr_syntax.specs.declared.dce.DceCall.{DceCall}
use Rattle.thr_syntax.specs.declared.dce.DceCall.TheVariants as dce
use Rattle.thr_syntax.specs.declared.form.Form.TheVariants as form
use Rattle.thr_syntax.specs.declared.tree.Script.{Script}
use Rattle.thr_syntax.specs.Lines.{lines_of}
use Rattle.thr_text.specs.Reading.{Formed}
use Rattle.thr_remainder.specs.Acts.{Act, Asks}
use Rattle.thr_remainder.specs.Remainders.{Setting, Remainder, Spot, At, act_at}
use Rattle.thr_remainder.specs.Steps.{written}
use Rattle.thr_remainder.specs.Replies.{Values, asked}
use Rattle.thr_remainder.specs.Runs.{Halt, Delivers, Shares, Undoes, Completes, Ends, Pauses, Run, run_of, most_steps}
use Rattle.thr_parts.specs.Tables.{Table, get, has, put_if, cut, keep_if, IsCanonical}
use Rattle.thr_parts.specs.Rows.{Rows, thread}
use Rattle.thr_parts.specs.Threads.{ThreadsReply, natural}
use Rattle.thr_parts.specs.Cancels.{mode_at, waits_at_point}
use Rattle.thr_parts.specs.Cancels as cancels
use Rattle.thr_parts.specs.Locking.{unlock}
use Rattle.thr_parts.specs.Conditions.{wait, timedwait}
use Rattle.thr_parts.specs.Waking.{Signalled, signal}
use Rattle.thr_parts.specs.Pipes.{read, write}
use Rattle.thr_parts.specs.Dispatch.{dispatch, running, some_can_run}
use Rattle.thr_parts.specs.Expiry.{earliest}
use Rattle.thr_parts.specs.Keys.{Key, DestructorCall, NextDestructor, is_zero, new_key, as_valued, value_in, called_with, call_for, first_call, keys_called, next_destructor}
use Rattle.thr_parts.specs.OnceBlocks as once
use Rattle.thr_parts.proofs.EntryLaws.{both_true, get_first, get_behind}
use Rattle.thr_parts.proofs.EachLaws.{Each, IfThere, each_none, each_put_if, if_there}
use Rattle.thr_model.specs.States.{State, Debt, Return, Delivery, Running, setting_of, remainder_of, debt_of, rank_of, shared_values}
use Rattle.thr_model.specs.Calls.{answered, cancelled, given_state, signals_one, woken_state, first}
use Rattle.thr_model.specs.Turns.{Made, called, written_to, shared_made, handed_on, end_made, debt_made, halt_made, turn_by, turn_of}
use Rattle.thr_model.specs.Events.{dispatch_made, clock_to, clock_of, made_by}
use Rattle.thr_model.specs.Histories.{Execution, History, opened, then_event}
use Rattle.thr_laws.specs.CallsOnce.{form_at}
use Rattle.thr_answers.specs.Standing.{StandsIn}
use Rattle.thr_answers.proofs.StepsStand.{IsSpot, IsPlace, place_stands}
use Rattle.thr_answers.proofs.HistoriesStand.{run_stands, remainder_stands, left-stands}
use Rattle.thr_answers.proofs.QuietLines.{RunFits, HaltFits, run_fits}
use Rattle.thr_answers.proofs.CallLines.{stands_as}
use Rattle.thr_trees.specs.Routines.{IsRoutine}
use Rattle.thr_trees.proofs.LinesNamed.{line_is_named}
use Rattle.thr_trees.proofs.RoutinesFound.{a_routine}

module _ (s : Script) where
  -- The key's destructor is a routine of the script, if it has one.
  abbrev pub IsRight : Key → Type 0
  IsRight k = IfThere (IsRoutine s) k.destructor

  -- So are those of all keys that are made.
  abbrev pub AreRight : State → Type 0
  AreRight st = Each IsRight st.onces.keys

  -- ---- keys

  valued_right : (t : Tid) (v : ℤ) (o : Option Key) → IfThere IsRight o → IfThere IsRight (option_map (as_valued t v) o)
  valued_right t v None h = tt
  valued_right t v (Some k) h = h

  set_right : (keys : Table Key) (k : ℕ) (t : Tid) (v : ℤ) → Each IsRight keys → Each IsRight (put_if keys k (option_map (as_valued t v) (get keys k)))
  set_right keys k t v h = each_put_if IsRight keys k (option_map (as_valued t v) (get keys k)) (valued_right t v (get keys k) (if_there IsRight keys k (get keys k) refl h)) h

  new_right : (b : Bool) (d : Option NameId) → IfThere (IsRoutine s) d → IfThere IsRight (keep_if b (Some (new_key d)))
  new_right true d h = h
  new_right false d h = tt

  called_right : (keys : Table Key) (t : Tid) (c : Option DestructorCall) → Each IsRight keys → Each IsRight (keys_called keys t c)
  called_right keys t None h = h
  called_right keys t (Some c) h = set_right keys c.0.0 t (pos 0) h

  -- ---- calls

  -- The destructor that the call gives a key is a routine.
  abbrev pub GivesRight : DceCall → Type 0
  GivesRight (dce.Keycreate k d) = IfThere (IsRoutine s) d
  GivesRight _ = Unit {0}

  cancelled_right : (st : State) (target : Tid) (o : ThreadsReply) (y : Reply) → AreRight st → AreRight (cancelled st target o y).state
  cancelled_right st target o (reply.Effect effect.Wakes) h = h
  cancelled_right st target o (reply.Effect _) h = h
  cancelled_right st target o _ h = h

  given_right : (st : State) (rs : Rows) (o : Option Tid) → AreRight st → AreRight (given_state st rs o)
  given_right st rs None h = h
  given_right st rs (Some t) h = h

  signals_right : (st : State) (o : Signalled) (w : Option (Tid × NameId)) → AreRight st → AreRight (signals_one st o w).state
  signals_right st o None h = h
  signals_right st o (Some w) h = h

  woken_right : (st : State) (rs : Rows) (y : Reply) (o : Option Tid) → AreRight st → AreRight (woken_state st rs y o)
  woken_right st rs y None h = h
  woken_right st rs y (Some t) h = h

  answered_right : (st : State) (t : Tid) (call : DceCall) (ns : List ℤ) → GivesRight call → AreRight st → AreRight (answered s st t call ns).state
  unfolding answered
  answered_right st t (dce.Keycreate k d) ns gives h = each_put_if IsRight st.onces.keys k.0 _ (new_right (not (has st.onces.keys k.0)) d gives) h
  answered_right st t (dce.Setspecific k e) ns gives h = set_right st.onces.keys k.0 t (first ns) h
  answered_right st t (dce.Cancel e) ns gives h =
      let who : Tid = thread (natural (first ns)) in
      let o : ThreadsReply = cancels.cancel st.threads (first ns) (waits_at_point st.rows who) in cancelled_right st who o o.reply h
  answered_right st t (dce.MutexUnlock m) ns gives h = let o = unlock st.locks st.rows (Some m) t in given_right (record st { locks = o.locks }) o.rows o.given h
  answered_right st t dce.UnlockGlobalNp ns gives h = let o = unlock st.locks st.rows None t in given_right (record st { locks = o.locks }) o.rows o.given h
  answered_right st t (dce.CondWait c m) ns gives h =
      let o = wait st.conds st.locks st.rows c m t (rank_of st t) in given_right (record st { conds = o.conds; locks = o.locks }) o.rows o.given h
  answered_right st t (dce.CondTimedwait c m e) ns gives h =
      let o = timedwait st.conds st.locks st.rows c m (first ns) st.clock t (rank_of st t) in given_right (record st { conds = o.conds; locks = o.locks }) o.rows o.given h
  answered_right st t (dce.CondSignal c) ns gives h = let o : Signalled = signal st.conds st.rows c in signals_right st o o.waiter h
  answered_right st t (dce.Read p v w) ns gives h = let o = read st.pipes st.rows p t (rank_of st t) in woken_right (record st { pipes = o.pipes }) o.rows reply.Done o.relieved h
  answered_right st t (dce.Write p e) ns gives h =
      let o = write st.pipes st.rows p (first ns) t (rank_of st t) in woken_right (record st { pipes = o.pipes }) o.rows (reply.Value (first ns)) o.reader h
  answered_right st t _ ns gives h = h

  -- ---- turns

  -- The statement that is next makes such a call, if it makes one.
  abbrev pub ActsRight : Act → Type 0
  ActsRight (Asks call) = GivesRight call
  ActsRight _ = Unit {0}

  called_made : (st : State) (t : Tid) (g : Setting) (call : DceCall) (r : Remainder) (v : Values) → GivesRight call → AreRight st → AreRight (called s st t g call r v).state
  called_made st t g call r (Ok ns) gives h = answered_right st t call ns gives h
  called_made st t g call r (Err x) gives h = h

  written_right : (st : State) (o : Option (NameId × ℤ)) → AreRight st → AreRight (written_to st o)
  written_right st None h = h
  written_right st (Some w) h = h

  shared_right : (st : State) (t : Tid) (g : Setting) (r : Remainder) (act : Act) → ActsRight act → AreRight st → AreRight (shared_made s st t g r act).state
  shared_right st t g r (Asks call) acts h = called_made st t g call r (asked g (shared_values st) call r) acts h
  shared_right st t g r _ acts h = written_right st (written g (shared_values st) r) h

  handed_right : (st : State) (o : once.Undone) (w : Option Tid) → Each IsRight o.onces.keys → AreRight (handed_on st o w)
  handed_right st o None h = h
  handed_right st o (Some w) h = h

  end_right : (st : State) (t : Tid) (g : Setting) (r : Remainder) (o : NextDestructor) (c : Option DestructorCall) → Each IsRight o.onces.keys → AreRight st → AreRight (end_made st t g r o c).state
  end_right st t g r o (Some c) k h = k
  end_right st t g r o None k h = h

  debt_right : (st : State) (t : Tid) (g : Setting) (r : Remainder) (d : Debt) → AreRight st → AreRight (debt_made st t g r d).state
  debt_right st t g r (Return y) h = h
  debt_right st t g r Delivery h = h
  debt_right st t g r Running h = h

  -- What ends the quiet part makes such a call, if it makes one.
  abbrev HaltsRight : Halt → Type 0
  HaltsRight (Shares spot) = ActsRight (act_at spot)
  HaltsRight _ = Unit {0}

  halt_right : (st : State) (t : Tid) (g : Setting) (r : Remainder) (halt : Halt) → HaltsRight halt → AreRight st → AreRight (halt_made s st t g r halt).state
  halt_right st t g r Delivers right h = h
  halt_right st t g r (Shares spot) right h = shared_right st t g r (act_at spot) right h
  halt_right st t g r (Undoes block m) right h = let o : once.Undone = once.undone st.onces st.rows block in handed_right st o o.runner h
  halt_right st t g r (Completes block m) right h = h
  halt_right st t g r Ends right h =
      let o : NextDestructor = next_destructor st.onces t in end_right st t g r o o.call (called_right st.onces.keys t (first_call t st.onces.keys) h) h
  halt_right st t g r Pauses right h = h

  -- ---- calls that stand at their lines

  named_right : (formed : Formed s) (k : ℕ) (call : DceCall) → slice_get (lines_of s) k ≡ Some (form.Dce call) → GivesRight call
  named_right formed k (dce.Keycreate key None) at = tt
  named_right formed k (dce.Keycreate key (Some name)) at = a_routine s formed name (line_is_named s formed k (form.Dce (dce.Keycreate key (Some name))) at).named.1.0
  named_right formed k _ at = tt

  stands_right : (formed : Formed s) (line : ℕ) (call : DceCall) → form_at s line ≡ Some (form.Dce call) → GivesRight call
  stands_right formed zero call at = absurd (cc)
  stands_right formed (suc k) call at = named_right formed k call at

  act_right : (formed : Formed s) (h : Spot) (act : Act) → IsSpot (lines_of s) h → act_at h ≡ act → ActsRight act
  act_right formed h (Asks call) spot e = stands_right formed h.line call (stands_as s h.line h.stmt h.rest call spot.here e)
  act_right formed h _ spot e = tt

  at_right : (formed : Formed s) (r : Remainder) (halt : Halt) → StandsIn s r → HaltFits r halt → HaltsRight halt
  at_right formed r (Shares spot) stands fits =
      let here : IsPlace (lines_of s) (At spot) = subst (IsPlace (lines_of s)) fits (place_stands (lines_of s) r.items stands.items) in act_right formed spot (act_at spot) here refl
  at_right formed r _ stands fits = tt

  -- What is left in each thread stands at its lines.
  abbrev AllStand : State → Type 0
  AllStand st = Each (StandsIn s) st.remainders

  turn_by_right : (formed : Formed s) (st : State) (t : Tid) (d : Option Debt) → AllStand st → AreRight st → AreRight (turn_by s st t d).state
  turn_by_right formed st t (Some d) stand h = debt_right (record st { debts = cut st.debts t.0 }) t (setting_of s st t) (remainder_of st t) d h
  turn_by_right formed st t None stand h =
      let g : Setting = setting_of s st t in
      let run : Run = run_of most_steps g (mode_at st.threads t) (remainder_of st t) in
      let fits : RunFits run = run_fits most_steps g (mode_at st.threads t) (remainder_of st t) in
      halt_right st t g run.to run.halt (at_right formed run.to run.halt (run_stands g most_steps (mode_at st.threads t) (remainder_of st t) (remainder_stands s st t stand)) fits.halt) h

  turn_right : (formed : Formed s) (st : State) (t : Tid) → AllStand st → AreRight st → AreRight (turn_of s st t).state
  unfolding turn_of
  turn_right formed st t stand h = turn_by_right formed st t (debt_of st t) stand h

  -- ---- events

  the_made : (one made : Made) → AreRight one.state → Some one ≡ Some made → AreRight made.state
  the_made one made h e = subst (λ (m : Made). AreRight m.state) (ap (λ o. unwrap_or o made) e) h

  dispatch_right : (st : State) (p : ℕ) (o : Option Tid) (made : Made) → AreRight st → dispatch_made st p (dispatch st.rows p) o ≡ Some made → AreRight made.state
  dispatch_right st p None made h e = absurd (cc)
  dispatch_right st p (Some t) made h e = the_made _ made h e

  dispatch_if_right : (b : Bool) (st : State) (p : ℕ) (made : Made) → AreRight st → (if b then dispatch_made st p (dispatch st.rows p) (dispatch st.rows p).taken else None) ≡ Some made → AreRight made.state
  dispatch_if_right true st p made h e = dispatch_right st p (dispatch st.rows p).taken made h e
  dispatch_if_right false st p made h e = absurd (cc)

  turn_if_right : (formed : Formed s) (st : State) (o : Option Tid) (made : Made) → AllStand st → AreRight st → option_map (turn_of s st) o ≡ Some made → AreRight made.state
  turn_if_right formed st None made stand h e = absurd (cc)
  turn_if_right formed st (Some t) made stand h e = the_made (turn_of s st t) made (turn_right formed st t stand h) e

  clock_at_right : (st : State) (o : Option ℤ) (made : Made) → AreRight st → option_map (clock_to st) o ≡ Some made → AreRight made.state
  clock_at_right st None made h e = absurd (cc)
  clock_at_right st (Some now) made h e = the_made (clock_to st now) made h e

  clock_right : (st : State) (b : Bool) (made : Made) → AreRight st → clock_of b st ≡ Some made → AreRight made.state
  clock_right st true made h e = absurd (cc)
  clock_right st false made h e = clock_at_right st (earliest st.conds) made h e

  made_right : (formed : Formed s) (n : ℕ) (st : State) (e : Event) (made : Made) → AllStand st → AreRight st → made_by s n st e ≡ Some made → AreRight made.state
  unfolding made_by
  made_right formed n st (event.Dispatch p) made stand h e = dispatch_if_right (nat_lt p n) st p made h e
  made_right formed n st (event.Turn p) made stand h e = turn_if_right formed st (running st.rows p) made stand h e
  made_right formed n st event.Clock made stand h e = clock_right st (some_can_run st.rows) made h e

  -- ---- histories

  history_right : (formed : Formed s) {n : ℕ} {x : Execution} → History s n x → AreRight x.state
  history_right formed opened = each_none IsRight
  history_right formed {n} (then_event {x} h open_ e made m) = made_right formed n x.state e made (left-stands h) (history_right formed h) m

  -- ---- the destructor that is next

  abbrev IfRoutine : Option DestructorCall → Type 0
  IfRoutine o = IfSome o (λ c. IsRoutine s c.1)

  unless_zero : (b : Bool) (k : ℕ) (name : NameId) (v : ℤ) → IsRoutine s name → IfRoutine (if b then None else Some (record { 0 = k }, name, v))
  unless_zero true k name v h = tt
  unless_zero false k name v h = h

  called_with_right : (k : ℕ) (d : Option NameId) (v : ℤ) → IfThere (IsRoutine s) d → IfRoutine (called_with k d v)
  called_with_right k None v h = tt
  called_with_right k (Some name) v h = unless_zero (is_zero v) k name v h

  either_right : (a b : Option DestructorCall) → IfRoutine a → IfRoutine b → IfRoutine (option_or a b)
  either_right None b h k = k
  either_right (Some c) b h k = h

  first_right : (t : Tid) (keys : Table Key) → IsCanonical keys → Each IsRight keys → IfRoutine (first_call t keys)
  unfolding first_call
  first_right t [] sorted h = tt
  first_right t (e ∷ es) sorted h =
      let parts : (entries.below_all nat_cmp e.0 es ≡ true) × (IsCanonical es) = both_true _ _ sorted in
      either_right (call_for t e) (first_call t es) (called_with_right e.0 e.1.destructor (value_in e.1 t) (h e.0 e.1 (get_first e es)))
      (first_right t es parts.1 (λ q v i. h q v (get_behind e es q v parts.0 i)))

-- The destructor that an ending thread would call next is a routine.
pub destructors_are_routines : (s : Script) (n : ℕ) (x : Execution) → Formed s → History s n x → IsCanonical x.state.onces.keys → (t : Tid) → IfSome (next_destructor x.state.onces t).call (λ c. IsRoutine s c.1)
destructors_are_routines s n x formed h sorted t = first_right s t x.state.onces.keys sorted (history_right s formed h)
