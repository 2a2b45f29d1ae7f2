-- Where a thread's own turn ends with a wait on a condition, it is on record as waiting with that mutex.
use Rattle.std.proofs.Common.{◌≡◌, ℤ, Bool, true, false, cond, List, [], ◌∷◌, ◌++◌, map, Option, Some, None, Ok, Err, refl, sym, ap, ◌∙◌, subst}
use Rattle.std.proofs.lemmas.Bool.{eq-eqb, false≢true}
use Rattle.std.specs.Prelude.{int_le}
use Rattle.std.specs.Option.{option_and_then, unwrap_or}
use Rattle.thr_values.specs.declared.number.Tid.{Tid}
use Rattle.thr_values.specs.declared.number.NameId.{NameId}
use Rattle.thr_values.specs.declared.history.Entry.{Entry}
use Rattle.thr_values.specs.declared.history.What.{What}
use Rattle.thr_values.specs.declared.history.What.TheVariants as what
use Rattle.thr_values.specs.declared.reply.Reply.{Reply}
use Rattle.thr_values.specs.declared.reply.Reply.TheVariants as reply
use Rattle.thr_syntax.specs.declared.dce.DceCall.{DceCall}
use Rattle.thr_syntax.specs.declared.dce.DceCall.TheVariants as dce
use Rattle.thr_syntax.specs.declared.tree.Script.{Script}
use Rattle.thr_remainder.specs.Acts.{Act, Asks}
use Rattle.thr_remainder.specs.Calls.{shape_of, arguments}
use Rattle.thr_remainder.specs.Remainders.{Setting, Remainder, act_at}
use Rattle.thr_remainder.specs.Starts.{raised, delivered, begins_destructor}
use Rattle.thr_remainder.specs.Steps.{shared_step}
use Rattle.thr_remainder.specs.Replies.{Values, asked}
use Rattle.thr_remainder.specs.Runs.{Halt, Delivers, Shares, Undoes, Completes, Ends, Pauses, Run, run_of, most_steps}
use Rattle.thr_parts.specs.declared.wait.Wait.{Wait}
use Rattle.thr_parts.specs.declared.wait.Wait.TheVariants.{Cond}
use Rattle.thr_parts.specs.Tables.{Table, put, put_if, cut, keep_if}
use Rattle.thr_parts.specs.Replies.{is_blocks}
use Rattle.thr_parts.specs.Rows.{Rows}
use Rattle.thr_parts.specs.Threads.{record_at}
use Rattle.thr_parts.specs.Cancels.{mode_at}
use Rattle.thr_parts.specs.Conditions.{Conds, Waited, mutex_of, wait, timedwait, wait_reply, timedwait_reply}
use Rattle.thr_parts.specs.Waking.{mutex_with}
use Rattle.thr_parts.specs.Keys.{DestructorCall, NextDestructor, next_destructor}
use Rattle.thr_laws.specs.Lines.{is_some_line}
use Rattle.thr_laws.specs.Known.{Known}
use Rattle.thr_laws.specs.CallsOnce.{waits}
use Rattle.thr_laws.specs.CancelLaw.{is_wait_with}
use Rattle.thr_model.specs.States.{State, Debt, Return, Delivery, Running, rank_of, remainder_of, setting_of, debt_of, shared_values}
use Rattle.thr_model.specs.Calls.{Gifts, Answered, answered, given_state, first}
use Rattle.thr_model.specs.Turns.{Made, thread_line, gift_lines, after_reply, called, shared_made, end_made, debt_made, halt_made, run_made, turn_by, kept, is_fifo_in, turn_of}
use Rattle.thr_owners.proofs.Using.{same_lock}
use Rattle.thr_answers.specs.Statuses.{Calm, status_in, status_of, is_waiting}
use Rattle.thr_answers.proofs.StatusMoves.{with_put}
use Rattle.thr_answers.proofs.StatusCalls.{IsCalling}
use Rattle.thr_answers.proofs.StatusTurns.{InOrder, Comes, HasRun, answered_comes, paid_goes, keeps_stays}
use Rattle.thr_answers.proofs.AnswerReading.{after, after_append, quiet_calm, ReadsCalmly, calm_reads, gifts_silent, silent_append, blocks_reads}
use Rattle.thr_answers.proofs.QuietLines.{AreQuiet, HaltFits, RunFits, run_fits, shared_is_quiet}
use Rattle.thr_cancels.proofs.MutexLines.{no_last}
use Rattle.thr_reacquired.proofs.Regaining.{there}

-- ---- waits that begin

given_conds : (st : State) (rs : Rows) (o : Option Tid) → (given_state st rs o).conds ≡ st.conds
given_conds st rs None = refl
given_conds st rs (Some w) = refl

begun : (made : Table _) (v : Table Wait) (t : Tid) (c n : NameId) (until : Option ℤ) (b : Bool) → b ≡ true
    → (let cs : Conds = record { made = made; waits = put_if v t.0 (keep_if b (Some (Cond c n until))) } in mutex_with cs t ≡ Some n)
begun made v t c n until false e = absurd (false≢true e)
begun made v t c n until true e = ap (option_and_then mutex_of) (there v (put v t.0 (Cond c n until)) t.0 t.0 (Some (Cond c n until)) (with_put v t.0 (Cond c n until)) (eq-eqb t.0 t.0 refl))

same_name : (n m : NameId) → (let a : Option NameId = Some n in a) ≡ Some m → n ≡ m
same_name n m e = ap (λ (o : Option NameId). unwrap_or o n) e

module _ (s : Script) (st : State) (t : Tid) (m : NameId) where
  -- The caller is on record as waiting with the mutex.
  abbrev WaitsWith : State → Type 0
  WaitsWith after = mutex_with after.conds t ≡ Some m

  -- A call that waits with the mutex puts its caller on record.
  call_waits : (call : DceCall) (ns : List ℤ) → is_wait_with (Some m) (what.Call (shape_of call).word (arguments call ns) reply.Blocks) ≡ true → is_blocks (answered s st t call ns).reply ≡ true → WaitsWith (answered s st t call ns).state
  unfolding answered shape_of
  call_waits (dce.CondWait c n) ns e b =
      let o : Waited = wait st.conds st.locks st.rows c n t (rank_of st t) in
      let now : State = record st { conds = o.conds; locks = o.locks } in
      ap (λ (cs : Conds). mutex_with cs t) (given_conds now o.rows o.given)
      ∙ begun st.conds.made st.conds.waits t c n None (is_blocks (wait_reply st.conds st.locks c n t)) b ∙ same_lock (Some n) (Some m) e
  call_waits (dce.CondTimedwait c n x) ns e b =
      let o : Waited = timedwait st.conds st.locks st.rows c n (first ns) st.clock t (rank_of st t) in
      let now : State = record st { conds = o.conds; locks = o.locks } in
      ap (λ (cs : Conds). mutex_with cs t) (given_conds now o.rows o.given)
      ∙ begun st.conds.made st.conds.waits t c n (Some (first ns)) (is_blocks (timedwait_reply (wait_reply st.conds st.locks c n t) (int_le (first ns) st.clock))) b ∙ same_lock (Some n) (Some m) e
  call_waits _ ns e b = absurd (false≢true e)

-- ---- turns

is_blocked : (y : Reply) → is_blocks y ≡ true → y ≡ reply.Blocks
is_blocked reply.Blocks e = refl
is_blocked _ e = absurd (false≢true e)

module _ (s : Script) (st : State) (t : Tid) (m : NameId) (k : Known) (calm : waits k ≡ false) (calls : IsCalling st t.0) (order : InOrder st) where
  -- Where the last line is a wait with the mutex and the thread waits, it is on record as waiting with the mutex.
  abbrev EndsWell : Made → Type 0
  EndsWell made = is_some_line (is_wait_with (Some m)) (after t.0 k made.lines).last ≡ true → is_waiting (status_of made.state t.0) ≡ true → WaitsWith s st t m made.state

  -- Quiet lines are no wait.
  quiet_ends : {C : Type 0} (ws : List What) → AreQuiet ws → is_some_line (is_wait_with (Some m)) (after t.0 k (map (thread_line t) ws)).last ≡ true → C
  quiet_ends ws q e =
      let x : waits (after t.0 k (map (thread_line t) ws)) ≡ false = last_calm ws q in absurd (false≢true (sym (no_last (Some m) (after t.0 k (map (thread_line t) ws)).last x) ∙ e))
    where
      last_calm : (vs : List What) → AreQuiet vs → waits (after t.0 k (map (thread_line t) vs)) ≡ false
      last_calm vs p = (calm_reads s t.0 k (map (thread_line t) vs) calm (quiet_calm t.0 t vs p)).calm

  -- The lines of a call with this reply.
  abbrev lines_of_call : Setting → DceCall → List ℤ → Bool → Remainder → Gifts → Reply → List Entry
  lines_of_call g call ns runs r gs y = (thread_line t (what.Call (shape_of call).word (arguments call ns) y) ∷ gift_lines gs) ++ map (thread_line t) (after_reply g call runs r y).lines

  last_is_call : (g : Setting) (call : DceCall) (ns : List ℤ) (runs : Bool) (r : Remainder) (gs : Gifts) (y : Reply) → y ≡ reply.Blocks
      → (after t.0 k (lines_of_call g call ns runs r gs y)).last ≡ Some (what.Call (shape_of call).word (arguments call ns) reply.Blocks)
  last_is_call g call ns runs r gs y e =
      subst (λ (x : Reply). (after t.0 k (lines_of_call g call ns runs r gs x)).last ≡ Some (what.Call (shape_of call).word (arguments call ns) reply.Blocks)) (sym e)
      (blocks_reads s t k (shape_of call).word (arguments call ns) (gift_lines gs ++ []) calm (silent_append t.0 (gift_lines gs) [] (gifts_silent t.0 gs) tt)).last

  called_ends : (g : Setting) (call : DceCall) (r : Remainder) (v : Values) → EndsWell (called s st t g call r v)
  called_ends g call r (Ok ns) e w =
      let o : Answered = answered s st t call ns in
      let c : Comes st t.0 (is_blocks o.reply) o.state = answered_comes s st t call ns calls order in
      let b : is_blocks o.reply ≡ true = sym (c.waiting t.0 ∙ ap (λ x. cond x (is_blocks o.reply) (is_waiting (status_of st t.0))) (eq-eqb t.0 t.0 refl)) ∙ w in
      call_waits s st t m call ns (sym (ap (is_some_line (is_wait_with (Some m))) (last_is_call g call ns o.runs r o.gifts o.reply (is_blocked o.reply b))) ∙ e) b
  called_ends g call r (Err x) e w = quiet_ends (raised x r).lines (record { waiting = refl; returning = refl }, tt) e

  shared_ends : (g : Setting) (r : Remainder) (act : Act) → EndsWell (shared_made s st t g r act)
  shared_ends g r (Asks call) e w = called_ends g call r (asked g (shared_values st) call r) e w
  shared_ends g r _ e w = quiet_ends (shared_step g (shared_values st) r).lines (shared_is_quiet g (shared_values st) r) e

  end_ends : (g : Setting) (r : Remainder) (o : NextDestructor) (c : Option DestructorCall) → EndsWell (end_made st t g r o c)
  end_ends g r o (Some c) e w = quiet_ends (begins_destructor g c.0 c.1 c.2 r).lines (record { waiting = refl; returning = refl }, tt) e
  end_ends g r o None e w = quiet_ends (what.End r.value ∷ []) (record { waiting = refl; returning = refl }, tt) e

  halt_ends : (g : Setting) (r : Remainder) (halt : Halt) → HaltFits r halt → EndsWell (halt_made s st t g r halt)
  halt_ends g r Delivers h e w = quiet_ends (delivered r).lines (record { waiting = refl; returning = refl }, tt) e
  halt_ends g r (Shares x) h e w = shared_ends g r (act_at x) e w
  halt_ends g r (Undoes block x) h e w = quiet_ends x.lines h e
  halt_ends g r (Completes block x) h e w = quiet_ends x.lines h e
  halt_ends g r Ends h e w = (let o : NextDestructor = next_destructor st.onces t in end_ends g r o o.call e w)
  halt_ends g r Pauses h e w = quiet_ends [] tt e

module _ (s : Script) (st : State) (t : Tid) (m : NameId) (k : Known) (run : HasRun st t.0) (order : InOrder st) where
  run_ends : (g : Setting) (x : Run) → waits k ≡ false → IsCalling st t.0 → RunFits x → (let made : Made = run_made s st t g x in is_some_line (is_wait_with (Some m)) (after t.0 k made.lines).last ≡ true → is_waiting (status_of made.state t.0) ≡ true → WaitsWith s st t m made.state)
  run_ends g x calm calls fits e w =
      let lines : List Entry = map (thread_line t) x.lines in
      let halted : Made = halt_made s st t g x.to x.halt in
      let c : ReadsCalmly s t.0 k lines = calm_reads s t.0 k lines calm (quiet_calm t.0 t x.lines fits.lines) in
      halt_ends s st t m (after t.0 k lines) c.calm calls order g x.to x.halt fits.halt (sym (ap (λ (j : Known). is_some_line (is_wait_with (Some m)) j.last) (after_append t.0 k lines halted.lines)) ∙ e) w

  -- A thread that makes what it owes doesn't wait after it.
  debt_calm : (g : Setting) (r : Remainder) (d : Debt) → (let now : State = record st { debts = cut st.debts t.0 } in status_of (debt_made now t g r d).state t.0 ≡ Calm)
  debt_calm g r d = by d (paid_goes st t.0 run order t.0 ∙ ap (λ b. cond b Calm (status_of st t.0)) (eq-eqb t.0 t.0 refl))
    where
      by : (d : Debt) → status_in (cut st.debts t.0) st.rows.seats st.conds.waits t.0 ≡ Calm → (let now : State = record st { debts = cut st.debts t.0 } in status_of (debt_made now t g r d).state t.0 ≡ Calm)
      by (Return y) e = e
      by Delivery e = e
      by Running e = e

  by_ends : (d : Option Debt) → debt_of st t ≡ d → (d ≡ None → IsCalling st t.0) → (d ≡ None → waits k ≡ false) → is_some_line (is_wait_with (Some m)) (after t.0 k (turn_by s st t d).lines).last ≡ true
      → is_waiting (status_of (turn_by s st t d).state t.0) ≡ true → WaitsWith s st t m (turn_by s st t d).state
  by_ends (Some d) is calls calm e w = absurd (false≢true (sym (ap is_waiting (debt_calm (setting_of s st t) (remainder_of st t) d)) ∙ w))
  by_ends None is calls calm e w =
      let g : Setting = setting_of s st t in run_ends g (run_of most_steps g (mode_at st.threads t) (remainder_of st t)) (calm refl) (calls refl) (run_fits most_steps g (mode_at st.threads t) (remainder_of st t)) e w

  kept_waits : (made : Made) → is_waiting (status_of (kept t made).state t.0) ≡ true → is_waiting (status_of made.state t.0) ≡ true
  kept_waits made w = sym (ap is_waiting (keeps_stays made.state.debts made.state.conds.waits made.state.rows t (is_fifo_in (record_at made.state.threads t)) t.0)) ∙ w

  -- The thread's own turn.
  pub turn_ends : (debt_of st t ≡ None → IsCalling st t.0) → (debt_of st t ≡ None → waits k ≡ false) → is_some_line (is_wait_with (Some m)) (after t.0 k (turn_of s st t).lines).last ≡ true
      → is_waiting (status_of (turn_of s st t).state t.0) ≡ true → mutex_with (turn_of s st t).state.conds t ≡ Some m
  unfolding turn_of
  turn_ends calls calm e w = by_ends (debt_of st t) refl calls calm e (kept_waits (turn_by s st t (debt_of st t)) w)
