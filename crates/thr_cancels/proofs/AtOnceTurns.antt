-- In every history, cancels that can be delivered at once are delivered before the thread's next step.
use Rattle.std.proofs.Common.{◌≡◌, ℕ, ◌==◌, ℤ, Bool, true, false, ◌&&◌, ◌||◌, eqb, List, [], ◌∷◌, map, Option, Some, None, Ok, Err, refl, sym, ◌∙◌, ap, subst, nat_lt}
use Rattle.std.proofs.lemmas.Bool.{eqb-true}
use Rattle.std.specs.Prelude.{if◌then◌else◌, is_some, unwrap_or}
use Rattle.std.specs.List.{list_all, fold}
use Rattle.std.specs.Option.{option_map}
use Rattle.thr_values.specs.declared.number.Tid.{Tid}
use Rattle.thr_values.specs.declared.event.Event.{Event}
use Rattle.thr_values.specs.declared.event.Event.TheVariants as event
use Rattle.thr_values.specs.declared.history.What.{What}
use Rattle.thr_values.specs.declared.history.What.TheVariants as what
use Rattle.thr_values.specs.declared.history.Entry.{Entry}
use Rattle.thr_values.specs.declared.reply.Reply.TheVariants as reply
use Rattle.thr_values.specs.declared.scheduling.Mode.{Mode}
use Rattle.thr_syntax.specs.declared.dce.DceCall.{DceCall}
use Rattle.thr_syntax.specs.declared.tree.Script.{Script}
use Rattle.thr_remainder.specs.Acts.{Act, Asks}
use Rattle.thr_remainder.specs.Calls.{shape_of, arguments}
use Rattle.thr_remainder.specs.Remainders.{Setting, Remainder, place_in, act_at}
use Rattle.thr_remainder.specs.Starts.{line_of_next, raised, delivered, begins_destructor}
use Rattle.thr_remainder.specs.Steps.{shared_step}
use Rattle.thr_remainder.specs.Replies.{Values, asked, replied}
use Rattle.thr_remainder.specs.Runs.{is_deliverable, Halt, Delivers, Shares, Undoes, Completes, Ends, Pauses, Run, run_of, most_steps}
use Rattle.thr_parts.specs.declared.row.Seat.{Seat}
use Rattle.thr_parts.specs.declared.wait.Wait.{Wait}
use Rattle.thr_parts.specs.Tables.{get}
use Rattle.thr_parts.specs.Dispatch.{dispatch, running, some_can_run}
use Rattle.thr_parts.specs.Expiry.{earliest}
use Rattle.thr_parts.specs.Threads.{record_at}
use Rattle.thr_parts.specs.Cancels as cancels
use Rattle.thr_parts.specs.Keys.{DestructorCall, NextDestructor, next_destructor}
use Rattle.thr_laws.specs.Lines.{line_but_gift, is_some_line}
use Rattle.thr_laws.specs.Known.{Known, known, known_at_first, known_after}
use Rattle.thr_laws.specs.CallsOnce.{is_of_line}
use Rattle.thr_laws.specs.CancelLaw.{is_carried, is_owed_or_outward, delivers_at_once, each_own_line}
use Rattle.thr_laws.proofs.ReadingLaws.{both, and_both}
use Rattle.thr_model.specs.States.{State, Debt, Return, Delivery, Running, remainder_of, setting_of, debt_of, shared_values}
use Rattle.thr_model.specs.Calls.{Answered, answered}
use Rattle.thr_model.specs.Turns.{Made, thread_line, gift_lines, after_reply, called, shared_made, end_made, begun_at, debt_made, halt_made, run_made, turn_by, turn_of}
use Rattle.thr_model.specs.Events.{run_line, dispatch_made, clock_to, clock_of, made_by}
use Rattle.thr_model.specs.Histories.{Execution, History, opened, then_event}
use Rattle.thr_model.proofs.RowsKept.{history_canonical}
use Rattle.thr_answers.specs.Standing.{StandsIn}
use Rattle.thr_answers.specs.Statuses.{status, status_of, is_waiting}
use Rattle.thr_answers.proofs.HistoriesStand.{remainder_stands, left-stands}
use Rattle.thr_answers.proofs.StatusTurns.{HasRun, has_run, run_wait}
use Rattle.thr_answers.proofs.AnswerTurns.{Agrees, agrees}
use Rattle.thr_answers.proofs.AnswerReading.{IsSilent, gifts_silent, others_silent, silent_append}
use Rattle.thr_cancels.specs.Delivering.{AreCarried, HaltsAtOnce, IsAtOnce}
use Rattle.thr_cancels.proofs.Records.{Core, core}
use Rattle.thr_cancels.proofs.SpecialCalls.{core_alive, matches_some, mode_is}
use Rattle.thr_cancels.proofs.Agreement.{Matches, KnowsOf}
use Rattle.thr_cancels.proofs.InnerLines.{HaltFits, RunFits, run_fits, shared_inner}
use Rattle.thr_cancels.proofs.AtOnce.{turn_at_once}
use Rattle.thr_cancels.proofs.HistoryLines.{history_knows}
use Rattle.thr_cancels.proofs.AnswerSteps.{replied_short, begun_short, replied_answers, begun_answers}
use Rattle.thr_cancels.proofs.AtOnceLines.{must, AllPass, pass_append, silent_pass, owed_pass, free_pass, free_after, inner_no_calls, call_pass, return_pass}

-- ---- turns of others

module _ (s : Script) (st : State) (t : Tid) (u : ℕ) (n : (t.0 == u) ≡ false) where
  called_silent : (g : Setting) (call : DceCall) (r : Remainder) (v : Values) → IsSilent u (called s st t g call r v).lines
  called_silent g call r (Ok ns) =
      let o : Answered = answered s st t call ns in
      let w : What = what.Call (shape_of call).word (arguments call ns) o.reply in
      (ap (λ b. line_but_gift b w) n, silent_append u (gift_lines o.gifts) (map (thread_line t) (after_reply g call o.runs r o.reply).lines) (gifts_silent u o.gifts) (others_silent u t (after_reply g call o.runs r o.reply).lines n))
  called_silent g call r (Err x) = others_silent u t (raised x r).lines n

  shared_silent : (g : Setting) (r : Remainder) (act : Act) → IsSilent u (shared_made s st t g r act).lines
  shared_silent g r (Asks call) = called_silent g call r (asked g (shared_values st) call r)
  shared_silent g r _ = others_silent u t (shared_step g (shared_values st) r).lines n

  end_silent : (g : Setting) (r : Remainder) (o : NextDestructor) (c : Option DestructorCall) → IsSilent u (end_made st t g r o c).lines
  end_silent g r o (Some c) = others_silent u t (begins_destructor g c.0 c.1 c.2 r).lines n
  end_silent g r o None = others_silent u t (what.End r.value ∷ []) n

  halt_silent : (g : Setting) (r : Remainder) (halt : Halt) → IsSilent u (halt_made s st t g r halt).lines
  halt_silent g r Delivers = others_silent u t (delivered r).lines n
  halt_silent g r (Shares h) = shared_silent g r (act_at h)
  halt_silent g r (Undoes block m) = others_silent u t m.lines n
  halt_silent g r (Completes block m) = others_silent u t m.lines n
  halt_silent g r Ends = let o : NextDestructor = next_destructor st.onces t in end_silent g r o o.call
  halt_silent g r Pauses = tt

debt_silent : (st : State) (t : Tid) (u : ℕ) → (t.0 == u) ≡ false → (g : Setting) (r : Remainder) (d : Debt) → IsSilent u (debt_made st t g r d).lines
debt_silent st t u n g r (Return y) = others_silent u t (what.Ret y ∷ (replied g y r).lines) n
debt_silent st t u n g r Delivery = others_silent u t (delivered r).lines n
debt_silent st t u n g r Running = others_silent u t (what.Ret reply.Done ∷ (begun_at g (place_in r.items) (replied g reply.Done r)).lines) n

pub turn_silent : (s : Script) (st : State) (t : Tid) (u : ℕ) → (t.0 == u) ≡ false → (d : Option Debt) → IsSilent u (turn_by s st t d).lines
turn_silent s st t u n (Some d) = debt_silent _ t u n (setting_of s st t) (remainder_of st t) d
turn_silent s st t u n None =
    let run : Run = run_of most_steps (setting_of s st t) (cancels.mode_at st.threads t) (remainder_of st t) in
    silent_append u (map (thread_line t) run.lines) (halt_made s st t (setting_of s st t) run.to run.halt).lines (others_silent u t run.lines n) (halt_silent s st t u n (setting_of s st t) run.to run.halt)

-- ---- what ends the quiet part

carried_owed : (w : What) → is_carried w ≡ true → is_owed_or_outward w ≡ true
carried_owed (what.Deliver n line) e = refl
carried_owed (what.Ret r) e = refl
carried_owed (what.Destroy scope key v) e = refl
carried_owed (what.End v) e = refl
carried_owed w e = e

all_owed : (ws : List What) → AreCarried ws → list_all is_owed_or_outward ws ≡ true
all_owed [] h = refl
all_owed (w ∷ ws) h =
    let p : (is_carried w ≡ true) × (list_all is_carried ws ≡ true) = both (is_carried w) (list_all is_carried ws) h in
    and_both (is_owed_or_outward w) (list_all is_owed_or_outward ws) (carried_owed w p.0) (all_owed ws p.1)

module _ (s : Script) (st : State) (t : Tid) (u : ℕ) (k : Known) where
  end_owed : (g : Setting) (r : Remainder) (o : NextDestructor) (c : Option DestructorCall) → AllPass s u k (end_made st t g r o c).lines
  end_owed g r o (Some c) = owed_pass s u t k (begins_destructor g c.0 c.1 c.2 r).lines refl
  end_owed g r o None = owed_pass s u t k (what.End r.value ∷ []) refl

  halt_owed : (g : Setting) (r : Remainder) (halt : Halt) → HaltsAtOnce halt → AllPass s u k (halt_made s st t g r halt).lines
  halt_owed g r Delivers h = owed_pass s u t k (delivered r).lines refl
  halt_owed g r (Shares x) h = absurd h
  halt_owed g r (Undoes block m) h = owed_pass s u t k m.lines (all_owed m.lines h)
  halt_owed g r (Completes block m) h = absurd h
  halt_owed g r Ends h = let o : NextDestructor = next_destructor st.onces t in end_owed g r o o.call
  halt_owed g r Pauses h = absurd h

module _ (s : Script) (st : State) (t : Tid) (u : ℕ) (k : Known) (f : must k ≡ false) where
  called_free : (g : Setting) (call : DceCall) (r : Remainder) (v : Values) → AllPass s u k (called s st t g call r v).lines
  called_free g call r (Ok ns) = call_pass s u st t g r call ns k f
  called_free g call r (Err x) = free_pass s u k (map (thread_line t) (raised x r).lines) f (inner_no_calls s u t (raised x r).lines refl)

  shared_free : (g : Setting) (r : Remainder) (act : Act) → AllPass s u k (shared_made s st t g r act).lines
  shared_free g r (Asks call) = called_free g call r (asked g (shared_values st) call r)
  shared_free g r _ = free_pass s u k (map (thread_line t) (shared_step g (shared_values st) r).lines) f (inner_no_calls s u t (shared_step g (shared_values st) r).lines (shared_inner g (shared_values st) r))

  halt_free : (mode : Mode) (g : Setting) (r : Remainder) (halt : Halt) → HaltFits mode halt → AllPass s u k (halt_made s st t g r halt).lines
  halt_free mode g r Delivers h = owed_pass s u t k (delivered r).lines refl
  halt_free mode g r (Shares x) h = shared_free g r (act_at x)
  halt_free mode g r (Undoes block m) h = free_pass s u k (map (thread_line t) m.lines) f (inner_no_calls s u t m.lines h)
  halt_free mode g r (Completes block m) h = free_pass s u k (map (thread_line t) m.lines) f (inner_no_calls s u t m.lines h)
  halt_free mode g r Ends h = let o : NextDestructor = next_destructor st.onces t in end_owed s st t u k g r o o.call
  halt_free mode g r Pauses h = refl

-- ---- the thread's own turn

-- A cancel is to be delivered where the mode says so.
must_is : (k : Known) (c : Core) → Matches k c → must k ≡ is_deliverable c.mode false
must_is k c m =
    ap (λ x. (x && k.general) && k.asynchronous) m.outstanding ∙ ap (λ x. (c.mode.pending && x) && k.asynchronous) m.general ∙ ap (λ x. (c.mode.pending && c.mode.general) && x) m.asynchronous
    ∙ by_cases c.mode.pending c.mode.general c.mode.asynchronous
  where
    by_cases : (p g a : Bool) → ((p && g) && a) ≡ (p && g && (false || a))
    by_cases true true a = refl
    by_cases true false a = refl
    by_cases false g a = refl

own_must : (st : State) (t : Tid) (k : Known) → KnowsOf t.0 k st → is_some (get st.rows.seats t.0) ≡ true → must k ≡ is_deliverable (cancels.mode_at st.threads t) false
own_must st t k h there =
    let x : (c : Core) × (core (get st.threads.records t.0) ≡ Some c) = core_alive (core (get st.threads.records t.0)) (h.seated there) in
    must_is k x.0 (matches_some k _ (nat_lt t.0 st.threads.next) x.0 h.recorded x.1)
    ∙ sym (ap (λ (m : Mode). is_deliverable m false) (mode_is x.0 (record_at st.threads t) x.1))

run_pass : (s : Script) (st : State) (t : Tid) (k : Known) (mode : Mode) (g : Setting) (run : Run) (b : Bool) → must k ≡ b → (b ≡ true → IsAtOnce run) → RunFits mode run → AllPass s t.0 k (run_made s st t g run).lines
run_pass s st t k mode g run true e a f =
    let o : IsAtOnce run = a refl in
    pass_append s t.0 k (map (thread_line t) run.lines) (halt_made s st t g run.to run.halt).lines (owed_pass s t.0 t k run.lines (all_owed run.lines o.lines)) (halt_owed s st t t.0 _ g run.to run.halt o.halt)
run_pass s st t k mode g run false e a f =
    let first : List Entry = map (thread_line t) run.lines in
    pass_append s t.0 k first (halt_made s st t g run.to run.halt).lines (free_pass s t.0 k first e (inner_no_calls s t.0 t run.lines f.lines))
    (halt_free s st t t.0 (fold (known_after t.0) k first) (free_after s t.0 k first e (inner_no_calls s t.0 t run.lines f.lines)) mode g run.to run.halt f.halt)

debt_pass : (s : Script) (st : State) (t : Tid) (k : Known) (g : Setting) (r : Remainder) (d : Debt) → g.script ≡ s → StandsIn g.script r → is_some_line (is_of_line g.script (unwrap_or (line_of_next r) 0)) k.last ≡ true
    → AllPass g.script t.0 k (debt_made st t g r d).lines
debt_pass s st t k g r (Return y) e has at = return_pass g.script t.0 t y (replied g y r).lines k (replied_short g r y) (replied_answers g r k.last has at y)
debt_pass s st t k g r Delivery e has at = owed_pass g.script t.0 t k (delivered r).lines refl
debt_pass s st t k g r Running e has at =
    return_pass g.script t.0 t reply.Done (begun_at g (place_in r.items) (replied g reply.Done r)).lines k (begun_short g r) (begun_answers g r k.last has at)

owing_waits : (o : Option Debt) (x : Option Seat) (z : Option Wait) (d : Debt) → o ≡ Some d → z ≡ None → is_waiting (status o x z) ≡ true
owing_waits None x z d e w = absurd (cc)
owing_waits (Some y) x None d e w = refl
owing_waits (Some y) x (Some u) d e w = absurd (cc)

module _ {s : Script} {n : ℕ} {x : Execution} (h : History s n x) where
  own_turn : (t : Tid) (d : Option Debt) → get x.state.debts t.0 ≡ d → HasRun x.state t.0 → AllPass s t.0 (known t.0 x.entries) (turn_by s x.state t d).lines
  own_turn t (Some d) e run =
      let a : Agrees s x.state x.entries = agrees h in
      let w : is_waiting (status_of x.state t.0) ≡ true = owing_waits (get x.state.debts t.0) (get x.state.rows.seats t.0) (get x.state.conds.waits t.0) d e (run_wait x.state t.0 run a.order) in
      debt_pass s _ t (known t.0 x.entries) (setting_of s x.state t) (remainder_of x.state t) d refl (remainder_stands s x.state t (left-stands h)) (a.stands t.0 w)
  own_turn t None e run =
      let g : Setting = setting_of s x.state t in
      let mode : Mode = cancels.mode_at x.state.threads t in
      run_pass s x.state t (known t.0 x.entries) mode g (run_of most_steps g mode (remainder_of x.state t)) (is_deliverable mode false) (own_must x.state t (known t.0 x.entries) (history_knows h t.0) (ap is_some run.at)) (turn_at_once h t) (run_fits most_steps g mode (remainder_of x.state t))

  turn_pass : (t : Tid) (u : ℕ) (b : Bool) → eqb t.0 u ≡ b → HasRun x.state t.0 → AllPass s u (known u x.entries) (turn_of s x.state t).lines
  unfolding turn_of
  turn_pass t u true e run = subst (λ q. AllPass s q (known q x.entries) (turn_by s x.state t (debt_of x.state t)).lines) (eqb-true t.0 u e) (own_turn t (debt_of x.state t) refl run)
  turn_pass t u false e run = silent_pass s u (known u x.entries) (turn_by s x.state t (debt_of x.state t)).lines (turn_silent s x.state t u e (debt_of x.state t))

  -- ---- events

  turn_at_pass : (u p : ℕ) (o : Option Tid) (made : Made) → running x.state.rows p ≡ o → option_map (turn_of s x.state) o ≡ Some made → AllPass s u (known u x.entries) made.lines
  turn_at_pass u p None made is e = absurd (cc)
  turn_at_pass u p (Some t) made is e =
      subst (λ (m : Made). AllPass s u (known u x.entries) m.lines) (ap (λ o. unwrap_or o made) e) (turn_pass t u (eqb t.0 u) refl (has_run x.state p t (history_canonical h) is))

  dispatch_pass : (u p : ℕ) (o : Option Tid) (made : Made) → dispatch_made x.state p (dispatch x.state.rows p) o ≡ Some made → AllPass s u (known u x.entries) made.lines
  dispatch_pass u p None made e = absurd (cc)
  dispatch_pass u p (Some t) made e = subst (λ (m : Made). AllPass s u (known u x.entries) m.lines) (ap (λ o. unwrap_or o made) e) (silent_pass s u (known u x.entries) (run_line p t ∷ []) (refl, tt))

  dispatch_if_pass : (u p : ℕ) (b : Bool) (made : Made) → (if b then dispatch_made x.state p (dispatch x.state.rows p) (dispatch x.state.rows p).taken else None) ≡ Some made → AllPass s u (known u x.entries) made.lines
  dispatch_if_pass u p true made e = dispatch_pass u p (dispatch x.state.rows p).taken made e
  dispatch_if_pass u p false made e = absurd (cc)

  clock_at_pass : (u : ℕ) (o : Option ℤ) (made : Made) → option_map (clock_to x.state) o ≡ Some made → AllPass s u (known u x.entries) made.lines
  clock_at_pass u None made e = absurd (cc)
  clock_at_pass u (Some now) made e =
      subst (λ (m : Made). AllPass s u (known u x.entries) m.lines) (ap (λ o. unwrap_or o made) e) (silent_pass s u (known u x.entries) (clock_to x.state now).lines (refl, gifts_silent u _))

  clock_pass : (u : ℕ) (b : Bool) (made : Made) → clock_of b x.state ≡ Some made → AllPass s u (known u x.entries) made.lines
  clock_pass u true made e = absurd (cc)
  clock_pass u false made e = clock_at_pass u (earliest x.state.conds) made e

  made_pass : (u : ℕ) (e : Event) (made : Made) → made_by s n x.state e ≡ Some made → AllPass s u (known u x.entries) made.lines
  unfolding made_by
  made_pass u (event.Dispatch p) made m = dispatch_if_pass u p (nat_lt p n) made m
  made_pass u (event.Turn p) made m = turn_at_pass u p (running x.state.rows p) made refl m
  made_pass u event.Clock made m = clock_pass u (some_can_run x.state.rows) made m

-- ---- histories

-- In every history each line passes.
pub history_at_once : {s : Script} {n : ℕ} {x : Execution} → History s n x → (u : ℕ) → each_own_line (delivers_at_once s) u x.entries ≡ true
history_at_once opened u = refl
history_at_once {s} (then_event {x} h none_stops e made m) u = pass_append s u known_at_first x.entries made.lines (history_at_once h u) (made_pass h u e made m)
