-- Where a wait on a condition ends by the lines, the thread owns the mutex, if waiters regain their mutexes in each state.
use Rattle.std.proofs.Common.{◌≡◌, ℕ, ◌==◌, ℤ, Bool, true, false, not, ◌&&◌, ◌||◌, eqb, List, [], ◌∷◌, ◌++◌, map, Option, Some, None, Ok, Err, refl, sym, ◌∙◌, ap, subst, nat_lt}
use Rattle.std.proofs.lemmas.Bool.{eqb-true, false≢true}
use Rattle.std.specs.Prelude.{if◌then◌else◌, is_some, unwrap_or}
use Rattle.std.specs.List.{list_all, fold}
use Rattle.std.specs.Option.{option_map, option_or}
use Rattle.thr_values.specs.declared.number.Tid.{Tid}
use Rattle.thr_values.specs.declared.call.Arg.{Arg}
use Rattle.thr_values.specs.declared.call.Arg.TheVariants as arg
use Rattle.thr_values.specs.declared.call.CallWord.{CallWord}
use Rattle.thr_values.specs.declared.call.CallWord.TheVariants as word
use Rattle.thr_values.specs.declared.event.Event.{Event}
use Rattle.thr_values.specs.declared.event.Event.TheVariants as event
use Rattle.thr_values.specs.declared.exception.Exc.{Exc}
use Rattle.thr_values.specs.declared.history.What.{What}
use Rattle.thr_values.specs.declared.history.What.TheVariants as what
use Rattle.thr_values.specs.declared.history.Entry.{Entry}
use Rattle.thr_values.specs.declared.reply.Reply.{Reply}
use Rattle.thr_values.specs.declared.reply.Reply.TheVariants as reply
use Rattle.thr_values.specs.declared.scheduling.Mode.{Mode}
use Rattle.thr_syntax.specs.declared.dce.DceCall.{DceCall}
use Rattle.thr_syntax.specs.declared.dce.DceCall.TheVariants as dce
use Rattle.thr_syntax.specs.declared.tree.Script.{Script}
use Rattle.thr_remainder.specs.Acts.{Act, Asks}
use Rattle.thr_remainder.specs.Calls.{shape_of, arguments}
use Rattle.thr_remainder.specs.Declarations.{interface_of}
use Rattle.thr_remainder.specs.Remainders.{Setting, Remainder, Move, Spot, Place, At, place_in, act_at}
use Rattle.thr_remainder.specs.Starts.{raised, delivered, begins_destructor}
use Rattle.thr_remainder.specs.Steps.{shared_step}
use Rattle.thr_remainder.specs.Replies.{Values, asked, raised_if, replied_by, replied_at, replied}
use Rattle.thr_remainder.specs.Replies as replies
use Rattle.thr_remainder.specs.Runs.{Halt, Delivers, Shares, Undoes, Completes, Ends, Pauses, Run, run_of, most_steps}
use Rattle.thr_parts.specs.Tables.{get}
use Rattle.thr_parts.specs.Rows.{row_at}
use Rattle.thr_parts.specs.Dispatch.{dispatch, running, some_can_run}
use Rattle.thr_parts.specs.Expiry.{earliest}
use Rattle.thr_parts.specs.Cancels as cancels
use Rattle.thr_parts.specs.Keys.{DestructorCall, NextDestructor, next_destructor}
use Rattle.thr_parts.specs.Mutexes as parts
use Rattle.thr_laws.specs.Lines.{implies, fits, own_line, line_but_gift, is_return, is_delivery, is_waiting_call, is_some_line}
use Rattle.thr_laws.specs.Known.{Known, known, known_at_first, known_after}
use Rattle.thr_laws.specs.Owners.{Lock, Held, at_first, held_after, is_owner, owner, use_done, use_valued, used_if, Locks}
use Rattle.thr_laws.specs.CallsOnce.{waits}
use Rattle.thr_laws.specs.CancelLaw.{gives_up, is_wait_with, has_its_mutex, Both, both_after, waits_end_with_the_mutex, CancelLaw}
use Rattle.thr_laws.proofs.ReadingLaws.{both, and_both, AllLines, fits_keeping, fits_always, implied_by_false}
use Rattle.thr_model.specs.States.{State, Debt, Return, Delivery, Running, remainder_of, setting_of, debt_of, shared_values}
use Rattle.thr_model.specs.Calls.{Answered, answered}
use Rattle.thr_model.specs.Turns.{Made, thread_line, gift_lines, runs_routine, runs_if, after_reply, called, shared_made, end_made, begun_by, begun_at, debt_made, halt_made, run_made, turn_by, turn_of}
use Rattle.thr_model.specs.Events.{run_line, dispatch_made, clock_to, clock_of, made_by}
use Rattle.thr_model.specs.Histories.{Execution, History, opened, then_event, Legal}
use Rattle.thr_model.proofs.RowsKept.{history_canonical}
use Rattle.thr_model.proofs.Legality.{of-legal}
use Rattle.thr_answers.specs.Statuses.{is_waiting}
use Rattle.thr_answers.proofs.StatusTurns.{HasRun, has_run, run_wait, calls_calmly}
use Rattle.thr_answers.proofs.AnswerTurns.{Agrees, agrees}
use Rattle.thr_answers.proofs.AnswerReading.{IsSilent, IsCalm, quiet_calm, gifts_silent}
use Rattle.thr_answers.proofs.QuietLines.{AreQuiet, HaltFits, RunFits, run_fits, shared_is_quiet}
use Rattle.thr_owners.specs.Told.{as_told}
use Rattle.thr_owners.proofs.Owning.{owner-told}
use Rattle.thr_cancels.proofs.AtOnceTurns.{turn_silent, history_at_once}
use Rattle.thr_values.specs.declared.event.Stop.{Stop}
use Rattle.thr_cancels.proofs.HistoryLines.{history_told, delivers, has_effects, no_points, woken_first}

-- ---- what a waiter has

-- The thread has a wait, or stands in a row, or owns the lock.
pub data HasBack (u : ℕ) (lock : Lock) (st : State) : Type 0 where
  has_wait : is_some (get st.conds.waits u) ≡ true → HasBack u lock st
  stands : is_some (row_at (get st.rows.seats u)) ≡ true → HasBack u lock st
  owns : is_owner u (as_told (parts.owner st.locks lock)) ≡ true → HasBack u lock st

-- ---- lines that end no wait

-- The line is no return and no delivery.
abbrev pub is_step : What → Bool
is_step w = not (is_return w || is_delivery w)

abbrev AreSteps : List What → Type 0
AreSteps ws = list_all is_step ws ≡ true

raised_steps : (o : Option Exc) (r : Remainder) → AreSteps (raised_if o r).lines
raised_steps None r = refl
raised_steps (Some x) r = refl

by_steps : (g : Setting) (act : Act) (h : Spot) (r : Remainder) (y : Reply) → AreSteps (replied_by g act h r y).lines
by_steps g (Asks call) h r y = raised_steps (replies.raised_by (interface_of g.script) call y) _
by_steps g _ h r y = refl

at_steps : (g : Setting) (p : Place) (r : Remainder) (y : Reply) → AreSteps (replied_at g p r y).lines
at_steps g (At h) r y = by_steps g (act_at h) h r y
at_steps g _ r y = refl

replied_steps : (g : Setting) (r : Remainder) (y : Reply) → AreSteps (replied g y r).lines
unfolding replied
replied_steps g r y = at_steps g (place_in r.items) r y

append_steps : (ws vs : List What) → AreSteps ws → AreSteps vs → AreSteps (ws ++ vs)
append_steps [] vs h i = i
append_steps (w ∷ ws) vs h i =
    let p : (is_step w ≡ true) × (list_all is_step ws ≡ true) = both (is_step w) (list_all is_step ws) h in and_both (is_step w) (list_all is_step (ws ++ vs)) p.0 (append_steps ws vs p.1 i)

routine_steps : (g : Setting) (call : DceCall) (m : Move) → AreSteps m.lines → AreSteps (runs_routine g call m).lines
routine_steps g (dce.Once block routine) m h = append_steps m.lines _ h refl
routine_steps g _ m h = h

runs_steps : (b : Bool) (g : Setting) (call : DceCall) (m : Move) → AreSteps m.lines → AreSteps (runs_if b g call m).lines
runs_steps true g call m h = routine_steps g call m h
runs_steps false g call m h = h

reply_steps : (g : Setting) (call : DceCall) (runs : Bool) (r : Remainder) (y : Reply) → AreSteps (after_reply g call runs r y).lines
reply_steps g call runs r reply.Blocks = refl
reply_steps g call runs r y = runs_steps runs g call (replied g y r) (replied_steps g r y)

begun_by_steps : (g : Setting) (act : Act) (m : Move) → AreSteps m.lines → AreSteps (begun_by g act m).lines
begun_by_steps g (Asks call) m h = routine_steps g call m h
begun_by_steps g _ m h = h

begun_steps : (g : Setting) (p : Place) (m : Move) → AreSteps m.lines → AreSteps (begun_at g p m).lines
begun_steps g (At h) m i = begun_by_steps g (act_at h) m i
begun_steps g _ m i = i

-- ---- waits are calls that wait

done_gives : (lock : Lock) (c : CallWord) (args : List Arg) → gives_up lock (use_done c args) ≡ false
done_gives lock word.MutexLock (arg.Name m ∷ args) = refl
done_gives lock word.MutexLock _ = refl
done_gives lock word.MutexUnlock (arg.Name m ∷ args) = refl
done_gives lock word.MutexUnlock _ = refl
done_gives lock _ args = refl

valued_gives : (lock : Lock) (b : Bool) (c : CallWord) (args : List Arg) → gives_up lock (use_valued b c args) ≡ false
valued_gives lock b word.MutexTrylock (arg.Name m ∷ args) = either b
  where
    either : (b : Bool) → gives_up lock (used_if b (Locks (Some m))) ≡ false
    either true = refl
    either false = refl
valued_gives lock b word.MutexTrylock _ = refl
valued_gives lock b _ args = refl

no_wait : (lock : Lock) (w : What) → is_waiting_call w ≡ false → is_wait_with lock w ≡ false
no_wait lock (what.Call c args reply.Done) e = done_gives lock c args
no_wait lock (what.Call c args (reply.Value n)) e = valued_gives lock _ c args
no_wait lock (what.Call c args reply.Blocks) e = absurd (false≢true (sym e))
no_wait lock (what.Call c args y) e = refl
no_wait lock _ e = refl

pub no_last : (lock : Lock) (o : Option What) → is_some_line is_waiting_call o ≡ false → is_some_line (is_wait_with lock) o ≡ false
no_last lock None e = refl
no_last lock (Some w) e = no_wait lock w e

-- ---- lines that pass

module _ (u : ℕ) (lock : Lock) where
  abbrev test : Both → Entry → Bool
  test b e = has_its_mutex u lock b.thread b.lock (own_line u e)

  abbrev Pass : Both → List Entry → Type 0
  Pass b es = fits (both_after u lock) test b es ≡ true

  pass_append : (b : Both) (xs ys : List Entry) → Pass b xs → Pass (fold (both_after u lock) b xs) ys → Pass b (xs ++ ys)
  pass_append b [] ys h i = i
  pass_append b (x ∷ xs) ys h i =
      let next : Both = both_after u lock b x in
      let p : (test b x ≡ true) × (fits (both_after u lock) test next xs ≡ true) = both (test b x) (fits (both_after u lock) test next xs) h in
      and_both (test b x) (fits (both_after u lock) test next (xs ++ ys)) p.0 (pass_append next xs ys p.1 i)

  both_known : (b : Both) (es : List Entry) → fold (both_after u lock) b es ≡ record { thread = fold (known_after u) b.thread es; lock = fold (held_after lock) b.lock es }
  both_known b [] = refl
  both_known b (e ∷ es) = both_known (both_after u lock b e) es

  none_passes : (b : Both) (own : Option What) → own ≡ None → has_its_mutex u lock b.thread b.lock own ≡ true
  none_passes b own e = ap (has_its_mutex u lock b.thread b.lock) e

  silent_pass : (b : Both) (es : List Entry) → IsSilent u es → Pass b es
  silent_pass b es h = fits_always (both_after u lock) test (λ e. own_line u e ≡ None) (λ j e i. none_passes j (own_line u e) i) b es h

  step_passes : (k : Known) (h : Held) (b : Bool) (w : What) → is_step w ≡ true → has_its_mutex u lock k h (line_but_gift b w) ≡ true
  step_passes k h false w e = refl
  step_passes k h true (what.Gift m) e = refl
  step_passes k h true w e = no_end (is_return w || is_delivery w) (is_some_line (is_wait_with lock) k.last) (is_owner u h.owner) e
    where
      no_end : (a b c : Bool) → not a ≡ true → implies (a && b) c ≡ true
      no_end false b c e = refl
      no_end true b c e = absurd (false≢true e)

  steps_pass : (t : Tid) (b : Both) (ws : List What) → AreSteps ws → Pass b (map (thread_line t) ws)
  steps_pass t b [] h = refl
  steps_pass t b (w ∷ ws) h =
      let p : (is_step w ≡ true) × (list_all is_step ws ≡ true) = both (is_step w) (list_all is_step ws) h in
      let next : Both = both_after u lock b (thread_line t w) in
      and_both (test b (thread_line t w)) (fits (both_after u lock) test next (map (thread_line t) ws)) (step_passes b.thread b.lock (t.0 == u) w p.0) (steps_pass t next ws p.1)

  calm_passes : (k : Known) (h : Held) (own : Option What) → waits k ≡ false → has_its_mutex u lock k h own ≡ true
  calm_passes k h None e = refl
  calm_passes k h (Some w) e = ap (λ x. implies ((is_return w || is_delivery w) && x) (is_owner u h.owner)) (no_last lock k.last e) ∙ implied_by_false (is_return w || is_delivery w) (is_owner u h.owner)

  still_calm : (own last : Option What) → is_some_line is_waiting_call own ≡ false → is_some_line is_waiting_call last ≡ false → is_some_line is_waiting_call (option_or own last) ≡ false
  still_calm None last h k = k
  still_calm (Some w) last h k = h

  calm_pass : (b : Both) (es : List Entry) → waits b.thread ≡ false → AllLines (IsCalm u) es → Pass b es
  calm_pass b es f h =
      fits_keeping (both_after u lock) test (λ j. waits j.thread ≡ false) (IsCalm u) (λ j e i c. still_calm (own_line u e) j.thread.last c.waiting i) (λ j e i c. calm_passes j.thread j.lock (own_line u e) i) b es f h

  calm_after : (b : Both) (es : List Entry) → waits b.thread ≡ false → AllLines (IsCalm u) es → waits (fold (both_after u lock) b es).thread ≡ false
  calm_after b [] f h = f
  calm_after b (e ∷ es) f h = calm_after (both_after u lock b e) es (still_calm (own_line u e) b.thread.last h.0.waiting f) h.1

-- ---- turns of a thread that doesn't wait

module _ (s : Script) (st : State) (t : Tid) (lock : Lock) (b : Both) (f : waits b.thread ≡ false) where
  abbrev Passes : Made → Type 0
  Passes made = Pass t.0 lock b made.lines

  quiet_pass : (ws : List What) → AreQuiet ws → Pass t.0 lock b (map (thread_line t) ws)
  quiet_pass ws h = calm_pass t.0 lock b (map (thread_line t) ws) f (quiet_calm t.0 t ws h)

  one_pass : (w : What) → is_waiting_call w ≡ false → is_return w ≡ false → Pass t.0 lock b (map (thread_line t) (w ∷ []))
  one_pass w e i = quiet_pass (w ∷ []) (record { waiting = e; returning = i }, tt)

  called_pass : (g : Setting) (call : DceCall) (r : Remainder) (v : Values) → Passes (called s st t g call r v)
  called_pass g call r (Ok ns) =
      let o : Answered = answered s st t call ns in
      let e : Entry = thread_line t (what.Call (shape_of call).word (arguments call ns) o.reply) in
      let ws : List What = (after_reply g call o.runs r o.reply).lines in
      let next : Both = both_after t.0 lock b e in
      and_both (test t.0 lock b e) (fits (both_after t.0 lock) (test t.0 lock) next (gift_lines o.gifts ++ map (thread_line t) ws)) (calm_passes t.0 lock b.thread b.lock (own_line t.0 e) f)
      (pass_append t.0 lock next (gift_lines o.gifts) (map (thread_line t) ws) (silent_pass t.0 lock next (gift_lines o.gifts) (gifts_silent t.0 o.gifts))
      (steps_pass t.0 lock t (fold (both_after t.0 lock) next (gift_lines o.gifts)) ws (reply_steps g call o.runs r o.reply)))
  called_pass g call r (Err x) = quiet_pass (raised x r).lines (record { waiting = refl; returning = refl }, tt)

  shared_pass : (g : Setting) (r : Remainder) (act : Act) → Passes (shared_made s st t g r act)
  shared_pass g r (Asks call) = called_pass g call r (asked g (shared_values st) call r)
  shared_pass g r _ = quiet_pass (shared_step g (shared_values st) r).lines (shared_is_quiet g (shared_values st) r)

  end_pass : (g : Setting) (r : Remainder) (o : NextDestructor) (c : Option DestructorCall) → Passes (end_made st t g r o c)
  end_pass g r o (Some c) = quiet_pass (begins_destructor g c.0 c.1 c.2 r).lines (record { waiting = refl; returning = refl }, tt)
  end_pass g r o None = one_pass (what.End r.value) refl refl

  halt_pass : (g : Setting) (r : Remainder) (halt : Halt) → HaltFits r halt → Passes (halt_made s st t g r halt)
  halt_pass g r Delivers h = quiet_pass (delivered r).lines (record { waiting = refl; returning = refl }, tt)
  halt_pass g r (Shares x) h = shared_pass g r (act_at x)
  halt_pass g r (Undoes block m) h = quiet_pass m.lines h
  halt_pass g r (Completes block m) h = quiet_pass m.lines h
  halt_pass g r Ends h = let o : NextDestructor = next_destructor st.onces t in end_pass g r o o.call
  halt_pass g r Pauses h = refl

run_pass : (s : Script) (st : State) (t : Tid) (lock : Lock) (b : Both) (g : Setting) (run : Run) → waits b.thread ≡ false → RunFits run → Pass t.0 lock b (run_made s st t g run).lines
run_pass s st t lock b g run f h =
    let first : List Entry = map (thread_line t) run.lines in
    pass_append t.0 lock b first (halt_made s st t g run.to run.halt).lines (quiet_pass s st t lock b f run.lines h.lines)
    (halt_pass s st t lock (fold (both_after t.0 lock) b first) (calm_after t.0 lock b first f (quiet_calm t.0 t run.lines h.lines)) g run.to run.halt h.halt)

-- ---- turns of a thread that owes something

end_passes : (u : ℕ) (lock : Lock) (k : Known) (h : Held) (own : Option What) → (is_some_line (is_wait_with lock) k.last ≡ true → is_owner u h.owner ≡ true) → has_its_mutex u lock k h own ≡ true
end_passes u lock k h None f = refl
end_passes u lock k h (Some w) f = both_hold (is_return w || is_delivery w) (is_some_line (is_wait_with lock) k.last) (is_owner u h.owner) f
  where
    both_hold : (a b c : Bool) → (b ≡ true → c ≡ true) → implies (a && b) c ≡ true
    both_hold false b c f = refl
    both_hold true false c f = refl
    both_hold true true c f = f refl

answer_pass : (t : Tid) (lock : Lock) (b : Both) (w : What) (ws : List What) → (is_some_line (is_wait_with lock) b.thread.last ≡ true → is_owner t.0 b.lock.owner ≡ true) → AreSteps ws → Pass t.0 lock b (map (thread_line t) (w ∷ ws))
answer_pass t lock b w ws f h =
    let e : Entry = thread_line t w in
    let next : Both = both_after t.0 lock b e in
    and_both (test t.0 lock b e) (fits (both_after t.0 lock) (test t.0 lock) next (map (thread_line t) ws)) (end_passes t.0 lock b.thread b.lock (own_line t.0 e) f) (steps_pass t.0 lock t next ws h)

debt_pass : (st : State) (t : Tid) (lock : Lock) (b : Both) (g : Setting) (r : Remainder) (d : Debt) → (is_some_line (is_wait_with lock) b.thread.last ≡ true → is_owner t.0 b.lock.owner ≡ true) → Pass t.0 lock b (debt_made st t g r d).lines
debt_pass st t lock b g r (Return y) f = answer_pass t lock b (what.Ret y) (replied g y r).lines f (replied_steps g r y)
debt_pass st t lock b g r Delivery f = answer_pass t lock b _ [] f refl
debt_pass st t lock b g r Running f =
    answer_pass t lock b (what.Ret reply.Done) (begun_at g (place_in r.items) (replied g reply.Done r)).lines f (begun_steps g (place_in r.items) (replied g reply.Done r) (replied_steps g r reply.Done))

-- ---- histories

-- What is known of a thread and of a lock after these lines.
abbrev pub told : ℕ → Lock → List Entry → Both
told u lock entries = record { thread = known u entries; lock = fold (held_after lock) (at_first lock) entries }

module _ {s : Script} {n : ℕ} {x : Execution} (h : History s n x) (lock : Lock) where
  abbrev MadePasses : ℕ → Made → Type 0
  MadePasses u made = Pass u lock (told u lock x.entries) made.lines

  back_owner : (t : ℕ) → HasRun x.state t → get x.state.conds.waits t ≡ None → HasBack t lock x.state → is_owner t (owner x.entries lock) ≡ true
  back_owner t run w (has_wait e) = absurd (false≢true (sym (ap is_some w) ∙ e))
  back_owner t run w (stands e) = absurd (false≢true (sym (ap is_some (ap row_at run.at ∙ run.runs)) ∙ e))
  back_owner t run w (owns e) = ap (is_owner t) (owner-told h lock) ∙ e

  module _ (back : (u : ℕ) → is_some_line (is_wait_with lock) (known u x.entries).last ≡ true → HasBack u lock x.state) where
    own_turn : (t : Tid) (d : Option Debt) → get x.state.debts t.0 ≡ d → HasRun x.state t.0 → MadePasses t.0 (turn_by s x.state t d)
    own_turn t (Some d) e run = debt_pass _ t lock (told t.0 lock x.entries) (setting_of s x.state t) (remainder_of x.state t) d (λ i. back_owner t.0 run (run_wait x.state t.0 run (agrees h).order) (back t.0 i))
    own_turn t None e run =
        let a : Agrees s x.state x.entries = agrees h in
        let g : Setting = setting_of s x.state t in
        let mode : Mode = cancels.mode_at x.state.threads t in
        run_pass s x.state t lock (told t.0 lock x.entries) g (run_of most_steps g mode (remainder_of x.state t)) (a.waiting t.0 ∙ ap is_waiting (calls_calmly x.state t.0 run a.order (history_canonical h) e).caller.calm) (run_fits most_steps g mode (remainder_of x.state t))

    turn_pass : (t : Tid) (u : ℕ) (b : Bool) → eqb t.0 u ≡ b → HasRun x.state t.0 → MadePasses u (turn_of s x.state t)
    unfolding turn_of
    turn_pass t u true e run = subst (λ q. MadePasses q (turn_by s x.state t (debt_of x.state t))) (eqb-true t.0 u e) (own_turn t (debt_of x.state t) refl run)
    turn_pass t u false e run = silent_pass u lock (told u lock x.entries) (turn_by s x.state t (debt_of x.state t)).lines (turn_silent s x.state t u e (debt_of x.state t))

    turn_at_pass : (u p : ℕ) (o : Option Tid) (made : Made) → running x.state.rows p ≡ o → option_map (turn_of s x.state) o ≡ Some made → MadePasses u made
    turn_at_pass u p None made is e = absurd (cc)
    turn_at_pass u p (Some t) made is e = subst (MadePasses u) (ap (λ o. unwrap_or o made) e) (turn_pass t u (eqb t.0 u) refl (has_run x.state p t (history_canonical h) is))

    dispatch_pass : (u p : ℕ) (o : Option Tid) (made : Made) → dispatch_made x.state p (dispatch x.state.rows p) o ≡ Some made → MadePasses u made
    dispatch_pass u p None made e = absurd (cc)
    dispatch_pass u p (Some t) made e = subst (MadePasses u) (ap (λ o. unwrap_or o made) e) (silent_pass u lock (told u lock x.entries) (run_line p t ∷ []) (refl, tt))

    dispatch_if_pass : (u p : ℕ) (b : Bool) (made : Made) → (if b then dispatch_made x.state p (dispatch x.state.rows p) (dispatch x.state.rows p).taken else None) ≡ Some made → MadePasses u made
    dispatch_if_pass u p true made e = dispatch_pass u p (dispatch x.state.rows p).taken made e
    dispatch_if_pass u p false made e = absurd (cc)

    clock_at_pass : (u : ℕ) (o : Option ℤ) (made : Made) → option_map (clock_to x.state) o ≡ Some made → MadePasses u made
    clock_at_pass u None made e = absurd (cc)
    clock_at_pass u (Some now) made e = subst (MadePasses u) (ap (λ o. unwrap_or o made) e) (silent_pass u lock (told u lock x.entries) (clock_to x.state now).lines (refl, gifts_silent u _))

    clock_pass : (u : ℕ) (b : Bool) (made : Made) → clock_of b x.state ≡ Some made → MadePasses u made
    clock_pass u true made e = absurd (cc)
    clock_pass u false made e = clock_at_pass u (earliest x.state.conds) made e

    made_pass : (u : ℕ) (e : Event) (made : Made) → made_by s n x.state e ≡ Some made → MadePasses u made
    unfolding made_by
    made_pass u (event.Dispatch p) made m = dispatch_if_pass u p (nat_lt p n) made m
    made_pass u (event.Turn p) made m = turn_at_pass u p (running x.state.rows p) made refl m
    made_pass u event.Clock made m = clock_pass u (some_can_run x.state.rows) made m

-- In every history of the script those whose last line is a wait with the lock have a wait, stand in a row, or own the lock.
abbrev pub WaitersRegain : Script → ℕ → Lock → Type 0
WaitersRegain s n lock = (x : Execution) → History s n x → (u : ℕ) → is_some_line (is_wait_with lock) (known u x.entries).last ≡ true → HasBack u lock x.state

-- So the thread has its mutex again where a wait with it ends.
pub history_mutexes : {s : Script} {n : ℕ} {x : Execution} (lock : Lock) → WaitersRegain s n lock → History s n x → (u : ℕ) → waits_end_with_the_mutex u lock x.entries ≡ true
history_mutexes lock back opened u = refl
history_mutexes {s} lock back (then_event {x} h none_stops e made m) u =
    let first : Both = record { thread = known_at_first; lock = at_first lock } in
    pass_append u lock first x.entries made.lines (history_mutexes lock back h u)
    (subst (λ (b : Both). Pass u lock b made.lines) (sym (both_known u lock first x.entries)) (made_pass h lock (λ q i. back x h q i) u e made m))

-- With the other parts, cancels are delivered when they must and may be in every history, if waiters regain their mutexes.
history_cancels : {s : Script} {n : ℕ} {x : Execution} → ((lock : Lock) → WaitersRegain s n lock) → History s n x → CancelLaw s x.entries
history_cancels {s} {n} {x} back h = record {
  outstanding = λ u. delivers u x.entries _ (history_told h u);
  effects = λ u. has_effects u x.entries _ (history_told h u);
  points = λ u. no_points u x.entries _ (history_told h u);
  at_once = λ u. history_at_once h u;
  woken = λ u. woken_first u x.entries _ (history_told h u);
  mutexes = λ u lock. history_mutexes lock (back lock) h u;
}

-- So they are in every legal history.
pub cancel_law : {s : Script} {n : ℕ} {entries : List Entry} {stop : Stop} → ((lock : Lock) → WaitersRegain s n lock) → Legal s n entries stop → CancelLaw s entries
cancel_law {s} back legal = of-legal (CancelLaw s) (λ x h. history_cancels back h) legal
