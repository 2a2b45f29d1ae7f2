-- Each event goes on with the courses of the threads.
use Rattle.std.proofs.Common.{◌≡◌, ℕ, ◌+◌, ◌<◌, eqb, cond, ℤ, Bool, true, false, List, [], ◌∷◌, ◌++◌, map, Option, Some, None, Ok, Err, refl, sym, ap, ◌∙◌, arith, subst, append_assoc, append-nil, if◌then◌else◌}
use Rattle.std.proofs.lemmas.Bool.Decides.{nat_tests}
use Rattle.std.specs.Prelude.{nat_lt, ◌&&◌, is_none}
use Rattle.std.specs.Option.{option_map, unwrap_or}
use Rattle.thr_values.specs.declared.number.NameId.{NameId}
use Rattle.thr_values.specs.declared.number.Tid.{Tid}
use Rattle.thr_values.specs.declared.event.Event.{Event}
use Rattle.thr_values.specs.declared.event.Event.TheVariants as event
use Rattle.thr_values.specs.declared.reply.Effect.TheVariants as effect
use Rattle.thr_values.specs.declared.reply.Reply.{Reply}
use Rattle.thr_values.specs.declared.reply.Reply.TheVariants as reply
use Rattle.thr_values.specs.declared.history.What.{What}
use Rattle.thr_values.specs.declared.history.What.TheVariants as what
use Rattle.thr_values.specs.declared.history.Entry.{Entry}
use Rattle.thr_syntax.specs.declared.dce.DceCall.{DceCall}
use Rattle.thr_syntax.specs.declared.dce.DceCall.TheVariants as dce
use Rattle.thr_syntax.specs.declared.tree.Interface.{Interface}
use Rattle.thr_syntax.specs.declared.tree.Interface.TheVariants as interface
use Rattle.thr_syntax.specs.declared.tree.Script.{Script}
use Rattle.thr_remainder.specs.Places.{Ways}
use Rattle.thr_remainder.specs.Acts.{Act, Asks}
use Rattle.thr_remainder.specs.Declarations.{interface_of}
use Rattle.thr_remainder.specs.Remainders.{Item, Setting, Remainder, Move, Spot, Place, At, place_in, act_at, passed}
use Rattle.thr_remainder.specs.Calls.{shape_of, arguments, stores}
use Rattle.thr_remainder.specs.Starts.{still, fresh, raised, delivered, begins_once, begins_destructor}
use Rattle.thr_remainder.specs.Steps.{shared_step, written}
use Rattle.thr_remainder.specs.Replies.{Values, asked, is_timed_wait, raised_in, raised_by, raised_if, replied_by, replied_at, replied, stored_in}
use Rattle.thr_remainder.specs.Runs.{Halt, Delivers, Shares, Undoes, Completes, Ends, Pauses, Run, run_of, most_steps}
use Rattle.thr_values.specs.Replies.{errno_of}
use Rattle.thr_values.specs.declared.exception.Exc.{Exc}
use Rattle.thr_laws.specs.Lines.{lines_of_thread}
use Rattle.thr_parts.specs.Tables.{Table, none, get, put_if, cut, keep_if}
use Rattle.thr_parts.specs.Replies.{is_value}
use Rattle.thr_parts.specs.declared.row.RowId.TheVariants as row
use Rattle.thr_parts.specs.Rows.{Rows, thread}
use Rattle.thr_parts.specs.Moves.{free_row}
use Rattle.thr_parts.specs.Dispatch.{Dispatched, dispatch, running, some_can_run}
use Rattle.thr_parts.specs.Threads as threads
use Rattle.thr_parts.specs.Threads.{ThreadsReply, natural}
use Rattle.thr_parts.specs.Cancels.{mode_at, waits_at_point}
use Rattle.thr_parts.specs.Cancels as cancels
use Rattle.thr_parts.specs.Locking.{unlock}
use Rattle.thr_parts.specs.Conditions.{wait, timedwait}
use Rattle.thr_parts.specs.Waking.{Signalled, signal}
use Rattle.thr_parts.specs.Expiry.{earliest}
use Rattle.thr_parts.specs.Keys.{DestructorCall, NextDestructor, next_destructor}
use Rattle.thr_parts.specs.OnceBlocks as once
use Rattle.thr_parts.specs.declared.once.OnceBlock.{OnceBlock}
use Rattle.thr_parts.specs.Pipes.{read, write}
use Rattle.thr_parts.proofs.TableLaws.{get_none, get_put, at_get}
use Rattle.thr_model.specs.States.{State, Debt, Return, Delivery, Running, nothing_left, rank_of, remainder_of, setting_of, debt_of, shared_values, opening}
use Rattle.thr_model.specs.Calls.{Answered, answered, cancelled, given_state, signals_one, woken_state, first}
use Rattle.thr_model.specs.Turns.{Made, thread_line, gift_lines, moved, after_entries, runs_routine, runs_if, after_reply, with_stores, call_made, called, written_to, shared_made, handed_on, freed, end_made, begun_by, begun_at, debt_made, halt_made, run_made, turn_by, turn_of}
use Rattle.thr_model.specs.Events.{dispatch_made, clock_to, clock_of, made_by}
use Rattle.thr_routed.specs.Courses.{Outline, outline, at_rest, Course}
use Rattle.thr_routed.specs.Courses as courses
use Rattle.thr_routed.specs.Reaching.{Reached, freshly, by_shared_step, by_reply, by_raise, by_delivery, by_once, by_destructor, IsRight}
use Rattle.thr_routed.specs.Sound.{IsThere, IsCalm, AreCalmGifts, IsSound}
use Rattle.thr_routed.proofs.Moves.{no_line, raised_goes, delivered_goes, shared_goes, replied_goes, once_goes, destructor_goes}
use Rattle.thr_routed.proofs.QuietParts.{Steps, IsHalt, Runs, run_runs}
use Rattle.thr_routed.proofs.Reading.{lines_append, own_lines, call_is_passed, return_is_passed, Ran, IsLife, Lives, OthersIn, Others, pass_one, gifts_pass_by, gifts_live, others_live, put_lives, cut_lives, moved_lives}

-- ---- replies that raise nothing

raises_nothing : (b : Bool) (i : Interface) → (if b then None else raised_in i reply.Done) ≡ None
raises_nothing true i = refl
raises_nothing false interface.Exc = refl
raises_nothing false interface.Status = refl

if_calm : (o : Option Exc) (r : Remainder) → o ≡ None → r.under_way ≡ None → (raised_if o r).to.under_way ≡ None
if_calm None r e none = none
if_calm (Some x) r e none = absurd (cc)

done_calm_by : (g : Setting) (act : Act) (h : Spot) (r : Remainder) → r.under_way ≡ None → (replied_by g act h r reply.Done).to.under_way ≡ None
done_calm_by g (Asks call) h r none =
    if_calm (raised_by (interface_of g.script) call reply.Done) (record r { items = stored_in (stores call reply.Done) (passed h); err = errno_of reply.Done }) (raises_nothing (is_timed_wait call && false) (interface_of g.script)) none
done_calm_by g _ h r none = none

done_calm_at : (g : Setting) (p : Place) (r : Remainder) → r.under_way ≡ None → (replied_at g p r reply.Done).to.under_way ≡ None
done_calm_at g (At h) r none = done_calm_by g (act_at h) h r none
done_calm_at g _ r none = none

done_calm : (g : Setting) (r : Remainder) → r.under_way ≡ None → (replied g reply.Done r).to.under_way ≡ None
unfolding replied
done_calm g r none = done_calm_at g (place_in r.items) r none

module _ (s : Script) (HasWays : ℕ → Ways → Type 0) (MayReturn : Type 0) (right : IsRight s HasWays MayReturn) where
  abbrev Does : Remainder → Move → Type 0
  Does r m = Steps s HasWays MayReturn right r m

  still_does : (r : Remainder) → Reached s r → Does r (still r)
  still_does r h = record { goes = λ lines c. no_line s HasWays MayReturn (Some (outline r)) lines c; reached = h }

  raised_does : (x : _) (r : Remainder) → r.under_way ≡ None → Reached s r → Does r (raised x r)
  raised_does x r none h = record { goes = raised_goes s HasWays MayReturn x r none; reached = by_raise x r h }

  delivered_does : (r : Remainder) → r.under_way ≡ None → Reached s r → Does r (delivered r)
  delivered_does r none h = record { goes = delivered_goes s HasWays MayReturn r none; reached = by_delivery r h }

  replied_does : (g : Setting) (y : Reply) (r : Remainder) → g.script ≡ s → r.under_way ≡ None → Reached s r → Does r (replied g y r)
  replied_does g y r e none h = record { goes = replied_goes s HasWays MayReturn g y r none; reached = by_reply g y r e h }

  shared_does : (g : Setting) (shared : _) (r : Remainder) → g.script ≡ s → r.under_way ≡ None → Reached s r → Does r (shared_step g shared r)
  shared_does g shared r e none h = record { goes = shared_goes s HasWays MayReturn g shared r none (right.at r h); reached = by_shared_step g shared r e h }

  destructor_does : (g : Setting) (key routine : NameId) (n : ℤ) (r : Remainder) → g.script ≡ s → r.under_way ≡ None → Reached s r → Does r (begins_destructor g key routine n r)
  destructor_does g key routine n r e none h = record { goes = destructor_goes s HasWays MayReturn g key routine n r none; reached = by_destructor g key routine n r e h }

  -- A once routine begins after the reply.
  routine_does : (g : Setting) (call : DceCall) (r : Remainder) (m : Move) → g.script ≡ s → m.to.under_way ≡ None → Does r m → Does r (runs_routine g call m)
  routine_does g (dce.Once block routine) r m e none st = record {
    goes = λ lines c. subst (λ l. Course s HasWays MayReturn (Some (outline (begins_once g block routine m.to).to)) l) (append_assoc lines m.lines (begins_once g block routine m.to).lines)
        (once_goes s HasWays MayReturn g block routine m.to none (lines ++ m.lines) (st.goes lines c));
    reached = by_once g block routine m.to e st.reached;
  }
  routine_does g _ r m e none st = st

  runs_does : (b : Bool) (g : Setting) (call : DceCall) (r : Remainder) (y : Reply) → g.script ≡ s → r.under_way ≡ None → Reached s r → (b ≡ true → y ≡ reply.Done) → Does r (runs_if b g call (replied g y r))
  runs_does true g call r y e none h done =
      routine_does g call r (replied g y r) e (subst (λ z. (replied g z r).to.under_way ≡ None) (sym (done refl)) (done_calm g r none)) (replied_does g y r e none h)
  runs_does false g call r y e none h done = replied_does g y r e none h

  reply_does : (g : Setting) (call : DceCall) (runs : Bool) (r : Remainder) (y : Reply) → g.script ≡ s → r.under_way ≡ None → Reached s r → (runs ≡ true → y ≡ reply.Done) → Does r (after_reply g call runs r y)
  reply_does g call runs r reply.Blocks e none h done = still_does r h
  reply_does g call runs r y e none h done = runs_does runs g call r y e none h done

  begun_by_does : (g : Setting) (act : Act) (r : Remainder) (m : Move) → g.script ≡ s → m.to.under_way ≡ None → Does r m → Does r (begun_by g act m)
  begun_by_does g (Asks call) r m e none st = routine_does g call r m e none st
  begun_by_does g _ r m e none st = st

  begun_does : (g : Setting) (p : Place) (r : Remainder) (m : Move) → g.script ≡ s → m.to.under_way ≡ None → Does r m → Does r (begun_at g p m)
  begun_does g (At h) r m e none st = begun_by_does g (act_at h) r m e none st
  begun_does g _ r m e none st = st

  -- ---- calls

  entered_done : (o : Option OnceBlock) (t : Tid) → is_none o ≡ true → once.enter_reply o t ≡ reply.Done
  entered_done None t e = refl
  entered_done (Some b) t e = absurd (cc)

  cancelled_runs : (st : State) (target : Tid) (o : ThreadsReply) (y : Reply) → (cancelled st target o y).runs ≡ false
  cancelled_runs st target o (reply.Effect effect.Wakes) = refl
  cancelled_runs st target o (reply.Effect _) = refl
  cancelled_runs st target o _ = refl

  signalled_runs : (st : State) (o : Signalled) (w : Option (Tid × NameId)) → (signals_one st o w).runs ≡ false
  signalled_runs st o None = refl
  signalled_runs st o (Some w) = refl

  not_true : (b : Bool) (P : Type 0) → b ≡ false → b ≡ true → P
  not_true b P e f = absurd (cc)

  answered_done : (st : State) (t : Tid) (call : DceCall) (ns : List ℤ) → (answered s st t call ns).runs ≡ true → (answered s st t call ns).reply ≡ reply.Done
  unfolding answered
  answered_done st t (dce.Once block routine) ns e = entered_done (get st.onces.blocks block.0) t e
  answered_done st t (dce.Cancel x) ns e =
      let who : Tid = thread (natural (first ns)) in
      let o : ThreadsReply = cancels.cancel st.threads (first ns) (waits_at_point st.rows who) in not_true (cancelled st who o o.reply).runs _ (cancelled_runs st who o o.reply) e
  answered_done st t (dce.CondSignal c) ns e = let o : Signalled = signal st.conds st.rows c in not_true (signals_one st o o.waiter).runs _ (signalled_runs st o o.waiter) e
  answered_done st t _ ns e = absurd (cc)

  -- ---- the other threads

  born : (u : ℕ) (next : ℕ) (o : Option Remainder) (x : Remainder) (lines : List What) → u ≡ next → Reached s x → ((l : List What) → l ≡ [] → Ran s HasWays MayReturn right (Some (outline x)) l) → IsLife s HasWays MayReturn right next u o lines
      → IsLife s HasWays MayReturn right (next + 1) u (Some x) lines
  born u next None x lines e reached c h = (c lines (h.1 (omega (arith, e))), reached, omega (arith, e))
  born u next (Some r) x lines e reached c h = absurd (omega (arith, e, h.2))

  grown : (next u : ℕ) (o : Option Remainder) (lines : List What) → IsLife s HasWays MayReturn right next u o lines → IsLife s HasWays MayReturn right (next + 1) u o lines
  grown next u None lines h = (h.0, λ le. h.1 (omega (arith, le)))
  grown next u (Some r) lines h = (h.0, h.1, omega (arith, h.2))

  equal : (a b : ℕ) (c : Bool) → eqb a b ≡ c → c ≡ true → b ≡ a
  equal a b c e f = grind (arith, nat_tests)

  grown_put : (b : Bool) (next u : ℕ) (o : Option Remainder) (x : Remainder) (lines : List What) → eqb next u ≡ b → Reached s x → ((l : List What) → l ≡ [] → Ran s HasWays MayReturn right (Some (outline x)) l) → IsLife s HasWays MayReturn right next u o lines
      → IsLife s HasWays MayReturn right (next + 1) u (cond b (Some x) o) lines
  grown_put true next u o x lines e reached c h = born u next o x lines (equal next u true e refl) reached c h
  grown_put false next u o x lines e reached c h = grown next u o lines h

  create_others : (b : Bool) (next : ℕ) (rs : Table Remainder) (entries : List Entry) (t : ℕ) (x : Remainder) → Reached s x → ((l : List What) → l ≡ [] → Ran s HasWays MayReturn right (Some (outline x)) l) → OthersIn s HasWays MayReturn right next rs entries t
      → OthersIn s HasWays MayReturn right (if b then next + 1 else next) (put_if rs next (keep_if b (Some x))) entries t
  create_others true next rs entries t x reached c h = λ u ne.
      subst (λ o. IsLife s HasWays MayReturn right (next + 1) u o (lines_of_thread u entries)) (sym (get_put rs next u x)) (grown_put (eqb next u) next u (get rs u) x (lines_of_thread u entries) refl reached c (h u ne))
  create_others false next rs entries t x reached c h = h

  fresh_course : (routine : NameId) (n : ℤ) (l : List What) → l ≡ [] → Ran s HasWays MayReturn right (Some (outline (fresh s routine n))) l
  fresh_course routine n l e = subst (λ x. Ran s HasWays MayReturn right (Some (outline (fresh s routine n))) x) (sym e) courses.begun

  abbrev OthersOf : State → List Entry → ℕ → Type 0
  OthersOf st entries t = Others s HasWays MayReturn right st entries t × (t < st.threads.next)

  more_if : (b : Bool) (t n : ℕ) → t < n → t < (if b then n + 1 else n)
  more_if true t n h = omega (arith, h)
  more_if false t n h = h

  cancelled_others : (st : State) (entries : List Entry) (t : ℕ) (target : Tid) (x : ℤ) (b : Bool) (y : Reply) → OthersOf st entries t → OthersOf (cancelled st target (cancels.cancel st.threads x b) y).state entries t
  cancelled_others st entries t target x b (reply.Effect effect.Wakes) h = h
  cancelled_others st entries t target x b (reply.Effect _) h = h
  cancelled_others st entries t target x b _ h = h

  given_others : (st : State) (entries : List Entry) (t : ℕ) (rs : Rows) (o : Option Tid) → OthersOf st entries t → OthersOf (given_state st rs o) entries t
  given_others st entries t rs None h = h
  given_others st entries t rs (Some w) h = h

  signals_others : (st : State) (entries : List Entry) (t : ℕ) (o : Signalled) (w : Option (Tid × NameId)) → OthersOf st entries t → OthersOf (signals_one st o w).state entries t
  signals_others st entries t o None h = h
  signals_others st entries t o (Some w) h = h

  woken_others : (st : State) (entries : List Entry) (t : ℕ) (rs : Rows) (y : Reply) (o : Option Tid) → OthersOf st entries t → OthersOf (woken_state st rs y o) entries t
  woken_others st entries t rs y None h = h
  woken_others st entries t rs y (Some w) h = h

  answered_others : (st : State) (entries : List Entry) (by : ℕ) (t : Tid) (call : DceCall) (ns : List ℤ) → OthersOf st entries by → OthersOf (answered s st t call ns).state entries by
  unfolding answered
  answered_others st entries by t (dce.Create v a routine e) ns h =
      let b : Bool = is_value (threads.create st.threads t a).reply in
      (create_others b st.threads.next st.remainders entries by (fresh s routine (first ns)) (freshly routine (first ns)) (fresh_course routine (first ns)) h.0, more_if b by st.threads.next h.1)
  answered_others st entries by t (dce.Cancel e) ns h =
      let who : Tid = thread (natural (first ns)) in cancelled_others st entries by who (first ns) (waits_at_point st.rows who) (cancels.cancel st.threads (first ns) (waits_at_point st.rows who)).reply h
  answered_others st entries by t (dce.MutexUnlock m) ns h = let o = unlock st.locks st.rows (Some m) t in given_others (record st { locks = o.locks }) entries by o.rows o.given h
  answered_others st entries by t dce.UnlockGlobalNp ns h = let o = unlock st.locks st.rows None t in given_others (record st { locks = o.locks }) entries by o.rows o.given h
  answered_others st entries by t (dce.CondWait c m) ns h =
      let o = wait st.conds st.locks st.rows c m t (rank_of st t) in given_others (record st { conds = o.conds; locks = o.locks }) entries by o.rows o.given h
  answered_others st entries by t (dce.CondTimedwait c m e) ns h =
      let o = timedwait st.conds st.locks st.rows c m (first ns) st.clock t (rank_of st t) in given_others (record st { conds = o.conds; locks = o.locks }) entries by o.rows o.given h
  answered_others st entries by t (dce.CondSignal c) ns h = let o : Signalled = signal st.conds st.rows c in signals_others st entries by o o.waiter h
  answered_others st entries by t (dce.Read p v w) ns h = let o = read st.pipes st.rows p t (rank_of st t) in woken_others (record st { pipes = o.pipes }) entries by o.rows reply.Done o.relieved h
  answered_others st entries by t (dce.Write p e) ns h =
      let o = write st.pipes st.rows p (first ns) t (rank_of st t) in woken_others (record st { pipes = o.pipes }) entries by o.rows (reply.Value (first ns)) o.reader h
  answered_others st entries by t _ ns h = h

  -- ---- turns

  -- The thread that has its turn: the others have their lives, and it has this left after these lines.
  record Turns (st : State) (entries : List Entry) (t : Tid) (r : Remainder) : Type 0 where
    others : Others s HasWays MayReturn right st entries t.0
    below : t.0 < st.threads.next
    course : Ran s HasWays MayReturn right (Some (outline r)) (lines_of_thread t.0 entries)
    reached : Reached s r

  abbrev Good : Made → List Entry → Type 0
  Good made entries = Lives s HasWays MayReturn right made.state (entries ++ made.lines)

  moves_on : (st : State) (entries : List Entry) (t : Tid) (r : Remainder) (m : Move) → Turns st entries t r → Does r m → Good (moved st t m) entries
  moves_on st entries t r m h d = moved_lives s HasWays MayReturn right st entries t r m h.others d h.course h.below

  after_good : (made : Made) (entries first : List Entry) → Good made (entries ++ first) → Good (after_entries first made) entries
  after_good made entries first h = subst (λ l. Lives s HasWays MayReturn right made.state l) (append_assoc entries first made.lines) h

  -- One passed line of its own.
  one_line : (st : State) (entries : List Entry) (t : Tid) (r : Remainder) (w : What) → r.under_way ≡ None → courses.IsPassedBy w → Turns st entries t r → Turns st (entries ++ thread_line t w ∷ []) t r
  one_line st entries t r w none p h = record {
    others = others_live s HasWays MayReturn right st.threads.next st.remainders entries t (w ∷ []) h.others;
    below = h.below;
    course = subst (λ l. Ran s HasWays MayReturn right (Some (outline r)) l) (sym (lines_append t.0 entries (thread_line t w ∷ []) ∙ ap (λ l. lines_of_thread t.0 entries ++ l) (own_lines t (w ∷ []))))
        (pass_one s HasWays MayReturn right r w (lines_of_thread t.0 entries) none p h.course);
    reached = h.reached;
  }

  some_gifts : (st : State) (entries more : List Entry) (t : Tid) (r : Remainder) → r.under_way ≡ None → AreCalmGifts st more → Turns st entries t r → Turns st (entries ++ more) t r
  some_gifts st entries more t r none gs h = record {
    others = λ u ne. gifts_live s HasWays MayReturn right st entries more u gs (h.others u ne);
    below = h.below;
    course = subst (λ l. Ran s HasWays MayReturn right (Some (outline r)) l) (sym (lines_append t.0 entries more)) (gifts_pass_by s HasWays MayReturn right st more t.0 r none gs (lines_of_thread t.0 entries) h.course);
    reached = h.reached;
  }

  call_good : (st : State) (entries : List Entry) (t : Tid) (g : Setting) (call : DceCall) (ns : List ℤ) (r : Remainder) → g.script ≡ s → r.under_way ≡ None → AreCalmGifts st (gift_lines (answered s st t call ns).gifts) → Turns st entries t r
      → Good (call_made t g call ns r (answered s st t call ns)) entries
  call_good st entries t g call ns r e none gs h =
      let o : Answered = answered s st t call ns in
      let line : Entry = thread_line t (what.Call (shape_of call).word (arguments call ns) o.reply) in
      let said : Turns st (entries ++ line ∷ []) t r = one_line st entries t r _ none (call_is_passed _ _ _) h in
      let given : Turns st ((entries ++ line ∷ []) ++ gift_lines o.gifts) t r = some_gifts st (entries ++ line ∷ []) (gift_lines o.gifts) t r none gs said in
      let given' : Turns st (entries ++ line ∷ gift_lines o.gifts) t r = subst (λ l. Turns st l t r) (append_assoc entries (line ∷ []) (gift_lines o.gifts)) given in
      let more : OthersOf o.state (entries ++ line ∷ gift_lines o.gifts) t.0 = answered_others st (entries ++ line ∷ gift_lines o.gifts) t.0 t call ns (given'.others, given'.below) in
      let now : Turns (with_stores o.state r o.reply) (entries ++ line ∷ gift_lines o.gifts) t r = record { others = more.0; below = more.1; course = given'.course; reached = given'.reached } in
      after_good (moved (with_stores o.state r o.reply) t (after_reply g call o.runs r o.reply)) entries (line ∷ gift_lines o.gifts)
      (moves_on (with_stores o.state r o.reply) (entries ++ line ∷ gift_lines o.gifts) t r (after_reply g call o.runs r o.reply) now (reply_does g call o.runs r o.reply e none h.reached (answered_done st t call ns)))

  called_good : (st : State) (entries : List Entry) (t : Tid) (g : Setting) (call : DceCall) (r : Remainder) (values : Values) → g.script ≡ s → r.under_way ≡ None → ((ns : List ℤ) → AreCalmGifts st (gift_lines (answered s st t call ns).gifts)) → Turns st entries t r
      → Good (called s st t g call r values) entries
  called_good st entries t g call r (Ok ns) e none gs h = call_good st entries t g call ns r e none (gs ns) h
  called_good st entries t g call r (Err x) e none gs h = moves_on st entries t r (raised x r) h (raised_does x r none h.reached)

  written_turns : (st : State) (entries : List Entry) (t : Tid) (r : Remainder) (o : Option (NameId × ℤ)) → Turns st entries t r → Turns (written_to st o) entries t r
  written_turns st entries t r None h = h
  written_turns st entries t r (Some w) h = record { others = h.others; below = h.below; course = h.course; reached = h.reached }

  shared_good : (st : State) (entries : List Entry) (t : Tid) (g : Setting) (r : Remainder) (act : Act) → g.script ≡ s → r.under_way ≡ None → ((call : DceCall) (ns : List ℤ) → AreCalmGifts st (gift_lines (answered s st t call ns).gifts)) → Turns st entries t r
      → Good (shared_made s st t g r act) entries
  shared_good st entries t g r (Asks call) e none gs h = called_good st entries t g call r (asked g (shared_values st) call r) e none (gs call) h
  shared_good st entries t g r _ e none gs h =
      moves_on (written_to st (written g (shared_values st) r)) entries t r (shared_step g (shared_values st) r) (written_turns st entries t r (written g (shared_values st) r) h) (shared_does g (shared_values st) r e none h.reached)

  handed_turns : (st : State) (entries : List Entry) (t : Tid) (r : Remainder) (o : once.Undone) (w : Option Tid) → Turns st entries t r → Turns (handed_on st o w) entries t r
  handed_turns st entries t r o None h = record { others = h.others; below = h.below; course = h.course; reached = h.reached }
  handed_turns st entries t r o (Some u) h = record { others = h.others; below = h.below; course = h.course; reached = h.reached }

  no_scopes : (r : Remainder) (lines : List What) → r.under_way ≡ None → r.items ≡ [] → Ran s HasWays MayReturn right (Some (outline r)) lines → Ran s HasWays MayReturn right (Some (at_rest [] r.scopes r.unwindings)) lines
  no_scopes r lines none e c =
      let P : List Item → Type 0 = λ items. Ran s HasWays MayReturn right (Some (record { roles = courses.roles_in items; under = r.under_way; scopes = r.scopes; unwindings = r.unwindings })) lines in
      let Q : Option _ → Type 0 = λ o. Ran s HasWays MayReturn right (Some (record { roles = []; under = o; scopes = r.scopes; unwindings = r.unwindings })) lines in
      subst Q none (subst P e c)

  end_good : (st : State) (entries : List Entry) (t : Tid) (g : Setting) (r : Remainder) (o : NextDestructor) (c : Option DestructorCall) → g.script ≡ s → r.under_way ≡ None → r.items ≡ [] → Turns st entries t r → Good (end_made st t g r o c) entries
  end_good st entries t g r o (Some c) e none nil h =
      moves_on (record st { onces = o.onces }) entries t r (begins_destructor g c.0 c.1 c.2 r) (record { others = h.others; below = h.below; course = h.course; reached = h.reached }) (destructor_does g c.0 c.1 c.2 r e none h.reached)
  end_good st entries t g r o None e none nil h =
      cut_lives s HasWays MayReturn right st.threads.next st.remainders (entries ++ thread_line t (what.End r.value) ∷ []) t.0
      (others_live s HasWays MayReturn right st.threads.next st.remainders entries t (what.End r.value ∷ []) h.others) (
        subst (λ l. Ran s HasWays MayReturn right None l) (sym (lines_append t.0 entries (thread_line t (what.End r.value) ∷ []) ∙ ap (λ l. lines_of_thread t.0 entries ++ l) (own_lines t (what.End r.value ∷ []))))
            (courses.ended r.value (no_scopes r (lines_of_thread t.0 entries) none nil h.course)),
        λ le. absurd (omega (arith, h.below, le)),
      )

  halt_good : (st : State) (entries : List Entry) (t : Tid) (g : Setting) (r : Remainder) (halt : Halt) → g.script ≡ s → IsHalt s HasWays MayReturn right r halt → ((call : DceCall) (ns : List ℤ) → AreCalmGifts st (gift_lines (answered s st t call ns).gifts)) → Turns st entries t r
      → Good (halt_made s st t g r halt) entries
  halt_good st entries t g r Delivers e i gs h = moves_on (record st { threads = cancels.deliver st.threads t }) entries t r (delivered r) (record { others = h.others; below = h.below; course = h.course; reached = h.reached }) (delivered_does r i h.reached)
  halt_good st entries t g r (Shares spot) e i gs h = shared_good st entries t g r (act_at spot) e i.0 gs h
  halt_good st entries t g r (Undoes block m) e i gs h =
      let o : once.Undone = once.undone st.onces st.rows block in moves_on (handed_on st o o.runner) entries t r m (handed_turns st entries t r o o.runner h) i
  halt_good st entries t g r (Completes block m) e i gs h = moves_on (freed (record st { onces = once.done st.onces block }) reply.Done (free_row (rank_of st) st.rows (row.Once block))) entries t r m (record { others = h.others; below = h.below; course = h.course; reached = h.reached }) i
  halt_good st entries t g r Ends e i gs h = let o : NextDestructor = next_destructor st.onces t in end_good st entries t g r o o.call e i.0 i.1 h
  halt_good st entries t g r Pauses e i gs h = moves_on st entries t r (still r) h (still_does r h.reached)

  debt_good : (st : State) (entries : List Entry) (t : Tid) (g : Setting) (r : Remainder) (d : Debt) → g.script ≡ s → r.under_way ≡ None → Turns st entries t r → Good (debt_made st t g r d) entries
  debt_good st entries t g r (Return y) e none h =
      let x : Turns st (entries ++ thread_line t (what.Ret y) ∷ []) t r = one_line st entries t r (what.Ret y) none (return_is_passed y) h in
      after_good (moved (with_stores st r y) t (replied g y r)) entries (thread_line t (what.Ret y) ∷ [])
      (moves_on (with_stores st r y) (entries ++ thread_line t (what.Ret y) ∷ []) t r (replied g y r) (record { others = x.others; below = x.below; course = x.course; reached = x.reached }) (replied_does g y r e none h.reached))
  debt_good st entries t g r Delivery e none h = moves_on (record st { threads = cancels.deliver st.threads t }) entries t r (delivered r) (record { others = h.others; below = h.below; course = h.course; reached = h.reached }) (delivered_does r none h.reached)
  debt_good st entries t g r Running e none h =
      let x : Turns st (entries ++ thread_line t (what.Ret reply.Done) ∷ []) t r = one_line st entries t r (what.Ret reply.Done) none (return_is_passed reply.Done) h in
      let m : Move = begun_at g (place_in r.items) (replied g reply.Done r) in
      after_good (moved st t m) entries (thread_line t (what.Ret reply.Done) ∷ [])
      (moves_on st (entries ++ thread_line t (what.Ret reply.Done) ∷ []) t r m x (begun_does g (place_in r.items) r (replied g reply.Done r) e (done_calm g r none) (replied_does g reply.Done r e none h.reached)))

  run_good : (st : State) (entries : List Entry) (t : Tid) (g : Setting) (r : Remainder) (run : Run) → g.script ≡ s → Runs s HasWays MayReturn right r run → ((call : DceCall) (ns : List ℤ) → AreCalmGifts st (gift_lines (answered s st t call ns).gifts)) → Turns st entries t r
      → Good (run_made s st t g run) entries
  run_good st entries t g r run e x gs h =
      after_good (halt_made s st t g run.to run.halt) entries (map (thread_line t) run.lines)
      (halt_good st (entries ++ map (thread_line t) run.lines) t g run.to run.halt e x.halt gs
      (record {
        others = others_live s HasWays MayReturn right st.threads.next st.remainders entries t run.lines h.others;
        below = h.below;
        course = subst (λ l. Ran s HasWays MayReturn right (Some (outline run.to)) l) (sym (lines_append t.0 entries (map (thread_line t) run.lines) ∙ ap (λ l. lines_of_thread t.0 entries ++ l) (own_lines t run.lines)))
            (x.goes (lines_of_thread t.0 entries) h.course);
        reached = x.reached;
      }))

  left_is : (st : State) (t : Tid) (r : Remainder) → get st.remainders t.0 ≡ Some r → remainder_of st t ≡ r
  left_is st t r e = at_get st.remainders t.0 nothing_left ∙ ap (λ o. unwrap_or o nothing_left) e

  turning : (st : State) (entries : List Entry) (t : Tid) (r : Remainder) → get st.remainders t.0 ≡ Some r → Lives s HasWays MayReturn right st entries → Turns st entries t (remainder_of st t)
  turning st entries t r e h =
      let own : IsLife s HasWays MayReturn right st.threads.next t.0 (Some r) (lines_of_thread t.0 entries) = subst (λ o. IsLife s HasWays MayReturn right st.threads.next t.0 o (lines_of_thread t.0 entries)) e (h t.0) in
      subst (λ x. Turns st entries t x) (sym (left_is st t r e)) (record { others = λ u ne. h u; below = own.2; course = own.0; reached = own.1 })

  turn_by_good : (st : State) (entries : List Entry) (p : ℕ) (t : Tid) (d : Option Debt) → running st.rows p ≡ Some t → debt_of st t ≡ d → IsSound s st → Lives s HasWays MayReturn right st entries → Good (turn_by s st t d) entries
  turn_by_good st entries p t (Some d) runs owes sound h =
      let calm : IsCalm st t.0 = sound.owes t.0 d owes in
      let x : Turns st entries t (remainder_of st t) = turning st entries t calm.0 calm.1 h in
      debt_good (record st { debts = cut st.debts t.0 }) entries t (setting_of s st t) (remainder_of st t) d refl (ap (λ (r : Remainder). r.under_way) (left_is st t calm.0 calm.1) ∙ calm.2)
      (record { others = x.others; below = x.below; course = x.course; reached = x.reached })
  turn_by_good st entries p t None runs owes sound h =
      let there : IsThere st t.0 = sound.runs p t runs in
      let x : Turns st entries t (remainder_of st t) = turning st entries t there.0 there.1 h in
      run_good st entries t (setting_of s st t) (remainder_of st t) (run_of most_steps (setting_of s st t) (mode_at st.threads t) (remainder_of st t)) refl
      (run_runs s HasWays MayReturn right most_steps (setting_of s st t) (mode_at st.threads t) (remainder_of st t) refl x.reached) (λ call ns. sound.call_gifts p t call ns runs owes) x

  turn_good : (st : State) (entries : List Entry) (p : ℕ) (t : Tid) → running st.rows p ≡ Some t → IsSound s st → Lives s HasWays MayReturn right st entries → Good (turn_of s st t) entries
  unfolding turn_of
  turn_good st entries p t runs sound h = turn_by_good st entries p t (debt_of st t) runs refl sound h

  -- ---- events

  no_line_here : (st : State) (entries : List Entry) (e : Entry) → ((u : ℕ) → lines_of_thread u (e ∷ []) ≡ []) → Lives s HasWays MayReturn right st entries → Lives s HasWays MayReturn right st (entries ++ e ∷ [])
  no_line_here st entries e none h u =
      subst (λ l. IsLife s HasWays MayReturn right st.threads.next u (get st.remainders u) l) (sym (lines_append u entries (e ∷ []) ∙ ap (λ l. lines_of_thread u entries ++ l) (none u) ∙ append-nil (lines_of_thread u entries))) (h u)

  dispatch_good : (st : State) (entries : List Entry) (p : ℕ) (d : Dispatched) (o : Option Tid) (made : Made) → Lives s HasWays MayReturn right st entries → dispatch_made st p d o ≡ Some made → Good made entries
  dispatch_good st entries p d None made h e = absurd (cc)
  dispatch_good st entries p d (Some t) made h e = subst (λ (m : Made). Good m entries) (ap (λ o. unwrap_or o made) e) (no_line_here st entries _ (λ u. refl) h)

  dispatch_if_good : (b : Bool) (st : State) (entries : List Entry) (p : ℕ) (made : Made) → Lives s HasWays MayReturn right st entries → (if b then dispatch_made st p (dispatch st.rows p) (dispatch st.rows p).taken else None) ≡ Some made → Good made entries
  dispatch_if_good true st entries p made h e = dispatch_good st entries p (dispatch st.rows p) (dispatch st.rows p).taken made h e
  dispatch_if_good false st entries p made h e = absurd (cc)

  turn_if_good : (st : State) (entries : List Entry) (p : ℕ) (o : Option Tid) (made : Made) → running st.rows p ≡ o → IsSound s st → Lives s HasWays MayReturn right st entries → option_map (turn_of s st) o ≡ Some made → Good made entries
  turn_if_good st entries p None made r sound h e = absurd (cc)
  turn_if_good st entries p (Some t) made r sound h e = subst (λ (m : Made). Good m entries) (ap (λ o. unwrap_or o made) e) (turn_good st entries p t r sound h)

  clock_at_good : (st : State) (entries : List Entry) (o : Option ℤ) (made : Made) → IsSound s st → Lives s HasWays MayReturn right st entries → option_map (clock_to st) o ≡ Some made → Good made entries
  clock_at_good st entries None made sound h e = absurd (cc)
  clock_at_good st entries (Some now) made sound h e =
      subst (λ (m : Made). Good m entries) (ap (λ o. unwrap_or o made) e) (λ u. gifts_live s HasWays MayReturn right st entries (clock_to st now).lines u (sound.clock_gifts now) (h u))

  clock_good : (st : State) (entries : List Entry) (b : Bool) (made : Made) → IsSound s st → Lives s HasWays MayReturn right st entries → clock_of b st ≡ Some made → Good made entries
  clock_good st entries true made sound h e = absurd (cc)
  clock_good st entries false made sound h e = clock_at_good st entries (earliest st.conds) made sound h e

  pub made_good : (n : ℕ) (st : State) (entries : List Entry) (e : Event) (made : Made) → IsSound s st → Lives s HasWays MayReturn right st entries → made_by s n st e ≡ Some made → Good made entries
  unfolding made_by
  made_good n st entries (event.Dispatch p) made sound h e = dispatch_if_good (nat_lt p n) st entries p made h e
  made_good n st entries (event.Turn p) made sound h e = turn_if_good st entries p (running st.rows p) made refl sound h e
  made_good n st entries event.Clock made sound h e = clock_good st entries (some_can_run st.rows) made sound h e

  no_thread : (u : ℕ) (o : Option Remainder) → o ≡ None → IsLife s HasWays MayReturn right 2 u o []
  no_thread u None e = (courses.never, λ le. refl)
  no_thread u (Some r) e = absurd (cc)

  pub opening_lives : Lives s HasWays MayReturn right (opening s) []
  opening_lives = put_lives s HasWays MayReturn right 2 none [] 1 _ (λ u ne. no_thread u (get none u) (get_none u)) (courses.begun, freshly _ _, omega arith)
