-- In every history the lines tell which threads wait or owe something, and calls that wait are answered.
use Rattle.std.proofs.Common.{◌≡◌, ℕ, ◌==◌, ◌≤◌, ℤ, pos, Bool, true, false, ◌||◌, ◌&&◌, cond, eqb, List, [], ◌∷◌, ◌++◌, map, Option, Some, None, Ok, Err, arith, refl, sym, ap, ◌∙◌, subst, nat_lt}
use Rattle.std.proofs.lemmas.Bool.{eqb-true, eq-eqb, false≢true}
use Rattle.std.proofs.lemmas.Bool.Decides.{nat_tests}
use Rattle.std.specs.Prelude.{if◌then◌else◌, is_some, is_none, not, nat_le, length}
use Rattle.std.specs.Option.{option_map, unwrap_or, option_and_then}
use Rattle.thr_values.specs.declared.number.NameId.{NameId}
use Rattle.thr_values.specs.declared.number.Tid.{Tid}
use Rattle.thr_values.specs.declared.event.Event.{Event}
use Rattle.thr_values.specs.declared.event.Event.TheVariants as event
use Rattle.thr_values.specs.declared.history.What.{What}
use Rattle.thr_values.specs.declared.history.What.TheVariants as what
use Rattle.thr_values.specs.declared.history.Entry.{Entry}
use Rattle.thr_values.specs.declared.reply.Reply.{Reply}
use Rattle.thr_values.specs.declared.reply.Reply.TheVariants as reply
use Rattle.thr_syntax.specs.declared.dce.DceCall.{DceCall}
use Rattle.thr_syntax.specs.declared.dce.DceCall.TheVariants as dce
use Rattle.thr_syntax.specs.declared.tree.Script.{Script}
use Rattle.thr_remainder.specs.Acts.{Act, Asks}
use Rattle.thr_remainder.specs.Remainders.{Setting, Remainder, Move, Spot, Place, At, place_in, act_at}
use Rattle.thr_remainder.specs.Calls.{shape_of, arguments}
use Rattle.thr_remainder.specs.Starts.{line_in, line_of_next, raised, delivered, begins_destructor}
use Rattle.thr_remainder.specs.Steps.{shared_step, written}
use Rattle.thr_remainder.specs.Replies.{Values, asked, replied}
use Rattle.thr_remainder.specs.Runs.{Halt, Delivers, Shares, Undoes, Completes, Ends, Pauses, Run, run_of, most_steps}
use Rattle.thr_parts.specs.declared.row.RowId.TheVariants as row
use Rattle.thr_parts.specs.declared.row.Seat.{Seat}
use Rattle.thr_parts.specs.Tables.{Table, none, get, at, put, cut, IsCanonical}
use Rattle.thr_parts.specs.Replies.{is_blocks}
use Rattle.thr_parts.specs.Rows.{Rows, row_at, thread, in_order}
use Rattle.thr_parts.specs.Moves.{Freed, free_row, leave}
use Rattle.thr_parts.specs.Dispatch.{dispatch, running, some_can_run}
use Rattle.thr_parts.specs.Threads.{record_at, live, is_live, new_thread, new_attr}
use Rattle.thr_parts.specs.Cancels.{mode_at}
use Rattle.thr_parts.specs.Expiry.{earliest, due, due_first, is_due, has_come, expire_all}
use Rattle.thr_parts.specs.Conditions.{time_of}
use Rattle.thr_parts.specs.Keys.{DestructorCall, NextDestructor, next_destructor}
use Rattle.thr_parts.specs.OnceBlocks as once
use Rattle.thr_parts.specs.declared.wait.Wait.{Wait}
use Rattle.thr_parts.proofs.TableLaws.{get_none, get_put, get_cut, at_put, at_cut}
use Rattle.thr_laws.specs.Known.{known_at_first, Known, known, known_after, is_wakes, cancel_of, cancel_by, reply_if}
use Rattle.thr_laws.specs.Lines.{implies, is_some_line, own_line, line_but_gift, is_waiting_call, is_return, is_delivery}
use Rattle.thr_laws.specs.CallsOnce.{CallsOnce, ends_answered, waits, is_of_line, names_its_statement, is_woken_from_it}
use Rattle.thr_laws.proofs.ReadingLaws.{and_both, AllLines}
use Rattle.thr_model.specs.States.{State, nothing_left, Debt, Return, Delivery, Running, opening, remainder_of, setting_of, debt_of, rank_of, shared_values, all_owe}
use Rattle.thr_model.specs.Calls.{Gifts, Answered, answered}
use Rattle.thr_model.specs.Turns.{Made, thread_line, gift_lines, runs_routine, runs_if, after_reply, called, written_to, shared_made, end_made, begun_by, begun_at, debt_made, halt_made, run_made, turn_by, kept, is_fifo_in, turn_of, handed_on}
use Rattle.thr_model.specs.Events.{dispatch_made, clock_to, clock_of, made_by}
use Rattle.thr_model.specs.Histories.{Execution, History, opened, then_event, Legal, StopsWith, stop_at, stop_with, goes_on, limit_of}
use Rattle.thr_values.specs.declared.event.Stop.TheVariants as stops
use Rattle.std.specs.List.{filter}
use Rattle.thr_parts.specs.declared.thread.Thread.{Thread}
use Rattle.thr_parts.specs.Cancels.{deliver}
use Rattle.thr_parts.proofs.EntryLaws.{get_cons, get_empty}
use Rattle.thr_answers.proofs.StatusLives.{is_living, KeepsLiving, deliver_living, Lives, stay_living, goes_living, answered_lives, ended_lives, runs_still}
use Rattle.thr_values.specs.declared.event.Stop.{Stop}
use Rattle.thr_model.proofs.RowsKept.{history_canonical}
use Rattle.thr_answers.specs.Statuses.{Status, Absent, Calm, Waiting, Astray, status, status_in, status_of, is_waiting}
use Rattle.thr_answers.proofs.StatusMoves.{with_put, with_known, becomes}
use Rattle.thr_answers.proofs.StatusRows.{waits_or_astray, all_numbers, all_in_order, with_wait_waits, free_row_stays, expired_stay, stays_so}
use Rattle.thr_answers.proofs.StatusCalls.{IsCalling, Leaves}
use Rattle.thr_answers.proofs.StatusTurns.{InOrder, ComesIn, Comes, comes_stays, answered_comes, HasRun, has_run, run_wait, calls_calmly, paid_comes, paid_goes, handed_stays, ended_goes, leaves_come, undone_comes, ended_comes, keeps_stays, dispatch_stays}
use Rattle.std.specs.Ordering.{int_eq}
use Rattle.thr_values.specs.declared.call.Arg.{Arg}
use Rattle.thr_values.specs.declared.call.Arg.TheVariants as arg
use Rattle.thr_values.specs.declared.call.CallWord.{CallWord}
use Rattle.thr_values.specs.declared.call.CallWord.TheVariants as word
use Rattle.thr_syntax.specs.Lines.{lines_of}
use Rattle.thr_answers.specs.Standing.{StandsIn}
use Rattle.thr_answers.specs.Owing.{delivers, line_at}
use Rattle.thr_answers.proofs.StepsStand.{IsSpot, IsPlace, place_stands}
use Rattle.thr_answers.proofs.HistoriesStand.{run_stands, remainder_stands, left-stands}
use Rattle.thr_answers.proofs.CallLines.{AreValues, asked_values, call_of_line}
use Rattle.thr_answers.proofs.DebtsKept.{NoNew, nobody, either_left, only_left, put_no_new, same_no_new, all_no_new, due_no_new, LeavesLeft, put_left, answered_no_new, answered_left}
use Rattle.thr_answers.proofs.QuietLines.{AreQuiet, quiet_append, shared_is_quiet, replied_is_quiet, HaltFits, RunFits, run_fits}
use Rattle.thr_answers.proofs.AnswerReading.{AllPass, all_answered, all_return, all_named, all_woken, after, after_append, pass_append, IsSilent, silent_passes, silent_waits, silent_last, silent_woken, IsCalm, ReadsCalmly, calm_reads, but_gift, calm_append, quiet_calm, all_silent_calm, gifts_silent, others_silent, silent_append, ReadsWaiting, blocks_reads, answer_reads}

-- ---- a call

routine_quiet : (g : Setting) (call : DceCall) (m : Move) → AreQuiet m.lines → AreQuiet (runs_routine g call m).lines
routine_quiet g (dce.Once block routine) m h = quiet_append m.lines _ h (record { waiting = refl; returning = refl }, tt)
routine_quiet g _ m h = h

runs_quiet : (b : Bool) (g : Setting) (call : DceCall) (m : Move) → AreQuiet m.lines → AreQuiet (runs_if b g call m).lines
runs_quiet true g call m h = routine_quiet g call m h
runs_quiet false g call m h = h

-- The lines of a call that has this reply.
abbrev call_lines : Tid → Setting → DceCall → List ℤ → Bool → Remainder → Gifts → Reply → List Entry
call_lines t g call ns runs r gs y = (thread_line t (what.Call (shape_of call).word (arguments call ns) y) ∷ gift_lines gs) ++ map (thread_line t) (after_reply g call runs r y).lines

record Reads (s : Script) (t : ℕ) (k : Known) (es : List Entry) (b : Bool) : Type 0 where
  pass : AllPass s t k es
  waiting : waits (after t k es) ≡ b

at_itself : (m : Table Remainder) (t : ℕ) (r : Remainder) → at (put m t r) t nothing_left ≡ r
at_itself m t r = at_put m t t r nothing_left ∙ ap (λ b. cond b r (at m t nothing_left)) (eq-eqb t t refl)

module _ (s : Script) (t : Tid) (g : Setting) (call : DceCall) (ns : List ℤ) (runs : Bool) (r : Remainder) (gs : Gifts) where
  blocks_here : (k : Known) → waits k ≡ false → ReadsWaiting s t.0 k (call_lines t g call ns runs r gs reply.Blocks) (what.Call (shape_of call).word (arguments call ns) reply.Blocks)
  blocks_here k w = blocks_reads s t k (shape_of call).word (arguments call ns) (gift_lines gs ++ []) w (silent_append t.0 (gift_lines gs) [] (gifts_silent t.0 gs) tt)

  call_reads : (k : Known) (y : Reply) → waits k ≡ false → Reads s t.0 k (call_lines t g call ns runs r gs y) (is_blocks y)
  call_reads k reply.Blocks w = let x = blocks_here k w in record { pass = x.pass; waiting = x.waiting }
  call_reads k y w =
      let more : List What = (runs_if runs g call (replied g y r)).lines in
      let x : ReadsCalmly s t.0 k (call_lines t g call ns runs r gs y) =
      calm_reads s t.0 k (call_lines t g call ns runs r gs y) w (
        record { waiting = but_gift is_waiting_call (t.0 == t.0) (what.Call (shape_of call).word (arguments call ns) y) refl; returning = but_gift is_return (t.0 == t.0) (what.Call (shape_of call).word (arguments call ns) y) refl },
        calm_append t.0 (gift_lines gs) (map (thread_line t) more) (all_silent_calm t.0 (gift_lines gs) (gifts_silent t.0 gs)) (quiet_calm t.0 t more (runs_quiet runs g call (replied g y r) (replied_is_quiet g y r))),
      ) in
      record { pass = x.pass; waiting = x.calm }

  -- Where it blocks its line is one of the line at which the thread goes on.
  call_stands : (k : Known) (m : Table Remainder) (y : Reply) → waits k ≡ false → is_of_line s (unwrap_or (line_of_next r) 0) (what.Call (shape_of call).word (arguments call ns) y) ≡ true → is_blocks y ≡ true
      → is_some_line (is_of_line s (unwrap_or (line_of_next (at (put m t.0 (after_reply g call runs r y).to) t.0 nothing_left)) 0)) (after t.0 k (call_lines t g call ns runs r gs y)).last ≡ true
  call_stands k m reply.Blocks w l e =
      ap (λ (x : Remainder). is_some_line (is_of_line s (unwrap_or (line_of_next x) 0)) (after t.0 k (call_lines t g call ns runs r gs reply.Blocks)).last) (at_itself m t.0 r)
      ∙ ap (is_some_line (is_of_line s (unwrap_or (line_of_next r) 0))) (blocks_here k w).last ∙ l
  call_stands k m y w l e = absurd (cc)

  -- The lines after the first.
  abbrev rest_lines : Reply → List Entry
  rest_lines y = gift_lines gs ++ map (thread_line t) (after_reply g call runs r y).lines

  rest_silent : (u : ℕ) (y : Reply) → (t.0 == u) ≡ false → IsSilent u (rest_lines y)
  rest_silent u y e = silent_append u (gift_lines gs) (map (thread_line t) (after_reply g call runs r y).lines) (gifts_silent u gs) (others_silent u t (after_reply g call runs r y).lines e)

  call_silent : (u : ℕ) (y : Reply) → (t.0 == u) ≡ false → IsSilent u (call_lines t g call ns runs r gs y)
  call_silent u y e = let w : What = what.Call (shape_of call).word (arguments call ns) y in (ap (λ b. line_but_gift b w) e, rest_silent u y e)

  call_wakes : (u : ℕ) (y : Reply) (k : Known) (owed : Bool) → (t.0 == u) ≡ false → (owed || is_wakes (cancel_of u (what.Call (shape_of call).word (arguments call ns) y))) ≡ true → (owed ≡ true → k.woken ≡ true)
      → (after u k (call_lines t g call ns runs r gs y)).woken ≡ true
  call_wakes u y k owed e h w =
      let x : What = what.Call (shape_of call).word (arguments call ns) y in
      silent_woken u (known_after u k (thread_line t x)) (rest_lines y) (rest_silent u y e)
      (woken_or (is_wakes (cancel_of u x)) owed k.woken (is_none (own_line u (thread_line t x))) h w (ap (λ b. is_none (line_but_gift b x)) e))
    where
      woken_or : (a b c d : Bool) → (b || a) ≡ true → (b ≡ true → c ≡ true) → d ≡ true → (a || (c && d)) ≡ true
      woken_or true b c d h w n = refl
      woken_or false b c d h w n = and_both c d (w (only_left b h)) n

blocks_not_wakes : (t : ℕ) (call : CallWord) (args : List Arg) → is_wakes (cancel_by t call args reply.Blocks) ≡ false
blocks_not_wakes t word.Cancel (arg.Num n ∷ args) = either (int_eq n (pos t))
  where
    either : (b : Bool) → is_wakes (reply_if b reply.Blocks) ≡ false
    either true = refl
    either false = refl
blocks_not_wakes t _ args = refl

owes_none : (o d : Option Debt) (w : Bool) → o ≡ None → w ≡ false → (delivers o || w) ≡ true → ⊥
owes_none None d w e n h = false≢true (sym n ∙ h)
owes_none (Some x) d w e n h = absurd (cc)

-- A caller owes no delivery.
call_owes : (t : ℕ) (call : CallWord) (args : List Arg) (y : Reply) (before now : Option Debt) → (delivers now ≡ true → (delivers before || is_wakes (cancel_of t (what.Call call args y))) ≡ true) → before ≡ None
    → (is_blocks y ≡ false → delivers now ≡ true → ⊥) → delivers now ≡ true → ⊥
call_owes t call args reply.Blocks before now h e n i = owes_none before now (is_wakes (cancel_by t call args reply.Blocks)) e (blocks_not_wakes t call args) (h i)
call_owes t call args y before now h e n i = n refl i

not_owing : (o : Option Debt) (x : Option Seat) (z : Option Wait) → is_waiting (status o x z) ≡ false → (status o x z ≡ Astray → ⊥) → delivers o ≡ true → ⊥
not_owing None x z e n h = absurd (cc)
not_owing (Some d) x None e n h = absurd (cc)
not_owing (Some d) x (Some w) e n h = false≢true (sym e ∙ ap is_waiting (waits_or_astray (row_at x) n))

-- ---- turns

-- What waits stays at its line, and nobody comes to owe a delivery.
record Others (st : State) (t : ℕ) (d : Table Debt) (m : Table Remainder) : Type 0 where
  left : (u : ℕ) → (t == u) ≡ false → is_waiting (status_of st u) ≡ true → LeavesLeft st m u
  debts : NoNew st.debts d nobody

unlike : (t u : ℕ) → (t == u) ≡ false → t ≡ u → ⊥
unlike t u e i = false≢true (sym e ∙ eq-eqb t u i)

others_moved : (st : State) (t : ℕ) (d : Table Debt) (r : Remainder) → NoNew st.debts d nobody → Others st t d (put st.remainders t r)
others_moved st t d r h = record { left = λ u e w. put_left st.remainders t u r false e (unlike t u e); debts = h }

-- A turn of the thread: whether it waits then, and that its lines tell so.
record TurnMakes (s : Script) (st : State) (t : Tid) (k : Known) (made : Made) : Type 0 where
  waits_then : Bool
  comes : Comes st t.0 waits_then made.state
  pass : AllPass s t.0 k made.lines
  waiting : waits (after t.0 k made.lines) ≡ waits_then
  others : (u : ℕ) → (t.0 == u) ≡ false → IsSilent u made.lines
  stands : waits_then ≡ true → is_some_line (is_of_line s (line_at made.state t.0)) (after t.0 k made.lines).last ≡ true
  left : (u : ℕ) → (t.0 == u) ≡ false → is_waiting (status_of st u) ≡ true → LeavesLeft st made.state.remainders u
  owes : delivers (get made.state.debts t.0) ≡ true → ⊥
  wokens : (u : ℕ) → (t.0 == u) ≡ false → delivers (get made.state.debts u) ≡ true → (j : Known) → (delivers (get st.debts u) ≡ true → j.woken ≡ true) → (after u j made.lines).woken ≡ true
  lives : Lives st → Lives made.state

comes_not_owing : (st after : State) (t : ℕ) (b : Bool) → b ≡ false → Comes st t b after → delivers (get after.debts t) ≡ true → ⊥
comes_not_owing st after t b e c h =
    not_owing (get after.debts t) (get after.rows.seats t) (get after.conds.waits t) (c.waiting t ∙ ap (λ x. cond x b (is_waiting (status_of st t))) (eq-eqb t t refl) ∙ e) (c.order.none_astray t) h

-- A turn in which the thread doesn't wait then.
turn_by_lines : (s : Script) (st : State) (t : Tid) (k : Known) (made : Made) → AllPass s t.0 k made.lines → waits (after t.0 k made.lines) ≡ false → ((u : ℕ) → (t.0 == u) ≡ false → IsSilent u made.lines)
    → Comes st t.0 false made.state → Others st t.0 made.state.debts made.state.remainders → (Lives st → Lives made.state) → TurnMakes s st t k made
turn_by_lines s st t k made p w silent c o l = record {
  waits_then = false;
  comes = c;
  pass = p;
  waiting = w;
  others = silent;
  stands = λ e. absurd (false≢true e);
  left = o.left;
  owes = comes_not_owing st made.state t.0 false refl c;
  wokens = λ u n e j h. silent_woken u j made.lines (silent u n) (h (only_left (delivers (get st.debts u)) (o.debts u e)));
  lives = l;
}

spoken : (s : Script) (st : State) (t : Tid) (k : Known) (made : Made) (ws : List What) → made.lines ≡ map (thread_line t) ws → AreQuiet ws → waits k ≡ false → Comes st t.0 false made.state → Others st t.0 made.state.debts made.state.remainders
    → (Lives st → Lives made.state) → TurnMakes s st t k made
spoken s st t k made ws e q w c o l =
    let x : ReadsCalmly s t.0 k made.lines = calm_reads s t.0 k made.lines w (subst (λ es. AllLines (IsCalm t.0) es) (sym e) (quiet_calm t.0 t ws q)) in
    turn_by_lines s st t k made x.pass x.calm (λ u n. subst (IsSilent u) (sym e) (others_silent u t ws n)) c o l

one_quiet : (w : What) → is_waiting_call w ≡ false → is_return w ≡ false → AreQuiet (w ∷ [])
one_quiet w e f = (record { waiting = e; returning = f }, tt)

not_next : (st : State) (u : ℕ) → InOrder st → is_waiting (status_of st u) ≡ true → st.threads.next ≡ u → ⊥
not_next st u order w e = false≢true (sym (ap is_waiting (sym (ap (status_of st) e) ∙ order.fresh st.threads.next (omega arith))) ∙ w)

at_spot : (s : Script) (r : Remainder) (h : Spot) → StandsIn s r → place_in r.items ≡ At h → IsSpot (lines_of s) h
at_spot s r h has e = subst (IsPlace (lines_of s)) e (place_stands (lines_of s) r.items has.items)

line_is : (r : Remainder) (h : Spot) → place_in r.items ≡ At h → unwrap_or (line_of_next r) 0 ≡ h.line
line_is r h e = ap (λ p. unwrap_or (line_in p) 0) e

module _ (s : Script) (st : State) (t : Tid) (k : Known) (run : HasRun st t.0) (calls : IsCalling st t.0) (order : InOrder st) (calm : waits k ≡ false) where
  written_comes : (o : Option (NameId × ℤ)) → Comes st t.0 false (written_to st o)
  written_comes None = leaves_come st st t.0 calls order refl (λ u. refl)
  written_comes (Some w) = leaves_come st (written_to st (Some w)) t.0 calls order refl (λ u. refl)

  written_others : (o : Option (NameId × ℤ)) (r : Remainder) → Others st t.0 (written_to st o).debts (put (written_to st o).remainders t.0 r)
  written_others None r = others_moved st t.0 st.debts r (same_no_new st.debts nobody)
  written_others (Some w) r = others_moved st t.0 st.debts r (same_no_new st.debts nobody)

  written_lives : (o : Option (NameId × ℤ)) → Lives st → Lives (written_to st o)
  written_lives None l = l
  written_lives (Some w) l = l

  same_comes : ComesIn st t.0 false st.debts st.rows.seats st.conds.waits st.threads.next
  same_comes = leaves_come st st t.0 calls order refl (λ u. refl)

  same_others : (r : Remainder) → Others st t.0 st.debts (put st.remainders t.0 r)
  same_others r = others_moved st t.0 st.debts r (same_no_new st.debts nobody)

  called_turn : (g : Setting) (call : DceCall) (r : Remainder) (values : Values) → ((ns : List ℤ) → values ≡ Ok ns → AreValues call ns)
      → ((ns : List ℤ) (y : Reply) → AreValues call ns → is_of_line s (unwrap_or (line_of_next r) 0) (what.Call (shape_of call).word (arguments call ns) y) ≡ true) → TurnMakes s st t k (called s st t g call r values)
  called_turn g call r (Ok ns) v l =
      let o : Answered = answered s st t call ns in
      let are : AreValues call ns = v ns refl in
      let x : Reads s t.0 k (call_lines t g call ns o.runs r o.gifts o.reply) (is_blocks o.reply) = call_reads s t g call ns o.runs r o.gifts k o.reply calm in
      let c : Comes st t.0 (is_blocks o.reply) o.state = answered_comes s st t call ns calls order in
      let debts : NoNew st.debts o.state.debts (λ u. is_wakes (cancel_of u (what.Call (shape_of call).word (arguments call ns) o.reply))) = answered_no_new s st t call ns are in
      record {
        waits_then = is_blocks o.reply;
        comes = c;
        pass = x.pass;
        waiting = x.waiting;
        others = λ u n. call_silent s t g call ns o.runs r o.gifts u o.reply n;
        stands = call_stands s t g call ns o.runs r o.gifts k o.state.remainders o.reply calm (l ns o.reply are);
        left = λ u n w. put_left o.state.remainders t.0 u (after_reply g call o.runs r o.reply).to false n (unlike t.0 u n) ∙ answered_left s st t call ns u (not_next st u order w);
        owes = call_owes t.0 (shape_of call).word (arguments call ns) o.reply (get st.debts t.0) (get o.state.debts t.0) (debts t.0) calls.caller.owes_nothing (λ e h. comes_not_owing st o.state t.0 (is_blocks o.reply) e c h);
        wokens = λ u n e j h. call_wakes s t g call ns o.runs r o.gifts u o.reply j (delivers (get st.debts u)) n (debts u e) h;
        lives = answered_lives s st t call ns calls (order.fresh st.threads.next (omega arith));
      }
  called_turn g call r (Err x) v l = spoken s st t k _ (raised x r).lines refl (one_quiet _ refl refl) calm same_comes (same_others (raised x r).to) (λ l. l)

  shared_turn : (g : Setting) (r : Remainder) (h : Spot) (act : Act) → act_at h ≡ act → StandsIn s r → place_in r.items ≡ At h → TurnMakes s st t k (shared_made s st t g r act)
  shared_turn g r h (Asks call) a has e =
      called_turn g call r (asked g (shared_values st) call r) (λ ns i. asked_values g (shared_values st) call r ns i)
      (λ ns y v. ap (λ n. is_of_line s n (what.Call (shape_of call).word (arguments call ns) y)) (line_is r h e) ∙ call_of_line s h.line h.stmt h.rest call ns y (at_spot s r h has e).here a v)
  shared_turn g r h _ a has e =
      spoken s st t k _ (shared_step g (shared_values st) r).lines refl (shared_is_quiet g (shared_values st) r) calm (written_comes (written g (shared_values st) r)) (written_others (written g (shared_values st) r) (shared_step g (shared_values st) r).to) (written_lives (written g (shared_values st) r))

  end_turn : (g : Setting) (r : Remainder) (o : NextDestructor) (c : Option DestructorCall) → TurnMakes s st t k (end_made st t g r o c)
  end_turn g r o (Some c) = spoken s st t k (end_made st t g r o (Some c)) (begins_destructor g c.0 c.1 c.2 r).lines refl (one_quiet _ refl refl) calm same_comes (same_others (begins_destructor g c.0 c.1 c.2 r).to) (λ l. l)
  end_turn g r o None =
      let f : Freed = free_row (rank_of st) st.rows (row.Join t) in
      spoken s st t k (end_made st t g r o None) (what.End r.value ∷ []) refl (one_quiet _ refl refl) calm (ended_comes st t (Return (reply.Value r.value)) calls order)
      (record { left = λ u n w. at_cut st.remainders t.0 u nothing_left ∙ ap (λ b. cond b nothing_left (at st.remainders u nothing_left)) n; debts = all_no_new f.woken st.debts (Return (reply.Value r.value)) refl })
      (ended_lives st t (all_owe st.debts (Return (reply.Value r.value)) f.woken) (leave f.rows t).seats r.value (ended_goes st t (Return (reply.Value r.value)) calls (runs_still st t run.seat calls run.at run.runs)))

  handed_others : (o : once.Undone) (w : Option Tid) (r : Remainder) → Others st t.0 (handed_on st o w).debts (put (handed_on st o w).remainders t.0 r)
  handed_others o None r = same_others r
  handed_others o (Some w) r = others_moved st t.0 (put st.debts w.0 Running) r (put_no_new st.debts w.0 Running nobody refl)

  handed_living : (o : once.Undone) (w : Option Tid) → KeepsLiving st.threads.records (handed_on st o w).threads.records
  handed_living o None u l = l
  handed_living o (Some w) u l = l

  halt_turn : (g : Setting) (r : Remainder) (halt : Halt) → StandsIn s r → HaltFits r halt → TurnMakes s st t k (halt_made s st t g r halt)
  halt_turn g r Delivers has f = spoken s st t k (halt_made s st t g r Delivers) (delivered r).lines refl (one_quiet _ refl refl) calm same_comes (same_others (delivered r).to)
      (stay_living st.debts st.debts st.rows.seats st.rows.seats st.conds.waits st.conds.waits st.threads.records (deliver st.threads t).records (λ u. refl) (deliver_living st.threads t))
  halt_turn g r (Shares h) has f = shared_turn g r h (act_at h) refl has f
  halt_turn g r (Undoes block m) has f =
      let o : once.Undone = once.undone st.onces st.rows block in spoken s st t k (halt_made s st t g r (Undoes block m)) m.lines refl f calm (undone_comes st block t.0 calls order) (handed_others o o.runner m.to)
      (stay_living st.debts (handed_on st o o.runner).debts st.rows.seats (handed_on st o o.runner).rows.seats st.conds.waits (handed_on st o o.runner).conds.waits st.threads.records (handed_on st o o.runner).threads.records (handed_stays st o.onces o.runner block t.0 calls refl) (handed_living o o.runner))
  halt_turn g r (Completes block m) has f =
      let x : Freed = free_row (rank_of st) st.rows (row.Once block) in
      spoken s st t k (halt_made s st t g r (Completes block m)) m.lines refl f calm
      (leaves_come st (halt_made s st t g r (Completes block m)).state t.0 calls order refl (free_row_stays st.debts st.conds.waits st.rows (row.Once block) (Return reply.Done) (rank_of st) calls.none_astray calls.sorted refl refl))
      (others_moved st t.0 (all_owe st.debts (Return reply.Done) x.woken) m.to (all_no_new x.woken st.debts (Return reply.Done) refl))
      (stay_living st.debts (all_owe st.debts (Return reply.Done) x.woken) st.rows.seats x.rows.seats st.conds.waits st.conds.waits st.threads.records st.threads.records (free_row_stays st.debts st.conds.waits st.rows (row.Once block) (Return reply.Done) (rank_of st) calls.none_astray calls.sorted refl refl) (λ u l. l))
  halt_turn g r Ends has f = let o : NextDestructor = next_destructor st.onces t in end_turn g r o o.call
  halt_turn g r Pauses has f = spoken s st t k (halt_made s st t g r Pauses) [] refl tt calm same_comes (same_others r) (λ l. l)

run_turn : (s : Script) (st : State) (t : Tid) (k : Known) (g : Setting) (run : Run) → HasRun st t.0 → IsCalling st t.0 → InOrder st → waits k ≡ false → StandsIn s run.to → RunFits run → TurnMakes s st t k (run_made s st t g run)
run_turn s st t k g run seated calls order calm has f =
    let first : List Entry = map (thread_line t) run.lines in
    let x : ReadsCalmly s t.0 k first = calm_reads s t.0 k first calm (quiet_calm t.0 t run.lines f.lines) in
    let halted : Made = halt_made s st t g run.to run.halt in
    let m : TurnMakes s st t (after t.0 k first) halted = halt_turn s st t (after t.0 k first) seated calls order x.calm g run.to run.halt has f.halt in
    let last : List Entry = halted.lines in
    record {
      waits_then = m.waits_then;
      comes = m.comes;
      pass = pass_append s t.0 k first last x.pass m.pass;
      waiting = ap waits (after_append t.0 k first last) ∙ m.waiting;
      others = λ u n. silent_append u first last (others_silent u t run.lines n) (m.others u n);
      stands = λ e. ap (λ (j : Known). is_some_line (is_of_line s (line_at halted.state t.0)) j.last) (after_append t.0 k first last) ∙ m.stands e;
      left = m.left;
      owes = m.owes;
      wokens = λ u n e j h. ap (λ (i : Known). i.woken) (after_append u j first last) ∙ m.wokens u n e (after u j first) (λ i. silent_woken u j first (others_silent u t run.lines n) (h i));
      lives = m.lives;
    }

-- ---- what a thread owes

answered_turn : (s : Script) (st : State) (t : Tid) (k : Known) (made : Made) (w : What) (ws : List What) → made.lines ≡ thread_line t w ∷ map (thread_line t) ws → line_but_gift true w ≡ Some w
    → (is_return w || is_delivery w) ≡ true → is_waiting_call w ≡ false → names_its_statement s k (Some w) ≡ true → is_woken_from_it k (Some w) ≡ true → AreQuiet ws → waits k ≡ true → Comes st t.0 false made.state
    → Others st t.0 made.state.debts made.state.remainders → (Lives st → Lives made.state) → TurnMakes s st t k made
answered_turn s st t k made w ws e g a n names woken q i c o l =
    let es : List Entry = thread_line t w ∷ map (thread_line t) ws in
    let x : ReadsCalmly s t.0 k es = answer_reads s t k w (map (thread_line t) ws) g a n i names woken (quiet_calm t.0 t ws q) in
    turn_by_lines s st t k made (subst (AllPass s t.0 k) (sym e) x.pass) (subst (λ es. waits (after t.0 k es) ≡ false) (sym e) x.calm) (λ u n. subst (IsSilent u) (sym e) (others_silent u t (w ∷ ws) n)) c o l

begun_by_quiet : (g : Setting) (act : Act) (m : Move) → AreQuiet m.lines → AreQuiet (begun_by g act m).lines
begun_by_quiet g (Asks call) m h = routine_quiet g call m h
begun_by_quiet g _ m h = h

begun_quiet : (g : Setting) (p : Place) (m : Move) → AreQuiet m.lines → AreQuiet (begun_at g p m).lines
begun_quiet g (At x) m h = begun_by_quiet g (act_at x) m h
begun_quiet g _ m h = h

implied : (a b : Bool) → b ≡ true → implies a b ≡ true
implied true b e = e
implied false b e = refl

cut_no_new : (d : Table Debt) (t : ℕ) → NoNew d (cut d t) nobody
cut_no_new d t u e = either_left (delivers (get d u)) false (still (eqb t u) (get d u) (sym (ap delivers (get_cut d t u)) ∙ e))
  where
    still : (b : Bool) (o : Option Debt) → delivers (cond b None o) ≡ true → delivers o ≡ true
    still true o e = absurd (cc)
    still false o e = e

debt_turn : (s : Script) (st : State) (t : Tid) (k : Known) (g : Setting) (r : Remainder) (d : Debt) → waits k ≡ true → is_some_line (is_of_line s (unwrap_or (line_of_next r) 0)) k.last ≡ true → (delivers (Some d) ≡ true → k.woken ≡ true)
    → (let now : State = record st { debts = cut st.debts t.0 } in Comes st t.0 false now → (Lives st → Lives now) → TurnMakes s st t k (debt_made now t g r d))
debt_turn s st t k g r (Return y) w l o c p =
    let now : State = record st { debts = cut st.debts t.0 } in
    answered_turn s st t k (debt_made now t g r (Return y)) (what.Ret y) (replied g y r).lines refl refl refl refl refl refl (replied_is_quiet g y r) w c (others_moved st t.0 (cut st.debts t.0) (replied g y r).to (cut_no_new st.debts t.0)) p
debt_turn s st t k g r Delivery w l o c p =
    let now : State = record st { debts = cut st.debts t.0 } in
    answered_turn s st t k (debt_made now t g r Delivery) _ [] refl refl refl refl (implied (waits k) (is_some_line (is_of_line s (unwrap_or (line_of_next r) 0)) k.last) l) (implied (waits k) k.woken (o refl)) tt w c
    (others_moved st t.0 (cut st.debts t.0) (delivered r).to (cut_no_new st.debts t.0))
    (λ x. stay_living now.debts now.debts st.rows.seats st.rows.seats st.conds.waits st.conds.waits st.threads.records (deliver st.threads t).records (λ u. refl) (deliver_living st.threads t) (p x))
debt_turn s st t k g r Running w l o c p =
    let now : State = record st { debts = cut st.debts t.0 } in
    let m : Move = begun_at g (place_in r.items) (replied g reply.Done r) in
    answered_turn s st t k (debt_made now t g r Running) (what.Ret reply.Done) m.lines refl refl refl refl refl refl (begun_quiet g (place_in r.items) (replied g reply.Done r) (replied_is_quiet g reply.Done r)) w c
    (others_moved st t.0 (cut st.debts t.0) m.to (cut_no_new st.debts t.0)) p

pub owing_waits : (o : Option Debt) (x : Option Seat) (z : Option Wait) (d : Debt) → o ≡ Some d → z ≡ None → is_waiting (status o x z) ≡ true
owing_waits None x z d e w = absurd (cc)
owing_waits (Some y) x None d e w = refl
owing_waits (Some y) x (Some u) d e w = absurd (cc)

-- What is known of a thread before its turn.
record IsKnown (s : Script) (st : State) (t : ℕ) (k : Known) : Type 0 where
  waiting : waits k ≡ is_waiting (status_of st t)
  stands : is_waiting (status_of st t) ≡ true → is_some_line (is_of_line s (line_at st t)) k.last ≡ true
  woken : delivers (get st.debts t) ≡ true → k.woken ≡ true

waiting_there : (y : Status) → is_waiting y ≡ true → y ≡ Absent → ⊥
waiting_there y w e = false≢true (sym (ap is_waiting e) ∙ w)

by_turn : (s : Script) (st : State) (t : Tid) (k : Known) (d : Option Debt) → debt_of st t ≡ d → HasRun st t.0 → InOrder st → IsCanonical st.rows.seats → ((u : ℕ) (r : Remainder) → get st.remainders u ≡ Some r → StandsIn s r) → IsKnown s st t.0 k
    → TurnMakes s st t k (turn_by s st t d)
by_turn s st t k (Some d) e run order sorted has i =
    let w : is_waiting (status_of st t.0) ≡ true = owing_waits (get st.debts t.0) (get st.rows.seats t.0) (get st.conds.waits t.0) d e (run_wait st t.0 run order) in
    debt_turn s st t k (setting_of s st t) (remainder_of st t) d (i.waiting ∙ w) (i.stands w) (λ h. i.woken (ap delivers e ∙ h)) (paid_comes st t.0 d run order e)
    (goes_living st (record st { debts = cut st.debts t.0 }) t.0 Calm (waiting_there (status_of st t.0) w) (paid_goes st t.0 run order) (λ u l. l))
by_turn s st t k None e run order sorted has i =
    let calls : IsCalling st t.0 = calls_calmly st t.0 run order sorted e in
    let g : Setting = setting_of s st t in
    run_turn s st t k g (run_of most_steps g (mode_at st.threads t) (remainder_of st t)) run calls order (i.waiting ∙ ap is_waiting calls.caller.calm)
    (run_stands g most_steps (mode_at st.threads t) (remainder_of st t) (remainder_stands g.script st t has)) (run_fits most_steps g (mode_at st.threads t) (remainder_of st t))

kept_turn : (s : Script) (st : State) (t : Tid) (k : Known) (made : Made) → TurnMakes s st t k made → TurnMakes s st t k (kept t made)
kept_turn s st t k made m = record {
  waits_then = m.waits_then;
  comes = (let now : State = made.state in let rows : Rows = (kept t made).state.rows in
      comes_stays st t.0 m.waits_then now.debts now.debts now.rows.seats rows.seats now.conds.waits now.conds.waits now.threads.next m.comes (keeps_stays now.debts now.conds.waits now.rows t (is_fifo_in (record_at now.threads t))));
  pass = m.pass;
  waiting = m.waiting;
  others = m.others;
  stands = m.stands;
  left = m.left;
  owes = m.owes;
  wokens = m.wokens;
  lives = λ l. (let now : State = made.state in stay_living now.debts now.debts now.rows.seats (kept t made).state.rows.seats now.conds.waits now.conds.waits now.threads.records now.threads.records (keeps_stays now.debts now.conds.waits now.rows t (is_fifo_in (record_at now.threads t))) (λ u l. l) (m.lives l));
}

turn_makes : (s : Script) (st : State) (t : Tid) (k : Known) → HasRun st t.0 → InOrder st → IsCanonical st.rows.seats → ((u : ℕ) (r : Remainder) → get st.remainders u ≡ Some r → StandsIn s r) → IsKnown s st t.0 k → TurnMakes s st t k (turn_of s st t)
unfolding turn_of
turn_makes s st t k run order sorted has i = kept_turn s st t k (turn_by s st t (debt_of st t)) (by_turn s st t k (debt_of st t) refl run order sorted has i)

-- ---- histories

-- The lines tell who waits or owes something, where it goes on and what woke it; the statuses are in order, and calls that
-- wait were answered.
pub record Agrees (s : Script) (st : State) (entries : List Entry) : Type 0 where
  pub order : InOrder st
  pub waiting : (u : ℕ) → waits (known u entries) ≡ is_waiting (status_of st u)
  pub pass : (u : ℕ) → AllPass s u known_at_first entries
  pub stands : (u : ℕ) → is_waiting (status_of st u) ≡ true → is_some_line (is_of_line s (line_at st u)) (known u entries).last ≡ true
  pub woken : (u : ℕ) → delivers (get st.debts u) ≡ true → (known u entries).woken ≡ true
  pub lives : Lives st

module _ (s : Script) (st : State) (entries : List Entry) (t : Tid) (made : Made) (a : Agrees s st entries) (m : TurnMakes s st t (known t.0 entries) made) where
  own_waits : is_waiting (status_of made.state t.0) ≡ m.waits_then
  own_waits = m.comes.waiting t.0 ∙ ap (λ b. cond b m.waits_then (is_waiting (status_of st t.0))) (eq-eqb t.0 t.0 refl)

  other_waits : (u : ℕ) → eqb t.0 u ≡ false → is_waiting (status_of made.state u) ≡ is_waiting (status_of st u)
  other_waits u e = m.comes.waiting u ∙ ap (λ b. cond b m.waits_then (is_waiting (status_of st u))) e

  turn_waits : (u : ℕ) (b : Bool) → eqb t.0 u ≡ b → waits (known u (entries ++ made.lines)) ≡ is_waiting (status_of made.state u)
  turn_waits u true e =
      subst (λ v. waits (known v (entries ++ made.lines)) ≡ is_waiting (status_of made.state v)) (eqb-true t.0 u e)
      (ap waits (after_append t.0 known_at_first entries made.lines) ∙ m.waiting ∙ sym own_waits)
  turn_waits u false e = ap waits (after_append u known_at_first entries made.lines) ∙ silent_waits u (known u entries) made.lines (m.others u e) ∙ a.waiting u ∙ sym (other_waits u e)

  turn_passes : (u : ℕ) (b : Bool) → eqb t.0 u ≡ b → AllPass s u known_at_first (entries ++ made.lines)
  turn_passes u true e = subst (λ v. AllPass s v known_at_first (entries ++ made.lines)) (eqb-true t.0 u e) (pass_append s t.0 known_at_first entries made.lines (a.pass t.0) m.pass)
  turn_passes u false e = pass_append s u known_at_first entries made.lines (a.pass u) (silent_passes s u (known u entries) made.lines (m.others u e))

  -- What is known of the thread's last line.
  abbrev StandsThen : ℕ → Type 0
  StandsThen u = is_waiting (status_of made.state u) ≡ true → is_some_line (is_of_line s (line_at made.state u)) (known u (entries ++ made.lines)).last ≡ true

  turn_stands : (u : ℕ) (b : Bool) → eqb t.0 u ≡ b → StandsThen u
  turn_stands u true e =
      subst StandsThen (eqb-true t.0 u e) (λ w. ap (λ (j : Known). is_some_line (is_of_line s (line_at made.state t.0)) j.last) (after_append t.0 known_at_first entries made.lines) ∙ m.stands (sym own_waits ∙ w))
  turn_stands u false e = λ w.
      let before : is_waiting (status_of st u) ≡ true = sym (other_waits u e) ∙ w in
      ap (λ (j : Known). is_some_line (is_of_line s (line_at made.state u)) j.last) (after_append u known_at_first entries made.lines)
      ∙ ap (is_some_line (is_of_line s (line_at made.state u))) (silent_last u (known u entries) made.lines (m.others u e))
      ∙ ap (λ (r : Remainder). is_some_line (is_of_line s (unwrap_or (line_of_next r) 0)) (known u entries).last) (m.left u e before) ∙ a.stands u before

  abbrev WokenThen : ℕ → Type 0
  WokenThen u = delivers (get made.state.debts u) ≡ true → (known u (entries ++ made.lines)).woken ≡ true

  turn_woken : (u : ℕ) (b : Bool) → eqb t.0 u ≡ b → WokenThen u
  turn_woken u true e = subst WokenThen (eqb-true t.0 u e) (λ h. absurd (m.owes h))
  turn_woken u false e = λ h. ap (λ (j : Known). j.woken) (after_append u known_at_first entries made.lines) ∙ m.wokens u e h (known u entries) (a.woken u)

  turn_agrees : Agrees s made.state (entries ++ made.lines)
  turn_agrees = record {
    order = m.comes.order;
    waiting = λ u. turn_waits u (eqb t.0 u) refl;
    pass = λ u. turn_passes u (eqb t.0 u) refl;
    stands = λ u. turn_stands u (eqb t.0 u) refl;
    woken = λ u. turn_woken u (eqb t.0 u) refl;
    lives = m.lives a.lives;
  }

-- An event in which no thread does anything.
silent_agrees : (s : Script) (st : State) (entries : List Entry) (made : Made) → Agrees s st entries → Leaves st made.state → made.state.threads.next ≡ st.threads.next → made.state.remainders ≡ st.remainders → NoNew st.debts made.state.debts nobody → KeepsLiving st.threads.records made.state.threads.records
    → ((u : ℕ) → IsSilent u made.lines) → Agrees s made.state (entries ++ made.lines)
silent_agrees s st entries made a h e l d r silent = record {
  order = record {
    none_astray = stays_so st.debts made.state.debts st.rows.seats made.state.rows.seats st.conds.waits made.state.conds.waits a.order.none_astray h;
    fresh = λ u le. h u ∙ a.order.fresh u (subst (λ n. n ≤ u) e le);
  };
  waiting = λ u. ap waits (after_append u known_at_first entries made.lines) ∙ silent_waits u (known u entries) made.lines (silent u) ∙ a.waiting u ∙ sym (ap is_waiting (h u));
  pass = λ u. pass_append s u known_at_first entries made.lines (a.pass u) (silent_passes s u (known u entries) made.lines (silent u));
  stands = λ u w.
      ap (λ (j : Known). is_some_line (is_of_line s (line_at made.state u)) j.last) (after_append u known_at_first entries made.lines)
      ∙ ap (is_some_line (is_of_line s (line_at made.state u))) (silent_last u (known u entries) made.lines (silent u))
      ∙ ap (λ (m : Table Remainder). is_some_line (is_of_line s (unwrap_or (line_of_next (at m u nothing_left)) 0)) (known u entries).last) l ∙ a.stands u (sym (ap is_waiting (h u)) ∙ w);
  woken = λ u i. ap (λ (j : Known). j.woken) (after_append u known_at_first entries made.lines) ∙ silent_woken u (known u entries) made.lines (silent u) (a.woken u (only_left (delivers (get st.debts u)) (d u i)));
  lives = stay_living st.debts made.state.debts st.rows.seats made.state.rows.seats st.conds.waits made.state.conds.waits st.threads.records made.state.threads.records h r a.lives;
}

module _ (s : Script) (entries : List Entry) where
  -- After this the lines agree.
  abbrev Agree : Made → Type 0
  Agree made = Agrees s made.state (entries ++ made.lines)

  dispatch_agrees : (st : State) (p : ℕ) (o : Option Tid) (made : Made) → IsCanonical st.rows.seats → Agrees s st entries → dispatch_made st p (dispatch st.rows p) o ≡ Some made → Agree made
  dispatch_agrees st p None made h a e = absurd (cc)
  dispatch_agrees st p (Some t) made h a e =
      subst Agree (ap (λ o. unwrap_or o made) e)
      (silent_agrees s st entries _ a (dispatch_stays st.debts st.conds.waits st.rows p h) refl refl (same_no_new st.debts nobody) (λ u l. l) (λ u. (refl, tt)))

  dispatch_if_agrees : (b : Bool) (st : State) (p : ℕ) (made : Made) → IsCanonical st.rows.seats → Agrees s st entries → (if b then dispatch_made st p (dispatch st.rows p) (dispatch st.rows p).taken else None) ≡ Some made → Agree made
  dispatch_if_agrees true st p made h a e = dispatch_agrees st p (dispatch st.rows p).taken made h a e
  dispatch_if_agrees false st p made h a e = absurd (cc)

  turn_if_agrees : (st : State) (p : ℕ) (o : Option Tid) (made : Made) → running st.rows p ≡ o → IsCanonical st.rows.seats → ((u : ℕ) (r : Remainder) → get st.remainders u ≡ Some r → StandsIn s r) → Agrees s st entries → option_map (turn_of s st) o ≡ Some made → Agree made
  turn_if_agrees st p None made is h has a e = absurd (cc)
  turn_if_agrees st p (Some t) made is h has a e =
      subst Agree (ap (λ o. unwrap_or o made) e) (turn_agrees s st entries t (turn_of s st t) a (turn_makes s st t (known t.0 entries) (has_run st p t h is) a.order h has (record { waiting = a.waiting t.0; stands = a.stands t.0; woken = a.woken t.0 })))

  -- ---- the clock

  due_some : (now : ℤ) (o : Option Wait) → has_come now (option_and_then time_of o) ≡ true → is_some o ≡ true
  due_some now None e = absurd (cc)
  due_some now (Some w) e = refl

  pub all_due : (st : State) (now : ℤ) → InOrder st → AllLines (λ (t : Tid). status_of st t.0 ≡ Waiting) (due_first st.conds st.rows now)
  unfolding due
  all_due st now order =
      all_numbers (λ (t : Tid). status_of st t.0 ≡ Waiting) (in_order (due st.conds st.rows now))
      (all_in_order (λ e. status_of st e.0 ≡ Waiting) (due st.conds st.rows now) (those_due st.rows.seats))
    where
      passing : (e : ℕ × Seat) (es : List (ℕ × Seat)) (b : Bool) → is_due st.conds now e.0 ≡ b → AllLines (λ (e : ℕ × Seat). status_of st e.0 ≡ Waiting) es → AllLines (λ (e : ℕ × Seat). status_of st e.0 ≡ Waiting) (if b then e ∷ es else es)
      passing e es true is h = (with_wait_waits (get st.debts e.0) (get st.rows.seats e.0) (get st.conds.waits e.0) (due_some now (get st.conds.waits e.0) is) (order.none_astray e.0), h)
      passing e es false is h = h

      those_due : (seats : Table Seat) → AllLines (λ (e : ℕ × Seat). status_of st e.0 ≡ Waiting) (due st.conds (record { seats = seats; next_arrival = st.rows.next_arrival }) now)
      those_due [] = tt
      those_due (e ∷ es) = passing e _ (is_due st.conds now e.0) refl (those_due es)

  clock_at_agrees : (st : State) (o : Option ℤ) (made : Made) → Agrees s st entries → option_map (clock_to st) o ≡ Some made → Agree made
  clock_at_agrees st None made a e = absurd (cc)
  clock_at_agrees st (Some now) made a e =
      subst Agree (ap (λ o. unwrap_or o made) e)
      (silent_agrees s st entries (clock_to st now) a (expired_stay (due_first st.conds st.rows now) st.debts st.conds st.locks st.rows (rank_of st) (all_due st now a.order)) refl refl (due_no_new (expire_all (rank_of st) st.conds st.locks st.rows now).woken st.debts) (λ u l. l) (λ u. (refl, gifts_silent u _)))

  clock_agrees : (st : State) (b : Bool) (made : Made) → Agrees s st entries → clock_of b st ≡ Some made → Agree made
  clock_agrees st true made a e = absurd (cc)
  clock_agrees st false made a e = clock_at_agrees st (earliest st.conds) made a e

  made_agrees : (n : ℕ) (st : State) (e : Event) (made : Made) → IsCanonical st.rows.seats → ((u : ℕ) (r : Remainder) → get st.remainders u ≡ Some r → StandsIn s r) → Agrees s st entries → made_by s n st e ≡ Some made → Agree made
  unfolding made_by
  made_agrees n st (event.Dispatch p) made h has a e = dispatch_if_agrees (nat_lt p n) st p made h a e
  made_agrees n st (event.Turn p) made h has a e = turn_if_agrees st p (running st.rows p) made refl h has a e
  made_agrees n st event.Clock made h has a e = clock_agrees st (some_can_run st.rows) made a e

-- ---- the opening

nobody_there : (u : ℕ) → status_in none none none u ≡ Absent
nobody_there u = ap (λ d. status d (get none u) (get none u)) (get_none u) ∙ ap (λ x. status None x (get none u)) (get_none u) ∙ ap (status None None) (get_none u)

pub first_status : (s : Script) (u : ℕ) → status_of (opening s) u ≡ cond (eqb 1 u) Calm Absent
first_status s u =
    becomes none none none (opening s).rows.seats none none 1 None _ None (with_known none 1 None (get_none 1)) (with_put none 1 _) (with_known none 1 None (get_none 1)) u ∙ ap (cond (eqb 1 u) Calm) (nobody_there u)

first_not : (b : Bool) → cond b Calm Absent ≡ Astray → ⊥
first_not true e = absurd (cc)
first_not false e = absurd (cc)

first_calm : (b : Bool) → is_waiting (cond b Calm Absent) ≡ false
first_calm true = refl
first_calm false = refl

not_first : (u : ℕ) → 2 ≤ u → eqb 1 u ≡ false
not_first u le = grind (arith, nat_tests)

first_lives : (u : ℕ) (b : Bool) → eqb 1 u ≡ b → (cond (eqb 1 u) Calm Absent ≡ Absent → ⊥) → is_living (cond b (Some (new_thread (thread 1) new_attr.policy new_attr.prio new_attr.frames)) (get none u)) ≡ true
first_lives u true e n = refl
first_lives u false e n = absurd (n (ap (λ b. cond b Calm Absent) e))

opening_agrees : (s : Script) → Agrees s (opening s) []
opening_agrees s = record {
  order = record {
    none_astray = λ u e. first_not (eqb 1 u) (sym (first_status s u) ∙ e);
    fresh = λ u le. first_status s u ∙ ap (λ b. cond b Calm Absent) (not_first u le);
  };
  waiting = λ u. sym (ap is_waiting (first_status s u) ∙ first_calm (eqb 1 u));
  pass = λ u. tt;
  stands = λ u w. absurd (false≢true (sym (ap is_waiting (first_status s u) ∙ first_calm (eqb 1 u)) ∙ w));
  woken = λ u e. absurd (false≢true (sym (ap delivers (get_none u)) ∙ e));
  lives = λ u n. ap is_living (get_put none 1 u _) ∙ first_lives u (eqb 1 u) refl (λ e. n (first_status s u ∙ e));
}

-- In every history the lines agree with the state.
pub agrees : {s : Script} {n : ℕ} {x : Execution} → History s n x → Agrees s x.state x.entries
agrees {s} opened = opening_agrees s
agrees {s} {n} (then_event {x} h open_ e made m) = made_agrees s x.entries n x.state e made (history_canonical h) (left-stands h) (agrees h) m

-- ---- the end of a history

found_living : (x : ℕ × Thread) (o : Option Thread) (b : Bool) → is_live x ≡ false → (is_living o ≡ true → ⊥) → is_living (cond b (Some x.1) o) ≡ true → ⊥
found_living x o true n more h = false≢true (sym n ∙ h)
found_living x o false n more h = more h

no_living_by : (x : ℕ × Thread) (m : Table Thread) (t : ℕ) (b : Bool) → is_live x ≡ b → map (λ e. thread e.0) (if b then x ∷ filter is_live m else filter is_live m) ≡ []
    → (map (λ e. thread e.0) (filter is_live m) ≡ [] → is_living (get m t) ≡ true → ⊥) → is_living (cond (eqb x.0 t) (Some x.1) (get m t)) ≡ true → ⊥
no_living_by x m t true i e more h = absurd (cc)
no_living_by x m t false i e more h = found_living x (get m t) (eqb x.0 t) i (more e) h

-- Where no thread lives, none does.
no_living : (m : Table Thread) (t : ℕ) → map (λ e. thread e.0) (filter is_live m) ≡ [] → is_living (get m t) ≡ true → ⊥
no_living [] t e l = false≢true (sym (ap is_living (get_empty t)) ∙ l)
no_living (x ∷ m) t e l = no_living_by x m t (is_live x) refl e (no_living m t) (sym (ap is_living (get_cons x m t)) ∙ l)

finished_empty : (ts : List Tid) (going full : Bool) → StopsWith (stop_with ts going full) stops.Finished → ts ≡ []
finished_empty [] going full h = refl
finished_empty (t ∷ ts) false full h = absurd (cc)
finished_empty (t ∷ ts) true true h = absurd (cc)
finished_empty (t ∷ ts) true false h = absurd (cc)

finished_live : (s : Script) (st : State) (count : ℕ) → StopsWith (stop_at s st count) stops.Finished → live st.threads ≡ []
unfolding stop_at
finished_live s st count h = finished_empty (live st.threads) (goes_on st) (nat_le (limit_of s) count) h

none_waits : (st : State) (t : ℕ) (b : Bool) → is_waiting (status_of st t) ≡ b → Lives st → live st.threads ≡ [] → not b ≡ true
none_waits st t true e l nobody_lives = absurd (no_living st.threads.records t nobody_lives (l t (waiting_there (status_of st t) e)))
none_waits st t false e l nobody_lives = refl

end_answered : (s : Script) (st : State) (entries : List Entry) (stop : Stop) (t : ℕ) → Agrees s st entries → StopsWith (stop_at s st (length entries)) stop → ends_answered stop t entries ≡ true
end_answered s st entries stops.Finished t a h = ap not (a.waiting t) ∙ none_waits st t (is_waiting (status_of st t)) refl a.lives (finished_live s st (length entries) h)
end_answered s st entries (stops.Deadlock n u) t a h = refl
end_answered s st entries stops.Limit t a h = refl
end_answered s st entries stops.Memory t a h = refl

-- So in every legal history each call that waits is answered once.
pub legal-answered : {s : Script} {n : ℕ} {entries : List Entry} {stop : Stop} → Legal s n entries stop → CallsOnce s entries stop
legal-answered {s} {n} {entries} {stop} h = let a : Agrees s h.execution.state entries = subst (λ (es : List Entry). Agrees s h.execution.state es) h.lines (agrees h.history) in record {
  answered = λ t. all_answered s t entries (a.pass t);
  returns = λ t. all_return s t entries (a.pass t);
  statements = λ t. all_named s t entries (a.pass t);
  woken = λ t. all_woken s t entries (a.pass t);
  finished = λ t. end_answered s h.execution.state entries stop t a h.stops;
}
