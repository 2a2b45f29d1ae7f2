-- A thread's own turn, read along itself.
use Rattle.std.proofs.Common.{◌≡◌, ℕ, suc, ℤ, Bool, true, false, cond, ◌==◌, List, [], ◌∷◌, ◌++◌, map, Option, Some, None, Ok, Err, refl, sym, ap, ◌∙◌, subst}
use Rattle.std.proofs.lemmas.Bool.{eqb-true, eq-eqb, false≢true}
use Rattle.std.specs.Prelude.{if◌then◌else◌, int_le, is_some, unwrap_or, ◌+ℤ◌}
use Rattle.std.specs.Option.{option_map}
use Rattle.thr_values.specs.declared.number.NameId.{NameId}
use Rattle.thr_values.specs.declared.number.Tid.{Tid}
use Rattle.thr_values.specs.declared.call.Arg.{Arg}
use Rattle.thr_values.specs.declared.call.Arg.TheVariants as arg
use Rattle.thr_values.specs.declared.call.CallWord.{CallWord}
use Rattle.thr_values.specs.declared.call.CallWord.TheVariants as word
use Rattle.thr_values.specs.declared.history.What.{What}
use Rattle.thr_values.specs.declared.history.What.TheVariants as what
use Rattle.thr_values.specs.declared.reply.Effect.TheVariants as effect
use Rattle.thr_values.specs.declared.reply.Reply.{Reply}
use Rattle.thr_values.specs.declared.reply.Reply.TheVariants as reply
use Rattle.thr_values.specs.declared.scheduling.Mode.{Mode}
use Rattle.thr_syntax.specs.declared.dce.DceCall.{DceCall}
use Rattle.thr_syntax.specs.declared.dce.DceCall.TheVariants as dce
use Rattle.thr_syntax.specs.declared.tree.Script.{Script}
use Rattle.thr_remainder.specs.Acts.{Act, Asks}
use Rattle.thr_remainder.specs.Calls.{shape_of, arguments}
use Rattle.thr_remainder.specs.Remainders.{Setting, Remainder, place_in, act_at}
use Rattle.thr_remainder.specs.Starts.{raised, begins_destructor}
use Rattle.thr_remainder.specs.Steps.{shared_step, written}
use Rattle.thr_remainder.specs.Replies.{Values, asked, replied, is_eagain}
use Rattle.thr_remainder.specs.Runs.{Halt, Delivers, Shares, Undoes, Completes, Ends, Pauses, Run, run_of, most_steps}
use Rattle.thr_parts.specs.declared.row.RowId.{RowId}
use Rattle.thr_parts.specs.declared.row.RowId.TheVariants as row
use Rattle.thr_parts.specs.declared.wait.Wait.{Wait}
use Rattle.thr_parts.specs.declared.wait.Wait.TheVariants.{Cond, Delay}
use Rattle.thr_parts.specs.Tables.{Table, get, put, put_if, cut, keep_if, IsCanonical}
use Rattle.thr_parts.specs.Replies.{is_blocks}
use Rattle.thr_parts.specs.Rows.{thread, row_at}
use Rattle.thr_parts.specs.Threads.{ThreadsReply, natural, record_at}
use Rattle.thr_parts.specs.Cancels as cancels
use Rattle.thr_parts.specs.Conditions.{Conds, Waited, wait_of, wait, timedwait, wait_reply, timedwait_reply, delay_reply}
use Rattle.thr_parts.specs.Waking.{thread_in, some_if, signal, Signalled}
use Rattle.thr_parts.specs.Keys.{DestructorCall, NextDestructor, next_destructor}
use Rattle.thr_parts.specs.OnceBlocks as once
use Rattle.thr_parts.proofs.TableLaws.{get_put}
use Rattle.thr_conds.specs.Agreement.{WaitsAgree}
use Rattle.thr_laws.specs.Lines.{implies, line_but_gift, own_line, is_delivery}
use Rattle.thr_laws.specs.Lines as lines
use Rattle.thr_laws.specs.CancelLaw.{is_done}
use Rattle.thr_laws.proofs.ReadingLaws.{and_both}
use Rattle.thr_model.specs.States.{State, Debt, Return, Delivery, Running, rank_of, remainder_of, setting_of, debt_of, shared_values}
use Rattle.thr_model.specs.Calls.{Answered, answered, signals_one, cancelled, first}
use Rattle.thr_model.specs.Turns.{Made, thread_line, gift_lines, moved, after_reply, called, written_to, shared_made, handed_on, end_made, begun_at, debt_made, halt_made, run_made, turn_by, kept, is_fifo_in, turn_of}
use Rattle.thr_answers.proofs.StatusTurns.{InOrder, HasRun, run_wait}
use Rattle.thr_answers.proofs.CallLines.{AreValues, asked_values}
use Rattle.thr_cancels.proofs.Seats.{keeps_moves}
use Rattle.thr_cancels.proofs.Owed.{without_free, wake_all_free}
use Rattle.thr_cancels.proofs.InnerLines.{AreInner, replied_inner, begun_inner, shared_inner, HaltFits, RunFits, run_fits}
use Rattle.thr_ports.specs.Signals.{Waiter, Elsewhere, StandsOn, SignalCame, TimeCame, CancelCame, standing_on, standing_until, waits_by, after_line, signalled_in, takes_a_waiter, returns, goes_on, goes_on_with}
use Rattle.thr_ports.proofs.Marking.{taken_in, mark, Reads, reads_then, reads_append, reads_idle, reads_inner, is_call_line, no_call_says, own_passes, own_after, gifts_idle}
use Rattle.thr_ports.proofs.Resting.{standing, none_some, debt_after, Knows, moved_calm, never_next}
use Rattle.thr_ports.proofs.Resting as resting
use Rattle.thr_ports.proofs.CallsCome.{call_line}
use Rattle.thr_ports.proofs.CallsRest.{given_waits, answered_wait}
use Rattle.thr_ports.proofs.OthersTurns.{after_inner}
use Rattle.thr_ports.proofs.Signalling.{taken_stands}

-- ---- where the thread waits nowhere

-- The state keeps no wait on a condition.
pub no_wait : (u : ℕ) (st : State) → get st.conds.waits u ≡ None → Knows u Elsewhere st
no_wait u st e = record { waits = ap standing e; owes = λ d f. absurd (none_some d f) }

-- ---- waits that begin

put_here : (v : Table Wait) (t : ℕ) (x : Wait) → get (put v t x) t ≡ Some x
put_here v t x = get_put v t t x ∙ ap (λ b. cond b (Some x) (get v t)) (eq-eqb t t refl)

begun : (v : Table Wait) (t : ℕ) (x : Wait) (b : Bool) → get v t ≡ None → standing (get (put_if v t (keep_if b (Some x))) t) ≡ (if b then standing (Some x) else Elsewhere)
begun v t x true e = ap standing (put_here v t x)
begun v t x false e = ap standing e

-- What a call makes of its caller, by its reply.
abbrev after_call : DceCall → List ℤ → Bool → Waiter
after_call call ns b = if b then waits_by (shape_of call).word (arguments call ns) else Elsewhere

told_if : (b : Bool) (c : NameId) (until : Option ℤ) → resting.kept (if b then StandsOn c until else Elsewhere) ≡ (if b then StandsOn c until else Elsewhere)
told_if true c until = refl
told_if false c until = refl

nowhere : (b : Bool) → (if b then Elsewhere else Elsewhere) ≡ Elsewhere
nowhere true = refl
nowhere false = refl

module _ (s : Script) (st : State) (t : Tid) (free : get st.conds.waits t.0 ≡ None) where
  signalled_nowhere : (o : Signalled) (k : Option (Tid × NameId)) → get o.conds.waits t.0 ≡ None → standing (get (signals_one st o k).state.conds.waits t.0) ≡ Elsewhere
  signalled_nowhere o None e = ap standing e
  signalled_nowhere o (Some k) e = ap standing e

  cancelled_nowhere : (k : Tid) (o : ThreadsReply) (y : Reply) → standing (get (cancelled st k o y).state.conds.waits t.0) ≡ Elsewhere
  cancelled_nowhere k o (reply.Effect effect.Wakes) = ap standing (without_free t.0 st.conds (some_if (is_some (wait_of st.conds k)) k) free)
  cancelled_nowhere k o (reply.Effect effect.Ended) = ap standing free
  cancelled_nowhere k o (reply.Effect effect.Merged) = ap standing free
  cancelled_nowhere k o (reply.Effect effect.Pending) = ap standing free
  cancelled_nowhere k o _ = ap standing free

  -- The state keeps for the caller what its line tells.
  pub call_waits : (call : DceCall) (ns : List ℤ) → AreValues call ns → standing (get (answered s st t call ns).state.conds.waits t.0) ≡ resting.kept (after_call call ns (is_blocks (answered s st t call ns).reply))
  unfolding answered shape_of
  call_waits (dce.CondWait c m) ns v =
      let o : Waited = wait st.conds st.locks st.rows c m t (rank_of st t) in
      let b : Bool = is_blocks (wait_reply st.conds st.locks c m t) in
      ap (λ (cs : Conds). standing (get cs.waits t.0)) (given_waits (record st { conds = o.conds; locks = o.locks }) o.rows o.given)
      ∙ begun st.conds.waits t.0 (Cond c m None) b free ∙ sym (told_if b c None)
  call_waits (dce.CondTimedwait c m e) [] v = absurd (cc)
  call_waits (dce.CondTimedwait c m e) (n ∷ ns) v =
      let o : Waited = timedwait st.conds st.locks st.rows c m n st.clock t (rank_of st t) in
      let b : Bool = is_blocks (timedwait_reply (wait_reply st.conds st.locks c m t) (int_le n st.clock)) in
      ap (λ (cs : Conds). standing (get cs.waits t.0)) (given_waits (record st { conds = o.conds; locks = o.locks }) o.rows o.given)
      ∙ begun st.conds.waits t.0 (Cond c m (Some n)) b free ∙ sym (told_if b c (Some n))
  call_waits (dce.DelayNp e) ns v =
      let b : Bool = is_blocks (delay_reply (first ns) st.clock) in
      begun st.conds.waits t.0 (Delay (st.clock +ℤ first ns)) b free ∙ nowhere b ∙ sym (ap resting.kept (nowhere b))
  call_waits (dce.CondSignal c) ns v =
      let o : Signalled = signal st.conds st.rows c in signalled_nowhere o o.waiter (without_free t.0 st.conds (thread_in o.waiter) free) ∙ sym (ap resting.kept (nowhere (is_blocks (answered s st t (dce.CondSignal c) ns).reply)))
  call_waits (dce.CondBroadcast c) ns v = ap standing (wake_all_free t.0 (rank_of st) st.conds st.locks st.rows _ free) ∙ sym (ap resting.kept (nowhere (is_blocks (answered s st t (dce.CondBroadcast c) ns).reply)))
  call_waits (dce.Cancel e) ns v =
      let who : Tid = thread (natural (first ns)) in
      let o : ThreadsReply = cancels.cancel st.threads (first ns) (cancels.waits_at_point st.rows who) in
      cancelled_nowhere who o o.reply ∙ sym (ap resting.kept (nowhere (is_blocks (answered s st t (dce.Cancel e) ns).reply)))
  call_waits call ns v = ap standing (answered_wait s st t call ns t.0 (λ b. absurd (false≢true b)) refl ∙ free) ∙ sym (ap resting.kept (nowhere (is_blocks (answered s st t call ns).reply)))

-- ---- the call's line

same_blocks : (y : Reply) → lines.is_blocks y ≡ is_blocks y
same_blocks reply.Blocks = refl
same_blocks _ = refl

-- Nobody who runs is taken by a signal.
runs_not_taken : (st : State) (t : Tid) (c : NameId) (o : Option (Tid × NameId)) → HasRun st t.0 → WaitsAgree st.conds st.rows → IsCanonical st.rows.seats → (signal st.conds st.rows c).waiter ≡ o
    → takes_a_waiter t.0 Elsewhere (Some c) (option_map (λ (k : Tid × NameId). k.0.0) o) ≡ true
runs_not_taken st t c None run agree sorted is = refl
runs_not_taken st t c (Some k) run agree sorted is = by (k.0.0 == t.0) refl
  where
    stands_nowhere : (let r : Option RowId = None in r) ≡ Some (row.Cond c) → ⊥
    stands_nowhere f = absurd (cc)

    by : (b : Bool) → (k.0.0 == t.0) ≡ b → implies (k.0.0 == t.0) false ≡ true
    by true e =
        absurd (stands_nowhere (sym (ap row_at run.at ∙ run.runs) ∙ ap (λ (q : ℕ). row_at (get st.rows.seats q)) (sym (eqb-true k.0.0 t.0 e)) ∙ taken_stands st c agree sorted k is))
    by false e = ap (λ b. implies b false) e

any_taken : (st : State) (t : Tid) (o : Option NameId) → HasRun st t.0 → WaitsAgree st.conds st.rows → IsCanonical st.rows.seats → takes_a_waiter t.0 Elsewhere o (taken_in st o) ≡ true
any_taken st t None run agree sorted = refl
any_taken st t (Some c) run agree sorted = runs_not_taken st t c (signal st.conds st.rows c).waiter run agree sorted refl

itself : (t : Tid) → (t.0 == t.0) ≡ true
itself t = eq-eqb t.0 t.0 refl

own_call : (t : Tid) (c : CallWord) (args : List Arg) (y : Reply) → own_line t.0 (thread_line t (what.Call c args y)) ≡ Some (what.Call c args y)
own_call t c args y = ap (λ b. line_but_gift b (what.Call c args y)) (itself t)

-- ---- what the caller writes after it

no_debt_on : (args : List Arg) (until : Option ℤ) → debt_after (standing_on args until) ≡ None
no_debt_on (arg.Name c ∷ args) until = refl
no_debt_on [] until = refl
no_debt_on (_ ∷ args) until = refl

no_debt_until : (args : List Arg) → debt_after (standing_until args) ≡ None
no_debt_until (c ∷ m ∷ arg.Num n ∷ args) = no_debt_on (c ∷ []) (Some n)
no_debt_until [] = refl
no_debt_until (c ∷ []) = refl
no_debt_until (c ∷ m ∷ []) = refl
no_debt_until (c ∷ m ∷ _ ∷ args) = refl

no_debt_by : (c : CallWord) (args : List Arg) → debt_after (waits_by c args) ≡ None
no_debt_by word.CondWait args = no_debt_on args None
no_debt_by word.CondTimedwait args = no_debt_until args
no_debt_by _ args = refl

rest_reads : (s : Script) (st : State) (t : Tid) (g : Setting) (call : DceCall) (ns : List ℤ) (r : Remainder) (runs : Bool) (y : Reply) (after : State)
    → standing (get after.conds.waits t.0) ≡ resting.kept (after_call call ns (is_blocks y))
    → Reads t.0 st (λ p. Knows t.0 p after) (after_call call ns (is_blocks y)) (map (thread_line t) (after_reply g call runs r y).lines)
rest_reads s st t g call ns r runs reply.Blocks after e =
    record { waits = e; owes = λ d f. absurd (none_some d (sym (no_debt_by (shape_of call).word (arguments call ns)) ∙ f)) }
rest_reads s st t g call ns r runs y after e =
    reads_inner t.0 st t (λ p. Knows t.0 p after) (after_reply g call runs r y).lines (itself t) (after_inner g call runs r y) (record { waits = e; owes = λ d f. absurd (none_some d f) })

-- The line by which a thread makes what it owes.
abbrev IsPaid : Debt → What → Type 0
IsPaid (Return y) x = x ≡ what.Ret y
IsPaid Delivery x = is_delivery x ≡ true
IsPaid Running x = x ≡ what.Ret reply.Done

same_debt : (d e : Debt) → (let o : Option Debt = Some d in o) ≡ Some e → d ≡ e
same_debt d e f = ap (λ (o : Option Debt). unwrap_or o d) f

-- A thread keeps its processor or gives it up.
kept_knows : (t : Tid) (made : Made) (w : Waiter) → Knows t.0 w made.state → Knows t.0 w (kept t made).state
kept_knows t made w k = record {
  waits = k.waits;
  owes = λ d e. let o = k.owes d e in (
    o.0,
    moved_calm (suc t.0) (suc t.0) t.0 false (get made.state.rows.seats t.0) _
        (keeps_moves (suc t.0) (suc t.0) t.0 false made.state.rows t (is_fifo_in (record_at made.state.threads t))) (never_next t.0) o.1,
  );
}

-- ---- turns

module _ (s : Script) (st : State) (t : Tid) (run : HasRun st t.0) (order : InOrder st) (agree : WaitsAgree st.conds st.rows) (sorted : IsCanonical st.rows.seats) where
  free : get st.conds.waits t.0 ≡ None
  free = run_wait st t.0 run order

  abbrev ReadsTo : Made → Type 0
  ReadsTo made = Reads t.0 st (λ v. Knows t.0 v made.state) Elsewhere made.lines

  called_reads : (g : Setting) (call : DceCall) (r : Remainder) (v : Values) → asked g (shared_values st) call r ≡ v → ReadsTo (called s st t g call r v)
  called_reads g call r (Ok ns) is =
      let o : Answered = answered s st t call ns in
      let made : Made = called s st t g call r (Ok ns) in
      let x : What = call_line call ns o.reply in
      let own : own_line t.0 (thread_line t x) ≡ Some x = own_call t (shape_of call).word (arguments call ns) o.reply in (
        and_both (takes_a_waiter t.0 Elsewhere (signalled_in x) (taken_in st (signalled_in x))) _ (any_taken st t (signalled_in x) run agree sorted) (ap (goes_on Elsewhere) own),
        subst (λ v. Reads t.0 st (λ q. Knows t.0 q made.state) v (gift_lines o.gifts ++ map (thread_line t) (after_reply g call o.runs r o.reply).lines))
            (sym (ap (after_line t.0 Elsewhere (mark st (thread_line t x))) own ∙ ap (λ b. if b then waits_by (shape_of call).word (arguments call ns) else Elsewhere) (same_blocks o.reply)))
            (reads_append t.0 st (λ q. Knows t.0 q made.state) _ (gift_lines o.gifts) (map (thread_line t) (after_reply g call o.runs r o.reply).lines)
            (reads_idle t.0 st (λ q. Reads t.0 st (λ p. Knows t.0 p made.state) q (map (thread_line t) (after_reply g call o.runs r o.reply).lines)) _ (gift_lines o.gifts) (gifts_idle t.0 o.gifts)
            (rest_reads s st t g call ns r o.runs o.reply made.state (call_waits s st t free call ns (asked_values g (shared_values st) call r ns is))))),
      )
  called_reads g call r (Err x) is =
      let made : Made = called s st t g call r (Err x) in reads_inner t.0 st t (λ v. Knows t.0 v made.state) (raised x r).lines (itself t) refl (no_wait t.0 made.state free)

  -- Lines of the thread's own steps, in a state that keeps its waits.
  inner_reads : (made : Made) (ws : List What) → made.lines ≡ map (thread_line t) ws → AreInner ws → get made.state.conds.waits t.0 ≡ None → ReadsTo made
  inner_reads made ws is inner e =
      subst (λ l. Reads t.0 st (λ v. Knows t.0 v made.state) Elsewhere l) (sym is) (reads_inner t.0 st t (λ v. Knows t.0 v made.state) ws (itself t) inner (no_wait t.0 made.state e))

  written_free : (o : Option (NameId × ℤ)) → get (written_to st o).conds.waits t.0 ≡ None
  written_free None = free
  written_free (Some w) = free

  step_reads : (g : Setting) (r : Remainder) → ReadsTo (moved (written_to st (written g (shared_values st) r)) t (shared_step g (shared_values st) r))
  step_reads g r =
      inner_reads (moved (written_to st (written g (shared_values st) r)) t (shared_step g (shared_values st) r)) (shared_step g (shared_values st) r).lines refl (shared_inner g (shared_values st) r)
      (written_free (written g (shared_values st) r))

  shared_reads : (g : Setting) (r : Remainder) (act : Act) → ReadsTo (shared_made s st t g r act)
  shared_reads g r (Asks call) = called_reads g call r (asked g (shared_values st) call r) refl
  shared_reads g r _ = step_reads g r

  -- One own line that is no call.
  one_reads : (made : Made) (x : What) → made.lines ≡ thread_line t x ∷ [] → own_line t.0 (thread_line t x) ≡ Some x → is_call_line x ≡ false → get made.state.conds.waits t.0 ≡ None → ReadsTo made
  one_reads made x is own n e =
      subst (λ l. Reads t.0 st (λ v. Knows t.0 v made.state) Elsewhere l) (sym is) (
        own_passes t.0 st t Elsewhere x own (no_call_says t.0 x n) refl,
        subst (λ v. Knows t.0 v made.state) (sym (own_after t.0 st t Elsewhere x own n)) (no_wait t.0 made.state e),
      )

  own_other : (x : What) → (let o : Option What = line_but_gift true x in o) ≡ Some x → own_line t.0 (thread_line t x) ≡ Some x
  own_other x e = ap (λ b. line_but_gift b x) (itself t) ∙ e

  end_reads : (g : Setting) (r : Remainder) (o : NextDestructor) (c : Option DestructorCall) → ReadsTo (end_made st t g r o c)
  end_reads g r o (Some c) = inner_reads (end_made st t g r o (Some c)) (begins_destructor g c.0 c.1 c.2 r).lines refl refl free
  end_reads g r o None = one_reads (end_made st t g r o None) (what.End r.value) refl (own_other (what.End r.value) refl) refl free

  handed_free : (o : once.Undone) (k : Option Tid) → get (handed_on st o k).conds.waits t.0 ≡ None
  handed_free o None = free
  handed_free o (Some k) = free

  halt_reads : (g : Setting) (r : Remainder) (halt : Halt) → HaltFits (cancels.mode_at st.threads t) halt → ReadsTo (halt_made s st t g r halt)
  halt_reads g r Delivers f = one_reads (halt_made s st t g r Delivers) _ refl (own_other _ refl) refl free
  halt_reads g r (Shares h) f = shared_reads g r (act_at h)
  halt_reads g r (Undoes block m) f =
      let o : once.Undone = once.undone st.onces st.rows block in inner_reads (halt_made s st t g r (Undoes block m)) m.lines refl f (handed_free o o.runner)
  halt_reads g r (Completes block m) f = inner_reads (halt_made s st t g r (Completes block m)) m.lines refl f free
  halt_reads g r Ends f = let o : NextDestructor = next_destructor st.onces t in end_reads g r o o.call
  halt_reads g r Pauses f = no_wait t.0 (halt_made s st t g r Pauses).state free

  run_reads : (g : Setting) (x : Run) → RunFits (cancels.mode_at st.threads t) x → ReadsTo (run_made s st t g x)
  run_reads g x f =
      let made : Made = run_made s st t g x in
      let halted : Made = halt_made s st t g x.to x.halt in
      reads_append t.0 st (λ v. Knows t.0 v made.state) Elsewhere (map (thread_line t) x.lines) halted.lines
      (reads_inner t.0 st t (λ v. Reads t.0 st (λ p. Knows t.0 p made.state) v halted.lines) x.lines (itself t) f.lines (halt_reads g x.to x.halt f.halt))

  -- ---- what it owes

  stands_nowhere : (c : NameId) (until : Option ℤ) → Elsewhere ≡ StandsOn c until → ⊥
  stands_nowhere c until f = absurd (cc)

  -- The line of what it owes comes rightly, and it waits nowhere after it.
  paid_reads : (w : Waiter) (made : Made) (x : What) (ws : List What) → made.lines ≡ thread_line t x ∷ map (thread_line t) ws → own_line t.0 (thread_line t x) ≡ Some x → is_call_line x ≡ false → goes_on_with w x ≡ true
      → AreInner ws → get made.state.conds.waits t.0 ≡ None → Reads t.0 st (λ v. Knows t.0 v made.state) w made.lines
  paid_reads w made x ws is own n g inner e =
      subst (λ l. Reads t.0 st (λ v. Knows t.0 v made.state) w l) (sym is) (
        own_passes t.0 st t w x own (no_call_says t.0 x n) g,
        subst (λ v. Reads t.0 st (λ p. Knows t.0 p made.state) v (map (thread_line t) ws)) (sym (own_after t.0 st t w x own n))
            (reads_inner t.0 st t (λ p. Knows t.0 p made.state) ws (itself t) inner (no_wait t.0 made.state e)),
      )

  debt_reads : (w : Waiter) (g : Setting) (r : Remainder) (d : Debt) → ((x : What) → IsPaid d x → goes_on_with w x ≡ true)
      → (let now : State = record st { debts = cut st.debts t.0 } in let made : Made = debt_made now t g r d in Reads t.0 st (λ v. Knows t.0 v made.state) w made.lines)
  debt_reads w g r (Return y) p = paid_reads w (debt_made _ t g r (Return y)) (what.Ret y) (replied g y r).lines refl (own_other (what.Ret y) refl) refl (p (what.Ret y) refl) (replied_inner g y r) free
  debt_reads w g r Delivery p = paid_reads w (debt_made _ t g r Delivery) _ [] refl (own_other _ refl) refl (p _ refl) refl free
  debt_reads w g r Running p =
      paid_reads w (debt_made _ t g r Running) (what.Ret reply.Done) (begun_at g (place_in r.items) (replied g reply.Done r)).lines refl (own_other (what.Ret reply.Done) refl) refl (p (what.Ret reply.Done) refl)
      (begun_inner g (place_in r.items) (replied g reply.Done r) (replied_inner g reply.Done r)) free

  -- What has come of its wait goes on with what it owes.
  goes_on_so : (w : Waiter) → Knows t.0 w st → (d : Debt) → debt_of st t ≡ Some d → (x : What) → IsPaid d x → goes_on_with w x ≡ true
  goes_on_so Elsewhere k d is x p = refl
  goes_on_so (StandsOn c until) k d is x p = absurd (stands_nowhere c until (sym (ap standing free) ∙ k.waits))
  goes_on_so SignalCame k d is x p = ap (returns is_done) (subst (λ z. IsPaid z x) (same_debt d (Return reply.Done) (sym is ∙ (k.owes (Return reply.Done) refl).0)) p)
  goes_on_so TimeCame k d is x p = ap (returns is_eagain) (subst (λ z. IsPaid z x) (same_debt d (Return reply.Eagain) (sym is ∙ (k.owes (Return reply.Eagain) refl).0)) p)
  goes_on_so CancelCame k d is x p = subst (λ z. IsPaid z x) (same_debt d Delivery (sym is ∙ (k.owes Delivery refl).0)) p

  -- Where it owes nothing, nothing has come of a wait.
  waits_nowhere : (w : Waiter) → Knows t.0 w st → debt_of st t ≡ None → w ≡ Elsewhere
  waits_nowhere Elsewhere k is = refl
  waits_nowhere (StandsOn c until) k is = absurd (stands_nowhere c until (sym (ap standing free) ∙ k.waits))
  waits_nowhere SignalCame k is = absurd (none_some (Return reply.Done) (sym is ∙ (k.owes (Return reply.Done) refl).0))
  waits_nowhere TimeCame k is = absurd (none_some (Return reply.Eagain) (sym is ∙ (k.owes (Return reply.Eagain) refl).0))
  waits_nowhere CancelCame k is = absurd (none_some Delivery (sym is ∙ (k.owes Delivery refl).0))

  by_reads : (w : Waiter) (d : Option Debt) → debt_of st t ≡ d → Knows t.0 w st → Reads t.0 st (λ v. Knows t.0 v (turn_by s st t d).state) w (turn_by s st t d).lines
  by_reads w (Some d) is k = debt_reads w (setting_of s st t) (remainder_of st t) d (goes_on_so w k d is)
  by_reads w None is k =
      let g : Setting = setting_of s st t in
      let mode : Mode = cancels.mode_at st.threads t in
      let x : Run = run_of most_steps g mode (remainder_of st t) in
      subst (λ v. Reads t.0 st (λ p. Knows t.0 p (run_made s st t g x).state) v (run_made s st t g x).lines) (sym (waits_nowhere w k is)) (run_reads g x (run_fits most_steps g mode (remainder_of st t)))

  -- The thread's own turn.
  pub own_reads : (w : Waiter) → Knows t.0 w st → Reads t.0 st (λ v. Knows t.0 v (turn_of s st t).state) w (turn_of s st t).lines
  unfolding turn_of
  own_reads w k =
      let made : Made = turn_by s st t (debt_of st t) in
      reads_then t.0 st (λ v. Knows t.0 v made.state) (λ v. Knows t.0 v (kept t made).state) (λ v k. kept_knows t made v k) w made.lines (by_reads w (debt_of st t) refl k)
