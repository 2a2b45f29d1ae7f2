-- The lines of every history pass.
use Rattle.std.proofs.Common.{◌≡◌, ℕ, suc, ℤ, Bool, true, false, ◌&&◌, ◌||◌, cond, eqb, List, [], ◌∷◌, ◌++◌, map, Option, Some, None, refl, sym, ◌∙◌, ap, subst, arith}
use Rattle.std.proofs.lemmas.Bool.{eqb-true, false≢true}
use Rattle.std.specs.Prelude.{if◌then◌else◌, is_some, is_none, nat_lt}
use Rattle.std.specs.Option.{option_map, option_and_then, unwrap_or}
use Rattle.thr_values.specs.declared.number.NameId.{NameId}
use Rattle.thr_values.specs.declared.number.Tid.{Tid}
use Rattle.thr_values.specs.declared.number.Line.{Line}
use Rattle.thr_parts.proofs.EntryLaws.{itself}
use Rattle.thr_cancels.proofs.Owed as owed
use Rattle.thr_cancels.proofs.Owed.{owes_delivery}
use Rattle.thr_values.specs.declared.reply.Reply.TheVariants as reply
use Rattle.thr_values.specs.declared.scheduling.Mode.{Mode}
use Rattle.thr_values.specs.declared.history.What.TheVariants as what
use Rattle.thr_values.specs.declared.history.Entry.{Entry}
use Rattle.thr_syntax.specs.declared.tree.Script.{Script}
use Rattle.thr_parts.specs.declared.row.Seat.{Seat}
use Rattle.thr_parts.specs.declared.thread.Thread.{Thread}
use Rattle.thr_parts.specs.Tables.{get, IsCanonical}
use Rattle.thr_parts.specs.Rows.{Rows, thread, row_at}
use Rattle.thr_parts.specs.Threads.{record_at, rank_at}
use Rattle.thr_parts.specs.Cancels as cancels
use Rattle.thr_parts.specs.Cancels.{mode_in, mode_at, with_mode, set_mode}
use Rattle.thr_laws.specs.Lines.{own_line, is_some_line}
use Rattle.thr_laws.specs.Known.{Known, cancel_of, known_after}
use Rattle.thr_laws.specs.CancelLaw.{is_waiting_point, can_deliver, delivers_outstanding, has_effect, passes_no_point, delivers_when_woken}
use Rattle.thr_model.specs.States.{State, Debt, Delivery, rank_of}
use Rattle.thr_cancels.proofs.Seats as seats
use Rattle.thr_cancels.proofs.Seats.{Moves, then_moves, wakes_best, free_row_moves, leave_moves, keeps_moves, IsMoved, is_calm, calm_no_point, same_row, cancel_wait_moves, is_calm_row}
use Rattle.thr_cancels.proofs.Records as records
use Rattle.thr_cancels.proofs.Records.{with_new, with_new_recorded, new_record, not_yet, IsNewRecord, put_core_here, put_core_other, core_of, IsRecorded, Core, core, is_alive, changes_records, answered_recorded}
use Rattle.thr_cancels.proofs.TurnLines.{HasTurn, delivers_itself, ended_told, shared_told, passed_told, same_state, gifts_away, can_deliver_is}
use Rattle.std.proofs.lemmas.Bool.Decides.{nat_tests}
use Rattle.std.specs.List.{list_any, filter}
use Rattle.thr_values.specs.declared.event.Event.{Event}
use Rattle.thr_values.specs.declared.event.Event.TheVariants as event
use Rattle.thr_remainder.specs.Starts.{begins_destructor}
use Rattle.thr_parts.specs.Threads.{first_threads, new_thread, new_attr}
use Rattle.thr_parts.specs.Rows.{row_in, Seated, placed, in_order, numbers_of, best_of, standing, is_before}
use Rattle.thr_parts.specs.Dispatch.{dispatch, next_for, with_processor, some_can_run, whole_slice}
use Rattle.thr_parts.specs.Expiry.{earliest, due, due_first, is_due, has_come}
use Rattle.thr_parts.specs.declared.wait.Wait.{Wait}
use Rattle.thr_parts.specs.Conditions.{Conds, time_of}
use Rattle.thr_laws.specs.Lines.{fits}
use Rattle.thr_laws.specs.Known.{known, known_at_first}
use Rattle.thr_laws.specs.CancelLaw.{each_own_line, cancels_have_their_effects}
use Rattle.thr_cancels.specs.Telling as telling
use Rattle.thr_cancels.proofs.Agreement.{told_end}
use Rattle.thr_cancels.proofs.Records.{new_core}
use Rattle.thr_parts.proofs.EntryLaws.{get_cons, get_empty, get_filter, pass, pass_none, pass_some}
use Rattle.thr_parts.proofs.RowLaws.{has_seat, canonical_standing}
use Rattle.thr_parts.proofs.BestLaws.{found}
use Rattle.thr_model.specs.Events.{run_line, dispatch_made, clock_to, clock_of, made_by}
use Rattle.thr_model.specs.Histories.{Execution, History, opened, then_event}
use Rattle.thr_model.proofs.RowsKept.{history_canonical}
use Rattle.thr_cancels.proofs.Owed.{due_owes, woken_are, wake_all_free, has_wait, is_bound}
use Rattle.thr_cancels.proofs.Seats.{wake_all_moves, put_woken, stays}
use Rattle.thr_cancels.proofs.SpecialCalls.{core_alive, mode_passed, mode_is, with_mode_of, matches_some}
use Rattle.thr_cancels.proofs.InnerLines.{replied_inner, begun_inner, HaltFits, RunFits, run_fits}
use Rattle.thr_cancels.proofs.Owed.{all_owes, put_owes, best_free, row_free}
use Rattle.thr_remainder.specs.Remainders.{Setting, Remainder, place_in, act_at}
use Rattle.thr_remainder.specs.Replies.{replied}
use Rattle.thr_remainder.specs.Runs.{Halt, Delivers, Shares, Undoes, Completes, Ends, Pauses, Run, run_of, most_steps}
use Rattle.thr_parts.specs.Moves.{take_out_if, free_row, make_ready}
use Rattle.thr_parts.specs.Tables.{Table, none, cut}
use Rattle.thr_parts.specs.Dispatch.{running, runs_on}
use Rattle.thr_parts.specs.Rows.{best, is_among}
use Rattle.thr_parts.specs.Cancels.{deliver}
use Rattle.thr_parts.specs.Keys.{DestructorCall, NextDestructor, next_destructor}
use Rattle.thr_parts.specs.OnceBlocks as once
use Rattle.thr_parts.specs.declared.row.RowId.TheVariants as row
use Rattle.thr_parts.specs.declared.row.Place.{Place}
use Rattle.thr_parts.specs.declared.row.Place.TheVariants.{Runs, Stands}
use Rattle.thr_parts.proofs.TableLaws.{get_none, get_put, get_cut}
use Rattle.thr_parts.proofs.RunningLaws.{HasProcessor, running_seat}
use Rattle.thr_model.specs.States.{opening, Return, Running, remainder_of, setting_of, debt_of}
use Rattle.thr_model.specs.Turns.{Made, handed_on, freed, thread_line, end_made, debt_made, halt_made, turn_by, kept, is_fifo_in, turn_of, begun_at}
use Rattle.thr_cancels.proofs.Agreement.{Knows, Told, told_then, told_append, told_away, told_inner, away_line, away_inner, is_cancelled, cancelled_alive, head_and, passes_others, Matches, KnownBy, KnowsOf, IsFine, IsPassed, IsRunning}

-- ---- what ends the quiet part of a turn

can_is : (t : Tid) (u : ℕ) (k : Known) (st : State) → eqb t.0 u ≡ true → HasTurn t.0 u k st → can_deliver k ≡ ((cancels.mode_at st.threads t).pending && (cancels.mode_at st.threads t).general)
can_is t u k st e h =
    let x : (c : Core) × (core (get st.threads.records u) ≡ Some c) = core_alive (core (get st.threads.records u)) (h.knows.seated (h.there e)) in
    let m : cancels.mode_at st.threads t ≡ x.0.mode = mode_is x.0 (record_at st.threads t) (ap (λ (q : ℕ). core (get st.threads.records q)) (eqb-true t.0 u e) ∙ x.1) in
    can_deliver_is k x.0 (matches_some k _ (nat_lt u st.threads.next) x.0 h.knows.recorded x.1) ∙ sym (ap (λ (y : Mode). y.pending && y.general) m)

undone_passed : (t u : ℕ) (st : State) (block : NameId) (o : Option Tid) → best st.rows (row.Once block) ≡ o → IsCanonical st.rows.seats
    → IsPassed t u false st (handed_on st (once.undone st.onces st.rows block) o)
undone_passed t u st block None e h = record {
  moved = subst (λ (o : Option Tid). IsMoved t (suc u) u false (get st.rows.seats u) (get (take_out_if st.rows o).seats u)) (sym e) (seats.same refl);
  left = record { debts = owed.stays refl; waits = λ _ x. x };
  recorded = records.stays refl refl;
}
undone_passed t u st block (Some w) e h = record {
  moved = subst (λ (o : Option Tid). IsMoved t (suc u) u false (get st.rows.seats u) (get (make_ready (rank_of st) (take_out_if st.rows o) w).seats u)) (sym e)
      (wakes_best t (suc u) u false st.rows (row.Once block) row.Ready w (rank_of st w) refl h e);
  left = record {
    debts = put_owes u (get st.rows.seats u) (get st.conds.waits u) st.debts st.debts w.0 Running refl (best_free u (get st.debts u) st.rows (get st.conds.waits u) (row.Once block) w refl h e) (owed.stays refl);
    waits = λ _ x. x;
  };
  recorded = records.stays refl refl;
}

completed_passed : (t u : ℕ) (st : State) (block : NameId) → IsCanonical st.rows.seats
    → IsPassed t u false st (freed (record st { onces = once.done st.onces block }) reply.Done (free_row (rank_of st) st.rows (row.Once block)))
completed_passed t u st block h = record {
  moved = free_row_moves t (suc u) u false (rank_of st) st.rows (row.Once block) h;
  left = record {
    debts = all_owes u (get st.rows.seats u) (get st.conds.waits u) st.debts st.debts (Return reply.Done) _ refl (row_free u (get st.debts u) st.rows (get st.conds.waits u) (row.Once block) refl h) (owed.stays refl);
    waits = λ _ x. x;
  };
  recorded = records.stays refl refl;
}

end_told : (t : Tid) (u : ℕ) (k : Known) (st : State) (g : Setting) (r : Remainder) (o : NextDestructor) (c : Option DestructorCall) → HasTurn t.0 u k st
    → Told u (λ l. KnowsOf u l (end_made st t g r o c).state) k (end_made st t g r o c).lines
end_told t u k st g r o (Some c) h = passed_told t u k st st (begins_destructor g c.0 c.1 c.2 r).lines (eqb t.0 u) refl refl (same_state t.0 u st) h
end_told t u k st g r o None h = ended_told t u k st r.value (eqb t.0 u) refl h

delivers_other : (t : Tid) (u : ℕ) (k : Known) (st : State) (n : ℕ) (line : Line) → eqb t.0 u ≡ false → KnowsOf u k st
    → Told u (λ l. KnowsOf u l (with_mode_of st t (record (cancels.mode_at st.threads t) { pending = false }))) k (thread_line t (what.Deliver n line) ∷ [])
delivers_other t u k st n line e h =
    let after : State = with_mode_of st t (record (cancels.mode_at st.threads t) { pending = false }) in
    told_away u (λ l. KnowsOf u l after) k (thread_line t (what.Deliver n line) ∷ []) (away_line u t (what.Deliver n line) e refl, tt)
    (passes_others t.0 u false k st after e (mode_passed st t u false (record (cancels.mode_at st.threads t) { pending = false }) e) h)

delivers_told : (t : Tid) (u : ℕ) (k : Known) (st : State) (n : ℕ) (line : Line) (self : Bool) → eqb t.0 u ≡ self → (self ≡ true → can_deliver k ≡ true) → HasTurn t.0 u k st
    → Told u (λ l. KnowsOf u l (with_mode_of st t (record (cancels.mode_at st.threads t) { pending = false }))) k (thread_line t (what.Deliver n line) ∷ [])
delivers_told t u k st n line false e can h = delivers_other t u k st n line e h.knows
delivers_told t u k st n line true e can h =
    subst (λ (q : ℕ). (eqb t.0 q ≡ true → is_some (get st.rows.seats q) ≡ true) → (eqb t.0 q ≡ true → IsRunning q k st)
    → Told q (λ l. KnowsOf q l (with_mode_of st t (record (cancels.mode_at st.threads t) { pending = false }))) k (thread_line t (what.Deliver n line) ∷ []))
    (eqb-true t.0 u e)
    (λ there runs. let r : IsRunning t.0 k st = runs (itself t.0) in delivers_itself t k st n line (can refl) (r.knows.seated (there (itself t.0))) r.knows.recorded r.owes r.runs) h.there h.runs

halt_told : (s : Script) (st : State) (t : Tid) (g : Setting) (r : Remainder) (halt : Halt) (u : ℕ) (k : Known) → HaltFits (cancels.mode_at st.threads t) halt → HasTurn t.0 u k st
    → Told u (λ l. KnowsOf u l (halt_made s st t g r halt).state) k (halt_made s st t g r halt).lines
halt_told s st t g r Delivers u k f h = delivers_told t u k st _ _ (eqb t.0 u) refl (λ e. can_is t u k st e h ∙ f) h
halt_told s st t g r (Shares spot) u k f h = shared_told s st t g r (act_at spot) u k (λ call a e p. can_is t u k st e h ∙ f call a p) h
halt_told s st t g r (Undoes block m) u k f h = passed_told t u k st _ m.lines (eqb t.0 u) refl f (undone_passed t.0 u st block (best st.rows (row.Once block)) refl h.canonical) h
halt_told s st t g r (Completes block m) u k f h = passed_told t u k st _ m.lines (eqb t.0 u) refl f (completed_passed t.0 u st block h.canonical) h
halt_told s st t g r Ends u k f h = let o : NextDestructor = next_destructor st.onces t in end_told t u k st g r o o.call h
halt_told s st t g r Pauses u k f h = h.knows

-- ---- turns

-- A thread whose turn it is, whatever it owes.
record Turning (t u : ℕ) (k : Known) (st : State) : Type 0 where
  canonical : IsCanonical st.rows.seats
  there : eqb t u ≡ true → is_some (get st.rows.seats u) ≡ true
  row : row_at (get st.rows.seats t) ≡ None
  knows : KnowsOf u k st

not_true : (b : Bool) → (b ≡ true → ⊥) → b ≡ false
not_true true f = absurd (f refl)
not_true false f = refl

no_point : (t u : ℕ) (rs : Rows) → eqb t u ≡ true → row_at (get rs.seats t) ≡ None → cancels.is_point (row_at (get rs.seats u)) ≡ false
no_point t u rs e f = ap (λ (q : ℕ). cancels.is_point (row_at (get rs.seats q))) (sym (eqb-true t u e)) ∙ ap cancels.is_point f

turn_runs : (t u : ℕ) (k : Known) (st : State) → Turning t u k st → get st.debts t ≡ None → eqb t u ≡ true → IsRunning u k st
turn_runs t u k st h none e =
    let off : owes_delivery (get st.debts u) ≡ false = ap (λ (q : ℕ). owes_delivery (get st.debts q)) (sym (eqb-true t u e)) ∙ ap owes_delivery none in record {
      knows = h.knows;
      quiet = not_true k.woken (λ w. false≢true (sym off ∙ h.knows.woken w));
      owes = off;
      runs = no_point t u st.rows e h.row;
    }

run_told : (s : Script) (st : State) (t : Tid) (g : Setting) (run : Run) (u : ℕ) (k : Known) (self : Bool) → eqb t.0 u ≡ self → RunFits (cancels.mode_at st.threads t) run → HasTurn t.0 u k st
    → Told u (λ l. KnowsOf u l (halt_made s st t g run.to run.halt).state) k (map (thread_line t) run.lines ++ (halt_made s st t g run.to run.halt).lines)
run_told s st t g run u k false e f h =
    let made : Made = halt_made s st t g run.to run.halt in
    told_append u (λ l. KnowsOf u l made.state) k (map (thread_line t) run.lines) made.lines
    (told_away u (λ l. Told u (λ m. KnowsOf u m made.state) l made.lines) k (map (thread_line t) run.lines) (away_inner u t run.lines e f.lines) (halt_told s st t g run.to run.halt u k f.halt h))
run_told s st t g run u k true e f h =
    let made : Made = halt_made s st t g run.to run.halt in
    told_append u (λ l. KnowsOf u l made.state) k (map (thread_line t) run.lines) made.lines
    (told_then u (λ l. IsRunning u l st) (λ l. Told u (λ m. KnowsOf u m made.state) l made.lines)
    (λ l x. halt_told s st t g run.to run.halt u l f.halt (record { canonical = h.canonical; there = h.there; runs = λ _. x; row = h.row; knows = x.knows }))
    k (map (thread_line t) run.lines) (told_inner u t st run.lines e f.lines k (h.runs e)))

-- ---- what a thread owes

abbrev settled : State → Tid → State
settled st t = record st { debts = cut st.debts t.0 }

cut_debt : (debts : Table Debt) (t u : ℕ) → eqb t u ≡ false → get (cut debts t) u ≡ get debts u
cut_debt debts t u e = get_cut debts t u ∙ ap (λ b. cond b None (get debts u)) e

no_debt : (debts : Table Debt) (t u : ℕ) → eqb t u ≡ true → get (cut debts t) u ≡ None
no_debt debts t u e = get_cut debts t u ∙ ap (λ b. cond b None (get debts u)) e

settled_other : (t : Tid) (u : ℕ) (k : Known) (st : State) → eqb t.0 u ≡ false → KnowsOf u k st → KnowsOf u k (settled st t)
settled_other t u k st e h =
    subst (λ (d : Option Debt). Knows k (core (get st.threads.records u)) (nat_lt u st.threads.next) (get st.rows.seats u) d (get st.conds.waits u)) (sym (cut_debt st.debts t.0 u e)) h

settled_itself : (t : Tid) (u : ℕ) (k : Known) (st : State) → eqb t.0 u ≡ true → k.woken ≡ false → Turning t.0 u k st → IsRunning u k (settled st t)
settled_itself t u k st e q h =
    let off : owes_delivery (get (cut st.debts t.0) u) ≡ false = ap owes_delivery (no_debt st.debts t.0 u e) in record {
      knows = record {
        recorded = h.knows.recorded;
        seated = h.knows.seated;
        cancelled = λ f. absurd (false≢true (sym off ∙ f));
        calm = λ f. absurd (false≢true (sym off ∙ f));
        free = λ f. absurd (false≢true (sym off ∙ f));
        woken = λ f. absurd (false≢true (sym q ∙ f));
        waiting = h.knows.waiting;
      };
      quiet = q;
      owes = off;
      runs = no_point t.0 u st.rows e h.row;
    }

settled_turn : (t : Tid) (u : ℕ) (k : Known) (st : State) (self : Bool) → eqb t.0 u ≡ self → owes_delivery (get st.debts t.0) ≡ false → Turning t.0 u k st → HasTurn t.0 u k (settled st t)
settled_turn t u k st false e no_delivery h =
    record { canonical = h.canonical; there = h.there; runs = λ f. absurd (false≢true (sym e ∙ f)); row = h.row; knows = settled_other t u k st e h.knows }
settled_turn t u k st true e no_delivery h =
    let q : k.woken ≡ false = not_true k.woken (λ w. false≢true (sym (ap (λ (q : ℕ). owes_delivery (get st.debts q)) (sym (eqb-true t.0 u e)) ∙ no_delivery) ∙ h.knows.woken w)) in
    let r : IsRunning u k (settled st t) = settled_itself t u k st e q h in record { canonical = h.canonical; there = h.there; runs = λ _. r; row = h.row; knows = r.knows }

cancelled_can : (k : Known) (a : Option Core) (m : Bool) → KnownBy k a m → is_cancelled a ≡ true → can_deliver k ≡ true
cancelled_can k None m h e = absurd (false≢true e)
cancelled_can k (Some c) true h e = can_deliver_is k c h ∙ (head_and (is_none c.ended) (c.mode.pending && c.mode.general) e).1
cancelled_can k (Some c) false h e = absurd h

delivery_told : (t : Tid) (u : ℕ) (k : Known) (st : State) (n : ℕ) (line : Line) (self : Bool) → eqb t.0 u ≡ self → get st.debts t.0 ≡ Some Delivery → Turning t.0 u k st
    → Told u (λ l. KnowsOf u l (with_mode_of (settled st t) t (record (cancels.mode_at st.threads t) { pending = false }))) k (thread_line t (what.Deliver n line) ∷ [])
delivery_told t u k st n line false e d h = delivers_other t u k (settled st t) n line e (settled_other t u k st e h.knows)
delivery_told t u k st n line true e d h =
    subst (λ (q : ℕ). KnowsOf q k st → Told q (λ l. KnowsOf q l (with_mode_of (settled st t) t (record (cancels.mode_at st.threads t) { pending = false }))) k (thread_line t (what.Deliver n line) ∷ []))
    (eqb-true t.0 u e)
    (λ x.
    let owes_it : owes_delivery (get st.debts t.0) ≡ true = ap owes_delivery d in
    delivers_itself t k (settled st t) n line (cancelled_can k _ (nat_lt t.0 st.threads.next) x.recorded (x.cancelled owes_it)) (cancelled_alive _ (x.cancelled owes_it)) x.recorded
    (ap owes_delivery (no_debt st.debts t.0 t.0 (itself t.0))) (ap cancels.is_point h.row)) h.knows

debt_told : (st : State) (t : Tid) (g : Setting) (r : Remainder) (d : Debt) (u : ℕ) (k : Known) → get st.debts t.0 ≡ Some d → Turning t.0 u k st
    → Told u (λ l. KnowsOf u l (debt_made (settled st t) t g r d).state) k (debt_made (settled st t) t g r d).lines
debt_told st t g r (Return y) u k e h =
    passed_told t u k (settled st t) (settled st t) (what.Ret y ∷ (replied g y r).lines) (eqb t.0 u) refl (replied_inner g y r) (same_state t.0 u (settled st t)) (settled_turn t u k st (eqb t.0 u) refl (ap owes_delivery e) h)
debt_told st t g r Delivery u k e h = delivery_told t u k st _ _ (eqb t.0 u) refl e h
debt_told st t g r Running u k e h =
    passed_told t u k (settled st t) (settled st t) (what.Ret reply.Done ∷ (begun_at g (place_in r.items) (replied g reply.Done r)).lines) (eqb t.0 u) refl
    (begun_inner g (place_in r.items) (replied g reply.Done r) (replied_inner g reply.Done r)) (same_state t.0 u (settled st t)) (settled_turn t u k st (eqb t.0 u) refl (ap owes_delivery e) h)

turn_by_told : (s : Script) (st : State) (t : Tid) (d : Option Debt) (u : ℕ) (k : Known) → get st.debts t.0 ≡ d → Turning t.0 u k st → Told u (λ l. KnowsOf u l (turn_by s st t d).state) k (turn_by s st t d).lines
turn_by_told s st t (Some d) u k e h = debt_told st t (setting_of s st t) (remainder_of st t) d u k e h
turn_by_told s st t None u k e h =
    let g : Setting = setting_of s st t in
    run_told s st t g (run_of most_steps g (cancels.mode_at st.threads t) (remainder_of st t)) u k (eqb t.0 u) refl (run_fits most_steps g (cancels.mode_at st.threads t) (remainder_of st t))
    (record { canonical = h.canonical; there = h.there; runs = turn_runs t.0 u k st h e; row = h.row; knows = h.knows })

never_next : (u : ℕ) → eqb (suc u) u ≡ false
never_next u = grind (arith, nat_tests)

kept_knows : (t : Tid) (u : ℕ) (k : Known) (made : Made) → KnowsOf u k made.state → KnowsOf u k (kept t made).state
kept_knows t u k made h =
    passes_others (suc u) u false k made.state (kept t made).state (never_next u)
    (record { moved = keeps_moves (suc u) (suc u) u false made.state.rows t (is_fifo_in (record_at made.state.threads t)); left = record { debts = owed.stays refl; waits = λ _ x. x }; recorded = records.stays refl refl }) h

turn_told : (s : Script) (st : State) (t : Tid) (u : ℕ) (k : Known) → Turning t.0 u k st → Told u (λ l. KnowsOf u l (turn_of s st t).state) k (turn_of s st t).lines
unfolding turn_of
turn_told s st t u k h =
    let made : Made = turn_by s st t (debt_of st t) in
    told_then u (λ l. KnowsOf u l made.state) (λ l. KnowsOf u l (kept t made).state) (λ l x. kept_knows t u l made x) k made.lines (turn_by_told s st t (debt_of st t) u k refl h)

-- ---- who is due

either_first : (a b c : Bool) → (a || (b || c)) ≡ (b || (a || c))
either_first true true c = refl
either_first true false c = refl
either_first false true c = refl
either_first false false c = refl

any_chosen : (p : ℕ × Seat → Bool) (e f : ℕ × Seat) (fs : Seated) (b : Bool) → list_any p (placed e fs) ≡ (p e || list_any p fs)
    → list_any p (if b then e ∷ f ∷ fs else f ∷ placed e fs) ≡ (p e || (p f || list_any p fs))
any_chosen p e f fs true rest = refl
any_chosen p e f fs false rest = ap (λ b. p f || b) rest ∙ either_first (p f) (p e) (list_any p fs)

next_placed : (e f : ℕ × Seat) (fs : Seated) → placed e (f ∷ fs) ≡ (if is_before e.1 f.1 then e ∷ f ∷ fs else f ∷ placed e fs)
unfolding placed
next_placed e f fs = refl

placed_alone : (e : ℕ × Seat) → placed e [] ≡ e ∷ []
unfolding placed
placed_alone e = refl

order_cons : (e : ℕ × Seat) (es : Seated) → in_order (e ∷ es) ≡ placed e (in_order es)
unfolding in_order
order_cons e es = refl

order_empty : in_order [] ≡ []
unfolding in_order
order_empty = refl

any_placed : (p : ℕ × Seat → Bool) (e : ℕ × Seat) (fs : Seated) → list_any p (placed e fs) ≡ (p e || list_any p fs)
any_placed p e [] = ap (list_any p) (placed_alone e)
any_placed p e (f ∷ fs) = ap (list_any p) (next_placed e f fs) ∙ any_chosen p e f fs (is_before e.1 f.1) (any_placed p e fs)

any_order : (p : ℕ × Seat → Bool) (es : Seated) → list_any p (in_order es) ≡ list_any p es
any_order p [] = ap (list_any p) order_empty
any_order p (e ∷ es) = ap (list_any p) (order_cons e es) ∙ any_placed p e (in_order es) ∙ ap (λ b. p e || b) (any_order p es)

any_number : (n : ℕ) (es : Seated) → is_among (record { 0 = n }) (numbers_of es) ≡ list_any (λ (e : ℕ × Seat). eqb e.0 n) es
any_number n [] = refl
any_number n (e ∷ es) = ap (λ b. eqb e.0 n || b) (any_number n es)

some_cond : {A : Type 0} (b : Bool) (v : A) (o : Option A) → is_some (cond b (Some v) o) ≡ (b || is_some o)
some_cond true v o = refl
some_cond false v o = refl

any_get : (n : ℕ) (es : Seated) → list_any (λ (e : ℕ × Seat). eqb e.0 n) es ≡ is_some (get es n)
any_get n [] = sym (ap is_some (get_empty n))
any_get n (e ∷ es) = ap (λ b. eqb e.0 n || b) (any_get n es) ∙ sym (ap is_some (get_cons e es n) ∙ some_cond (eqb e.0 n) e.1 (get es n))

among_due : (cs : Conds) (rs : Rows) (now : ℤ) (u : ℕ) → is_among (record { 0 = u }) (due_first cs rs now) ≡ true → is_some (get (due cs rs now) u) ≡ true
among_due cs rs now u e = sym (any_number u (in_order (due cs rs now)) ∙ any_order (λ (x : ℕ × Seat). eqb x.0 u) (due cs rs now) ∙ any_get u (due cs rs now)) ∙ e

abbrev is_due_entry : Conds → ℤ → ℕ × Seat → Bool
is_due_entry cs now e = is_due cs now e.0

due_is : (cs : Conds) (rs : Rows) (now : ℤ) → due cs rs now ≡ filter (is_due_entry cs now) rs.seats
unfolding due
due_is cs rs now = refl

has_time : (now : ℤ) (o : Option Wait) → has_come now (option_and_then time_of o) ≡ true → is_some o ≡ true
has_time now None e = absurd (false≢true e)
has_time now (Some w) e = refl

passed_some : (cs : Conds) (now : ℤ) (u : ℕ) (o : Option Seat) → is_some (pass (is_due_entry cs now) u o) ≡ true → (is_some o ≡ true) × (is_due cs now u ≡ true)
passed_some cs now u None e = absurd (false≢true (sym (ap is_some (pass_none (is_due_entry cs now) u)) ∙ e))
passed_some cs now u (Some v) e = (refl, chosen (is_due cs now u) v (sym (ap is_some (pass_some (is_due_entry cs now) u v)) ∙ e))
  where
    chosen : (b : Bool) (v : Seat) → is_some (cond b (Some v) None) ≡ true → b ≡ true
    chosen true v f = refl
    chosen false v f = f

due_has : (cs : Conds) (rs : Rows) (now : ℤ) (u : ℕ) → IsCanonical rs.seats → is_among (record { 0 = u }) (due_first cs rs now) ≡ true → (is_some (get rs.seats u) ≡ true) × (is_some (get cs.waits u) ≡ true)
due_has cs rs now u h e =
    let x : (is_some (get rs.seats u) ≡ true) × (is_due cs now u ≡ true) =
    passed_some cs now u (get rs.seats u) (sym (ap (λ (m : Seated). is_some (get m u)) (due_is cs rs now) ∙ ap is_some (get_filter (is_due_entry cs now) u rs.seats h)) ∙ among_due cs rs now u e) in
    (x.0, has_time now (get cs.waits u) x.1)

-- ---- events

clock_passed : (u : ℕ) (st : State) (now : ℤ) → IsCanonical st.rows.seats → IsPassed (suc u) u false st (clock_to st now).state
clock_passed u st now h =
    let ts : List Tid = due_first st.conds st.rows now in record {
      moved = wake_all_moves (suc u) (suc u) u false (rank_of st) st.conds st.locks st.rows st.rows ts (λ e. (due_has st.conds st.rows now u h e).0) (seats.same refl);
      left = record {
        debts = due_owes u (get st.rows.seats u) (get st.conds.waits u) st.debts st.debts _
            (λ e. has_wait (get st.debts u) (get st.rows.seats u) (get st.conds.waits u)
            (due_has st.conds st.rows now u h (subst (λ (l : List Tid). is_among (record { 0 = u }) l ≡ true) (woken_are (rank_of st) st.conds st.locks st.rows ts) e)).1) (owed.stays refl);
        waits = λ _. wake_all_free u (rank_of st) st.conds st.locks st.rows ts;
      };
      recorded = records.stays refl refl;
    }

clock_told : (u : ℕ) (k : Known) (st : State) (now : ℤ) → IsCanonical st.rows.seats → KnowsOf u k st → Told u (λ l. KnowsOf u l (clock_to st now).state) k (clock_to st now).lines
clock_told u k st now h i =
    told_away u (λ l. KnowsOf u l (clock_to st now).state) k (clock_to st now).lines (record { own = refl; cancel = refl }, gifts_away u _)
    (passes_others (suc u) u false k st (clock_to st now).state (never_next u) (clock_passed u st now h) i)

next_seat : (rs : Rows) (p : ℕ) (b : Bool) (e : ℕ × Seat) → IsCanonical rs.seats → (if b then best_of (standing rs row.Ready) else None) ≡ Some e → is_some (get rs.seats e.0) ≡ true
next_seat rs p true e h f = ap is_some (has_seat rs row.Ready e.0 e.1 h (found (standing rs row.Ready) e (canonical_standing rs row.Ready h) f)).at
next_seat rs p false e h f = absurd (cc)

dispatch_moves : (u : ℕ) (rs : Rows) (p : ℕ) (o : Option (ℕ × Seat)) → IsCanonical rs.seats → next_for rs p ≡ o → IsMoved (suc u) (suc u) u false (get rs.seats u) (get (with_processor o rs.seats p) u)
dispatch_moves u rs p None h e = seats.same refl
dispatch_moves u rs p (Some x) h e =
    put_woken (suc u) (suc u) u false rs rs x.0 (record { rank = x.1.rank; place = Runs p whole_slice }) refl (next_seat rs p (is_none (running rs p)) x h e) (λ f. refl)

dispatch_told : (u : ℕ) (k : Known) (st : State) (p : ℕ) (o : Option Tid) (made : Made) → IsCanonical st.rows.seats → KnowsOf u k st → dispatch_made st p (dispatch st.rows p) o ≡ Some made
    → Told u (λ l. KnowsOf u l made.state) k made.lines
dispatch_told u k st p None made h i e = absurd (cc)
dispatch_told u k st p (Some t) made h i e =
    let after : State = record st { rows = (dispatch st.rows p).rows } in
    subst (λ (m : Made). Told u (λ l. KnowsOf u l m.state) k m.lines) (ap (λ o. unwrap_or o made) e)
    (told_away u (λ l. KnowsOf u l after) k (run_line p t ∷ []) (record { own = refl; cancel = refl }, tt)
    (passes_others (suc u) u false k st after (never_next u)
    (record { moved = dispatch_moves u st.rows p (next_for st.rows p) h refl; left = record { debts = owed.stays refl; waits = λ _ x. x }; recorded = records.stays refl refl }) i))

runs_nowhere : (p : ℕ) (l : Place) → runs_on p l ≡ true → row_in l ≡ None
runs_nowhere p (Runs q slice) e = refl
runs_nowhere p (Stands r arrival) e = absurd (cc)

turn_at_told : (s : Script) (st : State) (p : ℕ) (o : Option Tid) (made : Made) (u : ℕ) (k : Known) → running st.rows p ≡ o → IsCanonical st.rows.seats → KnowsOf u k st → option_map (turn_of s st) o ≡ Some made
    → Told u (λ l. KnowsOf u l made.state) k made.lines
turn_at_told s st p None made u k r h i e = absurd (cc)
turn_at_told s st p (Some t) made u k r h i e =
    let x : (v : Seat) × HasProcessor st.rows p t.0 v = running_seat st.rows p t h r in
    subst (λ (m : Made). Told u (λ l. KnowsOf u l m.state) k m.lines) (ap (λ o. unwrap_or o made) e)
    (turn_told s st t u k (record {
      canonical = h;
      there = λ f. ap (λ (q : ℕ). is_some (get st.rows.seats q)) (sym (eqb-true t.0 u f)) ∙ ap is_some x.1.at;
      row = ap row_at x.1.at ∙ runs_nowhere p x.0.place x.1.runs;
      knows = i;
    }))

clock_at_told : (u : ℕ) (k : Known) (st : State) (o : Option ℤ) (made : Made) → IsCanonical st.rows.seats → KnowsOf u k st → option_map (clock_to st) o ≡ Some made → Told u (λ l. KnowsOf u l made.state) k made.lines
clock_at_told u k st None made h i e = absurd (cc)
clock_at_told u k st (Some now) made h i e = subst (λ (m : Made). Told u (λ l. KnowsOf u l m.state) k m.lines) (ap (λ o. unwrap_or o made) e) (clock_told u k st now h i)

clock_if_told : (u : ℕ) (k : Known) (st : State) (b : Bool) (made : Made) → IsCanonical st.rows.seats → KnowsOf u k st → clock_of b st ≡ Some made → Told u (λ l. KnowsOf u l made.state) k made.lines
clock_if_told u k st true made h i e = absurd (cc)
clock_if_told u k st false made h i e = clock_at_told u k st (earliest st.conds) made h i e

dispatch_if_told : (u : ℕ) (k : Known) (st : State) (p : ℕ) (b : Bool) (made : Made) → IsCanonical st.rows.seats → KnowsOf u k st
    → (if b then dispatch_made st p (dispatch st.rows p) (dispatch st.rows p).taken else None) ≡ Some made → Told u (λ l. KnowsOf u l made.state) k made.lines
dispatch_if_told u k st p true made h i e = dispatch_told u k st p (dispatch st.rows p).taken made h i e
dispatch_if_told u k st p false made h i e = absurd (cc)

made_told : (s : Script) (n : ℕ) (st : State) (e : Event) (made : Made) (u : ℕ) (k : Known) → IsCanonical st.rows.seats → KnowsOf u k st → made_by s n st e ≡ Some made → Told u (λ l. KnowsOf u l made.state) k made.lines
unfolding made_by
made_told s n st (event.Dispatch p) made u k h i m = dispatch_if_told u k st p (nat_lt p n) made h i m
made_told s n st (event.Turn p) made u k h i m = turn_at_told s st p (running st.rows p) made u k refl h i m
made_told s n st event.Clock made u k h i m = clock_if_told u k st (some_can_run st.rows) made h i m

-- ---- the opening

below_two : (u : ℕ) → eqb 1 u ≡ true → nat_lt u 2 ≡ true
below_two u e = grind (arith, nat_tests)

first_known : (u : ℕ) (b m : Bool) (th : Thread) → core_of th ≡ new_core → (b ≡ true → m ≡ true) → KnownBy known_at_first (core (cond b (Some th) None)) m
first_known u true true th e f = subst (λ (c : Core). Matches known_at_first c) (sym e) (record { outstanding = refl; general = refl; asynchronous = refl; ended = refl })
first_known u true false th e f = absurd (false≢true (f refl))
first_known u false true th e f = tt
first_known u false false th e f = record { outstanding = refl; general = refl; asynchronous = refl; ended = refl }

first_alive : (b : Bool) (th : Thread) (s : Seat) → core_of th ≡ new_core → is_some (cond b (Some s) None) ≡ true → is_alive (core (cond b (Some th) None)) ≡ true
first_alive true th s e f = ap (λ (c : Core). is_none c.ended) e
first_alive false th s e f = absurd (false≢true f)

first_point : (b : Bool) (s : Seat) → row_in s.place ≡ Some row.Ready → cancels.is_point (row_at (cond b (Some s) None)) ≡ false
first_point true s e = ap cancels.is_point e
first_point false s e = refl

opening_knows : (s : Script) (u : ℕ) → KnowsOf u known_at_first (opening s)
opening_knows s u =
    let th : Thread = new_thread (thread 1) new_attr.policy new_attr.prio new_attr.frames in
    let seat : Seat = record { rank = rank_at first_threads (thread 1); place = Stands row.Ready 0 } in
    let records_are : get (opening s).threads.records u ≡ cond (eqb 1 u) (Some th) None = get_put none 1 u th ∙ ap (cond (eqb 1 u) (Some th)) (get_none {A = Thread} u) in
    let seats_are : get (opening s).rows.seats u ≡ cond (eqb 1 u) (Some seat) None = get_put none 1 u seat ∙ ap (cond (eqb 1 u) (Some seat)) (get_none {A = Seat} u) in
    let off : owes_delivery (get (opening s).debts u) ≡ false = ap owes_delivery (get_none {A = Debt} u) in record {
      recorded = subst (λ (o : Option Thread). KnownBy known_at_first (core o) (nat_lt u 2)) (sym records_are) (first_known u (eqb 1 u) (nat_lt u 2) th refl (below_two u));
      seated = λ e. ap (λ o. is_alive (core o)) records_are ∙ first_alive (eqb 1 u) th seat refl (sym (ap is_some seats_are) ∙ e);
      cancelled = λ e. absurd (false≢true (sym off ∙ e));
      calm = λ e. absurd (false≢true (sym off ∙ e));
      free = λ e. absurd (false≢true (sym off ∙ e));
      woken = λ e. absurd (false≢true e);
      waiting = λ e. absurd (false≢true (sym (ap (λ o. cancels.is_point (row_at o)) seats_are ∙ first_point (eqb 1 u) seat refl) ∙ e));
    }

-- In every history each line passes, and what is known of a thread agrees with the state.
pub history_told : {s : Script} {n : ℕ} {x : Execution} → History s n x
    → (u : ℕ) → Told u (λ l. KnowsOf u l x.state) known_at_first x.entries
history_told {s} opened u = opening_knows s u
history_told {s} {n} (then_event {x} h none_stops e made m) u =
    told_append u (λ l. KnowsOf u l made.state) known_at_first x.entries made.lines
    (told_then u (λ l. KnowsOf u l x.state) (λ l. Told u (λ k. KnowsOf u k made.state) l made.lines) (λ l k. made_told s n x.state e made u l (history_canonical h) k m) known_at_first x.entries (history_told h u))

-- ---- the parts of the law

pub each_passes : (u : ℕ) (test : Known → Entry → Bool) (P : Known → Type 0) → ((k : Known) (e : Entry) → IsFine u k e → test k e ≡ true) → (k : Known) (es : List Entry) → Told u P k es
    → fits (known_after u) test k es ≡ true
each_passes u test P f k [] h = refl
each_passes u test P f k (e ∷ es) h = both_pass (test k e) (fits (known_after u) test (known_after u k e) es) (f k e h.0) (each_passes u test P f (known_after u k e) es h.1)
  where
    both_pass : (a b : Bool) → a ≡ true → b ≡ true → (a && b) ≡ true
    both_pass true b x y = y
    both_pass false b x y = x

pub delivers : (u : ℕ) (es : List Entry) (P : Known → Type 0) → Told u P known_at_first es → each_own_line delivers_outstanding u es ≡ true
delivers u es P h = each_passes u (λ k e. delivers_outstanding k (own_line u e)) P (λ k e f. f.outstanding) known_at_first es h

pub has_effects : (u : ℕ) (es : List Entry) (P : Known → Type 0) → Told u P known_at_first es → cancels_have_their_effects u es ≡ true
has_effects u es P h = each_passes u (λ k e. has_effect k (cancel_of u e.what)) P (λ k e f. f.effects) known_at_first es h

pub no_points : (u : ℕ) (es : List Entry) (P : Known → Type 0) → Told u P known_at_first es → each_own_line passes_no_point u es ≡ true
no_points u es P h = each_passes u (λ k e. passes_no_point k (own_line u e)) P (λ k e f. f.points) known_at_first es h

pub woken_first : (u : ℕ) (es : List Entry) (P : Known → Type 0) → Told u P known_at_first es → each_own_line delivers_when_woken u es ≡ true
woken_first u es P h = each_passes u (λ k e. delivers_when_woken k (own_line u e)) P (λ k e f. f.woken) known_at_first es h

-- ---- what is known after a history

pub history_knows : {s : Script} {n : ℕ} {x : Execution} → History s n x → (u : ℕ) → KnowsOf u (known u x.entries) x.state
history_knows {s} {n} {x} h u = told_end u (λ l. KnowsOf u l x.state) known_at_first x.entries (history_told h u)

pub record_told : {s : Script} {n : ℕ} {x : Execution} → History s n x → (u : ℕ) (th : Thread)
    → get x.state.threads.records u ≡ Some th → telling.IsRecorded (known u x.entries) th
record_told {s} {n} {x} h u th e =
    let m : Matches (known u x.entries) (core_of th) = matches_some (known u x.entries) _ (nat_lt u x.state.threads.next) (core_of th) (history_knows h u).recorded (ap core e) in
    record { outstanding = m.outstanding; general = m.general; asynchronous = m.asynchronous; ended = m.ended }

delivery_owed : (o : Option Debt) → owes_delivery o ≡ true → o ≡ Some Delivery
delivery_owed None e = absurd (false≢true e)
delivery_owed (Some Delivery) e = refl
delivery_owed (Some (Return y)) e = absurd (false≢true e)
delivery_owed (Some Running) e = absurd (false≢true e)

pub woken_told : {s : Script} {n : ℕ} {x : Execution} → History s n x → (u : ℕ)
    → (known u x.entries).woken ≡ true → get x.state.debts u ≡ Some Delivery
woken_told {s} {n} {x} h u e = delivery_owed (get x.state.debts u) ((history_knows h u).woken e)

pub waiting_told : {s : Script} {n : ℕ} {x : Execution} → History s n x → (u : ℕ)
    → cancels.waits_at_point x.state.rows (thread u) ≡ true → is_some_line is_waiting_point (known u x.entries).last ≡ true
waiting_told h u e = (history_knows h u).waiting e
