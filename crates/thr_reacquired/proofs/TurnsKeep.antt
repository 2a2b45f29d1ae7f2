-- What an event leaves to a thread that waits with a mutex or stands in its row, where it isn't the thread's own turn.
use Rattle.std.proofs.Common.{◌≡◌, ℕ, ◌≤◌, ℤ, Bool, true, false, eqb, [], ◌∷◌, Option, Some, None, Ok, Err, arith, refl, ap, ◌∙◌, subst}
use Rattle.std.proofs.lemmas.Bool.{eqb-true, false≢true}
use Rattle.std.specs.Prelude.{if◌then◌else◌, is_some}
use Rattle.std.specs.Option.{option_and_then}
use Rattle.std.specs.List.{filter}
use Rattle.thr_values.specs.declared.number.Tid.{Tid}
use Rattle.thr_values.specs.declared.number.NameId.{NameId}
use Rattle.thr_syntax.specs.declared.dce.DceCall.{DceCall}
use Rattle.thr_syntax.specs.declared.tree.Script.{Script}
use Rattle.thr_remainder.specs.Acts.{Act, Asks}
use Rattle.thr_remainder.specs.Remainders.{Setting, Remainder, act_at}
use Rattle.thr_remainder.specs.Steps.{written}
use Rattle.thr_remainder.specs.Replies.{Values, asked}
use Rattle.thr_remainder.specs.Runs.{Halt, Delivers, Shares, Undoes, Completes, Ends, Pauses, Run, run_of, most_steps}
use Rattle.thr_parts.specs.declared.row.RowId.TheVariants as row
use Rattle.thr_parts.specs.declared.row.Seat.{Seat}
use Rattle.thr_parts.specs.declared.wait.Wait.{Wait}
use Rattle.thr_parts.specs.Tables.{Table, get, cut, IsCanonical}
use Rattle.thr_parts.specs.Rows.{Rows, Seated, row_at, in_order}
use Rattle.thr_parts.specs.Moves.{free_row, leave}
use Rattle.thr_parts.specs.Threads.{record_at}
use Rattle.thr_parts.specs.Cancels.{mode_at}
use Rattle.thr_parts.specs.Conditions.{Conds, time_of}
use Rattle.thr_parts.specs.Expiry.{due, due_first, is_due, has_come}
use Rattle.thr_parts.specs.Keys.{DestructorCall, NextDestructor, next_destructor}
use Rattle.thr_parts.specs.OnceBlocks as once
use Rattle.thr_laws.proofs.ReadingLaws.{AllLines}
use Rattle.thr_model.specs.States.{State, Debt, Return, Delivery, Running, rank_of, remainder_of, setting_of, debt_of, shared_values}
use Rattle.thr_model.specs.Turns.{Made, called, written_to, shared_made, handed_on, end_made, debt_made, halt_made, turn_by, kept, is_fifo_in, turn_of}
use Rattle.thr_model.specs.Events.{clock_to}
use Rattle.thr_answers.specs.Statuses.{Status, Absent, Waiting, Astray, by_wait_row, status, status_of}
use Rattle.thr_answers.proofs.StatusRows.{all_map, all_numbers, all_in_order, in_row_waits}
use Rattle.thr_answers.proofs.StatusTurns.{InOrder}
use Rattle.thr_reacquired.specs.Waiters.{Has, waits, stands, owns}
use Rattle.thr_reacquired.proofs.Regaining.{not_true}
use Rattle.thr_reacquired.proofs.OnceEach.{once_due}
use Rattle.thr_reacquired.proofs.Woken.{InRow, all_woken}
use Rattle.thr_reacquired.proofs.InRows.{IsOther, leave_same, out_same, handed_same, keeps_same, best_other, free_row_stays}
use Rattle.thr_reacquired.proofs.CallsKeep.{Awaits, HasAt, as_has, same_has, answered_has}

waiting_not : (y : Status) → y ≡ Waiting → y ≡ Absent → ⊥
waiting_not y e f = absurd (cc)

-- A thread in a row isn't the one that is created next.
pub row_not_next : (st : State) (u : ℕ) (m : NameId) → InOrder st → InRow u m st.rows → eqb st.threads.next u ≡ false
row_not_next st u m o h =
    not_true (eqb st.threads.next u) (λ e. let is : st.threads.next ≡ u = eqb-true st.threads.next u e in let le : st.threads.next ≤ u = omega arith in
    waiting_not (status_of st u) (in_row_waits (get st.debts u) (get st.rows.seats u) (get st.conds.waits u) (row.Mutex m) h refl (o.none_astray u)) (o.fresh u le))

module _ (s : Script) (st : State) (t : Tid) (u : ℕ) (m : NameId) (e : eqb t.0 u ≡ false) (sorted : IsCanonical st.rows.seats) (order : InOrder st) (h : Awaits u m st.conds st.rows) where
  -- Nothing changes for it.
  still_has : HasAt u m st
  still_has = as_has u m st.conds st.locks st.rows h

  row_has : (rs : Rows) → (InRow u m st.rows → InRow u m rs) → Has u m st.conds st.locks rs
  row_has rs f = same_has u m st.conds st.conds st.locks st.rows rs refl f h

  called_has : (g : Setting) (call : DceCall) (r : Remainder) (v : Values) → HasAt u m (called s st t g call r v).state
  called_has g call r (Ok ns) = answered_has s st t u m e sorted call ns (row_not_next st u m order) h
  called_has g call r (Err x) = still_has

  written_has : (o : Option (NameId × ℤ)) → HasAt u m (written_to st o)
  written_has None = still_has
  written_has (Some w) = still_has

  shared_has : (g : Setting) (r : Remainder) (act : Act) → HasAt u m (shared_made s st t g r act).state
  shared_has g r (Asks call) = called_has g call r (asked g (shared_values st) call r)
  shared_has g r _ = written_has (written g (shared_values st) r)

  handed_has : (o : once.Undone) (w : Option Tid) → Has u m st.conds st.locks (handed_on st o w).rows → HasAt u m (handed_on st o w)
  handed_has o None x = x
  handed_has o (Some w) x = x

  undone_has : (block : NameId) → (let o : once.Undone = once.undone st.onces st.rows block in HasAt u m (handed_on st o o.runner))
  undone_has block =
      let o : once.Undone = once.undone st.onces st.rows block in
      handed_has o o.runner (row_has (handed_on st o o.runner).rows (λ i.
      let n : IsOther u o.runner = best_other u m st.rows (row.Once block) true sorted (λ f. absurd (cc)) i in ap row_at (handed_same u st o o.runner n ∙ out_same u st.rows o.runner n) ∙ i))

  end_has : (g : Setting) (r : Remainder) (o : NextDestructor) (c : Option DestructorCall) → HasAt u m (end_made st t g r o c).state
  end_has g r o (Some c) = still_has
  end_has g r o None =
      let freed : Rows = (free_row (rank_of st) st.rows (row.Join t)).rows in
      row_has (leave freed t) (λ i. ap row_at (leave_same u freed t e) ∙ free_row_stays u m (rank_of st) st.rows (row.Join t) sorted (λ f. absurd (cc)) i)

  halt_has : (g : Setting) (r : Remainder) (halt : Halt) → HasAt u m (halt_made s st t g r halt).state
  halt_has g r Delivers = still_has
  halt_has g r (Shares spot) = shared_has g r (act_at spot)
  halt_has g r (Undoes block x) = undone_has block
  halt_has g r (Completes block x) = row_has (free_row (rank_of st) st.rows (row.Once block)).rows (free_row_stays u m (rank_of st) st.rows (row.Once block) sorted (λ f. absurd (cc)))
  halt_has g r Ends = let o : NextDestructor = next_destructor st.onces t in end_has g r o o.call
  halt_has g r Pauses = still_has

  debt_has : (g : Setting) (r : Remainder) (d : Debt) → (let now : State = record st { debts = cut st.debts t.0 } in HasAt u m (debt_made now t g r d).state)
  debt_has g r (Return y) = still_has
  debt_has g r Delivery = still_has
  debt_has g r Running = still_has

  by_has : (d : Option Debt) → HasAt u m (turn_by s st t d).state
  by_has (Some d) = debt_has (setting_of s st t) (remainder_of st t) d
  by_has None = (let run : Run = run_of most_steps (setting_of s st t) (mode_at st.threads t) (remainder_of st t) in halt_has (setting_of s st t) run.to run.halt)

  kept_has : (made : Made) → HasAt u m made.state → HasAt u m (kept t made).state
  kept_has made (waits i) = waits i
  kept_has made (stands i) = stands (ap row_at (keeps_same u made.state.rows t (is_fifo_in (record_at made.state.threads t)) e) ∙ i)
  kept_has made (owns i) = owns i

  -- A turn of another thread.
  pub turn_has : HasAt u m (turn_of s st t).state
  unfolding turn_of
  turn_has = kept_has (turn_by s st t (debt_of st t)) (by_has (debt_of st t))

-- ---- the clock

has_wait : (now : ℤ) (o : Option Wait) → has_come now (option_and_then time_of o) ≡ true → is_some o ≡ true
has_wait now None e = absurd (cc)
has_wait now (Some w) e = refl

-- The thread of the number is on record as waiting.
abbrev Waits : Conds → ℕ → Type 0
Waits cs n = is_some (get cs.waits n) ≡ true

due_head : (cs : Conds) (now : ℤ) (e : ℕ × Seat) (es : Seated) (b : Bool) → is_due cs now e.0 ≡ b → AllLines (λ (f : ℕ × Seat). Waits cs f.0) es → AllLines (λ (f : ℕ × Seat). Waits cs f.0) (if b then e ∷ es else es)
due_head cs now e es true is h = (has_wait now (get cs.waits e.0) is, h)
due_head cs now e es false is h = h

those_due : (cs : Conds) (now : ℤ) (seats : Table Seat) → AllLines (λ (f : ℕ × Seat). Waits cs f.0) (filter (λ e. is_due cs now e.0) seats)
those_due cs now [] = tt
those_due cs now (e ∷ es) = due_head cs now e _ (is_due cs now e.0) refl (those_due cs now es)

due_wait : (cs : Conds) (rs : Rows) (now : ℤ) → AllLines (λ (w : Tid). Waits cs w.0) (due_first cs rs now)
unfolding due
due_wait cs rs now = all_numbers (λ (w : Tid). Waits cs w.0) (in_order (due cs rs now)) (all_in_order (λ (f : ℕ × Seat). Waits cs f.0) (due cs rs now) (those_due cs now rs.seats))

not_both : (d : Option Debt) (x : Option Seat) (z : Option Wait) (m : NameId) → is_some z ≡ true → row_at x ≡ Some (row.Mutex m) → (status d x z ≡ Astray → ⊥) → ⊥
not_both d x None m e h n = false≢true e
not_both d x (Some w) m e h n = n (ap by_wait_row h)

-- The clock moves.
pub clock_has : (st : State) (now : ℤ) (u : ℕ) (m : NameId) → IsCanonical st.rows.seats → InOrder st → HasAt u m st → HasAt u m (clock_to st now).state
clock_has st now u m sorted order h =
    all_woken u m (rank_of st) st.conds st.locks st.rows (due_first st.conds st.rows now) (once_due u st.conds st.rows now sorted)
    (all_map (λ (w : Tid). Waits st.conds w.0) (λ (w : Tid). eqb w.0 u ≡ true → InRow u m st.rows → ⊥)
    (λ w x e i. not_both (get st.debts u) (get st.rows.seats u) (get st.conds.waits u) m (subst (Waits st.conds) (eqb-true w.0 u e) x) i (order.none_astray u)) (due_first st.conds st.rows now) (due_wait st.conds st.rows now)) h
