-- A thread that isn't there has no seat, and one that runs stands in no row.
use Rattle.std.proofs.Common.{◌≡◌, ℕ, ◌≤◌, Option, Some, None, arith, refl, ◌∙◌, ap}
use Rattle.thr_values.specs.declared.number.Tid.{Tid}
use Rattle.thr_parts.specs.declared.row.RowId.{RowId}
use Rattle.thr_parts.specs.declared.row.RowId.TheVariants as row
use Rattle.thr_parts.specs.declared.row.Seat.{Seat}
use Rattle.thr_parts.specs.declared.wait.Wait.{Wait}
use Rattle.thr_parts.specs.Tables.{get}
use Rattle.thr_parts.specs.Rows.{thread, row_in, row_at, row_of}
use Rattle.thr_model.specs.States.{State, Debt}
use Rattle.thr_answers.specs.Statuses.{Absent, by_row, status}
use Rattle.thr_answers.proofs.StatusTurns.{InOrder, HasRun, absent_parts}

there_by_row : (r : Option RowId) → by_row r ≡ Absent → ⊥
there_by_row None e = absurd (cc)
there_by_row (Some row.Ready) e = absurd (cc)
there_by_row (Some _) e = absurd (cc)

seat_absent : (o : Option Debt) (x : Option Seat) (z : Option Wait) → o ≡ None → z ≡ None → status o x z ≡ Absent → x ≡ None
seat_absent o None z e f h = refl
seat_absent (Some d) (Some s) z e f h = absurd (cc)
seat_absent None (Some s) (Some w) e f h = absurd (cc)
seat_absent None (Some s) None e f h = absurd (there_by_row (row_in s.place) h)

-- A thread that isn't there has no seat.
pub no_seat : (o : Option Debt) (x : Option Seat) (z : Option Wait) → status o x z ≡ Absent → x ≡ None
no_seat o x z h = let p : (o ≡ None) × (z ≡ None) = absent_parts o x z h in seat_absent o x z p.0 p.1 h

-- So it is with the thread that is created next.
pub next_no_row : (st : State) → InOrder st → row_of st.rows (thread st.threads.next) ≡ None
next_no_row st order =
    let next : ℕ = st.threads.next in
    let le : next ≤ next = omega arith in ap row_at (no_seat (get st.debts next) (get st.rows.seats next) (get st.conds.waits next) (order.fresh next le))

-- And a thread that runs stands in no row.
pub run_no_row : (st : State) (t : Tid) → HasRun st t.0 → row_of st.rows t ≡ None
run_no_row st t run = ap row_at run.at ∙ run.runs
