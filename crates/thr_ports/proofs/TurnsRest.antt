-- What else another thread's turn does leaves a thread's wait on a condition and what it owes; and so does a dispatch.
use Rattle.std.proofs.Common.{◌≡◌, ℕ, suc, Bool, true, false, eqb, Option, Some, None, refl, sym, ap, ◌∙◌, subst}
use Rattle.std.specs.Prelude.{if◌then◌else◌, is_none, is_some, ℤ}
use Rattle.thr_values.specs.declared.number.NameId.{NameId}
use Rattle.thr_values.specs.declared.number.Tid.{Tid}
use Rattle.thr_values.specs.declared.reply.Reply.TheVariants as reply
use Rattle.thr_remainder.specs.Remainders.{Setting, Remainder}
use Rattle.thr_parts.specs.declared.row.RowId.TheVariants as row
use Rattle.thr_parts.specs.declared.row.Seat.{Seat}
use Rattle.thr_parts.specs.declared.row.Place.TheVariants.{Runs}
use Rattle.thr_parts.specs.Tables.{get, cut, IsCanonical}
use Rattle.thr_parts.specs.Rows.{Rows, row_at, best, best_of, standing}
use Rattle.thr_parts.specs.Moves.{take_out_if, make_ready, free_row, leave}
use Rattle.thr_parts.specs.Dispatch.{dispatch, next_for, with_processor, running, whole_slice}
use Rattle.thr_parts.specs.Threads.{record_at}
use Rattle.thr_parts.specs.Keys.{DestructorCall, NextDestructor}
use Rattle.thr_parts.specs.OnceBlocks as once
use Rattle.thr_parts.proofs.BestLaws.{found}
use Rattle.thr_parts.proofs.RowLaws.{has_seat, canonical_standing}
use Rattle.thr_model.specs.States.{State, Return, Running, rank_of}
use Rattle.thr_model.specs.Turns.{Made, written_to, handed_on, freed, end_made, kept, is_fifo_in}
use Rattle.thr_cancels.proofs.Seats.{is_calm, IsMoved, same, leave_moves, keeps_moves, free_row_moves, wakes_best, put_woken, then_moves}
use Rattle.thr_ports.proofs.Resting.{Rests, same_rests, moved_calm, never_next, calm_not_best, calm_not_among, put_keeps, all_keep, cut_elsewhere}

-- What the state keeps is the same but for debts and rows, which rest.
module _ (u : ℕ) (st : State) where
  -- A thread that becomes ready out of a once block's row.
  pub handed_rests : (block : NameId) (o : Option Tid) → best st.rows (row.Once block) ≡ o → IsCanonical st.rows.seats → Rests u st (handed_on st (once.undone st.onces st.rows block) o)
  handed_rests block None e sorted =
      record {
        waits = refl;
        owes = λ d o. (o.0, subst (λ (w : Option Tid). is_calm (row_at (get (take_out_if st.rows w).seats u)) ≡ true) (sym e) o.1);
      }
  handed_rests block (Some k) e sorted = record {
    waits = refl;
    owes = λ d o. (
      put_keeps st.debts k.0 u Running d (calm_not_best u st.rows (row.Once block) k refl sorted e o.1) o.0,
      subst (λ (w : Option Tid). is_calm (row_at (get (make_ready (rank_of st) (take_out_if st.rows w) k).seats u)) ≡ true) (sym e)
          (moved_calm (suc u) (suc u) u false (get st.rows.seats u) _ (wakes_best (suc u) (suc u) u false st.rows (row.Once block) row.Ready k (rank_of st k) refl sorted e) (never_next u) o.1),
    );
  }

  -- The threads of a once block's row become ready.
  pub completed_rests : (block : NameId) → IsCanonical st.rows.seats
      → Rests u st (freed (record st { onces = once.done st.onces block }) reply.Done (free_row (rank_of st) st.rows (row.Once block)))
  completed_rests block sorted = record {
    waits = refl;
    owes = λ d o. (
      all_keep _ st.debts u (Return reply.Done) d (calm_not_among u st.rows (row.Once block) refl sorted o.1) o.0,
      moved_calm (suc u) (suc u) u false (get st.rows.seats u) _ (free_row_moves (suc u) (suc u) u false (rank_of st) st.rows (row.Once block) sorted) (never_next u) o.1,
    );
  }

  -- Another thread ends.
  pub ended_rests : (t : Tid) (g : Setting) (r : Remainder) (o : NextDestructor) (c : Option DestructorCall) → eqb t.0 u ≡ false → IsCanonical st.rows.seats → Rests u st (end_made st t g r o c).state
  ended_rests t g r o (Some c) other sorted = record { waits = refl; owes = λ d q. q }
  ended_rests t g r o None other sorted = record {
    waits = refl;
    owes = λ d q. (
      all_keep _ st.debts u (Return (reply.Value r.value)) d (calm_not_among u st.rows (row.Join t) refl sorted q.1) q.0,
      moved_calm t.0 (suc u) u false (get st.rows.seats u) _
          (then_moves t.0 (suc u) u false st.rows (free_row (rank_of st) st.rows (row.Join t)).rows (leave (free_row (rank_of st) st.rows (row.Join t)).rows t)
          (free_row_moves t.0 (suc u) u false (rank_of st) st.rows (row.Join t) sorted) (leave_moves t.0 (suc u) u false (free_row (rank_of st) st.rows (row.Join t)).rows t refl)) other q.1,
    );
  }

  pub written_rests : (o : Option (NameId × ℤ)) → Rests u st (written_to st o)
  written_rests None = same_rests u st
  written_rests (Some w) = record { waits = refl; owes = λ d o. o }

  -- Another thread has paid what it owed.
  pub paid_rests : (t : Tid) → eqb t.0 u ≡ false → Rests u st (record st { debts = cut st.debts t.0 })
  paid_rests t other = record { waits = refl; owes = λ d o. (cut_elsewhere st.debts t.0 u other ∙ o.0, o.1) }

-- Another thread keeps its processor or gives it up.
pub keeps_rests : (u : ℕ) (t : Tid) (made : Made) → eqb t.0 u ≡ false → Rests u made.state (kept t made).state
keeps_rests u t made other = record {
  waits = refl;
  owes = λ d o. (
    o.0,
    moved_calm t.0 (suc u) u false (get made.state.rows.seats u) _ (keeps_moves t.0 (suc u) u false made.state.rows t (is_fifo_in (record_at made.state.threads t))) other o.1,
  );
}

-- ---- dispatch

seat_there : (rs : Rows) (p : ℕ) (b : Bool) (e : ℕ × Seat) → IsCanonical rs.seats → (if b then best_of (standing rs row.Ready) else None) ≡ Some e → get rs.seats e.0 ≡ Some e.1
seat_there rs p true e h f = (has_seat rs row.Ready e.0 e.1 h (found (standing rs row.Ready) e (canonical_standing rs row.Ready h) f)).at
seat_there rs p false e h f = absurd (cc)

dispatch_moves : (u : ℕ) (rs : Rows) (p : ℕ) (o : Option (ℕ × Seat)) → IsCanonical rs.seats → next_for rs p ≡ o → IsMoved (suc u) (suc u) u false (get rs.seats u) (get (with_processor o rs.seats p) u)
dispatch_moves u rs p None h e = same refl
dispatch_moves u rs p (Some x) h e =
    put_woken (suc u) (suc u) u false rs rs x.0 (record { rank = x.1.rank; place = Runs p whole_slice }) refl
    (ap is_some (seat_there rs p (is_none (running rs p)) x h e)) (λ f. refl)

pub dispatch_rests : (u : ℕ) (st : State) (p : ℕ) → IsCanonical st.rows.seats → Rests u st (record st { rows = (dispatch st.rows p).rows })
dispatch_rests u st p sorted = record {
  waits = refl;
  owes = λ d o. (o.0, moved_calm (suc u) (suc u) u false (get st.rows.seats u) _ (dispatch_moves u st.rows p (next_for st.rows p) sorted refl) (never_next u) o.1);
}
