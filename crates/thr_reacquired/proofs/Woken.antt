-- Threads that leave their waits have their mutex again or stand in its row, and others keep what they have.
use Rattle.std.proofs.Common.{◌≡◌, ℕ, Bool, true, false, eqb, List, [], ◌∷◌, Option, Some, None, refl, sym, ap, ◌∙◌, subst}
use Rattle.std.specs.Prelude.{is_some}
use Rattle.std.specs.Option.{option_and_then}
use Rattle.thr_values.specs.declared.number.Tid.{Tid}
use Rattle.thr_values.specs.declared.number.NameId.{NameId}
use Rattle.thr_parts.specs.declared.row.RowId.TheVariants as row
use Rattle.thr_parts.specs.declared.row.Seat.{Seat}
use Rattle.thr_parts.specs.declared.wait.Wait.{Wait}
use Rattle.thr_parts.specs.Tables.{Table, get, cut}
use Rattle.thr_parts.specs.Rows.{Rows, thread, seat_of, is_in_row, row_at}
use Rattle.thr_parts.specs.Moves.{take_out_if}
use Rattle.thr_parts.specs.Mutexes.{Locks, mutex_at, owner}
use Rattle.thr_parts.specs.Locking.{Regained, is_held_by, is_free}
use Rattle.thr_parts.specs.Conditions.{Conds, wait_of, mutex_of}
use Rattle.thr_parts.specs.Waking.{LeftWait, pull_out, some_if, waits_without, mutex_with, resume, wake_all, Woken}
use Rattle.thr_laws.proofs.ReadingLaws.{AllLines}
use Rattle.thr_answers.proofs.StatusMoves.{with_put, with_cut}
use Rattle.thr_answers.proofs.StatusRows.{all_map, resumed_seat}
use Rattle.thr_reacquired.specs.Waiters.{Has, waits, stands, owns}
use Rattle.thr_reacquired.proofs.Regaining.{elsewhere, cut_elsewhere, same_thread, regain_keeps, resumed}
use Rattle.thr_reacquired.proofs.OnceEach.{NoneIs, OnceIn}

module _ (u : ℕ) (m : NameId) where
  -- The thread stands in the mutex's row.
  abbrev pub InRow : Rows → Type 0
  InRow rs = row_at (get rs.seats u) ≡ Some (row.Mutex m)

  resume_keeps : (rank : Tid → ℕ) (ls : Locks) (rs : Rows) (w : Tid) (o : Option NameId) → is_held_by (owner ls (Some m)) (thread u) ≡ true → is_held_by (owner (resume rank ls rs w o).locks (Some m)) (thread u) ≡ true
  resume_keeps rank ls rs w None e = e
  resume_keeps rank ls rs w (Some n) e = regain_keeps ls n m w (thread u) (is_free (mutex_at ls (Some n))) refl e

  resume_elsewhere : (rank : Tid → ℕ) (ls : Locks) (rs : Rows) (w : Tid) (o : Option NameId) → eqb w.0 u ≡ false → get (resume rank ls rs w o).rows.seats u ≡ get rs.seats u
  resume_elsewhere rank ls rs w o e = (let x = resumed_seat rank ls rs w o in ap (λ (s : Table Seat). get s u) x.1 ∙ elsewhere rs.seats _ w.0 u (Some x.0) (with_put rs.seats w.0 x.0) e)

  -- The waits and the rows once the thread w has left its wait, for the others.
  pub record Leaves (cs cs' : Conds) (rs rs' : Rows) (w : Tid) : Type 0 where
    pub waits_stay : eqb w.0 u ≡ false → get cs'.waits u ≡ get cs.waits u
    pub seats_stay : eqb w.0 u ≡ false → get rs'.seats u ≡ get rs.seats u

  leaver_has : (rank : Tid → ℕ) (cs cs' : Conds) (ls : Locks) (rs rs' : Rows) (w : Tid) (o : Option NameId) → mutex_with cs w ≡ o → thread u ≡ w → (InRow rs → ⊥) → Has u m cs ls rs → Has u m cs' (resume rank ls rs' w o).locks (resume rank ls rs' w o).rows
  leaver_has rank cs cs' ls rs rs' w o e same out (waits h) =
      subst (λ (x : Option NameId). Has u m cs' (resume rank ls rs' w x).locks (resume rank ls rs' w x).rows) (sym h ∙ ap (mutex_with cs) same ∙ e)
      (resumed u m w (rank w) cs' ls rs' (is_free (mutex_at ls (Some m))) refl (sym same))
  leaver_has rank cs cs' ls rs rs' w o e same out (stands h) = absurd (out h)
  leaver_has rank cs cs' ls rs rs' w o e same out (owns h) = owns (resume_keeps rank ls rs' w o h)

  other_has : (rank : Tid → ℕ) (cs cs' : Conds) (ls : Locks) (rs rs' : Rows) (w : Tid) (o : Option NameId) → Leaves cs cs' rs rs' w → eqb w.0 u ≡ false → Has u m cs ls rs → Has u m cs' (resume rank ls rs' w o).locks (resume rank ls rs' w o).rows
  other_has rank cs cs' ls rs rs' w o l e (waits h) = waits (ap (option_and_then mutex_of) (l.waits_stay e) ∙ h)
  other_has rank cs cs' ls rs rs' w o l e (stands h) = stands (ap row_at (resume_elsewhere rank ls rs' w o e ∙ l.seats_stay e) ∙ h)
  other_has rank cs cs' ls rs rs' w o l e (owns h) = owns (resume_keeps rank ls rs' w o h)

  -- One thread leaves its wait, and gets its mutex or stands in the mutex's row.
  pub one_woken : (rank : Tid → ℕ) (cs cs' : Conds) (ls : Locks) (rs rs' : Rows) (w : Tid) (o : Option NameId) → mutex_with cs w ≡ o → Leaves cs cs' rs rs' w → (eqb w.0 u ≡ true → InRow rs → ⊥) → Has u m cs ls rs
      → Has u m cs' (resume rank ls rs' w o).locks (resume rank ls rs' w o).rows
  one_woken rank cs cs' ls rs rs' w o e l out h = either (eqb w.0 u) refl
    where
      either : (b : Bool) → eqb w.0 u ≡ b → Has u m cs' (resume rank ls rs' w o).locks (resume rank ls rs' w o).rows
      either true i = leaver_has rank cs cs' ls rs rs' w o e (same_thread w u i) (out i) h
      either false i = other_has rank cs cs' ls rs rs' w o l i h

  without_elsewhere : (b : Bool) (v : Table Wait) (w : Tid) → eqb w.0 u ≡ false → get (waits_without v (some_if b w)) u ≡ get v u
  without_elsewhere true v w e = elsewhere v (cut v w.0) w.0 u None (with_cut v w.0) e
  without_elsewhere false v w e = refl

  out_elsewhere : (b : Bool) (rs : Rows) (w : Tid) → eqb w.0 u ≡ false → get (take_out_if rs (some_if b w)).seats u ≡ get rs.seats u
  out_elsewhere true rs w e = cut_elsewhere (is_in_row (seat_of rs w)) rs.seats w.0 u e
  out_elsewhere false rs w e = refl

  pub pulled_out : (cs : Conds) (rs : Rows) (w : Tid) → Leaves cs (pull_out cs rs w).conds rs (pull_out cs rs w).rows w
  pulled_out cs rs w = record { waits_stay = without_elsewhere (is_some (wait_of cs w)) cs.waits w; seats_stay = out_elsewhere (is_some (wait_of cs w)) rs w }

  -- None of these that is the thread finds it in the mutex's row.
  abbrev pub Outside : Rows → List Tid → Type 0
  Outside rs ts = AllLines (λ (w : Tid). eqb w.0 u ≡ true → InRow rs → ⊥) ts

  still_outside : (rank : Tid → ℕ) (cs : Conds) (ls : Locks) (rs : Rows) (w : Tid) (ts : List Tid) → (eqb w.0 u ≡ true → NoneIs u ts) → Outside rs ts → Outside (resume rank ls (pull_out cs rs w).rows w (mutex_with cs w)).rows ts
  still_outside rank cs ls rs w ts once out = either (eqb w.0 u) refl
    where
      after : Rows
      after = (resume rank ls (pull_out cs rs w).rows w (mutex_with cs w)).rows

      either : (b : Bool) → eqb w.0 u ≡ b → Outside (resume rank ls (pull_out cs rs w).rows w (mutex_with cs w)).rows ts
      either true i = all_map (λ (x : Tid). eqb x.0 u ≡ true → ⊥) (λ (x : Tid). eqb x.0 u ≡ true → InRow after → ⊥) (λ x f e s. absurd (f e)) ts (once i)
      either false i =
          all_map (λ (x : Tid). eqb x.0 u ≡ true → InRow rs → ⊥) (λ (x : Tid). eqb x.0 u ≡ true → InRow after → ⊥)
          (λ x f e s. f e (ap row_at (sym (resume_elsewhere rank ls (pull_out cs rs w).rows w (mutex_with cs w) i ∙ (pulled_out cs rs w).seats_stay i)) ∙ s)) ts out

  -- Several threads do so one after the other.
  pub all_woken : (rank : Tid → ℕ) (cs : Conds) (ls : Locks) (rs : Rows) (ts : List Tid) → OnceIn u ts → Outside rs ts → Has u m cs ls rs → (let o : Woken = wake_all rank cs ls rs ts in Has u m o.conds o.locks o.rows)
  unfolding wake_all
  all_woken rank cs ls rs [] once out h = h
  all_woken rank cs ls rs (w ∷ ts) once out h =
      let left : LeftWait = pull_out cs rs w in
      let now : Regained = resume rank ls left.rows w (mutex_with cs w) in
      all_woken rank left.conds now.locks now.rows ts once.1 (still_outside rank cs ls rs w ts once.0 out.1)
      (one_woken rank cs left.conds ls rs left.rows w (mutex_with cs w) refl (pulled_out cs rs w) out.0 h)
