-- A thread that stands in a mutex's row stays there, whatever becomes of other threads and of other rows.
use Rattle.std.proofs.Common.{◌≡◌, ℕ, Bool, true, false, eqb, List, [], ◌∷◌, Option, Some, None, refl, sym, ap, ◌∙◌}
use Rattle.std.proofs.lemmas.Bool.{eqb-true}
use Rattle.std.specs.Prelude.{if◌then◌else◌, is_none}
use Rattle.std.specs.Option.{option_map}
use Rattle.thr_values.specs.declared.number.Tid.{Tid}
use Rattle.thr_values.specs.declared.number.NameId.{NameId}
use Rattle.thr_values.specs.declared.reply.Reply.{Reply}
use Rattle.thr_parts.specs.declared.row.RowId.{RowId}
use Rattle.thr_parts.specs.declared.row.RowId.TheVariants as row
use Rattle.thr_parts.specs.declared.row.Place.TheVariants.{Runs, Stands}
use Rattle.thr_parts.specs.declared.row.Seat.{Seat}
use Rattle.thr_parts.specs.Tables.{get, put, put_if, keep_if, IsCanonical}
use Rattle.thr_parts.specs.Rows.{Rows, thread, seat_of, row_at, is_in_row, is_running, best, best_of, best_first, standing, number_in}
use Rattle.thr_parts.specs.Moves.{as_ranked, take_out, take_out_if, leave, block_in, block_if, make_ready, make_all_ready, free_row}
use Rattle.thr_parts.specs.Dispatch.{running, next_for, with_processor, dispatch, whole_slice, as_kept, keeps}
use Rattle.thr_parts.specs.Threads.{Threads, rank_at}
use Rattle.thr_parts.specs.OnceBlocks as once
use Rattle.thr_parts.specs.Closing.{free_if}
use Rattle.thr_parts.proofs.RowLaws.{best_stands}
use Rattle.thr_laws.proofs.ReadingLaws.{AllLines}
use Rattle.thr_model.specs.States.{State, rank_of}
use Rattle.thr_model.specs.Calls.{ready_if, rank_if, given_state, woken_state}
use Rattle.thr_model.specs.Turns.{handed_on}
use Rattle.thr_answers.proofs.StatusMoves.{with_put, with_put_cut}
use Rattle.thr_answers.proofs.StatusCalls.{kept_is}
use Rattle.thr_answers.proofs.StatusRows.{all_map, all_stand}
use Rattle.thr_reacquired.proofs.Regaining.{not_true, elsewhere, there, cut_elsewhere}
use Rattle.thr_reacquired.proofs.OnceEach.{NoneIs}
use Rattle.thr_reacquired.proofs.Woken.{InRow}

module _ (u : ℕ) where
  -- The thread's seat is the same.
  abbrev pub Same : Rows → Rows → Type 0
  Same rs after = get after.seats u ≡ get rs.seats u

  -- The thread that is there is another.
  abbrev pub IsOther : Option Tid → Type 0
  IsOther o = (w : Tid) → o ≡ Some w → eqb w.0 u ≡ true → ⊥

  other : (w : Tid) → IsOther (Some w) → eqb w.0 u ≡ false
  other w n = not_true (eqb w.0 u) (n w refl)

  pub out_same : (rs : Rows) (o : Option Tid) → IsOther o → Same rs (take_out_if rs o)
  out_same rs None n = refl
  out_same rs (Some w) n = cut_elsewhere (is_in_row (seat_of rs w)) rs.seats w.0 u (other w n)

  pub leave_same : (rs : Rows) (t : Tid) → eqb t.0 u ≡ false → Same rs (leave rs t)
  leave_same rs t e = cut_elsewhere (is_running (seat_of rs t)) rs.seats t.0 u e

  pub block_same : (rs : Rows) (r : RowId) (t : Tid) (rank : ℕ) → eqb t.0 u ≡ false → Same rs (block_in rs r t rank)
  block_same rs r t rank e =
      let s : Seat = record { rank = rank; place = Stands r rs.next_arrival } in elsewhere rs.seats (block_in rs r t rank).seats t.0 u (Some s) (with_put_cut (is_running (seat_of rs t)) rs.seats t.0 s) e

  pub block_if_same : (b : Bool) (rs : Rows) (r : RowId) (t : Tid) (rank : ℕ) → eqb t.0 u ≡ false → Same rs (block_if b rs r t rank)
  block_if_same true rs r t rank e = block_same rs r t rank e
  block_if_same false rs r t rank e = refl

  ready_same : (rank : Tid → ℕ) (rs : Rows) (t : Tid) → eqb t.0 u ≡ false → Same rs (make_ready rank rs t)
  ready_same rank rs t e = (let s : Seat = record { rank = rank t; place = Stands row.Ready rs.next_arrival } in elsewhere rs.seats (make_ready rank rs t).seats t.0 u (Some s) (with_put rs.seats t.0 s) e)

  pub ready_if_same : (b : Bool) (rank : Tid → ℕ) (rs : Rows) (t : Tid) → eqb t.0 u ≡ false → Same rs (ready_if b rank rs t)
  ready_if_same true rank rs t e = ready_same rank rs t e
  ready_if_same false rank rs t e = refl

  pub given_same : (st : State) (rs : Rows) (o : Option Tid) → IsOther o → Same rs (given_state st rs o).rows
  given_same st rs None n = refl
  given_same st rs (Some w) n = ready_same (rank_of st) rs w (other w n)

  pub woken_same : (st : State) (rs : Rows) (y : Reply) (o : Option Tid) → IsOther o → Same rs (woken_state st rs y o).rows
  woken_same st rs y None n = refl
  woken_same st rs y (Some w) n = ready_same (rank_of st) rs w (other w n)

  pub handed_same : (st : State) (x : once.Undone) (o : Option Tid) → IsOther o → Same x.rows (handed_on st x o).rows
  handed_same st x None n = refl
  handed_same st x (Some w) n = ready_same (rank_of st) x.rows w (other w n)

  kept_at : (rs : Rows) (t : ℕ) (fifo : Bool) (o : Option Seat) → eqb t u ≡ false → get (put_if rs.seats t (option_map (as_kept rs fifo) o)) u ≡ get rs.seats u
  kept_at rs t fifo None e = refl
  kept_at rs t fifo (Some s) e = elsewhere rs.seats (put rs.seats t (as_kept rs fifo s)) t u (Some (as_kept rs fifo s)) (with_put rs.seats t (as_kept rs fifo s)) e

  pub keeps_same : (rs : Rows) (t : Tid) (fifo : Bool) → eqb t.0 u ≡ false → Same rs (keeps rs t fifo).rows
  keeps_same rs t fifo e = kept_at rs t.0 fifo (seat_of rs t) e

  -- ---- ranks

  ranked_row : (rs : Rows) (w rank : ℕ) (o : Option Seat) (b : Bool) → get rs.seats w ≡ o → eqb w u ≡ b → row_at (get (put_if rs.seats w (option_map (as_ranked rank) o)) u) ≡ row_at (get rs.seats u)
  ranked_row rs w rank None b e i = refl
  ranked_row rs w rank (Some s) true e i =
      ap row_at (there rs.seats (put rs.seats w (as_ranked rank s)) w u (Some (as_ranked rank s)) (with_put rs.seats w (as_ranked rank s)) i) ∙ sym (ap row_at (ap (get rs.seats) (sym (eqb-true w u i)) ∙ e))
  ranked_row rs w rank (Some s) false e i = ap row_at (elsewhere rs.seats (put rs.seats w (as_ranked rank s)) w u (Some (as_ranked rank s)) (with_put rs.seats w (as_ranked rank s)) i)

  pub rank_if_row : (b : Bool) (ths : Threads) (rs : Rows) (w : Tid) → row_at (get (rank_if b ths rs w).seats u) ≡ row_at (get rs.seats u)
  rank_if_row true ths rs w = ranked_row rs w.0 (rank_at ths w) (seat_of rs w) (eqb w.0 u) refl refl
  rank_if_row false ths rs w = refl

  -- ---- rows that become ready

  all_ready_same : (rank : Tid → ℕ) (rs : Rows) (ts : List Tid) → NoneIs u ts → Same rs (make_all_ready rank rs ts)
  unfolding make_all_ready
  all_ready_same rank rs [] n = refl
  all_ready_same rank rs (w ∷ ts) n =
      let e : eqb w.0 u ≡ false = not_true (eqb w.0 u) n.0 in
      all_ready_same rank (make_ready rank (take_out rs w).rows w) ts n.1 ∙ ready_same rank (take_out rs w).rows w e ∙ cut_elsewhere (is_in_row (seat_of rs w)) rs.seats w.0 u e

module _ (u : ℕ) (m : NameId) where
  -- The row is another one.
  abbrev pub IsOtherRow : RowId → Type 0
  IsOtherRow r = Some r ≡ Some (row.Mutex m) → ⊥

  out_of_row : (rs : Rows) (r : RowId) (w : Tid) → row_at (get rs.seats w.0) ≡ Some r → IsOtherRow r → InRow u m rs → eqb w.0 u ≡ true → ⊥
  out_of_row rs r w at n h e = n (sym at ∙ ap (λ (q : ℕ). row_at (get rs.seats q)) (eqb-true w.0 u e) ∙ h)

  -- The best of another row is another thread.
  pub best_other : (rs : Rows) (r : RowId) (b : Bool) → IsCanonical rs.seats → IsOtherRow r → InRow u m rs → IsOther u (keep_if b (best rs r))
  best_other rs r b c n h w e = out_of_row rs r w (best_stands rs r w c (kept_is b (best rs r) w e)) n h

  pub none_in_row : (rs : Rows) (r : RowId) → IsCanonical rs.seats → IsOtherRow r → InRow u m rs → NoneIs u (best_first rs r)
  none_in_row rs r c n h = all_map (λ (w : Tid). row_at (get rs.seats w.0) ≡ Some r) (λ (w : Tid). eqb w.0 u ≡ true → ⊥) (λ w at. out_of_row rs r w at n h) (best_first rs r) (all_stand rs r c)

  pub outside_row : (rs : Rows) (r : RowId) → IsCanonical rs.seats → IsOtherRow r → AllLines (λ (w : Tid). eqb w.0 u ≡ true → InRow u m rs → ⊥) (best_first rs r)
  outside_row rs r c n = all_map (λ (w : Tid). row_at (get rs.seats w.0) ≡ Some r) (λ (w : Tid). eqb w.0 u ≡ true → InRow u m rs → ⊥) (λ w at e h. out_of_row rs r w at n h e) (best_first rs r) (all_stand rs r c)

  -- The threads of another row become ready.
  pub free_row_stays : (rank : Tid → ℕ) (rs : Rows) (r : RowId) → IsCanonical rs.seats → IsOtherRow r → InRow u m rs → InRow u m (free_row rank rs r).rows
  free_row_stays rank rs r c n h = ap row_at (all_ready_same u rank rs (best_first rs r) (none_in_row rs r c n h)) ∙ h

  pub free_if_stays : (b : Bool) (rank : Tid → ℕ) (rs : Rows) (r : RowId) → IsCanonical rs.seats → IsOtherRow r → InRow u m rs → InRow u m (free_if b rank rs r).rows
  free_if_stays true rank rs r c n h = free_row_stays rank rs r c n h
  free_if_stays false rank rs r c n h = h

  -- ---- dispatch

  next_is : (b : Bool) (o : Option (ℕ × Seat)) (e : ℕ × Seat) → (if b then o else None) ≡ Some e → number_in o ≡ Some (thread e.0)
  next_is true o e h = ap number_in h
  next_is false o e h = absurd (cc)

  processor_stays : (rs : Rows) (p : ℕ) (o : Option (ℕ × Seat)) → IsCanonical rs.seats → next_for rs p ≡ o → InRow u m rs → row_at (get (with_processor o rs.seats p) u) ≡ Some (row.Mutex m)
  processor_stays rs p None c is h = h
  processor_stays rs p (Some e) c is h =
      let s : Seat = record { rank = e.1.rank; place = Runs p whole_slice } in
      ap row_at (elsewhere rs.seats (put rs.seats e.0 s) e.0 u (Some s) (with_put rs.seats e.0 s)
      (not_true (eqb e.0 u) (best_other rs row.Ready true c (λ f. absurd (cc)) h (thread e.0) (next_is (is_none (running rs p)) (best_of (standing rs row.Ready)) e is))))
      ∙ h

  pub dispatch_stays : (rs : Rows) (p : ℕ) → IsCanonical rs.seats → InRow u m rs → InRow u m (dispatch rs p).rows
  dispatch_stays rs p c h = processor_stays rs p (next_for rs p) c refl h
