-- Threads that stand in the row of a once block: a fact that follows for a thread that stands in one follows whatever becomes of
-- other rows.
use Rattle.std.proofs.Common.{◌≡◌, ℕ, Bool, true, false, cond, eqb, List, [], ◌∷◌, Option, Some, None, refl, sym, ◌∙◌, ap}
use Rattle.std.proofs.lemmas.Bool.{eqb-true, false≢true}
use Rattle.std.specs.Prelude.{if◌then◌else◌}
use Rattle.std.specs.Option.{is_some, option_map}
use Rattle.thr_values.specs.declared.number.Tid.{Tid}
use Rattle.thr_values.specs.declared.number.NameId.{NameId}
use Rattle.thr_parts.specs.declared.row.RowId.{RowId}
use Rattle.thr_parts.specs.declared.row.RowId.TheVariants as row
use Rattle.thr_parts.specs.declared.row.Place.{Place}
use Rattle.thr_parts.specs.declared.row.Place.TheVariants.{Runs, Stands}
use Rattle.thr_parts.specs.declared.row.Seat.{Seat}
use Rattle.thr_parts.specs.Tables.{Table, get, put, put_if, cut, cut_if}
use Rattle.thr_parts.specs.Rows.{Rows, seat_of, row_at, is_in_row, is_running, best_first}
use Rattle.thr_parts.specs.Moves.{as_ranked, put_in_row, take_out, take_out_if, leave, block_in, block_if, set_rank, make_ready, make_all_ready}
use Rattle.thr_parts.specs.Dispatch.{whole_slice, next_for, with_processor, dispatch, a_turn_later, gives_way, as_kept, keeps}
use Rattle.thr_parts.specs.Mutexes.{Locks, mutex_at}
use Rattle.thr_parts.specs.Locking.{is_free, regain}
use Rattle.thr_parts.specs.Conditions.{Conds, wait_of}
use Rattle.thr_parts.specs.Waking.{pull_out, some_if, resume, mutex_with, wake_all}
use Rattle.thr_parts.specs.Closing.{free_if}
use Rattle.thr_parts.specs.Pipes.{Pipes}
use Rattle.thr_parts.specs.CancelledWaits.{cancel_wait}
use Rattle.thr_parts.proofs.TableLaws.{get_put, get_cut}

-- The row that is there is that of a once block.
abbrev pub is_once_row : Option RowId → Bool
is_once_row (Some (row.Once o)) = true
is_once_row _ = false

-- The seat that is there stands in one.
abbrev pub in_once : Option Seat → Bool
in_once o = is_once_row (row_at o)

module _ (u : ℕ) (A : Type 0) where
  -- The fact follows where the thread stands in the row of a once block.
  abbrev pub Follows : Table Seat → Type 0
  Follows m = in_once (get m u) ≡ true → A

  put_by : (b : Bool) (x : Seat) (o : Option Seat) → in_once (Some x) ≡ false → (in_once o ≡ true → A) → in_once (cond b (Some x) o) ≡ true → A
  put_by true x o n h e = absurd (false≢true (sym n ∙ e))
  put_by false x o n h e = h e

  put_follows : (m : Table Seat) (k : ℕ) (x : Seat) → in_once (Some x) ≡ false → Follows m → Follows (put m k x)
  put_follows m k x n h e = put_by (eqb k u) x (get m u) n h (sym (ap in_once (get_put m k u x)) ∙ e)

  like_by : (b : Bool) (x y : Seat) (o : Option Seat) → in_once (Some y) ≡ in_once (Some x) → (b ≡ true → o ≡ Some x) → (in_once o ≡ true → A) → in_once (cond b (Some y) o) ≡ true → A
  like_by true x y o same at h e = h (ap in_once (at refl) ∙ sym same ∙ e)
  like_by false x y o same at h e = h e

  -- A seat at the same row takes the place of one.
  like_follows : (m : Table Seat) (k : ℕ) (x y : Seat) → in_once (Some y) ≡ in_once (Some x) → get m k ≡ Some x → Follows m → Follows (put m k y)
  like_follows m k x y same at h e =
      like_by (eqb k u) x y (get m u) same (λ f. ap (get m) (sym (eqb-true k u f)) ∙ at) h (sym (ap in_once (get_put m k u y)) ∙ e)

  cut_by : (b : Bool) (o : Option Seat) → (in_once o ≡ true → A) → in_once (cond b None o) ≡ true → A
  cut_by true o h e = absurd (false≢true e)
  cut_by false o h e = h e

  cut_follows : (m : Table Seat) (k : ℕ) → Follows m → Follows (cut m k)
  cut_follows m k h e = cut_by (eqb k u) (get m u) h (sym (ap in_once (get_cut m k u)) ∙ e)

  cut_if_follows : (b : Bool) (m : Table Seat) (k : ℕ) → Follows m → Follows (cut_if b m k)
  cut_if_follows true m k h = cut_follows m k h
  cut_if_follows false m k h = h

  -- ---- rows

  pub row_follows : (rs : Rows) (r : RowId) (t : Tid) (rank : ℕ) → is_once_row (Some r) ≡ false → Follows rs.seats → Follows (put_in_row rs r t rank).seats
  row_follows rs r t rank n h = put_follows rs.seats t.0 (record { rank = rank; place = Stands r rs.next_arrival }) n h

  pub out_follows : (rs : Rows) (o : Option Tid) → Follows rs.seats → Follows (take_out_if rs o).seats
  out_follows rs None h = h
  out_follows rs (Some t) h = cut_if_follows (is_in_row (seat_of rs t)) rs.seats t.0 h

  pub leave_follows : (rs : Rows) (t : Tid) → Follows rs.seats → Follows (leave rs t).seats
  leave_follows rs t h = cut_if_follows (is_running (seat_of rs t)) rs.seats t.0 h

  pub block_follows : (rs : Rows) (r : RowId) (t : Tid) (rank : ℕ) → is_once_row (Some r) ≡ false → Follows rs.seats → Follows (block_in rs r t rank).seats
  block_follows rs r t rank n h = row_follows (leave rs t) r t rank n (leave_follows rs t h)

  pub block_if_follows : (b : Bool) (rs : Rows) (r : RowId) (t : Tid) (rank : ℕ) → is_once_row (Some r) ≡ false → Follows rs.seats → Follows (block_if b rs r t rank).seats
  block_if_follows true rs r t rank n h = block_follows rs r t rank n h
  block_if_follows false rs r t rank n h = h

  entered_by : (b : Bool) (x : Seat) (o : Option Seat) → (b ≡ true → A) → (in_once o ≡ true → A) → in_once (cond b (Some x) o) ≡ true → A
  entered_by true x o here h e = here refl
  entered_by false x o here h e = h e

  -- The thread that comes into the row may be this one, where the fact follows of itself.
  pub enter_follows : (b : Bool) (rs : Rows) (r : RowId) (t : Tid) (rank : ℕ) → (b ≡ true → eqb t.0 u ≡ true → A) → Follows rs.seats → Follows (block_if b rs r t rank).seats
  enter_follows true rs r t rank here h = λ e.
      (let x : Seat = record { rank = rank; place = Stands r rs.next_arrival } in
      entered_by (eqb t.0 u) x (get (leave rs t).seats u) (here refl) (leave_follows rs t h) (sym (ap in_once (get_put (leave rs t).seats t.0 u x)) ∙ e))
  enter_follows false rs r t rank here h = h

  ranked_by : (m : Table Seat) (t rank : ℕ) (o : Option Seat) → get m t ≡ o → Follows m → Follows (put_if m t (option_map (as_ranked rank) o))
  ranked_by m t rank None e h = h
  ranked_by m t rank (Some x) e h = like_follows m t x (as_ranked rank x) refl e h

  pub rank_follows : (rs : Rows) (t : Tid) (rank : ℕ) → Follows rs.seats → Follows (set_rank rs t rank).seats
  rank_follows rs t rank h = ranked_by rs.seats t.0 rank (seat_of rs t) refl h

  later_row : (fifo : Bool) (rank : ℕ) (l : Place) → (let x : Seat = record { rank = rank; place = l } in let y : Seat = record { rank = rank; place = a_turn_later fifo l } in in_once (Some y) ≡ in_once (Some x))
  later_row fifo rank (Runs p slice) = refl
  later_row fifo rank (Stands r arrival) = refl

  kept_by : (rs : Rows) (t : ℕ) (fifo : Bool) (x : Seat) (gives : Bool) → get rs.seats t ≡ Some x → Follows rs.seats
      → Follows (put rs.seats t (record { rank = x.rank; place = if gives then Stands row.Ready rs.next_arrival else a_turn_later fifo x.place }))
  kept_by rs t fifo x true e h = put_follows rs.seats t (record { rank = x.rank; place = Stands row.Ready rs.next_arrival }) refl h
  kept_by rs t fifo x false e h = like_follows rs.seats t x (record { rank = x.rank; place = a_turn_later fifo x.place }) (later_row fifo x.rank x.place) e h

  kept_at : (rs : Rows) (t : ℕ) (fifo : Bool) (o : Option Seat) → get rs.seats t ≡ o → Follows rs.seats → Follows (put_if rs.seats t (option_map (as_kept rs fifo) o))
  kept_at rs t fifo None e h = h
  kept_at rs t fifo (Some x) e h = kept_by rs t fifo x (gives_way rs fifo x.rank x.place) e h

  pub keeps_follows : (rs : Rows) (t : Tid) (fifo : Bool) → Follows rs.seats → Follows (keeps rs t fifo).rows.seats
  keeps_follows rs t fifo h = kept_at rs t.0 fifo (seat_of rs t) refl h

  processor_by : (p : ℕ) (o : Option (ℕ × Seat)) (m : Table Seat) → Follows m → Follows (with_processor o m p)
  processor_by p None m h = h
  processor_by p (Some e) m h = put_follows m e.0 (record { rank = e.1.rank; place = Runs p whole_slice }) refl h

  pub dispatch_follows : (rs : Rows) (p : ℕ) → Follows rs.seats → Follows (dispatch rs p).rows.seats
  dispatch_follows rs p h = processor_by p (next_for rs p) rs.seats h

  -- ---- several threads

  pub all_ready_follows : (rank : Tid → ℕ) (rs : Rows) (ts : List Tid) → Follows rs.seats → Follows (make_all_ready rank rs ts).seats
  unfolding make_all_ready
  all_ready_follows rank rs [] h = h
  all_ready_follows rank rs (t ∷ ts) h =
      all_ready_follows rank (make_ready rank (take_out rs t).rows t) ts (row_follows (take_out rs t).rows row.Ready t (rank t) refl (cut_if_follows (is_in_row (seat_of rs t)) rs.seats t.0 h))

  pub free_if_follows : (b : Bool) (rank : Tid → ℕ) (rs : Rows) (r : RowId) → Follows rs.seats → Follows (free_if b rank rs r).rows.seats
  free_if_follows true rank rs r h = all_ready_follows rank rs (best_first rs r) h
  free_if_follows false rank rs r h = h

  either_row : (b : Bool) (m : NameId) → is_once_row (Some (if b then row.Ready else row.Mutex m)) ≡ false
  either_row true m = refl
  either_row false m = refl

  pub regain_follows : (ls : Locks) (rs : Rows) (m : NameId) (t : Tid) (rank : ℕ) → Follows rs.seats → Follows (regain ls rs m t rank).rows.seats
  regain_follows ls rs m t rank h = row_follows rs (if is_free (mutex_at ls (Some m)) then row.Ready else row.Mutex m) t rank (either_row (is_free (mutex_at ls (Some m))) m) h

  resume_follows : (rank : Tid → ℕ) (ls : Locks) (rs : Rows) (t : Tid) (m : Option NameId) → Follows rs.seats → Follows (resume rank ls rs t m).rows.seats
  resume_follows rank ls rs t None h = row_follows rs row.Ready t (rank t) refl h
  resume_follows rank ls rs t (Some m) h = regain_follows ls rs m t (rank t) h

  pub wake_all_follows : (rank : Tid → ℕ) (cs : Conds) (ls : Locks) (rs : Rows) (ts : List Tid) → Follows rs.seats → Follows (wake_all rank cs ls rs ts).rows.seats
  unfolding wake_all
  wake_all_follows rank cs ls rs [] h = h
  wake_all_follows rank cs ls rs (t ∷ ts) h =
      wake_all_follows rank (pull_out cs rs t).conds (resume rank ls (pull_out cs rs t).rows t (mutex_with cs t)).locks (resume rank ls (pull_out cs rs t).rows t (mutex_with cs t)).rows ts
      (resume_follows rank ls (pull_out cs rs t).rows t (mutex_with cs t) (out_follows rs (some_if (is_some (wait_of cs t)) t) h))

  pub cancel_wait_follows : (rank : Tid → ℕ) (cs : Conds) (ps : Pipes) (ls : Locks) (rs : Rows) (t : Tid) → Follows rs.seats → Follows (cancel_wait rank cs ps ls rs t).rows.seats
  cancel_wait_follows rank cs ps ls rs t h =
      resume_follows rank ls (take_out rs t).rows t (mutex_with cs t) (cut_if_follows (is_in_row (seat_of rs t)) rs.seats t.0 h)
