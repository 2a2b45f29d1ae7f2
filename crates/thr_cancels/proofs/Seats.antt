-- Where a thread stands before and after an event.
use Rattle.std.proofs.Common.{◌≡◌, ℕ, Bool, true, false, ◌||◌, cond, eqb, List, [], ◌∷◌, Option, Some, None, refl, sym, ◌∙◌, ap, subst}
use Rattle.std.proofs.lemmas.Bool.{eqb-true, false≢true}
use Rattle.std.specs.Prelude.{if◌then◌else◌, is_some}
use Rattle.std.specs.Option.{option_map, unwrap_or}
use Rattle.thr_values.specs.declared.number.Tid.{Tid}
use Rattle.thr_values.specs.declared.number.NameId.{NameId}
use Rattle.thr_parts.specs.declared.row.RowId.{RowId}
use Rattle.thr_parts.specs.declared.row.RowId.TheVariants as row
use Rattle.thr_parts.specs.declared.row.Place.{Place}
use Rattle.thr_parts.specs.declared.row.Place.TheVariants.{Runs, Stands}
use Rattle.thr_parts.specs.declared.row.Seat.{Seat}
use Rattle.thr_parts.specs.Tables.{Table, get, put, put_if, cut_if, IsCanonical}
use Rattle.thr_parts.specs.Rows.{Rows, seat_of, row_in, row_at, is_in_row, is_running, best, best_first, is_among}
use Rattle.thr_parts.specs.Moves.{as_ranked, put_in_row, take_out, take_out_if, leave, block_in, block_if, set_rank, make_ready, make_all_ready, free_row}
use Rattle.thr_parts.specs.Dispatch.{a_turn_later, gives_way, as_kept, keeps}
use Rattle.thr_parts.specs.Cancels.{is_point_row, is_point}
use Rattle.thr_parts.specs.Mutexes.{Locks, mutex_at}
use Rattle.thr_parts.specs.Locking.{is_free}
use Rattle.thr_parts.specs.Conditions.{Conds, wait_of}
use Rattle.thr_parts.specs.Waking.{pull_out, some_if, mutex_with, resume, wake_all}
use Rattle.thr_parts.specs.Pipes.{Pipes}
use Rattle.thr_parts.specs.Closing.{free_if}
use Rattle.thr_parts.specs.CancelledWaits.{cancel_wait}
use Rattle.thr_parts.proofs.TableLaws.{get_put, get_cut}
use Rattle.thr_parts.proofs.RowLaws.{best_stands}
use Rattle.thr_parts.proofs.StandingLaws.{among_is}

-- The row of a seat that is there, unless that is a processor.
abbrev pub stance : Option Seat → Option (Option RowId)
stance None = None
stance (Some s) = Some (row_in s.place)

abbrev pub is_calm_row : RowId → Bool
is_calm_row row.Ready = true
is_calm_row (row.Mutex m) = true
is_calm_row row.Global = true
is_calm_row _ = false

-- The thread is ready or runs, or it waits for a mutex or for the global lock.
abbrev pub is_calm : Option RowId → Bool
is_calm None = true
is_calm (Some r) = is_calm_row r

-- What becomes of a thread's seat: it stays; or a thread that had one is calm now; or the thread whose turn it is has left its
-- processor, for a point only where it waits there; or the thread is the one that was created.
pub data IsMoved (caller next t : ℕ) (waits : Bool) (a b : Option Seat) : Type 0 where
  same : stance b ≡ stance a → IsMoved caller next t waits a b
  woken : is_some a ≡ true → is_calm (row_at b) ≡ true → IsMoved caller next t waits a b
  stopped : eqb caller t ≡ true → (is_point (row_at b) ≡ true → waits ≡ true) → IsMoved caller next t waits a b
  created : eqb next t ≡ true → is_calm (row_at b) ≡ true → IsMoved caller next t waits a b

-- ---- stances

at_stance : (o : Option Seat) → row_at o ≡ unwrap_or (stance o) None
at_stance None = refl
at_stance (Some s) = refl

some_stance : (o : Option Seat) → is_some o ≡ is_some (stance o)
some_stance None = refl
some_stance (Some s) = refl

pub same_row : (a b : Option Seat) → stance b ≡ stance a → row_at b ≡ row_at a
same_row a b e = at_stance b ∙ ap (λ o. unwrap_or o None) e ∙ sym (at_stance a)

pub same_some : (a b : Option Seat) → stance b ≡ stance a → is_some b ≡ is_some a
same_some a b e = some_stance b ∙ ap is_some e ∙ sym (some_stance a)

calm_row : (r : RowId) → is_calm_row r ≡ true → is_point_row r ≡ false
calm_row row.Ready e = refl
calm_row (row.Mutex m) e = refl
calm_row row.Global e = refl
calm_row (row.Cond c) e = absurd (false≢true e)
calm_row (row.Join t) e = absurd (false≢true e)
calm_row (row.Once o) e = refl
calm_row (row.Reader p) e = absurd (false≢true e)
calm_row (row.Writer p) e = absurd (false≢true e)
calm_row row.Time e = absurd (false≢true e)

pub calm_no_point : (o : Option RowId) → is_calm o ≡ true → is_point o ≡ false
calm_no_point None e = refl
calm_no_point (Some r) e = calm_row r e

pub some_row : (o : Option Seat) (r : RowId) → row_at o ≡ Some r → is_some o ≡ true
some_row None r e = absurd (cc)
some_row (Some s) r e = refl

module _ (caller next t : ℕ) (waits : Bool) where
  abbrev Goes : Option Seat → Option Seat → Type 0
  Goes = IsMoved caller next t waits

  pub then_moved : (a b c : Option Seat) → Goes a b → Goes b c → Goes a c
  then_moved a b c x (stopped e k) = stopped e k
  then_moved a b c x (created e k) = created e k
  then_moved a b c (same e) (same f) = same (f ∙ e)
  then_moved a b c (same e) (woken s k) = woken (sym (same_some a b e) ∙ s) k
  then_moved a b c (woken s k) (same f) = woken s (ap is_calm (same_row b c f) ∙ k)
  then_moved a b c (woken s k) (woken s' k') = woken s k'
  then_moved a b c (stopped e k) (same f) = stopped e (λ p. k (sym (ap is_point (same_row b c f)) ∙ p))
  then_moved a b c (stopped e k) (woken s k') = stopped e (λ p. absurd (false≢true (sym (calm_no_point (row_at c) k') ∙ p)))
  then_moved a b c (created e k) (same f) = created e (ap is_calm (same_row b c f) ∙ k)
  then_moved a b c (created e k) (woken s k') = created e k'

  abbrev pub Moves : Rows → Rows → Type 0
  Moves rs rs' = IsMoved caller next t waits (get rs.seats t) (get rs'.seats t)

  pub then_moves : (rs rs' rs'' : Rows) → Moves rs rs' → Moves rs' rs'' → Moves rs rs''
  then_moves rs rs' rs'' x y = then_moved (get rs.seats t) (get rs'.seats t) (get rs''.seats t) x y

  pub stays : (rs : Rows) → Moves rs rs
  stays rs = same refl

  -- ---- tables

  cut_other : (b : Bool) (m : Table Seat) (k : ℕ) → eqb k t ≡ false → get (cut_if b m k) t ≡ get m t
  cut_other true m k e = get_cut m k t ∙ ap (λ x. cond x None (get m t)) e
  cut_other false m k e = refl

  out_other : (rs : Rows) (w : Tid) → eqb w.0 t ≡ false → get (take_out_if rs (Some w)).seats t ≡ get rs.seats t
  out_other rs w e = cut_other (is_in_row (seat_of rs w)) rs.seats w.0 e

  -- ---- a thread that had a seat is calm

  put_by : (a o : Option Seat) (w : ℕ) (s : Seat) (b : Bool) → eqb w t ≡ b → is_calm (row_in s.place) ≡ true → (eqb w t ≡ true → is_some a ≡ true) → (eqb w t ≡ false → o ≡ a)
      → Goes a (cond b (Some s) o)
  put_by a o w s true e k here others = woken (here e) k
  put_by a o w s false e k here others = same (ap stance (others e))

  seat_here : (rs : Rows) (w : ℕ) → is_some (get rs.seats w) ≡ true → eqb w t ≡ true → is_some (get rs.seats t) ≡ true
  seat_here rs w s e = subst (λ (q : ℕ). is_some (get rs.seats q) ≡ true) (eqb-true w t e) s

  pub put_woken : (rs between : Rows) (w : ℕ) (s : Seat) → is_calm (row_in s.place) ≡ true → is_some (get rs.seats w) ≡ true → (eqb w t ≡ false → get between.seats t ≡ get rs.seats t)
      → Goes (get rs.seats t) (get (put between.seats w s) t)
  put_woken rs between w s k here others =
      subst (λ (o : Option Seat). Goes (get rs.seats t) o) (sym (get_put between.seats w t s))
      (put_by (get rs.seats t) (get between.seats t) w s (eqb w t) refl k (seat_here rs w here) others)

  pub wakes : (rs : Rows) (r : RowId) (w : Tid) (rank : ℕ) → is_calm_row r ≡ true → is_some (get rs.seats w.0) ≡ true → Moves rs (put_in_row (take_out_if rs (Some w)) r w rank)
  wakes rs r w rank k here = put_woken rs (take_out_if rs (Some w)) w.0 _ k here (out_other rs w)

  -- The best of a row is calm now.
  pub wakes_best : (rs : Rows) (from r : RowId) (w : Tid) (rank : ℕ) → is_calm_row r ≡ true → IsCanonical rs.seats → best rs from ≡ Some w → Moves rs (put_in_row (take_out_if rs (Some w)) r w rank)
  wakes_best rs from r w rank k h e = wakes rs r w rank k (some_row (get rs.seats w.0) from (best_stands rs from w h e))

  -- ---- a thread whose turn it is

  put_here : (m : Table Seat) (w : ℕ) (s : Seat) → eqb w t ≡ true → get (put m w s) t ≡ Some s
  put_here m w s e = get_put m w t s ∙ ap (λ x. cond x (Some s) (get m t)) e

  put_other : (m : Table Seat) (w : ℕ) (s : Seat) → eqb w t ≡ false → get (put m w s) t ≡ get m t
  put_other m w s e = get_put m w t s ∙ ap (λ x. cond x (Some s) (get m t)) e

  block_by : (rs : Rows) (c : Tid) (r : RowId) (s : Seat) (b : Bool) → row_in s.place ≡ Some r → c.0 ≡ caller → eqb c.0 t ≡ b → (is_point_row r ≡ true → waits ≡ true)
      → Goes (get rs.seats t) (get (put (leave rs c).seats c.0 s) t)
  block_by rs c r s true at is e k =
      subst (λ (o : Option Seat). Goes (get rs.seats t) o) (sym (put_here (leave rs c).seats c.0 s e)) (stopped (ap (λ q. eqb q t) (sym is) ∙ e) (λ p. k (sym (ap is_point at) ∙ p)))
  block_by rs c r s false at is e k = same (ap stance (put_other (leave rs c).seats c.0 s e ∙ cut_other (is_running (seat_of rs c)) rs.seats c.0 e))

  pub block_moves : (rs : Rows) (c : Tid) (r : RowId) (rank : ℕ) → c.0 ≡ caller → (is_point_row r ≡ true → waits ≡ true) → Moves rs (block_in rs r c rank)
  block_moves rs c r rank is k = block_by rs c r (record { rank = rank; place = Stands r rs.next_arrival }) (eqb c.0 t) refl is refl k

  pub block_if_moves : (b : Bool) (rs : Rows) (c : Tid) (r : RowId) (rank : ℕ) → c.0 ≡ caller → (b ≡ true → is_point_row r ≡ true → waits ≡ true) → Moves rs (block_if b rs r c rank)
  block_if_moves true rs c r rank is k = block_moves rs c r rank is (k refl)
  block_if_moves false rs c r rank is k = same refl

  leave_by : (rs : Rows) (c : Tid) (b x : Bool) → c.0 ≡ caller → eqb c.0 t ≡ b → Goes (get rs.seats t) (get (cut_if x rs.seats c.0) t)
  leave_by rs c true true is e =
      subst (λ (o : Option Seat). Goes (get rs.seats t) o) (sym (get_cut rs.seats c.0 t ∙ ap (λ y. cond y None (get rs.seats t)) e)) (stopped (ap (λ q. eqb q t) (sym is) ∙ e) (λ p. absurd (false≢true p)))
  leave_by rs c true false is e = same refl
  leave_by rs c false x is e = same (ap stance (cut_other x rs.seats c.0 e))

  pub leave_moves : (rs : Rows) (c : Tid) → c.0 ≡ caller → Moves rs (leave rs c)
  leave_moves rs c is = leave_by rs c (eqb c.0 t) (is_running (seat_of rs c)) is refl

  -- ---- ranks and slices

  ranked_by : (m : Table Seat) (w rank : ℕ) (o : Option Seat) (b : Bool) → get m w ≡ o → eqb w t ≡ b → stance (get (put_if m w (option_map (as_ranked rank) o)) t) ≡ stance (get m t)
  ranked_by m w rank None b e f = refl
  ranked_by m w rank (Some s) true e f =
      ap stance (get_put m w t (as_ranked rank s) ∙ ap (λ x. cond x (Some (as_ranked rank s)) (get m t)) f) ∙ sym (ap stance (ap (get m) (sym (eqb-true w t f)) ∙ e))
  ranked_by m w rank (Some s) false e f = ap stance (get_put m w t (as_ranked rank s) ∙ ap (λ x. cond x (Some (as_ranked rank s)) (get m t)) f)

  pub set_rank_moves : (rs : Rows) (w : Tid) (rank : ℕ) → Moves rs (set_rank rs w rank)
  set_rank_moves rs w rank = same (ranked_by rs.seats w.0 rank (seat_of rs w) (eqb w.0 t) refl refl)

  later_row : (fifo : Bool) (l : Place) → row_in (a_turn_later fifo l) ≡ row_in l
  later_row fifo (Runs p slice) = refl
  later_row fifo (Stands r arrival) = refl

  kept_seat : (rs : Rows) (s : Seat) (fifo gives : Bool) (m : Table Seat) (w : ℕ) → get m w ≡ Some s → eqb w t ≡ true
      → Goes (get m t) (let l : Place = if gives then Stands row.Ready rs.next_arrival else a_turn_later fifo s.place in let u : Seat = record { rank = s.rank; place = l } in Some u)
  kept_seat rs s fifo true m w e f = woken (ap is_some (ap (get m) (sym (eqb-true w t f)) ∙ e)) refl
  kept_seat rs s fifo false m w e f = same (ap Some (later_row fifo s.place) ∙ sym (ap stance (ap (get m) (sym (eqb-true w t f)) ∙ e)))

  keeps_by : (rs : Rows) (w : ℕ) (fifo : Bool) (o : Option Seat) (b : Bool) → get rs.seats w ≡ o → eqb w t ≡ b → Goes (get rs.seats t) (get (put_if rs.seats w (option_map (as_kept rs fifo) o)) t)
  keeps_by rs w fifo None b e f = same refl
  keeps_by rs w fifo (Some s) true e f =
      subst (λ (o : Option Seat). Goes (get rs.seats t) o) (sym (get_put rs.seats w t (as_kept rs fifo s) ∙ ap (λ x. cond x (Some (as_kept rs fifo s)) (get rs.seats t)) f))
      (kept_seat rs s fifo (gives_way rs fifo s.rank s.place) rs.seats w e f)
  keeps_by rs w fifo (Some s) false e f = same (ap stance (get_put rs.seats w t (as_kept rs fifo s) ∙ ap (λ x. cond x (Some (as_kept rs fifo s)) (get rs.seats t)) f))

  pub keeps_moves : (rs : Rows) (w : Tid) (fifo : Bool) → Moves rs (keeps rs w fifo).rows
  keeps_moves rs w fifo = keeps_by rs w.0 fifo (seat_of rs w) (eqb w.0 t) refl refl

  -- ---- rows that become ready

  abbrev pub Among : List Tid → Type 0
  Among ws = is_among (record { 0 = t }) ws ≡ true

  head_among : (w : Tid) (ws : List Tid) → eqb w.0 t ≡ true → Among (w ∷ ws)
  head_among w ws e = ap (λ x. x || is_among (record { 0 = t }) ws) e

  second_of : (a b : Bool) → b ≡ true → (a || b) ≡ true
  second_of true b e = refl
  second_of false b e = e

  tail_among : (w : Tid) (ws : List Tid) → Among ws → Among (w ∷ ws)
  tail_among w ws e = second_of (eqb w.0 t) (is_among (record { 0 = t }) ws) e

  step_by : (rs now between : Rows) (w : ℕ) (s : Seat) (b : Bool) → eqb w t ≡ b → is_calm (row_in s.place) ≡ true → (eqb w t ≡ true → is_some (get rs.seats t) ≡ true)
      → (eqb w t ≡ false → get between.seats t ≡ get now.seats t) → Moves rs now → Goes (get rs.seats t) (get (put between.seats w s) t)
  step_by rs now between w s true e k here others x = subst (λ (o : Option Seat). Goes (get rs.seats t) o) (sym (put_here between.seats w s e)) (woken (here e) k)
  step_by rs now between w s false e k here others x =
      then_moved (get rs.seats t) (get now.seats t) (get (put between.seats w s) t) x (same (ap stance (put_other between.seats w s e ∙ others e)))

  pub all_ready_moves : (rank : Tid → ℕ) (rs now : Rows) (ws : List Tid) → (Among ws → is_some (get rs.seats t) ≡ true) → Moves rs now → Moves rs (make_all_ready rank now ws)
  unfolding make_all_ready
  all_ready_moves rank rs now [] here x = x
  all_ready_moves rank rs now (w ∷ ws) here x =
      all_ready_moves rank rs (make_ready rank (take_out now w).rows w) ws (λ e. here (tail_among w ws e))
      (step_by rs now (take_out now w).rows w.0 (record { rank = rank w; place = Stands row.Ready now.next_arrival }) (eqb w.0 t) refl refl (λ e. here (head_among w ws e)) (out_other now w) x)

  pub row_among : (rs : Rows) (r : RowId) → IsCanonical rs.seats → Among (best_first rs r) → is_some (get rs.seats t) ≡ true
  row_among rs r h e = some_row (get rs.seats t) r ((among_is rs r (record { 0 = t }) h).0 e)

  pub free_row_moves : (rank : Tid → ℕ) (rs : Rows) (r : RowId) → IsCanonical rs.seats → Moves rs (free_row rank rs r).rows
  free_row_moves rank rs r h = all_ready_moves rank rs rs (best_first rs r) (row_among rs r h) (same refl)

  pub free_if_moves : (b : Bool) (rank : Tid → ℕ) (rs : Rows) (r : RowId) → IsCanonical rs.seats → Moves rs (free_if b rank rs r).rows
  free_if_moves true rank rs r h = free_row_moves rank rs r h
  free_if_moves false rank rs r h = same refl

  -- ---- waits that end

  none_out : (b : Bool) (rs : Rows) (w : Tid) → eqb w.0 t ≡ false → get (take_out_if rs (some_if b w)).seats t ≡ get rs.seats t
  none_out true rs w e = out_other rs w e
  none_out false rs w e = refl

  calm_if : (b : Bool) (m : NameId) → is_calm_row (if b then row.Ready else row.Mutex m) ≡ true
  calm_if true m = refl
  calm_if false m = refl

  resume_step : (rank : Tid → ℕ) (ls : Locks) (rs now between : Rows) (w : Tid) (m : Option NameId) → (eqb w.0 t ≡ true → is_some (get rs.seats t) ≡ true)
      → (eqb w.0 t ≡ false → get between.seats t ≡ get now.seats t) → Moves rs now → Moves rs (resume rank ls between w m).rows
  resume_step rank ls rs now between w None here others x =
      step_by rs now between w.0 (record { rank = rank w; place = Stands row.Ready between.next_arrival }) (eqb w.0 t) refl refl here others x
  resume_step rank ls rs now between w (Some m) here others x =
      step_by rs now between w.0 (record { rank = rank w; place = Stands (if is_free (mutex_at ls (Some m)) then row.Ready else row.Mutex m) between.next_arrival }) (eqb w.0 t) refl
      (calm_if (is_free (mutex_at ls (Some m))) m) here others x

  pub wake_all_moves : (rank : Tid → ℕ) (cs : Conds) (ls : Locks) (rs now : Rows) (ws : List Tid) → (Among ws → is_some (get rs.seats t) ≡ true) → Moves rs now
      → Moves rs (wake_all rank cs ls now ws).rows
  unfolding wake_all
  wake_all_moves rank cs ls rs now [] here x = x
  wake_all_moves rank cs ls rs now (w ∷ ws) here x =
      let out : Rows = (pull_out cs now w).rows in
      wake_all_moves rank (pull_out cs now w).conds (resume rank ls out w (mutex_with cs w)).locks rs (resume rank ls out w (mutex_with cs w)).rows ws (λ e. here (tail_among w ws e))
      (resume_step rank ls rs now out w (mutex_with cs w) (λ e. here (head_among w ws e)) (none_out (is_some (wait_of cs w)) now w) x)

  -- A wait at a point that is cancelled ends.
  pub cancel_wait_moves : (rank : Tid → ℕ) (cs : Conds) (ps : Pipes) (ls : Locks) (rs : Rows) (w : Tid) → is_some (get rs.seats w.0) ≡ true → Moves rs (cancel_wait rank cs ps ls rs w).rows
  cancel_wait_moves rank cs ps ls rs w here =
      resume_step rank ls rs rs (take_out rs w).rows w (mutex_with cs w) (seat_here rs w.0 here) (out_other rs w) (same refl)
