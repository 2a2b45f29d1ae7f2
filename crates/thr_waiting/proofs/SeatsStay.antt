-- Whatever becomes of threads in rows and on processors, those that have a seat keep one, and no others come to have one.
use Rattle.std.proofs.Common.{◌≡◌, ℕ, Bool, true, false, cond, eqb, List, [], ◌∷◌, Option, Some, None, refl, sym, ◌∙◌, ap}
use Rattle.std.proofs.lemmas.Bool.{eqb-true}
use Rattle.std.specs.Prelude.{if◌then◌else◌}
use Rattle.std.specs.Option.{option_map, is_some, is_none}
use Rattle.thr_values.specs.declared.number.Tid.{Tid}
use Rattle.thr_values.specs.declared.number.NameId.{NameId}
use Rattle.thr_parts.specs.declared.row.RowId.{RowId}
use Rattle.thr_parts.specs.declared.row.RowId.TheVariants as row
use Rattle.thr_parts.specs.declared.row.Place.TheVariants.{Runs, Stands}
use Rattle.thr_parts.specs.declared.row.Seat.{Seat}
use Rattle.thr_parts.specs.Tables.{Table, get, put, put_if, keep_if, IsCanonical}
use Rattle.thr_parts.specs.Rows.{Rows, thread, seat_of, row_at, is_in_row, is_running, standing, best_of, number_in, best, best_first}
use Rattle.thr_parts.specs.Moves.{as_ranked, put_in_row, take_out, take_out_if, block_in, block_if, set_rank, make_ready, make_all_ready, free_row}
use Rattle.thr_parts.specs.Dispatch.{running, next_for, with_processor, dispatch, whole_slice, as_kept, keeps}
use Rattle.thr_parts.specs.Mutexes.{Locks, mutex_at}
use Rattle.thr_parts.specs.Locking.{is_free}
use Rattle.thr_parts.specs.Conditions.{Conds, wait_of}
use Rattle.thr_parts.specs.Waking.{some_if, pull_out, mutex_with, resume, wake_all}
use Rattle.thr_parts.specs.Closing.{free_if}
use Rattle.thr_parts.proofs.RowLaws.{best_stands}
use Rattle.thr_rows.proofs.AgreementLaws.{from_kept}
use Rattle.thr_laws.proofs.ReadingLaws.{AllLines}
use Rattle.thr_answers.proofs.StatusMoves.{IsWith, with_put, with_put_cut}
use Rattle.thr_answers.proofs.StatusRows.{all_map, all_stand}

-- ---- tables

-- The one table has something at the numbers at which the other has.
abbrev pub SameNumbers : {A B : Type 0} → Table A → Table B → Type 0
SameNumbers m n = (u : ℕ) → is_some (get m u) ≡ is_some (get n u)

-- What is put where something stands.
pub there_with : {A : Type 0} (m after : Table A) (w : ℕ) (x : A) → IsWith m after w (Some x) → is_some (get m w) ≡ true → SameNumbers after m
there_with {A} m after w x i here u = ap is_some (i u) ∙ by_number (eqb w u) refl
  where
    by_number : (b : Bool) → eqb w u ≡ b → is_some (cond b (Some x) (get m u)) ≡ is_some (get m u)
    by_number true e = sym here ∙ ap (λ (q : ℕ). is_some (get m q)) (eqb-true w u e)
    by_number false e = refl

pub changed_there : {A : Type 0} (m : Table A) (w : ℕ) (f : A → A) (o : Option A) → get m w ≡ o → SameNumbers (put_if m w (option_map f o)) m
changed_there m w f None e u = refl
changed_there m w f (Some x) e u = there_with m (put m w (f x)) w (f x) (with_put m w (f x)) (ap is_some e) u

-- ---- seats

-- The thread of the number stands in a row or runs.
abbrev pub Sits : Rows → ℕ → Type 0
Sits rs u = is_some (get rs.seats u) ≡ true

-- Those that have a seat are the same.
abbrev pub Stay : Rows → Rows → Type 0
Stay rs after = SameNumbers after.seats rs.seats

-- All of these have a seat.
abbrev pub AllSit : Rows → List Tid → Type 0
AllSit rs ts = AllLines (λ (w : Tid). Sits rs w.0) ts

pub still_sit : (rs after : Rows) (ts : List Tid) → Stay rs after → AllSit rs ts → AllSit after ts
still_sit rs after ts h all = all_map (λ (w : Tid). Sits rs w.0) (λ (w : Tid). Sits after w.0) (λ w s. h w.0 ∙ s) ts all

pub row_sits : (o : Option Seat) (r : RowId) → row_at o ≡ Some r → is_some o ≡ true
row_sits None r e = absurd (cc)
row_sits (Some s) r e = refl

-- The best of a row has a seat, and so have all of it.
pub best_sits : (rs : Rows) (r : RowId) (b : Bool) → IsCanonical rs.seats → (w : Tid) → keep_if b (best rs r) ≡ Some w → Sits rs w.0
best_sits rs r b h w e = row_sits (get rs.seats w.0) r (best_stands rs r w h (from_kept b (best rs r) w e))

pub row_all_sit : (rs : Rows) (r : RowId) → IsCanonical rs.seats → AllSit rs (best_first rs r)
row_all_sit rs r h = all_map (λ (w : Tid). row_at (get rs.seats w.0) ≡ Some r) (λ (w : Tid). Sits rs w.0) (λ w e. row_sits (get rs.seats w.0) r e) (best_first rs r) (all_stand rs r h)

-- ---- one thread

pub block_stays : (rs : Rows) (r : RowId) (t : Tid) (rank : ℕ) → Sits rs t.0 → Stay rs (block_in rs r t rank)
block_stays rs r t rank s =
    let x : Seat = record { rank = rank; place = Stands r rs.next_arrival } in there_with rs.seats (block_in rs r t rank).seats t.0 x (with_put_cut (is_running (seat_of rs t)) rs.seats t.0 x) s

pub block_if_stays : (b : Bool) (rs : Rows) (r : RowId) (t : Tid) (rank : ℕ) → Sits rs t.0 → Stay rs (block_if b rs r t rank)
block_if_stays true rs r t rank s = block_stays rs r t rank s
block_if_stays false rs r t rank s = λ u. refl

pub comes_stays : (rs : Rows) (r : RowId) (w : Tid) (rank : ℕ) → Sits rs w.0 → Stay rs (put_in_row (take_out_if rs (Some w)) r w rank)
comes_stays rs r w rank s =
    let x : Seat = record { rank = rank; place = Stands r rs.next_arrival } in
    there_with rs.seats (put_in_row (take_out_if rs (Some w)) r w rank).seats w.0 x (with_put_cut (is_in_row (seat_of rs w)) rs.seats w.0 x) s

pub set_rank_stays : (rs : Rows) (w : Tid) (rank : ℕ) → Stay rs (set_rank rs w rank)
set_rank_stays rs w rank = changed_there rs.seats w.0 (as_ranked rank) (seat_of rs w) refl

pub keeps_stays : (rs : Rows) (t : Tid) (fifo : Bool) → Stay rs (keeps rs t fifo).rows
keeps_stays rs t fifo = changed_there rs.seats t.0 (as_kept rs fifo) (seat_of rs t) refl

-- ---- dispatch

next_sits : (rs : Rows) (b : Bool) (e : ℕ × Seat) → IsCanonical rs.seats → (if b then best_of (standing rs row.Ready) else None) ≡ Some e → Sits rs e.0
next_sits rs true e h is = row_sits (get rs.seats e.0) row.Ready (best_stands rs row.Ready (thread e.0) h (ap number_in is))
next_sits rs false e h is = absurd (cc)

processor_stays : (rs : Rows) (p : ℕ) (o : Option (ℕ × Seat)) → ((e : ℕ × Seat) → o ≡ Some e → Sits rs e.0) → SameNumbers (with_processor o rs.seats p) rs.seats
processor_stays rs p None h = λ u. refl
processor_stays rs p (Some e) h =
    let x : Seat = record { rank = e.1.rank; place = Runs p whole_slice } in there_with rs.seats (put rs.seats e.0 x) e.0 x (with_put rs.seats e.0 x) (h e refl)

pub dispatch_stays : (rs : Rows) (p : ℕ) → IsCanonical rs.seats → Stay rs (dispatch rs p).rows
dispatch_stays rs p h = processor_stays rs p (next_for rs p) (λ e is. next_sits rs (is_none (running rs p)) e h is)

-- ---- threads that become ready

pub all_ready_stay : (ts : List Tid) (rank : Tid → ℕ) (rs : Rows) → AllSit rs ts → Stay rs (make_all_ready rank rs ts)
unfolding make_all_ready
all_ready_stay [] rank rs all u = refl
all_ready_stay (w ∷ ts) rank rs all u =
    let now : Rows = make_ready rank (take_out rs w).rows w in
    let one : Stay rs now = comes_stays rs row.Ready w (rank w) all.0 in all_ready_stay ts rank now (still_sit rs now ts one all.1) u ∙ one u

pub free_row_stays : (rank : Tid → ℕ) (rs : Rows) (r : RowId) → IsCanonical rs.seats → Stay rs (free_row rank rs r).rows
free_row_stays rank rs r h = all_ready_stay (best_first rs r) rank rs (row_all_sit rs r h)

pub free_if_stays : (b : Bool) (rank : Tid → ℕ) (rs : Rows) (r : RowId) → IsCanonical rs.seats → Stay rs (free_if b rank rs r).rows
free_if_stays true rank rs r h = free_row_stays rank rs r h
free_if_stays false rank rs r h = λ u. refl

-- ---- waits that end

-- The thread has this seat now, which was taken out of its row before, or wasn't.
abbrev ComesBack : Rows → Rows → Tid → Type 0
ComesBack rs between w = (x : Seat) → IsWith rs.seats (put between.seats w.0 x) w.0 (Some x)

resumed_stays : (rank : Tid → ℕ) (ls : Locks) (rs between : Rows) (w : Tid) (m : Option NameId) → ComesBack rs between w → Sits rs w.0 → Stay rs (resume rank ls between w m).rows
resumed_stays rank ls rs between w None back s =
    let x : Seat = record { rank = rank w; place = Stands row.Ready between.next_arrival } in there_with rs.seats (put between.seats w.0 x) w.0 x (back x) s
resumed_stays rank ls rs between w (Some m) back s =
    let x : Seat = record { rank = rank w; place = Stands (if is_free (mutex_at ls (Some m)) then row.Ready else row.Mutex m) between.next_arrival } in
    there_with rs.seats (put between.seats w.0 x) w.0 x (back x) s

out_back : (b : Bool) (rs : Rows) (w : Tid) → ComesBack rs (take_out_if rs (some_if b w)) w
out_back true rs w x = with_put_cut (is_in_row (seat_of rs w)) rs.seats w.0 x
out_back false rs w x = with_put rs.seats w.0 x

pub wake_all_stays : (ts : List Tid) (rank : Tid → ℕ) (cs : Conds) (ls : Locks) (rs : Rows) → AllSit rs ts → Stay rs (wake_all rank cs ls rs ts).rows
unfolding wake_all
wake_all_stays [] rank cs ls rs all u = refl
wake_all_stays (w ∷ ts) rank cs ls rs all u =
    let out : Rows = (pull_out cs rs w).rows in
    let now : Rows = (resume rank ls out w (mutex_with cs w)).rows in
    let one : Stay rs now = resumed_stays rank ls rs out w (mutex_with cs w) (out_back (is_some (wait_of cs w)) rs w) all.0 in
    wake_all_stays ts rank (pull_out cs rs w).conds (resume rank ls out w (mutex_with cs w)).locks now (still_sit rs now ts one all.1) u ∙ one u

-- A wait at a point that is cancelled ends.
pub cancelled_stays : (rank : Tid → ℕ) (ls : Locks) (rs : Rows) (w : Tid) (m : Option NameId) → Sits rs w.0 → Stay rs (resume rank ls (take_out rs w).rows w m).rows
cancelled_stays rank ls rs w m s = resumed_stays rank ls rs (take_out rs w).rows w m (λ x. with_put_cut (is_in_row (seat_of rs w)) rs.seats w.0 x) s
