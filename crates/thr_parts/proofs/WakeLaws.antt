-- Whole rows that become ready or leave their waits, related to one thread at a time.
use Rattle.std.proofs.Common.{◌≡◌, ℕ, Bool, true, false, cond, eqb, List, [], ◌∷◌, Option, Some, None, refl, sym, ◌∙◌, ap}
use Rattle.std.specs.List.{filter}
use Rattle.std.specs.Option.{is_some}
use Rattle.thr_values.specs.declared.number.Tid.{Tid}
use Rattle.thr_values.specs.declared.number.NameId.{NameId}
use Rattle.thr_parts.specs.declared.row.RowId.{RowId}
use Rattle.thr_parts.specs.declared.row.RowId.TheVariants as row
use Rattle.thr_parts.specs.Tables.{Table, get, cut, cut_if, IsCanonical}
use Rattle.thr_parts.specs.Rows.{Rows, seat_of, is_same_row, is_in_row, in_order, standing, numbers_of, best, best_first}
use Rattle.thr_parts.specs.Moves.{take_out, take_out_if, make_ready, make_all_ready, Freed, free_row}
use Rattle.thr_parts.specs.Mutexes.{Locks, mutex_at}
use Rattle.thr_parts.specs.Locking.{is_free}
use Rattle.thr_parts.specs.Conditions.{Conds, wait_of}
use Rattle.thr_parts.specs.Waking.{pull_out, some_if, mutex_with, resume, wake_all, wake_then}
use Rattle.thr_parts.proofs.TableLaws.{get_cut, canonical_cut, same_table}
use Rattle.thr_parts.proofs.RowLaws.{is_in}
use Rattle.thr_parts.proofs.MoveLaws.{best_then_rest, nobody_first, standing_put, canonical_take_out, canonical_take_out_if}

-- ---- a thread that is put anywhere else

once_cut : {A : Type 0} (b : Bool) (o : Option A) → cond b None (cond b None o) ≡ cond b None o
once_cut true o = refl
once_cut false o = refl

cut_twice : {A : Type 0} (m : Table A) (k : ℕ) → IsCanonical m → cut (cut m k) k ≡ cut m k
cut_twice m k h = same_table _ _ (canonical_cut (cut m k) k (canonical_cut m k h)) (canonical_cut m k h) (λ q.
    get_cut (cut m k) k q ∙ ap (cond (eqb k q) None) (get_cut m k q) ∙ once_cut (eqb k q) (get m q) ∙ sym (get_cut m k q))

cut_if_cut : {A : Type 0} (b : Bool) (m : Table A) (k : ℕ) → IsCanonical m → cut (cut_if b m k) k ≡ cut m k
cut_if_cut true m k h = cut_twice m k h
cut_if_cut false m k h = refl

-- Whether or not the thread was taken out.
pub out_cut : (rs : Rows) (b : Bool) (t : Tid) → IsCanonical rs.seats → cut (take_out_if rs (some_if b t)).seats t.0 ≡ cut rs.seats t.0
out_cut rs true t h = cut_if_cut (is_in_row (seat_of rs t)) rs.seats t.0 h
out_cut rs false t h = refl

-- ---- a row that becomes ready

pub free_nobody : (rank : Tid → ℕ) (rs : Rows) (r : RowId) → best rs r ≡ None → free_row rank rs r ≡ record { rows = rs; woken = [] }
unfolding make_all_ready
free_nobody rank rs r e = ap (λ (l : List Tid). let f : Freed = record { rows = make_all_ready rank rs l; woken = l } in f) (nobody_first rs r e)

rest_ready : (rank : Tid → ℕ) (rs : Rows) (r : RowId) (t : Tid) → IsCanonical rs.seats → is_same_row r row.Ready ≡ false
    → best_first (make_ready rank (take_out rs t).rows t) r ≡ numbers_of (in_order (filter (is_in r) (cut rs.seats t.0)))
rest_ready rank rs r t h apart =
    ap (λ l. numbers_of (in_order l)) (standing_put (take_out rs t).rows r row.Ready t (rank t) (canonical_take_out rs t h) apart
    ∙ ap (filter (is_in r)) (cut_if_cut (is_in_row (seat_of rs t)) rs.seats t.0 h))

pub free_step : (rank : Tid → ℕ) (rs : Rows) (r : RowId) (t : Tid) → IsCanonical rs.seats → is_same_row r row.Ready ≡ false → best rs r ≡ Some t
    → free_row rank rs r ≡ record {
      rows = (free_row rank (make_ready rank (take_out rs t).rows t) r).rows;
      woken = t ∷ (free_row rank (make_ready rank (take_out rs t).rows t) r).woken;
    }
unfolding make_all_ready
free_step rank rs r t h apart e =
    ap (λ (l : List Tid). let f : Freed = record { rows = make_all_ready rank rs l; woken = l } in f)
    (best_then_rest rs r t h e ∙ ap (λ l. t ∷ l) (sym (rest_ready rank rs r t h apart)))

-- ---- waits that end

-- A row in which no thread stands that was just woken.
pub record IsElsewhere (r : RowId) : Type 0 where
  pub ready : is_same_row r row.Ready ≡ false
  pub mutex : (m : NameId) → is_same_row r (row.Mutex m) ≡ false

cond_elsewhere : (r : RowId) (gets : Bool) (m : NameId) → IsElsewhere r → is_same_row r (cond gets row.Ready (row.Mutex m)) ≡ false
cond_elsewhere r true m h = h.ready
cond_elsewhere r false m h = h.mutex m

resumed : (rank : Tid → ℕ) (ls : Locks) (rs : Rows) (t : Tid) (m : Option NameId) (r : RowId) → IsElsewhere r → IsCanonical rs.seats
    → standing (resume rank ls rs t m).rows r ≡ filter (is_in r) (cut rs.seats t.0)
resumed rank ls rs t None r apart h = standing_put rs r row.Ready t (rank t) h apart.ready
resumed rank ls rs t (Some m) r apart h =
    standing_put rs r (cond (is_free (mutex_at ls (Some m))) row.Ready (row.Mutex m)) t (rank t) h (cond_elsewhere r (is_free (mutex_at ls (Some m))) m apart)

rest_resumed : (rank : Tid → ℕ) (cs : Conds) (ls : Locks) (rs : Rows) (t : Tid) (m : Option NameId) (r : RowId) → IsElsewhere r → IsCanonical rs.seats
    → best_first (resume rank ls (pull_out cs rs t).rows t m).rows r ≡ numbers_of (in_order (filter (is_in r) (cut rs.seats t.0)))
rest_resumed rank cs ls rs t m r apart h =
    ap (λ l. numbers_of (in_order l)) (resumed rank ls (pull_out cs rs t).rows t m r apart (canonical_take_out_if rs (some_if (is_some (wait_of cs t)) t) h)
    ∙ ap (filter (is_in r)) (out_cut rs (is_some (wait_of cs t)) t h))

abbrev pub WakesFirst : (Tid → ℕ) → Conds → Locks → Rows → Tid → (Conds → Rows → List Tid) → Type 0
WakesFirst rank cs ls rs t others = wake_all rank cs ls rs (others cs rs) ≡ wake_then rank cs ls rs t others

pub wake_row_nobody : (rank : Tid → ℕ) (cs : Conds) (ls : Locks) (rs : Rows) (r : RowId) → best rs r ≡ None
    → wake_all rank cs ls rs (best_first rs r) ≡ record { conds = cs; locks = ls; rows = rs; woken = []; gifts = [] }
unfolding wake_all
wake_row_nobody rank cs ls rs r e = ap (wake_all rank cs ls rs) (nobody_first rs r e)

pub wake_row_step : (rank : Tid → ℕ) (cs : Conds) (ls : Locks) (rs : Rows) (r : RowId) (t : Tid) → IsCanonical rs.seats → IsElsewhere r → best rs r ≡ Some t
    → WakesFirst rank cs ls rs t (λ _ rows. best_first rows r)
unfolding wake_all
wake_row_step rank cs ls rs r t h apart e =
    ap (wake_all rank cs ls rs) (best_then_rest rs r t h e ∙ ap (λ l. t ∷ l) (sym (rest_resumed rank cs ls rs t (mutex_with cs t) r apart h)))

pub cond_is_elsewhere : (c : NameId) → IsElsewhere (row.Cond c)
cond_is_elsewhere c = record { ready = refl; mutex = λ m. refl }

pub wake_cond_step : (rank : Tid → ℕ) (cs : Conds) (ls : Locks) (rs : Rows) (c : NameId) (t : Tid) → IsCanonical rs.seats → best rs (row.Cond c) ≡ Some t
    → WakesFirst rank cs ls rs t (λ _ rows. best_first rows (row.Cond c))
wake_cond_step rank cs ls rs c t h e = wake_row_step rank cs ls rs (row.Cond c) t h (cond_is_elsewhere c) e
