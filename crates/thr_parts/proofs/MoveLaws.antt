-- Threads that come and go: the rows stay canonical, and the others of a row keep their order.
use Rattle.std.proofs.Common.{◌≡◌, ℕ, Bool, true, false, not, eqb, List, [], ◌∷◌, Option, Some, None, sym, ◌∙◌, ap, subst}
use Rattle.std.specs.List.{filter}
use Rattle.std.specs.Option.{option_map}
use Rattle.thr_values.specs.declared.number.Tid.{Tid}
use Rattle.thr_parts.specs.declared.row.RowId.{RowId}
use Rattle.thr_parts.specs.declared.row.RowId.TheVariants as row
use Rattle.thr_parts.specs.declared.row.Seat.{Seat}
use Rattle.thr_parts.specs.Tables.{Table, cut, IsCanonical}
use Rattle.thr_parts.specs.Rows.{Rows, thread, seat_of, is_same_row, is_in_row, is_running, in_order, standing, numbers_of, best, best_first}
use Rattle.thr_parts.specs.Moves.{as_ranked, put_in_row, take_out, take_out_if, leave, block_in, block_if, set_rank, make_ready, make_all_ready}
use Rattle.thr_parts.specs.Dispatch.{dispatch, next_for, with_processor, keeps, as_kept}
use Rattle.thr_parts.proofs.TableLaws.{canonical_put, canonical_put_if, canonical_cut_if}
use Rattle.thr_parts.proofs.EntryLaws.{filter_put, filter_twice, cut_is}
use Rattle.thr_parts.proofs.BestLaws.{best_leads, nobody_in_order}
use Rattle.thr_parts.proofs.RowLaws.{is_in, standing_is, canonical_standing, IsBest, is_best, no_number}

-- ---- canonical rows

pub canonical_put_in_row : (rs : Rows) (r : RowId) (t : Tid) (rank : ℕ) → IsCanonical rs.seats → IsCanonical (put_in_row rs r t rank).seats
canonical_put_in_row rs r t rank h = canonical_put rs.seats t.0 _ h

pub canonical_take_out : (rs : Rows) (t : Tid) → IsCanonical rs.seats → IsCanonical (take_out rs t).rows.seats
canonical_take_out rs t h = canonical_cut_if (is_in_row (seat_of rs t)) rs.seats t.0 h

pub canonical_take_out_if : (rs : Rows) (o : Option Tid) → IsCanonical rs.seats → IsCanonical (take_out_if rs o).seats
canonical_take_out_if rs None h = h
canonical_take_out_if rs (Some t) h = canonical_take_out rs t h

pub canonical_leave : (rs : Rows) (t : Tid) → IsCanonical rs.seats → IsCanonical (leave rs t).seats
canonical_leave rs t h = canonical_cut_if (is_running (seat_of rs t)) rs.seats t.0 h

pub canonical_block_in : (rs : Rows) (r : RowId) (t : Tid) (rank : ℕ) → IsCanonical rs.seats → IsCanonical (block_in rs r t rank).seats
canonical_block_in rs r t rank h = canonical_put_in_row (leave rs t) r t rank (canonical_leave rs t h)

pub canonical_block_if : (waits : Bool) (rs : Rows) (r : RowId) (t : Tid) (rank : ℕ) → IsCanonical rs.seats → IsCanonical (block_if waits rs r t rank).seats
canonical_block_if true rs r t rank h = canonical_block_in rs r t rank h
canonical_block_if false rs r t rank h = h

pub canonical_set_rank : (rs : Rows) (t : Tid) (rank : ℕ) → IsCanonical rs.seats → IsCanonical (set_rank rs t rank).seats
canonical_set_rank rs t rank h = canonical_put_if rs.seats t.0 (option_map (as_ranked rank) (seat_of rs t)) h

with_processor_canonical : (o : Option (ℕ × Seat)) (seats : Table Seat) (p : ℕ) → IsCanonical seats → IsCanonical (with_processor o seats p)
with_processor_canonical None seats p h = h
with_processor_canonical (Some e) seats p h = canonical_put seats e.0 _ h

pub canonical_dispatch : (rs : Rows) (p : ℕ) → IsCanonical rs.seats → IsCanonical (dispatch rs p).rows.seats
canonical_dispatch rs p h = with_processor_canonical (next_for rs p) rs.seats p h

pub canonical_keeps : (rs : Rows) (t : Tid) (fifo : Bool) → IsCanonical rs.seats → IsCanonical (keeps rs t fifo).rows.seats
canonical_keeps rs t fifo h = canonical_put_if rs.seats t.0 (option_map (as_kept rs fifo) (seat_of rs t)) h

pub canonical_make_all_ready : (rank : Tid → ℕ) (rs : Rows) (ts : List Tid) → IsCanonical rs.seats → IsCanonical (make_all_ready rank rs ts).seats
unfolding make_all_ready
canonical_make_all_ready rank rs [] h = h
canonical_make_all_ready rank rs (t ∷ ts) h =
    canonical_make_all_ready rank (make_ready rank (take_out rs t).rows t) ts (canonical_put_in_row (take_out rs t).rows row.Ready t (rank t) (canonical_take_out rs t h))

-- ---- one at a time

-- Those of a row but one.
pub standing_cut : (rs : Rows) (r : RowId) (t : ℕ) → filter (is_in r) (cut rs.seats t) ≡ filter (λ e. not (eqb t e.0)) (standing rs r)
standing_cut rs r t =
    ap (filter (is_in r)) (cut_is rs.seats t) ∙ filter_twice (is_in r) (λ (e : ℕ × Seat). not (eqb t e.0)) rs.seats
    ∙ ap (filter (λ (e : ℕ × Seat). not (eqb t e.0))) (sym (standing_is rs r))

-- The row's best is first, and then come those of the row without it.
pub best_then_rest : (rs : Rows) (r : RowId) (t : Tid) → IsCanonical rs.seats → best rs r ≡ Some t → best_first rs r ≡ t ∷ numbers_of (in_order (filter (is_in r) (cut rs.seats t.0)))
best_then_rest rs r t h e =
    let b : (x : ℕ × Seat) × IsBest rs r t x = is_best rs r t e in
    subst (λ (x : Tid). best_first rs r ≡ x ∷ numbers_of (in_order (filter (is_in r) (cut rs.seats x.0)))) b.1.same
    (ap numbers_of (best_leads (standing rs r) b.0 (canonical_standing rs r h) b.1.best)
    ∙ ap (λ l. thread b.0.0 ∷ numbers_of (in_order l)) (sym (standing_cut rs r b.0.0)))

pub nobody_first : (rs : Rows) (r : RowId) → best rs r ≡ None → best_first rs r ≡ []
nobody_first rs r e = ap numbers_of (nobody_in_order (standing rs r) (no_number _ e))

-- A thread that stands in another row is none of the row's.
pub standing_put : (rs : Rows) (r s : RowId) (t : Tid) (rank : ℕ) → IsCanonical rs.seats → is_same_row r s ≡ false → standing (put_in_row rs s t rank) r ≡ filter (is_in r) (cut rs.seats t.0)
standing_put rs r s t rank h apart = standing_is (put_in_row rs s t rank) r ∙ filter_put (is_in r) rs.seats t.0 _ h apart
