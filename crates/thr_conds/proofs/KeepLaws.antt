-- Whatever becomes of threads in rows and on processors, conditions and rows go on to agree on who waits.
use Rattle.std.proofs.Common.{◌≡◌, ℕ, Bool, Option, None, Some, refl}
use Rattle.thr_values.specs.declared.number.Tid.{Tid}
use Rattle.thr_values.specs.declared.number.NameId.{NameId}
use Rattle.thr_parts.specs.declared.row.RowId.{RowId}
use Rattle.thr_parts.specs.declared.wait.Wait.{Wait}
use Rattle.thr_parts.specs.declared.wait.Wait.TheVariants.{Cond, Delay}
use Rattle.thr_parts.specs.Tables.{keep_if, IsCanonical}
use Rattle.thr_parts.specs.Rows.{Rows, no_rows, thread, row_of, best}
use Rattle.thr_parts.specs.Moves.{put_in_row, take_out, take_out_if, leave, block_in, set_rank, free_row}
use Rattle.thr_parts.specs.Dispatch.{dispatch, keeps}
use Rattle.thr_parts.specs.Mutexes.{waiters_row}
use Rattle.thr_parts.specs.Conditions.{Conds, no_conds, wait_of}
use Rattle.thr_rows.proofs.AgreementLaws.{Waits, Agree}
use Rattle.thr_rows.proofs.AgreementLaws as rows
use Rattle.thr_rows.proofs.AgreedCalls.{IsOther}
use Rattle.thr_conds.specs.Agreement.{waiting_row, if_waiting, WaitsAgree}

pub stands_there : (w : Wait) → if_waiting (Some (waiting_row w)) ≡ Some (waiting_row w)
stands_there (Cond c m until) = refl
stands_there (Delay until) = refl

-- How waits on conditions and for times stand in rows.
abbrev pub wait_rows : Waits Wait
wait_rows = record { stands = waiting_row; its = if_waiting; nowhere = refl; ready = refl; own = stands_there }

other_row : (m : Option NameId) → if_waiting (Some (waiters_row m)) ≡ None
other_row None = refl
other_row (Some m) = refl

pub are_other : IsOther wait_rows
are_other = record { lock = other_row; once = λ b. refl }

pub agree_in : (cs : Conds) (rs : Rows) → WaitsAgree cs rs → Agree wait_rows cs.waits rs
agree_in cs rs h = record { same = λ q. h.same (thread q) }

pub agree_of : (cs : Conds) (rs : Rows) → Agree wait_rows cs.waits rs → WaitsAgree cs rs
agree_of cs rs h = record { same = λ t. h.same t.0 }

pub agree_opening : WaitsAgree no_conds no_rows
agree_opening = agree_of no_conds no_rows (rows.agree_opening wait_rows)

pub no_wait : (cs : Conds) (rs : Rows) (t : Tid) → WaitsAgree cs rs → if_waiting (row_of rs t) ≡ None → wait_of cs t ≡ None
no_wait cs rs t h e = rows.no_wait wait_rows cs.waits rs t (agree_in cs rs h) e

pub best_waits_not : (cs : Conds) (rs : Rows) (r : RowId) (t : Tid) → IsCanonical rs.seats → WaitsAgree cs rs → if_waiting (Some r) ≡ None → best rs r ≡ Some t → wait_of cs t ≡ None
best_waits_not cs rs r t h agrees other is = rows.best_waits_not wait_rows cs.waits rs r t h (agree_in cs rs agrees) other is

pub agree_put : (cs : Conds) (rs : Rows) (r : RowId) (t : Tid) (rank : ℕ) → WaitsAgree cs rs → wait_of cs t ≡ None → if_waiting (Some r) ≡ None → WaitsAgree cs (put_in_row rs r t rank)
agree_put cs rs r t rank h alone other = agree_of cs (put_in_row rs r t rank) (rows.agree_put wait_rows cs.waits rs r t rank (agree_in cs rs h) alone other)

pub agree_take_out : (cs : Conds) (rs : Rows) (t : Tid) → WaitsAgree cs rs → wait_of cs t ≡ None → WaitsAgree cs (take_out rs t).rows
agree_take_out cs rs t h alone = agree_of cs (take_out rs t).rows (rows.agree_take_out wait_rows cs.waits rs t (agree_in cs rs h) alone)

pub agree_take_best : (b : Bool) (cs : Conds) (rs : Rows) (r : RowId) → IsCanonical rs.seats → WaitsAgree cs rs → if_waiting (Some r) ≡ None → WaitsAgree cs (take_out_if rs (keep_if b (best rs r)))
agree_take_best b cs rs r h agrees other = agree_of cs (take_out_if rs (keep_if b (best rs r))) (rows.agree_take_best wait_rows b cs.waits rs r h (agree_in cs rs agrees) other)

pub agree_leave : (cs : Conds) (rs : Rows) (t : Tid) → WaitsAgree cs rs → WaitsAgree cs (leave rs t)
agree_leave cs rs t h = agree_of cs (leave rs t) (rows.agree_leave wait_rows cs.waits rs t (agree_in cs rs h))

pub agree_block_in : (cs : Conds) (rs : Rows) (r : RowId) (t : Tid) (rank : ℕ) → WaitsAgree cs rs → wait_of cs t ≡ None → if_waiting (Some r) ≡ None → WaitsAgree cs (block_in rs r t rank)
agree_block_in cs rs r t rank h alone other = agree_of cs (block_in rs r t rank) (rows.agree_block_in wait_rows cs.waits rs r t rank (agree_in cs rs h) alone other)

pub agree_set_rank : (cs : Conds) (rs : Rows) (t : Tid) (rank : ℕ) → WaitsAgree cs rs → WaitsAgree cs (set_rank rs t rank)
agree_set_rank cs rs t rank h = agree_of cs (set_rank rs t rank) (rows.agree_set_rank wait_rows cs.waits rs t rank (agree_in cs rs h))

pub agree_dispatch : (cs : Conds) (rs : Rows) (p : ℕ) → IsCanonical rs.seats → WaitsAgree cs rs → WaitsAgree cs (dispatch rs p).rows
agree_dispatch cs rs p h agrees = agree_of cs (dispatch rs p).rows (rows.agree_dispatch wait_rows cs.waits rs p h (agree_in cs rs agrees))

pub agree_keeps : (cs : Conds) (rs : Rows) (t : Tid) (fifo : Bool) → WaitsAgree cs rs → WaitsAgree cs (keeps rs t fifo).rows
agree_keeps cs rs t fifo h = agree_of cs (keeps rs t fifo).rows (rows.agree_keeps wait_rows cs.waits rs t fifo (agree_in cs rs h))

pub agree_free_row : (rank : Tid → ℕ) (cs : Conds) (rs : Rows) (r : RowId) → IsCanonical rs.seats → WaitsAgree cs rs → if_waiting (Some r) ≡ None → WaitsAgree cs (free_row rank rs r).rows
agree_free_row rank cs rs r h agrees other = agree_of cs (free_row rank rs r).rows (rows.agree_free_row wait_rows rank cs.waits rs r h (agree_in cs rs agrees) other)
