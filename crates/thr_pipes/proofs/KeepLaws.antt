-- Whatever becomes of threads in rows and on processors, pipes and rows go on to agree on who waits as a writer.
use Rattle.std.proofs.Common.{◌≡◌, ℕ, Bool, List, Option, None, Some, refl}
use Rattle.thr_values.specs.declared.number.Tid.{Tid}
use Rattle.thr_values.specs.declared.number.NameId.{NameId}
use Rattle.thr_syntax.specs.declared.tree.Item.{Item}
use Rattle.thr_parts.specs.declared.row.RowId.{RowId}
use Rattle.thr_parts.specs.declared.pipe.Writing.{Writing}
use Rattle.thr_parts.specs.Tables.{keep_if, IsCanonical}
use Rattle.thr_parts.specs.Rows.{Rows, no_rows, thread, row_of, best}
use Rattle.thr_parts.specs.Moves.{put_in_row, take_out, take_out_if, leave, block_in, set_rank, free_row}
use Rattle.thr_parts.specs.Dispatch.{dispatch, keeps}
use Rattle.thr_parts.specs.Mutexes.{waiters_row}
use Rattle.thr_parts.specs.Pipes.{Pipes, first_pipes}
use Rattle.thr_rows.proofs.AgreementLaws.{Waits, Agree}
use Rattle.thr_rows.proofs.AgreementLaws as rows
use Rattle.thr_rows.proofs.AgreedCalls.{IsOther}
use Rattle.thr_pipes.specs.Agreement.{writing_of, writer_row, if_writing, WritersAgree}

-- How waits as a writer stand in rows.
abbrev pub writer_rows : Waits Writing
writer_rows = record { stands = writer_row; its = if_writing; nowhere = refl; ready = refl; own = λ w. refl }

other_row : (m : Option NameId) → if_writing (Some (waiters_row m)) ≡ None
other_row None = refl
other_row (Some m) = refl

pub are_other : IsOther writer_rows
are_other = record { lock = other_row; once = λ b. refl }

pub agree_in : (ps : Pipes) (rs : Rows) → WritersAgree ps rs → Agree writer_rows ps.writing rs
agree_in ps rs h = record { same = λ q. h.same (thread q) }

pub agree_of : (ps : Pipes) (rs : Rows) → Agree writer_rows ps.writing rs → WritersAgree ps rs
agree_of ps rs h = record { same = λ t. h.same t.0 }

pub agree_opening : (items : List Item) → WritersAgree (first_pipes items) no_rows
agree_opening items = agree_of (first_pipes items) no_rows (rows.agree_opening writer_rows)

pub no_wait : (ps : Pipes) (rs : Rows) (t : Tid) → WritersAgree ps rs → if_writing (row_of rs t) ≡ None → writing_of ps t ≡ None
no_wait ps rs t h e = rows.no_wait writer_rows ps.writing rs t (agree_in ps rs h) e

pub best_writes_not : (ps : Pipes) (rs : Rows) (r : RowId) (t : Tid) → IsCanonical rs.seats → WritersAgree ps rs → if_writing (Some r) ≡ None → best rs r ≡ Some t → writing_of ps t ≡ None
best_writes_not ps rs r t h agrees other is = rows.best_waits_not writer_rows ps.writing rs r t h (agree_in ps rs agrees) other is

pub agree_put : (ps : Pipes) (rs : Rows) (r : RowId) (t : Tid) (rank : ℕ) → WritersAgree ps rs → writing_of ps t ≡ None → if_writing (Some r) ≡ None → WritersAgree ps (put_in_row rs r t rank)
agree_put ps rs r t rank h alone other = agree_of ps (put_in_row rs r t rank) (rows.agree_put writer_rows ps.writing rs r t rank (agree_in ps rs h) alone other)

pub agree_take_out : (ps : Pipes) (rs : Rows) (t : Tid) → WritersAgree ps rs → writing_of ps t ≡ None → WritersAgree ps (take_out rs t).rows
agree_take_out ps rs t h alone = agree_of ps (take_out rs t).rows (rows.agree_take_out writer_rows ps.writing rs t (agree_in ps rs h) alone)

pub agree_take_best : (b : Bool) (ps : Pipes) (rs : Rows) (r : RowId) → IsCanonical rs.seats → WritersAgree ps rs → if_writing (Some r) ≡ None → WritersAgree ps (take_out_if rs (keep_if b (best rs r)))
agree_take_best b ps rs r h agrees other = agree_of ps (take_out_if rs (keep_if b (best rs r))) (rows.agree_take_best writer_rows b ps.writing rs r h (agree_in ps rs agrees) other)

pub agree_leave : (ps : Pipes) (rs : Rows) (t : Tid) → WritersAgree ps rs → WritersAgree ps (leave rs t)
agree_leave ps rs t h = agree_of ps (leave rs t) (rows.agree_leave writer_rows ps.writing rs t (agree_in ps rs h))

pub agree_block_in : (ps : Pipes) (rs : Rows) (r : RowId) (t : Tid) (rank : ℕ) → WritersAgree ps rs → writing_of ps t ≡ None → if_writing (Some r) ≡ None → WritersAgree ps (block_in rs r t rank)
agree_block_in ps rs r t rank h alone other = agree_of ps (block_in rs r t rank) (rows.agree_block_in writer_rows ps.writing rs r t rank (agree_in ps rs h) alone other)

pub agree_set_rank : (ps : Pipes) (rs : Rows) (t : Tid) (rank : ℕ) → WritersAgree ps rs → WritersAgree ps (set_rank rs t rank)
agree_set_rank ps rs t rank h = agree_of ps (set_rank rs t rank) (rows.agree_set_rank writer_rows ps.writing rs t rank (agree_in ps rs h))

pub agree_dispatch : (ps : Pipes) (rs : Rows) (p : ℕ) → IsCanonical rs.seats → WritersAgree ps rs → WritersAgree ps (dispatch rs p).rows
agree_dispatch ps rs p h agrees = agree_of ps (dispatch rs p).rows (rows.agree_dispatch writer_rows ps.writing rs p h (agree_in ps rs agrees))

pub agree_keeps : (ps : Pipes) (rs : Rows) (t : Tid) (fifo : Bool) → WritersAgree ps rs → WritersAgree ps (keeps rs t fifo).rows
agree_keeps ps rs t fifo h = agree_of ps (keeps rs t fifo).rows (rows.agree_keeps writer_rows ps.writing rs t fifo (agree_in ps rs h))

pub agree_free_row : (rank : Tid → ℕ) (ps : Pipes) (rs : Rows) (r : RowId) → IsCanonical rs.seats → WritersAgree ps rs → if_writing (Some r) ≡ None → WritersAgree ps (free_row rank rs r).rows
agree_free_row rank ps rs r h agrees other = agree_of ps (free_row rank rs r).rows (rows.agree_free_row writer_rows rank ps.writing rs r h (agree_in ps rs agrees) other)
