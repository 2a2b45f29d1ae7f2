-- Pipes and rows agree on who waits as a writer after each call on pipes where they did before.
use Rattle.std.proofs.Common.{◌≡◌, ℕ, ℤ, Bool, true, false, not, cond, Option, Some, None, refl, ◌∙◌, ap}
use Rattle.std.specs.Option.{option_map, is_some}
use Rattle.thr_values.specs.declared.number.Tid.{Tid}
use Rattle.thr_values.specs.declared.number.NameId.{NameId}
use Rattle.thr_values.specs.declared.reply.Reply.{Reply}
use Rattle.thr_values.specs.declared.reply.Reply.TheVariants as reply
use Rattle.thr_parts.specs.declared.pipe.Writing.{Writing}
use Rattle.thr_parts.specs.declared.row.RowId.TheVariants as row
use Rattle.thr_parts.specs.Tables.{Table, get, put_if, keep_if, IsCanonical}
use Rattle.thr_parts.specs.Replies.{is_blocks, is_value}
use Rattle.thr_parts.specs.Rows.{Rows, seat_of, row_of, is_in_row, best}
use Rattle.thr_parts.specs.Moves.{take_out_if, block_if}
use Rattle.thr_parts.specs.Pipes.{Pipe, Pipes, pipe_at, writing_without, read, write_reply, write}
use Rattle.thr_parts.specs.Closing.{is_pipe_row, pull_out}
use Rattle.thr_parts.proofs.RowLaws.{best_stands}
use Rattle.thr_rows.proofs.AgreementLaws.{Agree, agree_block_if, agree_take_best, agree_begun_if, agree_left, waits_in_row, best_waits_not, from_kept, gone}
use Rattle.thr_rows.proofs.RoomLaws.{in_some_row}
use Rattle.thr_pipes.specs.Agreement.{writing_of, writer_row, if_writing, WritersAgree}
use Rattle.thr_pipes.proofs.KeepLaws.{writer_rows, agree_in, agree_of}

-- ---- waits that begin

pub agree_write : (ps : Pipes) (rs : Rows) (p : NameId) (v : ℤ) (t : Tid) (rank : ℕ) → IsCanonical rs.seats → WritersAgree ps rs
    → WritersAgree (write ps rs p v t rank).pipes (write ps rs p v t rank).rows
agree_write ps rs p v t rank h agrees =
    agree_of (write ps rs p v t rank).pipes (write ps rs p v t rank).rows
    (agree_begun_if writer_rows (is_blocks (write ps rs p v t rank).reply) ps.writing (take_out_if rs (write ps rs p v t rank).reader) (record { pipe = p; item = v }) t rank
    (agree_take_best writer_rows (pipe_at ps p).is_open ps.writing rs (row.Reader p) h (agree_in ps rs agrees) refl))

-- A write that hands its item to a reader waits not.
handed_over : (x : Pipe) (o : Option Tid) (u : Tid) → o ≡ Some u → is_blocks (write_reply x o) ≡ false
handed_over x None u e = absurd (cc)
handed_over x (Some w) u e = ends x.is_open
  where
    ends : (b : Bool) → is_blocks (cond (not b) reply.Epipe reply.Done) ≡ false
    ends true = refl
    ends false = refl

begun_by : (m : Table Writing) (t : ℕ) (w : Writing) (b : Bool) (u : Tid) → b ≡ false → get m u.0 ≡ None → get (put_if m t (keep_if b (Some w))) u.0 ≡ None
begun_by m t w true u e alone = absurd (cc)
begun_by m t w false u e alone = alone

-- The reader that is handed the item doesn't wait as a writer.
pub reader_writes_not : (ps : Pipes) (rs : Rows) (p : NameId) (v : ℤ) (t : Tid) (rank : ℕ) (u : Tid) → IsCanonical rs.seats → WritersAgree ps rs → (write ps rs p v t rank).reader ≡ Some u
    → writing_of (write ps rs p v t rank).pipes u ≡ None
reader_writes_not ps rs p v t rank u h agrees e =
    let alone : writing_of ps u ≡ None = best_waits_not writer_rows ps.writing rs (row.Reader p) u h (agree_in ps rs agrees) refl (from_kept (pipe_at ps p).is_open (best rs (row.Reader p)) u e) in
    begun_by ps.writing t.0 (record { pipe = p; item = v }) (is_blocks (write ps rs p v t rank).reply) u (handed_over (pipe_at ps p) (write ps rs p v t rank).reader u e) alone

-- ---- waits that end

-- The thread that is there stands in a row and leaves it, and its wait if it has one.
pub agree_left_if : (m : Table Writing) (rs : Rows) (o : Option Tid) → Agree writer_rows m rs → ((t : Tid) → o ≡ Some t → is_in_row (seat_of rs t) ≡ true)
    → Agree writer_rows (writing_without m o) (take_out_if rs o)
agree_left_if m rs None h stands = record { same = h.same }
agree_left_if m rs (Some t) h stands = agree_left writer_rows m rs t h (stands t refl)

pulled_if : (b : Bool) (m : Table Writing) (rs : Rows) (t : Tid) → is_pipe_row (row_of rs t) ≡ b → Agree writer_rows m rs
    → Agree writer_rows (writing_without m (keep_if b (Some t))) (take_out_if rs (keep_if b (Some t)))
pulled_if true m rs t is h = agree_left writer_rows m rs t h (in_some_row (row_of rs t) is)
pulled_if false m rs t is h = record { same = h.same }

pub agree_pull_out : (ps : Pipes) (rs : Rows) (t : Tid) → WritersAgree ps rs → WritersAgree (pull_out ps rs t).pipes (pull_out ps rs t).rows
agree_pull_out ps rs t h =
    agree_of (pull_out ps rs t).pipes (pull_out ps rs t).rows (pulled_if (is_pipe_row (row_of rs t)) ps.writing rs t refl (agree_in ps rs h))

-- The best writer has a wait.
has_wait : (w : Option Writing) (p : NameId) → option_map writer_row w ≡ Some (row.Writer p) → is_some w ≡ true
has_wait None p e = absurd (cc)
has_wait (Some w) p e = refl

writer_waits : (ps : Pipes) (rs : Rows) (p : NameId) (t : Tid) → IsCanonical rs.seats → WritersAgree ps rs → best rs (row.Writer p) ≡ Some t → is_some (writing_of ps t) ≡ true
writer_waits ps rs p t h agrees is = has_wait (writing_of ps t) p (agrees.same t ∙ ap if_writing (best_stands rs (row.Writer p) t h is))

pub agree_read : (ps : Pipes) (rs : Rows) (p : NameId) (t : Tid) (rank : ℕ) → IsCanonical rs.seats → WritersAgree ps rs → writing_of ps t ≡ None
    → WritersAgree (read ps rs p t rank).pipes (read ps rs p t rank).rows
agree_read ps rs p t rank h agrees alone =
    let said : Reply = (read ps rs p t rank).reply in
    let blocked : Rows = block_if (is_blocks said) rs (row.Reader p) t rank in
    let still : Agree writer_rows ps.writing blocked = agree_block_if writer_rows (is_blocks said) ps.writing rs (row.Reader p) t rank (agree_in ps rs agrees) alone refl in
    agree_of (read ps rs p t rank).pipes (read ps rs p t rank).rows
    (agree_left_if ps.writing blocked (read ps rs p t rank).relieved still (λ u e.
    waits_in_row writer_rows ps.writing blocked u still (writer_waits ps rs p u h agrees (from_kept (is_value said) (best rs (row.Writer p)) u e))))

-- The writer whose item enters waits no more.
relieved_by : (m : Table Writing) (o : Option Tid) (u : Tid) → o ≡ Some u → get (writing_without m o) u.0 ≡ None
relieved_by m o u e = ap (λ (who : Option Tid). get (writing_without m who) u.0) e ∙ gone m u.0

pub relieved_writes_not : (ps : Pipes) (rs : Rows) (p : NameId) (t : Tid) (rank : ℕ) (u : Tid) → (read ps rs p t rank).relieved ≡ Some u → writing_of (read ps rs p t rank).pipes u ≡ None
relieved_writes_not ps rs p t rank u e = relieved_by ps.writing (read ps rs p t rank).relieved u e
