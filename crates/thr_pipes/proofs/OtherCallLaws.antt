-- Pipes and rows go on to agree on who waits as a writer after each call on other objects.
use Rattle.std.proofs.Common.{◌≡◌, ℕ, ℤ, Bool, true, false, Option, Some, None, refl, ap}
use Rattle.thr_values.specs.declared.number.Tid.{Tid}
use Rattle.thr_values.specs.declared.number.NameId.{NameId}
use Rattle.thr_values.specs.declared.reply.Reply.{Reply}
use Rattle.thr_parts.specs.declared.pipe.Writing.{Writing}
use Rattle.thr_parts.specs.declared.row.RowId.{RowId}
use Rattle.thr_parts.specs.declared.row.RowId.TheVariants as row
use Rattle.thr_parts.specs.Tables.{Table, get, has, keep_if, IsCanonical}
use Rattle.thr_parts.specs.Replies.{is_blocks}
use Rattle.thr_parts.specs.Rows.{Rows, row_of, best}
use Rattle.thr_parts.specs.Moves.{take_out, block_if}
use Rattle.thr_parts.specs.Mutexes.{Locks, waiters_row}
use Rattle.thr_parts.specs.Locking.{lock, unlock, give_up, regain}
use Rattle.thr_parts.specs.Conditions.{Conds, wait, timedwait, begin_wait, delay}
use Rattle.thr_parts.specs.Waking.{thread_in, mutex_with, next_waiter, take_next, signal, resume}
use Rattle.thr_parts.specs.Keys.{Onces}
use Rattle.thr_parts.specs.OnceBlocks.{enter, undone}
use Rattle.thr_parts.specs.Pipes.{Pipes, writing_without}
use Rattle.thr_parts.specs.Closing.{is_pipe_row, pull_out}
use Rattle.thr_parts.specs.CancelledWaits.{cancel_wait}
use Rattle.thr_parts.proofs.MoveLaws.{canonical_block_if}
use Rattle.thr_rows.proofs.AgreementLaws.{Agree, agree_left, gone, from_kept}
use Rattle.thr_rows.proofs.AgreementLaws as rows
use Rattle.thr_rows.proofs.AgreedCalls as calls
use Rattle.thr_rows.proofs.RoomLaws.{best_by, in_some_row}
use Rattle.thr_pipes.specs.Agreement.{writing_of, if_writing, WritersAgree}
use Rattle.thr_pipes.proofs.KeepLaws.{writer_rows, are_other, agree_in, agree_of}

-- ---- mutexes and once blocks

pub agree_lock : (ps : Pipes) (ls : Locks) (rs : Rows) (m : Option NameId) (t : Tid) (rank : ℕ) → WritersAgree ps rs → writing_of ps t ≡ None → WritersAgree ps (lock ls rs m t rank).rows
agree_lock ps ls rs m t rank h alone = agree_of ps (lock ls rs m t rank).rows (calls.agree_lock writer_rows ps.writing ls rs m t rank are_other (agree_in ps rs h) alone)

pub agree_unlock : (ps : Pipes) (ls : Locks) (rs : Rows) (m : Option NameId) (t : Tid) → IsCanonical rs.seats → WritersAgree ps rs → WritersAgree ps (unlock ls rs m t).rows
agree_unlock ps ls rs m t h agrees = agree_of ps (unlock ls rs m t).rows (calls.agree_unlock writer_rows ps.writing ls rs m t are_other h (agree_in ps rs agrees))

pub agree_give_up : (ps : Pipes) (ls : Locks) (rs : Rows) (m : Option NameId) → IsCanonical rs.seats → WritersAgree ps rs → WritersAgree ps (give_up ls rs m).rows
agree_give_up ps ls rs m h agrees = agree_of ps (give_up ls rs m).rows (rows.agree_take_best writer_rows true ps.writing rs (waiters_row m) h (agree_in ps rs agrees) (are_other.lock m))

pub agree_regain : (ps : Pipes) (ls : Locks) (rs : Rows) (m : NameId) (t : Tid) (rank : ℕ) → WritersAgree ps rs → writing_of ps t ≡ None → WritersAgree ps (regain ls rs m t rank).rows
agree_regain ps ls rs m t rank h alone = agree_of ps (regain ls rs m t rank).rows (calls.agree_regain writer_rows ps.writing ls rs m t rank are_other (agree_in ps rs h) alone)

pub agree_resume : (rank : Tid → ℕ) (ps : Pipes) (ls : Locks) (rs : Rows) (t : Tid) (m : Option NameId) → WritersAgree ps rs → writing_of ps t ≡ None → WritersAgree ps (resume rank ls rs t m).rows
agree_resume rank ps ls rs t m h alone = agree_of ps (resume rank ls rs t m).rows (calls.agree_resume writer_rows ps.writing rank ls rs t m are_other (agree_in ps rs h) alone)

pub agree_enter : (ps : Pipes) (os : Onces) (rs : Rows) (o : NameId) (t : Tid) (rank : ℕ) → WritersAgree ps rs → writing_of ps t ≡ None → WritersAgree ps (enter os rs o t rank).rows
agree_enter ps os rs o t rank h alone = agree_of ps (enter os rs o t rank).rows (calls.agree_enter writer_rows ps.writing os rs o t rank are_other (agree_in ps rs h) alone)

pub agree_undone : (ps : Pipes) (os : Onces) (rs : Rows) (o : NameId) → IsCanonical rs.seats → WritersAgree ps rs → WritersAgree ps (undone os rs o).rows
agree_undone ps os rs o h agrees = agree_of ps (undone os rs o).rows (calls.agree_undone writer_rows ps.writing os rs o are_other h (agree_in ps rs agrees))

-- ---- waits on conditions and for times that begin

agree_begin : (ps : Pipes) (cs : Conds) (ls : Locks) (rs : Rows) (c m : NameId) (until : Option ℤ) (t : Tid) (rank : ℕ) (said : Reply) → IsCanonical rs.seats → WritersAgree ps rs → writing_of ps t ≡ None
    → WritersAgree ps (begin_wait cs ls rs c m until t rank said).rows
agree_begin ps cs ls rs c m until t rank said h agrees alone =
    agree_of ps (begin_wait cs ls rs c m until t rank said).rows
    (rows.agree_take_best writer_rows (is_blocks said) ps.writing (block_if (is_blocks said) rs (row.Cond c) t rank) (row.Mutex m)
    (canonical_block_if (is_blocks said) rs (row.Cond c) t rank h)
    (rows.agree_block_if writer_rows (is_blocks said) ps.writing rs (row.Cond c) t rank (agree_in ps rs agrees) alone refl) refl)

pub agree_wait : (ps : Pipes) (cs : Conds) (ls : Locks) (rs : Rows) (c m : NameId) (t : Tid) (rank : ℕ) → IsCanonical rs.seats → WritersAgree ps rs → writing_of ps t ≡ None
    → WritersAgree ps (wait cs ls rs c m t rank).rows
agree_wait ps cs ls rs c m t rank h agrees alone = agree_begin ps cs ls rs c m None t rank (wait cs ls rs c m t rank).reply h agrees alone

pub agree_timedwait : (ps : Pipes) (cs : Conds) (ls : Locks) (rs : Rows) (c m : NameId) (until now : ℤ) (t : Tid) (rank : ℕ) → IsCanonical rs.seats → WritersAgree ps rs → writing_of ps t ≡ None
    → WritersAgree ps (timedwait cs ls rs c m until now t rank).rows
agree_timedwait ps cs ls rs c m until now t rank h agrees alone = agree_begin ps cs ls rs c m (Some until) t rank (timedwait cs ls rs c m until now t rank).reply h agrees alone

pub agree_delay : (ps : Pipes) (cs : Conds) (rs : Rows) (ticks now : ℤ) (t : Tid) (rank : ℕ) → WritersAgree ps rs → writing_of ps t ≡ None → WritersAgree ps (delay cs rs ticks now t rank).rows
agree_delay ps cs rs ticks now t rank h alone =
    agree_of ps (delay cs rs ticks now t rank).rows (rows.agree_block_if writer_rows (is_blocks (delay cs rs ticks now t rank).reply) ps.writing rs row.Time t rank (agree_in ps rs h) alone refl)

-- ---- waiters that are taken

pub next_writes_not : (ps : Pipes) (cs : Conds) (rs : Rows) (c : NameId) (t : Tid) → IsCanonical rs.seats → WritersAgree ps rs → thread_in (next_waiter cs rs c) ≡ Some t → writing_of ps t ≡ None
next_writes_not ps cs rs c t h agrees e = rows.best_waits_not writer_rows ps.writing rs (row.Cond c) t h (agree_in ps rs agrees) refl (best_by cs t (best rs (row.Cond c)) e)

kept_thread : {A : Type 0} (b : Bool) (o : Option (Tid × A)) (t : Tid) → thread_in (keep_if b o) ≡ Some t → thread_in o ≡ Some t
kept_thread true o t e = e
kept_thread false o t e = absurd (cc)

pub agree_take_next : (ps : Pipes) (cs : Conds) (rs : Rows) (c : NameId) → IsCanonical rs.seats → WritersAgree ps rs → WritersAgree ps (take_next cs rs c).rows
agree_take_next ps cs rs c h agrees =
    agree_of ps (take_next cs rs c).rows (rows.agree_take_out_if writer_rows ps.writing rs (thread_in (next_waiter cs rs c)) (agree_in ps rs agrees) (λ t e. next_writes_not ps cs rs c t h agrees e))

pub agree_signal : (ps : Pipes) (cs : Conds) (rs : Rows) (c : NameId) → IsCanonical rs.seats → WritersAgree ps rs → WritersAgree ps (signal cs rs c).rows
agree_signal ps cs rs c h agrees =
    agree_of ps (signal cs rs c).rows
    (rows.agree_take_out_if writer_rows ps.writing rs (thread_in (signal cs rs c).waiter) (agree_in ps rs agrees) (λ t e.
    next_writes_not ps cs rs c t h agrees (kept_thread (has cs.made c.0) (next_waiter cs rs c) t e)))

-- The one that was taken has no wait as a writer.
pub taken_next_writes_not : (ps : Pipes) (cs : Conds) (rs : Rows) (c : NameId) (t : Tid) (m : NameId) → IsCanonical rs.seats → WritersAgree ps rs → (take_next cs rs c).waiter ≡ Some (t, m) → writing_of ps t ≡ None
taken_next_writes_not ps cs rs c t m h agrees e = next_writes_not ps cs rs c t h agrees (ap (λ (o : Option (Tid × NameId)). thread_in o) e)

pub signalled_writes_not : (ps : Pipes) (cs : Conds) (rs : Rows) (c : NameId) (t : Tid) (m : NameId) → IsCanonical rs.seats → WritersAgree ps rs → (signal cs rs c).waiter ≡ Some (t, m) → writing_of ps t ≡ None
signalled_writes_not ps cs rs c t m h agrees e =
    next_writes_not ps cs rs c t h agrees (ap (λ (o : Option (Tid × NameId)). thread_in o) (from_kept (has cs.made c.0) (next_waiter cs rs c) (t, m) e))

-- ---- cancels

no_pipe_row : (r : Option RowId) → is_pipe_row r ≡ false → if_writing r ≡ None
no_pipe_row None e = refl
no_pipe_row (Some row.Ready) e = refl
no_pipe_row (Some (row.Mutex m)) e = refl
no_pipe_row (Some row.Global) e = refl
no_pipe_row (Some (row.Cond c)) e = refl
no_pipe_row (Some (row.Join t)) e = refl
no_pipe_row (Some (row.Once o)) e = refl
no_pipe_row (Some (row.Reader p)) e = absurd (cc)
no_pipe_row (Some (row.Writer p)) e = absurd (cc)
no_pipe_row (Some row.Time) e = refl

-- The waits of others, where the thread leaves its row and its wait as a writer if it stands in the row of a pipe.
pub record IsOut (m : Table Writing) (rs : Rows) (t : Tid) : Type 0 where
  pub agrees : Agree writer_rows m (take_out rs t).rows
  pub alone : get m t.0 ≡ None

cancelled_if : (b : Bool) (m : Table Writing) (rs : Rows) (t : Tid) → is_pipe_row (row_of rs t) ≡ b → Agree writer_rows m rs → IsOut (writing_without m (keep_if b (Some t))) rs t
cancelled_if true m rs t is h = record { agrees = agree_left writer_rows m rs t h (in_some_row (row_of rs t) is); alone = gone m t.0 }
cancelled_if false m rs t is h =
    let alone : get m t.0 ≡ None = rows.no_wait writer_rows m rs t h (no_pipe_row (row_of rs t) is) in
    record { agrees = rows.agree_take_out writer_rows m rs t h alone; alone = alone }

pub pulled_out : (ps : Pipes) (rs : Rows) (t : Tid) → WritersAgree ps rs → writing_of (pull_out ps rs t).pipes t ≡ None
pulled_out ps rs t h =
    let out : IsOut (pull_out ps rs t).pipes.writing rs t = cancelled_if (is_pipe_row (row_of rs t)) ps.writing rs t refl (agree_in ps rs h) in out.alone

pub agree_cancel_wait : (rank : Tid → ℕ) (ps : Pipes) (cs : Conds) (ls : Locks) (rs : Rows) (t : Tid) → WritersAgree ps rs
    → WritersAgree (cancel_wait rank cs ps ls rs t).pipes (cancel_wait rank cs ps ls rs t).rows
agree_cancel_wait rank ps cs ls rs t h =
    let out : IsOut (cancel_wait rank cs ps ls rs t).pipes.writing rs t = cancelled_if (is_pipe_row (row_of rs t)) ps.writing rs t refl (agree_in ps rs h) in
    agree_of (cancel_wait rank cs ps ls rs t).pipes (cancel_wait rank cs ps ls rs t).rows
    (calls.agree_resume writer_rows (cancel_wait rank cs ps ls rs t).pipes.writing rank ls (take_out rs t).rows t (mutex_with cs t) are_other out.agrees out.alone)
