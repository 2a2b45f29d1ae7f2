-- Whatever a call does, the seats stay a table whose numbers rise.
use Rattle.std.proofs.Common.{ℕ, ℤ, Bool, true, false, List, [], ◌∷◌, Option, Some, None}
use Rattle.std.specs.Option.{is_some}
use Rattle.thr_values.specs.declared.number.Tid.{Tid}
use Rattle.thr_values.specs.declared.number.NameId.{NameId}
use Rattle.thr_values.specs.declared.reply.Reply.{Reply}
use Rattle.thr_parts.specs.declared.row.RowId.{RowId}
use Rattle.thr_parts.specs.declared.row.RowId.TheVariants as row
use Rattle.thr_parts.specs.Tables.{IsCanonical}
use Rattle.thr_parts.specs.Replies.{is_blocks}
use Rattle.thr_parts.specs.Rows.{Rows, best, best_first}
use Rattle.thr_parts.specs.Moves.{take_out, take_out_if, block_if, free_row}
use Rattle.thr_parts.specs.Mutexes.{Locks, mutex_at, waiters_row}
use Rattle.thr_parts.specs.Locking.{lock, lock_reply, unlock, regain}
use Rattle.thr_parts.specs.Conditions.{Conds, wait_of, wait, timedwait, begin_wait, delay, delay_reply}
use Rattle.thr_parts.specs.Waking.{pull_out, some_if, resume, mutex_with, wake_all}
use Rattle.thr_parts.specs.Keys.{Onces}
use Rattle.thr_parts.specs.OnceBlocks.{enter, undone}
use Rattle.thr_parts.specs.Pipes.{Pipes, pipe_at, read, write}
use Rattle.thr_parts.specs.Closing.{free_if, close_out}
use Rattle.thr_parts.specs.CancelledWaits.{cancel_wait}
use Rattle.thr_parts.proofs.MoveLaws.{canonical_put_in_row, canonical_take_out, canonical_take_out_if, canonical_block_if, canonical_make_all_ready}

pub canonical_lock : (ls : Locks) (rs : Rows) (m : Option NameId) (t : Tid) (rank : ℕ) → IsCanonical rs.seats → IsCanonical (lock ls rs m t rank).rows.seats
canonical_lock ls rs m t rank h = canonical_block_if (is_blocks (lock_reply (mutex_at ls m) t)) rs (waiters_row m) t rank h

pub canonical_unlock : (ls : Locks) (rs : Rows) (m : Option NameId) (t : Tid) → IsCanonical rs.seats → IsCanonical (unlock ls rs m t).rows.seats
canonical_unlock ls rs m t h = canonical_take_out_if rs (unlock ls rs m t).given h

pub canonical_regain : (ls : Locks) (rs : Rows) (m : NameId) (t : Tid) (rank : ℕ) → IsCanonical rs.seats → IsCanonical (regain ls rs m t rank).rows.seats
canonical_regain ls rs m t rank h = canonical_put_in_row rs _ t rank h

canonical_begin : (cs : Conds) (ls : Locks) (rs : Rows) (c m : NameId) (until : Option ℤ) (t : Tid) (rank : ℕ) (said : Reply) → IsCanonical rs.seats
    → IsCanonical (begin_wait cs ls rs c m until t rank said).rows.seats
canonical_begin cs ls rs c m until t rank said h =
    canonical_take_out_if (block_if (is_blocks said) rs (row.Cond c) t rank) (begin_wait cs ls rs c m until t rank said).given (canonical_block_if (is_blocks said) rs (row.Cond c) t rank h)

pub canonical_wait : (cs : Conds) (ls : Locks) (rs : Rows) (c m : NameId) (t : Tid) (rank : ℕ) → IsCanonical rs.seats → IsCanonical (wait cs ls rs c m t rank).rows.seats
canonical_wait cs ls rs c m t rank h = canonical_begin cs ls rs c m None t rank _ h

pub canonical_timedwait : (cs : Conds) (ls : Locks) (rs : Rows) (c m : NameId) (until now : ℤ) (t : Tid) (rank : ℕ) → IsCanonical rs.seats
    → IsCanonical (timedwait cs ls rs c m until now t rank).rows.seats
canonical_timedwait cs ls rs c m until now t rank h = canonical_begin cs ls rs c m (Some until) t rank _ h

pub canonical_delay : (cs : Conds) (rs : Rows) (ticks now : ℤ) (t : Tid) (rank : ℕ) → IsCanonical rs.seats → IsCanonical (delay cs rs ticks now t rank).rows.seats
canonical_delay cs rs ticks now t rank h = canonical_block_if (is_blocks (delay_reply ticks now)) rs row.Time t rank h

pub canonical_pull_out : (cs : Conds) (rs : Rows) (t : Tid) → IsCanonical rs.seats → IsCanonical (pull_out cs rs t).rows.seats
canonical_pull_out cs rs t h = canonical_take_out_if rs (some_if (is_some (wait_of cs t)) t) h

pub canonical_resume : (rank : Tid → ℕ) (ls : Locks) (rs : Rows) (t : Tid) (m : Option NameId) → IsCanonical rs.seats → IsCanonical (resume rank ls rs t m).rows.seats
canonical_resume rank ls rs t None h = canonical_put_in_row rs row.Ready t (rank t) h
canonical_resume rank ls rs t (Some m) h = canonical_regain ls rs m t (rank t) h

pub canonical_wake_all : (rank : Tid → ℕ) (cs : Conds) (ls : Locks) (rs : Rows) (ts : List Tid) → IsCanonical rs.seats → IsCanonical (wake_all rank cs ls rs ts).rows.seats
unfolding wake_all
canonical_wake_all rank cs ls rs [] h = h
canonical_wake_all rank cs ls rs (t ∷ ts) h =
    canonical_wake_all rank (pull_out cs rs t).conds (resume rank ls (pull_out cs rs t).rows t (mutex_with cs t)).locks (resume rank ls (pull_out cs rs t).rows t (mutex_with cs t)).rows ts
    (canonical_resume rank ls (pull_out cs rs t).rows t (mutex_with cs t) (canonical_pull_out cs rs t h))

pub canonical_free_row : (rank : Tid → ℕ) (rs : Rows) (r : RowId) → IsCanonical rs.seats → IsCanonical (free_row rank rs r).rows.seats
canonical_free_row rank rs r h = canonical_make_all_ready rank rs (best_first rs r) h

pub canonical_enter : (os : Onces) (rs : Rows) (o : NameId) (t : Tid) (rank : ℕ) → IsCanonical rs.seats → IsCanonical (enter os rs o t rank).rows.seats
canonical_enter os rs o t rank h = canonical_block_if (is_blocks (enter os rs o t rank).reply) rs (row.Once o) t rank h

pub canonical_undone : (os : Onces) (rs : Rows) (o : NameId) → IsCanonical rs.seats → IsCanonical (undone os rs o).rows.seats
canonical_undone os rs o h = canonical_take_out_if rs (best rs (row.Once o)) h

pub canonical_read : (ps : Pipes) (rs : Rows) (p : NameId) (t : Tid) (rank : ℕ) → IsCanonical rs.seats → IsCanonical (read ps rs p t rank).rows.seats
canonical_read ps rs p t rank h =
    canonical_take_out_if (block_if (is_blocks (read ps rs p t rank).reply) rs (row.Reader p) t rank) (read ps rs p t rank).relieved (canonical_block_if (is_blocks (read ps rs p t rank).reply) rs (row.Reader p) t rank h)

pub canonical_write : (ps : Pipes) (rs : Rows) (p : NameId) (v : ℤ) (t : Tid) (rank : ℕ) → IsCanonical rs.seats → IsCanonical (write ps rs p v t rank).rows.seats
canonical_write ps rs p v t rank h =
    canonical_block_if (is_blocks (write ps rs p v t rank).reply) (take_out_if rs (write ps rs p v t rank).reader) (row.Writer p) t rank (canonical_take_out_if rs (write ps rs p v t rank).reader h)

canonical_free_if : (frees : Bool) (rank : Tid → ℕ) (rs : Rows) (r : RowId) → IsCanonical rs.seats → IsCanonical (free_if frees rank rs r).rows.seats
canonical_free_if true rank rs r h = canonical_free_row rank rs r h
canonical_free_if false rank rs r h = h

pub canonical_close_out : (rank : Tid → ℕ) (ps : Pipes) (rs : Rows) (p : NameId) → IsCanonical rs.seats → IsCanonical (close_out rank ps rs p).rows.seats
canonical_close_out rank ps rs p h =
    let opened : Bool = (pipe_at ps p).is_open in
    canonical_free_if opened rank (free_if opened rank rs (row.Reader p)).rows (row.Writer p) (canonical_free_if opened rank rs (row.Reader p) h)

pub canonical_cancel_wait : (rank : Tid → ℕ) (cs : Conds) (ps : Pipes) (ls : Locks) (rs : Rows) (t : Tid) → IsCanonical rs.seats → IsCanonical (cancel_wait rank cs ps ls rs t).rows.seats
canonical_cancel_wait rank cs ps ls rs t h = canonical_resume rank ls (take_out rs t).rows t (mutex_with cs t) (canonical_take_out rs t h)
