-- What seats and the next arrival keep whatever becomes of threads: a fact about both that stays where a thread comes into a
-- row, where it goes, and where its rank or its slice changes.
use Rattle.std.proofs.Common.{◌≡◌, ℕ, ℤ, Bool, true, false, ◌+◌, List, [], ◌∷◌, Option, Some, None, refl}
use Rattle.std.specs.Prelude.{if◌then◌else◌}
use Rattle.std.specs.Option.{is_some, option_map}
use Rattle.thr_values.specs.declared.number.Tid.{Tid}
use Rattle.thr_values.specs.declared.number.NameId.{NameId}
use Rattle.thr_values.specs.declared.reply.Reply.{Reply}
use Rattle.thr_parts.specs.declared.row.RowId.{RowId}
use Rattle.thr_parts.specs.declared.row.RowId.TheVariants as row
use Rattle.thr_parts.specs.declared.row.Place.TheVariants.{Runs, Stands}
use Rattle.thr_parts.specs.declared.row.Seat.{Seat}
use Rattle.thr_parts.specs.Tables.{Table, get, put, put_if, cut, cut_if}
use Rattle.thr_parts.specs.Replies.{is_blocks}
use Rattle.thr_parts.specs.Rows.{Rows, seat_of, is_in_row, is_running, best, best_first}
use Rattle.thr_parts.specs.Moves.{as_ranked, put_in_row, take_out, take_out_if, leave, block_in, block_if, set_rank, make_ready, make_all_ready, free_row}
use Rattle.thr_parts.specs.Dispatch.{whole_slice, next_for, with_processor, dispatch, a_turn_later, gives_way, does_give_way, as_kept, keeps}
use Rattle.thr_parts.specs.Mutexes.{Locks, mutex_at, waiters_row}
use Rattle.thr_parts.specs.Locking.{lock, lock_reply, unlock, regain}
use Rattle.thr_parts.specs.Conditions.{Conds, wait_of, wait, timedwait, begin_wait, delay, delay_reply}
use Rattle.thr_parts.specs.Waking.{pull_out, some_if, resume, mutex_with, wake_all, signal}
use Rattle.thr_parts.specs.Keys.{Onces}
use Rattle.thr_parts.specs.OnceBlocks.{enter, undone}
use Rattle.thr_parts.specs.Pipes.{Pipes, pipe_at, read, write}
use Rattle.thr_parts.specs.Closing.{free_if, close_out}
use Rattle.thr_parts.specs.CancelledWaits.{cancel_wait}
use Rattle.thr_parts.proofs.KeptLaws.{IsKept}

-- The fact about the next arrival and the seats, of these rows.
abbrev pub Holds : (ℕ → Table Seat → Type 0) → Rows → Type 0
Holds R rs = R rs.next_arrival rs.seats

-- The fact stays where a thread takes this processor.
abbrev pub Takes : (ℕ → Table Seat → Type 0) → ℕ → Type 0
Takes R p = (n : ℕ) (m : Table Seat) (t rank : ℕ) → R n m → R n (put m t (record { rank = rank; place = Runs p whole_slice }))

-- The fact stays where a thread comes into a row with the next arrival, goes, gets another rank, or has had a turn.
pub record IsKeptWithArrivals (R : ℕ → Table Seat → Type 0) : Type 0 where
  pub stands : (n : ℕ) (m : Table Seat) (t rank : ℕ) (r : RowId) → R n m → R (n + 1) (put m t (record { rank = rank; place = Stands r n }))
  pub goes : (n : ℕ) (m : Table Seat) (t : ℕ) → R n m → R n (cut m t)
  pub ranked : (n : ℕ) (m : Table Seat) (t rank : ℕ) (s : Seat) → get m t ≡ Some s → R n m → R n (put m t (as_ranked rank s))
  pub later : (n : ℕ) (m : Table Seat) (t : ℕ) (fifo : Bool) (s : Seat) → get m t ≡ Some s → R n m → R n (put m t (record { rank = s.rank; place = a_turn_later fifo s.place }))

-- A fact about the seats alone that stays is such a fact.
pub with_arrivals : (R : Table Seat → Type 0) → IsKept R → IsKeptWithArrivals (λ n m. R m)
with_arrivals R k = record {
  stands = λ n m t rank r h. k.stands m t rank n r h;
  goes = λ n m t h. k.goes m t h;
  ranked = λ n m t rank s e h. k.ranked m t rank s e h;
  later = λ n m t fifo s e h. k.later m t fifo s e h;
}

module _ (R : ℕ → Table Seat → Type 0) (k : IsKeptWithArrivals R) where
  kept_cut_if : (n : ℕ) (b : Bool) (m : Table Seat) (t : ℕ) → R n m → R n (cut_if b m t)
  kept_cut_if n true m t h = k.goes n m t h
  kept_cut_if n false m t h = h

  pub kept_put_in_row : (rs : Rows) (r : RowId) (t : Tid) (rank : ℕ) → Holds R rs → Holds R (put_in_row rs r t rank)
  kept_put_in_row rs r t rank h = k.stands rs.next_arrival rs.seats t.0 rank r h

  pub kept_take_out : (rs : Rows) (t : Tid) → Holds R rs → Holds R (take_out rs t).rows
  kept_take_out rs t h = kept_cut_if rs.next_arrival (is_in_row (seat_of rs t)) rs.seats t.0 h

  pub kept_take_out_if : (rs : Rows) (o : Option Tid) → Holds R rs → Holds R (take_out_if rs o)
  kept_take_out_if rs None h = h
  kept_take_out_if rs (Some t) h = kept_take_out rs t h

  pub kept_leave : (rs : Rows) (t : Tid) → Holds R rs → Holds R (leave rs t)
  kept_leave rs t h = kept_cut_if rs.next_arrival (is_running (seat_of rs t)) rs.seats t.0 h

  pub kept_block_in : (rs : Rows) (r : RowId) (t : Tid) (rank : ℕ) → Holds R rs → Holds R (block_in rs r t rank)
  kept_block_in rs r t rank h = kept_put_in_row (leave rs t) r t rank (kept_leave rs t h)

  pub kept_block_if : (waits : Bool) (rs : Rows) (r : RowId) (t : Tid) (rank : ℕ) → Holds R rs → Holds R (block_if waits rs r t rank)
  kept_block_if true rs r t rank h = kept_block_in rs r t rank h
  kept_block_if false rs r t rank h = h

  ranked_by : (n : ℕ) (m : Table Seat) (t rank : ℕ) (o : Option Seat) → get m t ≡ o → R n m → R n (put_if m t (option_map (as_ranked rank) o))
  ranked_by n m t rank None e h = h
  ranked_by n m t rank (Some s) e h = k.ranked n m t rank s e h

  pub kept_set_rank : (rs : Rows) (t : Tid) (rank : ℕ) → Holds R rs → Holds R (set_rank rs t rank)
  kept_set_rank rs t rank h = ranked_by rs.next_arrival rs.seats t.0 rank (seat_of rs t) refl h

  later_by : (rs : Rows) (t : ℕ) (fifo : Bool) (s : Seat) (gives : Bool) → get rs.seats t ≡ Some s → Holds R rs
      → R (if gives then rs.next_arrival + 1 else rs.next_arrival) (put rs.seats t (record { rank = s.rank; place = if gives then Stands row.Ready rs.next_arrival else a_turn_later fifo s.place }))
  later_by rs t fifo s true e h = k.stands rs.next_arrival rs.seats t s.rank row.Ready h
  later_by rs t fifo s false e h = k.later rs.next_arrival rs.seats t fifo s e h

  later_at : (rs : Rows) (t : ℕ) (fifo : Bool) (o : Option Seat) → get rs.seats t ≡ o → Holds R rs
      → R (if does_give_way rs fifo o then rs.next_arrival + 1 else rs.next_arrival) (put_if rs.seats t (option_map (as_kept rs fifo) o))
  later_at rs t fifo None e h = h
  later_at rs t fifo (Some s) e h = later_by rs t fifo s (gives_way rs fifo s.rank s.place) e h

  pub kept_keeps : (rs : Rows) (t : Tid) (fifo : Bool) → Holds R rs → Holds R (keeps rs t fifo).rows
  kept_keeps rs t fifo h = later_at rs t.0 fifo (seat_of rs t) refl h

  pub kept_make_all_ready : (rank : Tid → ℕ) (rs : Rows) (ts : List Tid) → Holds R rs → Holds R (make_all_ready rank rs ts)
  unfolding make_all_ready
  kept_make_all_ready rank rs [] h = h
  kept_make_all_ready rank rs (t ∷ ts) h =
      kept_make_all_ready rank (make_ready rank (take_out rs t).rows t) ts (kept_put_in_row (take_out rs t).rows row.Ready t (rank t) (kept_take_out rs t h))

  pub kept_free_row : (rank : Tid → ℕ) (rs : Rows) (r : RowId) → Holds R rs → Holds R (free_row rank rs r).rows
  kept_free_row rank rs r h = kept_make_all_ready rank rs (best_first rs r) h

  -- ---- calls

  pub kept_lock : (ls : Locks) (rs : Rows) (m : Option NameId) (t : Tid) (rank : ℕ) → Holds R rs → Holds R (lock ls rs m t rank).rows
  kept_lock ls rs m t rank h = kept_block_if (is_blocks (lock_reply (mutex_at ls m) t)) rs (waiters_row m) t rank h

  pub kept_unlock : (ls : Locks) (rs : Rows) (m : Option NameId) (t : Tid) → Holds R rs → Holds R (unlock ls rs m t).rows
  kept_unlock ls rs m t h = kept_take_out_if rs (unlock ls rs m t).given h

  pub kept_regain : (ls : Locks) (rs : Rows) (m : NameId) (t : Tid) (rank : ℕ) → Holds R rs → Holds R (regain ls rs m t rank).rows
  kept_regain ls rs m t rank h = kept_put_in_row rs _ t rank h

  kept_begin : (cs : Conds) (ls : Locks) (rs : Rows) (c m : NameId) (until : Option ℤ) (t : Tid) (rank : ℕ) (said : Reply) → Holds R rs
      → Holds R (begin_wait cs ls rs c m until t rank said).rows
  kept_begin cs ls rs c m until t rank said h =
      kept_take_out_if (block_if (is_blocks said) rs (row.Cond c) t rank) (begin_wait cs ls rs c m until t rank said).given (kept_block_if (is_blocks said) rs (row.Cond c) t rank h)

  pub kept_wait : (cs : Conds) (ls : Locks) (rs : Rows) (c m : NameId) (t : Tid) (rank : ℕ) → Holds R rs → Holds R (wait cs ls rs c m t rank).rows
  kept_wait cs ls rs c m t rank h = kept_begin cs ls rs c m None t rank _ h

  pub kept_timedwait : (cs : Conds) (ls : Locks) (rs : Rows) (c m : NameId) (until now : ℤ) (t : Tid) (rank : ℕ) → Holds R rs
      → Holds R (timedwait cs ls rs c m until now t rank).rows
  kept_timedwait cs ls rs c m until now t rank h = kept_begin cs ls rs c m (Some until) t rank _ h

  pub kept_delay : (cs : Conds) (rs : Rows) (ticks now : ℤ) (t : Tid) (rank : ℕ) → Holds R rs → Holds R (delay cs rs ticks now t rank).rows
  kept_delay cs rs ticks now t rank h = kept_block_if (is_blocks (delay_reply ticks now)) rs row.Time t rank h

  pub kept_pull_out : (cs : Conds) (rs : Rows) (t : Tid) → Holds R rs → Holds R (pull_out cs rs t).rows
  kept_pull_out cs rs t h = kept_take_out_if rs (some_if (is_some (wait_of cs t)) t) h

  pub kept_signal : (cs : Conds) (rs : Rows) (c : NameId) → Holds R rs → Holds R (signal cs rs c).rows
  kept_signal cs rs c h = kept_take_out_if rs _ h

  pub kept_resume : (rank : Tid → ℕ) (ls : Locks) (rs : Rows) (t : Tid) (m : Option NameId) → Holds R rs → Holds R (resume rank ls rs t m).rows
  kept_resume rank ls rs t None h = kept_put_in_row rs row.Ready t (rank t) h
  kept_resume rank ls rs t (Some m) h = kept_regain ls rs m t (rank t) h

  pub kept_wake_all : (rank : Tid → ℕ) (cs : Conds) (ls : Locks) (rs : Rows) (ts : List Tid) → Holds R rs → Holds R (wake_all rank cs ls rs ts).rows
  unfolding wake_all
  kept_wake_all rank cs ls rs [] h = h
  kept_wake_all rank cs ls rs (t ∷ ts) h =
      kept_wake_all rank (pull_out cs rs t).conds (resume rank ls (pull_out cs rs t).rows t (mutex_with cs t)).locks (resume rank ls (pull_out cs rs t).rows t (mutex_with cs t)).rows ts
      (kept_resume rank ls (pull_out cs rs t).rows t (mutex_with cs t) (kept_pull_out cs rs t h))

  pub kept_enter : (os : Onces) (rs : Rows) (o : NameId) (t : Tid) (rank : ℕ) → Holds R rs → Holds R (enter os rs o t rank).rows
  kept_enter os rs o t rank h = kept_block_if (is_blocks (enter os rs o t rank).reply) rs (row.Once o) t rank h

  pub kept_undone : (os : Onces) (rs : Rows) (o : NameId) → Holds R rs → Holds R (undone os rs o).rows
  kept_undone os rs o h = kept_take_out_if rs (best rs (row.Once o)) h

  pub kept_read : (ps : Pipes) (rs : Rows) (p : NameId) (t : Tid) (rank : ℕ) → Holds R rs → Holds R (read ps rs p t rank).rows
  kept_read ps rs p t rank h =
      kept_take_out_if (block_if (is_blocks (read ps rs p t rank).reply) rs (row.Reader p) t rank) (read ps rs p t rank).relieved (kept_block_if (is_blocks (read ps rs p t rank).reply) rs (row.Reader p) t rank h)

  pub kept_write : (ps : Pipes) (rs : Rows) (p : NameId) (v : ℤ) (t : Tid) (rank : ℕ) → Holds R rs → Holds R (write ps rs p v t rank).rows
  kept_write ps rs p v t rank h =
      kept_block_if (is_blocks (write ps rs p v t rank).reply) (take_out_if rs (write ps rs p v t rank).reader) (row.Writer p) t rank (kept_take_out_if rs (write ps rs p v t rank).reader h)

  kept_free_if : (frees : Bool) (rank : Tid → ℕ) (rs : Rows) (r : RowId) → Holds R rs → Holds R (free_if frees rank rs r).rows
  kept_free_if true rank rs r h = kept_free_row rank rs r h
  kept_free_if false rank rs r h = h

  pub kept_close_out : (rank : Tid → ℕ) (ps : Pipes) (rs : Rows) (p : NameId) → Holds R rs → Holds R (close_out rank ps rs p).rows
  kept_close_out rank ps rs p h =
      let opened : Bool = (pipe_at ps p).is_open in
      kept_free_if opened rank (free_if opened rank rs (row.Reader p)).rows (row.Writer p) (kept_free_if opened rank rs (row.Reader p) h)

  pub kept_cancel_wait : (rank : Tid → ℕ) (cs : Conds) (ps : Pipes) (ls : Locks) (rs : Rows) (t : Tid) → Holds R rs → Holds R (cancel_wait rank cs ps ls rs t).rows
  kept_cancel_wait rank cs ps ls rs t h = kept_resume rank ls (take_out rs t).rows t (mutex_with cs t) (kept_take_out rs t h)

  -- ---- processors

  processor_by : (p : ℕ) → Takes R p → (o : Option (ℕ × Seat)) (n : ℕ) (m : Table Seat) → R n m → R n (with_processor o m p)
  processor_by p runs None n m h = h
  processor_by p runs (Some e) n m h = runs n m e.0 e.1.rank h

  pub kept_dispatch : (p : ℕ) → Takes R p → (rs : Rows) → Holds R rs → Holds R (dispatch rs p).rows
  kept_dispatch p runs rs h = processor_by p runs (next_for rs p) rs.next_arrival rs.seats h
