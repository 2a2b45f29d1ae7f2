-- What the seats keep whatever becomes of threads: a fact about a table of seats that stays where a thread comes into a row,
-- where it goes, and where its rank or its slice changes.
use Rattle.std.proofs.Common.{◌≡◌, ℕ, ℤ, Bool, true, false, nat_lt, List, [], ◌∷◌, Option, Some, None, refl, arith}
use Rattle.std.proofs.lemmas.Bool.Decides.{nat_tests}
use Rattle.std.specs.Prelude.{if◌then◌else◌}
use Rattle.std.specs.Option.{is_some, option_map}
use Rattle.thr_values.specs.declared.number.Tid.{Tid}
use Rattle.thr_values.specs.declared.number.NameId.{NameId}
use Rattle.thr_values.specs.declared.reply.Reply.{Reply}
use Rattle.thr_parts.specs.declared.row.RowId.{RowId}
use Rattle.thr_parts.specs.declared.row.RowId.TheVariants as row
use Rattle.thr_parts.specs.declared.row.Place.{Place}
use Rattle.thr_parts.specs.declared.row.Place.TheVariants.{Runs, Stands}
use Rattle.thr_parts.specs.declared.row.Seat.{Seat}
use Rattle.thr_parts.specs.Tables.{Table, get, put, put_if, cut, cut_if, IsCanonical}
use Rattle.thr_parts.specs.Replies.{is_blocks}
use Rattle.thr_parts.specs.Rows.{Rows, seat_of, is_in_row, is_running, best, best_first}
use Rattle.thr_parts.specs.Moves.{as_ranked, put_in_row, take_out, take_out_if, leave, block_in, block_if, set_rank, make_ready, make_all_ready, free_row}
use Rattle.thr_parts.specs.Dispatch.{whole_slice, runs_on, running, next_for, with_processor, dispatch, a_turn_later, gives_way, as_kept, keeps}
use Rattle.thr_parts.specs.Mutexes.{Locks, mutex_at, waiters_row}
use Rattle.thr_parts.specs.Locking.{lock, lock_reply, unlock, regain}
use Rattle.thr_parts.specs.Conditions.{Conds, wait_of, wait, timedwait, begin_wait, delay, delay_reply}
use Rattle.thr_parts.specs.Waking.{pull_out, some_if, resume, mutex_with, wake_all, signal}
use Rattle.thr_parts.specs.Keys.{Onces}
use Rattle.thr_parts.specs.OnceBlocks.{enter, undone}
use Rattle.thr_parts.specs.Pipes.{Pipes, pipe_at, read, write}
use Rattle.thr_parts.specs.Closing.{free_if, close_out}
use Rattle.thr_parts.specs.CancelledWaits.{cancel_wait}
use Rattle.thr_parts.proofs.TableLaws.{canonical_put, canonical_cut}
use Rattle.thr_parts.proofs.EachLaws.{Each, each_put, each_cut}
use Rattle.thr_parts.proofs.RunningLaws.{HasProcessor, running_seat}

-- The fact stays where a thread comes into a row, goes, gets another rank, or has had a turn.
pub record IsKept (R : Table Seat → Type 0) : Type 0 where
  pub stands : (m : Table Seat) (t rank arrival : ℕ) (r : RowId) → R m → R (put m t (record { rank = rank; place = Stands r arrival }))
  pub goes : (m : Table Seat) (t : ℕ) → R m → R (cut m t)
  pub ranked : (m : Table Seat) (t rank : ℕ) (s : Seat) → get m t ≡ Some s → R m → R (put m t (as_ranked rank s))
  pub later : (m : Table Seat) (t : ℕ) (fifo : Bool) (s : Seat) → get m t ≡ Some s → R m → R (put m t (record { rank = s.rank; place = a_turn_later fifo s.place }))

module _ (R : Table Seat → Type 0) (k : IsKept R) where
  kept_cut_if : (b : Bool) (m : Table Seat) (t : ℕ) → R m → R (cut_if b m t)
  kept_cut_if true m t h = k.goes m t h
  kept_cut_if false m t h = h

  pub kept_put_in_row : (rs : Rows) (r : RowId) (t : Tid) (rank : ℕ) → R rs.seats → R (put_in_row rs r t rank).seats
  kept_put_in_row rs r t rank h = k.stands rs.seats t.0 rank rs.next_arrival r h

  pub kept_take_out : (rs : Rows) (t : Tid) → R rs.seats → R (take_out rs t).rows.seats
  kept_take_out rs t h = kept_cut_if (is_in_row (seat_of rs t)) rs.seats t.0 h

  pub kept_take_out_if : (rs : Rows) (o : Option Tid) → R rs.seats → R (take_out_if rs o).seats
  kept_take_out_if rs None h = h
  kept_take_out_if rs (Some t) h = kept_take_out rs t h

  pub kept_leave : (rs : Rows) (t : Tid) → R rs.seats → R (leave rs t).seats
  kept_leave rs t h = kept_cut_if (is_running (seat_of rs t)) rs.seats t.0 h

  pub kept_block_in : (rs : Rows) (r : RowId) (t : Tid) (rank : ℕ) → R rs.seats → R (block_in rs r t rank).seats
  kept_block_in rs r t rank h = kept_put_in_row (leave rs t) r t rank (kept_leave rs t h)

  pub kept_block_if : (waits : Bool) (rs : Rows) (r : RowId) (t : Tid) (rank : ℕ) → R rs.seats → R (block_if waits rs r t rank).seats
  kept_block_if true rs r t rank h = kept_block_in rs r t rank h
  kept_block_if false rs r t rank h = h

  ranked_by : (m : Table Seat) (t rank : ℕ) (o : Option Seat) → get m t ≡ o → R m → R (put_if m t (option_map (as_ranked rank) o))
  ranked_by m t rank None e h = h
  ranked_by m t rank (Some s) e h = k.ranked m t rank s e h

  pub kept_set_rank : (rs : Rows) (t : Tid) (rank : ℕ) → R rs.seats → R (set_rank rs t rank).seats
  kept_set_rank rs t rank h = ranked_by rs.seats t.0 rank (seat_of rs t) refl h

  later_by : (rs : Rows) (t : ℕ) (fifo : Bool) (s : Seat) (gives : Bool) → get rs.seats t ≡ Some s → R rs.seats
      → R (put rs.seats t (record { rank = s.rank; place = if gives then Stands row.Ready rs.next_arrival else a_turn_later fifo s.place }))
  later_by rs t fifo s true e h = k.stands rs.seats t s.rank rs.next_arrival row.Ready h
  later_by rs t fifo s false e h = k.later rs.seats t fifo s e h

  later_at : (rs : Rows) (t : ℕ) (fifo : Bool) (o : Option Seat) → get rs.seats t ≡ o → R rs.seats → R (put_if rs.seats t (option_map (as_kept rs fifo) o))
  later_at rs t fifo None e h = h
  later_at rs t fifo (Some s) e h = later_by rs t fifo s (gives_way rs fifo s.rank s.place) e h

  pub kept_keeps : (rs : Rows) (t : Tid) (fifo : Bool) → R rs.seats → R (keeps rs t fifo).rows.seats
  kept_keeps rs t fifo h = later_at rs t.0 fifo (seat_of rs t) refl h

  pub kept_make_all_ready : (rank : Tid → ℕ) (rs : Rows) (ts : List Tid) → R rs.seats → R (make_all_ready rank rs ts).seats
  unfolding make_all_ready
  kept_make_all_ready rank rs [] h = h
  kept_make_all_ready rank rs (t ∷ ts) h =
      kept_make_all_ready rank (make_ready rank (take_out rs t).rows t) ts (kept_put_in_row (take_out rs t).rows row.Ready t (rank t) (kept_take_out rs t h))

  pub kept_free_row : (rank : Tid → ℕ) (rs : Rows) (r : RowId) → R rs.seats → R (free_row rank rs r).rows.seats
  kept_free_row rank rs r h = kept_make_all_ready rank rs (best_first rs r) h

  -- ---- calls

  pub kept_lock : (ls : Locks) (rs : Rows) (m : Option NameId) (t : Tid) (rank : ℕ) → R rs.seats → R (lock ls rs m t rank).rows.seats
  kept_lock ls rs m t rank h = kept_block_if (is_blocks (lock_reply (mutex_at ls m) t)) rs (waiters_row m) t rank h

  pub kept_unlock : (ls : Locks) (rs : Rows) (m : Option NameId) (t : Tid) → R rs.seats → R (unlock ls rs m t).rows.seats
  kept_unlock ls rs m t h = kept_take_out_if rs (unlock ls rs m t).given h

  pub kept_regain : (ls : Locks) (rs : Rows) (m : NameId) (t : Tid) (rank : ℕ) → R rs.seats → R (regain ls rs m t rank).rows.seats
  kept_regain ls rs m t rank h = kept_put_in_row rs _ t rank h

  kept_begin : (cs : Conds) (ls : Locks) (rs : Rows) (c m : NameId) (until : Option ℤ) (t : Tid) (rank : ℕ) (said : Reply) → R rs.seats
      → R (begin_wait cs ls rs c m until t rank said).rows.seats
  kept_begin cs ls rs c m until t rank said h =
      kept_take_out_if (block_if (is_blocks said) rs (row.Cond c) t rank) (begin_wait cs ls rs c m until t rank said).given (kept_block_if (is_blocks said) rs (row.Cond c) t rank h)

  pub kept_wait : (cs : Conds) (ls : Locks) (rs : Rows) (c m : NameId) (t : Tid) (rank : ℕ) → R rs.seats → R (wait cs ls rs c m t rank).rows.seats
  kept_wait cs ls rs c m t rank h = kept_begin cs ls rs c m None t rank _ h

  pub kept_timedwait : (cs : Conds) (ls : Locks) (rs : Rows) (c m : NameId) (until now : ℤ) (t : Tid) (rank : ℕ) → R rs.seats
      → R (timedwait cs ls rs c m until now t rank).rows.seats
  kept_timedwait cs ls rs c m until now t rank h = kept_begin cs ls rs c m (Some until) t rank _ h

  pub kept_delay : (cs : Conds) (rs : Rows) (ticks now : ℤ) (t : Tid) (rank : ℕ) → R rs.seats → R (delay cs rs ticks now t rank).rows.seats
  kept_delay cs rs ticks now t rank h = kept_block_if (is_blocks (delay_reply ticks now)) rs row.Time t rank h

  pub kept_pull_out : (cs : Conds) (rs : Rows) (t : Tid) → R rs.seats → R (pull_out cs rs t).rows.seats
  kept_pull_out cs rs t h = kept_take_out_if rs (some_if (is_some (wait_of cs t)) t) h

  pub kept_signal : (cs : Conds) (rs : Rows) (c : NameId) → R rs.seats → R (signal cs rs c).rows.seats
  kept_signal cs rs c h = kept_take_out_if rs _ h

  pub kept_resume : (rank : Tid → ℕ) (ls : Locks) (rs : Rows) (t : Tid) (m : Option NameId) → R rs.seats → R (resume rank ls rs t m).rows.seats
  kept_resume rank ls rs t None h = kept_put_in_row rs row.Ready t (rank t) h
  kept_resume rank ls rs t (Some m) h = kept_regain ls rs m t (rank t) h

  pub kept_wake_all : (rank : Tid → ℕ) (cs : Conds) (ls : Locks) (rs : Rows) (ts : List Tid) → R rs.seats → R (wake_all rank cs ls rs ts).rows.seats
  unfolding wake_all
  kept_wake_all rank cs ls rs [] h = h
  kept_wake_all rank cs ls rs (t ∷ ts) h =
      kept_wake_all rank (pull_out cs rs t).conds (resume rank ls (pull_out cs rs t).rows t (mutex_with cs t)).locks (resume rank ls (pull_out cs rs t).rows t (mutex_with cs t)).rows ts
      (kept_resume rank ls (pull_out cs rs t).rows t (mutex_with cs t) (kept_pull_out cs rs t h))

  pub kept_enter : (os : Onces) (rs : Rows) (o : NameId) (t : Tid) (rank : ℕ) → R rs.seats → R (enter os rs o t rank).rows.seats
  kept_enter os rs o t rank h = kept_block_if (is_blocks (enter os rs o t rank).reply) rs (row.Once o) t rank h

  pub kept_undone : (os : Onces) (rs : Rows) (o : NameId) → R rs.seats → R (undone os rs o).rows.seats
  kept_undone os rs o h = kept_take_out_if rs (best rs (row.Once o)) h

  pub kept_read : (ps : Pipes) (rs : Rows) (p : NameId) (t : Tid) (rank : ℕ) → R rs.seats → R (read ps rs p t rank).rows.seats
  kept_read ps rs p t rank h =
      kept_take_out_if (block_if (is_blocks (read ps rs p t rank).reply) rs (row.Reader p) t rank) (read ps rs p t rank).relieved (kept_block_if (is_blocks (read ps rs p t rank).reply) rs (row.Reader p) t rank h)

  pub kept_write : (ps : Pipes) (rs : Rows) (p : NameId) (v : ℤ) (t : Tid) (rank : ℕ) → R rs.seats → R (write ps rs p v t rank).rows.seats
  kept_write ps rs p v t rank h =
      kept_block_if (is_blocks (write ps rs p v t rank).reply) (take_out_if rs (write ps rs p v t rank).reader) (row.Writer p) t rank (kept_take_out_if rs (write ps rs p v t rank).reader h)

  kept_free_if : (frees : Bool) (rank : Tid → ℕ) (rs : Rows) (r : RowId) → R rs.seats → R (free_if frees rank rs r).rows.seats
  kept_free_if true rank rs r h = kept_free_row rank rs r h
  kept_free_if false rank rs r h = h

  pub kept_close_out : (rank : Tid → ℕ) (ps : Pipes) (rs : Rows) (p : NameId) → R rs.seats → R (close_out rank ps rs p).rows.seats
  kept_close_out rank ps rs p h =
      let opened : Bool = (pipe_at ps p).is_open in
      kept_free_if opened rank (free_if opened rank rs (row.Reader p)).rows (row.Writer p) (kept_free_if opened rank rs (row.Reader p) h)

  pub kept_cancel_wait : (rank : Tid → ℕ) (cs : Conds) (ps : Pipes) (ls : Locks) (rs : Rows) (t : Tid) → R rs.seats → R (cancel_wait rank cs ps ls rs t).rows.seats
  kept_cancel_wait rank cs ps ls rs t h = kept_resume rank ls (take_out rs t).rows t (mutex_with cs t) (kept_take_out rs t h)

  -- ---- processors

  processor_by : (p : ℕ) → ((m : Table Seat) (t rank : ℕ) → R m → R (put m t (record { rank = rank; place = Runs p whole_slice }))) → (o : Option (ℕ × Seat)) (m : Table Seat) → R m
      → R (with_processor o m p)
  processor_by p runs None m h = h
  processor_by p runs (Some e) m h = runs m e.0 e.1.rank h

  pub kept_dispatch : (p : ℕ) → ((m : Table Seat) (t rank : ℕ) → R m → R (put m t (record { rank = rank; place = Runs p whole_slice }))) → (rs : Rows) → R rs.seats
      → R (dispatch rs p).rows.seats
  kept_dispatch p runs rs h = processor_by p runs (next_for rs p) rs.seats h

-- ---- the numbers of seats rise

pub canonical_is_kept : IsKept (IsCanonical {A = Seat})
canonical_is_kept = record {
  stands = λ m t rank arrival r h. canonical_put m t _ h;
  goes = λ m t h. canonical_cut m t h;
  ranked = λ m t rank s e h. canonical_put m t _ h;
  later = λ m t fifo s e h. canonical_put m t _ h;
}

-- ---- the processors that run threads are below a number

-- The place is on no processor, or on one below this number.
abbrev pub IsBelow : ℕ → Place → Type 0
IsBelow n (Runs p slice) = nat_lt p n ≡ true
IsBelow n (Stands r arrival) = Unit {0}

-- The seat's place is.
abbrev pub IsSeatBelow : ℕ → Seat → Type 0
IsSeatBelow n s = IsBelow n s.place

-- So are the places of all seats.
abbrev pub AreBelow : ℕ → Table Seat → Type 0
AreBelow n = Each (IsSeatBelow n)

below_later : (n : ℕ) (fifo : Bool) (l : Place) → IsBelow n l → IsBelow n (a_turn_later fifo l)
below_later n fifo (Runs p slice) h = h
below_later n fifo (Stands r arrival) h = h

pub below_is_kept : (n : ℕ) → IsKept (AreBelow n)
below_is_kept n = record {
  stands = λ m t rank arrival r h. each_put (IsSeatBelow n) m t _ tt h;
  goes = λ m t h. each_cut (IsSeatBelow n) m t h;
  ranked = λ m t rank s e h. each_put (IsSeatBelow n) m t _ (h t s e) h;
  later = λ m t fifo s e h. each_put (IsSeatBelow n) m t _ (below_later n fifo s.place (h t s e)) h;
}

below_at : (n p : ℕ) (l : Place) → runs_on p l ≡ true → IsBelow n l → nat_lt p n ≡ true
below_at n p (Runs q slice) e h = grind (arith, nat_tests)
below_at n p (Stands r arrival) e h = absurd (cc)

-- So is each processor that has a thread.
pub running_below : (n : ℕ) (rs : Rows) (p : ℕ) (t : Tid) → IsCanonical rs.seats → AreBelow n rs.seats → running rs p ≡ Some t → nat_lt p n ≡ true
running_below n rs p t c h e =
    let x : (s : Seat) × HasProcessor rs p t.0 s = running_seat rs p t c e in below_at n p x.0.place x.1.runs (h t.0 x.0 x.1.at)
