-- A thread that leaves its row or its processor stands in no row, and there is room for one more.
use Rattle.std.proofs.Common.{◌≡◌, ℕ, ℤ, ◌+◌, ◌<◌, ◌≤◌, Bool, true, false, not, ◌||◌, ◌&&◌, cond, ltb, List, [], ◌∷◌, length, set, Option, Some, None, refl, sym, arith, ◌∙◌, ap, subst}
use Rattle.std.proofs.lemmas.Bool.Decides.{nat_tests}
use Rattle.std.proofs.lemmas.List.{length-set}
use Rattle.std.proofs.lemmas.List.Edits.{length-remove, length-insert}
use Rattle.std.specs.List.{remove, insert}
use Rattle.std.specs.Option.{option_map, option_and_then, is_some}
use Rattle.thr_values.specs.declared.number.Tid.{Tid}
use Rattle.thr_values.specs.declared.number.NameId.{NameId}
use Rattle.thr_values.specs.declared.reply.Reply.{Reply}
use Rattle.thr_values.specs.declared.reply.Reply.TheVariants as reply
use Rattle.thr_parts.specs.declared.row.RowId.{RowId}
use Rattle.thr_parts.specs.declared.row.RowId.TheVariants as row
use Rattle.thr_parts.specs.declared.row.Seat.{Seat}
use Rattle.thr_parts.specs.Tables.{Table, get, has, put, cut, cut_if, keep_if, IsCanonical}
use Rattle.thr_parts.specs.Replies.{is_done, is_blocks, is_value}
use Rattle.thr_parts.specs.Rows.{Rows, seat_of, row_in, row_at, row_of, is_in_row, is_running, most, best}
use Rattle.thr_parts.specs.Moves.{take_out, take_out_if, leave, block_in, block_if}
use Rattle.thr_parts.specs.Mutexes.{Locks, mutex_at, waiters_row, owner}
use Rattle.thr_parts.specs.Locking.{is_last, unlock, unlock_reply}
use Rattle.thr_parts.specs.Conditions.{Conds, wait, timedwait, begin_wait}
use Rattle.thr_parts.specs.Waking.{mutex_with, beside_mutex, thread_in, next_waiter, take_next, signal}
use Rattle.thr_parts.specs.Keys.{Onces}
use Rattle.thr_parts.specs.OnceBlocks.{undone}
use Rattle.thr_parts.specs.Pipes.{Pipe, Pipes, pipe_at, read_reply, read, write_reply, write}
use Rattle.thr_parts.specs.Closing.{is_pipe_row, pull_out}
use Rattle.thr_parts.proofs.TableLaws.{has_get}
use Rattle.thr_parts.proofs.MoveLaws.{canonical_block_if}
use Rattle.thr_parts.proofs.RowLaws.{best_stands}
use Rattle.thr_tables.specs.Places.{place, is_there}
use Rattle.thr_tables.proofs.PlaceLaws.{has_is, cut_there, put_there, put_missed, place_of_there, place_within}
use Rattle.thr_rows.specs.Room.{HasRoom, HasRoomToWait}
use Rattle.thr_rows.proofs.AgreementLaws.{from_kept, gone}

-- ---- where it stands

not_in_row : (s : Option Seat) → is_in_row s ≡ false → row_at s ≡ None
not_in_row None e = refl
not_in_row (Some s) e = no_row (row_in s.place) e
  where
    no_row : (o : Option RowId) → is_some o ≡ false → o ≡ None
    no_row None e = refl
    no_row (Some r) e = absurd (cc)

taken_by_row : (rs : Rows) (t : Tid) (b : Bool) → is_in_row (seat_of rs t) ≡ b → row_at (get (cut_if b rs.seats t.0) t.0) ≡ None
taken_by_row rs t true is = ap row_at (gone rs.seats t.0)
taken_by_row rs t false is = not_in_row (seat_of rs t) is

pub in_no_row : (rs : Rows) (t : Tid) → row_of (take_out rs t).rows t ≡ None
in_no_row rs t = taken_by_row rs t (is_in_row (seat_of rs t)) refl

-- ---- room

fewer : (n k l : ℕ) → n + 1 ≡ k → k ≤ l → n < l
fewer n k l e h = omega (arith, e, h)

-- A table without what stood at a number has room for it.
cut_fewer : {A : Type 0} (m : Table A) (t l : ℕ) → IsCanonical m → has m t ≡ true → length m ≤ l → length (cut m t) < l
cut_fewer m t l h is within =
    let there : is_there t m ≡ true = sym (has_is t m h) ∙ is in
    subst (λ n. length n < l) (cut_there m t (place t m) h refl there)
    (fewer (length (remove m (place t m))) (length m) l (length-remove m (place t m) (place_of_there t m there)) within)

in_row_sits : (s : Option Seat) → is_in_row s ≡ true → is_some s ≡ true
in_row_sits None e = absurd (cc)
in_row_sits (Some s) e = refl

running_sits : (s : Option Seat) → is_running s ≡ true → is_some s ≡ true
running_sits None e = absurd (cc)
running_sits (Some s) e = refl

pub room_of_row : (rs : Rows) (t : Tid) → IsCanonical rs.seats → length rs.seats ≤ most → is_in_row (seat_of rs t) ≡ true → HasRoom (take_out rs t).rows
room_of_row rs t h within is =
    subst (λ b. length (cut_if b rs.seats t.0) < most) (sym is) (cut_fewer rs.seats t.0 most h (has_get rs.seats t.0 ∙ in_row_sits (seat_of rs t) is) within)

pub room_of_processor : (rs : Rows) (t : Tid) → IsCanonical rs.seats → length rs.seats ≤ most → is_running (seat_of rs t) ≡ true → HasRoom (leave rs t)
room_of_processor rs t h within is =
    subst (λ b. length (cut_if b rs.seats t.0) < most) (sym is) (cut_fewer rs.seats t.0 most h (has_get rs.seats t.0 ∙ running_sits (seat_of rs t) is) within)

pub room_of_best : (rs : Rows) (r : RowId) (t : Tid) → IsCanonical rs.seats → length rs.seats ≤ most → best rs r ≡ Some t → HasRoom (take_out_if rs (Some t))
room_of_best rs r t h within is = room_of_row rs t h within (ap is_some (best_stands rs r t h is))

-- ---- threads that begin to wait

length_put : {A : Type 0} (m : Table A) (t : ℕ) (v : A) (b : Bool) → is_there t m ≡ b → length (put m t v) ≤ length m + 1
length_put m t v true is =
    subst (λ n. length n ≤ length m + 1) (put_there m t (place t m) v refl is)
    (let same : length (set m (place t m) (t, v)) ≡ length m = length-set m (place t m) (t, v) in omega (arith, same))
length_put m t v false is =
    subst (λ n. length n ≤ length m + 1) (put_missed m t (place t m) v refl is)
    (let more : length (insert m (place t m) (t, v)) ≡ length m + 1 = length-insert m (place t m) (t, v) (place_within t m) in omega (arith, more))

-- A thread that leaves its processor, or for which there is room, leaves room.
left_room : (rs : Rows) (t : Tid) (b : Bool) → is_running (seat_of rs t) ≡ b → (b || ltb (length rs.seats) most) ≡ true → IsCanonical rs.seats → length rs.seats ≤ most → HasRoom (leave rs t)
left_room rs t true is room h within = room_of_processor rs t h within is
left_room rs t false is room h within = subst (λ b. length (cut_if b rs.seats t.0) < most) (sym is) (below (length rs.seats) most room)
  where
    below : (n k : ℕ) → ltb n k ≡ true → n < k
    below n k e = grind (arith, nat_tests)

block_within : (rs : Rows) (r : RowId) (t : Tid) (rank : ℕ) → IsCanonical rs.seats → length rs.seats ≤ most → HasRoomToWait rs t → length (block_in rs r t rank).seats ≤ most
block_within rs r t rank h within room =
    let left : length (leave rs t).seats < most = left_room rs t (is_running (seat_of rs t)) refl room h within in
    let more : length (block_in rs r t rank).seats ≤ length (leave rs t).seats + 1 = length_put (leave rs t).seats t.0 _ (is_there t.0 (leave rs t).seats) refl in
    omega (arith, left, more)

block_if_within : (b : Bool) (rs : Rows) (r : RowId) (t : Tid) (rank : ℕ) → IsCanonical rs.seats → length rs.seats ≤ most → HasRoomToWait rs t → length (block_if b rs r t rank).seats ≤ most
block_if_within true rs r t rank h within room = block_within rs r t rank h within room
block_if_within false rs r t rank h within room = within

-- ---- calls that take a thread out of its row

-- The best of a row, where it is taken.
room_of_kept : (rs : Rows) (r : RowId) (b : Bool) (u : Tid) → IsCanonical rs.seats → length rs.seats ≤ most → keep_if b (best rs r) ≡ Some u → HasRoom (take_out_if rs (keep_if b (best rs r)))
room_of_kept rs r b u h within e = subst (λ o. HasRoom (take_out_if rs o)) (sym e) (room_of_best rs r u h within (from_kept b (best rs r) u e))

pub room_of_unlock : (ls : Locks) (rs : Rows) (m : Option NameId) (t u : Tid) → IsCanonical rs.seats → length rs.seats ≤ most → (unlock ls rs m t).given ≡ Some u → HasRoom (unlock ls rs m t).rows
room_of_unlock ls rs m t u h within e = room_of_kept rs (waiters_row m) (is_done (unlock_reply (mutex_at ls m) t) && is_last (owner ls m)) u h within e

room_of_begun : (cs : Conds) (ls : Locks) (rs : Rows) (c m : NameId) (until : Option ℤ) (t u : Tid) (rank : ℕ) (said : Reply) → IsCanonical rs.seats → length rs.seats ≤ most → HasRoomToWait rs t
    → (begin_wait cs ls rs c m until t rank said).given ≡ Some u → HasRoom (begin_wait cs ls rs c m until t rank said).rows
room_of_begun cs ls rs c m until t u rank said h within room e =
    room_of_kept (block_if (is_blocks said) rs (row.Cond c) t rank) (row.Mutex m) (is_blocks said) u (canonical_block_if (is_blocks said) rs (row.Cond c) t rank h)
    (block_if_within (is_blocks said) rs (row.Cond c) t rank h within room) e

pub room_of_wait : (cs : Conds) (ls : Locks) (rs : Rows) (c m : NameId) (t u : Tid) (rank : ℕ) → IsCanonical rs.seats → length rs.seats ≤ most → HasRoomToWait rs t
    → (wait cs ls rs c m t rank).given ≡ Some u → HasRoom (wait cs ls rs c m t rank).rows
room_of_wait cs ls rs c m t u rank h within room e = room_of_begun cs ls rs c m None t u rank (wait cs ls rs c m t rank).reply h within room e

pub room_of_timedwait : (cs : Conds) (ls : Locks) (rs : Rows) (c m : NameId) (until now : ℤ) (t u : Tid) (rank : ℕ) → IsCanonical rs.seats → length rs.seats ≤ most → HasRoomToWait rs t
    → (timedwait cs ls rs c m until now t rank).given ≡ Some u → HasRoom (timedwait cs ls rs c m until now t rank).rows
room_of_timedwait cs ls rs c m until now t u rank h within room e = room_of_begun cs ls rs c m (Some until) t u rank (timedwait cs ls rs c m until now t rank).reply h within room e

taken_by : (u t : Tid) (m : Option NameId) → thread_in {A = NameId} (option_map (λ (n : NameId). (u, n)) m) ≡ Some t → Some u ≡ Some t
taken_by u t None e = absurd (cc)
taken_by u t (Some n) e = e

-- The waiter that is taken is the best of its row.
pub best_by : (cs : Conds) (t : Tid) (o : Option Tid) → thread_in (option_and_then (beside_mutex cs) o) ≡ Some t → o ≡ Some t
best_by cs t None e = absurd (cc)
best_by cs t (Some u) e = taken_by u t (mutex_with cs u) e

room_of_next : (cs : Conds) (rs : Rows) (c : NameId) (t : Tid) (o : Option Tid) → IsCanonical rs.seats → length rs.seats ≤ most → o ≡ Some t → thread_in (next_waiter cs rs c) ≡ Some t → HasRoom (take_out_if rs o)
room_of_next cs rs c t o h within is e =
    subst (λ x. HasRoom (take_out_if rs x)) (sym is) (room_of_best rs (row.Cond c) t h within (best_by cs t (best rs (row.Cond c)) e))

pub room_of_take_next : (cs : Conds) (rs : Rows) (c : NameId) (t : Tid) (m : NameId) → IsCanonical rs.seats → length rs.seats ≤ most → (take_next cs rs c).waiter ≡ Some (t, m) → HasRoom (take_next cs rs c).rows
room_of_take_next cs rs c t m h within e =
    let who : thread_in (take_next cs rs c).waiter ≡ Some t = ap (λ (o : Option (Tid × NameId)). thread_in o) e in
    room_of_next cs rs c t (thread_in (take_next cs rs c).waiter) h within who who

pub room_of_signal : (cs : Conds) (rs : Rows) (c : NameId) (t : Tid) (m : NameId) → IsCanonical rs.seats → length rs.seats ≤ most → (signal cs rs c).waiter ≡ Some (t, m) → HasRoom (signal cs rs c).rows
room_of_signal cs rs c t m h within e =
    room_of_next cs rs c t (thread_in (signal cs rs c).waiter) h within (ap (λ (o : Option (Tid × NameId)). thread_in o) e)
    (ap (λ (o : Option (Tid × NameId)). thread_in o) (from_kept (has cs.made c.0) (next_waiter cs rs c) (t, m) e))

pub room_of_undone : (os : Onces) (rs : Rows) (o : NameId) (u : Tid) → IsCanonical rs.seats → length rs.seats ≤ most → (undone os rs o).runner ≡ Some u → HasRoom (undone os rs o).rows
room_of_undone os rs o u h within e = room_of_kept rs (row.Once o) true u h within e

read_by : (rs : Rows) (p : NameId) (t u : Tid) (rank : ℕ) (items : List ℤ) (opened : Bool) → IsCanonical rs.seats → length rs.seats ≤ most
    → keep_if (is_value (read_reply items opened)) (best rs (row.Writer p)) ≡ Some u
    → HasRoom (take_out_if (block_if (is_blocks (read_reply items opened)) rs (row.Reader p) t rank) (keep_if (is_value (read_reply items opened)) (best rs (row.Writer p))))
read_by rs p t u rank [] true h within e = absurd (cc)
read_by rs p t u rank [] false h within e = absurd (cc)
read_by rs p t u rank (v ∷ vs) opened h within e =
    subst (λ o. HasRoom (take_out_if (block_if false rs (row.Reader p) t rank) o)) (sym e) (room_of_best rs (row.Writer p) u h within e)

pub room_of_read : (ps : Pipes) (rs : Rows) (p : NameId) (t u : Tid) (rank : ℕ) → IsCanonical rs.seats → length rs.seats ≤ most → (read ps rs p t rank).relieved ≡ Some u → HasRoom (read ps rs p t rank).rows
room_of_read ps rs p t u rank h within e = read_by rs p t u rank (pipe_at ps p).items (pipe_at ps p).is_open h within e

-- A writer that finds a reader doesn't wait.
found_blocks_not : (x : Pipe) (u : Tid) (b : Bool) → x.is_open ≡ b → is_blocks (write_reply x (Some u)) ≡ false
found_blocks_not x u true e = ap (λ b. is_blocks (cond (not b) reply.Epipe reply.Done)) e
found_blocks_not x u false e = ap (λ b. is_blocks (cond (not b) reply.Epipe reply.Done)) e

-- The rows after a write with this reader or none.
abbrev written : Pipe → Rows → NameId → Tid → ℕ → Option Tid → Rows
written x rs p t rank reader = block_if (is_blocks (write_reply x reader)) (take_out_if rs reader) (row.Writer p) t rank

pub room_of_write : (ps : Pipes) (rs : Rows) (p : NameId) (v : ℤ) (t u : Tid) (rank : ℕ) → IsCanonical rs.seats → length rs.seats ≤ most → (write ps rs p v t rank).reader ≡ Some u → HasRoom (write ps rs p v t rank).rows
room_of_write ps rs p v t u rank h within e =
    let x : Pipe = pipe_at ps p in
    subst (λ o. HasRoom (written x rs p t rank o)) (sym e)
    (subst (λ b. HasRoom (block_if b (take_out_if rs (Some u)) (row.Writer p) t rank)) (sym (found_blocks_not x u x.is_open refl))
    (room_of_best rs (row.Reader p) u h within (from_kept x.is_open (best rs (row.Reader p)) u e)))

-- The row of a pipe is a row.
pub in_some_row : (o : Option RowId) → is_pipe_row o ≡ true → is_some o ≡ true
in_some_row None e = absurd (cc)
in_some_row (Some r) e = refl

pulled_by : (rs : Rows) (t : Tid) (b : Bool) → is_pipe_row (row_of rs t) ≡ b → IsCanonical rs.seats → length rs.seats ≤ most → is_some (keep_if b (Some t)) ≡ true → HasRoom (take_out_if rs (keep_if b (Some t)))
pulled_by rs t true is h within e = room_of_row rs t h within (in_some_row (row_of rs t) is)
pulled_by rs t false is h within e = absurd (cc)

pub room_of_pull_out : (ps : Pipes) (rs : Rows) (t : Tid) → IsCanonical rs.seats → length rs.seats ≤ most → (pull_out ps rs t).stood ≡ true → HasRoom (pull_out ps rs t).rows
room_of_pull_out ps rs t h within e = pulled_by rs t (is_pipe_row (row_of rs t)) refl h within e
