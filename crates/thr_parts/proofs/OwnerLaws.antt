-- A mutex that nobody owns, and so one that isn't made, has no waiters; nor has the global lock.
use Rattle.std.proofs.Common.{◌≡◌, ℕ, ℤ, Bool, true, false, not, ◌&&◌, ◌||◌, cond, eqb, List, [], ◌∷◌, Option, Some, None, refl, sym, arith, ◌∙◌, ap, subst}
use Rattle.std.proofs.lemmas.Bool.Decides.{nat_tests}
use Rattle.std.specs.Prelude.{if◌then◌else◌, is_none, int_le, ◌+ℤ◌}
use Rattle.std.specs.List.{list_any}
use Rattle.std.specs.Option.{is_some, option_map, option_and_then, unwrap_or}
use Rattle.thr_values.specs.declared.number.NameId.{NameId}
use Rattle.thr_values.specs.declared.number.Tid.{Tid}
use Rattle.thr_values.specs.declared.reply.Kind.{Kind}
use Rattle.thr_values.specs.declared.reply.Reply.{Reply}
use Rattle.thr_values.specs.declared.reply.Reply.TheVariants as reply
use Rattle.thr_parts.specs.declared.mutex.Held.{Held}
use Rattle.thr_parts.specs.declared.mutex.Mutex.{Mutex}
use Rattle.thr_parts.specs.declared.row.RowId.{RowId}
use Rattle.thr_parts.specs.declared.row.RowId.TheVariants as row
use Rattle.thr_parts.specs.declared.row.Place.{Place}
use Rattle.thr_parts.specs.declared.row.Place.TheVariants.{Runs, Stands}
use Rattle.thr_parts.specs.declared.row.Seat.{Seat}
use Rattle.thr_parts.specs.declared.wait.Wait.{Wait}
use Rattle.thr_parts.specs.declared.wait.Wait.TheVariants.{Cond, Delay}
use Rattle.thr_parts.specs.Tables.{Table, get, has, put, put_if, cut, cut_if, keep_if, IsCanonical}
use Rattle.thr_parts.specs.Replies.{is_done, is_blocks}
use Rattle.thr_parts.specs.Rows.{Rows, seat_of, is_same_row, place_in, is_in_row, is_running, best, best_first}
use Rattle.thr_parts.specs.Moves.{as_ranked, put_in_row, take_out, take_out_if, leave, block_in, block_if, set_rank, make_ready, make_all_ready, free_row}
use Rattle.thr_parts.specs.Dispatch.{a_turn_later, gives_way, as_kept, keeps, with_processor, next_for, dispatch}
use Rattle.thr_parts.specs.Mutexes.{Locks, with_mutexes, kind_at, free_mutex, init, mutex_at, waiters_row, with_mutex, owner_in, owner, is_used, destroy_reply, destroy}
use Rattle.thr_parts.specs.Locking.{held_reply, lock_reply, as_taken, lock, trylock, is_last, as_unlocked, held_after, owned_by, one_less, unlock_reply, unlock, is_free, regain}
use Rattle.thr_parts.specs.Conditions.{Conds, wait_of, is_with, mutex_of, waits_with, wait_reply, timedwait_reply, begin_wait, wait, timedwait, delay_reply, delay}
use Rattle.thr_parts.specs.Waking.{some_if, waits_without, without_wait, pull_out, mutex_with, beside_mutex, signal, resume, wake_all}
use Rattle.thr_parts.specs.Pipes.{Pipes}
use Rattle.thr_parts.specs.CancelledWaits.{cancel_wait}
use Rattle.thr_parts.proofs.TableLaws.{get_put, get_cut, has_get}
use Rattle.thr_parts.proofs.EntryLaws.{get_cons, get_empty}
use Rattle.thr_parts.proofs.EachLaws.{Each, IfThere, each_put, each_put_if, each_cut, each_cut_if, if_there}
use Rattle.thr_parts.proofs.RowLaws.{HasSeat, seat_of_row, row_of_seat, same_row, nobody_stands, no_best}
use Rattle.thr_parts.proofs.MoveLaws.{canonical_put_in_row, canonical_take_out_if, canonical_leave, canonical_block_in, canonical_block_if, canonical_set_rank, canonical_dispatch, canonical_keeps}
use Rattle.thr_parts.proofs.PartLaws.{canonical_lock, canonical_unlock, canonical_regain, canonical_delay, canonical_free_row}

-- ---- seats whose mutex has an owner

-- The mutex, or the global lock, for which threads wait in the row has an owner.
abbrev pub HasOwner : Locks → RowId → Type 0
HasOwner ls (row.Mutex m) = is_some (owner ls (Some m)) ≡ true
HasOwner ls row.Global = is_some (owner ls None) ≡ true
HasOwner ls _ = Unit {0}

abbrev pub HasOwnerAt : Locks → Place → Type 0
HasOwnerAt ls (Runs p slice) = Unit {0}
HasOwnerAt ls (Stands r arrival) = HasOwner ls r

-- So has that for which the thread of a seat waits.
abbrev pub IsOwned : Locks → Seat → Type 0
IsOwned ls s = HasOwnerAt ls s.place

-- The wait is on a condition with a mutex that is made.
abbrev pub IsMade : Locks → Wait → Type 0
IsMade ls (Cond c m until) = has ls.mutexes m.0 ≡ true
IsMade ls (Delay until) = Unit {0}

-- Mutexes for which threads wait have owners, and those with which threads wait on conditions are made.
pub record AreOwned (ls : Locks) (cs : Conds) (rs : Rows) : Type 0 where
  pub sorted : IsCanonical rs.seats
  pub owned : Each (IsOwned ls) rs.seats
  pub made : Each (IsMade ls) cs.waits

-- ---- moves

module _ (ls : Locks) where
  owned_put_in_row : (rs : Rows) (r : RowId) (t : Tid) (rank : ℕ) → HasOwner ls r → Each (IsOwned ls) rs.seats → Each (IsOwned ls) (put_in_row rs r t rank).seats
  owned_put_in_row rs r t rank k h = each_put (IsOwned ls) rs.seats t.0 _ k h

  owned_take_out : (rs : Rows) (t : Tid) → Each (IsOwned ls) rs.seats → Each (IsOwned ls) (take_out rs t).rows.seats
  owned_take_out rs t h = each_cut_if (IsOwned ls) (is_in_row (seat_of rs t)) rs.seats t.0 h

  owned_take_out_if : (rs : Rows) (o : Option Tid) → Each (IsOwned ls) rs.seats → Each (IsOwned ls) (take_out_if rs o).seats
  owned_take_out_if rs None h = h
  owned_take_out_if rs (Some t) h = owned_take_out rs t h

  owned_leave : (rs : Rows) (t : Tid) → Each (IsOwned ls) rs.seats → Each (IsOwned ls) (leave rs t).seats
  owned_leave rs t h = each_cut_if (IsOwned ls) (is_running (seat_of rs t)) rs.seats t.0 h

  owned_block_in : (rs : Rows) (r : RowId) (t : Tid) (rank : ℕ) → HasOwner ls r → Each (IsOwned ls) rs.seats → Each (IsOwned ls) (block_in rs r t rank).seats
  owned_block_in rs r t rank k h = owned_put_in_row (leave rs t) r t rank k (owned_leave rs t h)

  owned_block_if : (b : Bool) (rs : Rows) (r : RowId) (t : Tid) (rank : ℕ) → (b ≡ true → HasOwner ls r) → Each (IsOwned ls) rs.seats → Each (IsOwned ls) (block_if b rs r t rank).seats
  owned_block_if true rs r t rank k h = owned_block_in rs r t rank (k refl) h
  owned_block_if false rs r t rank k h = h

  ranked_owned : (m : Table Seat) (t rank : ℕ) (o : Option Seat) → IfThere (IsOwned ls) o → Each (IsOwned ls) m → Each (IsOwned ls) (put_if m t (option_map (as_ranked rank) o))
  ranked_owned m t rank None k h = h
  ranked_owned m t rank (Some s) k h = each_put (IsOwned ls) m t _ k h

  later_at : (fifo : Bool) (l : Place) → HasOwnerAt ls l → HasOwnerAt ls (a_turn_later fifo l)
  later_at fifo (Runs p slice) k = tt
  later_at fifo (Stands r arrival) k = k

  later_if : (b : Bool) (arrival : ℕ) (fifo : Bool) (l : Place) → HasOwnerAt ls l → HasOwnerAt ls (if b then Stands row.Ready arrival else a_turn_later fifo l)
  later_if true arrival fifo l k = tt
  later_if false arrival fifo l k = later_at fifo l k

  later_owned : (rs : Rows) (t : ℕ) (fifo : Bool) (o : Option Seat) → IfThere (IsOwned ls) o → Each (IsOwned ls) rs.seats → Each (IsOwned ls) (put_if rs.seats t (option_map (as_kept rs fifo) o))
  later_owned rs t fifo None k h = h
  later_owned rs t fifo (Some s) k h = each_put (IsOwned ls) rs.seats t _ (later_if (gives_way rs fifo s.rank s.place) rs.next_arrival fifo s.place k) h

  owned_make_all_ready : (rank : Tid → ℕ) (rs : Rows) (ts : List Tid) → Each (IsOwned ls) rs.seats → Each (IsOwned ls) (make_all_ready rank rs ts).seats
  unfolding make_all_ready
  owned_make_all_ready rank rs [] h = h
  owned_make_all_ready rank rs (t ∷ ts) h =
      owned_make_all_ready rank (make_ready rank (take_out rs t).rows t) ts (owned_put_in_row (take_out rs t).rows row.Ready t (rank t) tt (owned_take_out rs t h))

  processor_owned : (o : Option (ℕ × Seat)) (m : Table Seat) (p : ℕ) → Each (IsOwned ls) m → Each (IsOwned ls) (with_processor o m p)
  processor_owned None m p h = h
  processor_owned (Some e) m p h = each_put (IsOwned ls) m e.0 _ tt h

  owned_set_rank : (rs : Rows) (t : Tid) (rank : ℕ) → Each (IsOwned ls) rs.seats → Each (IsOwned ls) (set_rank rs t rank).seats
  owned_set_rank rs t rank h = ranked_owned rs.seats t.0 rank (seat_of rs t) (if_there (IsOwned ls) rs.seats t.0 (seat_of rs t) refl h) h

  owned_keeps : (rs : Rows) (t : Tid) (fifo : Bool) → Each (IsOwned ls) rs.seats → Each (IsOwned ls) (keeps rs t fifo).rows.seats
  owned_keeps rs t fifo h = later_owned rs t.0 fifo (seat_of rs t) (if_there (IsOwned ls) rs.seats t.0 (seat_of rs t) refl h) h

  owned_free_row : (rank : Tid → ℕ) (rs : Rows) (r : RowId) → Each (IsOwned ls) rs.seats → Each (IsOwned ls) (free_row rank rs r).rows.seats
  owned_free_row rank rs r h = owned_make_all_ready rank rs (best_first rs r) h

  owned_dispatch : (rs : Rows) (p : ℕ) → Each (IsOwned ls) rs.seats → Each (IsOwned ls) (dispatch rs p).rows.seats
  owned_dispatch rs p h = processor_owned (next_for rs p) rs.seats p h

-- ---- owners that stay

-- What had an owner has one, and what was made is made.
record Grows (ls more : Locks) : Type 0 where
  owns : (m : Option NameId) → is_some (owner ls m) ≡ true → is_some (owner more m) ≡ true
  makes : (m : NameId) → has ls.mutexes m.0 ≡ true → has more.mutexes m.0 ≡ true

row_grows : (ls more : Locks) → Grows ls more → (r : RowId) → HasOwner ls r → HasOwner more r
row_grows ls more g (row.Mutex m) h = g.owns (Some m) h
row_grows ls more g row.Global h = g.owns None h
row_grows ls more g row.Ready h = tt
row_grows ls more g (row.Cond c) h = tt
row_grows ls more g (row.Join t) h = tt
row_grows ls more g (row.Once o) h = tt
row_grows ls more g (row.Reader p) h = tt
row_grows ls more g (row.Writer p) h = tt
row_grows ls more g row.Time h = tt

place_grows : (ls more : Locks) → ((r : RowId) → HasOwner ls r → HasOwner more r) → (l : Place) → HasOwnerAt ls l → HasOwnerAt more l
place_grows ls more g (Runs p slice) h = tt
place_grows ls more g (Stands r arrival) h = g r h

owned_grows : (ls more : Locks) (m : Table Seat) → Grows ls more → Each (IsOwned ls) m → Each (IsOwned more) m
owned_grows ls more m g h = λ q s e. place_grows ls more (row_grows ls more g) s.place (h q s e)

wait_grows : (ls more : Locks) → ((m : NameId) → has ls.mutexes m.0 ≡ true → has more.mutexes m.0 ≡ true) → (w : Wait) → IsMade ls w → IsMade more w
wait_grows ls more g (Cond c m until) h = g m h
wait_grows ls more g (Delay until) h = tt

made_grows : (ls more : Locks) (m : Table Wait) → ((k : NameId) → has ls.mutexes k.0 ≡ true → has more.mutexes k.0 ≡ true) → Each (IsMade ls) m → Each (IsMade more) m
made_grows ls more m g h = λ q w e. wait_grows ls more g w (h q w e)

-- ---- one mutex that changes

some_put : {A : Type 0} (b : Bool) (x : A) (o : Option A) → is_some o ≡ true → is_some (cond b (Some x) o) ≡ true
some_put true x o h = refl
some_put false x o h = h

has_put : {A : Type 0} (m : Table A) (k q : ℕ) (x : A) → has m q ≡ true → has (put m k x) q ≡ true
has_put m k q x h = has_get (put m k x) q ∙ ap is_some (get_put m k q x) ∙ some_put (eqb k q) x (get m q) (sym (has_get m q) ∙ h)

with_makes : (ls : Locks) (m : Option NameId) (o : Option Mutex) (k : NameId) → has ls.mutexes k.0 ≡ true → has (with_mutex ls m o).mutexes k.0 ≡ true
with_makes ls None None k h = h
with_makes ls None (Some x) k h = h
with_makes ls (Some m) None k h = h
with_makes ls (Some m) (Some x) k h = has_put ls.mutexes m.0 k.0 x h

owner_put : (b : Bool) (x : Mutex) (o : Option Mutex) → is_some x.held ≡ true → is_some (owner_in o) ≡ true → is_some (owner_in (cond b (Some x) o)) ≡ true
owner_put true x o here h = here
owner_put false x o here h = h

-- The mutex that is there has an owner.
abbrev IsHeld : Option Mutex → Type 0
IsHeld None = Unit {0}
IsHeld (Some x) = is_some x.held ≡ true

with_owns : (ls : Locks) (m : Option NameId) (o : Option Mutex) → IsHeld o → (k : Option NameId) → is_some (owner ls k) ≡ true → is_some (owner (with_mutex ls m o) k) ≡ true
with_owns ls None None here None h = h
with_owns ls None None here (Some k) h = h
with_owns ls None (Some x) here None h = here
with_owns ls None (Some x) here (Some k) h = h
with_owns ls (Some m) None here None h = h
with_owns ls (Some m) None here (Some k) h = h
with_owns ls (Some m) (Some x) here None h = h
with_owns ls (Some m) (Some x) here (Some k) h = ap (λ o. is_some (owner_in o)) (get_put ls.mutexes m.0 k.0 x) ∙ owner_put (eqb m.0 k.0) x (get ls.mutexes k.0) here h

with_grows : (ls : Locks) (m : Option NameId) (o : Option Mutex) → IsHeld o → Grows ls (with_mutex ls m o)
with_grows ls m o here = record { owns = with_owns ls m o here; makes = with_makes ls m o }

-- ---- a mutex for which nobody waits

nobody_by : (rs : Rows) (r : RowId) (q : ℕ) (s : Seat) (b : Bool) → IsCanonical rs.seats → best rs r ≡ None → get rs.seats q ≡ Some s → place_in r s.place ≡ b → b ≡ false
nobody_by rs r q s true h none e is =
    let t : Tid = record { 0 = q } in absurd (nobody_stands rs r t h none (row_of_seat rs t r s (record { at = e; placed = is })))
nobody_by rs r q s false h none e is = refl

nobody_at : (rs : Rows) (r : RowId) (q : ℕ) (s : Seat) → IsCanonical rs.seats → best rs r ≡ None → get rs.seats q ≡ Some s → place_in r s.place ≡ false
nobody_at rs r q s h none e = nobody_by rs r q s (place_in r s.place) h none e refl

-- No matter what becomes of a mutex, the others have the owners that they had.
other_owner : (ls : Locks) (m : Option NameId) (o : Option Mutex) (k : Option NameId) → is_same_row (waiters_row m) (waiters_row k) ≡ false → is_some (owner ls k) ≡ true
    → is_some (owner (with_mutex ls m o) k) ≡ true
other_owner ls None o None apart h = absurd (cc)
other_owner ls None None (Some k) apart h = h
other_owner ls None (Some x) (Some k) apart h = h
other_owner ls (Some m) None None apart h = h
other_owner ls (Some m) None (Some k) apart h = h
other_owner ls (Some m) (Some x) None apart h = h
other_owner ls (Some m) (Some x) (Some k) apart h =
    ap (λ o. is_some (owner_in o)) (get_put ls.mutexes m.0 k.0 x) ∙ ap (λ b. is_some (owner_in (cond b (Some x) (get ls.mutexes k.0)))) apart ∙ h

other_row : (ls : Locks) (m : Option NameId) (o : Option Mutex) (r : RowId) → is_same_row (waiters_row m) r ≡ false → HasOwner ls r → HasOwner (with_mutex ls m o) r
other_row ls m o (row.Mutex k) apart h = other_owner ls m o (Some k) apart h
other_row ls m o row.Global apart h = other_owner ls m o None apart h
other_row ls m o row.Ready apart h = tt
other_row ls m o (row.Cond c) apart h = tt
other_row ls m o (row.Join t) apart h = tt
other_row ls m o (row.Once c) apart h = tt
other_row ls m o (row.Reader p) apart h = tt
other_row ls m o (row.Writer p) apart h = tt
other_row ls m o row.Time apart h = tt

other_place : (ls more : Locks) (r : RowId) → ((s : RowId) → is_same_row r s ≡ false → HasOwner ls s → HasOwner more s) → (l : Place) → place_in r l ≡ false → HasOwnerAt ls l → HasOwnerAt more l
other_place ls more r k (Runs p slice) apart h = tt
other_place ls more r k (Stands s arrival) apart h = k s apart h

free_owned : (ls : Locks) (m : Option NameId) (o : Option Mutex) (rs : Rows) → IsCanonical rs.seats → best rs (waiters_row m) ≡ None → Each (IsOwned ls) rs.seats
    → Each (IsOwned (with_mutex ls m o)) rs.seats
free_owned ls m o rs sorted none h = λ q s e. other_place ls (with_mutex ls m o) (waiters_row m) (other_row ls m o) s.place (nobody_at rs (waiters_row m) q s sorted none e) (h q s e)

-- ---- locks

taken_held : (b : Bool) (t : Tid) (u : Option Mutex) → IsHeld (keep_if b (option_map (as_taken t) u))
taken_held true t None = tt
taken_held true t (Some x) = refl
taken_held false t u = tt

blocked_held : (kind : Kind) (h : Option Held) (t : Tid) → is_blocks (held_reply kind h t) ≡ true → is_some h ≡ true
blocked_held kind None t e = absurd (cc)
blocked_held kind (Some h) t e = refl

blocked_owner : (u : Option Mutex) (t : Tid) → is_blocks (lock_reply u t) ≡ true → is_some (owner_in u) ≡ true
blocked_owner None t e = absurd (cc)
blocked_owner (Some x) t e = blocked_held x.kind x.held t e

waiters_owned : (ls : Locks) (m : Option NameId) → is_some (owner ls m) ≡ true → HasOwner ls (waiters_row m)
waiters_owned ls None h = h
waiters_owned ls (Some m) h = h

-- One that becomes owned, or stays so.
held_owned : (ls : Locks) (cs : Conds) (rs : Rows) (m : Option NameId) (o : Option Mutex) → IsHeld o → AreOwned ls cs rs → AreOwned (with_mutex ls m o) cs rs
held_owned ls cs rs m o here h = record {
  sorted = h.sorted;
  owned = owned_grows ls (with_mutex ls m o) rs.seats (with_grows ls m o here) h.owned;
  made = made_grows ls (with_mutex ls m o) cs.waits (with_makes ls m o) h.made;
}

pub lock_owned : (ls : Locks) (cs : Conds) (rs : Rows) (m : Option NameId) (t : Tid) (rank : ℕ) → AreOwned ls cs rs → AreOwned (lock ls rs m t rank).locks cs (lock ls rs m t rank).rows
lock_owned ls cs rs m t rank h =
    held_owned ls cs (lock ls rs m t rank).rows m (keep_if (is_done (lock_reply (mutex_at ls m) t)) (option_map (as_taken t) (mutex_at ls m))) (taken_held _ t (mutex_at ls m)) (record {
      sorted = canonical_lock ls rs m t rank h.sorted;
      owned = owned_block_if ls (is_blocks (lock_reply (mutex_at ls m) t)) rs (waiters_row m) t rank (λ e. waiters_owned ls m (blocked_owner (mutex_at ls m) t e)) h.owned;
      made = h.made;
    })

pub trylock_owned : (ls : Locks) (cs : Conds) (rs : Rows) (m : NameId) (t : Tid) → AreOwned ls cs rs → AreOwned (trylock ls m t).locks cs rs
trylock_owned ls cs rs m t h =
    held_owned ls cs rs (Some m) (keep_if (is_done (lock_reply (mutex_at ls (Some m)) t)) (option_map (as_taken t) (mutex_at ls (Some m)))) (taken_held _ t (mutex_at ls (Some m))) h

-- ---- unlocks

kept_some : (next : Option Tid) (h : Option Held) → is_last h ≡ false → is_some (held_after next h) ≡ true
kept_some next None e = absurd (cc)
kept_some next (Some h) e = ap (λ b. is_some (if b then option_map owned_by next else Some (one_less h))) e

kept_held : (next : Option Tid) (u : Option Mutex) → is_last (owner_in u) ≡ false → IsHeld (option_map (as_unlocked next) u)
kept_held next None e = tt
kept_held next (Some x) e = kept_some next x.held e

either_some : {A : Type 0} (b : Bool) (x y : A) → is_some (if b then Some x else Some y) ≡ true
either_some true x y = refl
either_some false x y = refl

given_some : (w : Tid) (h : Option Held) → is_some (held_after (Some w) h) ≡ true
given_some w None = refl
given_some w (Some h) = either_some (is_last (Some h)) (owned_by w) (one_less h)

given_held : (w : Tid) (u : Option Mutex) → IsHeld (option_map (as_unlocked (Some w)) u)
given_held w None = tt
given_held w (Some x) = given_some w x.held

unlocked : (ls : Locks) (m : Option NameId) (rs : Rows) (b l : Bool) (n : Option Tid) → is_last (owner ls m) ≡ l → best rs (waiters_row m) ≡ n → IsCanonical rs.seats → Each (IsOwned ls) rs.seats
    → Each (IsOwned (with_mutex ls m (keep_if b (option_map (as_unlocked (keep_if (b && l) n)) (mutex_at ls m))))) (take_out_if rs (keep_if (b && l) n)).seats
unlocked ls m rs false l n last is sorted h = owned_grows ls (with_mutex ls m None) rs.seats (with_grows ls m None tt) h
unlocked ls m rs true false n last is sorted h =
    let o : Option Mutex = option_map (as_unlocked None) (mutex_at ls m) in owned_grows ls (with_mutex ls m o) rs.seats (with_grows ls m o (kept_held None (mutex_at ls m) last)) h
unlocked ls m rs true true None last is sorted h = free_owned ls m (option_map (as_unlocked None) (mutex_at ls m)) rs sorted is h
unlocked ls m rs true true (Some w) last is sorted h =
    let o : Option Mutex = option_map (as_unlocked (Some w)) (mutex_at ls m) in
    owned_grows ls (with_mutex ls m o) (take_out_if rs (Some w)).seats (with_grows ls m o (given_held w (mutex_at ls m))) (owned_take_out_if ls rs (Some w) h)

pub unlock_owned : (ls : Locks) (cs : Conds) (rs : Rows) (m : Option NameId) (t : Tid) → AreOwned ls cs rs → AreOwned (unlock ls rs m t).locks cs (unlock ls rs m t).rows
unlock_owned ls cs rs m t h = record {
  sorted = canonical_unlock ls rs m t h.sorted;
  owned = unlocked ls m rs (is_done (unlock_reply (mutex_at ls m) t)) (is_last (owner ls m)) (best rs (waiters_row m)) refl refl h.sorted h.owned;
  made = made_grows ls (unlock ls rs m t).locks cs.waits (with_makes ls m (keep_if (is_done (unlock_reply (mutex_at ls m) t)) (option_map (as_unlocked (unlock ls rs m t).given) (mutex_at ls m)))) h.made;
}

-- ---- waits that begin

begun : (ls : Locks) (m : NameId) (rs : Rows) (b : Bool) (n : Option Tid) → best rs (row.Mutex m) ≡ n → IsCanonical rs.seats → Each (IsOwned ls) rs.seats
    → Each (IsOwned (with_mutex ls (Some m) (keep_if b (option_map (as_unlocked (keep_if b n)) (mutex_at ls (Some m)))))) (take_out_if rs (keep_if b n)).seats
begun ls m rs false n is sorted h = owned_grows ls (with_mutex ls (Some m) None) rs.seats (with_grows ls (Some m) None tt) h
begun ls m rs true None is sorted h = free_owned ls (Some m) (option_map (as_unlocked None) (mutex_at ls (Some m))) rs sorted is h
begun ls m rs true (Some w) is sorted h =
    let o : Option Mutex = option_map (as_unlocked (Some w)) (mutex_at ls (Some m)) in
    owned_grows ls (with_mutex ls (Some m) o) (take_out_if rs (Some w)).seats (with_grows ls (Some m) o (given_held w (mutex_at ls (Some m)))) (owned_take_out_if ls rs (Some w) h)

wait_made : (ls : Locks) (c m : NameId) (until : Option ℤ) (b : Bool) → (b ≡ true → has ls.mutexes m.0 ≡ true) → IfThere (IsMade ls) (keep_if b (Some (Cond c m until)))
wait_made ls c m until true h = h refl
wait_made ls c m until false h = tt

begin_owned : (cs : Conds) (ls : Locks) (rs : Rows) (c m : NameId) (until : Option ℤ) (t : Tid) (rank : ℕ) (said : Reply) → (is_blocks said ≡ true → has ls.mutexes m.0 ≡ true) → AreOwned ls cs rs
    → (let o = begin_wait cs ls rs c m until t rank said in AreOwned o.locks o.conds o.rows)
begin_owned cs ls rs c m until t rank said made h =
    let waiting : Rows = block_if (is_blocks said) rs (row.Cond c) t rank in
    let sorted : IsCanonical waiting.seats = canonical_block_if (is_blocks said) rs (row.Cond c) t rank h.sorted in
    let more : Locks = (begin_wait cs ls rs c m until t rank said).locks in
    let makes : (k : NameId) → has ls.mutexes k.0 ≡ true → has more.mutexes k.0 ≡ true =
    with_makes ls (Some m) (keep_if (is_blocks said) (option_map (as_unlocked (begin_wait cs ls rs c m until t rank said).given) (mutex_at ls (Some m)))) in record {
      sorted = canonical_take_out_if waiting (begin_wait cs ls rs c m until t rank said).given sorted;
      owned = begun ls m waiting (is_blocks said) (best waiting (row.Mutex m)) refl sorted (owned_block_if ls (is_blocks said) rs (row.Cond c) t rank (λ e. tt) h.owned);
      made =
          each_put_if (IsMade more) cs.waits t.0 (keep_if (is_blocks said) (Some (Cond c m until))) (wait_made more c m until (is_blocks said) (λ e. makes m (made e)))
          (made_grows ls more cs.waits makes h.made);
    }

both_made : (a b : Bool) (y : Reply) → is_blocks (if a && b then y else reply.Einval) ≡ true → b ≡ true
both_made true true y e = refl
both_made true false y e = absurd (cc)
both_made false b y e = absurd (cc)

wait_blocks : (cs : Conds) (ls : Locks) (c m : NameId) (t : Tid) → is_blocks (wait_reply cs ls c m t) ≡ true → has ls.mutexes m.0 ≡ true
wait_blocks cs ls c m t e = both_made (has cs.made c.0) (has ls.mutexes m.0) _ e

timed_blocks : (y : Reply) (b : Bool) → is_blocks (timedwait_reply y b) ≡ true → is_blocks y ≡ true
timed_blocks reply.Blocks b e = refl
timed_blocks _ b e = e

pub wait_owned : (cs : Conds) (ls : Locks) (rs : Rows) (c m : NameId) (t : Tid) (rank : ℕ) → AreOwned ls cs rs → (let o = wait cs ls rs c m t rank in AreOwned o.locks o.conds o.rows)
wait_owned cs ls rs c m t rank h = begin_owned cs ls rs c m None t rank (wait_reply cs ls c m t) (wait_blocks cs ls c m t) h

pub timedwait_owned : (cs : Conds) (ls : Locks) (rs : Rows) (c m : NameId) (until now : ℤ) (t : Tid) (rank : ℕ) → AreOwned ls cs rs
    → (let o = timedwait cs ls rs c m until now t rank in AreOwned o.locks o.conds o.rows)
timedwait_owned cs ls rs c m until now t rank h =
    let past : Bool = int_le until now in
    begin_owned cs ls rs c m (Some until) t rank (timedwait_reply (wait_reply cs ls c m t) past) (λ e. wait_blocks cs ls c m t (timed_blocks (wait_reply cs ls c m t) past e)) h

delay_made : (ls : Locks) (b : Bool) (until : ℤ) → IfThere (IsMade ls) (keep_if b (Some (Delay until)))
delay_made ls true until = tt
delay_made ls false until = tt

pub delay_owned : (cs : Conds) (ls : Locks) (rs : Rows) (ticks now : ℤ) (t : Tid) (rank : ℕ) → AreOwned ls cs rs → (let o = delay cs rs ticks now t rank in AreOwned ls o.conds o.rows)
delay_owned cs ls rs ticks now t rank h = record {
  sorted = canonical_delay cs rs ticks now t rank h.sorted;
  owned = owned_block_if ls (is_blocks (delay_reply ticks now)) rs row.Time t rank (λ e. tt) h.owned;
  made = each_put_if (IsMade ls) cs.waits t.0 _ (delay_made ls (is_blocks (delay_reply ticks now)) (now +ℤ ticks)) h.made;
}

-- ---- waits that end

not_free : (h : Option Held) → is_none h ≡ false → is_some h ≡ true
not_free None e = absurd (cc)
not_free (Some h) e = refl

owner_found : (u : Option Mutex) → is_some u ≡ true → is_free u ≡ false → is_some (owner_in u) ≡ true
owner_found None e f = absurd (cc)
owner_found (Some x) e f = not_free x.held f

regained_row : (ls : Locks) (m : NameId) (gets : Bool) → is_free (mutex_at ls (Some m)) ≡ gets → has ls.mutexes m.0 ≡ true → HasOwner ls (if gets then row.Ready else row.Mutex m)
regained_row ls m true is e = tt
regained_row ls m false is e = owner_found (get ls.mutexes m.0) (sym (has_get ls.mutexes m.0) ∙ e) is

pub regain_owned : (ls : Locks) (cs : Conds) (rs : Rows) (m : NameId) (t : Tid) (rank : ℕ) → has ls.mutexes m.0 ≡ true → AreOwned ls cs rs
    → (let o = regain ls rs m t rank in AreOwned o.locks cs o.rows)
regain_owned ls cs rs m t rank e h =
    let gets : Bool = is_free (mutex_at ls (Some m)) in
    held_owned ls cs (regain ls rs m t rank).rows (Some m) (keep_if gets (option_map (as_taken t) (mutex_at ls (Some m)))) (taken_held gets t (mutex_at ls (Some m))) (record {
      sorted = canonical_regain ls rs m t rank h.sorted;
      owned = owned_put_in_row ls rs (if gets then row.Ready else row.Mutex m) t rank (regained_row ls m gets refl e) h.owned;
      made = h.made;
    })

-- A thread that stands nowhere becomes ready.
pub ready_owned : (ls : Locks) (cs : Conds) (rs : Rows) (t : Tid) (rank : ℕ) → AreOwned ls cs rs → AreOwned ls cs (put_in_row rs row.Ready t rank)
ready_owned ls cs rs t rank h = record {
  sorted = canonical_put_in_row rs row.Ready t rank h.sorted;
  owned = owned_put_in_row ls rs row.Ready t rank tt h.owned;
  made = h.made;
}

resume_owned : (rank : Tid → ℕ) (ls : Locks) (cs : Conds) (rs : Rows) (t : Tid) (o : Option NameId) → ((m : NameId) → o ≡ Some m → has ls.mutexes m.0 ≡ true) → AreOwned ls cs rs
    → (let x = resume rank ls rs t o in AreOwned x.locks cs x.rows)
resume_owned rank ls cs rs t None e h = ready_owned ls cs rs t (rank t) h
resume_owned rank ls cs rs t (Some m) e h = regain_owned ls cs rs m t (rank t) (e m refl) h

mutex_made : (ls : Locks) (m : NameId) (o : Option Wait) → IfThere (IsMade ls) o → option_and_then mutex_of o ≡ Some m → has ls.mutexes m.0 ≡ true
mutex_made ls m None h e = absurd (cc)
mutex_made ls m (Some (Cond c k until)) h e = subst (λ (x : NameId). has ls.mutexes x.0 ≡ true) (ap (λ o. unwrap_or o k) e) h
mutex_made ls m (Some (Delay until)) h e = absurd (cc)

with_made : (ls : Locks) (cs : Conds) (t : Tid) (m : NameId) → Each (IsMade ls) cs.waits → mutex_with cs t ≡ Some m → has ls.mutexes m.0 ≡ true
with_made ls cs t m h e = mutex_made ls m (wait_of cs t) (if_there (IsMade ls) cs.waits t.0 (wait_of cs t) refl h) e

without_made : (ls : Locks) (waits : Table Wait) (o : Option Tid) → Each (IsMade ls) waits → Each (IsMade ls) (waits_without waits o)
without_made ls waits None h = h
without_made ls waits (Some t) h = each_cut (IsMade ls) waits t.0 h

-- Threads that leave rows and waits leave the others as they are.
pub out_owned : (ls : Locks) (cs : Conds) (rs : Rows) (w o : Option Tid) → AreOwned ls cs rs → AreOwned ls (without_wait cs w) (take_out_if rs o)
out_owned ls cs rs w o h = record {
  sorted = canonical_take_out_if rs o h.sorted;
  owned = owned_take_out_if ls rs o h.owned;
  made = without_made ls cs.waits w h.made;
}

pub wake_all_owned : (rank : Tid → ℕ) (cs : Conds) (ls : Locks) (rs : Rows) (ts : List Tid) → AreOwned ls cs rs → (let o = wake_all rank cs ls rs ts in AreOwned o.locks o.conds o.rows)
unfolding wake_all
wake_all_owned rank cs ls rs [] h = h
wake_all_owned rank cs ls rs (t ∷ ts) h =
    let who : Option Tid = some_if (is_some (wait_of cs t)) t in
    let x = resume rank ls (pull_out cs rs t).rows t (mutex_with cs t) in
    wake_all_owned rank (pull_out cs rs t).conds x.locks x.rows ts
    (resume_owned rank ls (pull_out cs rs t).conds (pull_out cs rs t).rows t (mutex_with cs t) (λ m e. with_made ls cs t m h.made e) (out_owned ls cs rs who who h))

pub cancel_wait_owned : (rank : Tid → ℕ) (cs : Conds) (ps : Pipes) (ls : Locks) (rs : Rows) (t : Tid) → AreOwned ls cs rs
    → (let o = cancel_wait rank cs ps ls rs t in AreOwned o.locks o.conds o.rows)
cancel_wait_owned rank cs ps ls rs t h =
    let out : AreOwned ls (pull_out cs rs t).conds (take_out rs t).rows = out_owned ls cs rs (some_if (is_some (wait_of cs t)) t) (Some t) h in
    resume_owned rank ls (pull_out cs rs t).conds (take_out rs t).rows t (mutex_with cs t) (λ m e. with_made ls cs t m h.made e) out

pub signal_owned : (ls : Locks) (cs : Conds) (rs : Rows) (c : NameId) → AreOwned ls cs rs → (let o = signal cs rs c in AreOwned ls o.conds o.rows)
signal_owned ls cs rs c h = out_owned ls cs rs _ _ h

beside_made : (ls : Locks) (cs : Conds) (t : Tid) (w : Tid × NameId) (o : Option NameId) → Each (IsMade ls) cs.waits → mutex_with cs t ≡ o → option_map (λ (m : NameId). (t, m)) o ≡ Some w
    → has ls.mutexes w.1.0 ≡ true
beside_made ls cs t w None h is e = absurd (cc)
beside_made ls cs t w (Some m) h is e =
    subst (λ (x : Tid × NameId). has ls.mutexes x.1.0 ≡ true) (ap (λ (o : Option (Tid × NameId)). unwrap_or o w) e) (with_made ls cs t m h is)

next_made : (ls : Locks) (cs : Conds) (w : Tid × NameId) (n : Option Tid) → Each (IsMade ls) cs.waits → option_and_then (beside_mutex cs) n ≡ Some w → has ls.mutexes w.1.0 ≡ true
next_made ls cs w None h e = absurd (cc)
next_made ls cs w (Some t) h e = beside_made ls cs t w (mutex_with cs t) h refl e

kept_made : (ls : Locks) (cs : Conds) (w : Tid × NameId) (b : Bool) (n : Option Tid) → Each (IsMade ls) cs.waits → keep_if b (option_and_then (beside_mutex cs) n) ≡ Some w → has ls.mutexes w.1.0 ≡ true
kept_made ls cs w true n h e = next_made ls cs w n h e
kept_made ls cs w false n h e = absurd (cc)

-- The mutex of the thread that a signal wakes is made.
pub signalled_made : (ls : Locks) (cs : Conds) (rs : Rows) (c : NameId) (w : Tid × NameId) → AreOwned ls cs rs → (signal cs rs c).waiter ≡ Some w → has ls.mutexes w.1.0 ≡ true
signalled_made ls cs rs c w h e = kept_made ls cs w (has cs.made c.0) (best rs (row.Cond c)) h.made e

-- ---- mutexes that are made and destroyed

fresh_owner : (mutexes : Table Mutex) (n q : ℕ) (x : Mutex) (b : Bool) → eqb n q ≡ b → is_some (get mutexes n) ≡ false → is_some (owner_in (get mutexes q)) ≡ true
    → is_some (owner_in (cond b (Some x) (get mutexes q))) ≡ true
fresh_owner mutexes n q x true is fresh h = absurd (nobody_owns (get mutexes q) (ap (λ k. is_some (get mutexes k)) (sym (same_key n q is)) ∙ fresh) h)
  where
    same_key : (x y : ℕ) → eqb x y ≡ true → x ≡ y
    same_key x y e = grind (arith, nat_tests)

    nobody_owns : (o : Option Mutex) → is_some o ≡ false → is_some (owner_in o) ≡ true → ⊥
    nobody_owns None e f = absurd (cc)
    nobody_owns (Some y) e f = absurd (cc)
fresh_owner mutexes n q x false is fresh h = h

fresh_owns : (ls : Locks) (m : NameId) (x : Mutex) → has ls.mutexes m.0 ≡ false → (k : Option NameId) → is_some (owner ls k) ≡ true
    → is_some (owner (with_mutexes ls (put ls.mutexes m.0 x)) k) ≡ true
fresh_owns ls m x fresh None h = h
fresh_owns ls m x fresh (Some k) h =
    ap (λ o. is_some (owner_in o)) (get_put ls.mutexes m.0 k.0 x) ∙ fresh_owner ls.mutexes m.0 k.0 x (eqb m.0 k.0) refl (sym (has_get ls.mutexes m.0) ∙ fresh) h

init_by : (ls : Locks) (cs : Conds) (rs : Rows) (m : NameId) (made : Option Mutex) (b : Bool) → has ls.mutexes m.0 ≡ b → AreOwned ls cs rs
    → AreOwned (with_mutexes ls (put_if ls.mutexes m.0 (keep_if (not b) made))) cs rs
init_by ls cs rs m made true is h = h
init_by ls cs rs m None false is h = h
init_by ls cs rs m (Some x) false is h =
    let more : Locks = with_mutexes ls (put ls.mutexes m.0 x) in
    let makes : (k : NameId) → has ls.mutexes k.0 ≡ true → has more.mutexes k.0 ≡ true = λ k e. has_put ls.mutexes m.0 k.0 x e in record {
      sorted = h.sorted;
      owned = owned_grows ls more rs.seats (record { owns = fresh_owns ls m x is; makes = makes }) h.owned;
      made = made_grows ls more cs.waits makes h.made;
    }

pub init_owned : (ls : Locks) (cs : Conds) (rs : Rows) (m : NameId) (a : Option NameId) → AreOwned ls cs rs → AreOwned (init ls m a).locks cs rs
init_owned ls cs rs m a h = init_by ls cs rs m (option_map free_mutex (kind_at ls a)) (has ls.mutexes m.0) refl h

cut_get : {A : Type 0} (m : Table A) (k q : ℕ) → eqb k q ≡ false → get (cut m k) q ≡ get m q
cut_get m k q apart = get_cut m k q ∙ ap (λ b. cond b None (get m q)) apart

cut_row : (ls : Locks) (m : NameId) (r : RowId) → is_same_row (row.Mutex m) r ≡ false → HasOwner ls r → HasOwner (with_mutexes ls (cut ls.mutexes m.0)) r
cut_row ls m (row.Mutex k) apart h = ap (λ o. is_some (owner_in o)) (cut_get ls.mutexes m.0 k.0 apart) ∙ h
cut_row ls m row.Global apart h = h
cut_row ls m row.Ready apart h = tt
cut_row ls m (row.Cond c) apart h = tt
cut_row ls m (row.Join t) apart h = tt
cut_row ls m (row.Once c) apart h = tt
cut_row ls m (row.Reader p) apart h = tt
cut_row ls m (row.Writer p) apart h = tt
cut_row ls m row.Time apart h = tt

cut_wait : (ls : Locks) (m : NameId) (w : Wait) → is_with m w ≡ false → IsMade ls w → IsMade (with_mutexes ls (cut ls.mutexes m.0)) w
cut_wait ls m (Cond c k until) apart h = has_get (cut ls.mutexes m.0) k.0 ∙ ap is_some (cut_get ls.mutexes m.0 k.0 apart) ∙ sym (has_get ls.mutexes k.0) ∙ h
cut_wait ls m (Delay until) apart h = tt

neither : (a b : Bool) → (a || b) ≡ false → (a ≡ false) × (b ≡ false)
neither true b e = absurd (cc)
neither false b e = (refl, e)

found_either : (test : Wait → Bool) (x w : Wait) (o : Option Wait) (b : Bool) → test x ≡ false → (o ≡ Some w → test w ≡ false) → cond b (Some x) o ≡ Some w → test w ≡ false
found_either test x w o true here rest e = subst (λ (y : Wait). test y ≡ false) (ap (λ y. unwrap_or y x) e) here
found_either test x w o false here rest e = rest e

none_waits : (test : Wait → Bool) (waits : Table Wait) (q : ℕ) (w : Wait) → list_any (λ (e : ℕ × Wait). test e.1) waits ≡ false → get waits q ≡ Some w → test w ≡ false
none_waits test [] q w h e = absurd (cc (get_empty {A = Wait} q))
none_waits test (x ∷ waits) q w h e =
    let parts : (test x.1 ≡ false) × (list_any (λ (y : ℕ × Wait). test y.1) waits ≡ false) = neither (test x.1) (list_any (λ (y : ℕ × Wait). test y.1) waits) h in
    found_either test x.1 w (get waits q) (eqb x.0 q) parts.0 (none_waits test waits q w parts.1) (sym (get_cons x waits q) ∙ e)

-- Nobody waits for the mutex, nor on a condition with it.
record IsUnused (cs : Conds) (rs : Rows) (m : NameId) : Type 0 where
  row_empty : best rs (row.Mutex m) ≡ None
  no_wait : waits_with cs m ≡ false

destroyed : (ls : Locks) (cs : Conds) (rs : Rows) (m : NameId) (b : Bool) → (b ≡ true → IsUnused cs rs m) → AreOwned ls cs rs
    → AreOwned (with_mutexes ls (cut_if b ls.mutexes m.0)) cs rs
destroyed ls cs rs m false free h = h
destroyed ls cs rs m true free h =
    let f : IsUnused cs rs m = free refl in
    let less : Locks = with_mutexes ls (cut ls.mutexes m.0) in record {
      sorted = h.sorted;
      owned = λ q s e. other_place ls less (row.Mutex m) (cut_row ls m) s.place (nobody_at rs (row.Mutex m) q s h.sorted f.row_empty e) (h.owned q s e);
      made = λ q w e. cut_wait ls m w (none_waits (is_with m) cs.waits q w f.no_wait e) (h.made q w e);
    }

none_of : (a b c : Bool) → (a || b || c) ≡ false → (b ≡ false) × (c ≡ false)
none_of false false false e = (refl, refl)
none_of _ _ _ e = absurd (cc)

nothing : (o : Option Tid) → is_some o ≡ false → o ≡ None
nothing None e = refl
nothing (Some t) e = absurd (cc)

done_unused : (made used : Bool) → is_done (destroy_reply made used) ≡ true → used ≡ false
done_unused false used e = absurd (cc)
done_unused true true e = absurd (cc)
done_unused true false e = refl

pub destroy_owned : (ls : Locks) (cs : Conds) (rs : Rows) (m : NameId) → AreOwned ls cs rs → AreOwned (destroy ls rs m (waits_with cs m)).locks cs rs
destroy_owned ls cs rs m h =
    destroyed ls cs rs m (is_done (destroy_reply (has ls.mutexes m.0) (is_used ls rs m (waits_with cs m)))) (λ e.
    let parts : (is_some (best rs (row.Mutex m)) ≡ false) × (waits_with cs m ≡ false) =
    none_of (is_some (owner ls (Some m))) (is_some (best rs (row.Mutex m))) (waits_with cs m) (done_unused (has ls.mutexes m.0) (is_used ls rs m (waits_with cs m)) e) in
    record { row_empty = nothing (best rs (row.Mutex m)) parts.0; no_wait = parts.1 }) h

-- ---- rows

module _ (ls : Locks) (cs : Conds) (rs : Rows) (h : AreOwned ls cs rs) where
  pub block_if_owned : (b : Bool) (r : RowId) (t : Tid) (rank : ℕ) → (b ≡ true → HasOwner ls r) → AreOwned ls cs (block_if b rs r t rank)
  block_if_owned b r t rank k = record { sorted = canonical_block_if b rs r t rank h.sorted; owned = owned_block_if ls b rs r t rank k h.owned; made = h.made }

  pub block_in_owned : (r : RowId) (t : Tid) (rank : ℕ) → HasOwner ls r → AreOwned ls cs (block_in rs r t rank)
  block_in_owned r t rank k = record { sorted = canonical_block_in rs r t rank h.sorted; owned = owned_block_in ls rs r t rank k h.owned; made = h.made }

  pub take_out_owned : (o : Option Tid) → AreOwned ls cs (take_out_if rs o)
  take_out_owned o = record { sorted = canonical_take_out_if rs o h.sorted; owned = owned_take_out_if ls rs o h.owned; made = h.made }

  pub leave_owned : (t : Tid) → AreOwned ls cs (leave rs t)
  leave_owned t = record { sorted = canonical_leave rs t h.sorted; owned = owned_leave ls rs t h.owned; made = h.made }

  pub set_rank_owned : (t : Tid) (rank : ℕ) → AreOwned ls cs (set_rank rs t rank)
  set_rank_owned t rank = record { sorted = canonical_set_rank rs t rank h.sorted; owned = owned_set_rank ls rs t rank h.owned; made = h.made }

  pub free_row_owned : (rank : Tid → ℕ) (r : RowId) → AreOwned ls cs (free_row rank rs r).rows
  free_row_owned rank r = record { sorted = canonical_free_row rank rs r h.sorted; owned = owned_free_row ls rank rs r h.owned; made = h.made }

  pub keeps_owned : (t : Tid) (fifo : Bool) → AreOwned ls cs (keeps rs t fifo).rows
  keeps_owned t fifo = record { sorted = canonical_keeps rs t fifo h.sorted; owned = owned_keeps ls rs t fifo h.owned; made = h.made }

  pub dispatch_owned : (p : ℕ) → AreOwned ls cs (dispatch rs p).rows
  dispatch_owned p = record { sorted = canonical_dispatch rs p h.sorted; owned = owned_dispatch ls rs p h.owned; made = h.made }

-- ---- rows of mutexes without an owner

no_owner : (ls : Locks) (m : Option NameId) → owner ls m ≡ None → HasOwner ls (waiters_row m) → ⊥
no_owner ls None e h = absurd (cc (ap is_some e))
no_owner ls (Some m) e h = absurd (cc (ap is_some e))

owner_there : (ls : Locks) (r : RowId) (l : Place) → place_in r l ≡ true → HasOwnerAt ls l → HasOwner ls r
owner_there ls r (Runs p slice) e h = absurd (cc)
owner_there ls r (Stands s arrival) e h = subst (HasOwner ls) (sym (same_row r s e)) h

-- Nobody waits for what nobody owns.
pub nobody_waits : (ls : Locks) (cs : Conds) (rs : Rows) (m : Option NameId) → AreOwned ls cs rs → owner ls m ≡ None → best rs (waiters_row m) ≡ None
nobody_waits ls cs rs m h e = no_best rs (waiters_row m) h.sorted (λ t at.
    let s : (v : Seat) × HasSeat rs t.0 (waiters_row m) v = seat_of_row rs t (waiters_row m) at in
    no_owner ls m e (owner_there ls (waiters_row m) s.0.place s.1.placed (h.owned t.0 s.0 s.1.at)))
