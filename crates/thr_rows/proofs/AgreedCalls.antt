-- An object that keeps waits goes on to agree with the rows after calls on mutexes, the global lock and once blocks.
use Rattle.std.proofs.Common.{◌≡◌, ℕ, Bool, true, false, ◌&&◌, cond, Option, Some, None}
use Rattle.thr_values.specs.declared.number.Tid.{Tid}
use Rattle.thr_values.specs.declared.number.NameId.{NameId}
use Rattle.thr_parts.specs.declared.row.RowId.TheVariants as row
use Rattle.thr_parts.specs.Tables.{Table, get, IsCanonical}
use Rattle.thr_parts.specs.Replies.{is_done, is_blocks}
use Rattle.thr_parts.specs.Rows.{Rows}
use Rattle.thr_parts.specs.Mutexes.{Locks, mutex_at, waiters_row, owner}
use Rattle.thr_parts.specs.Locking.{is_free, is_last, lock, lock_reply, unlock, unlock_reply, regain}
use Rattle.thr_parts.specs.Waking.{resume}
use Rattle.thr_parts.specs.Keys.{Onces}
use Rattle.thr_parts.specs.OnceBlocks.{enter, undone}
use Rattle.thr_rows.proofs.AgreementLaws.{Waits, Agree, agree_put, agree_block_if, agree_take_best}

-- No thread that waits for a mutex, for the global lock or at a once block has a wait of the object.
pub record IsOther {W : Type 0} (o : Waits W) : Type 0 where
  pub lock : (m : Option NameId) → o.its (Some (waiters_row m)) ≡ None
  pub once : (b : NameId) → o.its (Some (row.Once b)) ≡ None

pub agree_lock : {W : Type 0} (o : Waits W) (m : Table W) (ls : Locks) (rs : Rows) (l : Option NameId) (t : Tid) (rank : ℕ) → IsOther o → Agree o m rs → get m t.0 ≡ None → Agree o m (lock ls rs l t rank).rows
agree_lock o m ls rs l t rank other h alone = agree_block_if o (is_blocks (lock_reply (mutex_at ls l) t)) m rs (waiters_row l) t rank h alone (other.lock l)

pub agree_unlock : {W : Type 0} (o : Waits W) (m : Table W) (ls : Locks) (rs : Rows) (l : Option NameId) (t : Tid) → IsOther o → IsCanonical rs.seats → Agree o m rs → Agree o m (unlock ls rs l t).rows
agree_unlock o m ls rs l t other h agrees = agree_take_best o (is_done (unlock_reply (mutex_at ls l) t) && is_last (owner ls l)) m rs (waiters_row l) h agrees (other.lock l)

pub agree_regain : {W : Type 0} (o : Waits W) (m : Table W) (ls : Locks) (rs : Rows) (l : NameId) (t : Tid) (rank : ℕ) → IsOther o → Agree o m rs → get m t.0 ≡ None → Agree o m (regain ls rs l t rank).rows
agree_regain o m ls rs l t rank other h alone =
    agree_put o m rs (cond (is_free (mutex_at ls (Some l))) row.Ready (row.Mutex l)) t rank h alone (no_wait (is_free (mutex_at ls (Some l))))
  where
    no_wait : (b : Bool) → o.its (Some (cond b row.Ready (row.Mutex l))) ≡ None
    no_wait true = o.ready
    no_wait false = other.lock (Some l)

pub agree_resume : {W : Type 0} (o : Waits W) (m : Table W) (rank : Tid → ℕ) (ls : Locks) (rs : Rows) (t : Tid) (l : Option NameId) → IsOther o → Agree o m rs → get m t.0 ≡ None
    → Agree o m (resume rank ls rs t l).rows
agree_resume o m rank ls rs t None other h alone = agree_put o m rs row.Ready t (rank t) h alone o.ready
agree_resume o m rank ls rs t (Some l) other h alone = agree_regain o m ls rs l t (rank t) other h alone

pub agree_enter : {W : Type 0} (o : Waits W) (m : Table W) (os : Onces) (rs : Rows) (b : NameId) (t : Tid) (rank : ℕ) → IsOther o → Agree o m rs → get m t.0 ≡ None → Agree o m (enter os rs b t rank).rows
agree_enter o m os rs b t rank other h alone = agree_block_if o (is_blocks (enter os rs b t rank).reply) m rs (row.Once b) t rank h alone (other.once b)

pub agree_undone : {W : Type 0} (o : Waits W) (m : Table W) (os : Onces) (rs : Rows) (b : NameId) → IsOther o → IsCanonical rs.seats → Agree o m rs → Agree o m (undone os rs b).rows
agree_undone o m os rs b other h agrees = agree_take_best o true m rs (row.Once b) h agrees (other.once b)
