-- Records in a slab under keys, which are given out again, and what each record holds (docs/machine.md, "Thread records").
use Rattle.std.specs.Prelude.{◌≡◌, ℕ, ℤ, ◌^◌, ◌<◌, ◌≤◌, [], ◌∷◌, length, Option, Some, None}
use Rattle.slab.specs.Slab.{Slab, get as under, slab_len}
use Rattle.thr_values.specs.declared.scheduling.Policy.TheVariants as policy
use Rattle.thr_parts.specs.declared.thread.Thread.{Thread}
use Rattle.thr_parts.specs.Tables.{Table, none, get, IsCanonical}
use Rattle.thr_parts.specs.Rows.{thread, most}
use Rattle.thr_parts.specs.Threads.{new_thread, record_of}

-- A priority and a stack size that threads and attribute cells can have (docs/machine.md, "Attribute cells").
pub record IsRight (prio frames : ℕ) : Type 0 where
  pub prio_most : prio ≤ 31
  pub frames_least : 16 ≤ frames
  pub frames_most : frames ≤ 1024

-- The record is that of the thread of this number, and has what threads can have (docs/machine.md, "Thread records").
pub record IsRecordOf (t : ℕ) (th : Thread) : Type 0 where
  pub number : th.tid.0 ≡ t
  pub number_fits : t < 2 ^ 32
  pub right : IsRight th.prio th.frames

-- The record that is there, or else that of no thread.
abbrev pub record_in : Option Thread → Thread
record_in None = new_thread (thread 0) policy.Fg 16 256
record_in (Some th) = th

-- The record under a key, or else that of no thread.
abbrev pub record_under : Slab Thread → ℕ → Thread
record_under s key = record_in (under s key)

-- The records by the numbers of their threads: at each number stands what is under the number's key (docs/machine.md, "Thread
-- records").
unfoldable pub records_by : Table ℕ → Slab Thread → Table Thread
records_by [] s = []
records_by (e ∷ es) s = (e.0, record_under s e.1) ∷ records_by es s

-- Under the key stands the record of the thread of this number (docs/machine.md, "Thread records").
pub record IsStored (s : Slab Thread) (t key : ℕ) : Type 0 where
  pub held : Thread
  pub stands : under s key ≡ Some held
  pub is_its : IsRecordOf t held

-- Each number has a key under which its record stands, nothing else stands in the slab, and there is room for the most records
-- that there can be (docs/machine.md, "Thread records").
pub record IsKept (keys : Table ℕ) (s : Slab Thread) : Type 0 where
  pub rises : IsCanonical keys
  pub stored : (t key : ℕ) → get keys t ≡ Some key → IsStored s t key
  pub as_many : slab_len s ≡ length keys
  pub room : most ≤ s.capacity

-- The record among these of the thread that a number names (docs/machine.md, "Thread records").
abbrev pub named : Table Thread → ℤ → Option Thread
named records target = record_of (record { records = records; next = 0; attrs = none }) target
