-- Values in a slab under keys, which are given out again, by the numbers of threads (docs/machine.md, "Tables").
use Rattle.std.specs.Prelude.{◌≡◌, ℕ, ◌≤◌, [], ◌∷◌, length, Option, Some, None}
use Rattle.slab.specs.Slab.{Slab, get as under, slab_len, ContainsKey}
use Rattle.thr_parts.specs.Tables.{Table, get, IsCanonical}
use Rattle.thr_parts.specs.Rows.{most}

-- These entries behind that of this number, if a value is there (docs/machine.md, "Tables").
abbrev pub behind : {A : Type 0} → ℕ → Option A → Table A → Table A
behind t None m = m
behind t (Some v) m = (t, v) ∷ m

-- The values by the numbers of their threads: at each number stands what is under the number's key (docs/machine.md,
-- "Tables").
unfoldable pub values_by : {A : Type 0} → Table ℕ → Slab A → Table A
values_by [] s = []
values_by (e ∷ es) s = behind e.0 (under s e.1) (values_by es s)

-- Each number has a key of its own under which a value stands, nothing else stands in the slab, and there is room for the most
-- threads that there can be (docs/machine.md, "Tables").
pub record IsKept {A : Type 0} (keys : Table ℕ) (s : Slab A) : Type 0 where
  pub rises : IsCanonical keys
  pub stored : (t key : ℕ) → get keys t ≡ Some key → ContainsKey s key
  pub alone : (t q key : ℕ) → get keys t ≡ Some key → get keys q ≡ Some key → q ≡ t
  pub as_many : slab_len s ≡ length keys
  pub room : most ≤ s.capacity
