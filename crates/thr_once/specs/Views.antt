-- Keys and once blocks as contracts see them (docs/machine.md, "Once blocks" and "Keys").
use Rattle.std.specs.Prelude.{ℕ}
use Rattle.thr_parts.specs.Tables.{Table}
use Rattle.thr_parts.specs.Keys.{Key, Onces}

-- The keys that are made, and for how many more values there is room (docs/machine.md, "Keys").
pub record KeysView : Type 0 where
  pub keys : Table Key
  pub room : ℕ

-- The once blocks and keys of the machine's state, and for how many more values of keys there is room (docs/machine.md, "Once
-- blocks" and "Keys").
pub record OncesView : Type 0 where
  pub state : Onces
  pub room : ℕ
