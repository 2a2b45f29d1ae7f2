-- The texts of names.
use Rattle.std.specs.Prelude.{ℕ, ◌≤◌, ◌<◌, List, length}

-- A name has one to twenty-four bytes (docs/script.md, "Words").
pub record IsNameText (bytes : List ℕ) : Type 0 where
  pub some : 0 < length bytes
  pub few : length bytes ≤ 24
