-- Names that are distinct (docs/script.md, "Names" and "Faults", F15).
use Rattle.std.specs.Prelude.{◌≡◌, ℕ, ◌<◌, List, length}
use Rattle.thr_syntax.specs.Spelling.{name_at}

-- Names at two places are two names (docs/script.md, "Names").
abbrev pub AllDistinct : List (List ℕ) → Type 0
AllDistinct names = (i j : ℕ) → i < length names → j < length names → name_at names i ≡ name_at names j → i ≡ j

-- None of these locals has one of these names (docs/script.md, "Faults", F15).
abbrev pub Apart : List (List ℕ) → List (List ℕ) → Type 0
Apart names locals = (i j : ℕ) → i < length names → j < length locals → name_at names i ≡ name_at locals j → ⊥

-- The parameter and the locals of a routine are distinct, and none of them has a name of the script (docs/script.md,
-- "Faults", F15).
pub record AreOwnNames (names locals : List (List ℕ)) : Type 0 where
  pub distinct : AllDistinct locals
  pub apart : Apart names locals
