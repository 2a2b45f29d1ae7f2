-- What was taken from a source, where it tells its bytes.
use Rattle.std.specs.Prelude.{ℕ, ◌≡◌, ◌+◌, ◌<◌, ◌≤◌, List, [], length, ⊤, Option, None, Some}

-- All that was left was taken, and is these bytes (docs/theorems.md, "Devices").
abbrev pub TookAll : Option (List ℕ) → Option (List ℕ) → List ℕ → Type 0
TookAll None now bytes = ⊤
TookAll (Some before) None bytes = ⊥
TookAll (Some before) (Some now) bytes = (before ≡ bytes) × (now ≡ [])

-- At most so many bytes were taken (docs/theorems.md, "Devices").
abbrev pub TookAtMost : ℕ → Option (List ℕ) → Option (List ℕ) → Type 0
TookAtMost most None now = ⊤
TookAtMost most (Some before) None = ⊥
TookAtMost most (Some before) (Some now) = length before ≤ most + length now

-- More than so many of the bytes that were left were taken (docs/theorems.md, "Devices").
abbrev pub TookMoreThan : ℕ → List ℕ → Option (List ℕ) → Type 0
TookMoreThan n before None = ⊥
TookMoreThan n before (Some now) = n + length now < length before
