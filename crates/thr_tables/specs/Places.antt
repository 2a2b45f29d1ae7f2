-- Where a number has its place in a table whose numbers rise (docs/machine.md, "Tables").
use Rattle.std.specs.Prelude.{ℕ, suc, Bool, false, ◌||◌, nat_lt, ◌==◌, if◌then◌else◌, [], ◌∷◌, length}
use Rattle.thr_parts.specs.Tables.{Table, has}

-- How many entries from the left on have lesser numbers: the place of this number (docs/machine.md, "Tables").
unfoldable pub place : {A : Type 0} → ℕ → Table A → ℕ
place t [] = 0
place t (e ∷ es) = if nat_lt e.0 t then suc (place t es) else 0

-- The entry at that place has this number (docs/machine.md, "Tables").
unfoldable pub is_there : {A : Type 0} → ℕ → Table A → Bool
is_there t [] = false
is_there t (e ∷ es) = if nat_lt e.0 t then is_there t es else e.0 == t

-- Something stands at the number, or the table has room for one entry more (docs/machine.md, "Tables").
abbrev pub has_place : {A : Type 0} → Table A → ℕ → ℕ → Bool
has_place m t room = has m t || nat_lt (length m) room
