-- Tables from numbers to what stands at them (docs/machine.md, "Tables").
use Rattle.std.specs.Prelude.{◌≡◌, ℕ, ◌+◌, Bool, true, false, not, ◌==◌, is_some, unwrap_or, List, [], ◌∷◌, Option, Some, None}
use Rattle.std.specs.Ordering.{nat_cmp}
use Rattle.std.specs.FinMap.Entries as entries

-- Names have numbers below this: the ten built-in exceptions, and 1,000 names that a script declares (docs/script.md,
-- "Faults").
abbrev pub names : ℕ
names = 1010

-- Entries by their numbers. A number at which nothing stands has none (docs/machine.md, "Tables").
abbrev pub Table : Type 0 → Type 0
Table A = List (ℕ × A)

-- The table without an entry.
unfoldable pub none : {A : Type 0} → Table A
none = []

-- What stands at this number.
unfoldable pub get : {A : Type 0} → Table A → ℕ → Option A
get m k = entries.find nat_cmp k m

-- What stands at this number, or else d.
unfoldable pub at : {A : Type 0} → Table A → ℕ → A → A
at m k d = unwrap_or (entries.find nat_cmp k m) d

-- Something stands at this number.
unfoldable pub has : {A : Type 0} → Table A → ℕ → Bool
has m k = is_some (entries.find nat_cmp k m)

-- The table with v at this number, whatever stood there.
unfoldable pub put : {A : Type 0} → Table A → ℕ → A → Table A
put m k v = entries.put nat_cmp k v m

-- The table with nothing at this number.
unfoldable pub cut : {A : Type 0} → Table A → ℕ → Table A
cut m k = entries.where_key nat_cmp (λ j. not (k == j)) m

-- The table with the value that is there, if one is, at this number.
abbrev pub put_if : {A : Type 0} → Table A → ℕ → Option A → Table A
put_if m k None = m
put_if m k (Some v) = put m k v

-- The table with nothing at this number, or as it is.
abbrev pub cut_if : {A : Type 0} → Bool → Table A → ℕ → Table A
cut_if true m k = cut m k
cut_if false m k = m

-- What is there, or nothing.
abbrev pub keep_if : {A : Type 0} → Bool → Option A → Option A
keep_if true o = o
keep_if false o = None

-- The table of the items that are there, at n, n + 1 and so on.
unfoldable pub present : {A : Type 0} → ℕ → List (Option A) → Table A
present n [] = none
present n (None ∷ xs) = present (n + 1) xs
present n (Some x ∷ xs) = put (present (n + 1) xs) n x

-- The numbers rise from entry to entry. So no number has two entries, and two tables that have the same at each number are
-- equal (docs/machine.md, "Tables").
abbrev pub IsCanonical : {A : Type 0} → Table A → Type 0
IsCanonical m = entries.is_sorted nat_cmp m ≡ true
