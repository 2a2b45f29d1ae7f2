-- Mutexes as they are counted (docs/journal.md, "The report").
use Rattle.std.specs.Prelude.{ℕ, ◌==◌, Bool, false, if◌then◌else◌, List, [], ◌∷◌, Option, Some, None}
use Rattle.thr_values.specs.declared.number.NameId.{NameId}
use Rattle.thr_values.specs.declared.history.Entry.{Entry}
use Rattle.thr_verdict.specs.Report.{how_many, acquires}

-- The name is this one, where there is one.
abbrev pub is_the_name : NameId → Option NameId → Bool
is_the_name m None = false
is_the_name m (Some n) = m.0 == n.0

-- The name of this number.
abbrev pub name_of : ℕ → NameId
name_of k = record { 0 = k }

-- One, where it is so.
abbrev pub one_if : Bool → ℕ
one_if b = if b then 1 else 0

-- How often a thread got the mutex of this number (docs/journal.md, "The report").
abbrev pub times : List Entry → ℕ → ℕ
times entries k = how_many (acquires (name_of k)) entries

-- A name as a list of one, and none as the empty list.
abbrev pub listed : Option NameId → List NameId
listed None = []
listed (Some m) = m ∷ []
