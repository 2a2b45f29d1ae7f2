-- Seats in a table in which a thread that has none may keep its entry.
use Rattle.std.specs.Prelude.{[], ◌∷◌, Option, Some, None}
use Rattle.thr_parts.specs.Tables.{Table, none, put_if}

-- What is there twice over, or nothing.
abbrev pub joined : {A : Type 0} → Option (Option A) → Option A
joined None = None
joined (Some o) = o

-- The entries whose threads have something (docs/machine.md, "Tables").
unfoldable pub seated : {A : Type 0} → Table (Option A) → Table A
seated [] = none
seated (e ∷ es) = put_if (seated es) e.0 e.1
