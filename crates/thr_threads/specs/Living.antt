-- The threads that have not ended (docs/machine.md, "Stops").
use Rattle.std.specs.Prelude.{ℕ, ◌+◌, List, [], ◌∷◌, map, length, Option, Some, None}
use Rattle.std.specs.List.{filter}
use Rattle.thr_values.specs.declared.number.Tid.{Tid}
use Rattle.thr_parts.specs.declared.thread.Thread.{Thread}
use Rattle.thr_parts.specs.Tables.{Table}
use Rattle.thr_parts.specs.Rows.{thread}
use Rattle.thr_parts.specs.Threads.{is_live}

-- The threads of these records that have not ended, the least first (docs/machine.md, "Stops").
abbrev pub living : Table Thread → List Tid
living records = map (λ e. thread e.0) (filter is_live records)

-- How many threads these are, and the first of them (docs/machine.md, "Stops").
abbrev pub count_and_first : List Tid → ℕ × Option Tid
count_and_first [] = (0, None)
count_and_first (t ∷ ts) = (length ts + 1, Some t)
