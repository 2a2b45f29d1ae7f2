-- What attribute cells hold (docs/machine.md, "Attribute cells").
use Rattle.std.specs.Prelude.{◌≡◌, ℕ, Some}
use Rattle.thr_parts.specs.declared.thread.Attr.{Attr}
use Rattle.thr_parts.specs.Tables.{Table, get}
use Rattle.thr_threads.specs.Records.{IsRight}

-- Each cell has what cells can have (docs/machine.md, "Attribute cells").
abbrev pub AreRight : Table Attr → Type 0
AreRight cells = (a : ℕ) (cell : Attr) → get cells a ≡ Some cell → IsRight cell.prio cell.frames
