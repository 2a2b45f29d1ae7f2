-- The once block that ends the quiet part of a turn (docs/machine.md, "Once blocks").
use Rattle.std.specs.Prelude.{Option, Some, None}
use Rattle.thr_values.specs.declared.number.NameId.{NameId}
use Rattle.thr_remainder.specs.Runs.{Halt, Undoes, Completes}

-- The once block that ends the quiet part of a turn, done or undone, if one does (docs/machine.md, "Once blocks").
abbrev pub block_of : Halt → Option NameId
block_of (Undoes block move) = Some block
block_of (Completes block move) = Some block
block_of _ = None
