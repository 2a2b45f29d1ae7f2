-- The numbers of the names of a script.
use Rattle.std.specs.Prelude.{ℕ, nat_lt, if◌then◌else◌, Option, Some, None}
use Rattle.thr_values.specs.declared.number.NameId.{NameId}

-- The number of the name at this place among a script's names. Behind 65,536 names there are none.
abbrev pub id_at : Option ℕ → Option NameId
id_at None = None
id_at (Some place) = if nat_lt place 65536 then Some (record { 0 = place }) else None
