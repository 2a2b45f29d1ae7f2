-- Names that have their place in tables (docs/machine.md, "Tables").
use Rattle.std.specs.Prelude.{◌<◌, Option, IfSome}
use Rattle.thr_values.specs.declared.number.NameId.{NameId}
use Rattle.thr_parts.specs.Tables.{names}

-- A name of the tables by names, as all names are that a script has (docs/script.md, "Faults").
abbrev pub IsName : NameId → Type 0
IsName name = name.0 < names

-- The name that is there is one (docs/script.md, "Faults").
abbrev pub IsNameIfThere : Option NameId → Type 0
IsNameIfThere name = IfSome name (λ n. n.0 < names)
