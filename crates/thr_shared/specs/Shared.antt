-- The values of shared variables (docs/machine.md, "Shared statements").
use Rattle.std.specs.Prelude.{ℕ, ℤ, ◌<◌, pos, slice_get, unwrap_or, List, [], ◌∷◌, Option, None, Some, ⊤}
use Rattle.thr_values.specs.declared.number.NameId.{NameId}
use Rattle.thr_syntax.specs.declared.tree.Item.{Item}
use Rattle.thr_syntax.specs.declared.tree.Item.TheVariants as item
use Rattle.thr_remainder.specs.Expressions.{SharedValues}
use Rattle.thr_parts.specs.Tables.{Table, at, names}
use Rattle.thr_model.specs.States.{with_writes}

-- The names of shared variables fit tables by names.
abbrev pub FitTables : List Item → Type 0
FitTables [] = ⊤
FitTables (item.Shared name n ∷ items) = (name.0 < names) × FitTables items
FitTables (_ ∷ items) = FitTables items

-- The values of shared variables in their table.
abbrev pub values_in : Table ℤ → SharedValues
values_in shared name = at shared name.0 (pos 0)

-- Values of shared variables by their places; a name past the end has 0.
abbrev pub shared_of : List ℤ → SharedValues
shared_of values name = unwrap_or (slice_get values name.0) (pos 0)

-- The table where this variable has its new value, or none has one.
abbrev pub with_written : Table ℤ → Option (NameId × ℤ) → Table ℤ
with_written shared None = shared
with_written shared (Some w) = with_writes shared (w ∷ [])
