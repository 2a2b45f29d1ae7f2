-- What pipes are opened on (docs/machine.md, "The opening").
use Rattle.std.specs.Prelude.{◌<◌, List, [], ◌∷◌, ⊤}
use Rattle.thr_syntax.specs.declared.tree.Item.{Item}
use Rattle.thr_syntax.specs.declared.tree.Item.TheVariants as item
use Rattle.thr_parts.specs.Tables.{names}

-- The names of pipes fit tables by names (docs/machine.md, "Tables").
abbrev pub FitTables : List Item → Type 0
FitTables [] = ⊤
FitTables (item.Pipe p capacity ∷ items) = (p.0 < names) × FitTables items
FitTables (_ ∷ items) = FitTables items
