-- Items that enter pipes (docs/machine.md, "Pipes").
use Rattle.std.specs.Prelude.{ℤ, List, [], ◌∷◌, Option, Some, None}

-- The item that is there, as the items that enter (docs/machine.md, "Pipes").
abbrev pub entering : Option ℤ → List ℤ
entering None = []
entering (Some v) = v ∷ []
