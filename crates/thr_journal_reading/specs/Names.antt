-- The names of a script with their kinds, one list beside the other.
use Rattle.std.specs.Prelude.{ℕ, List, [], ◌∷◌, ◌++◌, map, replicate, Option, Some, None}
use Rattle.thr_values.specs.declared.number.NameId.{NameId}
use Rattle.thr_text.specs.declared.object.Object.{Object}
use Rattle.thr_text.specs.declared.object.Object.TheVariants as object
use Rattle.thr_text.specs.Tables.{Entry}
use Rattle.thr_syntax.specs.declared.tree.Item.{Item}
use Rattle.thr_trees.specs.Kinds.{declared_by}
use Rattle.thr_trees.specs.Names.{Asked, declared_of}

abbrev pub kind_of : Option Asked → Option Object
kind_of None = None
kind_of (Some a) = Some a.1

abbrev pub kinds_of : List Asked → List Object
kinds_of asked = map (λ a. a.1) asked

-- The kinds of the names that declarations declare, in their order.
abbrev pub kinds_among : List Item → List Object
kinds_among [] = []
kinds_among (i ∷ items) = kinds_of (declared_of (declared_by i)) ++ kinds_among items

abbrev pub builtin_kinds : List Object
builtin_kinds = replicate 10 object.Exception

-- The first of these kinds, and the others. Where there is none the first is free.
abbrev pub first_kind : List Object → Object
first_kind [] = object.Exception
first_kind (k ∷ kinds) = k

abbrev pub other_kinds : List Object → List Object
other_kinds [] = []
other_kinds (k ∷ kinds) = kinds

abbrev pub with_kind : List ℕ → Object → Entry
with_kind name kind = (name, kind)

-- Names with their kinds.
unfoldable pub paired : List (List ℕ) → List Object → List Entry
paired [] kinds = []
paired (n ∷ names) kinds = (n, first_kind kinds) ∷ paired names (other_kinds kinds)
