-- The arguments of a call's line (docs/journal.md, "Calls").
use Rattle.std.specs.Prelude.{ℤ, List, [], ◌∷◌, ◌++◌, take, replicate, Option, Some, None}
use Rattle.thr_values.specs.declared.number.NameId.{NameId}
use Rattle.thr_values.specs.declared.call.CallWord.{CallWord}
use Rattle.thr_values.specs.declared.call.Arg.{Arg}
use Rattle.thr_values.specs.declared.call.Arg.TheVariants as arg
use Rattle.thr_remainder.specs.Calls.{Part, Name, Value, Word}
use Rattle.thr_asking.specs.declared.places.Said.{Said}

-- A name, or the one word that may stand in its place (docs/journal.md, "Calls").
abbrev pub name_argument : Option NameId → Arg
name_argument (Some name) = arg.Name name
name_argument None = arg.Word 0

-- The first value, if there is one (docs/journal.md, "Calls").
abbrev pub first_argument : List ℤ → Arg
first_argument [] = arg.Nothing
first_argument (n ∷ ns) = arg.Num n

-- The second value, if there is one (docs/journal.md, "Calls").
abbrev pub second_argument : List ℤ → Arg
second_argument [] = arg.Nothing
second_argument (n ∷ ns) = first_argument ns

-- What stands at these places, where these are the values of the first two expressions (docs/journal.md, "Calls").
abbrev pub placed : Arg → Arg → List Part → List Arg
placed x y [] = []
placed x y (Name name ∷ parts) = arg.Name name ∷ placed x y parts
placed x y (Word place ∷ parts) = arg.Word place ∷ placed x y parts
placed x y (Value e ∷ parts) = x ∷ placed y arg.Nothing parts

-- The word of a call with these arguments, and nothing at the rest of the four places (docs/journal.md, "Calls").
abbrev pub said_as : CallWord → List Arg → Said
said_as word args = record { call = word; args = take 4 (args ++ replicate 4 arg.Nothing) }
