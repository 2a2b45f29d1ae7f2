-- The four arguments of a call.
use Rattle.std.specs.Prelude.{ℕ, List, [], ◌∷◌, slice_index_or, Option, Some, None}
use Rattle.std.specs.Option.{option_map}
use Rattle.thr_values.specs.declared.call.Arg.{Arg}
use Rattle.thr_values.specs.declared.call.Arg.TheVariants as arg
use Rattle.thr_text.specs.declared.head.Slot.{Slot}
use Rattle.thr_journals.specs.Lines.{four}

-- What is read of arguments, with nothing at the last places, and the words that are left.
abbrev pub filled_up : Option (List Arg × List (List ℕ)) → Option (List Arg × List (List ℕ))
filled_up read = option_map (λ x. (four x.0, x.1)) read

-- The first of these places.
abbrev pub first_place : List Slot → Option Slot
first_place [] = None
first_place (p ∷ places) = Some p

-- This argument and then the first three of these.
abbrev pub in_front : Arg → List Arg → List Arg
in_front first others = first ∷ slice_index_or others 0 arg.Nothing ∷ slice_index_or others 1 arg.Nothing ∷ slice_index_or others 2 arg.Nothing ∷ []
