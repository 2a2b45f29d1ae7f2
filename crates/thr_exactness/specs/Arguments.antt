-- The arguments of call lines stand in front (docs/journal.md, "Calls").
use Rattle.std.specs.Prelude.{◌==◌, Bool, true, ◌&&◌, List, [], ◌∷◌, length}
use Rattle.std.specs.List.{list_all}
use Rattle.thr_values.specs.declared.call.Arg.{Arg}
use Rattle.thr_values.specs.declared.call.Arg.TheVariants as arg
use Rattle.thr_values.specs.declared.history.What.{What}
use Rattle.thr_values.specs.declared.history.What.TheVariants as what
use Rattle.thr_verdict.specs.Places.{is_absent}

-- No argument stands behind a place that has none.
abbrev pub stand_in_front : List Arg → Bool
stand_in_front [] = true
stand_in_front (arg.Nothing ∷ args) = list_all is_absent args
stand_in_front (_ ∷ args) = stand_in_front args

-- A call's line has four places, those with arguments in front (docs/journal.md, "Calls").
abbrev pub has_arguments_in_front : What → Bool
has_arguments_in_front (what.Call c args r) = (length args == 4) && stand_in_front args
has_arguments_in_front _ = true
