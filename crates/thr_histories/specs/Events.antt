-- Events of worked histories by choice.
use Rattle.std.specs.Prelude.{List, [], ◌∷◌}
use Rattle.thr_values.specs.declared.event.Event.{Event}
use Rattle.thr_values.specs.declared.event.Event.TheVariants as events

-- Those of the bounded buffer on four processors.
abbrev pub buffer_events : List Event
buffer_events =
    events.Dispatch 2 ∷ events.Turn 2 ∷ events.Turn 2 ∷ events.Turn 2 ∷ events.Turn 2 ∷ events.Dispatch 1 ∷ events.Turn 1 ∷ events.Turn 1
    ∷ events.Turn 1 ∷ events.Turn 1 ∷ events.Turn 1 ∷ events.Turn 1 ∷ events.Turn 1 ∷ events.Turn 1 ∷ events.Turn 1 ∷ events.Turn 1
    ∷ events.Turn 1 ∷ events.Turn 1 ∷ events.Turn 1 ∷ events.Turn 1 ∷ events.Turn 1 ∷ events.Turn 1 ∷ events.Turn 1 ∷ events.Turn 2
    ∷ events.Dispatch 3 ∷ events.Turn 3 ∷ events.Turn 3 ∷ events.Turn 3 ∷ events.Turn 2 ∷ events.Turn 2 ∷ events.Turn 2 ∷ events.Dispatch 3
    ∷ events.Dispatch 0 ∷ events.Turn 3 ∷ events.Turn 3 ∷ events.Turn 3 ∷ events.Turn 3 ∷ events.Turn 3 ∷ events.Turn 3 ∷ events.Turn 3
    ∷ events.Turn 3 ∷ events.Dispatch 2 ∷ events.Dispatch 1 ∷ events.Turn 2 ∷ events.Turn 2 ∷ events.Turn 2 ∷ events.Turn 2 ∷ events.Turn 0
    ∷ events.Turn 1 ∷ events.Turn 2 ∷ events.Turn 2 ∷ events.Turn 2 ∷ events.Dispatch 3 ∷ events.Turn 3 ∷ events.Turn 3 ∷ events.Turn 2
    ∷ events.Turn 3 ∷ events.Turn 3 ∷ events.Turn 3 ∷ events.Turn 3 ∷ events.Turn 3 ∷ events.Turn 3 ∷ events.Dispatch 2 ∷ events.Turn 2
    ∷ events.Turn 2 ∷ events.Turn 2 ∷ events.Dispatch 0 ∷ events.Turn 0 ∷ events.Turn 2 ∷ events.Turn 2 ∷ events.Turn 2 ∷ events.Turn 2
    ∷ events.Turn 2 ∷ events.Dispatch 1 ∷ events.Turn 1 ∷ events.Turn 1 ∷ events.Turn 1 ∷ events.Turn 1 ∷ events.Turn 1 ∷ events.Dispatch 0
    ∷ events.Turn 0 ∷ events.Turn 1 ∷ events.Turn 1 ∷ events.Dispatch 0 ∷ events.Turn 1 ∷ events.Turn 0 ∷ events.Turn 0 ∷ events.Turn 0
    ∷ events.Turn 0 ∷ events.Turn 0 ∷ events.Turn 0 ∷ events.Turn 0 ∷ events.Dispatch 3 ∷ events.Turn 3 ∷ events.Turn 3 ∷ events.Turn 3
    ∷ events.Turn 3 ∷ events.Turn 3 ∷ events.Turn 3 ∷ events.Turn 3 ∷ events.Turn 3 ∷ events.Dispatch 2 ∷ events.Dispatch 3 ∷ events.Turn 3
    ∷ events.Turn 2 ∷ events.Turn 2 ∷ events.Turn 0 ∷ events.Turn 2 ∷ events.Turn 2 ∷ events.Turn 2 ∷ events.Turn 2 ∷ events.Turn 2
    ∷ events.Turn 2 ∷ events.Dispatch 3 ∷ events.Dispatch 0 ∷ events.Turn 0 ∷ events.Turn 3 ∷ events.Turn 3 ∷ events.Turn 3 ∷ events.Turn 3
    ∷ events.Turn 3 ∷ events.Turn 3 ∷ events.Turn 3 ∷ events.Dispatch 0 ∷ events.Turn 0 ∷ events.Turn 0 ∷ events.Turn 0 ∷ events.Turn 0
    ∷ events.Turn 0 ∷ events.Turn 0 ∷ events.Turn 3 ∷ events.Turn 0 ∷ events.Turn 0 ∷ events.Dispatch 0 ∷ events.Dispatch 2 ∷ events.Turn 2
    ∷ events.Turn 2 ∷ events.Turn 2 ∷ events.Turn 2 ∷ events.Turn 2 ∷ events.Dispatch 1 ∷ events.Turn 2 ∷ events.Turn 2 ∷ events.Turn 2
    ∷ events.Turn 1 ∷ events.Dispatch 1 ∷ events.Turn 1 ∷ events.Turn 1 ∷ events.Turn 1 ∷ events.Turn 1 ∷ events.Turn 1 ∷ events.Turn 1
    ∷ events.Turn 1 ∷ events.Turn 1 ∷ events.Dispatch 2 ∷ events.Turn 2 ∷ events.Turn 2 ∷ events.Turn 2 ∷ events.Turn 2 ∷ events.Turn 2
    ∷ events.Turn 2 ∷ events.Dispatch 1 ∷ events.Turn 0 ∷ events.Turn 0 ∷ events.Turn 0 ∷ events.Turn 2 ∷ events.Turn 2 ∷ events.Dispatch 3
    ∷ events.Turn 1 ∷ events.Turn 3 ∷ events.Turn 3 ∷ events.Turn 3 ∷ events.Turn 3 ∷ events.Turn 3 ∷ events.Turn 3 ∷ events.Turn 3
    ∷ events.Turn 3 ∷ events.Dispatch 1 ∷ events.Dispatch 2 ∷ events.Turn 2 ∷ events.Turn 1 ∷ events.Turn 1 ∷ events.Turn 1 ∷ events.Turn 1
    ∷ events.Turn 1 ∷ events.Turn 1 ∷ events.Turn 1 ∷ events.Dispatch 2 ∷ events.Turn 2 ∷ events.Turn 2 ∷ events.Turn 2 ∷ events.Turn 2
    ∷ events.Turn 2 ∷ events.Turn 2 ∷ events.Turn 2 ∷ events.Turn 2 ∷ events.Dispatch 0 ∷ events.Turn 0 ∷ events.Turn 0 ∷ events.Dispatch 2
    ∷ events.Turn 0 ∷ events.Turn 1 ∷ events.Turn 1 ∷ events.Turn 1 ∷ events.Turn 1 ∷ events.Turn 1 ∷ events.Turn 2 ∷ events.Turn 1
    ∷ events.Turn 1 ∷ events.Turn 1 ∷ events.Dispatch 3 ∷ events.Turn 3 ∷ events.Turn 3 ∷ events.Turn 3 ∷ events.Turn 3 ∷ events.Turn 3
    ∷ events.Turn 3 ∷ events.Turn 3 ∷ events.Turn 3 ∷ events.Dispatch 0 ∷ events.Turn 0 ∷ events.Turn 0 ∷ events.Turn 0 ∷ events.Dispatch 1
    ∷ events.Turn 0 ∷ events.Turn 0 ∷ events.Turn 1 ∷ events.Dispatch 3 ∷ events.Turn 3 ∷ events.Turn 3 ∷ events.Turn 3 ∷ events.Turn 3 ∷ []

-- Those of a routine that says a number, up to its dispatch.
abbrev pub dispatch_alone : List Event
dispatch_alone = events.Dispatch 0 ∷ []
