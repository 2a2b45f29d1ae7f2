-- The one history of a script on one processor (docs/machine.md, "Histories").
use Rattle.std.specs.Prelude.{◌≡◌, ◌≢◌, List}
use Rattle.thr_values.specs.declared.history.Entry.{Entry}
use Rattle.thr_values.specs.declared.event.Stop.{Stop}
use Rattle.thr_values.specs.declared.event.Stop.TheVariants as stops
use Rattle.thr_syntax.specs.declared.tree.Script.{Script}
use Rattle.thr_model.specs.Histories.{Legal}

-- Each legal history of the script on one processor, but for want of memory, has these lines and this stop.
abbrev pub IsOnlyHistory : Script → List Entry → Stop → Type 0
IsOnlyHistory s entries stop = (others : List Entry) (end : Stop) → Legal s 1 others end → end ≢ stops.Memory → (others ≡ entries) × (end ≡ stop)
