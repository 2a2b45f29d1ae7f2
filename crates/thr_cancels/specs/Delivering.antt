-- Turns in which a pending cancel can be delivered at once (docs/machine.md, "Turns").
use Rattle.std.specs.Prelude.{◌≡◌, true, List}
use Rattle.std.specs.List.{list_all}
use Rattle.thr_values.specs.declared.history.What.{What}
use Rattle.thr_remainder.specs.Runs.{Halt, Delivers, Undoes, Ends, Run}
use Rattle.thr_laws.specs.CancelLaw.{is_carried}

-- Each line carries an unwinding (docs/laws.md, "Routes").
abbrev pub AreCarried : List What → Type 0
AreCarried lines = list_all is_carried lines ≡ true

-- The cancel is delivered, a once block is undone, or the thread makes its end step (docs/machine.md, "Turns").
abbrev pub HaltsAtOnce : Halt → Type 0
HaltsAtOnce Delivers = Unit {0}
HaltsAtOnce (Undoes block m) = AreCarried m.lines
HaltsAtOnce Ends = Unit {0}
HaltsAtOnce _ = ⊥

-- The lines of the quiet part carry an unwinding, and so it ends (docs/machine.md, "Turns").
pub record IsAtOnce (run : Run) : Type 0 where
  pub lines : AreCarried run.lines
  pub halt : HaltsAtOnce run.halt
