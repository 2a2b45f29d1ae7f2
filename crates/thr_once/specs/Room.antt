-- Room for values of keys (docs/machine.md, "Keys").
use Rattle.std.specs.Prelude.{◌≤◌}
use Rattle.thr_once.specs.Views.{OncesView}

-- There is room for one value of a key more (docs/machine.md, "Keys").
abbrev pub HasRoomForValue : OncesView → Type 0
HasRoomForValue o = 1 ≤ o.room
