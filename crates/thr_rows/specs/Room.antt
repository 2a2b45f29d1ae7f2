-- Room for threads in rows, and for arrivals (docs/machine.md, "Rows").
use Rattle.std.specs.Prelude.{◌≡◌, ◌+◌, ◌<◌, ◌^◌, length, true}
use Rattle.thr_values.specs.declared.number.Tid.{Tid}
use Rattle.thr_parts.specs.Rows.{Rows, most, has_room}

-- One thread more can stand in rows or run (docs/machine.md, "Rows").
abbrev pub HasRoom : Rows → Type 0
HasRoom rs = length rs.seats < most

-- The thread runs, or there is room for one more, so that it can stand in a row (docs/machine.md, "Rows").
abbrev pub HasRoomToWait : Rows → Tid → Type 0
HasRoomToWait rs t = has_room rs t ≡ true

-- The next arrival isn't the last number that there is (docs/machine.md, "Ranks and arrivals").
abbrev pub HasArrivalLeft : Rows → Type 0
HasArrivalLeft rs = rs.next_arrival + 1 < 2 ^ 64
