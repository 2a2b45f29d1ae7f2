-- Numbers for threads (docs/machine.md, "Thread records").
use Rattle.std.specs.Prelude.{◌+◌, ◌<◌, ◌^◌}
use Rattle.thr_parts.specs.Threads.{Threads}

-- The number of the next thread isn't the last that there is (docs/machine.md, "Thread records").
abbrev pub HasNumberLeft : Threads → Type 0
HasNumberLeft ths = ths.next + 1 < 2 ^ 32
