-- How often a lock is locked, and can be (docs/machine.md, "Mutexes").
use Rattle.std.specs.Prelude.{◌≡◌, ◌+◌, ◌<◌, ◌^◌, true, Option, IfSome}
use Rattle.thr_values.specs.declared.number.NameId.{NameId}
use Rattle.thr_parts.specs.Mutexes.{Locks, owner}
use Rattle.thr_parts.specs.Locking.{is_last}

-- The mutex, or else the global lock, can be locked once more: the count isn't the last number that there is (docs/machine.md,
-- "Mutexes").
abbrev pub HasDepthLeft : Locks → Option NameId → Type 0
HasDepthLeft ls m = IfSome (owner ls m) (λ h. h.depth + 1 < 2 ^ 64)

-- It is locked once at most, so that an unlock gives it up (docs/machine.md, "Mutexes").
abbrev pub IsLockedOnceAtMost : Locks → Option NameId → Type 0
IsLockedOnceAtMost ls m = is_last (owner ls m) ≡ true
