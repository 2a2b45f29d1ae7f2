-- What a refusal says (docs/script.md, "Faults").
use Rattle.std.specs.Prelude.{◌≡◌, ℕ, List, Some}
use Rattle.thr_text.specs.declared.fault.ParseFault.{ParseFault}
use Rattle.thr_text.specs.declared.fault.ParseFault.TheVariants.{Refused, NoMemory}
use Rattle.thr_text.specs.Faults.{first_of}

-- The refusal names the first of these faults, which are lines with numbers. Want of memory says nothing.
abbrev pub IsFirst : ParseFault → List (ℕ × ℕ) → Type 0
IsFirst (Refused place) faults = first_of faults ≡ Some (place.line, place.number)
IsFirst NoMemory faults = Unit {0}
