-- What a text is refused for (docs/script.md, "Faults").
use Rattle.std.specs.Prelude.{◌≡◌, ℕ, List, Some}
use Rattle.thr_text.specs.declared.fault.ParseFault.{ParseFault}
use Rattle.thr_text.specs.declared.fault.ParseFault.TheVariants.{Refused, NoMemory}
use Rattle.thr_text.specs.Faults.{first_of}
use Rattle.thr_text.specs.Reading.{Fault}

-- The refusal names the first of these faults, which are passes with lines and numbers. Want of memory says nothing.
abbrev pub IsFirstStated : ParseFault → List Fault → Type 0
IsFirstStated (Refused place) faults = (pass : ℕ) × (first_of faults ≡ Some (pass, place.line, place.number))
IsFirstStated NoMemory faults = Unit {0}
