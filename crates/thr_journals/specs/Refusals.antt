-- What a refusal of a journal says (docs/journal.md, "Faults of a journal").
use Rattle.std.specs.Prelude.{◌≡◌, List, Some}
use Rattle.thr_text.specs.Faults.{first_of}
use Rattle.thr_journals.specs.declared.fault.JournalFault.{JournalFault}
use Rattle.thr_journals.specs.declared.fault.JournalFault.TheVariants.{Refused, NoMemory}
use Rattle.thr_journals.specs.Faults.{Fault}

-- The refusal names the first of these faults. Want of memory says nothing.
abbrev pub IsFirst : JournalFault → List Fault → Type 0
IsFirst (Refused place) faults = first_of faults ≡ Some (place.line, place.number)
IsFirst NoMemory faults = Unit {0}
