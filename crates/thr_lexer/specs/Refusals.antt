-- What a refusal of a line says of the line (docs/script.md, "Faults").
use Rattle.std.specs.Prelude.{◌≡◌, ℕ, List, Some}
use Rattle.thr_text.specs.Faults.{first_of}
use Rattle.thr_lexer.specs.declared.fault.LexFault.{LexFault}
use Rattle.thr_lexer.specs.declared.fault.LexFault.TheVariants.{F1, F2, F3, F4, NoMemory}

-- The fault is the least of the line's faults. Want of memory says nothing of the line.
abbrev pub Refuses : LexFault → List ℕ → Type 0
Refuses F1 faults = first_of faults ≡ Some 1
Refuses F2 faults = first_of faults ≡ Some 2
Refuses F3 faults = first_of faults ≡ Some 3
Refuses F4 faults = first_of faults ≡ Some 4
Refuses NoMemory faults = Unit {0}
