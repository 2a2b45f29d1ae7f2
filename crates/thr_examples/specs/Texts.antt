-- Texts of several lines.
use Rattle.std.specs.Prelude.{ℕ, zero, suc, pos, List, [], ◌∷◌, ◌++◌, codes}
use Rattle.std.specs.Fmt.{signed_decimal}
use Rattle.std.specs.Prelude.{Option, None, Some}
use Prim.Native.String.{String}
use Rattle.thr_text.specs.Faults.{first_of}
use Rattle.thr_text.specs.NameFaults.{Above, words_in}
use Rattle.thr_text.specs.Reading.{Fault, faults, script_lines}

-- Lines as one text, each with its LF.
abbrev pub lines_text : List String → List ℕ
lines_text [] = []
lines_text (s ∷ ss) = codes s ++ 10 ∷ lines_text ss

abbrev pub line_and_number : Option Fault → Option (ℕ × ℕ)
line_and_number None = None
line_and_number (Some f) = Some (f.1, f.2)

-- The line and the number of the first stated fault of these bytes.
abbrev pub fault_of : List ℕ → Option (ℕ × ℕ)
fault_of bytes = line_and_number (first_of (faults bytes))

-- The same of these lines.
abbrev pub fault_in : List String → Option (ℕ × ℕ)
fault_in ls = fault_of (lines_text ls)

-- The script whose routine `main` with parameter `a` has these lines, from line 3 on.
abbrev pub in_main : List String → List String
in_main ls = "dcethr 1" ∷ "routine main a" ∷ (ls ++ "end" ∷ [])

-- The same after these declarations, which begin at line 2.
abbrev pub with_main : List String → List String → List String
with_main above ls = "dcethr 1" ∷ (above ++ "routine main a" ∷ (ls ++ "end" ∷ []))

-- Lines that declare this many mutexes, `m0` the last.
abbrev pub mutexes : ℕ → List ℕ
mutexes zero = []
mutexes (suc n) = codes "mutex m" ++ (signed_decimal (pos n) ++ 10 ∷ mutexes n)

-- What stands above a line below the first line and this many declarations of mutexes.
abbrev pub below_mutexes : ℕ → Above
below_mutexes n = record { lines = words_in (script_lines (codes "dcethr 1" ++ 10 ∷ mutexes n)); locals = []; depth = 0 }
