-- One line of a history, judged.
use Rattle.std.specs.Prelude.{◌≡◌, ℕ, ◌==◌, not, true, List, [], ◌∷◌, Option, Some, None}
use Rattle.thr_journals.specs.Numbers.{number_of}
use Rattle.thr_journals.specs.Fields.{Names}
use Rattle.thr_journals.specs.Lines.{Below, below}
use Rattle.thr_journals.specs.Lines.{Told, Stopped}
use Rattle.thr_journals.specs.Faults.{Fault, fault_if}
use Rattle.thr_journal_reading.specs.declared.history.Judged.{Judged}
use Rattle.thr_journal_reading.specs.declared.history.Judged.TheVariants as judged

-- The line is this one, with this number where it is no stop line.
abbrev pub IsLine : Names → ℕ → List ℕ → Judged → Type 0
IsLine names number line (judged.Told entry) = (text : List ℕ) × (below names line ≡ Some (Told text entry)) × ((number_of text == number) ≡ true)
IsLine names number line (judged.Stopped stop) = below names line ≡ Some (Stopped stop)

-- J4 and J5 of a line.
abbrev pub line_faults : ℕ → ℕ → Option Below → List Fault
line_faults at number None = (at, 4) ∷ []
line_faults at number (Some (Stopped stop)) = []
line_faults at number (Some (Told text entry)) = fault_if (not (number_of text == number)) at 5
