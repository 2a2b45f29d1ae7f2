-- What a text without faults of names says of each of its lines.
use Rattle.std.specs.Prelude.{◌≡◌, ℕ, List, [], ◌∷◌, None}
use Rattle.thr_text.specs.declared.word.Word.{Word}
use Rattle.thr_text.specs.Lexing.{AreOfLine}
use Rattle.thr_text.specs.Slots.{form_fault}
use Rattle.thr_text.specs.Tables.{Entry}
use Rattle.thr_text.specs.NameFaults.{locals_below}
use Rattle.thr_resolving.specs.Resolving.{scope_of}
use Rattle.thr_resolving.specs.Scopes.{IsScope, IsFaultless}

-- Each line is faultless below the locals in force at it.
abbrev pub AreFaultless : List Entry → List (List ℕ) → List (List Word) → Type 0
AreFaultless entries locals [] = Unit {0}
AreFaultless entries locals (l ∷ ls) = IsFaultless entries (locals_below locals l) l × AreFaultless entries (locals_below locals l) ls

-- The names and the locals in force at each line keep the rules for names.
abbrev pub AreScopes : List (List ℕ) → List (List ℕ) → List (List Word) → Type 0
AreScopes names locals [] = Unit {0}
AreScopes names locals (l ∷ ls) = IsScope (scope_of names (locals_below locals l)) × AreScopes names (locals_below locals l) ls

-- Each line has words, a form, and words that a line may have.
abbrev pub HaveGoodWords : List (List Word) → Type 0
HaveGoodWords [] = Unit {0}
HaveGoodWords (l ∷ ls) = ((l ≡ [] → ⊥) × (form_fault l ≡ None) × AreOfLine l) × HaveGoodWords ls

-- Each line that has words has a form.
abbrev pub HaveNoFormFault : List (List Word) → Type 0
HaveNoFormFault [] = Unit {0}
HaveNoFormFault (l ∷ ls) = (form_fault l ≡ None) × HaveNoFormFault ls
