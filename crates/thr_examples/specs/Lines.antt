-- Lines and the faults of their forms.
use Rattle.std.specs.Prelude.{◌≡◌, ℕ, List, [], ◌∷◌, map, codes, Option}
use Prim.Native.String.{String}
use Rattle.thr_text.specs.declared.word.Word.{Word}
use Rattle.thr_text.specs.Faults.{first_of}
use Rattle.thr_text.specs.Lexing.{words_of}
use Rattle.thr_text.specs.NameFaults.{Above, name_misfits}
use Rattle.thr_text.specs.Slots.{form_fault}

-- The fault of a line's form, where it isn't the first line with words.
abbrev pub line_fault : String → Option ℕ
line_fault s = form_fault (words_of (codes s))

-- Each of these lines has the fault that stands beside it, or none.
abbrev pub AreJudged : List (String × Option ℕ) → Type 0
AreJudged rows = map (λ r. line_fault r.0) rows ≡ map (λ r. r.1) rows

-- ---- names in lines

abbrev pub words_of_lines : List String → List (List Word)
words_of_lines lines = map (λ s. words_of (codes s)) lines

-- Declarations of one name of each kind, and of two exceptions.
abbrev pub declared_lines : List (List Word)
declared_lines = words_of_lines
    ("shared s 0" ∷ "exception e" ∷ "status x 1" ∷ "mutex m" ∷ "mutexattr b" ∷ "cond c" ∷ "attr f" ∷ "key k" ∷ "once o" ∷ "pipe p 4" ∷ "routine r a" ∷ [])

-- A place in a routine with parameter `a` and local `v`, below these declarations.
abbrev pub below_declared : Above
below_declared = record { lines = declared_lines; locals = codes "a" ∷ codes "v" ∷ []; depth = 1 }

-- The least fault of a line's names and limits there.
abbrev pub name_fault : String → Option ℕ
name_fault s = first_of (name_misfits declared_lines below_declared (words_of (codes s)))

-- Each of these lines has the fault of names that stands beside it, or none.
abbrev pub HaveNames : List (String × Option ℕ) → Type 0
HaveNames rows = map (λ r. name_fault r.0) rows ≡ map (λ r. r.1) rows
