-- Faults of a line by itself (docs/script.md, "Faults").
use Rattle.std.specs.Prelude.{ℕ, Bool, true, false, not, nat_lt, List, [], ◌∷◌, ◌++◌, length, Option, Some, None}
use Rattle.std.specs.List.{list_all, list_any}
use Rattle.thr_text.specs.Lexing.{is_plain, is_too_large, pieces_of}

-- This fault, where the test says so.
abbrev pub when : Bool → ℕ → List ℕ
when true n = n ∷ []
when false n = []

-- The faults F1 to F4 of a line without its ending, in rising order: a byte that may not stand in a line, more than 240
-- bytes, a number outside i64, more than 24 words.
abbrev pub word_faults : List ℕ → List ℕ
word_faults line =
    when (not (list_all is_plain line)) 1
    ++ (when (nat_lt 240 (length line)) 2
    ++ (when (list_any is_too_large (pieces_of line)) 3
    ++ when (nat_lt 24 (length (pieces_of line))) 4))

abbrev pub first_of : {A : Type 0} → List A → Option A
first_of [] = None
first_of (x ∷ xs) = Some x
