-- What a reader of words has before it.
use Rattle.std.specs.Prelude.{ℕ, List, [], ◌∷◌, Option, Some, None}
use Rattle.std.specs.Borrow.{Bor}
use Rattle.thr_journals.specs.Lines.{line_words}

-- The words that are left where this text is left of a line, or nothing.
abbrev pub words_left : Option (Bor (List ℕ)) → List (List ℕ)
words_left None = []
words_left (Some text) = line_words text.now

-- This word and then these, or none where there is none.
abbrev pub words_with : Option (Bor (List ℕ)) → List (List ℕ) → List (List ℕ)
words_with None ws = []
words_with (Some text) ws = text.now ∷ ws
