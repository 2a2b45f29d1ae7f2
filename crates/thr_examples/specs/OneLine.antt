-- Texts that are written in one line: ` ; ` stands for the end of a line.
use Rattle.std.specs.Prelude.{ℕ, Bool, List, [], ◌∷◌, ◌++◌, map, take, drop, if◌then◌else◌, codes}
use Rattle.std.specs.Str.{bytes_eq}
use Prim.Native.String.{String}
use Rattle.thr_syntax.specs.Lines.{joined}

-- This byte and the first two of these are ` ; `.
abbrev pub is_line_end : ℕ → List ℕ → Bool
is_line_end b line = bytes_eq (b ∷ take 2 line) (codes " ; ")

-- A byte before these lines: it stands in the first of them, or ends a line.
abbrev pub with_byte : ℕ → List (List ℕ) → List (List ℕ)
with_byte b [] = (b ∷ []) ∷ []
with_byte b (l ∷ ls) = if is_line_end b l then [] ∷ drop 2 l ∷ ls else (b ∷ l) ∷ ls

-- The lines between each two ` ; `.
unfoldable pub lines_between : List ℕ → List (List ℕ)
lines_between [] = [] ∷ []
lines_between (b ∷ bs) = with_byte b (lines_between bs)

-- The lines of such a text.
abbrev pub in_lines : String → List (List ℕ)
in_lines source = lines_between (codes source)

-- The text that it stands for, each line with its LF.
abbrev pub text_in_lines : String → List ℕ
text_in_lines source = joined (map (λ l. l ++ 10 ∷ []) (in_lines source))
