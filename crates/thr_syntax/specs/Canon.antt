-- The canonical text of a script (docs/script.md, "The canonical text").
use Rattle.std.specs.Prelude.{ℕ, List, [], ◌∷◌, ◌++◌, map}
use Rattle.std.specs.List.{join_with_byte}
use Rattle.thr_syntax.specs.declared.tree.Item.{Item}
use Rattle.thr_syntax.specs.declared.tree.Item.TheVariants as item
use Rattle.thr_syntax.specs.declared.tree.Script.{Script}
use Rattle.thr_syntax.specs.Lines.{joined, item_lines}
use Rattle.thr_syntax.specs.declared.form.Form.TheVariants as form
use Rattle.thr_syntax.specs.Spelling.{Scope, form_words}

-- A line of words that are parted by one space, with its end.
abbrev pub line : List (List ℕ) → List ℕ
line words = join_with_byte 32 words ++ 10 ∷ []

abbrev pub locals_in : Item → List (List ℕ)
locals_in (item.Routine r) = r.locals
locals_in _ = []

abbrev pub scope_in : List (List ℕ) → Item → Scope
scope_in names i = record { names = names; locals = locals_in i }

-- The words of a declaration's lines.
abbrev pub item_words : List (List ℕ) → Item → List (List (List ℕ))
item_words names i = map (form_words (scope_in names i)) (item_lines i)

-- The words of a script's lines, from line 1 on.
abbrev pub script_words : Script → List (List (List ℕ))
script_words s = form_words (record { names = s.names; locals = [] }) form.Header ∷ joined (map (item_words s.names) s.items)

-- The one canonical text of a script.
abbrev pub canon : Script → List ℕ
canon s = joined (map line (script_words s))
