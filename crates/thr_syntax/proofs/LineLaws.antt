-- The lines of a script and those of its canonical text.
use Rattle.std.proofs.Common.{◌≡◌, ℕ, List, [], ◌∷◌, map, length, length-append, refl, arith}
use Rattle.std.proofs.lemmas.List.{length-map}
use Rattle.thr_syntax.specs.declared.tree.Item.{Item}
use Rattle.thr_syntax.specs.declared.tree.Script.{Script}
use Rattle.thr_syntax.specs.Lines.{joined, item_lines, lines_of}
use Rattle.thr_syntax.specs.Spelling.{form_words}
use Rattle.thr_syntax.specs.Canon.{scope_in, item_words, script_words}

as_many : (names : List (List ℕ)) (items : List Item) → length (joined (map (item_words names) items)) ≡ length (joined (map item_lines items))
as_many names [] = refl
as_many names (i ∷ items) =
    omega (
      arith,
      length-append (item_words names i) (joined (map (item_words names) items)),
      length-append (item_lines i) (joined (map item_lines items)),
      length-map (item_lines i) (form_words (scope_in names i)),
      as_many names items,
    )

pub each_line_once : (s : Script) → length (script_words s) ≡ length (lines_of s)
each_line_once s = omega (arith, as_many s.names s.items)
