-- Scripts and histories that are written in one line, with ` ; ` for the end of a line.
use Rattle.std.specs.Prelude.{◌≡◌, ℕ, List, [], ◌++◌, map, drop}
use Prim.Native.String.{String}
use Rattle.thr_values.specs.Exceptions.{builtin_names}
use Rattle.thr_values.specs.declared.history.Entry.{Entry}
use Rattle.thr_values.specs.declared.event.Stop.{Stop}
use Rattle.thr_syntax.specs.declared.tree.Script.{Script}
use Rattle.thr_syntax.specs.Canon.{line, canon}
use Rattle.thr_text.specs.declared.word.Word.{Word}
use Rattle.thr_text.specs.Lexing.{words_of}
use Rattle.thr_text.specs.Tables.{declarations}
use Rattle.thr_text.specs.Reading.{Reads}
use Rattle.thr_text.specs.Journals.{numbered, stop_words}
use Rattle.thr_examples.specs.OneLine.{in_lines, text_in_lines}
use Rattle.thr_examples.specs.Resolved.{forms_of}
use Rattle.thr_examples.specs.Nested.{below}

-- The built-in names and then the declared ones in their order.
abbrev pub names_of : List (List Word) → List (List ℕ)
names_of lines = builtin_names ++ map (λ e. e.0) (declarations lines)

abbrev pub script_with : List (List ℕ) → List (List Word) → Script
script_with names lines = record { names = names; items = (below (forms_of names lines [])).items }

abbrev pub script_of_lines : List (List Word) → Script
script_of_lines lines = script_with (names_of lines) lines

-- The script of such a text. Of a text that is no script it says nothing.
abbrev pub script_of : String → Script
script_of source = script_of_lines (map words_of (drop 1 (in_lines source)))

-- The text is the canonical text of the script, and read as it.
pub record IsScript (text : List ℕ) (s : Script) : Type 0 where
  pub canonical : canon s ≡ text
  pub read : Reads text s

abbrev pub reads : String → Type 0
reads source = IsScript (text_in_lines source) (script_of source)

-- The numbered lines of a history and its stop line, as they stand in a journal.
abbrev pub history_text : Script → List Entry → Stop → List ℕ
history_text s entries stop = numbered s.names 1 entries ++ line (stop_words stop)
