-- Names by which lines are resolved, and those by which they are spelled.
use Rattle.std.specs.Prelude.{◌≡◌, ℕ, ◌<◌, ◌≤◌, true, false, List, length, position, Some, None}
use Rattle.std.specs.List.{list_all, list_any}
use Rattle.std.specs.Str.{bytes_eq}
use Rattle.thr_syntax.specs.Spelling.{Scope, name_at}
use Rattle.thr_text.specs.declared.word.Word.{Word}
use Rattle.thr_text.specs.Names.{is_name}
use Rattle.thr_text.specs.Lexing.{AreOfLine}
use Rattle.thr_text.specs.Slots.{form_fault, head_of_line}
use Rattle.thr_text.specs.Tables.{Entry, is_among, is_declared, declared_in, placed_in, rest_of}
use Rattle.thr_text.specs.NameFaults.{is_undeclared, is_misused, is_out_of_range}

-- Each name is found at its own place.
abbrev pub AreDistinct : List (List ℕ) → Type 0
AreDistinct names = (i : ℕ) → i < length names → position (bytes_eq (name_at names i)) names ≡ Some i

-- The names of a script and of a routine's parameter and locals, where these keep the rules for names.
pub record IsScope (scope : Scope) : Type 0 where
  pub names : list_all is_name scope.names ≡ true
  pub locals : list_all is_name scope.locals ≡ true
  pub distinct : AreDistinct scope.names
  pub distinct_locals : AreDistinct scope.locals
  pub apart : list_any (is_among scope.names) scope.locals ≡ false
  pub few : length scope.names ≤ 65536
  pub few_locals : length scope.locals ≤ 16

-- A line that has a form, whose words a line may have, and whose names are declared and of the kinds that their places ask,
-- below these locals.
pub record IsFaultless (entries : List Entry) (locals : List (List ℕ)) (words : List Word) : Type 0 where
  pub some : head_of_line words ≡ None → ⊥
  pub form : form_fault words ≡ None
  pub of_line : AreOfLine words
  pub declares : list_all (λ e. is_declared entries e.0) (declared_in words) ≡ true
  pub declared : list_any (is_undeclared entries locals) (placed_in words) ≡ false
  pub suited : list_any (is_misused entries locals) (placed_in words) ≡ false
  pub range : is_out_of_range (head_of_line words) (rest_of words) ≡ false
  pub few : length entries ≤ 65536
  pub few_locals : length locals ≤ 16
