-- Where the script stands in a journal.
use Rattle.std.specs.Prelude.{◌≡◌, ℕ, ◌+◌, List, ◌++◌, drop, unwrap_or}
use Rattle.thr_text.specs.Faults.{first_of}
use Rattle.thr_text.specs.Reading as scripts
use Rattle.thr_journals.specs.Faults.{script_count, script_text, names_of, text_faults, history_faults, script_faults}
use Rattle.thr_journals.specs.Reading.{line_at}

-- Behind the first two lines a script stands that has so many lines and this text, and behind the line `history` these lines.
pub record IsScriptPart (parts : List (List ℕ)) (size : ℕ) (text : List ℕ) (behind : List (List ℕ)) : Type 0 where
  pub count : unwrap_or (script_count (line_at parts 0)) 0 ≡ size
  pub taken : script_text size (drop 1 parts) ≡ text
  pub left : drop (size + 2) parts ≡ behind
  pub faults : script_faults parts ≡ text_faults text (first_of (scripts.faults text)) ++ history_faults (names_of text) (size + 5) 1 behind
