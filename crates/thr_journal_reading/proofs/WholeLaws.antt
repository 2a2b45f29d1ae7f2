-- A whole journal, from what is read of its parts.
use Rattle.std.proofs.Common.{◌≡◌, ℕ, zero, suc, ◌+◌, List, [], ◌∷◌, ◌++◌, drop, slice_get, Option, Some, None, refl, sym, ap, subst, ◌∙◌, arith}
use Rattle.std.specs.Prelude.{unwrap_or, Result, Ok, Err, IfOk, IfErr}
use Rattle.std.proofs.lemmas.List.{drop-drop}
use Rattle.thr_values.specs.declared.history.Entry.{Entry}
use Rattle.thr_values.specs.declared.event.Stop.{Stop}
use Rattle.thr_syntax.specs.declared.tree.Script.{Script}
use Rattle.thr_syntax.specs.declared.journal.Journal.{Journal}
use Rattle.thr_text.specs.Faults.{first_of}
use Rattle.thr_text.specs.Reading as scripts
use Rattle.thr_text.specs.Reading.{Reads, own_lines}
use Rattle.thr_text.specs.Tables.{entries_of}
use Rattle.thr_journals.specs.declared.fault.JournalFault.{JournalFault}
use Rattle.thr_journals.specs.Fields.{Names}
use Rattle.thr_journals.specs.Faults.{Fault, parts_of, workers_in, title_faults, script_count, script_text, names_of, text_faults, history_faults, script_faults, faults}
use Rattle.thr_journals.specs.Reading.{line_at, script_size, script_in, history_lines, history_in, ReadsJournal}
use Rattle.thr_journals.specs.Refusals.{IsFirst}
use Rattle.thr_journal_reading.specs.Parts.{IsScriptPart}
use Rattle.thr_journal_reading.proofs.HistoryLaws.{is_first_more}

pub if_ok : (r : Result Journal JournalFault) (P Q : Journal → Type 0) → ((j : Journal) → P j → Q j) → IfOk r P → IfOk r Q
if_ok (Ok j) P Q f h = f j h
if_ok (Err e) P Q f h = tt

pub if_err : (r : Result Journal JournalFault) (P Q : JournalFault → Type 0) → ((e : JournalFault) → P e → Q e) → IfErr r P → IfErr r Q
if_err (Ok j) P Q f h = tt
if_err (Err e) P Q f h = f e h

-- ---- faults of the whole

pub title_stops : (bytes : List ℕ) (e : JournalFault) → IsFirst e (title_faults (parts_of bytes)) → IsFirst e (faults bytes)
unfolding faults
title_stops bytes e h = is_first_more e (title_faults (parts_of bytes)) (script_faults (drop 2 (parts_of bytes))) h

-- The first two lines have no fault, and these are the parts behind them.
pub record IsTitled (bytes : List ℕ) (rest : List (List ℕ)) : Type 0 where
  pub faultless : title_faults (parts_of bytes) ≡ []
  pub parts : rest ≡ drop 2 (parts_of bytes)

whole_is : (bytes : List ℕ) (rest : List (List ℕ)) → IsTitled bytes rest → faults bytes ≡ script_faults rest
unfolding faults
whole_is bytes rest t = ap (λ (fs : List Fault). fs ++ script_faults (drop 2 (parts_of bytes))) t.faultless ∙ ap script_faults (sym t.parts)

pub no_script : (bytes : List ℕ) (rest : List (List ℕ)) → IsTitled bytes rest → script_faults rest ≡ (3, 2) ∷ [] → first_of (faults bytes) ≡ Some (3, 2)
no_script bytes rest t none = ap first_of (whole_is bytes rest t ∙ none)

pub script_stops : (bytes : List ℕ) (rest : List (List ℕ)) (size : ℕ) (text : List ℕ) (behind : List (List ℕ)) (e : JournalFault) → IsTitled bytes rest → IsScriptPart rest size text behind
    → IsFirst e (text_faults text (first_of (scripts.faults text))) → IsFirst e (faults bytes)
script_stops bytes rest size text behind e t p h =
    subst (IsFirst e) (sym (whole_is bytes rest t ∙ p.faults)) (is_first_more e (text_faults text (first_of (scripts.faults text))) (history_faults (names_of text) (size + 5) 1 behind) h)

-- The script has no fault, and these are its names.
pub record IsScript (text : List ℕ) (s : Script) (names : Names) : Type 0 where
  pub faultless : text_faults text (first_of (scripts.faults text)) ≡ []
  pub reads : Reads text s
  pub known : names ≡ entries_of (own_lines s)

names_are : (text : List ℕ) (s : Script) (names : Names) → IsScript text s names → names_of text ≡ names
names_are text s names i = ap entries_of i.reads.words ∙ sym i.known

history_is : (bytes : List ℕ) (rest : List (List ℕ)) (size : ℕ) (text : List ℕ) (behind : List (List ℕ)) (s : Script) (names : Names) → IsTitled bytes rest → IsScriptPart rest size text behind → IsScript text s names
    → faults bytes ≡ history_faults names (size + 5) 1 behind
history_is bytes rest size text behind s names t p i =
    whole_is bytes rest t ∙ p.faults ∙ ap (λ (fs : List Fault). fs ++ history_faults (names_of text) (size + 5) 1 behind) i.faultless
    ∙ ap (λ (ns : Names). history_faults ns (size + 5) 1 behind) (names_are text s names i)

pub history_stops : (bytes : List ℕ) (rest : List (List ℕ)) (size : ℕ) (text : List ℕ) (behind : List (List ℕ)) (s : Script) (names : Names) (e : JournalFault) → IsTitled bytes rest → IsScriptPart rest size text behind
    → IsScript text s names → IsFirst e (history_faults names (size + 5) 1 behind) → IsFirst e (faults bytes)
history_stops bytes rest size text behind s names e t p i h = subst (IsFirst e) (sym (history_is bytes rest size text behind s names t p i)) h

-- ---- the whole is read

third_line : (parts : List (List ℕ)) → line_at (drop 2 parts) 0 ≡ line_at parts 2
third_line [] = refl
third_line (a ∷ []) = refl
third_line (a ∷ b ∷ []) = refl
third_line (a ∷ b ∷ c ∷ parts) = refl

pub whole_read : (bytes : List ℕ) (rest : List (List ℕ)) (size : ℕ) (text : List ℕ) (behind : List (List ℕ)) (s : Script) (names : Names) (w : ℕ) (es : List Entry) (st : Stop) → IsTitled bytes rest
    → IsScriptPart rest size text behind → IsScript text s names → workers_in (line_at (parts_of bytes) 1) ≡ Some w → history_faults names (size + 5) 1 behind ≡ [] → history_in names behind ≡ Some (es, st)
    → ReadsJournal bytes (record { workers = w; script = s; entries = es; stop = st })
whole_read bytes rest size text behind s names w es st t p i workers none read =
    let parts = parts_of bytes in
    let size_is : script_size parts ≡ size = ap (λ (l : List ℕ). unwrap_or (script_count l) 0) (sym (third_line parts)) ∙ ap (λ (ls : List (List ℕ)). unwrap_or (script_count (line_at ls 0)) 0) (sym t.parts) ∙ p.count in
    let text_is : script_in parts ≡ text =
    ap (λ (n : ℕ). script_text n (drop 3 parts)) size_is ∙ ap (script_text size) (sym (drop-drop 1 2 parts)) ∙ ap (λ (ls : List (List ℕ)). script_text size (drop 1 ls)) (sym t.parts) ∙ p.taken in
    let behind_is : history_lines parts ≡ behind =
    ap (λ (n : ℕ). drop (n + 4) parts) size_is ∙ ap (λ (n : ℕ). drop n parts) (four_is size) ∙ sym (drop-drop (size + 2) 2 parts) ∙ ap (drop (size + 2)) (sym t.parts) ∙ p.left in
    record {
      faultless = history_is bytes rest size text behind s names t p i ∙ none;
      workers = workers;
      script = subst (λ (u : List ℕ). Reads u s) (sym text_is) i.reads;
      history = ap (λ (u : List ℕ). history_in (names_of u) (history_lines parts)) text_is ∙ ap (λ (ns : Names). history_in ns (history_lines parts)) (names_are text s names i) ∙ ap (history_in names) behind_is ∙ read;
    }
  where
    four_is : (n : ℕ) → n + 4 ≡ 2 + (n + 2)
    four_is n = omega arith
