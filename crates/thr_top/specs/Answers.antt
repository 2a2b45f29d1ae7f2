-- What the program answers, and what it writes (docs/theorems.md, "The top call").
use Rattle.std.specs.Prelude.{◌≡◌, ◌≢◌, ◌⊎◌, ℕ, ◌≤◌, ◌<◌, ◌^◌, map, List, [], ◌∷◌, ◌++◌, length, codes, Some}
use Rattle.std.specs.Fmt.{decimal, signed_decimal}
use Rattle.thr_values.specs.declared.history.Entry.{Entry}
use Rattle.thr_values.specs.declared.event.Stop.{Stop}
use Rattle.thr_values.specs.declared.event.Stop.TheVariants as stops
use Rattle.thr_syntax.specs.declared.tree.Script.{Script}
use Rattle.thr_syntax.specs.declared.tree.Item.{Item}
use Rattle.thr_syntax.specs.declared.tree.Item.TheVariants as item
use Rattle.thr_syntax.specs.Canon.{canon}
use Rattle.thr_syntax.specs.Lines.{joined}
use Rattle.thr_syntax.specs.Spelling.{name_at}
use Rattle.thr_text.specs.Faults.{first_of}
use Rattle.thr_text.specs.Journals.{text}
use Rattle.thr_text.specs.Reading.{Reads, faults}
use Rattle.thr_model.specs.Histories.{Execution, History, Legal}
use Rattle.thr_model.specs.States.{State, shared_values}
use Rattle.thr_alone.specs.Only.{IsOnlyHistory}
use Rattle.thr_lawful.specs.Laws.{MeetsLaws}
use Rattle.thr_verdict.specs.Made.{made}
use Rattle.thr_endings.specs.Endings.{one_line}

-- ---- the words of the commands that are built

-- The words ask to run a script on so many workers, from 1 to 16.
pub record IsRun (words : List (List ℕ)) (workers : ℕ) : Type 0 where
  pub some : 1 ≤ workers
  pub few : workers ≤ 16
  pub so : words ≡ codes "run" ∷ decimal workers ∷ []

-- The words ask to run a script.
abbrev pub AsksRun : List (List ℕ) → Type 0
AsksRun words = (workers : ℕ) × IsRun words workers

abbrev pub IsCheck : List (List ℕ) → Type 0
IsCheck words = words ≡ codes "check" ∷ []

abbrev pub IsReport : List (List ℕ) → Type 0
IsReport words = words ≡ codes "report" ∷ []

abbrev pub IsVerify : List (List ℕ) → Type 0
IsVerify words = words ≡ codes "verify" ∷ []

-- The words ask to make the script of a number of 32 bits, for so many workers, from 1 to 64.
pub record IsMake (words : List (List ℕ)) (number workers : ℕ) : Type 0 where
  pub fits : number < 2 ^ 32
  pub some : 1 ≤ workers
  pub few : workers ≤ 64
  pub so : words ≡ codes "make" ∷ decimal number ∷ decimal workers ∷ []

-- The words ask to make a script.
abbrev pub AsksMake : List (List ℕ) → Type 0
AsksMake words = (number : ℕ) × (workers : ℕ) × IsMake words number workers

-- The words ask for a trial of a number of 32 bits, on so many workers, from 1 to 16.
pub record IsTrial (words : List (List ℕ)) (number workers : ℕ) : Type 0 where
  pub fits : number < 2 ^ 32
  pub some : 1 ≤ workers
  pub few : workers ≤ 16
  pub so : words ≡ codes "trial" ∷ decimal number ∷ decimal workers ∷ []

-- The words ask for a trial.
abbrev pub AsksTrial : List (List ℕ) → Type 0
AsksTrial words = (number : ℕ) × (workers : ℕ) × IsTrial words number workers

-- The words have a form that runs a script by workers.
abbrev pub NeedsWorkers : List (List ℕ) → Type 0
NeedsWorkers words = AsksRun words ⊎ AsksTrial words

-- The words have a form that is built and reads a journal.
abbrev pub ReadsJournal : List (List ℕ) → Type 0
ReadsJournal words = IsVerify words ⊎ IsReport words

-- The words have a form that is built and needs no workers.
abbrev pub IsPlain : List (List ℕ) → Type 0
IsPlain words = IsCheck words ⊎ (ReadsJournal words ⊎ AsksMake words)

-- The words have a form that is built and reads a script.
abbrev pub ReadsScript : List (List ℕ) → Type 0
ReadsScript words = AsksRun words ⊎ IsCheck words

-- The words have a form that is built.
abbrev pub IsCommand : List (List ℕ) → Type 0
IsCommand words = NeedsWorkers words ⊎ IsPlain words

-- ---- texts and statuses

-- How many bytes a script has at most.
abbrev pub max_script : ℕ
max_script = 1048576

-- The status that goes with a stop.
abbrev pub status_of : Stop → ℕ
status_of stops.Finished = 0
status_of (stops.Deadlock n t) = 6
status_of stops.Limit = 7
status_of stops.Memory = 5

-- A run ends with one of these: all threads ended, nothing could go on, the lines came to the limit, or memory was wanting.
abbrev pub IsRunStatus : ℕ → Type 0
IsRunStatus status = (status ≡ 0) ⊎ ((status ≡ 6) ⊎ ((status ≡ 7) ⊎ (status ≡ 5)))

abbrev pub usage : List ℕ
usage = one_line (codes "usage: dcethr run W | check | verify | report | make N T | trial N W")

-- The fault of this number at this line.
abbrev pub refusal : ℕ → ℕ → List ℕ
refusal number line = one_line (codes "refused F" ++ (decimal number ++ (codes " line " ++ decimal line)))

-- ---- answers

-- This status and this text answer a command that reads a script, where the input is none.
pub data Refuses (input : List ℕ) (status : ℕ) (written : List ℕ) : Type 0 where
  too_long : max_script < length input → status ≡ 2 → written ≡ one_line (codes "refused too long") → Refuses input status written
  -- The first stated fault, by its pass, its line and its number.
  faulty : length input ≤ max_script → (pass line number : ℕ) → first_of (faults input) ≡ Some (pass, line, number)
      → status ≡ 2 → written ≡ refusal number line → Refuses input status written
  -- Want of memory, of which nothing says when it comes.
  no_memory : status ≡ 5 → written ≡ [] → Refuses input status written

-- This status and this text answer `run` with so many workers on this input.
pub data RunAnswers (workers : ℕ) (input : List ℕ) (status : ℕ) (written : List ℕ) : Type 0 where
  -- The journal of a legal history of the script, which meets the laws, with the status of its stop. With one worker the script
  -- has no other legal history, but for those that want of memory cuts short.
  ran : (s : Script) (entries : List Entry) (stop : Stop) → length input ≤ max_script → Reads input s → Legal s workers entries stop
      → MeetsLaws s entries stop → (workers ≡ 1 → IsOnlyHistory s entries stop) → stop ≢ stops.Memory → status ≡ status_of stop → written ≡ text s workers entries stop → RunAnswers workers input status written
  not_run : Refuses input status written → RunAnswers workers input status written

-- This status and this text answer `check` on this input.
pub data CheckAnswers (input : List ℕ) (status : ℕ) (written : List ℕ) : Type 0 where
  checked : (s : Script) → length input ≤ max_script → Reads input s → status ≡ 0 → written ≡ canon s → CheckAnswers input status written
  not_checked : Refuses input status written → CheckAnswers input status written

-- This status and this text answer `make` of this number for so many workers.
pub data MakeAnswers (number workers : ℕ) (status : ℕ) (written : List ℕ) : Type 0 where
  wrote : status ≡ 0 → written ≡ canon (made number workers) → MakeAnswers number workers status written
  not_made : status ≡ 5 → written ≡ [] → MakeAnswers number workers status written

-- A shared variable's line: its name and its value in this state.
abbrev pub shared_line : Script → State → Item → List ℕ
shared_line s st (item.Shared name n) = one_line (name_at s.names name.0 ++ 32 ∷ signed_decimal (shared_values st name))
shared_line s st _ = []

-- The shared variables of a script in their order, as they are in this state.
abbrev pub shared_text : Script → State → List ℕ
shared_text s st = joined (map (shared_line s st) s.items)

-- For how many workers the script of a trial is made.
abbrev pub trial_workers : ℕ
trial_workers = 8

-- This status and this text answer `trial` of this number on so many workers.
pub data TrialAnswers (number workers : ℕ) (status : ℕ) (written : List ℕ) : Type 0 where
  -- The shared variables of the last state of a legal history of the made script, with the status of its stop.
  tried : (x : Execution) → History (made number trial_workers) workers x → (stop : Stop) → Legal (made number trial_workers) workers x.entries stop
      → stop ≢ stops.Memory → status ≡ status_of stop → written ≡ shared_text (made number trial_workers) x.state → TrialAnswers number workers status written
  not_tried : status ≡ 5 → written ≡ [] → TrialAnswers number workers status written

-- The input is the text of a script.
abbrev pub IsScript : List ℕ → Type 0
IsScript input = (length input ≤ max_script) × ((s : Script) × Reads input s)
