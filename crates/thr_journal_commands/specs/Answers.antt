-- What the commands answer that read a journal (docs/theorems.md, "The top call").
use Rattle.std.specs.Prelude.{◌≡◌, ℕ, ◌≤◌, ◌<◌, ◌⊎◌, List, [], ◌++◌, length, codes, None, Some}
use Rattle.std.specs.Fmt.{decimal}
use Rattle.thr_syntax.specs.declared.journal.Journal.{Journal}
use Rattle.thr_text.specs.Faults.{first_of}
use Rattle.thr_text.specs.Journals.{text}
use Rattle.thr_verdict.specs.FormedJournals.{FormedJournal}
use Rattle.thr_verdict.specs.Report.{report_text}
use Rattle.thr_verdict.specs.Verdicts.{Differs, verdict_text}
use Rattle.thr_verdict.specs.FirstWrong.{first_wrong}
use Rattle.thr_journals.specs.Faults.{faults}
use Rattle.thr_endings.specs.Endings.{one_line}
use Rattle.thr_model.specs.Histories.{Legal}
use Rattle.thr_lawful.specs.Laws.{MeetsLaws}
use Rattle.thr_comparing.specs.declared.verdict.Verdict.{Verdict}
use Rattle.thr_comparing.specs.declared.verdict.Verdict.TheVariants as verdict
use Rattle.thr_journal_commands.specs.declared.command.JournalCommand.{JournalCommand}
use Rattle.thr_journal_commands.specs.declared.command.JournalCommand.TheVariants.{Report, Verify}

-- How many bytes a journal has at most.
abbrev pub max_journal : ℕ
max_journal = 134217728

-- The fault of this number at this line.
abbrev pub refusal : ℕ → ℕ → List ℕ
refusal number line = one_line (codes "refused J" ++ (decimal number ++ (codes " line " ++ decimal line)))

-- The input is the text of this journal, which has its form, and so has no fault.
pub record IsTextOf (input : List ℕ) (j : Journal) : Type 0 where
  pub formed : FormedJournal j
  pub so : input ≡ text j.script j.workers j.entries j.stop
  pub faultless : faults input ≡ []

-- The input is the text of this journal, which has its form, and isn't too long.
pub record IsGiven (input : List ℕ) (j : Journal) : Type 0 where
  pub short : length input ≤ max_journal
  pub formed : FormedJournal j
  pub so : input ≡ text j.script j.workers j.entries j.stop

-- This status and this text answer a command that reads a journal, where the input is none.
pub data RefusesJournal (input : List ℕ) (status : ℕ) (written : List ℕ) : Type 0 where
  too_long : max_journal < length input → status ≡ 2 → written ≡ one_line (codes "refused too long") → RefusesJournal input status written
  -- The first fault, by its line and its number.
  faulty : length input ≤ max_journal → (line number : ℕ) → first_of (faults input) ≡ Some (line, number)
      → status ≡ 2 → written ≡ refusal number line → RefusesJournal input status written
  -- Want of memory, of which nothing says when it comes.
  no_memory : status ≡ 5 → written ≡ [] → RefusesJournal input status written

-- This status and this text answer `report` on this input.
pub data ReportAnswers (input : List ℕ) (status : ℕ) (written : List ℕ) : Type 0 where
  -- The counts of the journal's history with its stop, be the history legal or not.
  reported : (j : Journal) → length input ≤ max_journal → IsTextOf input j → status ≡ 0 → written ≡ report_text j.script j.entries j.stop → ReportAnswers input status written
  not_reported : RefusesJournal input status written → ReportAnswers input status written

-- The status that goes with a verdict.
abbrev pub status_of : Verdict → ℕ
status_of verdict.Legal = 0
status_of (verdict.Illegal d) = 8

-- The journal's history is legal.
abbrev pub IsLegal : Journal → Type 0
IsLegal j = Legal j.script j.workers j.entries j.stop

-- This status and this text answer `verify` on this input.
pub data VerifyAnswers (input : List ℕ) (status : ℕ) (written : List ℕ) : Type 0 where
  -- The journal's history is legal, and meets the laws.
  found_legal : (j : Journal) → length input ≤ max_journal → IsTextOf input j → IsLegal j → MeetsLaws j.script j.entries j.stop
      → status ≡ 0 → written ≡ verdict_text j.script None → VerifyAnswers input status written
  -- It isn't, and this line differs first from what the machine gives.
  found_illegal : (j : Journal) → length input ≤ max_journal → IsTextOf input j → ¬ (IsLegal j) → (d : Differs) → first_wrong j ≡ Some d
      → status ≡ 8 → written ≡ verdict_text j.script (Some d) → VerifyAnswers input status written
  not_verified : RefusesJournal input status written → VerifyAnswers input status written

-- This status and this text answer a command on this input.
abbrev pub JournalAnswers : JournalCommand → List ℕ → ℕ → List ℕ → Type 0
JournalAnswers Report = ReportAnswers
JournalAnswers Verify = VerifyAnswers

-- A command on this journal ends with such a status where no device has a fault: 5 is want of memory, and of a verdict 0 and 8 tell
-- whether the history is legal.
abbrev pub IsDone : JournalCommand → Journal → ℕ → Type 0
IsDone Report j status = (status ≡ 0) ⊎ (status ≡ 5)
IsDone Verify j status = (IsLegal j → (status ≡ 0) ⊎ (status ≡ 5)) × (¬ (IsLegal j) → (status ≡ 8) ⊎ (status ≡ 5))
