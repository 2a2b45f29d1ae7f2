-- What a command that reads a journal has written.
use Rattle.std.proofs.Common.{◌≡◌, ◌≤◌, ℕ, List, [], length, refl, ap, ◌∙◌, subst, inl, inr, arith}
use Rattle.std.proofs.lemmas.Bool.Decides.{nat_tests}
use Rattle.std.specs.Prelude.{◌↔◌, ◌⊎◌, ◌≢◌, ◌==◌, Bool, true, false, Option, None, Some, IfSome}
use Rattle.thr_values.specs.declared.event.Stop.{Stop}
use Rattle.thr_values.specs.declared.history.Entry.{Entry}
use Rattle.thr_syntax.specs.declared.tree.Script.{Script}
use Rattle.thr_syntax.specs.declared.journal.Journal.{Journal}
use Rattle.thr_text.specs.Faults.{first_of}
use Rattle.thr_text.specs.Reading.{Formed}
use Rattle.thr_journals.specs.declared.fault.JournalFault.{JournalFault}
use Rattle.thr_journals.specs.declared.fault.JournalFault.TheVariants as fault
use Rattle.thr_journals.specs.declared.fault.JournalPlace.{JournalPlace}
use Rattle.thr_journals.specs.Faults.{Fault}
use Rattle.thr_journals.specs.Refusals.{IsFirst}
use Rattle.thr_model.specs.Histories.{Legal}
use Rattle.thr_lawful.specs.Laws.{MeetsLaws}
use Rattle.thr_verdict.specs.Report.{Counts, counts, counts_text, report_text}
use Rattle.thr_verdict.specs.Verdicts.{verdict_text}
use Rattle.thr_verdict.specs.FirstWrong.{first_wrong}
use Rattle.thr_comparing.specs.declared.verdict.Differs.{Differs as Telling}
use Rattle.thr_comparing.specs.declared.verdict.Verdict.{Verdict}
use Rattle.thr_comparing.specs.declared.verdict.Verdict.TheVariants as verdict
use Rattle.thr_comparing.specs.Verdicts.{IsVerdict}
use Rattle.thr_journal_commands.specs.declared.command.JournalCommand.{JournalCommand}
use Rattle.thr_journal_commands.specs.declared.command.JournalCommand.TheVariants.{Report, Verify}
use Rattle.thr_journal_commands.specs.Answers.{IsDone, IsGiven, IsLegal, IsTextOf, JournalAnswers, RefusesJournal, ReportAnswers, VerifyAnswers, found_illegal, found_legal, max_journal, no_memory, not_reported, not_verified, status_of}

-- ---- what is refused

pub no-memory-report : (input : List ℕ) → ReportAnswers input 5 []
no-memory-report input = not_reported (no_memory refl refl)

pub no-memory-verify : (input : List ℕ) → VerifyAnswers input 5 []
no-memory-verify input = not_verified (no_memory refl refl)

-- What an input is refused with for itself answers either command.
pub refused-so : (c : JournalCommand) (input : List ℕ) (w : ℕ) (t : List ℕ) → RefusesJournal input w t → JournalAnswers c input w t
refused-so Report input w t r = not_reported r
refused-so Verify input w t r = not_verified r

pub done-no-memory : (c : JournalCommand) (j : Journal) → IsDone c j 5
done-no-memory Report j = inr refl
done-no-memory Verify j = (λ legal. inr refl, λ illegal. inr refl)

-- Where memory is wanting each command is done, whatever journal is given.
pub no-memory-done : (left : Option (List ℕ)) (c : JournalCommand) (P Q : Type 0) → IfSome left (λ input. (j : Journal) → IsGiven input j → P → Q → IsDone c j 5)
no-memory-done None c P Q = tt
no-memory-done (Some input) c P Q = λ j given p q. done-no-memory c j

-- A fault that is told is the first.
pub first-told : (f : JournalFault) (place : JournalPlace) (fs : List Fault) → f ≡ fault.Refused place → IsFirst f fs → first_of fs ≡ Some (place.line, place.number)
first-told f place fs e h = subst (λ (x : JournalFault). IsFirst x fs) e h

-- ---- the report

-- The text of the counts and the stop of a journal is its report.
pub report-told : (s : Script) (entries : List Entry) (stop told : Stop) (c : Counts) (t : List ℕ) → t ≡ counts_text s.names c told → c ≡ counts s entries → told ≡ stop → t ≡ report_text s entries stop
report-told s entries stop told c t written counted same =
    written ∙ ap (λ (x : Counts). counts_text s.names x told) counted ∙ ap (λ (x : Stop). counts_text s.names (counts s entries) x) same

-- ---- the verdict

no-legal : (d : Telling) → verdict.Illegal d ≡ verdict.Legal → ⊥
no-legal d e = absurd (cc e)

-- A verdict with its text and its status answers `verify`.
pub verdict-told : (input : List ℕ) (j : Journal) (v : Verdict) (status : ℕ) (t : List ℕ)
    → ((s : Script) (n : ℕ) (es : List Entry) (stop : Stop) → Formed s → Legal s n es stop → MeetsLaws s es stop)
    → length input ≤ max_journal → IsTextOf input j → ((v ≡ verdict.Legal) ↔ IsLegal j) → IsVerdict j v → status ≡ status_of v → t ≡ verdict_text j.script (first_wrong j) → VerifyAnswers input status t
verdict-told input j verdict.Legal status t laws short is exact right told written =
    let legal : IsLegal j = exact.0 refl in
    found_legal j short is legal (laws j.script j.workers j.entries j.stop is.formed.script legal) told (written ∙ ap (verdict_text j.script) right)
verdict-told input j (verdict.Illegal d) status t laws short is exact right told written =
    found_illegal j short is (λ legal. no-legal d (exact.1 legal)) right.first right.is told (written ∙ ap (verdict_text j.script) right.is)

-- A verdict's status says whether the history is legal.
pub legal-told : (j : Journal) (v : Verdict) (status : ℕ) → ((v ≡ verdict.Legal) ↔ IsLegal j) → status ≡ status_of v → IsLegal j → status ≡ 0
legal-told j v status exact told legal = told ∙ ap status_of (exact.1 legal)

pub illegal-told : (j : Journal) (v : Verdict) (status : ℕ) → ((v ≡ verdict.Legal) ↔ IsLegal j) → status ≡ status_of v → (IsLegal j → ⊥) → status ≡ 8
illegal-told j verdict.Legal status exact told illegal = absurd (illegal (exact.0 refl))
illegal-told j (verdict.Illegal d) status exact told illegal = told

-- ---- statuses

is-or-four : (b : Bool) (told wanted : ℕ) (Q : Type 0) → (told == wanted) ≡ b → (told ≢ wanted → (told ≡ 4) × Q) → (told ≡ wanted) ⊎ (told ≡ 4)
is-or-four true told wanted Q e h = inl (grind (arith, nat_tests))
is-or-four false told wanted Q e h = inr (h (λ same. absurd (grind (arith, nat_tests)))).0

-- A write ends with the status that goes with the text, or with 4.
pub ends-or-fails : (told wanted n : ℕ) (Q : Type 0) → (told ≢ wanted → (told ≡ 4) × Q) → wanted ≡ n → (told ≡ n) ⊎ ((told ≡ 5) ⊎ (told ≡ 4))
ends-or-fails told wanted n Q h e = widen (is-or-four (told == wanted) told wanted Q refl h)
  where
    widen : (told ≡ wanted) ⊎ (told ≡ 4) → (told ≡ n) ⊎ ((told ≡ 5) ⊎ (told ≡ 4))
    widen (inl same) = inl (same ∙ e)
    widen (inr four) = inr (inr four)

-- So does that of a verdict, with 0 or 8.
pub two-ends : (v : Verdict) (told wanted : ℕ) (Q : Type 0) → (told ≢ wanted → (told ≡ 4) × Q) → wanted ≡ status_of v → (told ≡ 0) ⊎ ((told ≡ 8) ⊎ ((told ≡ 5) ⊎ (told ≡ 4)))
two-ends verdict.Legal told wanted Q h e = widen (ends-or-fails told wanted 0 Q h e)
  where
    widen : (told ≡ 0) ⊎ ((told ≡ 5) ⊎ (told ≡ 4)) → (told ≡ 0) ⊎ ((told ≡ 8) ⊎ ((told ≡ 5) ⊎ (told ≡ 4)))
    widen (inl zero-told) = inl zero-told
    widen (inr more) = inr (inr more)
two-ends (verdict.Illegal d) told wanted Q h e = inr (ends-or-fails told wanted 8 Q h e)

-- A failed write is the sink's.
pub fails-so : (v : Verdict) (told wanted : ℕ) (Q : Type 0) → (told ≢ wanted → (told ≡ 4) × Q) → wanted ≡ status_of v → told ≡ 4 → Q
fails-so verdict.Legal told wanted Q h e four = (h (λ same. absurd (omega (arith, same, e, four)))).1
fails-so (verdict.Illegal d) told wanted Q h e four = (h (λ same. absurd (omega (arith, same, e, four)))).1
