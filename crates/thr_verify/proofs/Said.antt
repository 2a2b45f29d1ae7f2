-- What a verdict says of the history.
use Rattle.std.proofs.Common.{◌≡◌, ℕ, List, Option, Some, None, refl}
use Rattle.std.specs.Prelude.{◌↔◌, IfOk, Result, Ok, Err}
use Rattle.thr_values.specs.declared.event.Stop.{Stop}
use Rattle.thr_values.specs.declared.history.Entry.{Entry}
use Rattle.thr_values.specs.declared.number.NoMemory.{NoMemory}
use Rattle.thr_syntax.specs.declared.journal.Journal.{Journal}
use Rattle.thr_syntax.specs.declared.tree.Script.{Script}
use Rattle.thr_text.specs.Reading.{Formed}
use Rattle.thr_model.specs.Histories as histories
use Rattle.thr_verdict.specs.Verdicts as verdicts
use Rattle.thr_verdict.specs.FormedJournals.{FormedJournal}
use Rattle.thr_verdict.specs.FirstWrong.{first_wrong, FirstWrongIsExact}
use Rattle.thr_lawful.specs.Laws.{MeetsLaws}
use Rattle.thr_comparing.specs.declared.verdict.Verdict.{Verdict}
use Rattle.thr_comparing.specs.declared.verdict.Verdict.TheVariants.{Legal, Illegal}
use Rattle.thr_comparing.specs.Verdicts.{IsVerdict}

legal_by : (j : Journal) → FirstWrongIsExact j → FormedJournal j → (v : Verdict) → IsVerdict j v → (v ≡ Legal) ↔ histories.Legal j.script j.workers j.entries j.stop
legal_by j exact formed Legal none = ((λ same. (exact formed).0 none), (λ legal. refl))
legal_by j exact formed (Illegal d) f = ((λ same. absurd (cc)), (λ legal. absurd (clash (first_wrong j) ((exact formed).1 legal) f.is)))
  where
    clash : (o : Option verdicts.Differs) → o ≡ None → o ≡ Some f.first → ⊥
    clash o e g = cc

-- A verdict is legal exactly where the history is.
pub all_legal : (j : Journal) → FirstWrongIsExact j → FormedJournal j → (r : Result Verdict NoMemory) → IfOk r (IsVerdict j) → IfOk r (λ (v : Verdict). (v ≡ Legal) ↔ histories.Legal j.script j.workers j.entries j.stop)
all_legal j exact formed (Ok v) h = legal_by j exact formed v h
all_legal j exact formed (Err e) h = tt

-- Every legal history of a script that keeps the rules meets the laws.
abbrev pub MeetLaws : Type 0
MeetLaws = (s : Script) (n : ℕ) (entries : List Entry) (stop : Stop) → Formed s → histories.Legal s n entries stop → MeetsLaws s entries stop

pub all_meet : (j : Journal) → MeetLaws → FirstWrongIsExact j → FormedJournal j → (r : Result Verdict NoMemory) → IfOk r (IsVerdict j) → IfOk r (λ (v : Verdict). v ≡ Legal → MeetsLaws j.script j.entries j.stop)
all_meet j laws exact formed (Ok v) h = λ same. laws j.script j.workers j.entries j.stop formed.script ((legal_by j exact formed v h).0 same)
all_meet j laws exact formed (Err e) h = tt
