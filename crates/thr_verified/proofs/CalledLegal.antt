-- `verify` calls legal what `run` writes.
use Rattle.std.proofs.Common.{◌≡◌, ℕ, ◌≤◌, ◌<◌, List, [], ◌∷◌, length, codes, sym, ap, subst, ◌∙◌, arith, inl, inr}
use Rattle.std.specs.Prelude.{◌⊎◌, None, Some}
use Rattle.thr_syntax.specs.declared.tree.Script.{Script}
use Rattle.thr_syntax.specs.declared.journal.Journal.{Journal}
use Rattle.thr_syntax.specs.Canon.{line}
use Rattle.thr_text.specs.Faults.{first_of}
use Rattle.thr_text.specs.Reading.{Reads}
use Rattle.thr_journals.specs.Faults.{Fault, faults}
use Rattle.thr_verdict.specs.FirstWrong.{first_wrong}
use Rattle.thr_verdict.specs.Verdicts.{verdict_text}
use Rattle.thr_written.specs.Written.{IsWritten}
use Rattle.thr_written.proofs.Again.{is_short, is_faultless, is_right}
use Rattle.thr_journal_commands.specs.Answers as journal
use Rattle.thr_journal_commands.specs.Answers.{RefusesJournal, VerifyAnswers, found_legal, found_illegal, not_verified}
use Rattle.thr_top.specs.Answers as top
use Rattle.thr_top.specs.Answers.{Refuses, RunAnswers, ran, not_run}

-- The answer is `legal`, or memory is wanting.
abbrev pub CalledLegal : ℕ → List ℕ → Type 0
CalledLegal judged verdict = ((judged ≡ 0) × (verdict ≡ line (codes "legal" ∷ []))) ⊎ ((judged ≡ 5) × (verdict ≡ []))

-- A status with which `run` writes a journal.
abbrev pub HasJournal : ℕ → Type 0
HasJournal status = (status ≡ 0) ⊎ ((status ≡ 6) ⊎ (status ≡ 7))

no-first : (fs : List Fault) (n m : ℕ) → fs ≡ [] → first_of fs ≡ Some (n, m) → ⊥
no-first fs n m e f = absurd (cc (sym f ∙ ap first_of e))

not-none : (j : Journal) (d : _) → first_wrong j ≡ None → first_wrong j ≡ Some d → ⊥
not-none j d e f = absurd (cc (sym e ∙ f))

-- What is refused ends with 2 or 5.
not-refused : (input written : List ℕ) (status : ℕ) → Refuses input status written → HasJournal status → ⊥
not-refused input written status (top.too_long long told text) (inl e) = absurd (omega (arith, told, e))
not-refused input written status (top.too_long long told text) (inr (inl e)) = absurd (omega (arith, told, e))
not-refused input written status (top.too_long long told text) (inr (inr e)) = absurd (omega (arith, told, e))
not-refused input written status (top.faulty short pass at number first told text) (inl e) = absurd (omega (arith, told, e))
not-refused input written status (top.faulty short pass at number first told text) (inr (inl e)) = absurd (omega (arith, told, e))
not-refused input written status (top.faulty short pass at number first told text) (inr (inr e)) = absurd (omega (arith, told, e))
not-refused input written status (top.no_memory told text) (inl e) = absurd (omega (arith, told, e))
not-refused input written status (top.no_memory told text) (inr (inl e)) = absurd (omega (arith, told, e))
not-refused input written status (top.no_memory told text) (inr (inr e)) = absurd (omega (arith, told, e))

module _ (written : List ℕ) (j : Journal) (w : IsWritten written j) where
  refused-so : (judged : ℕ) (verdict : List ℕ) → RefusesJournal written judged verdict → CalledLegal judged verdict
  refused-so judged verdict (journal.too_long long told text) = let short = is_short written j w in absurd (omega (arith, long, short))
  refused-so judged verdict (journal.faulty short at number first told text) = absurd (no-first (faults written) at number (is_faultless written j w) first)
  refused-so judged verdict (journal.no_memory told text) = inr (told, text)

  judged-so : (judged : ℕ) (verdict : List ℕ) → VerifyAnswers written judged verdict → CalledLegal judged verdict
  unfolding verdict_text
  judged-so judged verdict (found_legal k short is legal laws told text) = inl (told, text)
  judged-so judged verdict (found_illegal k short is illegal d first told text) = absurd (not-none k d (is_right written j w k is.formed is.so) first)
  judged-so judged verdict (not_verified refused) = refused-so judged verdict refused

pub called-legal : (input written verdict : List ℕ) (workers status judged : ℕ) → 1 ≤ workers → workers ≤ 16 → RunAnswers workers input status written → HasJournal status
    → VerifyAnswers written judged verdict → CalledLegal judged verdict
called-legal input written verdict workers status judged some few (ran s entries stop short reads legal laws only cause told text) has v =
    judged-so written (record { workers = workers; script = s; entries = entries; stop = stop })
    (record { formed = reads.formed; some_worker = some; few_workers = few; legal = legal; text = text }) judged verdict v
called-legal input written verdict workers status judged some few (not_run refused) has v = absurd (not-refused input written status refused has)
