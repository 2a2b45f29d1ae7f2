-- The text of the journal of a legal history is read as that journal, whose verdict is `legal`.
use Rattle.std.proofs.Common.{◌≡◌, ℕ, ◌≤◌, ◌<◌, ◌^◌, List, [], ◌∷◌, length, codes, None, sym, ap, subst, ◌∙◌, arith}
use Rattle.thr_syntax.specs.declared.journal.Journal.{Journal}
use Rattle.thr_syntax.specs.Canon.{line}
use Rattle.thr_text.specs.Journals.{text}
use Rattle.thr_verdict.specs.FormedJournals.{FormedJournal}
use Rattle.thr_verdict.specs.FirstWrong.{first_wrong}
use Rattle.thr_verdict.specs.Verdicts.{verdict_text}
use Rattle.thr_verdict.proofs.LegalLines.{no_line_differs}
use Rattle.thr_journals.specs.declared.fault.JournalFault.{JournalFault}
use Rattle.thr_journals.specs.declared.fault.JournalFault.TheVariants as fault
use Rattle.thr_journals.specs.Faults.{faults}
use Rattle.thr_journals.specs.Reading.{ReadsJournal}
use Rattle.thr_journals.specs.Refusals.{IsFirst}
use Rattle.thr_journal_reading.proofs.OneJournal.{one_journal, never_refused}
use Rattle.thr_journal_reading.proofs.TextsRead.{text_read}
use Rattle.thr_sizes.proofs.Lengths.{legal_text}
use Rattle.thr_formed.proofs.Lines.{legal_formed}
use Rattle.thr_written.specs.Written.{IsWritten}

module _ (bytes : List ℕ) (j : Journal) (w : IsWritten bytes j) where
  pub is_short : length bytes ≤ 134217728
  is_short = subst (λ (t : List ℕ). length t ≤ 134217728) (sym w.text) (legal_text j.script j.workers j.entries j.stop w.formed w.few_workers w.legal)

  is_small : length bytes < 2 ^ 32
  is_small = omega (arith, is_short)

  pub is_formed : FormedJournal j
  is_formed = legal_formed j.script j.workers j.entries j.stop w.formed w.some_worker w.few_workers w.legal

  pub is_read : ReadsJournal bytes j
  is_read = text_read bytes j is_small is_formed w.text

  pub is_faultless : faults bytes ≡ []
  is_faultless = let r = is_read in r.faultless

  pub refused_never : (f : JournalFault) → IsFirst f (faults bytes) → f ≡ fault.NoMemory
  refused_never f first = never_refused bytes j f is_read first

  module _ (k : Journal) (formed : FormedJournal k) (same : bytes ≡ text k.script k.workers k.entries k.stop) where
    pub is_only : k ≡ j
    is_only = one_journal bytes k j (text_read bytes k is_small formed same) is_read

    pub is_right : first_wrong k ≡ None
    is_right = ap first_wrong is_only ∙ no_line_differs j w.legal

    pub is_legal : verdict_text k.script (first_wrong k) ≡ line (codes "legal" ∷ [])
    unfolding verdict_text
    is_legal = ap (verdict_text k.script) is_right
