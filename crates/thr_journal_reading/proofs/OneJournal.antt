-- A text is read as one journal at most, and then has no fault.
use Rattle.std.proofs.Common.{◌≡◌, ℕ, List, [], ◌∷◌, Option, Some, None, refl, sym, ap, subst, ◌∙◌}
use Rattle.thr_values.specs.declared.history.Entry.{Entry}
use Rattle.thr_values.specs.declared.event.Stop.{Stop}
use Rattle.thr_syntax.specs.declared.tree.Script.{Script}
use Rattle.thr_syntax.specs.declared.journal.Journal.{Journal}
use Rattle.thr_text.specs.Faults.{first_of}
use Rattle.thr_reading.proofs.OneScript.{one_script}
use Rattle.thr_journals.specs.declared.fault.JournalFault.{JournalFault}
use Rattle.thr_journals.specs.declared.fault.JournalFault.TheVariants as fault
use Rattle.thr_journals.specs.Faults.{Fault, parts_of, faults}
use Rattle.thr_journals.specs.Reading.{History, script_in, ReadsJournal}
use Rattle.thr_journals.specs.Refusals.{IsFirst}

same_workers : (a b : ℕ) (o : Option ℕ) → o ≡ Some a → o ≡ Some b → a ≡ b
same_workers a b o e f = cc

same_history : (a b : History) (o : Option History) → o ≡ Some a → o ≡ Some b → a ≡ b
same_history a b o e f = cc

same_journal : (w v : ℕ) (s t : Script) (es fs : List Entry) (a b : Stop) → w ≡ v → s ≡ t → (let x : History = (es, a) in x) ≡ (fs, b)
    → (let j : Journal = record { workers = w; script = s; entries = es; stop = a } in j) ≡ record { workers = v; script = t; entries = fs; stop = b }
same_journal w v s t es fs a b e f g =
    ap (λ (n : ℕ). let j : Journal = record { workers = n; script = s; entries = es; stop = a } in j) e
    ∙ ap (λ (x : Script). let j : Journal = record { workers = v; script = x; entries = es; stop = a } in j) f
    ∙ ap (λ (x : History). let j : Journal = record { workers = v; script = t; entries = x.0; stop = x.1 } in j) g

pub one_journal : (bytes : List ℕ) (j k : Journal) → ReadsJournal bytes j → ReadsJournal bytes k → j ≡ k
one_journal bytes j k r q =
    same_journal j.workers k.workers j.script k.script j.entries k.entries j.stop k.stop (same_workers j.workers k.workers _ r.workers q.workers)
    (one_script (script_in (parts_of bytes)) j.script k.script r.script q.script) (same_history (j.entries, j.stop) (k.entries, k.stop) _ r.history q.history)

never : (f : JournalFault) (fs : List Fault) → fs ≡ [] → IsFirst f fs → f ≡ fault.NoMemory
never (fault.Refused place) fs e h = absurd (let none : first_of {A = Fault} [] ≡ Some (place.line, place.number) = sym (ap first_of e) ∙ h in cc)
never fault.NoMemory fs e h = refl

pub never_refused : (bytes : List ℕ) (j : Journal) (f : JournalFault) → ReadsJournal bytes j → IsFirst f (faults bytes) → f ≡ fault.NoMemory
never_refused bytes j f r h = never f (faults bytes) r.faultless h
