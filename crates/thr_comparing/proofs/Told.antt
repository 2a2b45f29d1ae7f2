-- The text of a verdict is that of its first line that differs.
use Rattle.std.proofs.Common.{◌≡◌, ℕ, List, [], ◌∷◌, ◌++◌, Option, Some, None, refl, sym, ◌∙◌, ap}
use Rattle.std.specs.Prelude.{codes}
use Rattle.std.specs.Option.{option_map}
use Rattle.thr_values.specs.declared.event.Stop.TheVariants as stops
use Rattle.thr_syntax.specs.declared.journal.Journal.{Journal}
use Rattle.thr_syntax.specs.Canon.{line}
use Rattle.thr_text.specs.Journals.{Names}
use Rattle.thr_verdict.specs.Verdicts as verdict
use Rattle.thr_verdict.specs.Verdicts.{JournalLine, Numbered, Stopped, line_words, right_words, verdict_text}
use Rattle.thr_verdict.specs.FirstWrong.{first_wrong}
use Rattle.thr_comparing.specs.declared.verdict.Differs.{Differs}
use Rattle.thr_comparing.specs.declared.verdict.Verdict.{Verdict}
use Rattle.thr_comparing.specs.declared.verdict.Verdict.TheVariants.{Legal, Illegal}
use Rattle.thr_comparing.specs.Verdicts.{line_text, IsText, IsVerdict, number_line, should_text, difference_text, text_of}

module _ (names : Names) (word : List ℕ) where
  whole : (l : JournalLine) → line (word ∷ line_text names l ∷ []) ≡ line (word ∷ line_words names l)
  whole (Numbered n e) = refl
  whole (Stopped stops.Finished) = refl
  whole (Stopped (stops.Deadlock n t)) = refl
  whole (Stopped stops.Limit) = refl
  whole (Stopped stops.Memory) = refl

  whole_right : (o : Option JournalLine) → line (word ∷ should_text (option_map (line_text names) o) ∷ []) ≡ line (word ∷ right_words names o)
  whole_right None = refl
  whole_right (Some l) = whole l

difference_told : (j : Journal) (d : Differs) (w : verdict.Differs) → IsText j.script.names w d → difference_text d ≡ verdict_text j.script (Some w)
unfolding verdict_text
difference_told j d w x =
    (λ i. number_line (x.line i) ++ (line (codes "has" ∷ x.has i ∷ []) ++ line (codes "should" ∷ should_text (x.should i) ∷ [])))
    ∙ (λ i. number_line w.line ++ (whole j.script.names (codes "has") w.has i ++ whole_right j.script.names (codes "should") w.should i))

legal_told : (j : Journal) → text_of Legal ≡ verdict_text j.script None
unfolding verdict_text
legal_told j = refl

pub verdict_told : (j : Journal) (v : Verdict) → IsVerdict j v → text_of v ≡ verdict_text j.script (first_wrong j)
verdict_told j Legal none = legal_told j ∙ sym (ap (verdict_text j.script) none)
verdict_told j (Illegal d) f = difference_told j d f.first f.text ∙ sym (ap (verdict_text j.script) f.is)

pub all_told : (v : Verdict) (text : List ℕ) → text ≡ text_of v → (j : Journal) → IsVerdict j v → text ≡ verdict_text j.script (first_wrong j)
all_told v text is j h = is ∙ verdict_told j v h
