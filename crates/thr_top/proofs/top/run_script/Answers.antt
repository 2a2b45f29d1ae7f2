use Rattle.std.proofs.Common.{◌∙◌, ap, ℕ}
use Rattle.thr_syntax.specs.declared.tree.Script.{Script}
use Rattle.thr_text.specs.Journals.{text}
use Rattle.thr_endings.specs.Endings.{answered}
use Rattle.thr_top.specs.Answers.{RunAnswers, ran}
use Rattle.thr_endings.proofs.Endings.{ends-no-memory}
use Rattle.thr_top.proofs.Endings.{no-memory-run}
use Rattle.thr_top.proofs.top.run_script.Goals as goal

pub returns-in_default-clause-ends : goal.returns-in_default-clause-ends
returns-in_default-clause-ends g c = λ input short reads. ends-no-memory (RunAnswers c.args.workers input) _ (no-memory-run c.args.workers input)

pub returns-in_default-print-clause-ends : goal.returns-in_default-print-clause-ends
returns-in_default-print-clause-ends g c = λ input short reads. ends-no-memory (RunAnswers c.args.workers input) _ (no-memory-run c.args.workers input)

pub returns-clause-ends : goal.returns-clause-ends
returns-clause-ends g c = λ input short reads.
    answered _ _ (ran c.args.script c.in-Ok.journal.entries c.in-Ok.journal.stop short reads c.in-Ok.ensures.legal c.in-Ok.ensures.laws c.in-Ok.ensures.only c.in-Ok.ensures.stop c.status_of.ensures.status
    (c.as_slice.ensures.value ∙ c.in-Ok-print.ensures ∙ ap (λ (s : Script). text s c.in-Ok.journal.workers c.in-Ok.journal.entries c.in-Ok.journal.stop) c.in-Ok.ensures.same.0
    ∙ ap (λ (w : ℕ). text c.args.script w c.in-Ok.journal.entries c.in-Ok.journal.stop) c.in-Ok.ensures.same.1)) c.give.ensures.written
