use Rattle.std.proofs.Common.{refl, ◌∙◌}
use Rattle.thr_endings.specs.Endings.{answered}
use Rattle.thr_top.specs.Answers.{CheckAnswers, checked}
use Rattle.thr_endings.proofs.Endings.{ends-no-memory}
use Rattle.thr_top.proofs.Endings.{no-memory-check}
use Rattle.thr_top.proofs.check.check_script.Goals as goal

pub returns-in-Ok-clause-ends : goal.returns-in-Ok-clause-ends
returns-in-Ok-clause-ends g c = λ input short reads.
    answered _ _ (checked c.args.script.now short reads refl (c.as_slice.ensures.value ∙ c.in-Ok.ensures)) c.give.ensures.written

pub returns-in-Err-clause-ends : goal.returns-in-Err-clause-ends
returns-in-Err-clause-ends g c = λ input short reads. ends-no-memory (CheckAnswers input) _ (no-memory-check input)
