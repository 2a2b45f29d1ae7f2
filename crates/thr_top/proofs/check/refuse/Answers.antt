use Rattle.std.proofs.Common.{refl, ◌∙◌}
use Rattle.thr_endings.specs.Endings.{answered}
use Rattle.thr_top.specs.Answers.{Refuses, faulty, no_memory}
use Rattle.thr_endings.proofs.Endings.{ends-no-memory}
use Rattle.thr_top.proofs.check.refuse.Goals as goal

pub returns-in-Ok-clause-refused : goal.returns-in-Ok-clause-refused
returns-in-Ok-clause-refused g c = λ input short pass stated.
    answered _ _ (faulty short pass c.args.place.line c.args.place.number stated refl (c.as_bytes.ensures.value ∙ c.in-Ok.ensures)) c.give.ensures.written

pub returns-in-Err-clause-refused : goal.returns-in-Err-clause-refused
returns-in-Err-clause-refused g c = λ input short pass stated. ends-no-memory (Refuses input) _ (no_memory refl refl)
