use Rattle.std.proofs.Common.{refl, ◌∙◌}
use Rattle.thr_endings.specs.Endings.{answered}
use Rattle.thr_endings.proofs.Endings.{ends-no-memory}
use Rattle.thr_journal_commands.specs.Answers.{RefusesJournal, faulty, no_memory}
use Rattle.thr_journal_commands.proofs.refusing.refuse.Goals as goal

pub returns-in-Ok-clause-refused : goal.returns-in-Ok-clause-refused
returns-in-Ok-clause-refused g c = λ input short stated.
    answered _ _ (faulty short c.args.place.line c.args.place.number stated refl (c.as_bytes.ensures.value ∙ c.in-Ok.ensures)) c.give.ensures.written

pub returns-in-Err-clause-refused : goal.returns-in-Err-clause-refused
returns-in-Err-clause-refused g c = λ input short stated. ends-no-memory (RefusesJournal input) _ (no_memory refl refl)
