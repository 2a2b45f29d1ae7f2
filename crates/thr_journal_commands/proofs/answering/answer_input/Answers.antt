use Rattle.std.proofs.Common.{subst, refl}
use Rattle.thr_syntax.specs.declared.journal.Journal.{Journal}
use Rattle.thr_endings.proofs.Endings.{ends-no-memory, ends-so}
use Rattle.thr_journal_commands.specs.Answers.{IsDone, JournalAnswers, RefusesJournal, no_memory}
use Rattle.thr_journal_commands.proofs.Told.{refused-so, done-no-memory, first-told}
use Rattle.thr_journal_commands.proofs.answering.answer_input.Goals as goal

pub returns-in-Ok-clause-ends : goal.returns-in-Ok-clause-ends
returns-in-Ok-clause-ends g c =
    c.answer_on.ensures.ends c.args.input.now c.requires record { formed = c.in-Ok.ensures.formed; so = c.in-Ok.ensures.text; faultless = c.in-Ok.ensures.faultless }

pub returns-in-Ok-clause-complete : goal.returns-in-Ok-clause-complete
returns-in-Ok-clause-complete g c = λ j given written.
    subst (λ (x : Journal). IsDone c.args.command x c.answer_on.result.0) (c.in-Ok.ensures.only j given.formed given.so) (c.answer_on.ensures.done written)

pub returns-in-Err-Refused-clause-ends : goal.returns-in-Err-Refused-clause-ends
returns-in-Err-Refused-clause-ends g c =
    let told = rw c.in-Err-Refused.field-0-is at c.refuse.ensures.refused in
    ends-so (RefusesJournal c.args.input.now) (JournalAnswers c.args.command c.args.input.now) _ _ _ (refused-so c.args.command c.args.input.now)
    (told c.args.input.now c.requires (first-told _ c.in-Err-Refused.place _ c.in-Err-Refused.field-0-is c.in-Err-Refused.ensures.fault))

pub returns-in-Err-Refused-clause-complete : goal.returns-in-Err-Refused-clause-complete
returns-in-Err-Refused-clause-complete g c = λ j given written.
    let never = c.in-Err-Refused.ensures.refused j given.formed given.so in
    absurd (cc (never, c.in-Err-Refused.field-0-is))

pub returns-in-Err-NoMemory-clause-ends : goal.returns-in-Err-NoMemory-clause-ends
returns-in-Err-NoMemory-clause-ends g c =
    ends-so (RefusesJournal c.args.input.now) (JournalAnswers c.args.command c.args.input.now) _ _ _ (refused-so c.args.command c.args.input.now)
    (ends-no-memory (RefusesJournal c.args.input.now) _ (no_memory refl refl))

pub returns-in-Err-NoMemory-clause-complete : goal.returns-in-Err-NoMemory-clause-complete
returns-in-Err-NoMemory-clause-complete g c = λ j given written. done-no-memory c.args.command j
