use Rattle.std.proofs.Common.{ap, refl, Err, arith}
use Rattle.thr_endings.specs.Endings.{Ends, answered}
use Rattle.thr_endings.proofs.Endings.{ends-no-memory, ends-so, told-all, told-any, told-anyway, told-long}
use Rattle.thr_journal_commands.specs.Answers.{JournalAnswers, RefusesJournal, no_memory, too_long, max_journal}
use Rattle.thr_journal_commands.proofs.Told.{refused-so, no-memory-done}
use Rattle.thr_journal_commands.proofs.answering.on_journal.Goals as goal

pub returns-in-Ok-clause-answers : goal.returns-in-Ok-clause-answers
returns-in-Ok-clause-answers g c =
    told-all _ _ _ (λ input. Ends (JournalAnswers c.args.command input) (g.K.Sink.held c.args.sink.now) (g.K.Sink.held c.answer_input.new.sink) c.answer_input.result.0) c.in-Ok.ensures.whole (rw c.as_slice.ensures.value at c.answer_input.ensures.ends)

pub returns-in-Ok-clause-complete : goal.returns-in-Ok-clause-complete
returns-in-Ok-clause-complete g c =
    told-all _ _ _ _ c.in-Ok.ensures.whole (λ j given read write. rw c.as_slice.ensures.value at c.answer_input.ensures.complete j given (λ four. write (c.answer_input.ensures.write four)))

pub returns-in-Err-TooLong-clause-answers : goal.returns-in-Err-TooLong-clause-answers
returns-in-Err-TooLong-clause-answers g c =
    told-long max_journal _ _ _ (c.in-Err-TooLong.ensures.long (ap Err c.in-Err-TooLong.field-0-is)) (λ input long. answered _ _ (refused-so c.args.command input _ _ (too_long long refl refl)) c.give.ensures.written)

pub returns-in-Err-TooLong-clause-complete : goal.returns-in-Err-TooLong-clause-complete
returns-in-Err-TooLong-clause-complete g c =
    told-long max_journal _ _ _ (c.in-Err-TooLong.ensures.long (ap Err c.in-Err-TooLong.field-0-is)) (λ input long j given read write. absurd (omega (arith, long, given.short)))

pub returns-in-Err-NoMemory-clause-answers : goal.returns-in-Err-NoMemory-clause-answers
returns-in-Err-NoMemory-clause-answers g c =
    told-any _ _ (λ input. ends-so (RefusesJournal input) (JournalAnswers c.args.command input) _ _ _ (refused-so c.args.command input) (ends-no-memory (RefusesJournal input) _ (no_memory refl refl)))

pub returns-in-Err-NoMemory-clause-complete : goal.returns-in-Err-NoMemory-clause-complete
returns-in-Err-NoMemory-clause-complete g c = no-memory-done _ c.args.command _ _

pub returns-in-Err-TooLong-clause-only_long : goal.returns-in-Err-TooLong-clause-only_long
returns-in-Err-TooLong-clause-only_long g c = told-anyway max_journal _ _ _ c.give.ensures.written
