use Rattle.std.proofs.Common.{ap, refl, Err, arith}
use Rattle.thr_endings.specs.Endings.{Ends, answered}
use Rattle.thr_top.specs.Answers.{RunAnswers, not_run, too_long, max_script}
use Rattle.thr_endings.proofs.Endings.{ends-no-memory, told-all, told-any, told-anyway, told-long}
use Rattle.thr_top.proofs.Endings.{no-memory-run, runs-well}
use Rattle.thr_top.proofs.top.run_on.Goals as goal

pub returns-in-Ok-clause-run : goal.returns-in-Ok-clause-run
returns-in-Ok-clause-run g c =
    told-all _ _ _ (λ input. Ends (RunAnswers c.args.workers input) (g.K.Sink.held c.args.sink.now) (g.K.Sink.held c.run_input.new.sink) c.run_input.result.0) c.in-Ok.ensures.whole (rw c.as_slice.ensures.value at c.run_input.ensures.ends)

pub returns-in-Ok-clause-complete : goal.returns-in-Ok-clause-complete
returns-in-Ok-clause-complete g c =
    told-all _ _ _ _ c.in-Ok.ensures.whole (λ script read write. runs-well _ (rw c.as_slice.ensures.value at c.run_input.ensures.complete script) (λ four. write (c.run_input.ensures.write four)))

pub returns-in-Err-TooLong-clause-run : goal.returns-in-Err-TooLong-clause-run
returns-in-Err-TooLong-clause-run g c =
    told-long max_script _ _ _ (c.in-Err-TooLong.ensures.long (ap Err c.in-Err-TooLong.field-0-is)) (λ input long. answered _ _ (not_run (too_long long refl refl)) c.give.ensures.written)

pub returns-in-Err-NoMemory-clause-run : goal.returns-in-Err-NoMemory-clause-run
returns-in-Err-NoMemory-clause-run g c = told-any _ _ (λ input. ends-no-memory (RunAnswers c.args.workers input) _ (no-memory-run c.args.workers input))

pub returns-in-Err-TooLong-clause-complete : goal.returns-in-Err-TooLong-clause-complete
returns-in-Err-TooLong-clause-complete g c =
    told-long max_script _ _ _ (c.in-Err-TooLong.ensures.long (ap Err c.in-Err-TooLong.field-0-is)) (λ input long script read write. absurd (omega (arith, long, script.0)))

pub returns-in-Err-TooLong-clause-only_long : goal.returns-in-Err-TooLong-clause-only_long
returns-in-Err-TooLong-clause-only_long g c = told-anyway max_script _ _ _ c.give.ensures.written
