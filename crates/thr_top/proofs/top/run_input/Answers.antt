use Rattle.std.proofs.Common.{subst}
use Rattle.thr_text.specs.declared.fault.ParseFault.{ParseFault}
use Rattle.thr_text.specs.declared.fault.ParseFault.TheVariants.{Refused}
use Rattle.thr_text.specs.Reading.{faults}
use Rattle.thr_grammar.specs.Parsing.{IsFirstStated}
use Rattle.thr_top.specs.Answers.{RunAnswers}
use Rattle.thr_endings.proofs.Endings.{ends-no-memory}
use Rattle.thr_top.proofs.Endings.{no-memory-run, run-refused}
use Rattle.thr_top.proofs.top.run_input.Goals as goal

pub returns-in-Ok-clause-ends : goal.returns-in-Ok-clause-ends
returns-in-Ok-clause-ends g c = c.run_script.ensures.ends c.args.input.now c.requires.short c.in-Ok.ensures.reads

pub returns-in-Err-Refused-clause-ends : goal.returns-in-Err-Refused-clause-ends
returns-in-Err-Refused-clause-ends g c =
    let stated : IsFirstStated (Refused c.in-Err-Refused.place) (faults c.args.input.now) = subst (λ (f : ParseFault). IsFirstStated f (faults c.args.input.now)) c.in-Err-Refused.field-0-is c.in-Err-Refused.ensures.fault in
    run-refused c.args.workers c.args.input.now _ _ _ (c.refuse.ensures.refused c.args.input.now c.requires.short stated.0 stated.1)

pub returns-in-Err-NoMemory-clause-ends : goal.returns-in-Err-NoMemory-clause-ends
returns-in-Err-NoMemory-clause-ends g c = ends-no-memory (RunAnswers c.args.workers c.args.input.now) _ (no-memory-run c.args.workers c.args.input.now)
