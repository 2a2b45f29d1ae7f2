use Rattle.std.proofs.Common.{refl, ◌∙◌}
use Rattle.thr_endings.specs.Endings.{answered}
use Rattle.thr_endings.proofs.Endings.{ends-no-memory}
use Rattle.thr_journal_commands.specs.Answers.{ReportAnswers, reported}
use Rattle.thr_journal_commands.proofs.Told.{no-memory-report, report-told}
use Rattle.thr_journal_commands.proofs.reporting.give_report.Goals as goal

pub returns-in_default-clause-ends : goal.returns-in_default-clause-ends
returns-in_default-clause-ends g c = λ input short is. ends-no-memory (ReportAnswers input) _ (no-memory-report input)

pub returns-in-Ok-report_text-clause-ends : goal.returns-in-Ok-report_text-clause-ends
returns-in-Ok-report_text-clause-ends g c = λ input short is.
    answered _ _
    (reported c.args.j.now short is refl
    (c.as_slice.ensures.value ∙ report-told c.args.j.now.script c.args.j.now.entries c.args.j.now.stop _ _ _ c.in-Ok-report_text.ensures c.in-Ok.ensures.counts c.in-Ok.ensures.stop))
    c.give.ensures.written

pub returns-clause-ends : goal.returns-clause-ends
returns-clause-ends g c = λ input short is. ends-no-memory (ReportAnswers input) _ (no-memory-report input)
