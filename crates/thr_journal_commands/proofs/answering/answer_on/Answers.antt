use Rattle.std.proofs.Common.{subst, sym}
use Rattle.thr_endings.specs.Endings.{Ends}
use Rattle.thr_endings.proofs.Endings.{finishes-well}
use Rattle.thr_journal_commands.specs.declared.command.JournalCommand.{JournalCommand}
use Rattle.thr_journal_commands.specs.Answers.{IsDone, JournalAnswers}
use Rattle.thr_journal_commands.proofs.answering.answer_on.Goals as goal

pub returns-in-Report-clause-ends : goal.returns-in-Report-clause-ends
returns-in-Report-clause-ends g c = λ input short is.
    subst (λ (x : JournalCommand). Ends (JournalAnswers x input) (g.K.Sink.held c.args.sink.now) (g.K.Sink.held c.give_report.new.sink) c.give_report.result.0) (sym c.in-Report.is) (c.give_report.ensures.ends input short is)

pub returns-in-Report-clause-done : goal.returns-in-Report-clause-done
returns-in-Report-clause-done g c = λ written.
    subst (λ (x : JournalCommand). IsDone x c.args.j.now c.give_report.result.0) (sym c.in-Report.is) (finishes-well _ 0 c.give_report.ensures.status written)

pub returns-in-Verify-clause-ends : goal.returns-in-Verify-clause-ends
returns-in-Verify-clause-ends g c = λ input short is.
    subst (λ (x : JournalCommand). Ends (JournalAnswers x input) (g.K.Sink.held c.args.sink.now) (g.K.Sink.held c.give_verdict.new.sink) c.give_verdict.result.0) (sym c.in-Verify.is) (c.give_verdict.ensures.ends input short is)

pub returns-in-Verify-clause-done : goal.returns-in-Verify-clause-done
returns-in-Verify-clause-done g c = λ written.
    subst (λ (x : JournalCommand). IsDone x c.args.j.now c.give_verdict.result.0) (sym c.in-Verify.is)
    (λ legal. finishes-well _ 0 (c.give_verdict.ensures.legal legal) written, λ illegal. finishes-well _ 8 (c.give_verdict.ensures.illegal illegal) written)
