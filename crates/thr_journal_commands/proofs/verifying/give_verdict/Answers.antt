use Rattle.std.proofs.Common.{◌∙◌}
use Rattle.thr_endings.specs.Endings.{answered}
use Rattle.thr_endings.proofs.Endings.{ends-no-memory}
use Rattle.thr_journal_commands.specs.Answers.{VerifyAnswers}
use Rattle.thr_journal_commands.proofs.Told.{no-memory-verify, verdict-told, legal-told, illegal-told, ends-or-fails, two-ends, fails-so}
use Rattle.thr_journal_commands.proofs.verifying.give_verdict.Goals as goal

pub returns-in_default-clause-ends : goal.returns-in_default-clause-ends
returns-in_default-clause-ends g c = λ input short is. ends-no-memory (VerifyAnswers input) _ (no-memory-verify input)

pub returns-in-Ok-verdict_text-clause-ends : goal.returns-in-Ok-verdict_text-clause-ends
returns-in-Ok-verdict_text-clause-ends g c = λ input short is.
    answered _ _
    (verdict-told input c.args.j.now c.in-Ok.verdict c.status_of.result c.as_slice.result.now c.legal_histories_meet_the_laws.ensures short is c.in-Ok.ensures.legal c.in-Ok.ensures.first c.status_of.ensures
    (c.as_slice.ensures.value ∙ c.in-Ok-verdict_text.ensures.defined c.args.j.now c.in-Ok.ensures.first))
    c.give.ensures.written

pub returns-clause-ends : goal.returns-clause-ends
returns-clause-ends g c = λ input short is. ends-no-memory (VerifyAnswers input) _ (no-memory-verify input)

pub returns-in-Ok-verdict_text-clause-legal : goal.returns-in-Ok-verdict_text-clause-legal
returns-in-Ok-verdict_text-clause-legal g c = λ legal. ends-or-fails _ _ 0 _ c.give.ensures.cause (legal-told c.args.j.now _ _ c.in-Ok.ensures.legal c.status_of.ensures legal)

pub returns-in-Ok-verdict_text-clause-illegal : goal.returns-in-Ok-verdict_text-clause-illegal
returns-in-Ok-verdict_text-clause-illegal g c = λ illegal. ends-or-fails _ _ 8 _ c.give.ensures.cause (illegal-told c.args.j.now _ _ c.in-Ok.ensures.legal c.status_of.ensures illegal)

pub returns-in-Ok-verdict_text-clause-status : goal.returns-in-Ok-verdict_text-clause-status
returns-in-Ok-verdict_text-clause-status g c = two-ends _ _ _ _ c.give.ensures.cause c.status_of.ensures

pub returns-in-Ok-verdict_text-clause-write : goal.returns-in-Ok-verdict_text-clause-write
returns-in-Ok-verdict_text-clause-write g c = λ four. fails-so _ _ _ _ c.give.ensures.cause c.status_of.ensures four
