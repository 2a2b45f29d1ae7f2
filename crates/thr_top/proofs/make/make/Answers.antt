use Rattle.std.proofs.Common.{refl, ap, ◌∙◌}
use Rattle.thr_syntax.specs.Canon.{canon}
use Rattle.thr_top.specs.Answers.{MakeAnswers, wrote, not_made}
use Rattle.thr_endings.proofs.Endings.{gives-no-memory}
use Rattle.thr_top.proofs.make.make.Goals as goal

pub returns-in-Ok-print-clause-ends : goal.returns-in-Ok-print-clause-ends
returns-in-Ok-print-clause-ends g c = record {
  wanted = 0;
  written = c.as_slice.result.now;
  answers = wrote refl (c.as_slice.ensures.value ∙ c.in-Ok-print.ensures ∙ ap canon c.in-Ok.ensures);
  writes = c.give.ensures.written;
}

pub returns-in_default-clause-ends : goal.returns-in_default-clause-ends
returns-in_default-clause-ends g c = gives-no-memory (MakeAnswers c.args.number c.args.workers) _ (not_made refl refl)

pub returns-clause-ends : goal.returns-clause-ends
returns-clause-ends g c = gives-no-memory (MakeAnswers c.args.number c.args.workers) _ (not_made refl refl)
