use Rattle.std.proofs.Common.{ℕ}
use Rattle.thr_endings.specs.Endings.{Gives}
use Rattle.thr_top.specs.Answers.{MakeAnswers}
use Rattle.thr_top.proofs.Endings.{for-its-script}
use Rattle.thr_top.proofs.check.plain_top.Goals as goal

pub returns-in-Some-clause-make : goal.returns-in-Some-clause-make
returns-in-Some-clause-make g c =
    for-its-script c.args.words.now c.in-Some.number c.in-Some.workers (λ (n t : ℕ). Gives (MakeAnswers n t) (g.K.Sink.held c.args.sink.now) (g.K.Sink.held c.make.new.sink) c.make.result.0)
    c.in-Some.ensures c.make.ensures.ends
