use Rattle.std.proofs.Common.{ℕ, inr}
use Rattle.std.specs.Prelude.{IfSome}
use Rattle.thr_endings.specs.Endings.{Ends, Gives}
use Rattle.thr_top.specs.Answers.{RunAnswers, TrialAnswers}
use Rattle.thr_top.proofs.Endings.{for-its-number, for-its-trial}
use Rattle.thr_top.proofs.top.top.Goals as goal

pub returns-in-Some-clause-run : goal.returns-in-Some-clause-run
returns-in-Some-clause-run g c =
    for-its-number c.args.words.now c.in-Some.workers (λ (n : ℕ). IfSome (g.S.Source.left c.args.source.now) (λ input. Ends (RunAnswers n input) (g.K.Sink.held c.args.sink.now) (g.K.Sink.held c.run_on.new.sink) c.run_on.result.0))
    c.in-Some.ensures c.run_on.ensures.run

pub returns-in-Some-tried_of-clause-trial : goal.returns-in-Some-tried_of-clause-trial
returns-in-Some-tried_of-clause-trial g c =
    for-its-trial c.args.words.now c.in-Some-tried_of.number c.in-Some-tried_of.workers (λ (n w : ℕ). Gives (TrialAnswers n w) (g.K.Sink.held c.args.sink.now) (g.K.Sink.held c.trial.new.sink) c.trial.result.0)
    c.in-Some-tried_of.ensures c.trial.ensures.ends

pub returns-in-None-tried_of-clause-usage : goal.returns-in-None-tried_of-clause-usage
returns-in-None-tried_of-clause-usage g c = λ none. c.plain_top.ensures.usage (λ plain. none (inr plain))
