use Rattle.std.proofs.Common.{ℕ, ◌∙◌, subst}
use Rattle.thr_syntax.specs.declared.tree.Script.{Script}
use Rattle.thr_model.specs.Histories.{Legal}
use Rattle.thr_top.proofs.Endings.{laws-of, only-of}
use Rattle.thr_top.proofs.run.history_of.Goals as goal

pub returns-clause-legal : goal.returns-clause-legal
returns-clause-legal g c =
    subst (λ (n : ℕ). Legal c.args.script n c.into_journal.result.entries c.into_journal.result.stop) (c.into_journal.ensures.workers ∙ c.in_ok-run.ensures.over.workers)
    (subst (λ (s : Script). Legal s c.into_journal.result.workers c.into_journal.result.entries c.into_journal.result.stop) (c.into_journal.ensures.script ∙ c.in_ok-run.ensures.over.script) c.into_journal.ensures.legal)

pub returns-clause-stop : goal.returns-clause-stop
returns-clause-stop g c = c.in_ok-run.ensures.cause c.into_journal.result.stop c.into_journal.ensures.stop

pub returns-clause-laws : goal.returns-clause-laws
returns-clause-laws g c =
    laws-of c.legal_histories_meet_the_laws.ensures c.args.script c.into_journal.result.script c.into_journal.result.workers c.into_journal.result.entries c.into_journal.result.stop
    c.requires.formed (c.into_journal.ensures.script ∙ c.in_ok-run.ensures.over.script) c.into_journal.ensures.legal

pub returns-clause-only : goal.returns-clause-only
returns-clause-only g c =
    only-of c.one_processor_has_one_history.ensures c.args.script c.into_journal.result.script c.into_journal.result.workers c.args.workers c.into_journal.result.entries c.into_journal.result.stop
    (c.into_journal.ensures.script ∙ c.in_ok-run.ensures.over.script) (c.into_journal.ensures.workers ∙ c.in_ok-run.ensures.over.workers)
    c.into_journal.ensures.legal (c.in_ok-run.ensures.cause c.into_journal.result.stop c.into_journal.ensures.stop)

pub returns-clause-same : goal.returns-clause-same
returns-clause-same g c = (c.into_journal.ensures.script ∙ c.in_ok-run.ensures.over.script, c.into_journal.ensures.workers ∙ c.in_ok-run.ensures.over.workers)
