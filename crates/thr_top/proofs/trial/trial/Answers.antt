use Rattle.std.proofs.Common.{refl, sym, subst, ◌∙◌, arith}
use Rattle.thr_syntax.specs.declared.tree.Script.{Script}
use Rattle.thr_text.specs.Reading.{Formed}
use Rattle.thr_top.specs.Answers.{TrialAnswers, not_tried, trial_workers}
use Rattle.thr_holds.specs.Runs.{IsOver}
use Rattle.thr_endings.proofs.Endings.{gives-no-memory}
use Rattle.thr_top.proofs.Endings.{tried_by}
use Rattle.thr_top.proofs.trial.trial.Goals as goal

pub returns-in_default-clause-ends : goal.returns-in_default-clause-ends
returns-in_default-clause-ends g c = gives-no-memory (TrialAnswers c.args.number c.args.workers) _ (not_tried refl refl)

pub returns-in_default-run_workers-clause-ends : goal.returns-in_default-run_workers-clause-ends
returns-in_default-run_workers-clause-ends g c = gives-no-memory (TrialAnswers c.args.number c.args.workers) _ (not_tried refl refl)

pub returns-in_default-variables_of-clause-ends : goal.returns-in_default-variables_of-clause-ends
returns-in_default-variables_of-clause-ends g c = gives-no-memory (TrialAnswers c.args.number c.args.workers) _ (not_tried refl refl)

pub run_workers-requires-clause-formed : goal.run_workers-requires-clause-formed
run_workers-requires-clause-formed g c κs within = subst Formed (sym c.in-Ok.ensures) (c.made_scripts_keep_the_rules.ensures c.args.number trial_workers (omega arith) (omega arith))

pub returns-clause-ends : goal.returns-clause-ends
returns-clause-ends g c = record {
  wanted = c.status_of.result;
  written = c.as_bytes.result.now;
  answers =
      let run = c.in-Ok-run_workers.ensures in
      let script = c.in-Ok.ensures in
      tried_by c.args.number c.args.workers c.in-Ok-run_workers.run'.0 _ c.in-Some.stop c.status_of.result c.as_bytes.result.now
      run.turns (subst (λ (s : Script). IsOver c.in-Ok-run_workers.run'.0 s c.args.workers) script run.over) run.cause (sym c.in-Some.ensures.value) c.in-Some.ensures.legal
      c.status_of.ensures.status
      (c.as_bytes.ensures.value ∙ c.in-Ok-variables_of.ensures c.args.number (run.over.script ∙ script));
  writes = c.give.ensures.written;
}
