use Rattle.std.proofs.Common.{Some}
use Rattle.thr_syntax.specs.declared.dce.DceCall.TheVariants as dce
use Rattle.thr_syntax.specs.declared.form.Form.TheVariants as form
use Rattle.thr_trees.proofs.LinesNamed.{created_kind, line_is_named}
use Rattle.thr_trees.proofs.RoutinesFound.{a_routine}
use Rattle.thr_trees.proofs.laws.named_routines_are_there.Goals as goal

pub returns-clause-called : goal.returns-clause-called
returns-clause-called c = λ s h k name e place at. a_routine s h name (line_is_named s h k (form.Call name e place) at).named.0

pub returns-clause-created : goal.returns-clause-created
returns-clause-created c = λ s h k v attr name e at. a_routine s h name (created_kind s attr name (line_is_named s h k (form.Dce (dce.Create v attr name e)) at).named)

pub returns-clause-once : goal.returns-clause-once
returns-clause-once c = λ s h k block name at. a_routine s h name (line_is_named s h k (form.Dce (dce.Once block name)) at).named.1.0

pub returns-clause-destructor : goal.returns-clause-destructor
returns-clause-destructor c = λ s h k key name at. a_routine s h name (line_is_named s h k (form.Dce (dce.Keycreate key (Some name))) at).named.1.0

pub returns-clause-named : goal.returns-clause-named
returns-clause-named c = a_routine
