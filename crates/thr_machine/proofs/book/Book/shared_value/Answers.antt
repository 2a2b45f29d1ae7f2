use Rattle.std.proofs.Common.{◌≡◌, ◌∙◌, ap, sym, arith}
use Rattle.std.specs.Option.{is_some}
use Rattle.thr_parts.specs.Tables.{get, has}
use Rattle.thr_parts.proofs.TableLaws.{has_get}
use Rattle.thr_model.specs.States.{declared_values}
use Rattle.thr_machine.specs.Views.{BookView}
use Rattle.thr_machine.specs.Books.{view_of}
use Rattle.thr_machine.specs.declared.book.Book.TheInside.{Inside}
use Rattle.thr_machine.proofs.Keeping.{execution_of}
use Rattle.thr_machine.proofs.OpeningLaws.{no-value, nothing-there}
use Rattle.thr_machine.proofs.book.Book.shared_value.Goals as goal

pub returns-then-name-ge-NAMES-clause-value : goal.returns-then-name-ge-NAMES-clause-value
returns-then-name-ge-NAMES-clause-value c =
    let a : Inside = c.self.inside in
    let fits = c.names_fit.ensures.shared a.lines c.self.invariant.formed in
    let declared = c.shared_variables_stay_declared.ensures a.lines a.workers (execution_of (view_of a) c.self.invariant.reached) c.self.invariant.formed c.self.invariant.reached.history c.args.name.0 in
    sym (nothing-there a.workings.shared c.args.name.0 (declared ∙ no-value a.lines.items c.args.name.0 fits (search arith)))
    ∙ ap (λ (b : BookView). get b.state.shared c.args.name.0) c.self.view_is

pub returns-then-name-ge-NAMES-clause-declared : goal.returns-then-name-ge-NAMES-clause-declared
returns-then-name-ge-NAMES-clause-declared c =
    let a : Inside = c.self.inside in
    let fits = c.names_fit.ensures.shared a.lines c.self.invariant.formed in
    sym (no-value a.lines.items c.args.name.0 fits (search arith)) ∙ ap (λ (b : BookView). has (declared_values b.script.items) c.args.name.0) c.self.view_is

pub returns-clause-declared : goal.returns-clause-declared
returns-clause-declared c =
    let a : Inside = c.self.inside in
    let declared = c.shared_variables_stay_declared.ensures a.lines a.workers (execution_of (view_of a) c.self.invariant.reached) c.self.invariant.formed c.self.invariant.reached.history c.args.name.0 in
    ap is_some c.get.ensures ∙ sym (has_get a.workings.shared c.args.name.0) ∙ declared ∙ ap (λ (b : BookView). has (declared_values b.script.items) c.args.name.0) c.self.view_is
