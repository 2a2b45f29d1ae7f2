use Rattle.std.proofs.Common.{inl, inr, subst}
use Rattle.thr_values.specs.declared.event.Event.TheVariants as event
use Rattle.thr_machine.specs.Views.{BookView}
use Rattle.thr_machine.specs.Books.{Makes}
use Rattle.thr_holds.proofs.Stops.{where-none}
use Rattle.thr_holds.proofs.locked.Locked.move_on.Goals as goal

pub returns-in-Some-clause-moves : goal.returns-in-Some-clause-moves
returns-in-Some-clause-moves g c = λ e. inl c.in-Some.ensures.made

pub returns-clause-moves : goal.returns-clause-moves
returns-clause-moves g c =
    let none = where-none c.dispatch.result c.in_default.is c.dispatch.ensures.none in
    λ e. inr (none.0, subst (λ (b : BookView). Makes b c.clock.new.self event.Clock) none.1 (c.clock.ensures.made e))
