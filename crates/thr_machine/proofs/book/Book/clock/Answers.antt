use Rattle.std.proofs.Common.{ℤ, refl, sym, subst, ◌∙◌, arith}
use Rattle.std.proofs.lemmas.Int.{to_z-of_z, ints}
use mir.Val.{SFits}
use mir.Syntax.{w64}
use Rattle.thr_values.specs.declared.event.Event.TheVariants as event
use Rattle.thr_stacks.specs.Stacks.{remainders_of}
use Rattle.thr_turns.specs.declared.workings.Workings.{Workings}
use Rattle.thr_machine.specs.Books.{view_of, state_of}
use Rattle.thr_machine.specs.Stepping.{MovesTo}
use Rattle.thr_machine.specs.declared.book.Book.TheInside.{Inside}
use Rattle.thr_machine.proofs.Keeping.{FollowStacks, is-open, execution_of}
use Rattle.thr_machine.proofs.Stops.{clock-busy, clock-idle}
use Rattle.thr_machine.proofs.BookEvents.{book-clock, not-made, makes-in}
use Rattle.thr_machine.proofs.book.Book.clock.Goals as goal

pub returns-then-some_can_run-clause-none : goal.returns-then-some_can_run-clause-none
returns-then-some_can_run-clause-none c = λ _.
    let a : Inside = c.self.inside in (
      not-made a c.args.self.now event.Clock c.self.view_is (clock-busy a.lines a.workers (state_of a.lines a.workings a.stacks) (sym c.some_can_run.ensures ∙ c.if-some_can_run.true)),
      refl,
    )

pub move_clock-requires-clause-can : goal.move_clock-requires-clause-can
move_clock-requires-clause-can c =
    let a : Inside = c.self.inside in
    c.clocks_find_what_they_ask.ensures a.lines a.workers (execution_of (view_of a) c.self.invariant.reached) c.self.invariant.formed c.self.invariant.reached.history
    (is-open a c.args.self.now c.self.view_is c.requires).no_stop a.workings.services (remainders_of a.lines a.stacks) a.workings.shared refl

pub invariant_of-self : goal.invariant_of-self
invariant_of-self c =
    let a : Inside = c.self.inside in
    let x = execution_of (view_of a) c.self.invariant.reached in
    let follow : FollowStacks a.lines = record {
      put_left = c.remainders_change_with_stacks.ensures.put a.lines;
      cut_left = c.remainders_change_with_stacks.ensures.cut a.lines;
      get_left = c.remainders_change_with_stacks.ensures.get a.lines;
      has_left = c.remainders_change_with_stacks.ensures.has a.lines;
    } in
    let fits : SFits w64 c.in-Some.now = search (arith, ints) in
    let moved : MovesTo c.in-Some.now a.workings c.move_clock.new.workings = subst (λ (n : ℤ). MovesTo n a.workings c.move_clock.new.workings) (to_z-of_z w64 c.in-Some.now fits) c.move_clock.ensures in
    (book-clock a c.in-Some.now c.move_clock.new.workings moved c.self.invariant (is-open a c.args.self.now c.self.view_is c.requires) follow
    (λ made is. c.stacks_stand_after_events.ensures a.lines a.workers x c.self.invariant.reached.history event.Clock made is)
    (λ made is. c.counts_rise_with_the_lines.ensures.lines a.lines a.workers (state_of a.lines a.workings a.stacks) event.Clock made is)
    (sym c.some_can_run.ensures ∙ c.if-some_can_run.false) (sym c.in-Some.ensures)).1

pub returns-in-None-clause-none : goal.returns-in-None-clause-none
returns-in-None-clause-none c = λ _.
    let a : Inside = c.self.inside in (
      not-made a c.args.self.now event.Clock c.self.view_is (clock-idle a.lines a.workers (state_of a.lines a.workings a.stacks) (sym c.in-None.ensures)),
      refl,
    )

pub returns-in-Some-clause-made : goal.returns-in-Some-clause-made
returns-in-Some-clause-made c = λ _.
    let a : Inside = c.self.inside in
    let x = execution_of (view_of a) c.self.invariant.reached in
    let follow : FollowStacks a.lines = record {
      put_left = c.remainders_change_with_stacks.ensures.put a.lines;
      cut_left = c.remainders_change_with_stacks.ensures.cut a.lines;
      get_left = c.remainders_change_with_stacks.ensures.get a.lines;
      has_left = c.remainders_change_with_stacks.ensures.has a.lines;
    } in
    let fits : SFits w64 c.in-Some.now = search (arith, ints) in
    let moved : MovesTo c.in-Some.now a.workings c.move_clock.new.workings = subst (λ (n : ℤ). MovesTo n a.workings c.move_clock.new.workings) (to_z-of_z w64 c.in-Some.now fits) c.move_clock.ensures in
    makes-in a c.args.self.now _ event.Clock c.self.view_is
    (book-clock a c.in-Some.now c.move_clock.new.workings moved c.self.invariant (is-open a c.args.self.now c.self.view_is c.requires) follow
    (λ made is. c.stacks_stand_after_events.ensures a.lines a.workers x c.self.invariant.reached.history event.Clock made is)
    (λ made is. c.counts_rise_with_the_lines.ensures.lines a.lines a.workers (state_of a.lines a.workings a.stacks) event.Clock made is)
    (sym c.some_can_run.ensures ∙ c.if-some_can_run.false) (sym c.in-Some.ensures)).0
