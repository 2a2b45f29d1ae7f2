use Rattle.std.proofs.Common.{◌≡◌, refl, sym, ◌∙◌, ap, subst, Some}
use Rattle.thr_values.specs.declared.event.Event.TheVariants as event
use Rattle.thr_parts.specs.Tables.{none}
use Rattle.thr_parts.specs.Rows.{Rows}
use Rattle.thr_parts.specs.Dispatch.{running}
use Rattle.thr_model.specs.States.{State}
use Rattle.thr_services.specs.Views.{ServicesView}
use Rattle.thr_turns.specs.declared.workings.Workings.{Workings}
use Rattle.thr_machine.specs.Books.{view_of, state_of}
use Rattle.thr_machine.specs.declared.book.Book.TheInside.{Inside}
use Rattle.thr_machine.proofs.Keeping.{FollowStacks, is-open, execution_of}
use Rattle.thr_machine.proofs.Dispatching.{dispatch-not, dispatch-outside, dispatched-runs}
use Rattle.thr_machine.proofs.BookEvents.{dispatch-event, book-dispatch, not-made, makes-in}
use Rattle.thr_machine.proofs.book.Book.dispatch.Goals as goal

pub returns-then-p-self-clause-none : goal.returns-then-p-self-clause-none
returns-then-p-self-clause-none c =
    let a : Inside = c.self.inside in
    (not-made a c.args.self.now (event.Dispatch c.args.p) c.self.view_is (dispatch-outside a.lines a.workers c.args.p (state_of a.lines a.workings a.stacks) c.if-p-self.true), refl)

pub invariant_of-self-in-Some : goal.invariant_of-self-in-Some
invariant_of-self-in-Some c =
    let a : Inside = c.self.inside in
    let w : Workings = record a.workings { services = c.dispatch.new.self; entries = c.write.new.entries } in
    let x = execution_of (view_of a) c.self.invariant.reached in
    let follow : FollowStacks a.lines = record {
      put_left = c.remainders_change_with_stacks.ensures.put a.lines;
      cut_left = c.remainders_change_with_stacks.ensures.cut a.lines;
      get_left = c.remainders_change_with_stacks.ensures.get a.lines;
      has_left = c.remainders_change_with_stacks.ensures.has a.lines;
    } in
    (book-dispatch a c.args.p c.in-Some.t w c.self.invariant (is-open a c.args.self.now c.self.view_is c.requires) follow
    (λ made is. c.stacks_stand_after_events.ensures a.lines a.workers x c.self.invariant.reached.history (event.Dispatch c.args.p) made is)
    (dispatch-event a w c.args.p c.in-Some.t c.if-p-self.false c.in-Some.ensures.taken c.in-Some.ensures.state refl) c.write.ensures.items refl c.write.ensures.len).1

pub returns-in-None-clause-none : goal.returns-in-None-clause-none
returns-in-None-clause-none c =
    let a : Inside = c.self.inside in (
      not-made a c.args.self.now (event.Dispatch c.args.p) c.self.view_is (dispatch-not a.lines a.workers c.args.p (state_of a.lines a.workings a.stacks) c.if-p-self.false c.in-None.ensures.taken),
      ap (λ (v : ServicesView). view_of (record a { workings = record a.workings { services = v } })) c.in-None.ensures.none ∙ c.self.view_is,
    )

pub returns-in-Some-clause-made : goal.returns-in-Some-clause-made
returns-in-Some-clause-made c =
    let a : Inside = c.self.inside in
    let w : Workings = record a.workings { services = c.dispatch.new.self; entries = c.write.new.entries } in
    let x = execution_of (view_of a) c.self.invariant.reached in
    let follow : FollowStacks a.lines = record {
      put_left = c.remainders_change_with_stacks.ensures.put a.lines;
      cut_left = c.remainders_change_with_stacks.ensures.cut a.lines;
      get_left = c.remainders_change_with_stacks.ensures.get a.lines;
      has_left = c.remainders_change_with_stacks.ensures.has a.lines;
    } in
    makes-in a c.args.self.now _ (event.Dispatch c.args.p) c.self.view_is
    (book-dispatch a c.args.p c.in-Some.t w c.self.invariant (is-open a c.args.self.now c.self.view_is c.requires) follow
    (λ made is. c.stacks_stand_after_events.ensures a.lines a.workers x c.self.invariant.reached.history (event.Dispatch c.args.p) made is)
    (dispatch-event a w c.args.p c.in-Some.t c.if-p-self.false c.in-Some.ensures.taken c.in-Some.ensures.state refl) c.write.ensures.items refl c.write.ensures.len).0

pub returns-in-Some-clause-thread : goal.returns-in-Some-clause-thread
returns-in-Some-clause-thread c =
    let a : Inside = c.self.inside in
    let x = execution_of (view_of a) c.self.invariant.reached in
    subst (λ (rs : Rows). running rs c.args.p ≡ Some c.in-Some.t) (ap (λ (st : State). st.rows) (c.in-Some.ensures.state none none))
    (dispatched-runs a.workings.services.rows c.args.p c.in-Some.t (c.states_stay_canonical.ensures a.lines a.workers x c.self.invariant.reached.history).seats (sym c.in-Some.ensures.taken))
