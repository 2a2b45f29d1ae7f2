use Rattle.std.proofs.Common.{◌≡◌, length, sym, ◌∙◌, ap, subst, false, rules}
use Rattle.std.specs.Prelude.{nat_le, is_some, ◌||◌}
use Rattle.thr_parts.specs.Dispatch.{some_can_run}
use Rattle.thr_parts.specs.Expiry.{earliest}
use Rattle.thr_parts.specs.Threads.{live}
use Rattle.thr_model.specs.States.{State}
use Rattle.thr_machine.specs.Views.{BookView}
use Rattle.thr_machine.specs.Books.{state_of, stop_of, IsReached}
use Rattle.thr_machine.specs.declared.book.Book.TheInside.{Inside}
use Rattle.thr_machine.proofs.Stops.{stop-is, stop-running}
use Rattle.thr_machine.proofs.book.Book.stop_test.Goals as goal

pub returns-then-some_can_run-clause-value : goal.returns-then-some_can_run-clause-value
returns-then-some_can_run-clause-value c =
    let a : Inside = c.self.inside in
    let count : c.len.result ≡ length a.workings.entries.items = search rules in
    subst (λ (b : BookView). c.stop_at_limit.result ≡ stop_of b) c.self.view_is
    (stop-running a.lines (state_of a.lines a.workings a.stacks) (length a.workings.entries.items) c.stop_at_limit.result c.is_full-full.result
    (c.parts_agree_on_who_waits.ensures.records a.lines a.workers _ c.self.invariant.reached.history)
    (c.parts_agree_on_who_waits.ensures.living a.lines a.workers _ c.self.invariant.reached.history)
    (sym c.some_can_run.ensures ∙ c.if-some_can_run.true)
    (c.is_full-full.ensures ∙ ap (nat_le a.limit) count ∙ ap (λ n. nat_le n (length a.workings.entries.items)) c.self.invariant.limit) c.stop_at_limit.ensures)

pub returns-clause-value : goal.returns-clause-value
returns-clause-value c =
    let a : Inside = c.self.inside in
    let st : State = state_of a.lines a.workings a.stacks in
    let count : c.len.result ≡ length a.workings.entries.items = search rules in
    let still : some_can_run st.rows ≡ false = sym c.some_can_run.ensures ∙ c.if-some_can_run.false in
    subst (λ (b : BookView). c.stop_among.result ≡ stop_of b) c.self.view_is
    (stop-is a.lines st (length a.workings.entries.items) c.stop_among.result c.is_some-going.result c.is_full-full.result
    (c.stop_among.ensures (live a.workings.services.threads) (ap (λ p. p.0) c.live-count.ensures) (ap (λ p. p.1) c.live-count.ensures))
    (c.is_some-going.ensures ∙ ap is_some c.earliest.ensures ∙ ap (λ b. b || is_some (earliest st.conds)) (sym still))
    (c.is_full-full.ensures ∙ ap (nat_le a.limit) count ∙ ap (λ n. nat_le n (length a.workings.entries.items)) c.self.invariant.limit))

pub returns-clause-reached : goal.returns-clause-reached
returns-clause-reached c = subst IsReached c.self.view_is c.self.invariant.reached
