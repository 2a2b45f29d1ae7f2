use Rattle.std.proofs.Common.{◌≡◌, sym, ◌∙◌}
use Rattle.thr_parts.specs.declared.thread.Thread.{Thread}
use Rattle.thr_parts.specs.Tables.{get}
use Rattle.std.specs.Prelude.{Some}
use Rattle.thr_machine.specs.Books.{settings_in}
use Rattle.thr_machine.proofs.Tables.{has-some, some-has}
use Rattle.thr_machine.proofs.ReadyLaws.{restand}
use Rattle.thr_machine.proofs.ready.stacks_stand_after_events.Goals as goal

pub returns : goal.returns
returns c = λ s n x h e made is stacks before after stand.
    restand s stacks (settings_in s x.state) (settings_in s made.state) stand (λ t k there.
    let here = has-some stacks t k there in
    let seat = sym (c.parts_agree_on_who_waits.ensures.remainders s n x h t) ∙ before t here in
    let record_ : (th : Thread) × (get x.state.threads.records t ≡ Some th) = some-has x.state.threads.records t (c.parts_agree_on_who_waits.ensures.records s n x h t seat) in
    c.stacks_keep_their_size.ensures.settings s n x h e made is t record_.0 record_.1 (c.parts_agree_on_who_waits.ensures.living s n x h t record_.0 seat record_.1) (after t here))
