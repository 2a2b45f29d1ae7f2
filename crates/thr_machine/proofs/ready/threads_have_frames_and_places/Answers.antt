use Rattle.std.proofs.Common.{sym, ◌∙◌}
use Rattle.thr_cancels.proofs.HistoryLines.{history_knows}
use Rattle.thr_machine.proofs.ReadyLaws.{seated-frames, has-stack-place, numbered, two-of-many}
use Rattle.thr_machine.proofs.ready.threads_have_frames_and_places.Goals as goal

pub returns-clause-some : goal.returns-clause-some
returns-clause-some c = λ s n x h t here.
    two-of-many _ (seated-frames s x.state t (c.parts_agree_on_who_waits.ensures.records s n x h) (c.stacks_keep_their_size.ensures.frames s n x h t) (sym (c.parts_agree_on_who_waits.ensures.remainders s n x h t) ∙ here)).0

pub returns-clause-few : goal.returns-clause-few
returns-clause-few c = λ s n x h t here.
    (seated-frames s x.state t (c.parts_agree_on_who_waits.ensures.records s n x h) (c.stacks_keep_their_size.ensures.frames s n x h t) (sym (c.parts_agree_on_who_waits.ensures.remainders s n x h t) ∙ here)).1

pub returns-clause-place : goal.returns-clause-place
returns-clause-place c = λ s n x h stacks stand t here.
    has-stack-place s x.state stacks t (c.remainders_change_with_stacks.ensures.has s stacks) (c.parts_agree_on_who_waits.ensures.remainders s n x h) (c.parts_agree_on_who_waits.ensures.few s n x h) stand here

pub returns-clause-below : goal.returns-clause-below
returns-clause-below c = λ s n x h t here.
    numbered x.state t _ (history_knows h t) (c.parts_agree_on_who_waits.ensures.records s n x h t (sym (c.parts_agree_on_who_waits.ensures.remainders s n x h t) ∙ here))
