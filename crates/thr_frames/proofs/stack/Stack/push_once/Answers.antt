use Rattle.std.proofs.Common.{◌≡◌, true, sym, subst}
use Rattle.thr_remainder.specs.Remainders.{has_room}
use Rattle.thr_frames.specs.Stacks.{StackView, remainder_of, setting_of}
use Rattle.thr_frames.proofs.CountLaws.{one_more}
use Rattle.thr_frames.proofs.StackLaws.{fits_two}
use Rattle.thr_frames.proofs.stack.Stack.push_once.Goals as goal

pub begin_once-requires-clause-frames : goal.begin_once-requires-clause-frames
begin_once-requires-clause-frames c =
    let s = c.args.lines.now in
    fits_two s c.self.inside.context (subst (λ (k : StackView). has_room (setting_of s k) (remainder_of s k) 2 ≡ true) (sym c.self.view_is) c.requires.room)

pub returns-clause-lines : goal.returns-clause-lines
returns-clause-lines c = one_more _ _ _ c.begin_once.ensures.lines
