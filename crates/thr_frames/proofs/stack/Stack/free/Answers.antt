use Rattle.std.proofs.Common.{◌∙◌, ap}
use Rattle.thr_remainder.specs.Remainders.{free}
use Rattle.thr_frames.specs.Stacks.{StackView, remainder_of, setting_of}
use Rattle.thr_frames.proofs.StackLaws.{free_is}
use Rattle.thr_frames.proofs.stack.Stack.free.Goals as goal

pub returns : goal.returns
returns c = λ s. free_is s c.self.inside.context c.free.result c.free.ensures ∙ ap (λ (k : StackView). free (setting_of s k) (remainder_of s k)) c.self.view_is
