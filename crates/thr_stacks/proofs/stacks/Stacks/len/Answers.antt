use Rattle.std.proofs.Common.{◌∙◌, ap, sym, length}
use Rattle.thr_stacks.proofs.KeyLaws.{length_values}
use Rattle.thr_stacks.proofs.stacks.Stacks.len.Goals as goal

pub returns : goal.returns
returns c = c.len.ensures.len ∙ sym (length_values c.self.inside.keys c.self.inside.slab c.self.invariant) ∙ ap length c.self.view_is
