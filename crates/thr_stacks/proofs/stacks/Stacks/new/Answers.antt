use Rattle.thr_stacks.proofs.KeyLaws.{no_values, kept_none}
use Rattle.thr_stacks.proofs.stacks.Stacks.new.Goals as goal

pub invariant_of-result : goal.invariant_of-result
invariant_of-result c = kept_none c.in_ok-keys.keys c.in-Ok.slab c.in_ok-keys.ensures c.in-Ok.ensures.empty c.in-Ok.ensures.capacity

pub returns : goal.returns
returns c = no_values c.in_ok-keys.keys c.in-Ok.slab c.in_ok-keys.ensures
