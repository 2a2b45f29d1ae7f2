use Rattle.thr_once.proofs.KeyLaws.{keys_none, kept_none}
use Rattle.thr_once.proofs.keys.Keys.new.Goals as goal

pub invariant_of-result : goal.invariant_of-result
invariant_of-result c = kept_none c.in_ok-made.made c.new-2.result.items c.in_ok-made.ensures c.new-2.ensures.items

pub returns : goal.returns
returns c = keys_none c.in_ok-made.made c.new-2.result.items c.in_ok-made.ensures
