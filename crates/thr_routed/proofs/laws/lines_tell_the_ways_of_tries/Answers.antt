use Rattle.thr_routed.proofs.TryLines.{tries_tell}
use Rattle.thr_routed.proofs.laws.lines_tell_the_ways_of_tries.Goals as goal

pub returns : goal.returns
returns c = λ s stmt line rest h. tries_tell s stmt line rest h
