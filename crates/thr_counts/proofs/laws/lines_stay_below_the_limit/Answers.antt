use Rattle.thr_counts.proofs.Limits.{lines_below, formed_below}
use Rattle.thr_counts.proofs.laws.lines_stay_below_the_limit.Goals as goal

pub returns-clause-limit : goal.returns-clause-limit
returns-clause-limit c = lines_below

pub returns-clause-formed : goal.returns-clause-formed
returns-clause-formed c = formed_below
