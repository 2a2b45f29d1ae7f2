use Rattle.std.proofs.Common.{refl}
use Rattle.thr_endings.specs.Endings.{failed}
use Rattle.thr_endings.proofs.giving.give.Goals as goal

pub returns-in-Err-clause-written : goal.returns-in-Err-clause-written
returns-in-Err-clause-written g c = failed refl c.in-Err.ensures.prefix.0 c.in-Err.ensures.prefix.1
