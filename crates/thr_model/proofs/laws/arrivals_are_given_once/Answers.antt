use Rattle.std.proofs.Common.{ap}
use Rattle.thr_parts.specs.Rows.{thread}
use Rattle.thr_model.proofs.Arrivals.{arrivals, arrival_of}
use Rattle.thr_model.proofs.laws.arrivals_are_given_once.Goals as goal

pub returns-clause-below : goal.returns-clause-below
returns-clause-below c = λ s n x h t r rank arrival e. (arrivals h).below t.0 arrival (ap arrival_of e)

pub returns-clause-apart : goal.returns-clause-apart
returns-clause-apart c = λ s n x h t u r q i j arrival e f. ap thread ((arrivals h).apart t.0 u.0 arrival (ap arrival_of e) (ap arrival_of f))
