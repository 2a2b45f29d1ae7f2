use Rattle.thr_remainder.proofs.StandingLaws.{routines_stand}
use Rattle.thr_remainder.proofs.laws.routines_stand_at_their_lines.Goals as goal

pub returns : goal.returns
returns c = routines_stand
