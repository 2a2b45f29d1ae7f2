use Rattle.thr_remainder.proofs.StandingLaws.{acts_stand}
use Rattle.thr_remainder.proofs.laws.statements_stand_at_their_lines.Goals as goal

pub returns : goal.returns
returns c = acts_stand
