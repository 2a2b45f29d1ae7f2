use Rattle.thr_model.proofs.Plays.{played-legal}
use Rattle.thr_model.proofs.laws.played_events_are_legal.Goals as goal

pub returns : goal.returns
returns c = played-legal
