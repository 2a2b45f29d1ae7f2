use Rattle.std.proofs.Common.{length, sym, subst}
use Rattle.thr_model.specs.Histories.{Execution, stop_at, StopsWith, Legal}
use Rattle.thr_model.proofs.Plays.{alone-legal}
use Rattle.thr_model.proofs.laws.machines_alone_are_legal.Goals as goal

pub returns : goal.returns
returns c = λ s k x stop e stops.
    subst (λ (y : Execution). StopsWith (stop_at s y.state (length y.entries)) stop → Legal s 1 y.entries stop) (sym e) (alone-legal s k stop) stops
