use Rattle.thr_model.proofs.Legality.{of-legal}
use Rattle.thr_laws.specs.Owners.{OneOwner}
use Rattle.thr_owners.proofs.Owning.{one-owner}
use Rattle.thr_owners.proofs.laws.no_mutex_has_two_owners.Goals as goal

pub returns-clause-legal : goal.returns-clause-legal
returns-clause-legal c = λ s n entries stop legal. of-legal OneOwner (λ x h. one-owner h) legal

pub returns-clause-all : goal.returns-clause-all
returns-clause-all c = λ s n x h. one-owner h
