use Rattle.thr_reacquired.proofs.Histories.{cancels_lawful}
use Rattle.thr_ports.proofs.Returning.{left_pending}
use Rattle.thr_ports.proofs.laws.returns_leave_cancels_pending.Goals as goal

pub returns-clause-legal : goal.returns-clause-legal
returns-clause-legal c = λ s n entries stop legal t. left_pending s entries (cancels_lawful legal) t

pub returns-clause-lines : goal.returns-clause-lines
returns-clause-lines c = left_pending
