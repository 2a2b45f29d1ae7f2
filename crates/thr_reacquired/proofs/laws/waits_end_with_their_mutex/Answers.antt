use Rattle.thr_reacquired.proofs.Histories.{ends_with_mutex, legal_ends_with_mutex}
use Rattle.thr_reacquired.proofs.laws.waits_end_with_their_mutex.Goals as goal

pub returns-clause-legal : goal.returns-clause-legal
returns-clause-legal c = λ s n entries stop legal t lock. legal_ends_with_mutex legal t lock

pub returns-clause-all : goal.returns-clause-all
returns-clause-all c = λ s n x h t lock. ends_with_mutex h t lock
