use Rattle.thr_reacquired.proofs.Handling.{lines_handled, history_handled}
use Rattle.thr_reacquired.proofs.laws.handlers_of_cancelled_waits_find_the_mutex.Goals as goal

pub returns-clause-legal : goal.returns-clause-legal
returns-clause-legal c = λ s n entries stop formed legal t lock. history_handled formed legal t lock

pub returns-clause-lines : goal.returns-clause-lines
returns-clause-lines c = λ s entries owners cancels routed t lock. lines_handled t lock owners (cancels.mutexes t lock) routed
