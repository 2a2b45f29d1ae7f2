use Rattle.thr_counts.proofs.ArrivalsFew.{turn_adds, clock_adds, arrivals_few}
use Rattle.thr_counts.proofs.laws.arrivals_of_one_turn_are_few.Goals as goal

pub returns-clause-turn : goal.returns-clause-turn
returns-clause-turn c = turn_adds

pub returns-clause-clock : goal.returns-clause-clock
returns-clause-clock c = clock_adds

pub returns-clause-all : goal.returns-clause-all
returns-clause-all c = arrivals_few
