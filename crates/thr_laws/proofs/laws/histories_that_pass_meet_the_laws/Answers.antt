use Rattle.thr_laws.proofs.PassingLaws.{routed_passed, owners_passed, cancels_passed, calls_passed, all_met}
use Rattle.thr_laws.proofs.laws.histories_that_pass_meet_the_laws.Goals as goal

pub returns-clause-routed : goal.returns-clause-routed
returns-clause-routed c = routed_passed

pub returns-clause-owners : goal.returns-clause-owners
returns-clause-owners c = owners_passed

pub returns-clause-cancels : goal.returns-clause-cancels
returns-clause-cancels c = cancels_passed

pub returns-clause-calls : goal.returns-clause-calls
returns-clause-calls c = calls_passed

pub returns-clause-all : goal.returns-clause-all
returns-clause-all c = all_met
