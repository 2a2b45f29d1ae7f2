use Rattle.thr_counts.proofs.Processors.{processor_there}
use Rattle.thr_counts.proofs.laws.histories_run_on_processors_that_are_there.Goals as goal

pub returns : goal.returns
returns c = processor_there
