use Rattle.thr_processors.proofs.AloneKept.{one_thread}
use Rattle.thr_processors.proofs.laws.processors_have_one_thread.Goals as goal

pub returns : goal.returns
returns c = one_thread
