use Rattle.thr_verified.proofs.CalledLegal.{called-legal}
use Rattle.thr_verified.proofs.laws.verify_calls_legal_what_run_writes.Goals as goal

pub returns : goal.returns
returns c = called-legal
