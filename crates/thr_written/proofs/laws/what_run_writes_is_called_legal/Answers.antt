use Rattle.thr_written.proofs.Again.{is_only, is_right, is_legal}
use Rattle.thr_written.proofs.laws.what_run_writes_is_called_legal.Goals as goal

pub returns-clause-only : goal.returns-clause-only
returns-clause-only c = λ bytes j k w. is_only bytes j w k

pub returns-clause-right : goal.returns-clause-right
returns-clause-right c = λ bytes j k w. is_right bytes j w k

pub returns-clause-verdict : goal.returns-clause-verdict
returns-clause-verdict c = λ bytes j k w. is_legal bytes j w k
