use Rattle.thr_conds.proofs.CallLaws.{agree_give_up, agree_undone, agree_write, agree_out_of_pipe, agree_cancel_wait}
use Rattle.thr_conds.proofs.laws.calls_on_other_objects_keep_waits_in_agreement.Goals as goal

pub returns-clause-give_up : goal.returns-clause-give_up
returns-clause-give_up c = agree_give_up

pub returns-clause-undone : goal.returns-clause-undone
returns-clause-undone c = agree_undone

pub returns-clause-write : goal.returns-clause-write
returns-clause-write c = agree_write

pub returns-clause-pull_out : goal.returns-clause-pull_out
returns-clause-pull_out c = agree_out_of_pipe

pub returns-clause-cancel_wait : goal.returns-clause-cancel_wait
returns-clause-cancel_wait c = agree_cancel_wait
