use Rattle.thr_pipes.proofs.OtherCallLaws.{agree_give_up, agree_undone, agree_delay}
use Rattle.thr_pipes.proofs.laws.calls_on_other_objects_keep_writers_in_agreement.Goals as goal

pub returns-clause-give_up : goal.returns-clause-give_up
returns-clause-give_up c = agree_give_up

pub returns-clause-undone : goal.returns-clause-undone
returns-clause-undone c = agree_undone

pub returns-clause-delay : goal.returns-clause-delay
returns-clause-delay c = agree_delay
