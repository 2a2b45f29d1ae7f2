use Rattle.thr_stacks.proofs.RemainderLaws.{none_stand, put_stand, cut_stand}
use Rattle.thr_stacks.proofs.laws.stacks_go_on_standing.Goals as goal

pub returns-clause-none : goal.returns-clause-none
returns-clause-none c = λ s setting. none_stand s setting

pub returns-clause-put : goal.returns-clause-put
returns-clause-put c = λ s m setting t k h good is. put_stand s m setting t k h good is

pub returns-clause-cut : goal.returns-clause-cut
returns-clause-cut c = λ s m setting t h. cut_stand s m setting t h
