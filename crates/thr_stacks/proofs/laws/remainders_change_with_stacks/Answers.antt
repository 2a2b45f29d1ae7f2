use Rattle.thr_stacks.proofs.RemainderLaws.{none_left, put_left, cut_left, get_left, has_left}
use Rattle.thr_stacks.proofs.laws.remainders_change_with_stacks.Goals as goal

pub returns-clause-none : goal.returns-clause-none
returns-clause-none c = λ s. none_left s

pub returns-clause-put : goal.returns-clause-put
returns-clause-put c = λ s m t k. put_left s m t k

pub returns-clause-cut : goal.returns-clause-cut
returns-clause-cut c = λ s m t. cut_left s m t

pub returns-clause-get : goal.returns-clause-get
returns-clause-get c = λ s m t. get_left s m t

pub returns-clause-has : goal.returns-clause-has
returns-clause-has c = λ s m t. has_left s m t
