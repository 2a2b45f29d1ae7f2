use Rattle.thr_routed.proofs.Numbers.{course_numbered}
use Rattle.thr_routed.specs.Courses.{HasClauses}
use Rattle.thr_routed.proofs.laws.courses_number_their_unwindings.Goals as goal

pub returns : goal.returns
returns c = λ s o lines h. course_numbered s (HasClauses s) ⊥ o lines h
