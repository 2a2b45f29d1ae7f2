use Rattle.thr_routed.proofs.Straight.{course_straight}
use Rattle.thr_routed.proofs.laws.courses_go_straight_on.Goals as goal

pub returns : goal.returns
returns c = λ s o lines h. course_straight s o lines h
