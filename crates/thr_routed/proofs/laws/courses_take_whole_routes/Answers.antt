use Rattle.thr_routed.proofs.Fates.{course_whole}
use Rattle.thr_routed.proofs.laws.courses_take_whole_routes.Goals as goal

pub returns : goal.returns
returns c = λ s o lines h. course_whole s o lines h
