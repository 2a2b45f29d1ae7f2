use Rattle.thr_routed.proofs.Kept.{course_kept}
use Rattle.thr_routed.proofs.laws.courses_keep_to_routes.Goals as goal

pub returns : goal.returns
returns c = λ s o lines h. course_kept s o lines h
