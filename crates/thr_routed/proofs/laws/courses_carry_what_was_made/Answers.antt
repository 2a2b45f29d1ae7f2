use Rattle.thr_routed.proofs.Numbers.{course_made}
use Rattle.thr_routed.specs.Courses.{HasClauses}
use Rattle.thr_routed.proofs.laws.courses_carry_what_was_made.Goals as goal

pub returns : goal.returns
returns c = λ s o lines h. course_made s (HasClauses s) ⊥ o lines h
