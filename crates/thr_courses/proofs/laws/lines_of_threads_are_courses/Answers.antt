use Rattle.thr_courses.proofs.Courses.{legal_courses}
use Rattle.thr_courses.proofs.laws.lines_of_threads_are_courses.Goals as goal

pub returns : goal.returns
returns c = legal_courses
