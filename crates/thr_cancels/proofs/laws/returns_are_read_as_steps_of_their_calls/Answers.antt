use Rattle.thr_cancels.proofs.ReturnSteps.{replied_step, begun_at_step}
use Rattle.thr_cancels.proofs.laws.returns_are_read_as_steps_of_their_calls.Goals as goal

pub returns-clause-replies : goal.returns-clause-replies
returns-clause-replies c = λ g r y h call ns e f. replied_step g r y h call ns e f

pub returns-clause-runs : goal.returns-clause-runs
returns-clause-runs c = λ g r h call ns e f. begun_at_step g r h call ns e f
