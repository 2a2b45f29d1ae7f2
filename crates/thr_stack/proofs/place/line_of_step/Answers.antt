use Rattle.thr_stack.proofs.PlaceLaws.{step_line}
use Rattle.thr_stack.proofs.Sites.{line_here}
use Rattle.thr_stack.proofs.place.line_of_step.Goals as goal

pub place-requires : goal.place-requires
place-requires c = line_here c.args.lines.now c.args.context.now c.requires.good c.requires.some

pub returns : goal.returns
returns c = step_line c.args.lines.now c.args.context.now c.place.result c.requires.some c.place.ensures.inside c.place.ensures.same c.place.ensures.step c.place.ensures.first
