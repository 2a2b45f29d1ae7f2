use Rattle.std.proofs.Common.{refl}
use Rattle.thr_stack.proofs.PlaceLaws.{goes_to, goes_nowhere}
use Rattle.thr_stack.proofs.place.go_to_step.Goals as goal

pub returns-then-is_empty : goal.returns-then-is_empty
returns-then-is_empty c = goes_nowhere c.args.lines.now c.args.context.now c.requires (c.if-is_empty.ensures.0 refl)

pub returns : goal.returns
returns c = goes_to c.args.lines.now c.args.context.now c.line_of_step-context.result c.requires c.line_of_step-context.ensures
