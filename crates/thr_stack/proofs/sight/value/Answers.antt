use Rattle.std.proofs.Common.{◌∙◌, ap, sym}
use Rattle.thr_remainder.specs.Expressions.{Sight, value_in}
use Rattle.thr_stack.specs.Sights.{shared_of}
use Rattle.thr_stack.proofs.LocalLaws.{sight_is}
use Rattle.thr_stack.proofs.sight.value.Goals as goal

pub returns : goal.returns
returns c = c.value.ensures ∙ ap (λ (seen : Sight). value_in seen c.args.e.now) (sight_is c.args.lines.now c.args.context.now (shared_of c.args.shared.now) c.requires.good)

pub returns-in-Some : goal.returns-in-Some
returns-in-Some c = sym c.in-Some.ensures ∙ ap (λ (seen : Sight). value_in seen c.args.e.now) (sight_is c.args.lines.now c.args.context.now (shared_of c.args.shared.now) c.requires.good)
