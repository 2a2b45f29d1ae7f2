use Rattle.std.proofs.Common.{sym, subst}
use Rattle.thr_stack.specs.declared.frame.Kind.{Kind}
use Rattle.thr_stack.specs.Unwinds.{Meets}
use Rattle.thr_stack.proofs.outward.meet.Goals as goal

pub returns-in-Try : goal.returns-in-Try
returns-in-Try c = subst (λ (k : Kind). Meets c.args.lines.now k c.args.u c.meet_try.result) (sym c.in-Try.is) c.meet_try.ensures
