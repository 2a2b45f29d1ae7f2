use Rattle.std.proofs.Common.{◌≡◌, ◌+◌, ◌∷◌, ◌++◌, [], ◌∙◌, ap, subst}
use Rattle.thr_values.specs.declared.history.What.TheVariants as what
use Rattle.thr_values.specs.Exceptions.{cancel_e}
use Rattle.thr_remainder.specs.declared.unwinding.Cause.TheVariants.{Raised}
use Rattle.thr_remainder.specs.Remainders.{Move}
use Rattle.thr_remainder.specs.Starts.{at, delivered}
use Rattle.thr_stack.specs.Standing.{Makes, remainder_of, set_out}
use Rattle.thr_stack.proofs.Statements.{makes_unwinding}
use Rattle.thr_stack.proofs.raise.deliver.Goals as goal

pub returns : goal.returns
returns c =
    let s = c.args.lines.now in
    let k = c.args.context.now in
    let before = c.args.notes.now in
    let line = c.next_line-line.result in
    let move : Move = record { to = remainder_of s (set_out (Raised cancel_e) k); lines = what.Deliver (k.unwindings + 1) (at line) ∷ [] } in
    let same : move ≡ delivered (remainder_of s k) = ap (λ l. let m : Move = record { to = remainder_of s (set_out (Raised cancel_e) k); lines = what.Deliver (k.unwindings + 1) (at l) ∷ [] } in m) c.next_line-line.ensures in
    subst (λ (m : Move). Makes s m k c.set_out-number.new.context before c.push.new.self) same
    (makes_unwinding s k c.set_out-number.new.context (Raised cancel_e) (what.Deliver (k.unwindings + 1) (at line)) before c.push.new.self c.requires.good c.set_out-number.ensures.context (c.push.ensures ∙ ap (λ n. before ++ what.Deliver n (at line) ∷ []) c.set_out-number.ensures.number))
