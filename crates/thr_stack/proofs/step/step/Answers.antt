use Rattle.std.proofs.Common.{subst, sym}
use Rattle.thr_lines.specs.declared.row.Row.{Row}
use Rattle.thr_stack.specs.Sights.{shared_of}
use Rattle.thr_stack.specs.Standing.{IsPlace}
use Rattle.thr_stack.proofs.NextLaws.{no_write}
use Rattle.thr_stack.proofs.step.step.Goals as goal

pub returns-clause-steps : goal.returns-clause-steps
returns-clause-steps c = c.plain_step.ensures c.args.tells (shared_of c.args.shared.now)

pub returns-clause-written : goal.returns-clause-written
returns-clause-written c =
    let s = c.args.lines.now in
    let k = c.args.context.now in
    let row = c.row-row.result.now in
    sym (no_write s k (shared_of c.args.shared.now) row row.form c.requires.ready.stands.some c.row-row.ensures.at (subst (λ (r : Row). IsPlace s k.line r.form) (sym c.row-row.ensures.row) c.requires.place) c.in_default.ensures)
