use Rattle.std.proofs.Common.{subst}
use Rattle.thr_lines.specs.Layout.{line_at, last_line}
use Rattle.thr_lines.specs.AtLines.{FormAt}
use Rattle.thr_stack.proofs.Statements.{asks}
use Rattle.thr_stack.proofs.step.plain_step.Goals as goal

pub returns-in-Dce : goal.returns-in-Dce
returns-in-Dce c =
    let s = c.args.lines.now in
    let k = c.args.context.now in
    let row = c.args.row.now in
    asks s k c.requires.ready.stands c.args.notes.now c.in-Dce.field-0 (subst (FormAt (line_at s) (last_line s) k.line row) c.in-Dce.is c.requires.at)
