use Rattle.std.specs.Map.{keys_of}
use Rattle.thr_resolving.proofs.Walks.{line_more, lines_end}
use Rattle.thr_resolving.proofs.resolve.resolve_lines.Goals as goal

pub loop-line-preserved : goal.loop-line-preserved
loop-line-preserved c =
    let step = line_more (keys_of c.args.table.now) c.loop-line.locals c.pass_locals.new.locals c.as_slice.result.now c.loop-line.forms.items _ c.args.lines.now c.loop-line.line-index c.line-item.result c.in_ok-resolve.field-0 c.loop-line-test.true c.line-item.is c.in_ok-pass_locals.ensures.ok c.as_slice.ensures c.in_ok-resolve.ensures.ok c.loop-line.invariant in
    rw c.in_ok-push.ensures.items step

pub returns-clause-ok : goal.returns-clause-ok
returns-clause-ok c = lines_end (keys_of c.args.table.now) c.loop-line.locals c.loop-line.forms.items _ c.args.lines.now c.loop-line.line-index c.loop-line-test.false c.loop-line.invariant
