use Rattle.std.proofs.Common.{sym, ap, ◌∙◌, List}
use Rattle.thr_text.specs.Tables.{Entry, declarations}
use Rattle.thr_text.specs.NameFaults.{words_in}
use Rattle.thr_naming.specs.Judging.{noted}
use Rattle.thr_naming.proofs.TableLaws.{line_noted, lines_noted, table_of_none, noted_append}
use Rattle.thr_naming.proofs.table.table_of.Goals as goal

pub loop-line-init : goal.loop-line-init
loop-line-init c =
    let ds = declarations (words_in c.args.lines.now) in
    ap (λ (t : List Entry). noted t ds) (c.in_ok-table.ensures.ok ∙ table_of_none) ∙ sym (noted_append _ _ ds)

pub loop-line-preserved : goal.loop-line-preserved
loop-line-preserved c =
    let ds = declarations (words_in c.args.lines.now) in
    rw c.in_ok-note_line.ensures.ok (line_noted c.loop-line.table c.args.lines.now c.loop-line.line-index c.line-item.result c.loop-line-test.true c.line-item.is ∙ c.loop-line.invariant)

pub returns-clause-ok : goal.returns-clause-ok
returns-clause-ok c = sym (lines_noted c.loop-line.table c.args.lines.now c.loop-line.line-index c.loop-line-test.false) ∙ c.loop-line.invariant
