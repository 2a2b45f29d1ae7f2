use Rattle.std.proofs.Common.{◌≡◌, ◌-◌, arith, ap, sym, subst, ◌∙◌}
use Rattle.thr_syntax.specs.declared.tree.Script.{Script}
use Rattle.thr_lines.specs.Layout.{line_at, last_line, script_rows}
use Rattle.thr_lines.specs.Rows.{row_at}
use Rattle.thr_lines.specs.AtLines.{RowAt}
use Rattle.thr_lines.specs.declared.row.Row.{Row}
use Rattle.thr_lines.proofs.ScriptLaws.{row_known, row_is, form_is, count_is}
use Rattle.thr_lines.proofs.lines.Lines.row.Goals as goal

pub get-requires : goal.get-requires
get-requires c =
    let v : c.self.inside.script ≡ c.args.self.now = c.self.view_is in
    omega (arith, count_is c.self.inside.script c.self.inside.rows c.self.invariant.rows, ap last_line v)

pub returns-clause-row : goal.returns-clause-row
returns-clause-row c =
    let s : Script = c.args.self.now in
    let v : c.self.inside.script ≡ s = c.self.view_is in
    row_is s c.self.inside.rows c.args.l.0 (c.args.l.0 - 1) c.get.result.now (c.self.invariant.rows ∙ ap script_rows v) (omega arith) c.requires.to c.get.ensures

pub returns-clause-form : goal.returns-clause-form
returns-clause-form c =
    let s : Script = c.args.self.now in
    let v : c.self.inside.script ≡ s = c.self.view_is in
    form_is s c.self.inside.rows (c.args.l.0 - 1) c.get.result.now (c.self.invariant.rows ∙ ap script_rows v) (omega (arith, c.requires.from, c.requires.to)) c.get.ensures

pub returns-clause-at : goal.returns-clause-at
returns-clause-at c =
    let s : Script = c.args.self.now in
    subst (λ (r : Row). RowAt (line_at s) (last_line s) c.args.l.0 r) (sym (returns-clause-row c)) (row_known s c.args.l.0 c.requires.from c.requires.to)
