use Rattle.std.proofs.Common.{◌∙◌, sym, subst}
use Rattle.thr_lines.specs.declared.row.Row.{Row}
use Rattle.thr_lines.specs.Layout.{line_at, last_line}
use Rattle.thr_lines.specs.AtLines.{FormAt}
use Rattle.thr_stack.specs.Standing.{IsPlace}
use Rattle.thr_stack.specs.FrameLists.{AtOnce}
use Rattle.thr_stack.proofs.NextLaws.{next_point, next_asks, next_shares, next_quiet, next_once, next_end_quiet}
use Rattle.thr_stack.proofs.standing.next_here.Goals as goal

pub returns-then-is_point : goal.returns-then-is_point
returns-then-is_point c =
    let s = c.args.lines.now in
    let k = c.args.context.now in
    let row = c.row-row.result.now in
    next_point s k c.requires.free c.requires.some row c.in-Dce.call (subst (FormAt (line_at s) (last_line s) k.line row) c.in-Dce.is c.row-row.ensures.at) (sym c.is_point.ensures ∙ c.if-is_point.true)

pub returns-else-is_point : goal.returns-else-is_point
returns-else-is_point c =
    let s = c.args.lines.now in
    let k = c.args.context.now in
    let row = c.row-row.result.now in
    next_asks s k c.requires.free c.requires.some row c.in-Dce.call (subst (FormAt (line_at s) (last_line s) k.line row) c.in-Dce.is c.row-row.ensures.at) (sym c.is_point.ensures ∙ c.if-is_point.false)

pub returns-then-shares : goal.returns-then-shares
returns-then-shares c =
    next_shares c.args.lines.now c.args.context.now c.requires.free c.requires.some c.row-row.result.now c.row-row.result.now.form c.row-row.ensures.at c.in_default.not-Dce (sym c.shares.ensures ∙ c.if-shares.true)

pub returns-then-not-ends : goal.returns-then-not-ends
returns-then-not-ends c =
    let s = c.args.lines.now in
    let k = c.args.context.now in
    let row = c.row-row.result.now in
    next_quiet s k c.requires.free c.requires.some row row.form c.row-row.ensures.at (subst (λ (r : Row). IsPlace s k.line r.form) (sym c.row-row.ensures.row) c.requires.place) (sym c.ends.ensures ∙ c.if-not-ends.true) (sym c.shares.ensures ∙ c.if-shares.false)

pub returns-then-at_once : goal.returns-then-at_once
returns-then-at_once c =
    let s = c.args.lines.now in
    let k = c.args.context.now in
    let row = c.row-row.result.now in
    next_once s k c.requires.free c.requires.some row row.form c.row-row.ensures.at (subst (λ (r : Row). IsPlace s k.line r.form) (sym c.row-row.ensures.row) c.requires.place) (sym c.ends.ensures ∙ c.if-not-ends.false) (subst (AtOnce k.frames.items) c.if-at_once.true c.at_once.ensures)

pub returns-else-at_once : goal.returns-else-at_once
returns-else-at_once c =
    let s = c.args.lines.now in
    let k = c.args.context.now in
    let row = c.row-row.result.now in
    next_end_quiet s k c.requires.free c.requires.some row row.form c.row-row.ensures.at (subst (λ (r : Row). IsPlace s k.line r.form) (sym c.row-row.ensures.row) c.requires.place) (sym c.ends.ensures ∙ c.if-not-ends.false) (subst (AtOnce k.frames.items) c.if-at_once.false c.at_once.ensures)
