use Rattle.std.proofs.Common.{◌≢◌, ◌∙◌, [], Some, ap, sym, subst, rules}
use Rattle.thr_lines.specs.Layout.{line_at, last_line}
use Rattle.thr_lines.specs.AtLines.{FormAt}
use Rattle.thr_frames.specs.Stacks.{StackView, IsStack, IsNextCall, HasNoCall, remainder_of}
use Rattle.thr_frames.proofs.StackLaws.{is_next_call, is_no_call}
use Rattle.thr_frames.proofs.stack.Stack.next_call.Goals as goal

pub returns-in-Dce : goal.returns-in-Dce
returns-in-Dce c =
    let s = c.args.lines.now in
    let k = c.self.inside.context in
    let l = c.line_of_step.result in
    let row = c.row.result.now in
    let some : k.frames.items ≢ [] = search rules in
    subst (λ (x : StackView). IsNextCall s (remainder_of s x) c.in-Dce.call) c.self.view_is
    (is_next_call s k l row (subst (IsStack s) (sym c.self.view_is) c.requires.stack) some c.line_of_step.ensures c.in-Dce.call (subst (FormAt (line_at s) (last_line s) l row) c.in-Dce.is c.row.ensures.at)
    (c.row.ensures.form ∙ ap Some c.in-Dce.is))

pub returns-in_default : goal.returns-in_default
returns-in_default c =
    let s = c.args.lines.now in
    let k = c.self.inside.context in
    let l = c.line_of_step.result in
    let row = c.row.result.now in
    let some : k.frames.items ≢ [] = search rules in
    subst (λ (x : StackView). HasNoCall (remainder_of s x)) c.self.view_is
    (is_no_call s k l row (subst (IsStack s) (sym c.self.view_is) c.requires.stack) some c.line_of_step.ensures c.row.ensures.row c.row.ensures.at c.in_default.not-Dce)
