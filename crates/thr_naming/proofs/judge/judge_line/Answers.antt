use Rattle.std.proofs.Common.{ap, ◌∙◌}
use Rattle.thr_text.specs.Tables.{rest_of}
use Rattle.thr_naming.proofs.JudgedLaws.{judged}
use Rattle.thr_naming.proofs.judge.judge_line.Goals as goal

pub returns-clause-misfit : goal.returns-clause-misfit
returns-clause-misfit c =
    c.least.ensures ∙ judged c.args.whole.now c.args.context.now c.pass.new.self c.args.line.now.1 c.rest-words.result.now c.head-head.result c.place.new.all.items
    c.is_again-again.result c.misnamed-undeclared.result.0 c.misnamed-undeclared.result.1 c.is_out_of_range-outside.result c.is_one_more-one_more.result c.is_full-full.result
    c.head-head.ensures.head
    (c.rest-words.ensures ∙ ap rest_of (c.as_slice.ensures ∙ c.words.ensures))
    c.in_ok-place.ensures.ok
    c.in_ok-pass.ensures.ok
    (rw c.as_slice-placed.ensures.value at c.is_again-again.ensures)
    (rw (c.as_slice-placed.ensures.value, c.as_slice-locals.ensures) at c.misnamed-undeclared.ensures.undeclared)
    (rw (c.as_slice-placed.ensures.value, c.as_slice-locals.ensures) at c.misnamed-undeclared.ensures.misused)
    c.is_out_of_range-outside.ensures
    c.is_one_more-one_more.ensures
    c.is_full-full.ensures
