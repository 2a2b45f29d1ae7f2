use Rattle.std.proofs.Common.{sym, ap, ◌∙◌}
use Rattle.thr_text.specs.Groups.{may_operate_text, may_operate}
use Rattle.thr_text.proofs.GroupLaws.{no_operator}
use Rattle.thr_text.proofs.operands.may_operate.Goals as goal

pub returns-in-Name-clause-none : goal.returns-in-Name-clause-none
returns-in-Name-clause-none c e = no_operator c.args.word.now (ap may_operate c.in-Name.is ∙ sym (ap may_operate_text c.as_slice.ensures.text) ∙ sym c.may_operate_text.ensures ∙ e)

pub returns-in-Mark-clause-none : goal.returns-in-Mark-clause-none
returns-in-Mark-clause-none c e = no_operator c.args.word.now (ap may_operate c.in-Mark.is ∙ sym (ap may_operate_text c.as_slice-in-Mark.ensures) ∙ sym c.may_operate_text-in-Mark.ensures ∙ e)
