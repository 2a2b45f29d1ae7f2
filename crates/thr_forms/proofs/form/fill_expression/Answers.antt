use Rattle.thr_text.specs.declared.head.Slot.TheVariants.{Expression}
use Rattle.thr_forms.specs.Pending.{slots_after}
use Rattle.thr_forms.proofs.Steps.{unfilled, filled_expression}
use Rattle.thr_forms.proofs.form.fill_expression.Goals as goal

pub returns-then-not-can_stand-clause-err : goal.returns-then-not-can_stand-clause-err
returns-then-not-can_stand-clause-err c = λ ws. unfilled Expression c.args.word.now (slots_after 0 c.args.expressions c.args.slots.now) ws (cc)

pub returns-clause-ok : goal.returns-clause-ok
returns-clause-ok c = λ ws. filled_expression c.args.word.now c.operands-exceptions.result.0 c.operands-exceptions.result.1 c.args.expressions c.args.slots.now ws (cc) c.operands-exceptions.ensures.slots
