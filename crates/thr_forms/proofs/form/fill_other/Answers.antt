use Rattle.thr_forms.proofs.Steps.{unfilled, filled_plain}
use Rattle.thr_forms.proofs.form.fill_other.Goals as goal

pub returns-then-not-can_stand-clause-err : goal.returns-then-not-can_stand-clause-err
returns-then-not-can_stand-clause-err c = λ ws. unfilled c.args.slot c.args.word.now c.args.slots.now ws (cc)

pub returns-clause-ok : goal.returns-clause-ok
returns-clause-ok c = λ ws. filled_plain c.args.slot c.args.word.now c.args.slots.now ws c.requires (cc)
