use Rattle.std.proofs.Common.{◌≤◌, length, sym, ◌∙◌, refl, List, arith}
use Rattle.std.proofs.lemmas.List.{at_drop_all}
use Rattle.thr_text.specs.declared.word.Word.{Word}
use Rattle.thr_text.specs.Slots.{misplaced}
use Rattle.thr_forms.specs.Pending.{pending}
use Rattle.thr_forms.proofs.Steps.{at_end}
use Rattle.thr_forms.proofs.form.misplaced.Goals as goal

pub returns-then-may_end : goal.returns-then-may_end
returns-then-may_end c =
    let slots = pending c.loop-word.left in
    let done : length c.args.words.now ≤ c.loop-word.word-index = omega arith in
    sym (sym c.loop-word.invariant.same ∙ at_drop_all (λ (ws : List Word). misplaced slots ws) c.args.words.now c.loop-word.word-index done ∙ at_end slots ∙ rw (sym c.may_end.ensures, c.if-may_end.true) refl)

pub returns-else-may_end : goal.returns-else-may_end
returns-else-may_end c =
    let slots = pending c.loop-word.left in
    let done : length c.args.words.now ≤ c.loop-word.word-index = omega arith in
    sym (sym c.loop-word.invariant.same ∙ at_drop_all (λ (ws : List Word). misplaced slots ws) c.args.words.now c.loop-word.word-index done ∙ at_end slots ∙ rw (sym c.may_end.ensures, c.if-may_end.false) refl)
