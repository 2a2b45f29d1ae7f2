use Rattle.std.proofs.Common.{◌≡◌, ◌-◌, List, [], ◌∷◌, Some, IfOk, IfErr, ◌∙◌, refl, sym, ap, subst, arith}
use Rattle.std.proofs.lemmas.List.{nil_from_length}
use Rattle.thr_text.specs.declared.word.Word.{Word}
use Rattle.thr_text.specs.declared.head.Slot.{Slot}
use Rattle.thr_text.specs.declared.head.Slot.TheVariants.{Exception, Expression}
use Rattle.thr_text.specs.Slots.{misplaced}
use Rattle.thr_forms.specs.Pending.{slots_after, pending}
use Rattle.thr_forms.proofs.Steps.{unfilled, filled_plain, none_left, exception_first, expression_first, slots_alone}
use Rattle.thr_forms.proofs.form.fill.Goals as goal

pub returns-then-not-can_stand-clause-err : goal.returns-then-not-can_stand-clause-err
returns-then-not-can_stand-clause-err c =
    let s = c.args.slots in
    let first : pending s ≡ Exception ∷ slots_after (s.exceptions - 1) s.expressions s.slots.now = exception_first s.exceptions s.expressions s.slots.now (omega arith) in
    λ ws. ap (λ (xs : List Slot). misplaced xs (c.args.word.now ∷ ws)) first ∙ unfilled Exception c.args.word.now (slots_after (s.exceptions - 1) s.expressions s.slots.now) ws (cc)

pub returns-then-slots-gt0-clause-ok : goal.returns-then-slots-gt0-clause-ok
returns-then-slots-gt0-clause-ok c =
    let s = c.args.slots in
    let first : pending s ≡ Exception ∷ slots_after (s.exceptions - 1) s.expressions s.slots.now = exception_first s.exceptions s.expressions s.slots.now (omega arith) in
    λ ws. ap (λ (xs : List Slot). misplaced xs (c.args.word.now ∷ ws)) first ∙ filled_plain Exception c.args.word.now (slots_after (s.exceptions - 1) s.expressions s.slots.now) ws refl (cc)

pub returns-then-slots-gt0-2-clause-ok : goal.returns-then-slots-gt0-2-clause-ok
returns-then-slots-gt0-2-clause-ok c =
    let s = c.args.slots in
    let first : pending s ≡ Expression ∷ slots_after 0 (s.expressions - 1) s.slots.now = expression_first s.exceptions s.expressions s.slots.now (omega arith) (omega arith) in
    subst (λ (xs : List Slot). IfOk c.fill_expression.result (λ left. (ws : List Word) → misplaced xs (c.args.word.now ∷ ws) ≡ misplaced (pending left) ws)) (sym first) c.fill_expression.ensures.ok

pub returns-then-slots-gt0-2-clause-err : goal.returns-then-slots-gt0-2-clause-err
returns-then-slots-gt0-2-clause-err c =
    let s = c.args.slots in
    let first : pending s ≡ Expression ∷ slots_after 0 (s.expressions - 1) s.slots.now = expression_first s.exceptions s.expressions s.slots.now (omega arith) (omega arith) in
    subst (λ (xs : List Slot). IfErr c.fill_expression.result (λ n. (ws : List Word) → misplaced xs (c.args.word.now ∷ ws) ≡ Some n)) (sym first) c.fill_expression.ensures.err

pub returns-in-None-clause-err : goal.returns-in-None-clause-err
returns-in-None-clause-err c =
    let s = c.args.slots in
    let alone : pending s ≡ s.slots.now = slots_alone s.exceptions s.expressions s.slots.now (omega arith) (omega arith) in
    let empty : s.slots.now ≡ [] = nil_from_length s.slots.now c.in-None.ensures.cases in
    λ ws. ap (λ (xs : List Slot). misplaced xs (c.args.word.now ∷ ws)) (alone ∙ empty) ∙ none_left c.args.word.now ws
