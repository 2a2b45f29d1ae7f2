-- One word more of a line.
use Rattle.std.proofs.Common.{◌≡◌, ℕ, zero, suc, ◌+◌, ◌-◌, ◌<◌, true, false, cond, List, [], ◌∷◌, ◌++◌, Some, None, refl, sym, ap, ◌∙◌, arith}
use Rattle.std.specs.Prelude.{replicate}
use Rattle.std.proofs.lemmas.List.{replicate-append-replicate, append_assoc}
use Rattle.thr_text.specs.declared.word.Word.{Word}
use Rattle.thr_text.specs.declared.head.Slot.{Slot}
use Rattle.thr_text.specs.declared.head.Slot.TheVariants.{Exception, Expression}
use Rattle.thr_text.specs.Slots.{can_stand, operands_of, slots_behind, misplaced, may_end}
use Rattle.thr_forms.specs.Pending.{slots_after}

-- the slots that a word opens stand before the others
pub opened : (x e n : ℕ) (slots : List Slot) → slots_after x e [] ++ slots_after 0 n slots ≡ slots_after x (n + e) slots
opened x e n slots =
    append_assoc (replicate x Exception) (replicate e Expression ++ []) (replicate n Expression ++ slots)
    ∙ ap (λ (s : List Slot). replicate x Exception ++ s) (append_assoc (replicate e Expression) [] (replicate n Expression ++ slots) ∙ sym (append_assoc (replicate e Expression) (replicate n Expression) slots) ∙ ap (λ (s : List Slot). s ++ slots) (replicate-append-replicate e n Expression ∙ ap (λ (k : ℕ). replicate k Expression) (omega arith)))

pub filled : (p : Slot) (w : Word) (slots : List Slot) (ws : List Word) → can_stand p w ≡ true → misplaced (p ∷ slots) (w ∷ ws) ≡ misplaced (slots_behind p w ++ slots) ws
unfolding misplaced
filled p w slots ws e = rw e refl

pub unfilled : (p : Slot) (w : Word) (slots : List Slot) (ws : List Word) → can_stand p w ≡ false → misplaced (p ∷ slots) (w ∷ ws) ≡ Some 6
unfolding misplaced
unfilled p w slots ws e = rw e refl

pub none_left : (w : Word) (ws : List Word) → misplaced [] (w ∷ ws) ≡ Some 7
unfolding misplaced
none_left w ws = refl

pub at_end : (slots : List Slot) → misplaced slots [] ≡ cond (may_end slots) None (Some 7)
unfolding misplaced
at_end slots = refl

pub filled_expression : (w : Word) (x e n : ℕ) (slots : List Slot) (ws : List Word) → can_stand Expression w ≡ true → operands_of w ≡ slots_after x e []
    → misplaced (Expression ∷ slots_after 0 n slots) (w ∷ ws) ≡ misplaced (slots_after x (n + e) slots) ws
filled_expression w x e n slots ws can opens =
    filled Expression w (slots_after 0 n slots) ws can
    ∙ ap (λ (s : List Slot). misplaced (s ++ slots_after 0 n slots) ws) opens
    ∙ ap (λ (s : List Slot). misplaced s ws) (opened x e n slots)

pub exception_first : (x e : ℕ) (slots : List Slot) → 0 < x → slots_after x e slots ≡ Exception ∷ slots_after (x - 1) e slots
exception_first zero e slots h = absurd (omega arith)
exception_first (suc x) e slots h = let one : suc x - 1 ≡ x = omega arith in rw one refl

pub expression_first : (x e : ℕ) (slots : List Slot) → x ≡ 0 → 0 < e → slots_after x e slots ≡ Expression ∷ slots_after 0 (e - 1) slots
expression_first x zero slots none h = absurd (omega arith)
expression_first x (suc e) slots none h = let one : suc e - 1 ≡ e = omega arith in rw (none, one) refl

pub slots_alone : (x e : ℕ) (slots : List Slot) → x ≡ 0 → e ≡ 0 → slots_after x e slots ≡ slots
slots_alone x e slots none none_too = rw (none, none_too) refl

pub filled_plain : (p : Slot) (w : Word) (slots : List Slot) (ws : List Word) → slots_behind p w ≡ [] → can_stand p w ≡ true → misplaced (p ∷ slots) (w ∷ ws) ≡ misplaced slots ws
filled_plain p w slots ws none can = filled p w slots ws can ∙ ap (λ (s : List Slot). misplaced (s ++ slots) ws) none
