-- The form of a line, part by part (docs/script.md, "Lines").
use Rattle.std.specs.Prelude.{◌≡◌, true, ◌⊎◌, List, [], ◌∷◌, ◌++◌, Some}
use Rattle.thr_text.specs.declared.word.Word.{Word}
use Rattle.thr_text.specs.declared.head.Head.{Head}
use Rattle.thr_text.specs.declared.head.Slot.{Slot}
use Rattle.thr_text.specs.declared.head.Slot.TheVariants.{Receiver, Expression}
use Rattle.thr_text.specs.Slots.{can_stand, slots_of, head_at, text_of}
use Rattle.thr_text.specs.Grammar.{Term, term_words, IsTerm}

-- What fills a slot: one word, or an expression.
pub data Part : Type 0 where
  Single : (w : Word) → Part
  Whole : (t : Term) → Part

-- The first word can stand in the slot and is the first part.
abbrev pub OnePart : Slot → List Word → List Part → (List Word → List Part → Type 0) → Type 0
OnePart s ws ps Rest = (w : Word) × (rest : List Word) × (more : List Part) × (can_stand s w ≡ true) × (ws ≡ w ∷ rest) × (ps ≡ Single w ∷ more) × Rest rest more

-- The words fill these slots by these parts; a receiver at the end may have none.
abbrev pub FilledBy : List Slot → List Word → List Part → Type 0
FilledBy [] ws ps = (ws ≡ []) × (ps ≡ [])
FilledBy (Expression ∷ slots) ws ps =
    (t : Term) × (rest : List Word) × (more : List Part) × IsTerm t × (ws ≡ term_words t ++ rest) × (ps ≡ Whole t ∷ more) × FilledBy slots rest more
FilledBy (Receiver ∷ slots) ws ps = ((ws ≡ []) × (slots ≡ []) × (ps ≡ [])) ⊎ OnePart Receiver ws ps (FilledBy slots)
FilledBy (s ∷ slots) ws ps = OnePart s ws ps (FilledBy slots)

-- The line is that of this first word, and these parts fill its slots.
pub record IsForm (words : List Word) (head : Head) (parts : List Part) : Type 0 where
  pub first : Word
  pub rest : List Word
  pub split : words ≡ first ∷ rest
  pub is_head : head_at (text_of first) ≡ Some head
  pub filled : FilledBy (slots_of head) rest parts
