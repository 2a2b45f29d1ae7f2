-- Which lines have a form (docs/script.md, "Lines" and "Expressions"), apart from how they are read.
use Rattle.std.specs.Prelude.{◌≡◌, Bool, true, ◌||◌, ◌⊎◌, List, [], ◌∷◌, ◌++◌, codes, Some}
use Rattle.thr_text.specs.declared.word.Word.{Word}
use Rattle.thr_text.specs.declared.head.Head.{Head}
use Rattle.thr_text.specs.declared.head.Slot.{Slot}
use Rattle.thr_text.specs.declared.head.Slot.TheVariants.{Receiver, Exception, Expression}
use Rattle.thr_text.specs.Slots.{is_a_number, is_a_name, is_one_of, binary_words, can_stand, slots_of, head_at, text_of}

-- An expression as it is written, its operands after its word.
pub data Term : Type 0 where
  Atom : (w : Word) → Term
  Negation : (w : Word) (t : Term) → Term
  Operation : (w : Word) (t u : Term) → Term
  Status : (w x : Word) → Term
  Match : (w x y : Word) → Term

abbrev pub term_words : Term → List Word
term_words (Atom w) = w ∷ []
term_words (Negation w t) = w ∷ term_words t
term_words (Operation w t u) = w ∷ (term_words t ++ term_words u)
term_words (Status w x) = w ∷ x ∷ []
term_words (Match w x y) = w ∷ x ∷ y ∷ []

-- A number, a name, `self` or `err`.
abbrev pub is_atom : Word → Bool
is_atom w = is_a_number w || (is_a_name w || is_one_of (codes "self" ∷ codes "err" ∷ []) w)

abbrev pub IsTerm : Term → Type 0
IsTerm (Atom w) = is_atom w ≡ true
IsTerm (Negation w t) = (is_one_of (codes "not" ∷ []) w ≡ true) × IsTerm t
IsTerm (Operation w t u) = (is_one_of binary_words w ≡ true) × IsTerm t × IsTerm u
IsTerm (Status w x) = (is_one_of (codes "exc_get_status" ∷ []) w ≡ true) × (can_stand Exception x ≡ true)
IsTerm (Match w x y) = (is_one_of (codes "exc_matches" ∷ []) w ≡ true) × (can_stand Exception x ≡ true) × (can_stand Exception y ≡ true)

-- One word that can stand in the slot, and then what the rest has to be.
abbrev pub OneWord : Slot → List Word → (List Word → Type 0) → Type 0
OneWord s ws Rest = (w : Word) × (rest : List Word) × (can_stand s w ≡ true) × (ws ≡ w ∷ rest) × Rest rest

-- The words fill these slots: an expression its own, a receiver one or, at the end, none, and any other slot one word.
abbrev pub Fills : List Slot → List Word → Type 0
Fills [] ws = ws ≡ []
Fills (Expression ∷ slots) ws = (t : Term) × (rest : List Word) × IsTerm t × (ws ≡ term_words t ++ rest) × Fills slots rest
Fills (Receiver ∷ slots) ws = ((ws ≡ []) × (slots ≡ [])) ⊎ OneWord Receiver ws (Fills slots)
Fills (s ∷ slots) ws = OneWord s ws (Fills slots)

-- The line is a form's first word and words that fill its slots.
abbrev pub HasForm : List Word → Type 0
HasForm ws = (w : Word) × (rest : List Word) × (h : Head) × (ws ≡ w ∷ rest) × (head_at (text_of w) ≡ Some h) × Fills (slots_of h) rest
