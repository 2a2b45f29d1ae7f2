-- A line has one form at most, and one where it has one at all.
use Rattle.std.proofs.Common.{◌≡◌, inl, inr, List, [], ◌∷◌, refl, sym, subst, ◌∙◌}
use Rattle.std.specs.Prelude.{Some}
use Rattle.thr_text.specs.declared.word.Word.{Word}
use Rattle.thr_text.specs.declared.head.Head.{Head}
use Rattle.thr_text.specs.declared.head.Slot.{Slot}
use Rattle.thr_text.specs.declared.head.Slot.TheVariants.{Number, Fixed, Declared, Parameter, Local, Object, ObjectOr, Variable, Receiver, Exception, Expression}
use Rattle.thr_text.specs.Slots.{slots_of, head_at, text_of}
use Rattle.thr_text.specs.Grammar.{Term, Fills, OneWord, HasForm}
use Rattle.thr_text.proofs.TermLaws.{only_term}
use Rattle.thr_forms.specs.Filling.{Part, Single, Whole, OnePart, FilledBy, IsForm}

-- ---- one filling at most

same_words : (w v : Word) (rest more ws vs : List Word) → ws ≡ vs → ws ≡ w ∷ rest → vs ≡ v ∷ more → (w ≡ v) × (rest ≡ more)
same_words w v rest more ws vs same a b = (cc, cc)

no_words : (v : Word) (more ws vs : List Word) → ws ≡ vs → ws ≡ [] → vs ≡ v ∷ more → ⊥
no_words v more ws vs same a b = absurd (cc)

abbrev Once : List Slot → Type 0
Once slots = (ws vs : List Word) (ps qs : List Part) → ws ≡ vs → FilledBy slots ws ps → FilledBy slots vs qs → ps ≡ qs

one_once : (s : Slot) (slots : List Slot) → Once slots → (ws vs : List Word) (ps qs : List Part) → ws ≡ vs → OnePart s ws ps (FilledBy slots) → OnePart s vs qs (FilledBy slots) → ps ≡ qs
one_once s slots once ws vs ps qs same (w, rest, more, can, split, is, fills) (w2, rest2, more2, can2, split2, is2, fills2) =
    let words = same_words w w2 rest rest2 ws vs same split split2 in
    let parts = once rest rest2 more more2 words.1 fills fills2 in
    is ∙ parts_are w w2 more more2 words.0 parts ∙ sym is2
  where
    parts_are : (a b : Word) (x y : List Part) → a ≡ b → x ≡ y → Single a ∷ x ≡ Single b ∷ y
    parts_are a b x y e f = cc

whole_is : (t u : Term) (x y : List Part) → t ≡ u → x ≡ y → Whole t ∷ x ≡ Whole u ∷ y
whole_is t u x y e f = cc

pub filled_once : (slots : List Slot) → Once slots
filled_once [] ws vs ps qs same a b = a.1 ∙ sym b.1
filled_once (Expression ∷ slots) ws vs ps qs same (t, rest, more, term, split, is, fills) (t2, rest2, more2, term2, split2, is2, fills2) =
    let words = only_term t t2 rest rest2 term term2 (sym split ∙ same ∙ split2) in
    let parts = filled_once slots rest rest2 more more2 words.1 fills fills2 in
    is ∙ whole_is t t2 more more2 words.0 parts ∙ sym is2
filled_once (Receiver ∷ slots) ws vs ps qs same (inl a) (inl b) = a.2 ∙ sym b.2
filled_once (Receiver ∷ slots) ws vs ps qs same (inl a) (inr b) = absurd (no_words b.0 b.1 ws vs same a.0 b.4)
filled_once (Receiver ∷ slots) ws vs ps qs same (inr a) (inl b) = absurd (no_words a.0 a.1 vs ws (sym same) b.0 a.4)
filled_once (Receiver ∷ slots) ws vs ps qs same (inr a) (inr b) = one_once Receiver slots (filled_once slots) ws vs ps qs same a b
filled_once (Number ∷ slots) ws vs ps qs same a b = one_once Number slots (filled_once slots) ws vs ps qs same a b
filled_once (Fixed c ∷ slots) ws vs ps qs same a b = one_once (Fixed c) slots (filled_once slots) ws vs ps qs same a b
filled_once (Declared k ∷ slots) ws vs ps qs same a b = one_once (Declared k) slots (filled_once slots) ws vs ps qs same a b
filled_once (Parameter ∷ slots) ws vs ps qs same a b = one_once Parameter slots (filled_once slots) ws vs ps qs same a b
filled_once (Local ∷ slots) ws vs ps qs same a b = one_once Local slots (filled_once slots) ws vs ps qs same a b
filled_once (Object k ∷ slots) ws vs ps qs same a b = one_once (Object k) slots (filled_once slots) ws vs ps qs same a b
filled_once (ObjectOr k ∷ slots) ws vs ps qs same a b = one_once (ObjectOr k) slots (filled_once slots) ws vs ps qs same a b
filled_once (Variable ∷ slots) ws vs ps qs same a b = one_once Variable slots (filled_once slots) ws vs ps qs same a b
filled_once (Exception ∷ slots) ws vs ps qs same a b = one_once Exception slots (filled_once slots) ws vs ps qs same a b

same_head : (w v : Word) (h k : Head) → w ≡ v → head_at (text_of w) ≡ Some h → head_at (text_of v) ≡ Some k → h ≡ k
same_head w v h k same a b = cc

pub form_once : (words : List Word) (h k : Head) (ps qs : List Part) → IsForm words h ps → IsForm words k qs → (h ≡ k) × (ps ≡ qs)
form_once words h k ps qs a b =
    let words_ = same_words a.first b.first a.rest b.rest words words refl a.split b.split in
    let head = same_head a.first b.first h k words_.0 a.is_head b.is_head in
    let filled = subst (λ (x : Head). FilledBy (slots_of x) b.rest qs) (sym head) b.filled in
    (head, filled_once (slots_of h) a.rest b.rest ps qs words_.1 a.filled filled)

-- ---- words that fill slots do so by some parts, and the other way

abbrev Parts : List Slot → List Word → Type 0
Parts slots ws = (ps : List Part) × FilledBy slots ws ps

one_parts : (s : Slot) (slots : List Slot) (ws : List Word) → ((rest : List Word) → Fills slots rest → Parts slots rest) → OneWord s ws (Fills slots) → (ps : List Part) × OnePart s ws ps (FilledBy slots)
one_parts s slots ws below (w, rest, can, split, fills) =
    let more = below rest fills in
    (Single w ∷ more.0, (w, rest, more.0, can, split, refl, more.1))

pub parts_of : (slots : List Slot) (ws : List Word) → Fills slots ws → Parts slots ws
parts_of [] ws e = ([], (e, refl))
parts_of (Expression ∷ slots) ws (t, rest, term, split, fills) =
    let more = parts_of slots rest fills in
    (Whole t ∷ more.0, (t, rest, more.0, term, split, refl, more.1))
parts_of (Receiver ∷ slots) ws (inl e) = ([], inl (e.0, e.1, refl))
parts_of (Receiver ∷ slots) ws (inr o) = let p = one_parts Receiver slots ws (parts_of slots) o in (p.0, inr p.1)
parts_of (Number ∷ slots) ws o = one_parts Number slots ws (parts_of slots) o
parts_of (Fixed c ∷ slots) ws o = one_parts (Fixed c) slots ws (parts_of slots) o
parts_of (Declared k ∷ slots) ws o = one_parts (Declared k) slots ws (parts_of slots) o
parts_of (Parameter ∷ slots) ws o = one_parts Parameter slots ws (parts_of slots) o
parts_of (Local ∷ slots) ws o = one_parts Local slots ws (parts_of slots) o
parts_of (Object k ∷ slots) ws o = one_parts (Object k) slots ws (parts_of slots) o
parts_of (ObjectOr k ∷ slots) ws o = one_parts (ObjectOr k) slots ws (parts_of slots) o
parts_of (Variable ∷ slots) ws o = one_parts Variable slots ws (parts_of slots) o
parts_of (Exception ∷ slots) ws o = one_parts Exception slots ws (parts_of slots) o

one_fills : (s : Slot) (slots : List Slot) (ws : List Word) (ps : List Part) → ((rest : List Word) (more : List Part) → FilledBy slots rest more → Fills slots rest) → OnePart s ws ps (FilledBy slots) → OneWord s ws (Fills slots)
one_fills s slots ws ps below (w, rest, more, can, split, is, fills) = (w, rest, can, split, below rest more fills)

pub parts_fill : (slots : List Slot) (ws : List Word) (ps : List Part) → FilledBy slots ws ps → Fills slots ws
parts_fill [] ws ps e = e.0
parts_fill (Expression ∷ slots) ws ps (t, rest, more, term, split, is, fills) = (t, rest, term, split, parts_fill slots rest more fills)
parts_fill (Receiver ∷ slots) ws ps (inl e) = inl (e.0, e.1)
parts_fill (Receiver ∷ slots) ws ps (inr o) = inr (one_fills Receiver slots ws ps (parts_fill slots) o)
parts_fill (Number ∷ slots) ws ps o = one_fills Number slots ws ps (parts_fill slots) o
parts_fill (Fixed c ∷ slots) ws ps o = one_fills (Fixed c) slots ws ps (parts_fill slots) o
parts_fill (Declared k ∷ slots) ws ps o = one_fills (Declared k) slots ws ps (parts_fill slots) o
parts_fill (Parameter ∷ slots) ws ps o = one_fills Parameter slots ws ps (parts_fill slots) o
parts_fill (Local ∷ slots) ws ps o = one_fills Local slots ws ps (parts_fill slots) o
parts_fill (Object k ∷ slots) ws ps o = one_fills (Object k) slots ws ps (parts_fill slots) o
parts_fill (ObjectOr k ∷ slots) ws ps o = one_fills (ObjectOr k) slots ws ps (parts_fill slots) o
parts_fill (Variable ∷ slots) ws ps o = one_fills Variable slots ws ps (parts_fill slots) o
parts_fill (Exception ∷ slots) ws ps o = one_fills Exception slots ws ps (parts_fill slots) o

pub form_of_line : (words : List Word) → HasForm words → (head : Head) × (parts : List Part) × IsForm words head parts
form_of_line words (w, rest, h, split, is, fills) =
    let parts = parts_of (slots_of h) rest fills in
    (h, parts.0, record { first = w; rest = rest; split = split; is_head = is; filled = parts.1 })

pub line_has_form : (words : List Word) (head : Head) (parts : List Part) → IsForm words head parts → HasForm words
line_has_form words head parts f = (f.first, f.rest, head, f.split, f.is_head, parts_fill (slots_of head) f.rest parts f.filled)
