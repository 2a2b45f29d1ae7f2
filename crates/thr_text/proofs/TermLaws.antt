-- Words are begun by one expression at most.
use Rattle.std.proofs.Common.{◌≡◌, List, [], ◌∷◌, ◌++◌, refl, sym, ap, ◌∙◌, append_assoc}
use Rattle.thr_text.specs.declared.word.Word.{Word}
use Rattle.thr_text.specs.declared.head.Slot.{Slot}
use Rattle.thr_text.specs.declared.head.Slot.TheVariants.{Exception, Expression}
use Rattle.thr_text.specs.Slots.{operands_of}
use Rattle.thr_text.specs.Grammar.{Term, Atom, Negation, Operation, Status, Match, term_words, IsTerm}
use Rattle.thr_text.proofs.FormLaws.{binary_opens, not_opens, status_opens, match_opens, atom_opens}

-- ---- the first word tells what it opens

abbrev opens : Term → List Slot
opens (Atom w) = []
opens (Negation w t) = Expression ∷ []
opens (Operation w t u) = Expression ∷ Expression ∷ []
opens (Status w x) = Exception ∷ []
opens (Match w x y) = Exception ∷ Exception ∷ []

abbrev first_word : Term → Word
first_word (Atom w) = w
first_word (Negation w t) = w
first_word (Operation w t u) = w
first_word (Status w x) = w
first_word (Match w x y) = w

first_opens : (t : Term) → IsTerm t → operands_of (first_word t) ≡ opens t
first_opens (Atom w) h = atom_opens w h
first_opens (Negation w t) h = not_opens w h.0
first_opens (Operation w t u) h = binary_opens w h.0
first_opens (Status w x) h = status_opens w h.0
first_opens (Match w x y) h = match_opens w h.0

first_is : (t : Term) (r : List Word) → (rest : List Word) × (term_words t ++ r ≡ first_word t ∷ rest)
first_is (Atom w) r = (r, refl)
first_is (Negation w t) r = (term_words t ++ r, refl)
first_is (Operation w t u) r = ((term_words t ++ term_words u) ++ r, refl)
first_is (Status w x) r = (x ∷ r, refl)
first_is (Match w x y) r = (x ∷ y ∷ r, refl)

front_same : (x y : Word) (xs ys : List Word) → x ∷ xs ≡ y ∷ ys → x ≡ y
front_same x y xs ys e = cc

rest_same : (x y : Word) (xs ys : List Word) → x ∷ xs ≡ y ∷ ys → xs ≡ ys
rest_same x y xs ys e = cc

same_opens : (t u : Term) (r s : List Word) → IsTerm t → IsTerm u → term_words t ++ r ≡ term_words u ++ s → opens t ≡ opens u
same_opens t u r s h k e =
    let a = first_is t r in
    let b = first_is u s in
    sym (first_opens t h) ∙ ap operands_of (front_same (first_word t) (first_word u) a.0 b.0 (sym a.1 ∙ e ∙ b.1)) ∙ first_opens u k

-- ---- the only expression

pub only_term : (t u : Term) (r s : List Word) → IsTerm t → IsTerm u → term_words t ++ r ≡ term_words u ++ s → (t ≡ u) × (r ≡ s)
only_term (Atom w) (Atom w2) r s h k e = (cc, cc)
only_term (Atom w) (Negation w2 t2) r s h k e = absurd (let o = same_opens (Atom w) (Negation w2 t2) r s h k e in cc)
only_term (Atom w) (Operation w2 t2 u2) r s h k e = absurd (let o = same_opens (Atom w) (Operation w2 t2 u2) r s h k e in cc)
only_term (Atom w) (Status w2 x2) r s h k e = absurd (let o = same_opens (Atom w) (Status w2 x2) r s h k e in cc)
only_term (Atom w) (Match w2 x2 y2) r s h k e = absurd (let o = same_opens (Atom w) (Match w2 x2 y2) r s h k e in cc)
only_term (Negation w t) (Atom w2) r s h k e = absurd (let o = same_opens (Negation w t) (Atom w2) r s h k e in cc)
only_term (Negation w t) (Negation w2 t2) r s h k e =
    let more = only_term t t2 r s h.1 k.1 (rest_same w w2 (term_words t ++ r) (term_words t2 ++ s) e) in
    (cc (e, more.0), more.1)
only_term (Negation w t) (Operation w2 t2 u2) r s h k e = absurd (let o = same_opens (Negation w t) (Operation w2 t2 u2) r s h k e in cc)
only_term (Negation w t) (Status w2 x2) r s h k e = absurd (let o = same_opens (Negation w t) (Status w2 x2) r s h k e in cc)
only_term (Negation w t) (Match w2 x2 y2) r s h k e = absurd (let o = same_opens (Negation w t) (Match w2 x2 y2) r s h k e in cc)
only_term (Operation w t u) (Atom w2) r s h k e = absurd (let o = same_opens (Operation w t u) (Atom w2) r s h k e in cc)
only_term (Operation w t u) (Negation w2 t2) r s h k e = absurd (let o = same_opens (Operation w t u) (Negation w2 t2) r s h k e in cc)
only_term (Operation w t u) (Operation w2 t2 u2) r s h k e =
    let tail = rest_same w w2 ((term_words t ++ term_words u) ++ r) ((term_words t2 ++ term_words u2) ++ s) e in
    let left = only_term t t2 (term_words u ++ r) (term_words u2 ++ s) h.1 k.1 (sym (append_assoc (term_words t) (term_words u) r) ∙ tail ∙ append_assoc (term_words t2) (term_words u2) s) in
    let right = only_term u u2 r s h.2 k.2 left.1 in
    (cc (e, left.0, right.0), right.1)
only_term (Operation w t u) (Status w2 x2) r s h k e = absurd (let o = same_opens (Operation w t u) (Status w2 x2) r s h k e in cc)
only_term (Operation w t u) (Match w2 x2 y2) r s h k e = absurd (let o = same_opens (Operation w t u) (Match w2 x2 y2) r s h k e in cc)
only_term (Status w x) (Atom w2) r s h k e = absurd (let o = same_opens (Status w x) (Atom w2) r s h k e in cc)
only_term (Status w x) (Negation w2 t2) r s h k e = absurd (let o = same_opens (Status w x) (Negation w2 t2) r s h k e in cc)
only_term (Status w x) (Operation w2 t2 u2) r s h k e = absurd (let o = same_opens (Status w x) (Operation w2 t2 u2) r s h k e in cc)
only_term (Status w x) (Status w2 x2) r s h k e = (cc, cc)
only_term (Status w x) (Match w2 x2 y2) r s h k e = absurd (let o = same_opens (Status w x) (Match w2 x2 y2) r s h k e in cc)
only_term (Match w x y) (Atom w2) r s h k e = absurd (let o = same_opens (Match w x y) (Atom w2) r s h k e in cc)
only_term (Match w x y) (Negation w2 t2) r s h k e = absurd (let o = same_opens (Match w x y) (Negation w2 t2) r s h k e in cc)
only_term (Match w x y) (Operation w2 t2 u2) r s h k e = absurd (let o = same_opens (Match w x y) (Operation w2 t2 u2) r s h k e in cc)
only_term (Match w x y) (Status w2 x2) r s h k e = absurd (let o = same_opens (Match w x y) (Status w2 x2) r s h k e in cc)
only_term (Match w x y) (Match w2 x2 y2) r s h k e = (cc, cc)
