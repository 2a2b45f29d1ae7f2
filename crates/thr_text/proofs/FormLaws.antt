-- The lines without a fault of form are those that have a form.
use Rattle.std.proofs.Common.{◌≡◌, ℕ, Bool, true, false, List, [], ◌∷◌, ◌++◌, Option, Some, None, refl, sym, ap, subst, ◌∙◌, inl, inr, append_assoc}
use Rattle.std.specs.Prelude.{◌⊎◌, ◌||◌, codes}
use Rattle.std.specs.List.{list_any}
use Rattle.std.specs.Str.{bytes_eq}
use Rattle.thr_text.specs.declared.word.Word.{Word}
use Rattle.thr_text.specs.declared.word.Word.TheVariants.{Num, Name, Mark}
use Rattle.thr_text.specs.declared.head.Head.{Head}
use Rattle.thr_text.specs.declared.head.Slot.{Slot}
use Rattle.thr_text.specs.declared.head.Slot.TheVariants.{Number, Fixed, Declared, Parameter, Local, Object, ObjectOr, Variable, Receiver, Exception, Expression}
use Rattle.thr_text.specs.Names.{has_name_form, reserved_words, is_reserved, is_name}
use Rattle.thr_text.specs.Slots.{is_one_of, is_a_name, is_a_number, binary_words, expression_words, can_stand, operands_of, slots_behind, slots_of, misplaced, head_at, text_of, fault_after, form_fault}
use Rattle.thr_text.specs.Grammar.{Term, Atom, Negation, Operation, Status, Match, term_words, is_atom, IsTerm, OneWord, Fills, HasForm}
use Rattle.thr_text.proofs.WordTables.{are_within, chosen, either, decided, apart, within, no_name, no_number, no_more}

-- ---- the words of expressions

abbrev self_words : List (List ℕ)
self_words = codes "self" ∷ codes "err" ∷ []

abbrev not_words : List (List ℕ)
not_words = codes "not" ∷ []

abbrev status_words : List (List ℕ)
status_words = codes "exc_get_status" ∷ []

abbrev match_words : List (List ℕ)
match_words = codes "exc_matches" ∷ []

abbrev operator_words : List (List ℕ)
operator_words = codes "not" ∷ codes "exc_get_status" ∷ codes "exc_matches" ∷ binary_words

operators_no_names : list_any is_name operator_words ≡ false
unfolding has_name_form reserved_words is_reserved
operators_no_names = refl

atom_no_operator : (w : Word) → is_atom w ≡ true → is_one_of operator_words w ≡ false
atom_no_operator w e =
    elim (either (is_a_number w) (is_a_name w || is_one_of self_words w) e) [
      | inl number ↦ no_number operator_words w number
      | inr more ↦ elim (either (is_a_name w) (is_one_of self_words w) more) [
        | inl name ↦ no_name operator_words operators_no_names w name
        | inr own ↦ apart self_words operator_words refl w own
      ]
    ]

pub binary_opens : (w : Word) → is_one_of binary_words w ≡ true → operands_of w ≡ Expression ∷ Expression ∷ []
binary_opens w e = rw e refl

pub not_opens : (w : Word) → is_one_of not_words w ≡ true → operands_of w ≡ Expression ∷ []
not_opens w e = rw (apart not_words binary_words refl w e, e) refl

pub status_opens : (w : Word) → is_one_of status_words w ≡ true → operands_of w ≡ Exception ∷ []
status_opens w e = rw (apart status_words binary_words refl w e, apart status_words not_words refl w e, e) refl

pub match_opens : (w : Word) → is_one_of match_words w ≡ true → operands_of w ≡ Exception ∷ Exception ∷ []
match_opens w e = rw (apart match_words binary_words refl w e, apart match_words not_words refl w e, apart match_words status_words refl w e, e) refl

none_opens : (w : Word) → is_one_of operator_words w ≡ false → operands_of w ≡ []
none_opens w e = rw (no_more binary_words operator_words refl w e, no_more not_words operator_words refl w e, no_more status_words operator_words refl w e, no_more match_words operator_words refl w e) refl

pub atom_opens : (w : Word) → is_atom w ≡ true → operands_of w ≡ []
atom_opens w e = none_opens w (atom_no_operator w e)

-- ---- what can stand where an expression is wanted

or_last : (a b c : Bool) → c ≡ true → (a || (b || c)) ≡ true
or_last true b c e = refl
or_last false true c e = refl
or_last false false c e = e

table_stands : (xs : List (List ℕ)) → are_within xs expression_words ≡ true → (w : Word) → is_one_of xs w ≡ true → can_stand Expression w ≡ true
table_stands xs e w one = or_last (is_a_number w) (is_a_name w) (is_one_of expression_words w) (within xs expression_words e w one)

or_more : (a b c d : Bool) → (c ≡ true → d ≡ true) → (a || (b || c)) ≡ true → (a || (b || d)) ≡ true
or_more true b c d f e = refl
or_more false true c d f e = refl
or_more false false c d f e = f e

atom_stands : (w : Word) → is_atom w ≡ true → can_stand Expression w ≡ true
atom_stands w e = or_more (is_a_number w) (is_a_name w) (is_one_of self_words w) (is_one_of expression_words w) (within self_words expression_words refl w) e

-- ---- a term at its place

opened : (w : Word) (os slots : List Slot) (ws : List Word) → can_stand Expression w ≡ true → operands_of w ≡ os → misplaced (Expression ∷ slots) (w ∷ ws) ≡ misplaced (os ++ slots) ws
unfolding misplaced
opened w os slots ws can e = rw can (ap (λ (x : List Slot). misplaced (x ++ slots) ws) e)

pub passed : (s : Slot) (w : Word) (slots : List Slot) (ws : List Word) → can_stand s w ≡ true → slots_behind s w ≡ [] → misplaced (s ∷ slots) (w ∷ ws) ≡ misplaced slots ws
unfolding misplaced
passed s w slots ws can e = rw can (ap (λ (x : List Slot). misplaced (x ++ slots) ws) e)

pub term_passes : (t : Term) → IsTerm t → (slots : List Slot) (rest : List Word) → misplaced (Expression ∷ slots) (term_words t ++ rest) ≡ misplaced slots rest
term_passes (Atom w) h slots rest = opened w [] slots rest (atom_stands w h) (atom_opens w h)
term_passes (Negation w t) h slots rest =
    opened w (Expression ∷ []) slots (term_words t ++ rest) (table_stands not_words refl w h.0) (not_opens w h.0) ∙ term_passes t h.1 slots rest
term_passes (Operation w t u) h slots rest =
    ap (λ (x : List Word). misplaced (Expression ∷ slots) (w ∷ x)) (append_assoc (term_words t) (term_words u) rest)
    ∙ opened w (Expression ∷ Expression ∷ []) slots (term_words t ++ (term_words u ++ rest)) (table_stands binary_words refl w h.0) (binary_opens w h.0)
    ∙ term_passes t h.1 (Expression ∷ slots) (term_words u ++ rest)
    ∙ term_passes u h.2 slots rest
term_passes (Status w x) h slots rest =
    opened w (Exception ∷ []) slots (x ∷ rest) (table_stands status_words refl w h.0) (status_opens w h.0)
    ∙ passed Exception x slots rest h.1 refl
term_passes (Match w x y) h slots rest =
    opened w (Exception ∷ Exception ∷ []) slots (x ∷ y ∷ rest) (table_stands match_words refl w h.0) (match_opens w h.0)
    ∙ passed Exception x (Exception ∷ slots) (y ∷ rest) h.1 refl
    ∙ passed Exception y slots rest h.2 refl

-- ---- words that fill the slots have no fault

one_passes : (s : Slot) (slots : List Slot) (ws : List Word) → ((w : Word) → slots_behind s w ≡ []) → ((rest : List Word) → Fills slots rest → misplaced slots rest ≡ None) → OneWord s ws (Fills slots) → misplaced (s ∷ slots) ws ≡ None
one_passes s slots ws behind more o =
    ap (λ (x : List Word). misplaced (s ∷ slots) x) o.3 ∙ passed s o.0 slots o.1 o.2 (behind o.0) ∙ more o.1 o.4

pub fills_passes : (slots : List Slot) (ws : List Word) → Fills slots ws → misplaced slots ws ≡ None
unfolding misplaced
fills_passes [] ws f = ap (λ (x : List Word). misplaced [] x) f
fills_passes (Expression ∷ slots) ws f =
    ap (λ (x : List Word). misplaced (Expression ∷ slots) x) f.3 ∙ term_passes f.0 f.2 slots f.1 ∙ fills_passes slots f.1 f.4
fills_passes (Receiver ∷ slots) ws f = elim f [
  | inl e ↦ ap (λ (x : List Slot). misplaced (Receiver ∷ x) ws) e.1 ∙ ap (λ (x : List Word). misplaced (Receiver ∷ []) x) e.0
  | inr o ↦ one_passes Receiver slots ws (λ w. refl) (fills_passes slots) o
]
fills_passes (Number ∷ slots) ws f = one_passes Number slots ws (λ w. refl) (fills_passes slots) f
fills_passes (Fixed c ∷ slots) ws f = one_passes (Fixed c) slots ws (λ w. refl) (fills_passes slots) f
fills_passes (Declared k ∷ slots) ws f = one_passes (Declared k) slots ws (λ w. refl) (fills_passes slots) f
fills_passes (Parameter ∷ slots) ws f = one_passes Parameter slots ws (λ w. refl) (fills_passes slots) f
fills_passes (Local ∷ slots) ws f = one_passes Local slots ws (λ w. refl) (fills_passes slots) f
fills_passes (Object k ∷ slots) ws f = one_passes (Object k) slots ws (λ w. refl) (fills_passes slots) f
fills_passes (ObjectOr k ∷ slots) ws f = one_passes (ObjectOr k) slots ws (λ w. refl) (fills_passes slots) f
fills_passes (Variable ∷ slots) ws f = one_passes Variable slots ws (λ w. refl) (fills_passes slots) f
fills_passes (Exception ∷ slots) ws f = one_passes Exception slots ws (λ w. refl) (fills_passes slots) f

-- ---- words without a fault fill the slots

fills_nothing : (slots : List Slot) → misplaced slots [] ≡ None → Fills slots []
unfolding misplaced
fills_nothing [] e = refl
fills_nothing (Receiver ∷ []) e = inl (refl, refl)
fills_nothing (Receiver ∷ s ∷ slots) e = absurd cc
fills_nothing (Expression ∷ slots) e = absurd cc
fills_nothing (Number ∷ slots) e = absurd cc
fills_nothing (Fixed c ∷ slots) e = absurd cc
fills_nothing (Declared k ∷ slots) e = absurd cc
fills_nothing (Parameter ∷ slots) e = absurd cc
fills_nothing (Local ∷ slots) e = absurd cc
fills_nothing (Object k ∷ slots) e = absurd cc
fills_nothing (ObjectOr k ∷ slots) e = absurd cc
fills_nothing (Variable ∷ slots) e = absurd cc
fills_nothing (Exception ∷ slots) e = absurd cc

or_split : (a b c : Bool) → (a || (b || c)) ≡ true → c ≡ false → (a || (b || false)) ≡ true
or_split true b c e none = refl
or_split false true c e none = refl
or_split false false c e none = sym none ∙ e

or_four : (a b c d : Bool) → a ≡ false → b ≡ false → c ≡ false → d ≡ false → (a || (b || (c || d))) ≡ false
or_four a b c d e f g h = rw (e, f, g) h

or_end : (a : Bool) → (a || false) ≡ false → a ≡ false
or_end true e = e
or_end false e = refl

no_operator : (w : Word) → is_one_of binary_words w ≡ false → is_one_of not_words w ≡ false → is_one_of status_words w ≡ false → is_one_of match_words w ≡ false → is_one_of operator_words w ≡ false
no_operator (Num x) b n s m = refl
no_operator (Name t) b n s m = or_four (bytes_eq t (codes "not")) (bytes_eq t (codes "exc_get_status")) (bytes_eq t (codes "exc_matches")) (list_any (λ x. bytes_eq t x) binary_words) (or_end (bytes_eq t (codes "not")) n) (or_end (bytes_eq t (codes "exc_get_status")) s) (or_end (bytes_eq t (codes "exc_matches")) m) b
no_operator (Mark t) b n s m = or_four (bytes_eq t (codes "not")) (bytes_eq t (codes "exc_get_status")) (bytes_eq t (codes "exc_matches")) (list_any (λ x. bytes_eq t x) binary_words) (or_end (bytes_eq t (codes "not")) n) (or_end (bytes_eq t (codes "exc_get_status")) s) (or_end (bytes_eq t (codes "exc_matches")) m) b

-- A word that can stand there and opens no operands is an atom.
split_text : (t : List ℕ) → list_any (λ x. bytes_eq t x) expression_words ≡ true → list_any (λ x. bytes_eq t x) operator_words ≡ false → list_any (λ x. bytes_eq t x) self_words ≡ true
split_text t one none = or_split (bytes_eq t (codes "self")) (bytes_eq t (codes "err")) (list_any (λ x. bytes_eq t x) operator_words) one none

split_words : (w : Word) → is_one_of expression_words w ≡ true → is_one_of operator_words w ≡ false → is_one_of self_words w ≡ true
split_words (Num n) one none = absurd cc
split_words (Name text) one none = split_text text one none
split_words (Mark text) one none = split_text text one none

left_atom : (w : Word) → can_stand Expression w ≡ true → is_one_of binary_words w ≡ false → is_one_of not_words w ≡ false → is_one_of status_words w ≡ false → is_one_of match_words w ≡ false → is_atom w ≡ true
left_atom w can b n s m =
    or_more (is_a_number w) (is_a_name w) (is_one_of expression_words w) (is_one_of self_words w)
    (λ one. split_words w one (no_operator w b n s m)) can

-- The word of an expression, where what its operands want is filled.
fills_expression : (w : Word) (slots : List Slot) (ws : List Word) → can_stand Expression w ≡ true → Fills (operands_of w ++ slots) ws → Fills (Expression ∷ slots) (w ∷ ws)
fills_expression w slots ws can f =
    elim (decided (is_one_of binary_words w)) [
      | inl is ↦
          let g : Fills (Expression ∷ Expression ∷ slots) ws = subst (λ (x : List Slot). Fills (x ++ slots) ws) (binary_opens w is) f in
          let a = g.4 in (
            Operation w g.0 a.0,
            a.1,
            (is, g.2, a.2),
            ap (λ (x : List Word). w ∷ x) (g.3 ∙ ap (λ (x : List Word). term_words g.0 ++ x) a.3 ∙ sym (append_assoc (term_words g.0) (term_words a.0) a.1)),
            a.4,
          )
      | inr no_binary ↦ elim (decided (is_one_of not_words w)) [
        | inl is ↦
            let g : Fills (Expression ∷ slots) ws = subst (λ (x : List Slot). Fills (x ++ slots) ws) (not_opens w is) f in
            (Negation w g.0, g.1, (is, g.2), ap (λ (x : List Word). w ∷ x) g.3, g.4)
        | inr no_not ↦ elim (decided (is_one_of status_words w)) [
          | inl is ↦
              let g : Fills (Exception ∷ slots) ws = subst (λ (x : List Slot). Fills (x ++ slots) ws) (status_opens w is) f in
              (Status w g.0, g.1, (is, g.2), ap (λ (x : List Word). w ∷ x) g.3, g.4)
          | inr no_status ↦ elim (decided (is_one_of match_words w)) [
            | inl is ↦
                let g : Fills (Exception ∷ Exception ∷ slots) ws = subst (λ (x : List Slot). Fills (x ++ slots) ws) (match_opens w is) f in
                let a = g.4 in
                (Match w g.0 a.0, a.1, (is, g.2, a.2), ap (λ (x : List Word). w ∷ x) (g.3 ∙ ap (λ (x : List Word). g.0 ∷ x) a.3), a.4)
            | inr no_match ↦
                let g : Fills slots ws = subst (λ (x : List Slot). Fills (x ++ slots) ws) (none_opens w (no_operator w no_binary no_not no_status no_match)) f in
                (Atom w, ws, left_atom w can no_binary no_not no_status no_match, refl, g)
          ]
        ]
      ]
    ]

fills_one : (s : Slot) (slots : List Slot) (w : Word) (ws : List Word) → can_stand s w ≡ true → Fills (slots_behind s w ++ slots) ws → Fills (s ∷ slots) (w ∷ ws)
fills_one Expression slots w ws can f = fills_expression w slots ws can f
fills_one Receiver slots w ws can f = inr (w, ws, can, refl, f)
fills_one Number slots w ws can f = (w, ws, can, refl, f)
fills_one (Fixed c) slots w ws can f = (w, ws, can, refl, f)
fills_one (Declared k) slots w ws can f = (w, ws, can, refl, f)
fills_one Parameter slots w ws can f = (w, ws, can, refl, f)
fills_one Local slots w ws can f = (w, ws, can, refl, f)
fills_one (Object k) slots w ws can f = (w, ws, can, refl, f)
fills_one (ObjectOr k) slots w ws can f = (w, ws, can, refl, f)
fills_one Variable slots w ws can f = (w, ws, can, refl, f)
fills_one Exception slots w ws can f = (w, ws, can, refl, f)

fills_step : (s : Slot) (slots : List Slot) (w : Word) (ws : List Word) → ((qs : List Slot) → misplaced qs ws ≡ None → Fills qs ws) → misplaced (s ∷ slots) (w ∷ ws) ≡ None → Fills (s ∷ slots) (w ∷ ws)
unfolding misplaced
fills_step s slots w ws more e =
    elim (chosen (can_stand s w) (misplaced (slots_behind s w ++ slots) ws) (Some 6) None e) [
      | inl t ↦ fills_one s slots w ws t.0 (more (slots_behind s w ++ slots) t.1)
      | inr f ↦ absurd (let e : Some 6 ≡ None = f.1 in cc)
    ]

pub passes_fills : (ws : List Word) (slots : List Slot) → misplaced slots ws ≡ None → Fills slots ws
unfolding misplaced
passes_fills [] slots e = fills_nothing slots e
passes_fills (w ∷ ws) [] e = absurd cc
passes_fills (w ∷ ws) (s ∷ slots) e = fills_step s slots w ws (passes_fills ws) e

-- ---- lines

pub form_passes : (ws : List Word) → HasForm ws → form_fault ws ≡ None
form_passes ws h = ap form_fault h.3 ∙ ap (λ (o : Option Head). fault_after o h.1) h.4 ∙ fills_passes (slots_of h.2) h.1 h.5

pub head_decided : (o : Option Head) → (o ≡ None) ⊎ ((h : Head) × (o ≡ Some h))
head_decided None = inl refl
head_decided (Some h) = inr (h, refl)

passes_after : (w : Word) (ws : List Word) → fault_after (head_at (text_of w)) ws ≡ None → HasForm (w ∷ ws)
passes_after w ws e = elim (head_decided (head_at (text_of w))) [
  | inl none ↦ absurd (let k : Some 6 ≡ None = sym (ap (λ (o : Option Head). fault_after o ws) none) ∙ e in cc)
  | inr some ↦ (w, ws, some.0, refl, some.1, passes_fills ws (slots_of some.0) (sym (ap (λ (o : Option Head). fault_after o ws) some.1) ∙ e))
]

pub passes_form : (w : Word) (ws : List Word) → form_fault (w ∷ ws) ≡ None → HasForm (w ∷ ws)
passes_form w ws e = passes_after w ws e
