-- The pieces of the words of a line: one for each expression, and one for each other word.
use Rattle.std.proofs.Common.{◌≡◌, ℕ, true, false, List, [], ◌∷◌, ◌++◌, Some, refl, ap, ◌∙◌, append_assoc, inl, inr}
use Rattle.std.specs.Prelude.{◌||◌, codes}
use Rattle.std.specs.List.{list_any}
use Rattle.thr_syntax.specs.Spelling.{Scope}
use Rattle.thr_syntax.specs.declared.expr.Expr.{Expr}
use Rattle.thr_syntax.specs.declared.expr.Expr.TheVariants as expr
use Rattle.thr_text.specs.declared.word.Word.{Word}
use Rattle.thr_text.specs.declared.head.Slot.TheVariants.{Exception}
use Rattle.thr_text.specs.Names.{has_name_form, reserved_words, is_reserved, is_name}
use Rattle.thr_text.specs.Slots.{is_one_of, is_a_name, is_a_number, binary_words, can_stand}
use Rattle.thr_text.specs.Grammar.{Term, Atom, Negation, Operation, Status, Match, term_words, is_atom, IsTerm}
use Rattle.thr_text.proofs.WordTables.{either, apart, no_name, no_number, no_more}
use Rattle.thr_resolving.specs.Resolving.{exception_in, operator_in, atom_in, expression_in, Piece, Raw, Made, operation, negation, status_asked, match_asked, with_word, pieces_of}

-- ---- words that take no operands

abbrev pub operator_words : List (List ℕ)
operator_words = codes "not" ∷ codes "exc_get_status" ∷ codes "exc_matches" ∷ binary_words

abbrev not_words : List (List ℕ)
not_words = codes "not" ∷ []

abbrev status_words : List (List ℕ)
status_words = codes "exc_get_status" ∷ []

abbrev match_words : List (List ℕ)
match_words = codes "exc_matches" ∷ []

abbrev self_words : List (List ℕ)
self_words = codes "self" ∷ codes "err" ∷ []

operators_no_names : list_any is_name operator_words ≡ false
unfolding has_name_form reserved_words is_reserved
operators_no_names = refl

pub name_no_operator : (w : Word) → is_a_name w ≡ true → is_one_of operator_words w ≡ false
name_no_operator w e = no_name operator_words operators_no_names w e

atom_no_operator : (w : Word) → is_atom w ≡ true → is_one_of operator_words w ≡ false
atom_no_operator w e = elim (either (is_a_number w) (is_a_name w || is_one_of self_words w) e) [
  | inl number ↦ no_number operator_words w number
  | inr more ↦ elim (either (is_a_name w) (is_one_of self_words w) more) [
    | inl name ↦ name_no_operator w name
    | inr own ↦ apart self_words operator_words refl w own
  ]
]

exception_no_operator : (w : Word) → can_stand Exception w ≡ true → is_one_of operator_words w ≡ false
exception_no_operator w e = elim (either (is_a_name w) (is_one_of (codes "this" ∷ []) w) e) [
  | inl name ↦ name_no_operator w name
  | inr this ↦ apart (codes "this" ∷ []) operator_words refl w this
]

pub raw_first : (scope : Scope) (w : Word) (ws : List Word) → is_one_of operator_words w ≡ false → pieces_of scope (w ∷ ws) ≡ Raw w ∷ pieces_of scope ws
unfolding pieces_of with_word
raw_first scope w ws none = rw (no_more binary_words operator_words refl w none, no_more not_words operator_words refl w none, no_more status_words operator_words refl w none, no_more match_words operator_words refl w none) refl

-- ---- operators

binary_first : (scope : Scope) (w : Word) (ws : List Word) → is_one_of binary_words w ≡ true → pieces_of scope (w ∷ ws) ≡ operation scope w (pieces_of scope ws)
unfolding pieces_of with_word
binary_first scope w ws e = rw e refl

not_first : (scope : Scope) (w : Word) (ws : List Word) → is_one_of not_words w ≡ true → pieces_of scope (w ∷ ws) ≡ negation scope (pieces_of scope ws)
unfolding pieces_of with_word
not_first scope w ws e = rw (apart not_words binary_words refl w e, e) refl

status_first : (scope : Scope) (w : Word) (ws : List Word) → is_one_of status_words w ≡ true → pieces_of scope (w ∷ ws) ≡ status_asked scope (pieces_of scope ws)
unfolding pieces_of with_word
status_first scope w ws e = rw (apart status_words binary_words refl w e, apart status_words not_words refl w e, e) refl

match_first : (scope : Scope) (w : Word) (ws : List Word) → is_one_of match_words w ≡ true → pieces_of scope (w ∷ ws) ≡ match_asked scope (pieces_of scope ws)
unfolding pieces_of with_word
match_first scope w ws e = rw (apart match_words binary_words refl w e, apart match_words not_words refl w e, apart match_words status_words refl w e, e) refl

-- ---- an expression

abbrev pub term_expr : Scope → Term → Expr
term_expr scope (Atom w) = atom_in scope w
term_expr scope (Negation w t) = expr.Not (term_expr scope t)
term_expr scope (Operation w t u) = expr.Two (operator_in w) (term_expr scope t) (term_expr scope u)
term_expr scope (Status w x) = expr.GetStatus (exception_in scope x)
term_expr scope (Match w x y) = expr.Matches (exception_in scope x) (exception_in scope y)

abbrev pub piece_of : Scope → Term → Piece
piece_of scope (Atom w) = Raw w
piece_of scope (Negation w t) = Made (term_expr scope (Negation w t))
piece_of scope (Operation w t u) = Made (term_expr scope (Operation w t u))
piece_of scope (Status w x) = Made (term_expr scope (Status w x))
piece_of scope (Match w x y) = Made (term_expr scope (Match w x y))

pub piece_expression : (scope : Scope) (t : Term) → expression_in scope (Some (piece_of scope t)) ≡ term_expr scope t
piece_expression scope (Atom w) = refl
piece_expression scope (Negation w t) = refl
piece_expression scope (Operation w t u) = refl
piece_expression scope (Status w x) = refl
piece_expression scope (Match w x y) = refl

made_not : (scope : Scope) (p : Piece) (ps qs : List Piece) (e : Expr) → qs ≡ p ∷ ps → expression_in scope (Some p) ≡ e → negation scope qs ≡ Made (expr.Not e) ∷ ps
made_not scope p ps qs e is made = rw (is, made) refl

made_two : (scope : Scope) (w : Word) (p q : Piece) (ps qs rs : List Piece) (e f : Expr) → rs ≡ p ∷ qs → qs ≡ q ∷ ps → expression_in scope (Some p) ≡ e → expression_in scope (Some q) ≡ f
    → operation scope w rs ≡ Made (expr.Two (operator_in w) e f) ∷ ps
made_two scope w p q ps qs rs e f is more left right = rw (is, more, left, right) refl

made_status : (scope : Scope) (x : Word) (ps qs : List Piece) → qs ≡ Raw x ∷ ps → status_asked scope qs ≡ Made (expr.GetStatus (exception_in scope x)) ∷ ps
made_status scope x ps qs is = rw is refl

made_match : (scope : Scope) (x y : Word) (ps qs rs : List Piece) → rs ≡ Raw x ∷ qs → qs ≡ Raw y ∷ ps → match_asked scope rs ≡ Made (expr.Matches (exception_in scope x) (exception_in scope y)) ∷ ps
made_match scope x y ps qs rs is more = rw (is, more) refl

pub term_first : (scope : Scope) (t : Term) → IsTerm t → (rest : List Word) → pieces_of scope (term_words t ++ rest) ≡ piece_of scope t ∷ pieces_of scope rest
term_first scope (Atom w) h rest = raw_first scope w rest (atom_no_operator w h)
term_first scope (Negation w t) h rest =
    not_first scope w (term_words t ++ rest) h.0
    ∙ made_not scope (piece_of scope t) (pieces_of scope rest) (pieces_of scope (term_words t ++ rest)) (term_expr scope t) (term_first scope t h.1 rest) (piece_expression scope t)
term_first scope (Operation w t u) h rest =
    ap (λ (xs : List Word). pieces_of scope (w ∷ xs)) (append_assoc (term_words t) (term_words u) rest)
    ∙ binary_first scope w (term_words t ++ (term_words u ++ rest)) h.0
    ∙ made_two scope w (piece_of scope t) (piece_of scope u) (pieces_of scope rest) (pieces_of scope (term_words u ++ rest)) (pieces_of scope (term_words t ++ (term_words u ++ rest))) (term_expr scope t) (term_expr scope u)
    (term_first scope t h.1 (term_words u ++ rest)) (term_first scope u h.2 rest) (piece_expression scope t) (piece_expression scope u)
term_first scope (Status w x) h rest =
    status_first scope w (x ∷ rest) h.0
    ∙ made_status scope x (pieces_of scope rest) (pieces_of scope (x ∷ rest)) (raw_first scope x rest (exception_no_operator x h.1))
term_first scope (Match w x y) h rest =
    match_first scope w (x ∷ y ∷ rest) h.0
    ∙ made_match scope x y (pieces_of scope rest) (pieces_of scope (y ∷ rest)) (pieces_of scope (x ∷ y ∷ rest))
    (raw_first scope x (y ∷ rest) (exception_no_operator x h.1)) (raw_first scope y rest (exception_no_operator y h.2))
