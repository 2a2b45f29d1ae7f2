-- The words of a spelled expression are resolved to that expression.
use Rattle.std.proofs.Common.{◌≡◌, ℕ, ℤ, true, false, List, [], ◌∷◌, ◌++◌, map, refl, sym, ap, subst, ◌∙◌, inl, inr, append_assoc, Some, None}
use Rattle.std.specs.Prelude.{codes, FitsSigned}
use Rattle.std.specs.Int.{w64}
use Rattle.std.specs.Fmt.{signed_decimal}
use Rattle.std.specs.List.{list_any}
use Rattle.std.proofs.lemmas.List.{map-append}
use Rattle.thr_values.specs.declared.number.NameId.{NameId}
use Rattle.thr_syntax.specs.declared.expr.Var.{Var}
use Rattle.thr_syntax.specs.declared.expr.ExcRef.{ExcRef}
use Rattle.thr_syntax.specs.declared.expr.ExcRef.TheVariants.{Named, This}
use Rattle.thr_syntax.specs.declared.expr.Op.{Op}
use Rattle.thr_syntax.specs.declared.expr.Op.TheVariants as op
use Rattle.thr_syntax.specs.declared.expr.Expr.{Expr}
use Rattle.thr_syntax.specs.declared.expr.Expr.TheVariants as expr
use Rattle.thr_syntax.specs.Spelling.{Scope, name_of, variable_of, exception_of, operator_word, expr_step, expr_words}
use Rattle.thr_syntax.proofs.FoldLaws.{each_expr-Num, each_expr-Var, each_expr-Me, each_expr-Err, each_expr-Two, each_expr-Not, each_expr-GetStatus, each_expr-Matches}
use Rattle.thr_syntax.proofs.TreeInduction.{expr_induction}
use Rattle.thr_text.specs.declared.word.Word.{Word}
use Rattle.thr_text.specs.declared.word.Word.TheVariants.{Name}
use Rattle.thr_text.specs.declared.head.Slot.{Slot}
use Rattle.thr_text.specs.declared.head.Slot.TheVariants as slot
use Rattle.thr_text.specs.Names.{has_name_form, reserved_words, is_reserved, is_name}
use Rattle.thr_text.specs.Lexing.{has_number_form, magnitude, word_of}
use Rattle.thr_text.specs.Slots.{is_one_of, binary_words, can_stand, operands_of, slots_behind, misplaced}
use Rattle.thr_text.specs.Numbers.{AreSigned, numbers_step, expr_numbers}
use Rattle.thr_text.proofs.WordTables.{chosen, apart, no_name, no_more}
use Rattle.thr_text.proofs.FormLaws.{binary_opens, not_opens, status_opens, match_opens}
use Rattle.thr_resolving.specs.Resolving.{Piece, Raw, Made, id_in, variable_in, exception_in, operator_in, atom_in, expression_in, with_word, pieces_of}
use Rattle.thr_resolving.specs.Scopes.{IsScope}
use Rattle.thr_resolving.proofs.AgainWords.{IsProper, AreProper, proper_append, is_fixed, fixed_proper, name_word, name_proper, number_word, number_proper}
use Rattle.thr_resolving.proofs.AgainNames.{id_found, variable_again}

-- ---- one word at its place

pub one_stands : (s : Slot) (slots : List Slot) (w : Word) (ws : List Word) → misplaced (s ∷ slots) (w ∷ ws) ≡ None
    → (can_stand s w ≡ true) × (misplaced (slots_behind s w ++ slots) ws ≡ None)
unfolding misplaced
one_stands s slots w ws e =
    elim (chosen (can_stand s w) (misplaced (slots_behind s w ++ slots) ws) (Some 6) None e) [
      | inl t ↦ t
      | inr f ↦ absurd (let e : Some 6 ≡ None = f.1 in cc)
    ]

-- ---- words that no operator is

abbrev not_words : List (List ℕ)
not_words = codes "not" ∷ []

abbrev status_words : List (List ℕ)
status_words = codes "exc_get_status" ∷ []

abbrev match_words : List (List ℕ)
match_words = codes "exc_matches" ∷ []

abbrev pub operator_words : List (List ℕ)
operator_words = codes "not" ∷ codes "exc_get_status" ∷ codes "exc_matches" ∷ binary_words

operators_no_names : list_any is_name operator_words ≡ false
unfolding has_name_form reserved_words is_reserved
operators_no_names = refl

pub name_no_operator : (text : List ℕ) → is_name text ≡ true → is_one_of operator_words (word_of text) ≡ false
name_no_operator text e = rw (name_word text e) (no_name operator_words operators_no_names (Name text) e)

pub stays_raw : (scope : Scope) (w : Word) (ws : List Word) → is_one_of operator_words w ≡ false → pieces_of scope (w ∷ ws) ≡ Raw w ∷ pieces_of scope ws
unfolding pieces_of with_word
stays_raw scope w ws e =
    rw (no_more binary_words operator_words refl w e, no_more not_words operator_words refl w e, no_more status_words operator_words refl w e, no_more match_words operator_words refl w e) refl

-- ---- what is read of an expression's texts

pub record IsResolved (scope : Scope) (texts : List (List ℕ)) (e : Expr) : Type 0 where
  pub piece : Piece
  pub first : (rest : List Word) → pieces_of scope (map word_of texts ++ rest) ≡ piece ∷ pieces_of scope rest
  pub same : expression_in scope (Some piece) ≡ e
  pub proper : AreProper texts

abbrev pub IsRead : Scope → List (List ℕ) → List ℤ → Expr → Type 0
IsRead scope texts numbers e =
    (slots : List Slot) (rest : List Word) → misplaced (slot.Expression ∷ slots) (map word_of texts ++ rest) ≡ None → AreSigned numbers
    → IsResolved scope texts e × (misplaced slots rest ≡ None)

-- ---- atoms

record IsAtom (scope : Scope) (text : List ℕ) (e : Expr) : Type 0 where
  none : is_one_of operator_words (word_of text) ≡ false
  opens : operands_of (word_of text) ≡ []
  same : atom_in scope (word_of text) ≡ e
  proper : IsProper text

none_opens : (w : Word) → is_one_of operator_words w ≡ false → operands_of w ≡ []
none_opens w e =
    rw (no_more binary_words operator_words refl w e, no_more not_words operator_words refl w e, no_more status_words operator_words refl w e, no_more match_words operator_words refl w e) refl

atom_read : (scope : Scope) (text : List ℕ) (numbers : List ℤ) (e : Expr) → (can_stand slot.Expression (word_of text) ≡ true → AreSigned numbers → IsAtom scope text e)
    → IsRead scope (text ∷ []) numbers e
atom_read scope text numbers e is slots rest fault signed =
    let s = one_stands slot.Expression slots (word_of text) rest fault in
    let a = is s.0 signed in (
      record { piece = Raw (word_of text); first = λ r. stays_raw scope (word_of text) r a.none; same = a.same; proper = (a.proper, tt) },
      subst (λ (os : List Slot). misplaced (os ++ slots) rest ≡ None) a.opens s.1,
    )

made_atom : (scope : Scope) (text : List ℕ) (e : Expr) → is_one_of operator_words (word_of text) ≡ false → atom_in scope (word_of text) ≡ e → IsProper text → IsAtom scope text e
made_atom scope text e none same proper = record { none = none; opens = none_opens (word_of text) none; same = same; proper = proper }

number_atom : (scope : Scope) (n : ℤ) → FitsSigned w64 n → IsAtom scope (signed_decimal n) (expr.Num n)
number_atom scope n h = made_atom scope (signed_decimal n) (expr.Num n) (rw (number_word n h) refl) (rw (number_word n h) refl) (number_proper n h)

self_no_name : list_any is_name (codes "self" ∷ []) ≡ false
unfolding has_name_form reserved_words is_reserved
self_no_name = refl

err_no_name : list_any is_name (codes "err" ∷ []) ≡ false
unfolding has_name_form reserved_words is_reserved
err_no_name = refl

named_same : (scope : Scope) (w : Word) (text : List ℕ) (v : Var) → w ≡ Name text → is_name text ≡ true → variable_in scope w ≡ v → atom_in scope w ≡ expr.Var v
named_same scope w text v e name same =
    let self : is_one_of (codes "self" ∷ []) (Name text) ≡ false = no_name (codes "self" ∷ []) self_no_name (Name text) name in
    let err : is_one_of (codes "err" ∷ []) (Name text) ≡ false = no_name (codes "err" ∷ []) err_no_name (Name text) name in
    ap (atom_in scope) e ∙ rw (self, err) (ap expr.Var (sym (ap (variable_in scope) e) ∙ same))

variable_atom : (scope : Scope) (v : Var) → IsScope scope → can_stand slot.Expression (word_of (variable_of scope v)) ≡ true → IsAtom scope (variable_of scope v) (expr.Var v)
variable_atom scope v s can =
    let k = variable_again (can_stand slot.Expression) refl scope v s can in
    let t = variable_of scope v in
    made_atom scope t (expr.Var v) (name_no_operator t k.name) (named_same scope (word_of t) t v (name_word t k.name) k.name k.again) (name_proper t k.name)

me_atom : (scope : Scope) → IsAtom scope (codes "self") expr.Me
unfolding word_of has_number_form has_name_form
me_atom scope = made_atom scope (codes "self") expr.Me refl refl (fixed_proper (codes "self") refl)

err_atom : (scope : Scope) → IsAtom scope (codes "err") expr.Err
unfolding word_of has_number_form has_name_form
err_atom scope = made_atom scope (codes "err") expr.Err refl refl (fixed_proper (codes "err") refl)

-- ---- operators and their operands

pub signed_parts : (ms ns : List ℤ) → AreSigned (ms ++ ns) → AreSigned ms × AreSigned ns
signed_parts [] ns h = (tt, h)
signed_parts (m ∷ ms) ns h = let p = signed_parts ms ns h.1 in ((h.0, p.0), p.1)

opened : (w : Word) (os slots : List Slot) (ws : List Word) → operands_of w ≡ os → misplaced (slot.Expression ∷ slots) (w ∷ ws) ≡ None → misplaced (os ++ slots) ws ≡ None
opened w os slots ws opens e = subst (λ (x : List Slot). misplaced (x ++ slots) ws ≡ None) opens (one_stands slot.Expression slots w ws e).1

record IsOperator (o : Op) : Type 0 where
  binary : is_one_of binary_words (word_of (operator_word o)) ≡ true
  again : operator_in (word_of (operator_word o)) ≡ o
  fixed : is_fixed (operator_word o) ≡ true

an_operator : (o : Op) → IsOperator o
unfolding word_of has_number_form has_name_form magnitude
an_operator op.Add = record { binary = refl; again = refl; fixed = refl }
an_operator op.Sub = record { binary = refl; again = refl; fixed = refl }
an_operator op.Mul = record { binary = refl; again = refl; fixed = refl }
an_operator op.Div = record { binary = refl; again = refl; fixed = refl }
an_operator op.Rem = record { binary = refl; again = refl; fixed = refl }
an_operator op.Equal = record { binary = refl; again = refl; fixed = refl }
an_operator op.Differs = record { binary = refl; again = refl; fixed = refl }
an_operator op.Less = record { binary = refl; again = refl; fixed = refl }
an_operator op.AtMost = record { binary = refl; again = refl; fixed = refl }
an_operator op.Greater = record { binary = refl; again = refl; fixed = refl }
an_operator op.AtLeast = record { binary = refl; again = refl; fixed = refl }
an_operator op.And = record { binary = refl; again = refl; fixed = refl }
an_operator op.Or = record { binary = refl; again = refl; fixed = refl }

takes_two : (scope : Scope) (w : Word) (p q : Piece) (ps : List Piece) → is_one_of binary_words w ≡ true
    → with_word scope w (p ∷ q ∷ ps) ≡ Made (expr.Two (operator_in w) (expression_in scope (Some p)) (expression_in scope (Some q))) ∷ ps
unfolding with_word
takes_two scope w p q ps e = rw e refl

made_same : (o o2 : Op) (a a2 b b2 : Expr) → o ≡ o2 → a ≡ a2 → b ≡ b2 → expr.Two o a b ≡ expr.Two o2 a2 b2
made_same o o2 a a2 b b2 e f g = rw (e, f, g) refl

both_words : (ts us : List (List ℕ)) (rest : List Word) → map word_of (ts ++ us) ++ rest ≡ map word_of ts ++ (map word_of us ++ rest)
both_words ts us rest = ap (λ (x : List Word). x ++ rest) (map-append word_of ts us) ∙ append_assoc (map word_of ts) (map word_of us) rest

two_pieces : (scope : Scope) (w : Word) (ts us : List (List ℕ)) (a b : Expr) → is_one_of binary_words w ≡ true → (l : IsResolved scope ts a) (r : IsResolved scope us b) (rest : List Word)
    → pieces_of scope (w ∷ (map word_of (ts ++ us) ++ rest)) ≡ Made (expr.Two (operator_in w) (expression_in scope (Some l.piece)) (expression_in scope (Some r.piece))) ∷ pieces_of scope rest
unfolding pieces_of
two_pieces scope w ts us a b binary l r rest =
    ap (with_word scope w) (ap (pieces_of scope) (both_words ts us rest) ∙ l.first (map word_of us ++ rest) ∙ ap (λ (x : List Piece). l.piece ∷ x) (r.first rest))
    ∙ takes_two scope w l.piece r.piece (pieces_of scope rest) binary

two_read : (scope : Scope) (o : Op) (ts us : List (List ℕ)) (ms ns : List ℤ) (a b : Expr) → IsRead scope ts ms a → IsRead scope us ns b
    → IsRead scope (operator_word o ∷ (ts ++ us)) (ms ++ ns) (expr.Two o a b)
two_read scope o ts us ms ns a b left right slots rest fault signed =
    let w = word_of (operator_word o) in
    let h = an_operator o in
    let n = signed_parts ms ns signed in
    let f : misplaced (slot.Expression ∷ slot.Expression ∷ slots) (map word_of ts ++ (map word_of us ++ rest)) ≡ None =
    subst (λ (x : List Word). misplaced (slot.Expression ∷ slot.Expression ∷ slots) x ≡ None) (both_words ts us rest)
    (opened w (slot.Expression ∷ slot.Expression ∷ []) slots (map word_of (ts ++ us) ++ rest) (binary_opens w h.binary) fault) in
    let l = left (slot.Expression ∷ slots) (map word_of us ++ rest) f n.0 in
    let r = right slots rest l.1 n.1 in (
      record {
        piece = Made (expr.Two (operator_in w) (expression_in scope (Some l.0.piece)) (expression_in scope (Some r.0.piece)));
        first = two_pieces scope w ts us a b h.binary l.0 r.0;
        same = made_same (operator_in w) o (expression_in scope (Some l.0.piece)) a (expression_in scope (Some r.0.piece)) b h.again l.0.same r.0.same;
        proper = (fixed_proper (operator_word o) h.fixed, proper_append ts us l.0.proper r.0.proper);
      },
      r.1,
    )

takes_one : (scope : Scope) (w : Word) (p : Piece) (ps : List Piece) → is_one_of not_words w ≡ true → with_word scope w (p ∷ ps) ≡ Made (expr.Not (expression_in scope (Some p))) ∷ ps
unfolding with_word
takes_one scope w p ps e = rw (apart not_words binary_words refl w e, e) refl

one_piece : (scope : Scope) (w : Word) (ts : List (List ℕ)) (a : Expr) → is_one_of not_words w ≡ true → (l : IsResolved scope ts a) (rest : List Word)
    → pieces_of scope (w ∷ (map word_of ts ++ rest)) ≡ Made (expr.Not (expression_in scope (Some l.piece))) ∷ pieces_of scope rest
unfolding pieces_of
one_piece scope w ts a is l rest = ap (with_word scope w) (l.first rest) ∙ takes_one scope w l.piece (pieces_of scope rest) is

is_not : is_one_of not_words (word_of (codes "not")) ≡ true
unfolding word_of has_number_form has_name_form
is_not = refl

not_fixed : is_fixed (codes "not") ≡ true
unfolding has_number_form
not_fixed = refl

not_read : (scope : Scope) (ts : List (List ℕ)) (ms : List ℤ) (a : Expr) → IsRead scope ts ms a → IsRead scope (codes "not" ∷ ts) ms (expr.Not a)
not_read scope ts ms a more slots rest fault signed =
    let w = word_of (codes "not") in
    let l = more slots rest (opened w (slot.Expression ∷ []) slots (map word_of ts ++ rest) (not_opens w is_not) fault) signed in (
      record {
        piece = Made (expr.Not (expression_in scope (Some l.0.piece)));
        first = one_piece scope w ts a is_not l.0;
        same = ap expr.Not l.0.same;
        proper = (fixed_proper (codes "not") not_fixed, l.0.proper);
      },
      l.1,
    )

-- ---- exceptions

record IsException (scope : Scope) (x : ExcRef) : Type 0 where
  none : is_one_of operator_words (word_of (exception_of scope x)) ≡ false
  again : exception_in scope (word_of (exception_of scope x)) ≡ x
  proper : IsProper (exception_of scope x)

this_no_name : list_any is_name (codes "this" ∷ []) ≡ false
unfolding has_name_form reserved_words is_reserved
this_no_name = refl

named_exception : (scope : Scope) (w : Word) (text : List ℕ) (id : NameId) → w ≡ Name text → is_name text ≡ true → id_in scope w ≡ id → exception_in scope w ≡ Named id
named_exception scope w text id e name same =
    let other : is_one_of (codes "this" ∷ []) (Name text) ≡ false = no_name (codes "this" ∷ []) this_no_name (Name text) name in
    ap (exception_in scope) e ∙ rw other (ap Named (sym (ap (id_in scope) e) ∙ same))

an_exception : (scope : Scope) (x : ExcRef) → IsScope scope → can_stand slot.Exception (word_of (exception_of scope x)) ≡ true → IsException scope x
unfolding word_of has_number_form has_name_form
an_exception scope This s can = record { none = refl; again = refl; proper = fixed_proper (codes "this") refl }
an_exception scope (Named id) s can =
    let k = id_found (can_stand slot.Exception) refl scope id s can in
    let t = name_of scope id in
    record { none = name_no_operator t k.0; again = named_exception scope (word_of t) t id (name_word t k.0) k.0 k.1; proper = name_proper t k.0 }

exception_stands : (scope : Scope) (x : ExcRef) (slots : List Slot) (ws : List Word) → IsScope scope
    → misplaced (slot.Exception ∷ slots) (word_of (exception_of scope x) ∷ ws) ≡ None → IsException scope x × (misplaced slots ws ≡ None)
exception_stands scope x slots ws s e =
    let p = one_stands slot.Exception slots (word_of (exception_of scope x)) ws e in
    (an_exception scope x s p.0, p.1)

is_status : is_one_of status_words (word_of (codes "exc_get_status")) ≡ true
unfolding word_of has_number_form has_name_form
is_status = refl

asks_status : (scope : Scope) (w x : Word) (ps : List Piece) → is_one_of status_words w ≡ true → with_word scope w (Raw x ∷ ps) ≡ Made (expr.GetStatus (exception_in scope x)) ∷ ps
unfolding with_word
asks_status scope w x ps e = rw (apart status_words binary_words refl w e, apart status_words not_words refl w e, e) refl

status_pieces : (scope : Scope) (w x : Word) (rest : List Word) → is_one_of status_words w ≡ true → is_one_of operator_words x ≡ false
    → pieces_of scope (w ∷ x ∷ rest) ≡ Made (expr.GetStatus (exception_in scope x)) ∷ pieces_of scope rest
unfolding pieces_of
status_pieces scope w x rest is none = ap (with_word scope w) (stays_raw scope x rest none) ∙ asks_status scope w x (pieces_of scope rest) is

status_fixed : is_fixed (codes "exc_get_status") ≡ true
unfolding has_number_form
status_fixed = refl

status_read : (scope : Scope) (x : ExcRef) → IsScope scope → IsRead scope (codes "exc_get_status" ∷ exception_of scope x ∷ []) [] (expr.GetStatus x)
status_read scope x s slots rest fault signed =
    let w = word_of (codes "exc_get_status") in
    let v = word_of (exception_of scope x) in
    let h = exception_stands scope x slots rest s (opened w (slot.Exception ∷ []) slots (v ∷ rest) (status_opens w is_status) fault) in (
      record {
        piece = Made (expr.GetStatus (exception_in scope v));
        first = λ r. status_pieces scope w v r is_status h.0.none;
        same = ap expr.GetStatus h.0.again;
        proper = (fixed_proper (codes "exc_get_status") status_fixed, (h.0.proper, tt));
      },
      h.1,
    )

is_match : is_one_of match_words (word_of (codes "exc_matches")) ≡ true
unfolding word_of has_number_form has_name_form
is_match = refl

asks_match : (scope : Scope) (w x y : Word) (ps : List Piece) → is_one_of match_words w ≡ true
    → with_word scope w (Raw x ∷ Raw y ∷ ps) ≡ Made (expr.Matches (exception_in scope x) (exception_in scope y)) ∷ ps
unfolding with_word
asks_match scope w x y ps e = rw (apart match_words binary_words refl w e, apart match_words not_words refl w e, apart match_words status_words refl w e, e) refl

match_pieces : (scope : Scope) (w x y : Word) (rest : List Word) → is_one_of match_words w ≡ true → is_one_of operator_words x ≡ false → is_one_of operator_words y ≡ false
    → pieces_of scope (w ∷ x ∷ y ∷ rest) ≡ Made (expr.Matches (exception_in scope x) (exception_in scope y)) ∷ pieces_of scope rest
unfolding pieces_of
match_pieces scope w x y rest is none no_more =
    ap (with_word scope w) (stays_raw scope x (y ∷ rest) none ∙ ap (λ (ps : List Piece). Raw x ∷ ps) (stays_raw scope y rest no_more))
    ∙ asks_match scope w x y (pieces_of scope rest) is

matches_same : (x x2 y y2 : ExcRef) → x ≡ x2 → y ≡ y2 → expr.Matches x y ≡ expr.Matches x2 y2
matches_same x x2 y y2 e f = rw (e, f) refl

match_fixed : is_fixed (codes "exc_matches") ≡ true
unfolding has_number_form
match_fixed = refl

match_read : (scope : Scope) (x y : ExcRef) → IsScope scope → IsRead scope (codes "exc_matches" ∷ exception_of scope x ∷ exception_of scope y ∷ []) [] (expr.Matches x y)
match_read scope x y s slots rest fault signed =
    let w = word_of (codes "exc_matches") in
    let v = word_of (exception_of scope x) in
    let u = word_of (exception_of scope y) in
    let h = exception_stands scope x (slot.Exception ∷ slots) (u ∷ rest) s (opened w (slot.Exception ∷ slot.Exception ∷ []) slots (v ∷ u ∷ rest) (match_opens w is_match) fault) in
    let k = exception_stands scope y slots rest s h.1 in (
      record {
        piece = Made (expr.Matches (exception_in scope v) (exception_in scope u));
        first = λ r. match_pieces scope w v u r is_match h.0.none k.0.none;
        same = matches_same (exception_in scope v) x (exception_in scope u) y h.0.again k.0.again;
        proper = (fixed_proper (codes "exc_matches") match_fixed, (h.0.proper, (k.0.proper, tt)));
      },
      k.1,
    )

-- ---- each expression

abbrev IsReadAgain : Scope → Expr → Type 0
IsReadAgain scope e = IsRead scope (expr_words scope e) (expr_numbers e) e

as_spelled : (scope : Scope) (e : Expr) (texts : List (List ℕ)) (numbers : List ℤ) → expr_words scope e ≡ texts → expr_numbers e ≡ numbers → IsRead scope texts numbers e
    → IsReadAgain scope e
as_spelled scope e texts numbers w n h = rw (w, n) h

pub expression_read : (scope : Scope) → IsScope scope → (e : Expr) → IsReadAgain scope e
expression_read scope s = expr_induction (IsReadAgain scope) (record {
  num = λ n. as_spelled scope (expr.Num n) (signed_decimal n ∷ []) (n ∷ []) (each_expr-Num (expr_step scope) n) (each_expr-Num numbers_step n)
      (atom_read scope (signed_decimal n) (n ∷ []) (expr.Num n) (λ can signed. number_atom scope n signed.0));
  var = λ v. as_spelled scope (expr.Var v) (variable_of scope v ∷ []) [] (each_expr-Var (expr_step scope) v) (each_expr-Var numbers_step v)
      (atom_read scope (variable_of scope v) [] (expr.Var v) (λ can signed. variable_atom scope v s can));
  me = as_spelled scope expr.Me (codes "self" ∷ []) [] (each_expr-Me (expr_step scope)) (each_expr-Me numbers_step)
      (atom_read scope (codes "self") [] expr.Me (λ can signed. me_atom scope));
  err = as_spelled scope expr.Err (codes "err" ∷ []) [] (each_expr-Err (expr_step scope)) (each_expr-Err numbers_step)
      (atom_read scope (codes "err") [] expr.Err (λ can signed. err_atom scope));
  two = λ o a b l r. as_spelled scope (expr.Two o a b) (operator_word o ∷ (expr_words scope a ++ expr_words scope b)) (expr_numbers a ++ expr_numbers b) (each_expr-Two (expr_step scope) o a b) (each_expr-Two numbers_step o a b)
      (two_read scope o (expr_words scope a) (expr_words scope b) (expr_numbers a) (expr_numbers b) a b l r);
  negation = λ a l. as_spelled scope (expr.Not a) (codes "not" ∷ expr_words scope a) (expr_numbers a) (each_expr-Not (expr_step scope) a) (each_expr-Not numbers_step a)
      (not_read scope (expr_words scope a) (expr_numbers a) a l);
  get_status = λ x. as_spelled scope (expr.GetStatus x) (codes "exc_get_status" ∷ exception_of scope x ∷ []) [] (each_expr-GetStatus (expr_step scope) x) (each_expr-GetStatus numbers_step x)
      (status_read scope x s);
  matches = λ x y. as_spelled scope (expr.Matches x y) (codes "exc_matches" ∷ exception_of scope x ∷ exception_of scope y ∷ []) [] (each_expr-Matches (expr_step scope) x y) (each_expr-Matches numbers_step x y)
      (match_read scope x y s);
})
