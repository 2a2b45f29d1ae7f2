-- An expression that is made of the words of a line is spelled with just these words.
use Rattle.std.proofs.Common.{◌≡◌, ℕ, ℤ, ◌≤◌, true, false, List, [], ◌∷◌, ◌++◌, length, map, refl, sym, ap, ◌∙◌, inl, inr}
use Rattle.std.specs.Prelude.{◌||◌, codes}
use Rattle.std.specs.Map.{keys_of}
use Rattle.std.proofs.lemmas.Bool.{cases_Bool}
use Rattle.std.proofs.lemmas.List.{map-append}
use Rattle.thr_syntax.specs.Spelling.{Scope, exception_of, operator_word, expr_step, expr_words}
use Rattle.thr_syntax.specs.declared.expr.ExcRef.{ExcRef}
use Rattle.thr_syntax.specs.declared.expr.Op.{Op}
use Rattle.thr_syntax.specs.declared.expr.Expr.{Expr}
use Rattle.thr_syntax.specs.declared.expr.Expr.TheVariants as expr
use Rattle.thr_syntax.specs.Folds.{each_expr}
use Rattle.thr_syntax.proofs.FoldLaws.{each_expr-Two, each_expr-Not}
use Rattle.thr_text.specs.declared.word.Word.{Word}
use Rattle.thr_text.specs.declared.word.Word.TheVariants.{Num, Name, Mark}
use Rattle.thr_text.specs.declared.head.Slot.TheVariants.{Expression}
use Rattle.thr_text.specs.Slots.{is_a_name, is_one_of}
use Rattle.thr_text.specs.Grammar.{Term, Atom, Negation, Operation, Status, Match, term_words, is_atom, IsTerm}
use Rattle.thr_text.specs.Lexing.{word_of, IsOfLine, AreOfLine}
use Rattle.thr_text.specs.Numbers.{numbers_step, expr_numbers, AreSigned}
use Rattle.thr_text.specs.Tables.{Entry}
use Rattle.thr_resolving.specs.Resolving.{exception_in, operator_in, named_atom, atom_in, scope_of}
use Rattle.thr_resolving.proofs.FixedWords.{word_again, is_text, text_again, other_text, operator_again}
use Rattle.thr_resolving.proofs.NameWords.{or_first, variable_again, exception_again}
use Rattle.thr_resolving.proofs.NumberTables.{signed_append}
use Rattle.thr_resolving.proofs.PieceLaws.{term_expr}
use Rattle.thr_resolving.proofs.PlacedWords.{term_placed, IsGood, AreGood, good_append, of_line_append}

-- ---- lists of words

pub cons_same : {A : Type 0} (x y : A) (xs ys : List A) → x ≡ y → xs ≡ ys → x ∷ xs ≡ y ∷ ys
cons_same x y xs ys e f = rw (e, f) refl

pub append_same : (ts us : List (List ℕ)) (ws vs : List Word) → map word_of ts ≡ ws → map word_of us ≡ vs → map word_of (ts ++ us) ≡ ws ++ vs
append_same ts us ws vs e f = map-append word_of ts us ∙ rw (e, f) refl

-- ---- expressions

-- The expression is spelled with just these words, and its numbers have 64 bits.
pub record Tells (scope : Scope) (e : Expr) (ws : List Word) : Type 0 where
  pub words : map word_of (expr_words scope e) ≡ ws
  pub numbers : AreSigned (expr_numbers e)

tells_not : (scope : Scope) (w : Word) (e : Expr) (ws : List Word) → word_of (codes "not") ≡ w → Tells scope e ws → Tells scope (expr.Not e) (w ∷ ws)
tells_not scope w e ws is t = record {
  words = ap (map word_of) (each_expr-Not (expr_step scope) e) ∙ cons_same (word_of (codes "not")) w (map word_of (expr_words scope e)) ws is t.words;
  numbers = rw (each_expr-Not numbers_step e) t.numbers;
}

tells_two : (scope : Scope) (o : Op) (w : Word) (a b : Expr) (ws vs : List Word) → word_of (operator_word o) ≡ w → Tells scope a ws → Tells scope b vs → Tells scope (expr.Two o a b) (w ∷ (ws ++ vs))
tells_two scope o w a b ws vs is t u = record {
  words =
      ap (map word_of) (each_expr-Two (expr_step scope) o a b)
      ∙ cons_same (word_of (operator_word o)) w (map word_of (expr_words scope a ++ expr_words scope b)) (ws ++ vs) is (append_same (expr_words scope a) (expr_words scope b) ws vs t.words u.words);
  numbers = rw (each_expr-Two numbers_step o a b) (signed_append (expr_numbers a) (expr_numbers b) t.numbers u.numbers);
}

tells_status : (scope : Scope) (x : ExcRef) (w v : Word) → word_of (codes "exc_get_status") ≡ w → word_of (exception_of scope x) ≡ v → Tells scope (expr.GetStatus x) (w ∷ v ∷ [])
unfolding each_expr
tells_status scope x w v is e = record { words = rw (is, e) refl; numbers = tt }

tells_match : (scope : Scope) (x y : ExcRef) (w v u : Word) → word_of (codes "exc_matches") ≡ w → word_of (exception_of scope x) ≡ v → word_of (exception_of scope y) ≡ u → Tells scope (expr.Matches x y) (w ∷ v ∷ u ∷ [])
unfolding each_expr
tells_match scope x y w v u is e f = record { words = rw (is, e, f) refl; numbers = tt }

tells_number : (scope : Scope) (n : ℤ) → IsOfLine (Num n) → Tells scope (expr.Num n) (Num n ∷ [])
unfolding each_expr
tells_number scope n h = record { words = ap (λ (w : Word). w ∷ []) (word_again (Num n) h); numbers = (h, tt) }

neither : (w : Word) → is_text (codes "self") w ≡ false → is_text (codes "err") w ≡ false → is_one_of (codes "self" ∷ codes "err" ∷ []) w ≡ false
neither w other name = elim (cases_Bool (is_one_of (codes "self" ∷ codes "err" ∷ []) w)) [
  | inl one ↦ absurd (let s : true ≡ false = sym (other_text (codes "self") (codes "err" ∷ []) w one other) ∙ name in cc)
  | inr none ↦ none
]

module _ (entries : List Entry) (locals : List (List ℕ)) (few : length entries ≤ 65536) (few_locals : length locals ≤ 16) where
  -- The names by which the lines are resolved.
  abbrev here : Scope
  here = scope_of (keys_of entries) locals

  -- A word that can stand there and is no number.
  named_tells : (w : Word) → (is_a_name w || is_one_of (codes "self" ∷ codes "err" ∷ []) w) ≡ true → IsOfLine w → IsGood entries locals Expression w → Tells here (named_atom here w) (w ∷ [])
  unfolding each_expr
  named_tells w can h good = elim (cases_Bool (is_text (codes "self") w)) [
    | inl self ↦ rw self record { words = ap (λ (x : Word). x ∷ []) (text_again (codes "self") w self h); numbers = tt }
    | inr other ↦ elim (cases_Bool (is_text (codes "err") w)) [
      | inl err ↦ rw (other, err) record { words = ap (λ (x : Word). x ∷ []) (text_again (codes "err") w err h); numbers = tt }
      | inr name ↦
          let is : is_a_name w ≡ true = or_first (is_a_name w) (is_one_of (codes "self" ∷ codes "err" ∷ []) w) can (neither w other name) in
          rw (other, name) record { words = ap (λ (x : Word). x ∷ []) (variable_again entries locals few few_locals Expression w refl is h good); numbers = tt }
    ]
  ]

  atom_tells : (w : Word) → is_atom w ≡ true → IsOfLine w → IsGood entries locals Expression w → Tells here (atom_in here w) (w ∷ [])
  atom_tells (Num n) is h good = tells_number here n h
  atom_tells (Name text) is h good = named_tells (Name text) is h good
  atom_tells (Mark text) is h good = named_tells (Mark text) is h good

  pub term_tells : (t : Term) → IsTerm t → AreOfLine (term_words t) → AreGood entries locals (term_placed t) → Tells here (term_expr here t) (term_words t)
  term_tells (Atom w) is h good = atom_tells w is h.0 good.0
  term_tells (Negation w t) is h good =
      tells_not here w (term_expr here t) (term_words t) (text_again (codes "not") w is.0 h.0) (term_tells t is.1 h.1 good.1)
  term_tells (Operation w t u) is h good =
      let hs = of_line_append (term_words t) (term_words u) h.1 in
      let goods = good_append entries locals (term_placed t) (term_placed u) good.1 in
      tells_two here (operator_in w) w (term_expr here t) (term_expr here u) (term_words t) (term_words u)
      (operator_again w is.0 h.0) (term_tells t is.1 hs.0 goods.0) (term_tells u is.2 hs.1 goods.1)
  term_tells (Status w x) is h good =
      tells_status here (exception_in here x) w x (text_again (codes "exc_get_status") w is.0 h.0)
      (exception_again entries locals few few_locals x is.1 h.1.0 good.1.0)
  term_tells (Match w x y) is h good =
      tells_match here (exception_in here x) (exception_in here y) w x y (text_again (codes "exc_matches") w is.0 h.0)
      (exception_again entries locals few few_locals x is.1 h.1.0 good.1.0)
      (exception_again entries locals few few_locals y is.2 h.1.1.0 good.1.1.0)
