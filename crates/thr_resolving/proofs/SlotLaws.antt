-- What is made of the words in the slots of a line is spelled with just these words.
use Rattle.std.proofs.Common.{◌≡◌, ℕ, ◌≤◌, true, false, List, [], ◌∷◌, ◌++◌, length, map, Option, Some, refl, sym, ap, subst, inl, inr}
use Rattle.std.specs.Map.{keys_of}
use Rattle.std.proofs.lemmas.Bool.{cases_Bool}
use Rattle.thr_syntax.specs.Spelling.{Scope}
use Rattle.thr_syntax.specs.declared.expr.Expr.{Expr}
use Rattle.thr_text.specs.declared.word.Word.{Word}
use Rattle.thr_text.specs.declared.word.Word.TheVariants.{Num, Name, Mark}
use Rattle.thr_text.specs.declared.object.Object as kinds
use Rattle.thr_text.specs.declared.object.Object.TheVariants as object
use Rattle.thr_text.specs.declared.head.Choice.{Choice}
use Rattle.thr_text.specs.declared.head.Choice.TheVariants as choice
use Rattle.thr_text.specs.declared.head.Slot.{Slot}
use Rattle.thr_text.specs.declared.head.Slot.TheVariants.{Number, Fixed, Declared, Parameter, Local, Object, ObjectOr, Variable, Receiver, Exception, Expression}
use Rattle.thr_text.specs.Grammar.{Term, term_words, IsTerm, OneWord, Fills}
use Rattle.thr_text.specs.Lexing.{word_of, IsOfLine, AreOfLine}
use Rattle.thr_text.specs.Numbers.{AreSigned}
use Rattle.thr_text.specs.Slots.{is_one_of, is_a_name, choice_words, absent_word, can_stand, slots_behind}
use Rattle.thr_text.specs.Tables.{placed, Entry}
use Rattle.thr_text.proofs.WordTables.{are_apart, apart}
use Rattle.thr_resolving.specs.Resolving.{Piece, Raw, pieces_of, expression_in, chosen_in, value_in, values_in, scope_of}
use Rattle.thr_resolving.specs.declared.value.Value.{Value}
use Rattle.thr_resolving.proofs.FixedWords.{word_again, is_text, text_again, policy_again, kind_again, interface_again, inherit_again, cancel_again}
use Rattle.thr_resolving.proofs.NameWords.{or_first, variable_again, object_again, declared_again, receiver_again}
use Rattle.thr_resolving.proofs.NumberTables.{value_numbers, numbers_of, signed_append}
use Rattle.thr_resolving.proofs.Parts.{words_at, words_in_slots, IsIn, AreIn}
use Rattle.thr_resolving.proofs.PieceLaws.{operator_words, name_no_operator, raw_first, piece_of, piece_expression, term_first}
use Rattle.thr_resolving.proofs.PlacedWords.{term_placed, placed_one, placed_term, IsGood, AreGood, good_append, of_line_append}
use Rattle.thr_resolving.proofs.TermWords.{append_same, Tells, term_tells}

-- ---- one slot

-- What is made in the slot is spelled with just these words.
pub record TellsAt (scope : Scope) (s : Slot) (v : Value) (ws : List Word) : Type 0 where
  pub words : map word_of (words_at scope s v) ≡ ws
  pub fit : IsIn s v
  pub numbers : AreSigned (value_numbers v)

one_word : (text : List ℕ) (w : Word) → word_of text ≡ w → map word_of (text ∷ []) ≡ w ∷ []
one_word text w e = ap (λ (x : Word). x ∷ []) e

abbrev one_raw : Word → Option Piece
one_raw w = Some (Raw w)

-- The slots that one word fills.
abbrev TakesOne : Slot → Type 0
TakesOne Exception = ⊥
TakesOne Expression = ⊥
TakesOne _ = Unit {0}

choice_tells : (scope : Scope) (c : Choice) (w : Word) → is_one_of (choice_words c) w ≡ true → IsOfLine w → TellsAt scope (Fixed c) (chosen_in c w) (w ∷ [])
choice_tells scope choice.Interface w can h = record { words = one_word _ w (interface_again w can h); fit = tt; numbers = tt }
choice_tells scope choice.Policy w can h = record { words = one_word _ w (policy_again w can h); fit = tt; numbers = tt }
choice_tells scope choice.Inherit w can h = record { words = one_word _ w (inherit_again w can h); fit = tt; numbers = tt }
choice_tells scope choice.Cancel w can h = record { words = one_word _ w (cancel_again w can h); fit = tt; numbers = tt }
choice_tells scope choice.MutexKind w can h = record { words = one_word _ w (kind_again w can h); fit = tt; numbers = tt }

number_tells : (scope : Scope) (w : Word) → can_stand Number w ≡ true → IsOfLine w → TellsAt scope Number (value_in scope Number (one_raw w)) (w ∷ [])
unfolding value_in
number_tells scope (Num n) can h = record { words = one_word _ (Num n) (word_again (Num n) h); fit = tt; numbers = (h, tt) }
number_tells scope (Name t) can h = absurd cc
number_tells scope (Mark t) can h = absurd cc

parameter_tells : (scope : Scope) (w : Word) → is_a_name w ≡ true → IsOfLine w → TellsAt scope Parameter (value_in scope Parameter (one_raw w)) (w ∷ [])
unfolding value_in
parameter_tells scope (Num n) can h = absurd cc
parameter_tells scope (Name t) can h = record { words = one_word t (Name t) (word_again (Name t) h); fit = tt; numbers = tt }
parameter_tells scope (Mark t) can h = absurd cc

local_tells : (scope : Scope) (w : Word) → is_a_name w ≡ true → IsOfLine w → TellsAt scope Local (value_in scope Local (one_raw w)) (w ∷ [])
unfolding value_in
local_tells scope (Num n) can h = absurd cc
local_tells scope (Name t) can h = record { words = one_word t (Name t) (word_again (Name t) h); fit = tt; numbers = tt }
local_tells scope (Mark t) can h = absurd cc

-- ---- no operator stands where one word fills the slot

choice_no_operator : (c : Choice) → are_apart (choice_words c) operator_words ≡ true
choice_no_operator choice.Interface = refl
choice_no_operator choice.Policy = refl
choice_no_operator choice.Inherit = refl
choice_no_operator choice.Cancel = refl
choice_no_operator choice.MutexKind = refl

absent_no_operator : (k : kinds.Object) → are_apart (absent_word k ∷ []) operator_words ≡ true
absent_no_operator object.Routine = refl
absent_no_operator _ = refl

number_no_operator : (w : Word) → can_stand Number w ≡ true → is_one_of operator_words w ≡ false
number_no_operator (Num n) can = refl
number_no_operator (Name t) can = absurd cc
number_no_operator (Mark t) can = absurd cc

no_operator : (s : Slot) (w : Word) → TakesOne s → can_stand s w ≡ true → is_one_of operator_words w ≡ false
no_operator Number w one can = number_no_operator w can
no_operator (Fixed c) w one can = apart (choice_words c) operator_words (choice_no_operator c) w can
no_operator (Declared k) w one can = name_no_operator w can
no_operator Parameter w one can = name_no_operator w can
no_operator Local w one can = name_no_operator w can
no_operator (Object k) w one can = name_no_operator w can
no_operator (ObjectOr k) w one can = elim (cases_Bool (is_text (absent_word k) w)) [
  | inl absent ↦ apart (absent_word k ∷ []) operator_words (absent_no_operator k) w absent
  | inr other ↦ name_no_operator w (or_first (is_a_name w) (is_text (absent_word k) w) can other)
]
no_operator Variable w one can = name_no_operator w can
no_operator Receiver w one can = name_no_operator w can
no_operator Exception w one can = absurd one
no_operator Expression w one can = absurd one

one_behind : (s : Slot) (w : Word) → TakesOne s → slots_behind s w ≡ []
one_behind Expression w one = absurd one
one_behind _ w one = refl

-- ---- all slots

-- What is made of these pieces is spelled with just these words.
pub record TellsFrom (scope : Scope) (slots : List Slot) (ps : List Piece) (ws : List Word) : Type 0 where
  pub words : map word_of (words_in_slots scope slots (values_in scope slots ps)) ≡ ws
  pub fit : AreIn slots (values_in scope slots ps)
  pub numbers : AreSigned (numbers_of (values_in scope slots ps))

tells_next : (scope : Scope) (s : Slot) (slots : List Slot) (p : Piece) (ps : List Piece) (ws rest : List Word)
    → TellsAt scope s (value_in scope s (Some p)) ws → TellsFrom scope slots ps rest → TellsFrom scope (s ∷ slots) (p ∷ ps) (ws ++ rest)
unfolding values_in words_in_slots
tells_next scope s slots p ps ws rest one more = record {
  words = append_same (words_at scope s (value_in scope s (Some p))) (words_in_slots scope slots (values_in scope slots ps)) ws rest one.words more.words;
  fit = (one.fit, more.fit);
  numbers = signed_append (value_numbers (value_in scope s (Some p))) (numbers_of (values_in scope slots ps)) one.numbers more.numbers;
}

expression_tells : (scope : Scope) (p : Piece) (ws : List Word) → Tells scope (expression_in scope (Some p)) ws → TellsAt scope Expression (value_in scope Expression (Some p)) ws
unfolding value_in
expression_tells scope p ws t = record { words = t.words; fit = tt; numbers = t.numbers }

-- A line may end before its receiver.
no_receiver : (scope : Scope) → TellsFrom scope (Receiver ∷ []) (pieces_of scope []) []
unfolding pieces_of values_in value_in words_in_slots
no_receiver scope = record { words = refl; fit = (tt, tt); numbers = tt }

no_slots : (scope : Scope) → TellsFrom scope [] (pieces_of scope []) []
unfolding pieces_of values_in words_in_slots
no_slots scope = record { words = refl; fit = tt; numbers = tt }

-- No slot of a line is that of an exception: only an expression has one.
abbrev pub AreOuter : List Slot → Type 0
AreOuter [] = Unit {0}
AreOuter (Exception ∷ slots) = ⊥
AreOuter (s ∷ slots) = AreOuter slots

-- ---- the words of a line without faults

module _ (entries : List Entry) (locals : List (List ℕ)) (few : length entries ≤ 65536) (few_locals : length locals ≤ 16) where
  -- The names by which the lines are resolved.
  abbrev here : Scope
  here = scope_of (keys_of entries) locals

  object_or_tells : (k : kinds.Object) (w : Word) → can_stand (ObjectOr k) w ≡ true → IsOfLine w → IsGood entries locals (ObjectOr k) w
      → TellsAt here (ObjectOr k) (value_in here (ObjectOr k) (one_raw w)) (w ∷ [])
  unfolding value_in
  object_or_tells k w can h good = elim (cases_Bool (is_text (absent_word k) w)) [
    | inl absent ↦ rw absent record { words = one_word (absent_word k) w (text_again (absent_word k) w absent h); fit = tt; numbers = tt }
    | inr other ↦
        let name : is_a_name w ≡ true = or_first (is_a_name w) (is_text (absent_word k) w) can other in
        rw other record { words = one_word _ w (object_again entries locals few few_locals k (ObjectOr k) w (λ sense. refl) refl name h good); fit = tt; numbers = tt }
  ]

  word_tells : (s : Slot) (w : Word) → TakesOne s → can_stand s w ≡ true → IsOfLine w → IsGood entries locals s w
      → TellsAt here s (value_in here s (one_raw w)) (w ∷ [])
  unfolding value_in
  word_tells Number w one can h good = number_tells here w can h
  word_tells (Fixed c) w one can h good = choice_tells here c w can h
  word_tells (Declared k) w one can h good = record { words = one_word _ w (declared_again entries locals few few_locals k w can h good); fit = tt; numbers = tt }
  word_tells Parameter w one can h good = parameter_tells here w can h
  word_tells Local w one can h good = local_tells here w can h
  word_tells (Object k) w one can h good = record { words = one_word _ w (object_again entries locals few few_locals k (Object k) w (λ sense. refl) refl can h good); fit = tt; numbers = tt }
  word_tells (ObjectOr k) w one can h good = object_or_tells k w can h good
  word_tells Variable w one can h good = record { words = one_word _ w (variable_again entries locals few few_locals Variable w refl can h good); fit = tt; numbers = tt }
  word_tells Receiver w one can h good = record { words = one_word _ w (receiver_again entries locals few few_locals w can h good); fit = tt; numbers = tt }
  word_tells Exception w one can h good = absurd one
  word_tells Expression w one can h good = absurd one

  -- What the words in these slots give, where the place of each is known.
  abbrev pub Told : List Slot → List Word → Type 0
  Told slots ws = AreOfLine ws → AreGood entries locals (placed slots ws) → TellsFrom here slots (pieces_of here ws) ws

  one_told : (s : Slot) (slots : List Slot) (w : Word) (rest : List Word) → TakesOne s → can_stand s w ≡ true → Told slots rest → Told (s ∷ slots) (w ∷ rest)
  one_told s slots w rest one can more h good =
      let goods : AreGood entries locals ((s, w) ∷ placed slots rest) = subst (AreGood entries locals) (placed_one s w slots rest (one_behind s w one)) good in
      subst (λ (ps : List Piece). TellsFrom here (s ∷ slots) ps (w ∷ rest))
      (sym (raw_first here w rest (no_operator s w one can)))
      (tells_next here s slots (Raw w) (pieces_of here rest) (w ∷ []) rest (word_tells s w one can h.0 goods.0) (more h.1 goods.1))

  word_told : (s : Slot) (slots : List Slot) (ws : List Word) → TakesOne s → ((rest : List Word) → Fills slots rest → Told slots rest) → OneWord s ws (Fills slots) → Told (s ∷ slots) ws
  word_told s slots ws one more o = subst (Told (s ∷ slots)) (sym o.3) (one_told s slots o.0 o.1 one o.2 (more o.1 o.4))

  term_told : (t : Term) → IsTerm t → (slots : List Slot) (rest : List Word) → Told slots rest → Told (Expression ∷ slots) (term_words t ++ rest)
  term_told t is slots rest more h good =
      let hs = of_line_append (term_words t) rest h in
      let goods = good_append entries locals (term_placed t) (placed slots rest) (subst (AreGood entries locals) (placed_term t is slots rest) good) in
      let own : Tells here (expression_in here (Some (piece_of here t))) (term_words t) =
      subst (λ (e : Expr). Tells here e (term_words t)) (sym (piece_expression here t)) (term_tells entries locals few few_locals t is hs.0 goods.0) in
      subst (λ (ps : List Piece). TellsFrom here (Expression ∷ slots) ps (term_words t ++ rest))
      (sym (term_first here t is rest))
      (tells_next here Expression slots (piece_of here t) (pieces_of here rest) (term_words t) rest
      (expression_tells here (piece_of here t) (term_words t) own) (more hs.1 goods.1))

  pub slots_told : (slots : List Slot) → AreOuter slots → (ws : List Word) → Fills slots ws → Told slots ws
  slots_told [] outer ws f = subst (Told []) (sym f) (λ h good. no_slots here)
  slots_told (Exception ∷ slots) outer ws f = absurd outer
  slots_told (Expression ∷ slots) outer ws f = subst (Told (Expression ∷ slots)) (sym f.3) (term_told f.0 f.2 slots f.1 (slots_told slots outer f.1 f.4))
  slots_told (Receiver ∷ slots) outer ws f = elim f [
    | inl e ↦ subst (λ (xs : List Slot). Told (Receiver ∷ xs) ws) (sym e.1) (subst (Told (Receiver ∷ [])) (sym e.0) (λ h good. no_receiver here))
    | inr o ↦ word_told Receiver slots ws tt (slots_told slots outer) o
  ]
  slots_told (Number ∷ slots) outer ws f = word_told Number slots ws tt (slots_told slots outer) f
  slots_told (Fixed c ∷ slots) outer ws f = word_told (Fixed c) slots ws tt (slots_told slots outer) f
  slots_told (Declared k ∷ slots) outer ws f = word_told (Declared k) slots ws tt (slots_told slots outer) f
  slots_told (Parameter ∷ slots) outer ws f = word_told Parameter slots ws tt (slots_told slots outer) f
  slots_told (Local ∷ slots) outer ws f = word_told Local slots ws tt (slots_told slots outer) f
  slots_told (Object k ∷ slots) outer ws f = word_told (Object k) slots ws tt (slots_told slots outer) f
  slots_told (ObjectOr k ∷ slots) outer ws f = word_told (ObjectOr k) slots ws tt (slots_told slots outer) f
  slots_told (Variable ∷ slots) outer ws f = word_told Variable slots ws tt (slots_told slots outer) f
