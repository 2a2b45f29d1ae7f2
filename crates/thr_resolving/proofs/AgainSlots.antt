-- The words of the values in the slots of a line are resolved to these values.
use Rattle.std.proofs.Common.{◌≡◌, ℕ, ℤ, Bool, true, false, List, [], ◌∷◌, ◌++◌, map, refl, sym, ap, subst, ◌∙◌, inl, inr, Some, None}
use Rattle.std.specs.Prelude.{◌⊎◌, ◌&&◌, ◌||◌, not, codes}
use Rattle.std.specs.Fmt.{signed_decimal}
use Rattle.std.specs.List.{list_any}
use Rattle.std.proofs.lemmas.Bool.{cases_Bool}
use Rattle.std.proofs.lemmas.List.{map-append}
use Rattle.thr_values.specs.declared.number.NameId.{NameId}
use Rattle.thr_values.specs.declared.reply.Kind.{Kind}
use Rattle.thr_values.specs.declared.reply.Kind.TheVariants.{Fast, Recursive, Nonrecursive}
use Rattle.thr_values.specs.declared.scheduling.Policy.{Policy}
use Rattle.thr_values.specs.declared.scheduling.Policy.TheVariants.{Fifo, Rr, Fg, Bg}
use Rattle.thr_values.specs.Words.{policy_word, kind_word, inherit_word, cancel_word}
use Rattle.thr_syntax.specs.declared.expr.Var.{Var}
use Rattle.thr_syntax.specs.declared.tree.Interface.{Interface}
use Rattle.thr_syntax.specs.declared.tree.Interface.TheVariants as interface
use Rattle.thr_syntax.specs.Spelling.{Scope, name_of, local_of, variable_of, interface_word}
use Rattle.thr_text.specs.declared.word.Word.{Word}
use Rattle.thr_text.specs.declared.word.Word.TheVariants.{Name, Mark}
use Rattle.thr_text.specs.declared.object.Object as kinds
use Rattle.thr_text.specs.declared.object.Object.TheVariants as object
use Rattle.thr_text.specs.declared.head.Choice.TheVariants as choice
use Rattle.thr_text.specs.declared.head.Slot.{Slot}
use Rattle.thr_text.specs.declared.head.Slot.TheVariants as slot
use Rattle.thr_text.specs.Names.{has_name_form, reserved_words, is_reserved, is_name}
use Rattle.thr_text.specs.Lexing.{has_number_form, word_of}
use Rattle.thr_text.specs.Slots.{is_one_of, is_a_name, absent_word, can_stand, slots_behind, misplaced}
use Rattle.thr_text.specs.Numbers.{AreSigned, expr_numbers}
use Rattle.thr_text.proofs.WordTables.{no_name}
use Rattle.thr_lexer.proofs.Canon.{and_both}
use Rattle.thr_resolving.specs.declared.value.Value.{Value}
use Rattle.thr_resolving.specs.declared.value.Value.TheVariants as value
use Rattle.thr_resolving.specs.Resolving.{Piece, Raw, id_in, number_in, own_in, pieces_of, value_in, values_in}
use Rattle.thr_resolving.specs.Scopes.{IsScope}
use Rattle.thr_resolving.proofs.Parts.{words_at, words_in_slots, IsIn, AreIn}
use Rattle.thr_resolving.proofs.AgainWords.{IsProper, AreProper, proper_append, fixed_proper, name_word, name_proper, number_word, number_proper}
use Rattle.thr_resolving.proofs.AgainNames.{id_found, place_found, variable_again}
use Rattle.thr_resolving.proofs.AgainPieces.{one_stands, operator_words, name_no_operator, stays_raw, signed_parts, expression_read}

-- ---- what is read of a value's texts in its slot

pub record IsPlaced (scope : Scope) (s : Slot) (v : Value) (texts : List (List ℕ)) : Type 0 where
  pub piece : Piece
  pub first : (rest : List Word) → pieces_of scope (map word_of texts ++ rest) ≡ piece ∷ pieces_of scope rest
  pub same : value_in scope s (Some piece) ≡ v
  pub proper : AreProper texts

-- The value has a piece of its own, or it is that of an empty receiver.
abbrev IsReadIn : Scope → Slot → Value → List Slot → List Word → Type 0
IsReadIn scope s v slots rest = (IsPlaced scope s v (words_at scope s v) × (misplaced slots rest ≡ None)) ⊎ ((s ≡ slot.Receiver) × (v ≡ value.Receiver None))

-- ---- slots of one word

record IsAlone (scope : Scope) (s : Slot) (v : Value) (text : List ℕ) : Type 0 where
  none : is_one_of operator_words (word_of text) ≡ false
  same : value_in scope s (Some (Raw (word_of text))) ≡ v
  proper : IsProper text

alone : (scope : Scope) (s : Slot) (v : Value) (text : List ℕ) (slots : List Slot) (rest : List Word) → slots_behind s (word_of text) ≡ []
    → (can_stand s (word_of text) ≡ true → IsAlone scope s v text)
    → misplaced (s ∷ slots) (word_of text ∷ rest) ≡ None → IsPlaced scope s v (text ∷ []) × (misplaced slots rest ≡ None)
alone scope s v text slots rest behind is fault =
    let p = one_stands s slots (word_of text) rest fault in
    let a = is p.0 in (
      record { piece = Raw (word_of text); first = λ r. stays_raw scope (word_of text) r a.none; same = a.same; proper = (a.proper, tt) },
      subst (λ (x : List Slot). misplaced (x ++ slots) rest ≡ None) behind p.1,
    )

a_number : (scope : Scope) (n : ℤ) → AreSigned (n ∷ []) → IsAlone scope slot.Number (value.Number n) (signed_decimal n)
unfolding value_in
a_number scope n h = record { none = rw (number_word n h.0) refl; same = ap (λ (w : Word). value.Number (number_in w)) (number_word n h.0); proper = number_proper n h.0 }

an_interface : (scope : Scope) (i : Interface) → IsAlone scope (slot.Fixed choice.Interface) (value.Interface i) (interface_word i)
unfolding value_in word_of has_number_form has_name_form
an_interface scope interface.Exc = record { none = refl; same = refl; proper = fixed_proper (codes "exc") refl }
an_interface scope interface.Status = record { none = refl; same = refl; proper = fixed_proper (codes "status") refl }

a_policy : (scope : Scope) (p : Policy) → IsAlone scope (slot.Fixed choice.Policy) (value.Policy p) (policy_word p)
unfolding value_in word_of has_number_form has_name_form
a_policy scope Fifo = record { none = refl; same = refl; proper = fixed_proper (policy_word Fifo) refl }
a_policy scope Rr = record { none = refl; same = refl; proper = fixed_proper (policy_word Rr) refl }
a_policy scope Fg = record { none = refl; same = refl; proper = fixed_proper (policy_word Fg) refl }
a_policy scope Bg = record { none = refl; same = refl; proper = fixed_proper (policy_word Bg) refl }

an_inherit : (scope : Scope) (b : Bool) → IsAlone scope (slot.Fixed choice.Inherit) (value.Inherit b) (inherit_word b)
unfolding value_in word_of has_number_form has_name_form
an_inherit scope true = record { none = refl; same = refl; proper = fixed_proper (inherit_word true) refl }
an_inherit scope false = record { none = refl; same = refl; proper = fixed_proper (inherit_word false) refl }

a_cancel : (scope : Scope) (b : Bool) → IsAlone scope (slot.Fixed choice.Cancel) (value.Cancel b) (cancel_word b)
unfolding value_in word_of has_number_form has_name_form
a_cancel scope true = record { none = refl; same = refl; proper = fixed_proper (cancel_word true) refl }
a_cancel scope false = record { none = refl; same = refl; proper = fixed_proper (cancel_word false) refl }

a_kind : (scope : Scope) (k : Kind) → IsAlone scope (slot.Fixed choice.MutexKind) (value.Kind k) (kind_word k)
unfolding value_in word_of has_number_form has_name_form
a_kind scope Fast = record { none = refl; same = refl; proper = fixed_proper (kind_word Fast) refl }
a_kind scope Recursive = record { none = refl; same = refl; proper = fixed_proper (kind_word Recursive) refl }
a_kind scope Nonrecursive = record { none = refl; same = refl; proper = fixed_proper (kind_word Nonrecursive) refl }

-- ---- names in their slots

named : (scope : Scope) (s : Slot) (v : Value) (text : List ℕ) → is_name text ≡ true → value_in scope s (Some (Raw (word_of text))) ≡ v → IsAlone scope s v text
named scope s v text name same = record { none = name_no_operator text name; same = same; proper = name_proper text name }

declared : (scope : Scope) (k : kinds.Object) (id : NameId) → IsScope scope → can_stand (slot.Declared k) (word_of (name_of scope id)) ≡ true
    → IsAlone scope (slot.Declared k) (value.Id id) (name_of scope id)
unfolding value_in
declared scope k id s can = let f = id_found is_a_name refl scope id s can in named scope (slot.Declared k) (value.Id id) (name_of scope id) f.0 (ap value.Id f.1)

an_object : (scope : Scope) (k : kinds.Object) (id : NameId) → IsScope scope → can_stand (slot.Object k) (word_of (name_of scope id)) ≡ true
    → IsAlone scope (slot.Object k) (value.Id id) (name_of scope id)
unfolding value_in
an_object scope k id s can = let f = id_found is_a_name refl scope id s can in named scope (slot.Object k) (value.Id id) (name_of scope id) f.0 (ap value.Id f.1)

a_variable : (scope : Scope) (v : Var) → IsScope scope → can_stand slot.Variable (word_of (variable_of scope v)) ≡ true → IsAlone scope slot.Variable (value.Variable v) (variable_of scope v)
unfolding value_in
a_variable scope v s can = let k = variable_again is_a_name refl scope v s can in named scope slot.Variable (value.Variable v) (variable_of scope v) k.name (ap value.Variable k.again)

a_receiver : (scope : Scope) (place : ℕ) → IsScope scope → can_stand slot.Receiver (word_of (local_of scope place)) ≡ true
    → IsAlone scope slot.Receiver (value.Receiver (Some place)) (local_of scope place)
unfolding value_in
a_receiver scope place s can =
    let f = place_found is_a_name refl scope place s can in
    named scope slot.Receiver (value.Receiver (Some place)) (local_of scope place) f.0 (ap (λ (p : ℕ). value.Receiver (Some p)) f.1)

own_name : (text : List ℕ) → is_a_name (word_of text) ≡ true → is_name text ≡ true
unfolding word_of
own_name text e = elim (cases_Bool (has_number_form text)) [
  | inl number ↦ absurd (let f : false ≡ true = rw number at e in cc)
  | inr other ↦ elim (cases_Bool (has_name_form text)) [
    | inl name ↦ rw (other, name) at e
    | inr mark ↦ absurd (let f : false ≡ true = rw (other, mark) at e in cc)
  ]
]

a_parameter : (scope : Scope) (text : List ℕ) → can_stand slot.Parameter (word_of text) ≡ true → IsAlone scope slot.Parameter (value.Own (Some text)) text
unfolding value_in
a_parameter scope text can = let n = own_name text can in named scope slot.Parameter (value.Own (Some text)) text n (ap (λ (w : Word). value.Own (own_in w)) (name_word text n))

a_local : (scope : Scope) (text : List ℕ) → can_stand slot.Local (word_of text) ≡ true → IsAlone scope slot.Local (value.Own (Some text)) text
unfolding value_in
a_local scope text can = let n = own_name text can in named scope slot.Local (value.Own (Some text)) text n (ap (λ (w : Word). value.Own (own_in w)) (name_word text n))

-- ---- a name, or the word that says that there is none

absent : (scope : Scope) (k : kinds.Object) → IsAlone scope (slot.ObjectOr k) (value.Maybe None) (absent_word k)
unfolding value_in word_of has_number_form has_name_form
absent scope object.Routine = record { none = refl; same = refl; proper = fixed_proper (codes "none") refl }
absent scope _ = record { none = refl; same = refl; proper = fixed_proper (codes "default") refl }

absent_no_name : (k : kinds.Object) → list_any is_name (absent_word k ∷ []) ≡ false
unfolding has_name_form reserved_words is_reserved
absent_no_name object.Routine = refl
absent_no_name _ = refl

nothing_stands_not : (k : kinds.Object) → can_stand (slot.ObjectOr k) (Mark []) ≡ false
nothing_stands_not object.Routine = refl
nothing_stands_not _ = refl

maybe_same : (scope : Scope) (k : kinds.Object) (w : Word) (id : NameId) → is_one_of (absent_word k ∷ []) w ≡ false → id_in scope w ≡ id
    → value_in scope (slot.ObjectOr k) (Some (Raw w)) ≡ value.Maybe (Some id)
unfolding value_in
maybe_same scope k w id other same = rw other (ap (λ (x : NameId). value.Maybe (Some x)) same)

present : (scope : Scope) (k : kinds.Object) (id : NameId) → IsScope scope → can_stand (slot.ObjectOr k) (word_of (name_of scope id)) ≡ true
    → IsAlone scope (slot.ObjectOr k) (value.Maybe (Some id)) (name_of scope id)
present scope k id s can =
    let f = id_found (can_stand (slot.ObjectOr k)) (nothing_stands_not k) scope id s can in
    let t = name_of scope id in
    let other : is_one_of (absent_word k ∷ []) (word_of t) ≡ false = subst (λ (w : Word). is_one_of (absent_word k ∷ []) w ≡ false) (sym (name_word t f.0)) (no_name (absent_word k ∷ []) (absent_no_name k) (Name t) f.0) in
    named scope (slot.ObjectOr k) (value.Maybe (Some id)) t f.0 (maybe_same scope k (word_of t) id other f.1)

-- ---- each slot

abbrev pub value_numbers : Value → List ℤ
value_numbers (value.Number n) = n ∷ []
value_numbers (value.Expression e) = expr_numbers e
value_numbers _ = []

slot_read : (scope : Scope) → IsScope scope → (s : Slot) (v : Value) (slots : List Slot) (rest : List Word) → IsIn s v → AreSigned (value_numbers v)
    → misplaced (s ∷ slots) (map word_of (words_at scope s v) ++ rest) ≡ None → IsReadIn scope s v slots rest
unfolding value_in
slot_read scope sc slot.Number (value.Number n) slots rest is signed fault = inl (alone scope slot.Number (value.Number n) (signed_decimal n) slots rest refl (λ can. a_number scope n signed) fault)
slot_read scope sc (slot.Fixed choice.Interface) (value.Interface i) slots rest is signed fault = inl (alone scope (slot.Fixed choice.Interface) (value.Interface i) (interface_word i) slots rest refl (λ can. an_interface scope i) fault)
slot_read scope sc (slot.Fixed choice.Policy) (value.Policy p) slots rest is signed fault = inl (alone scope (slot.Fixed choice.Policy) (value.Policy p) (policy_word p) slots rest refl (λ can. a_policy scope p) fault)
slot_read scope sc (slot.Fixed choice.Inherit) (value.Inherit b) slots rest is signed fault = inl (alone scope (slot.Fixed choice.Inherit) (value.Inherit b) (inherit_word b) slots rest refl (λ can. an_inherit scope b) fault)
slot_read scope sc (slot.Fixed choice.Cancel) (value.Cancel b) slots rest is signed fault = inl (alone scope (slot.Fixed choice.Cancel) (value.Cancel b) (cancel_word b) slots rest refl (λ can. a_cancel scope b) fault)
slot_read scope sc (slot.Fixed choice.MutexKind) (value.Kind k) slots rest is signed fault = inl (alone scope (slot.Fixed choice.MutexKind) (value.Kind k) (kind_word k) slots rest refl (λ can. a_kind scope k) fault)
slot_read scope sc (slot.Declared k) (value.Id id) slots rest is signed fault = inl (alone scope (slot.Declared k) (value.Id id) (name_of scope id) slots rest refl (declared scope k id sc) fault)
slot_read scope sc slot.Parameter (value.Own (Some text)) slots rest is signed fault = inl (alone scope slot.Parameter (value.Own (Some text)) text slots rest refl (a_parameter scope text) fault)
slot_read scope sc slot.Local (value.Own (Some text)) slots rest is signed fault = inl (alone scope slot.Local (value.Own (Some text)) text slots rest refl (a_local scope text) fault)
slot_read scope sc (slot.Object k) (value.Id id) slots rest is signed fault = inl (alone scope (slot.Object k) (value.Id id) (name_of scope id) slots rest refl (an_object scope k id sc) fault)
slot_read scope sc (slot.ObjectOr k) (value.Maybe None) slots rest is signed fault = inl (alone scope (slot.ObjectOr k) (value.Maybe None) (absent_word k) slots rest refl (λ can. absent scope k) fault)
slot_read scope sc (slot.ObjectOr k) (value.Maybe (Some id)) slots rest is signed fault = inl (alone scope (slot.ObjectOr k) (value.Maybe (Some id)) (name_of scope id) slots rest refl (present scope k id sc) fault)
slot_read scope sc slot.Variable (value.Variable v) slots rest is signed fault = inl (alone scope slot.Variable (value.Variable v) (variable_of scope v) slots rest refl (a_variable scope v sc) fault)
slot_read scope sc slot.Receiver (value.Receiver None) slots rest is signed fault = inr (refl, refl)
slot_read scope sc slot.Receiver (value.Receiver (Some place)) slots rest is signed fault = inl (alone scope slot.Receiver (value.Receiver (Some place)) (local_of scope place) slots rest refl (a_receiver scope place sc) fault)
slot_read scope sc slot.Expression (value.Expression e) slots rest is signed fault =
    let r = expression_read scope sc e slots rest fault signed in
    inl (record { piece = r.0.piece; first = r.0.first; same = ap value.Expression r.0.same; proper = r.0.proper }, r.1)
slot_read scope sc _ _ slots rest is signed fault = absurd is

-- ---- the slots of a line

-- A slot that may stay empty stands last.
abbrev is_receiver : Slot → Bool
is_receiver slot.Receiver = true
is_receiver _ = false

abbrev is_end : List Slot → Bool
is_end [] = true
is_end (s ∷ slots) = false

abbrev pub receiver_last : List Slot → Bool
receiver_last [] = true
receiver_last (s ∷ slots) = (not (is_receiver s) || is_end slots) && receiver_last slots

abbrev pub values_numbers : List Value → List ℤ
values_numbers [] = []
values_numbers (v ∷ vs) = value_numbers v ++ values_numbers vs

abbrev pub AreReadIn : Scope → List Slot → List Value → Type 0
AreReadIn scope slots vs = (values_in scope slots (pieces_of scope (map word_of (words_in_slots scope slots vs))) ≡ vs) × AreProper (words_in_slots scope slots vs)

same_parts : (v w : Value) (vs ws : List Value) → v ≡ w → vs ≡ ws → v ∷ vs ≡ w ∷ ws
same_parts v w vs ws e f = rw (e, f) refl

parts_read : (scope : Scope) (s : Slot) (v : Value) (slots : List Slot) (vs : List Value) (p : Piece) (words : List Word)
    → pieces_of scope words ≡ p ∷ pieces_of scope (map word_of (words_in_slots scope slots vs)) → value_in scope s (Some p) ≡ v
    → values_in scope slots (pieces_of scope (map word_of (words_in_slots scope slots vs))) ≡ vs → values_in scope (s ∷ slots) (pieces_of scope words) ≡ v ∷ vs
unfolding values_in
parts_read scope s v slots vs p words e first more = rw e (same_parts (value_in scope s (Some p)) v (values_in scope slots (pieces_of scope (map word_of (words_in_slots scope slots vs)))) vs first more)

slot_then : (scope : Scope) (s : Slot) (v : Value) (slots : List Slot) (vs : List Value) → IsPlaced scope s v (words_at scope s v) → AreReadIn scope slots vs
    → AreReadIn scope (s ∷ slots) (v ∷ vs)
unfolding words_in_slots
slot_then scope s v slots vs p more = (
  parts_read scope s v slots vs p.piece (map word_of (words_at scope s v ++ words_in_slots scope slots vs))
      (ap (pieces_of scope) (map-append word_of (words_at scope s v) (words_in_slots scope slots vs)) ∙ p.first (map word_of (words_in_slots scope slots vs)))
      p.same
      more.0,
  proper_append (words_at scope s v) (words_in_slots scope slots vs) p.proper more.1,
)

empty_last : (scope : Scope) → AreReadIn scope (slot.Receiver ∷ []) (value.Receiver None ∷ [])
unfolding words_in_slots values_in value_in pieces_of
empty_last scope = (refl, tt)

no_more_slots : (slots : List Slot) → receiver_last (slot.Receiver ∷ slots) ≡ true → slots ≡ []
no_more_slots [] e = refl
no_more_slots (s ∷ slots) e = absurd cc

no_more_values : (vs : List Value) → AreIn [] vs → vs ≡ []
no_more_values [] h = refl
no_more_values (v ∷ vs) h = absurd h

receiver_empty : (scope : Scope) (slots : List Slot) (vs : List Value) → receiver_last (slot.Receiver ∷ slots) ≡ true → AreIn slots vs
    → AreReadIn scope (slot.Receiver ∷ slots) (value.Receiver None ∷ vs)
receiver_empty scope slots vs last fit =
    let n = no_more_slots slots last in
    let m = no_more_values vs (subst (λ (x : List Slot). AreIn x vs) n fit) in
    rw (n, m) (empty_last scope)

slot_empty : (scope : Scope) (s : Slot) (v : Value) (slots : List Slot) (vs : List Value) → s ≡ slot.Receiver → v ≡ value.Receiver None → receiver_last (s ∷ slots) ≡ true
    → AreIn slots vs → AreReadIn scope (s ∷ slots) (v ∷ vs)
slot_empty scope s v slots vs e f last fit =
    rw (e, f) (receiver_empty scope slots vs (subst (λ (x : Slot). receiver_last (x ∷ slots) ≡ true) e last) fit)

words_parted : (scope : Scope) (s : Slot) (v : Value) (slots : List Slot) (vs : List Value) → misplaced (s ∷ slots) (map word_of (words_in_slots scope (s ∷ slots) (v ∷ vs))) ≡ None
    → misplaced (s ∷ slots) (map word_of (words_at scope s v) ++ map word_of (words_in_slots scope slots vs)) ≡ None
unfolding words_in_slots
words_parted scope s v slots vs e = subst (λ (x : List Word). misplaced (s ∷ slots) x ≡ None) (map-append word_of (words_at scope s v) (words_in_slots scope slots vs)) e

nothing_in_slots : (scope : Scope) → AreReadIn scope [] []
unfolding words_in_slots values_in
nothing_in_slots scope = (refl, tt)

-- Words without a fault of form are resolved to the values that they spell.
pub values_read : (scope : Scope) → IsScope scope → (slots : List Slot) (vs : List Value) → AreIn slots vs → receiver_last slots ≡ true → AreSigned (values_numbers vs)
    → misplaced slots (map word_of (words_in_slots scope slots vs)) ≡ None → AreReadIn scope slots vs
values_read scope sc [] [] fit last signed fault = nothing_in_slots scope
values_read scope sc [] (v ∷ vs) fit last signed fault = absurd fit
values_read scope sc (s ∷ slots) [] fit last signed fault = absurd fit
values_read scope sc (s ∷ slots) (v ∷ vs) fit last signed fault =
    let n = signed_parts (value_numbers v) (values_numbers vs) signed in
    let l = (and_both (not (is_receiver s) || is_end slots) (receiver_last slots) last).1 in
    elim (slot_read scope sc s v slots (map word_of (words_in_slots scope slots vs)) fit.0 n.0 (words_parted scope s v slots vs fault)) [
      | inl r ↦ slot_then scope s v slots vs r.0 (values_read scope sc slots vs fit.1 l n.1 r.1)
      | inr e ↦ slot_empty scope s v slots vs e.0 e.1 last fit.1
    ]
