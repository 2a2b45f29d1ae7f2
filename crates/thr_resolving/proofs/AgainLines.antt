-- The words of a spelled line are resolved to that line.
use Rattle.std.proofs.Common.{◌≡◌, ℕ, ℤ, pos, ◌<◌, ◌≤◌, ◌^◌, true, false, List, [], ◌∷◌, ◌++◌, map, refl, sym, ap, subst, ◌∙◌, inl, inr, append-nil, Option, Some, None, arith}
use Rattle.std.specs.Prelude.{◌&&◌, not}
use Rattle.std.specs.Fmt.{signed_decimal}
use Rattle.std.specs.List.{list_all}
use Rattle.std.proofs.lemmas.Bool.{cases_Bool}
use Rattle.std.proofs.lemmas.Bool.Decides.{nat_tests}
use Rattle.thr_values.specs.Words.{call_word}
use Rattle.thr_values.specs.declared.number.NameId.{NameId}
use Rattle.thr_values.specs.declared.call.CallWord.{CallWord}
use Rattle.thr_values.specs.declared.call.CallWord.TheVariants as call
use Rattle.thr_syntax.specs.declared.dce.DceCall.{DceCall}
use Rattle.thr_syntax.specs.declared.dce.DceCall.TheVariants as dce
use Rattle.thr_syntax.specs.declared.form.Form.{Form}
use Rattle.thr_syntax.specs.declared.form.Form.TheVariants as form
use Rattle.thr_syntax.specs.Spelling.{Scope, name_of, form_words}
use Rattle.thr_text.specs.declared.word.Word.{Word}
use Rattle.thr_text.specs.declared.word.Word.TheVariants.{Num, Name}
use Rattle.thr_text.specs.declared.object.Object as kinds
use Rattle.thr_text.specs.declared.object.Object.TheVariants as object
use Rattle.thr_text.specs.declared.head.Head.{Head}
use Rattle.thr_text.specs.declared.head.Head.TheVariants as head
use Rattle.thr_text.specs.declared.head.Slot.{Slot}
use Rattle.thr_text.specs.declared.head.Slot.TheVariants as slot
use Rattle.thr_text.specs.Names.{has_name_form}
use Rattle.thr_text.specs.Lexing.{is_something, is_ink, has_number_form, word_of, word_text, AreOfLine}
use Rattle.thr_text.specs.Heads.{head_word}
use Rattle.thr_text.specs.Slots.{call_slots, slots_of, is_a_name, misplaced, text_of, head_at, head_of_line, fault_after, form_fault}
use Rattle.thr_text.specs.Tables.{rest_of}
use Rattle.thr_text.specs.Blocks.{form_shape, shape_at, shape_of_line}
use Rattle.thr_text.specs.NameFaults.{is_within, is_out_of_range}
use Rattle.thr_text.specs.Numbers.{AreSigned, expr_numbers, call_numbers, form_numbers}
use Rattle.thr_lexer.proofs.Canon.{and_both}
use Rattle.thr_resolving.specs.Resolving.{pieces_of, values_in, form_of, resolved_after, resolved}
use Rattle.thr_resolving.specs.Scopes.{IsScope}
use Rattle.thr_resolving.proofs.Parts.{call_values, form_head, form_values, words_in_slots}
use Rattle.thr_resolving.proofs.FormTables.{IsOwn, spelled, values_fit, SizesFit, form_again, shape_same, head_again}
use Rattle.thr_resolving.proofs.AgainWords.{AreProper, proper_words, proper_texts, is_fixed, not_true, fixed_proper, name_word, number_word}
use Rattle.thr_resolving.proofs.AgainNames.{id_found}
use Rattle.thr_resolving.proofs.AgainPieces.{one_stands}
use Rattle.thr_resolving.proofs.AgainSlots.{receiver_last, values_numbers, AreReadIn, values_read}

-- ---- the heads

call_fixed : (c : CallWord) → is_fixed (call_word c) ≡ true
unfolding call_word has_number_form
call_fixed call.Close = refl
call_fixed _ = refl

head_fixed : (h : Head) → is_fixed (head_word h) ≡ true
unfolding head_word has_number_form
head_fixed (head.Dce c) = call_fixed c
head_fixed _ = refl

call_receiver_last : (c : CallWord) → receiver_last (call_slots c) ≡ true
unfolding call_slots
call_receiver_last call.Close = refl
call_receiver_last _ = refl

head_receiver_last : (h : Head) → receiver_last (slots_of h) ≡ true
unfolding slots_of
head_receiver_last (head.Dce c) = call_receiver_last c
head_receiver_last _ = refl

fixed_text : (text : List ℕ) → is_fixed text ≡ true → text_of (word_of text) ≡ Some text
unfolding word_of
fixed_text text e =
    let n = not_true (has_number_form text) (and_both (not (has_number_form text)) (is_something text && list_all is_ink text) e).0 in
    elim (cases_Bool (has_name_form text)) [
      | inl h ↦ rw (n, h) refl
      | inr h ↦ rw (n, h) refl
    ]

head_found : (h : Head) → head_at (text_of (word_of (head_word h))) ≡ Some h
head_found h = ap head_at (fixed_text (head_word h) (head_fixed h)) ∙ head_again h

-- ---- the numbers of a line are those of its values

call_numbers_same : (c : DceCall) → call_numbers c ≡ values_numbers (call_values c)
unfolding call_values
call_numbers_same (dce.AttrSetprio n e) = sym (append-nil (expr_numbers e))
call_numbers_same (dce.AttrSetstacksize n e) = sym (append-nil (expr_numbers e))
call_numbers_same (dce.Create v attr n e) = sym (append-nil (expr_numbers e))
call_numbers_same (dce.Join e v) = sym (append-nil (expr_numbers e))
call_numbers_same (dce.Detach e) = sym (append-nil (expr_numbers e))
call_numbers_same (dce.Cancel e) = sym (append-nil (expr_numbers e))
call_numbers_same (dce.Setprio e1 e2 v) = ap (λ (x : List ℤ). expr_numbers e1 ++ x) (sym (append-nil (expr_numbers e2)))
call_numbers_same (dce.Getprio e v) = sym (append-nil (expr_numbers e))
call_numbers_same (dce.Setscheduler e1 policy e2 v) = ap (λ (x : List ℤ). expr_numbers e1 ++ x) (sym (append-nil (expr_numbers e2)))
call_numbers_same (dce.Getscheduler e v) = sym (append-nil (expr_numbers e))
call_numbers_same (dce.DelayNp e) = sym (append-nil (expr_numbers e))
call_numbers_same (dce.GetExpirationNp e v) = sym (append-nil (expr_numbers e))
call_numbers_same (dce.CondTimedwait n1 n2 e) = sym (append-nil (expr_numbers e))
call_numbers_same (dce.Setspecific n e) = sym (append-nil (expr_numbers e))
call_numbers_same (dce.Write n e) = sym (append-nil (expr_numbers e))
call_numbers_same _ = refl

numbers_same : (f : Form) → form_numbers f ≡ values_numbers (form_values f)
unfolding form_values
numbers_same (form.Set v e) = sym (append-nil (expr_numbers e))
numbers_same (form.Say e) = sym (append-nil (expr_numbers e))
numbers_same (form.If e) = sym (append-nil (expr_numbers e))
numbers_same (form.While e) = sym (append-nil (expr_numbers e))
numbers_same (form.Call r e v) = sym (append-nil (expr_numbers e))
numbers_same (form.Return e) = sym (append-nil (expr_numbers e))
numbers_same (form.Exit e) = sym (append-nil (expr_numbers e))
numbers_same (form.Dce call) = call_numbers_same call
numbers_same _ = refl

-- ---- the words of a line

abbrev slot_words : Scope → Form → List Word
slot_words scope f = map word_of (words_in_slots scope (slots_of (form_head f)) (form_values f))

line_words : (scope : Scope) (f : Form) → IsOwn f → map word_of (form_words scope f) ≡ word_of (head_word (form_head f)) ∷ slot_words scope f
line_words scope f own = ap (map word_of) (spelled scope f own)

line_head : (scope : Scope) (f : Form) → IsOwn f → head_of_line (map word_of (form_words scope f)) ≡ Some (form_head f)
line_head scope f own = ap head_of_line (line_words scope f own) ∙ head_found (form_head f)

line_rest : (scope : Scope) (f : Form) → IsOwn f → rest_of (map word_of (form_words scope f)) ≡ slot_words scope f
line_rest scope f own = ap rest_of (line_words scope f own)

line_faultless : (scope : Scope) (f : Form) → IsOwn f → form_fault (map word_of (form_words scope f)) ≡ None → misplaced (slots_of (form_head f)) (slot_words scope f) ≡ None
line_faultless scope f own fault =
    sym (ap (λ (o : Option Head). fault_after o (slot_words scope f)) (head_found (form_head f))) ∙ sym (ap form_fault (line_words scope f own)) ∙ fault

line_read : (scope : Scope) (f : Form) → IsScope scope → IsOwn f → AreSigned (form_numbers f) → form_fault (map word_of (form_words scope f)) ≡ None
    → AreReadIn scope (slots_of (form_head f)) (form_values f)
line_read scope f s own signed fault =
    values_read scope s (slots_of (form_head f)) (form_values f) (values_fit f own) (head_receiver_last (form_head f)) (subst AreSigned (numbers_same f) signed) (line_faultless scope f own fault)

line_proper : (scope : Scope) (f : Form) → IsScope scope → IsOwn f → AreSigned (form_numbers f) → form_fault (map word_of (form_words scope f)) ≡ None → AreProper (form_words scope f)
line_proper scope f s own signed fault =
    let words : AreProper (head_word (form_head f) ∷ words_in_slots scope (slots_of (form_head f)) (form_values f)) = (fixed_proper (head_word (form_head f)) (head_fixed (form_head f)), (line_read scope f s own signed fault).1) in
    subst AreProper (sym (spelled scope f own)) words

-- ---- the numbers of `limit` and `pipe` lines

within_below : (n high : ℕ) → not (is_within (pos n) 1 high) ≡ false → n ≤ high
within_below n high e = grind (arith, nat_tests)

limit_within : (n : ℕ) (w : Word) → w ≡ Num (pos n) → is_out_of_range (Some head.Limit) (w ∷ []) ≡ false → n < 2 ^ 32
limit_within n w e range =
    let b : n ≤ 1000000 = within_below n 1000000 (subst (λ (x : Word). is_out_of_range (Some head.Limit) (x ∷ []) ≡ false) e range) in
    omega (arith, b)

pipe_within : (n : ℕ) (text : List ℕ) (v w : Word) → v ≡ Name text → w ≡ Num (pos n) → is_out_of_range (Some head.Pipe) (v ∷ w ∷ []) ≡ false → n < 2 ^ 32
pipe_within n text v w d e range =
    let r : is_out_of_range (Some head.Pipe) (Name text ∷ Num (pos n) ∷ []) ≡ false = rw (d, e) at range in
    let b : n ≤ 4096 = within_below n 4096 r in
    omega (arith, b)

pipe_named : (scope : Scope) (id : NameId) (k : kinds.Object) (slots : List Slot) (ws : List Word) → IsScope scope
    → misplaced (slot.Declared k ∷ slots) (word_of (name_of scope id) ∷ ws) ≡ None → word_of (name_of scope id) ≡ Name (name_of scope id)
pipe_named scope id k slots ws s fault = name_word (name_of scope id) (id_found is_a_name refl scope id s (one_stands (slot.Declared k) slots (word_of (name_of scope id)) ws fault).0).0

sizes_fit : (scope : Scope) (f : Form) → IsScope scope → AreSigned (form_numbers f) → misplaced (slots_of (form_head f)) (slot_words scope f) ≡ None
    → is_out_of_range (Some (form_head f)) (slot_words scope f) ≡ false → SizesFit f
unfolding form_head form_values slots_of words_in_slots
sizes_fit scope (form.Limit n) s signed fault range = limit_within n (word_of (signed_decimal (pos n))) (number_word (pos n) signed.0) range
sizes_fit scope (form.Pipe id n) s signed fault range =
    let w = word_of (signed_decimal (pos n)) in
    pipe_within n (name_of scope id) (word_of (name_of scope id)) w (pipe_named scope id object.Pipe (slot.Number ∷ []) (w ∷ []) s fault) (number_word (pos n) signed.0) range
sizes_fit scope _ s signed fault range = tt

-- ---- the law

line_sizes : (scope : Scope) (f : Form) → IsScope scope → IsOwn f → AreSigned (form_numbers f) → form_fault (map word_of (form_words scope f)) ≡ None
    → is_out_of_range (head_of_line (map word_of (form_words scope f))) (rest_of (map word_of (form_words scope f))) ≡ false → SizesFit f
line_sizes scope f s own signed fault range =
    let r : is_out_of_range (Some (form_head f)) (slot_words scope f) ≡ false = rw (line_head scope f own, line_rest scope f own) at range in
    sizes_fit scope f s signed (line_faultless scope f own fault) r

pub line_resolved : (scope : Scope) (f : Form) → IsScope scope → IsOwn f → AreSigned (form_numbers f) → form_fault (map word_of (form_words scope f)) ≡ None
    → is_out_of_range (head_of_line (map word_of (form_words scope f))) (rest_of (map word_of (form_words scope f))) ≡ false → resolved scope (map word_of (form_words scope f)) ≡ f
unfolding resolved
line_resolved scope f s own signed fault range =
    ap (λ (o : Option Head). resolved_after scope o (rest_of (map word_of (form_words scope f)))) (line_head scope f own)
    ∙ ap (λ (ws : List Word). form_of (form_head f) (values_in scope (slots_of (form_head f)) (pieces_of scope ws))) (line_rest scope f own)
    ∙ ap (form_of (form_head f)) (line_read scope f s own signed fault).0
    ∙ form_again f own (line_sizes scope f s own signed fault range)

pub line_shape : (scope : Scope) (f : Form) → IsOwn f → form_shape f ≡ shape_of_line (map word_of (form_words scope f))
line_shape scope f own = shape_same f own ∙ sym (ap shape_at (line_head scope f own))

pub line_of_line : (scope : Scope) (f : Form) → IsScope scope → IsOwn f → AreSigned (form_numbers f) → form_fault (map word_of (form_words scope f)) ≡ None
    → AreOfLine (map word_of (form_words scope f))
line_of_line scope f s own signed fault = proper_words (form_words scope f) (line_proper scope f s own signed fault)

pub line_texts : (scope : Scope) (f : Form) → IsScope scope → IsOwn f → AreSigned (form_numbers f) → form_fault (map word_of (form_words scope f)) ≡ None
    → map word_text (map word_of (form_words scope f)) ≡ form_words scope f
line_texts scope f s own signed fault = proper_texts (form_words scope f) (line_proper scope f s own signed fault)
