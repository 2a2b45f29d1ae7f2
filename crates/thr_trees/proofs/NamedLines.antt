-- The names, the variables and the exceptions of a line that keeps the rules are known.
use Rattle.std.proofs.Common.{◌≡◌, ℕ, true, List, [], ◌∷◌, map, Option, Some, None, refl, sym, ap, subst, ◌∙◌}
use Rattle.std.specs.List.{list_any}
use Rattle.std.proofs.lemmas.List.{append-nil}
use Rattle.thr_values.specs.declared.call.CallWord.{CallWord}
use Rattle.thr_values.specs.declared.call.CallWord.TheVariants as call
use Rattle.thr_syntax.specs.declared.dce.DceCall.{DceCall}
use Rattle.thr_syntax.specs.declared.dce.DceCall.TheVariants as dce
use Rattle.thr_syntax.specs.declared.form.Form.{Form}
use Rattle.thr_syntax.specs.declared.form.Form.TheVariants as form
use Rattle.thr_syntax.specs.Shared.{variables_of}
use Rattle.thr_text.specs.declared.word.Word.{Word}
use Rattle.thr_text.specs.declared.object.Object.TheVariants as object
use Rattle.thr_text.specs.declared.head.Head.{Head}
use Rattle.thr_text.specs.declared.head.Head.TheVariants as head
use Rattle.thr_text.specs.Heads.{head_word}
use Rattle.thr_text.specs.Lexing.{word_of}
use Rattle.thr_text.specs.Numbers.{AreSigned}
use Rattle.thr_text.specs.Slots.{call_slots, slots_of, misplaced, head_of_line, fault_after, form_fault}
use Rattle.thr_text.specs.Tables.{Entry, placed, placed_after, placed_in}
use Rattle.thr_text.specs.NameFaults.{is_undeclared, is_misused}
use Rattle.thr_reading.proofs.LocalsLaws.{head_told}
use Rattle.thr_resolving.specs.Resolving.{scope_of}
use Rattle.thr_resolving.proofs.AgainSlots.{values_numbers, receiver_last}
use Rattle.thr_resolving.proofs.FormTables.{IsOwn, spelled, values_fit}
use Rattle.thr_resolving.proofs.NumberTables.{numbers_of, numbers_same}
use Rattle.thr_resolving.proofs.Parts.{call_head, form_head, call_values, form_values, words_in_slots}
use Rattle.thr_resolving.specs.declared.value.Value.{Value}
use Rattle.thr_trees.specs.Names.{asked_if, named_in_call, named_in, variables_in_call, variables_in, receiver_in, exceptions_of, exceptions_in_call, exceptions_in}
use Rattle.thr_trees.proofs.LineFacts.{words_at, IsFine}
use Rattle.thr_trees.proofs.SlotFacts.{AreKnown, AreKnownVariables, AreKnownExceptions, Fill, names_in, variables_in_all, exceptions_in_all, all_hold}

-- ---- the names of a line are those of its values

named_in_call_same : (c : DceCall) → named_in_call c ≡ names_in (call_slots (call_head c)) (call_values c)
unfolding call_head call_values call_slots
named_in_call_same (dce.MutexInit n attr) = rw (append-nil (asked_if object.Mutexattr attr)) refl
named_in_call_same (dce.Keycreate n destructor) = rw (append-nil (asked_if object.Routine destructor)) refl
named_in_call_same _ = refl

named_in_same : (f : Form) → IsOwn f → named_in f ≡ names_in (slots_of (form_head f)) (form_values f)
unfolding form_head form_values slots_of
named_in_same form.Header own = absurd (own refl)
named_in_same (form.Dce c) own = named_in_call_same c
named_in_same _ own = refl

variables_in_call_same : (c : DceCall) → variables_in_call c ≡ variables_in_all (call_values c)
unfolding call_values
variables_in_call_same (dce.AttrSetprio n e) = rw (append-nil (variables_of e)) refl
variables_in_call_same (dce.AttrSetstacksize n e) = rw (append-nil (variables_of e)) refl
variables_in_call_same (dce.Create v attr n e) = rw (append-nil (variables_of e)) refl
variables_in_call_same (dce.Detach e) = rw (append-nil (variables_of e)) refl
variables_in_call_same (dce.Cancel e) = rw (append-nil (variables_of e)) refl
variables_in_call_same (dce.DelayNp e) = rw (append-nil (variables_of e)) refl
variables_in_call_same (dce.CondTimedwait n m e) = rw (append-nil (variables_of e)) refl
variables_in_call_same (dce.Setspecific n e) = rw (append-nil (variables_of e)) refl
variables_in_call_same (dce.Write n e) = rw (append-nil (variables_of e)) refl
variables_in_call_same _ = refl

variables_in_same : (f : Form) → variables_in f ≡ variables_in_all (form_values f)
unfolding form_values
variables_in_same (form.Set v e) = rw (append-nil (variables_of e)) refl
variables_in_same (form.Say e) = rw (append-nil (variables_of e)) refl
variables_in_same (form.If e) = rw (append-nil (variables_of e)) refl
variables_in_same (form.While e) = rw (append-nil (variables_of e)) refl
variables_in_same (form.Call r e place) = rw (append-nil (receiver_in place)) refl
variables_in_same (form.Return e) = rw (append-nil (variables_of e)) refl
variables_in_same (form.Exit e) = rw (append-nil (variables_of e)) refl
variables_in_same (form.Dce c) = variables_in_call_same c
variables_in_same _ = refl

exceptions_in_call_same : (c : DceCall) → exceptions_in_call c ≡ exceptions_in_all (call_values c)
unfolding call_values
exceptions_in_call_same (dce.AttrSetprio n e) = rw (append-nil (exceptions_of e)) refl
exceptions_in_call_same (dce.AttrSetstacksize n e) = rw (append-nil (exceptions_of e)) refl
exceptions_in_call_same (dce.Create v attr n e) = rw (append-nil (exceptions_of e)) refl
exceptions_in_call_same (dce.Join e v) = rw (append-nil (exceptions_of e)) refl
exceptions_in_call_same (dce.Detach e) = rw (append-nil (exceptions_of e)) refl
exceptions_in_call_same (dce.Cancel e) = rw (append-nil (exceptions_of e)) refl
exceptions_in_call_same (dce.Setprio e f v) = rw (append-nil (exceptions_of f)) refl
exceptions_in_call_same (dce.Getprio e v) = rw (append-nil (exceptions_of e)) refl
exceptions_in_call_same (dce.Setscheduler e policy f v) = rw (append-nil (exceptions_of f)) refl
exceptions_in_call_same (dce.Getscheduler e v) = rw (append-nil (exceptions_of e)) refl
exceptions_in_call_same (dce.DelayNp e) = rw (append-nil (exceptions_of e)) refl
exceptions_in_call_same (dce.GetExpirationNp e v) = rw (append-nil (exceptions_of e)) refl
exceptions_in_call_same (dce.CondTimedwait n m e) = rw (append-nil (exceptions_of e)) refl
exceptions_in_call_same (dce.Setspecific n e) = rw (append-nil (exceptions_of e)) refl
exceptions_in_call_same (dce.Write n e) = rw (append-nil (exceptions_of e)) refl
exceptions_in_call_same _ = refl

pub exceptions_in_same : (f : Form) → exceptions_in f ≡ exceptions_in_all (form_values f)
unfolding form_values
exceptions_in_same (form.Set v e) = rw (append-nil (exceptions_of e)) refl
exceptions_in_same (form.Say e) = rw (append-nil (exceptions_of e)) refl
exceptions_in_same (form.If e) = rw (append-nil (exceptions_of e)) refl
exceptions_in_same (form.While e) = rw (append-nil (exceptions_of e)) refl
exceptions_in_same (form.Call r e place) = rw (append-nil (exceptions_of e)) refl
exceptions_in_same (form.Return e) = rw (append-nil (exceptions_of e)) refl
exceptions_in_same (form.Exit e) = rw (append-nil (exceptions_of e)) refl
exceptions_in_same (form.Dce c) = exceptions_in_call_same c
exceptions_in_same _ = refl

-- ---- the slots of a line

call_receiver_last : (c : CallWord) → receiver_last (call_slots c) ≡ true
unfolding call_slots
call_receiver_last call.Close = refl
call_receiver_last _ = refl

head_receiver_last : (h : Head) → receiver_last (slots_of h) ≡ true
unfolding slots_of
head_receiver_last (head.Dce c) = call_receiver_last c
head_receiver_last _ = refl

-- The words after the first fill the slots.
filled : (w : Word) (ws : List Word) (h : Head) → head_of_line (w ∷ ws) ≡ Some h → form_fault (w ∷ ws) ≡ None → misplaced (slots_of h) ws ≡ None
filled w ws h e fault = sym (ap (λ (o : Option Head). fault_after o ws) e) ∙ fault

abbrev slot_words : List (List ℕ) → List (List ℕ) → Form → List Word
slot_words names locals f = map word_of (words_in_slots (scope_of names locals) (slots_of (form_head f)) (form_values f))

line_words : (names locals : List (List ℕ)) (f : Form) → IsOwn f → words_at names locals f ≡ word_of (head_word (form_head f)) ∷ slot_words names locals f
line_words names locals f own = ap (map word_of) (spelled (scope_of names locals) f own)

placed_words : (names locals : List (List ℕ)) (f : Form) → IsOwn f → placed_in (words_at names locals f) ≡ placed (slots_of (form_head f)) (slot_words names locals f)
placed_words names locals f own =
    let w : Word = word_of (head_word (form_head f)) in
    let is : words_at names locals f ≡ w ∷ slot_words names locals f = line_words names locals f own in
    let told : head_of_line (w ∷ slot_words names locals f) ≡ Some (form_head f) = sym (ap head_of_line is) ∙ head_told (scope_of names locals) f own in
    ap placed_in is ∙ ap (λ (o : Option Head). placed_after o (slot_words names locals f)) told

line_fills : (entries : List Entry) (names locals : List (List ℕ)) (f : Form) → IsFine entries names locals f → Fill entries locals (slots_of (form_head f)) (slot_words names locals f)
line_fills entries names locals f h =
    let w : Word = word_of (head_word (form_head f)) in
    let ws : List Word = slot_words names locals f in
    let is : words_at names locals f ≡ w ∷ ws = line_words names locals f h.own in
    let told : head_of_line (w ∷ ws) ≡ Some (form_head f) = sym (ap head_of_line is) ∙ head_told (scope_of names locals) f h.own in
    let at : placed_in (words_at names locals f) ≡ placed (slots_of (form_head f)) ws = placed_words names locals f h.own in
    record {
      faultless = filled w ws (form_head f) told (sym (ap form_fault is) ∙ h.faultless);
      declared = sym (ap (list_any (is_undeclared entries locals)) at) ∙ h.declared;
      suited = sym (ap (list_any (is_misused entries locals)) at) ∙ h.suited;
    }

-- ---- the line

numbers_again : (vs : List Value) → numbers_of vs ≡ values_numbers vs
numbers_again [] = refl
numbers_again (v ∷ vs) = rw (numbers_again vs) refl

-- What is known of the names in a line, its own declaration apart.
pub record HoldsKnown (entries : List Entry) (names locals : List (List ℕ)) (f : Form) : Type 0 where
  pub named : AreKnown entries names (named_in f)
  pub read : AreKnownVariables entries names locals (variables_in f)
  pub excepted : AreKnownExceptions entries names (exceptions_in f)

pub line_known : (entries : List Entry) (names locals : List (List ℕ)) (f : Form) → IsFine entries names locals f → HoldsKnown entries names locals f
line_known entries names locals f h =
    let all = all_hold entries names locals h.scope (slots_of (form_head f)) (form_values f) (values_fit f h.own) (head_receiver_last (form_head f))
    (subst AreSigned (numbers_same f ∙ numbers_again (form_values f)) h.signed) (line_fills entries names locals f h) in
    record {
      named = subst (AreKnown entries names) (sym (named_in_same f h.own)) all.named;
      read = subst (AreKnownVariables entries names locals) (sym (variables_in_same f)) all.read;
      excepted = subst (AreKnownExceptions entries names) (sym (exceptions_in_same f)) all.excepted;
    }
