-- The locals in force below a line, by its words.
use Rattle.std.proofs.Common.{◌≡◌, ℕ, ℤ, Bool, true, false, cond, List, [], ◌∷◌, ◌++◌, map, Option, Some, None, refl, sym, ap, ◌∙◌, inl, inr}
use Rattle.std.specs.Prelude.{codes}
use Rattle.std.proofs.lemmas.List.{append-nil}
use Rattle.thr_values.specs.Words.{call_word}
use Rattle.thr_values.specs.declared.call.CallWord.{CallWord}
use Rattle.thr_values.specs.declared.call.CallWord.TheVariants as call
use Rattle.thr_syntax.specs.declared.form.Form.{Form}
use Rattle.thr_syntax.specs.declared.form.Form.TheVariants as form
use Rattle.thr_syntax.specs.Spelling.{Scope, name_of, form_words}
use Rattle.thr_text.specs.declared.word.Word.{Word}
use Rattle.thr_text.specs.declared.word.Word.TheVariants.{Num, Name, Mark}
use Rattle.thr_text.specs.declared.head.Head.{Head}
use Rattle.thr_text.specs.declared.head.Head.TheVariants as head
use Rattle.thr_text.specs.declared.object.Object.TheVariants as object
use Rattle.thr_text.specs.declared.head.Slot.{Slot}
use Rattle.thr_text.specs.declared.head.Slot.TheVariants.{Declared, Parameter, Local}
use Rattle.thr_text.specs.Names.{has_name_form}
use Rattle.thr_text.specs.Lexing.{has_number_form, value_of, word_of}
use Rattle.thr_text.specs.Heads.{head_word}
use Rattle.thr_text.specs.Slots.{text_of, is_a_name, can_stand, slots_behind, slots_of, misplaced, head_at, head_of_line, fault_after, form_fault}
use Rattle.thr_text.specs.NameFaults.{name_of_word, own_in, locals_on, locals_below}
use Rattle.thr_text.proofs.WordTables.{chosen}
use Rattle.thr_naming.specs.Placing.{own_place, name_by}
use Rattle.thr_naming.proofs.LineLaws.{own_law}
use Rattle.thr_resolving.proofs.Parts.{form_head}
use Rattle.thr_resolving.proofs.FormTables.{IsOwn, spelled, head_again}
use Rattle.thr_reading.specs.Running.{locals_after_form}

-- ---- the head of a spelled line

call_no_number : (c : CallWord) → has_number_form (call_word c) ≡ false
unfolding call_word has_number_form
call_no_number call.Close = refl
call_no_number _ = refl

head_no_number : (h : Head) → has_number_form (head_word h) ≡ false
unfolding head_word has_number_form
head_no_number (head.Dce c) = call_no_number c
head_no_number _ = refl

text_kept : (b c : Bool) (n : ℤ) (text : List ℕ) → b ≡ false → text_of (cond b (Num n) (cond c (Name text) (Mark text))) ≡ Some text
text_kept true c n text e = absurd cc
text_kept false true n text e = refl
text_kept false false n text e = refl

text_again : (text : List ℕ) → has_number_form text ≡ false → text_of (word_of text) ≡ Some text
unfolding word_of
text_again text e = text_kept (has_number_form text) (has_name_form text) (value_of text) text e

pub head_told : (scope : Scope) (f : Form) → IsOwn f → head_of_line (map word_of (form_words scope f)) ≡ Some (form_head f)
head_told scope f own =
    ap (λ (words : List (List ℕ)). head_of_line (map word_of words)) (spelled scope f own)
    ∙ ap head_at (text_again (head_word (form_head f)) (head_no_number (form_head f)))
    ∙ head_again (form_head f)

-- ---- names in their slots

named : (b c : Bool) (n : ℤ) (text : List ℕ) → is_a_name (cond b (Num n) (cond c (Name text) (Mark text))) ≡ true → name_of_word (cond b (Num n) (cond c (Name text) (Mark text))) ≡ text ∷ []
named true c n text e = absurd cc
named false true n text e = refl
named false false n text e = absurd cc

name_again : (text : List ℕ) → is_a_name (word_of text) ≡ true → name_of_word (word_of text) ≡ text ∷ []
unfolding word_of
name_again text e = named (has_number_form text) (has_name_form text) (value_of text) text e

-- Where words fill slots, the first word can stand in the first slot.
stands : (s : Slot) (slots : List Slot) (w : Word) (ws : List Word) → misplaced (s ∷ slots) (w ∷ ws) ≡ None → (can_stand s w ≡ true) × (misplaced (slots_behind s w ++ slots) ws ≡ None)
unfolding misplaced
stands s slots w ws e = elim (chosen (can_stand s w) (misplaced (slots_behind s w ++ slots) ws) (Some 6) None e) [
  | inl t ↦ t
  | inr f ↦ absurd (let e : Some 6 ≡ None = f.1 in cc)
]

fault_on : (w : Word) (ws : List Word) (h : Head) → head_of_line (w ∷ ws) ≡ Some h → form_fault (w ∷ ws) ≡ None → misplaced (slots_of h) ws ≡ None
fault_on w ws h e fault = sym (ap (λ (o : Option Head). fault_after o ws) e) ∙ fault

-- ---- the locals

own_told : (scope : Scope) (locals : List (List ℕ)) (f : Form) → IsOwn f
    → locals_below locals (map word_of (form_words scope f)) ≡ locals_on (Some (form_head f)) locals (name_by (own_place (form_head f)) (map word_of (form_words scope f)))
own_told scope locals f own =
    let words : List Word = map word_of (form_words scope f) in
    let e = head_told scope f own in
    ap (λ (o : Option Head). locals_on o locals (own_in words)) e ∙ ap (locals_on (Some (form_head f)) locals) (own_law words (form_head f) e)

by_form : (scope : Scope) (locals : List (List ℕ)) (f : Form) → IsOwn f → form_fault (map word_of (form_words scope f)) ≡ None
    → locals_on (Some (form_head f)) locals (name_by (own_place (form_head f)) (map word_of (form_words scope f))) ≡ locals_after_form locals f
unfolding form_head slots_of
by_form scope locals form.Header own fault = absurd (own refl)
by_form scope locals (form.Routine name parameter) own fault =
    let filled = fault_on (word_of (codes "routine")) (word_of (name_of scope name) ∷ word_of parameter ∷ []) head.Routine (head_told scope (form.Routine name parameter) own) fault in
    let behind = stands (Declared object.Routine) (Parameter ∷ []) (word_of (name_of scope name)) (word_of parameter ∷ []) filled in
    name_again parameter (stands Parameter [] (word_of parameter) [] behind.1).0
by_form scope locals (form.Local name) own fault =
    let filled = fault_on (word_of (codes "local")) (word_of name ∷ []) head.Local (head_told scope (form.Local name) own) fault in
    ap (λ (names : List (List ℕ)). locals ++ names) (name_again name (stands Local [] (word_of name) [] filled).0)
by_form scope locals _ own fault = append-nil locals

pub same_locals : (scope : Scope) (locals : List (List ℕ)) (f : Form) → (f ≡ form.Header → ⊥) → form_fault (map word_of (form_words scope f)) ≡ None
    → locals_below locals (map word_of (form_words scope f)) ≡ locals_after_form locals f
same_locals scope locals f own fault = own_told scope locals f own ∙ by_form scope locals f own fault
