-- A name of a line without faults is the name that it is resolved to.
use Rattle.std.proofs.Common.{◌≡◌, ℕ, ◌≤◌, Bool, true, false, List, length, refl, sym, ap, ◌∙◌, inl, inr}
use Rattle.std.specs.Prelude.{◌&&◌, ◌||◌, codes}
use Rattle.std.specs.Map.{keys_of}
use Rattle.std.proofs.lemmas.Bool.{cases_Bool}
use Rattle.thr_syntax.specs.Spelling.{Scope, name_of, local_of, variable_of, exception_of}
use Rattle.thr_text.specs.declared.word.Word.{Word}
use Rattle.thr_text.specs.declared.word.Word.TheVariants.{Num, Name, Mark}
use Rattle.thr_text.specs.declared.object.Object as kinds
use Rattle.thr_text.specs.declared.object.Object.TheVariants as object
use Rattle.thr_text.specs.declared.head.Slot.{Slot}
use Rattle.thr_text.specs.declared.head.Slot.TheVariants.{Declared, Receiver, Exception}
use Rattle.thr_text.specs.Slots.{is_a_name, can_stand}
use Rattle.thr_text.specs.Lexing.{word_of, IsOfLine}
use Rattle.thr_text.specs.NameFaults.{Sense, sense_of, is_unknown, is_of_kind, refers, suits}
use Rattle.thr_text.specs.Tables.{Entry, is_among, is_declared}
use Rattle.thr_resolving.specs.Resolving.{id_in, place_in, variable_in, exception_in, scope_of}
use Rattle.thr_resolving.proofs.FixedWords.{word_again, is_text, text_again}
use Rattle.thr_resolving.proofs.NamePlaces.{place_found, entry_found}
use Rattle.thr_resolving.proofs.PlacedWords.{IsGood, name_known, name_suits, known_is_declared, kind_is_declared, own_is_among}

pub or_first : (a b : Bool) → (a || b) ≡ true → b ≡ false → a ≡ true
or_first true b e f = refl
or_first false b e f = absurd (let s : false ≡ true = sym f ∙ e in cc)

and_true : (a : Bool) → (a && true) ≡ true → a ≡ true
and_true true e = refl
and_true false e = e

module _ (entries : List Entry) (locals : List (List ℕ)) (few : length entries ≤ 65536) (few_locals : length locals ≤ 16) where
  -- The names by which the lines are resolved.
  abbrev here : Scope
  here = scope_of (keys_of entries) locals

  variable_found : (text : List ℕ) → is_unknown (sense_of entries locals text) ≡ false → variable_of here (variable_in here (Name text)) ≡ text
  variable_found text known = elim (cases_Bool (is_among locals text)) [
    | inl is ↦ rw is (place_found locals text few_locals is)
    | inr other ↦ rw other (entry_found entries text few (known_is_declared entries locals text other known))
  ]

  pub variable_again : (s : Slot) (w : Word) → refers s ≡ true → is_a_name w ≡ true → IsOfLine w → IsGood entries locals s w → word_of (variable_of here (variable_in here w)) ≡ w
  variable_again s (Num n) r is h good = absurd cc
  variable_again s (Mark t) r is h good = absurd cc
  variable_again s (Name text) r is h good = ap word_of (variable_found text (name_known entries locals s text r is good)) ∙ word_again (Name text) h

  pub object_again : (k : kinds.Object) (s : Slot) (w : Word) → ((sense : Sense) → suits s sense ≡ is_of_kind k sense) → refers s ≡ true → is_a_name w ≡ true → IsOfLine w → IsGood entries locals s w
      → word_of (name_of here (id_in here w)) ≡ w
  object_again k s (Num n) asks r is h good = absurd cc
  object_again k s (Mark t) asks r is h good = absurd cc
  object_again k s (Name text) asks r is h good =
      ap word_of (entry_found entries text few (kind_is_declared entries locals k text (sym (asks (sense_of entries locals text)) ∙ name_suits entries locals s text r is good)))
      ∙ word_again (Name text) h

  pub declared_again : (k : kinds.Object) (w : Word) → is_a_name w ≡ true → IsOfLine w → IsGood entries locals (Declared k) w → word_of (name_of here (id_in here w)) ≡ w
  declared_again k (Num n) is h good = absurd cc
  declared_again k (Mark t) is h good = absurd cc
  declared_again k (Name text) is h good = ap word_of (entry_found entries text few (and_true (is_declared entries text) good.declares)) ∙ word_again (Name text) h

  pub receiver_again : (w : Word) → is_a_name w ≡ true → IsOfLine w → IsGood entries locals Receiver w → word_of (local_of here (place_in here w)) ≡ w
  receiver_again (Num n) is h good = absurd cc
  receiver_again (Mark t) is h good = absurd cc
  receiver_again (Name text) is h good =
      ap word_of (place_found locals text few_locals (own_is_among entries locals text (name_suits entries locals Receiver text refl is good))) ∙ word_again (Name text) h

  pub exception_again : (w : Word) → can_stand Exception w ≡ true → IsOfLine w → IsGood entries locals Exception w → word_of (exception_of here (exception_in here w)) ≡ w
  exception_again w can h good = elim (cases_Bool (is_text (codes "this") w)) [
    | inl this ↦ rw this (text_again (codes "this") w this h)
    | inr other ↦ rw other (object_again object.Exception Exception w (λ sense. refl) refl (or_first (is_a_name w) (is_text (codes "this") w) can other) h good)
  ]
