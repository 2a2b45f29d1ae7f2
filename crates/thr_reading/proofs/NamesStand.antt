-- The names that a line with a form brings in are names.
use Rattle.std.proofs.Common.{◌≡◌, ℕ, Bool, true, false, List, [], ◌∷◌, ◌++◌, map, Option, Some, None, refl, ap, ◌∙◌}
use Rattle.std.specs.Prelude.{◌&&◌, if◌then◌else◌}
use Rattle.std.specs.List.{list_all}
use Rattle.std.specs.Map.{keys_of}
use Rattle.std.proofs.lemmas.List.{map-append}
use Rattle.thr_values.specs.Exceptions.{builtin_names}
use Rattle.thr_text.specs.declared.word.Word.{Word}
use Rattle.thr_text.specs.declared.word.Word.TheVariants.{Num, Name, Mark}
use Rattle.thr_text.specs.declared.head.Head.{Head}
use Rattle.thr_text.specs.declared.head.Slot.{Slot}
use Rattle.thr_text.specs.declared.head.Slot.TheVariants.{Number, Fixed, Declared, Parameter, Local, Object, ObjectOr, Variable, Receiver, Exception, Expression}
use Rattle.thr_text.specs.Names.{is_name, has_name_form, is_reserved, reserved_words}
use Rattle.thr_text.specs.Slots.{can_stand, slots_behind, slots_of, misplaced, form_fault, fault_after, head_at, text_of}
use Rattle.thr_text.specs.Tables.{Entry, Placed, placed, placed_after, placed_in, declared_at, declared_in_all, declarations, declared_in, entries_of}
use Rattle.thr_text.specs.Reading.{HaveForms}
use Rattle.thr_text.specs.NameFaults.{own_at, own_in_all, own_in}
use Rattle.thr_reading.specs.Naming.{HaveGoodWords, HaveNoFormFault}

-- ---- each word of a line that has a form can stand in its slot

abbrev stands : Placed → Bool
stands x = can_stand x.0 x.1

passed : (b : Bool) (o : Option ℕ) → (if b then o else Some 6) ≡ None → (b ≡ true) × (o ≡ None)
passed true o h = (refl, h)
passed false o h = absurd cc

all_stand : (slots : List Slot) (ws : List Word) → misplaced slots ws ≡ None → list_all stands (placed slots ws) ≡ true
unfolding misplaced placed
all_stand slots [] h = refl
all_stand [] (w ∷ ws) h = refl
all_stand (p ∷ slots) (w ∷ ws) h =
    let s = passed (can_stand p w) (misplaced (slots_behind p w ++ slots) ws) h in
    rw s.0 (all_stand (slots_behind p w ++ slots) ws s.1)

stand_after : (h : Option Head) (ws : List Word) → fault_after h ws ≡ None → list_all stands (placed_after h ws) ≡ true
stand_after None ws e = absurd cc
stand_after (Some h) ws e = all_stand (slots_of h) ws e

words_stand : (l : List Word) → form_fault l ≡ None → list_all stands (placed_in l) ≡ true
words_stand [] e = refl
words_stand (w ∷ ws) e = stand_after (head_at (text_of w)) ws e

pub good_words_have_forms : (ls : List (List Word)) → HaveGoodWords ls → HaveNoFormFault ls
good_words_have_forms [] h = tt
good_words_have_forms (l ∷ ls) h = (h.0.1, good_words_have_forms ls h.1)

pub forms_have_no_fault : (ls : List (List Word)) → HaveForms ls → HaveNoFormFault ls
forms_have_no_fault [] h = tt
forms_have_no_fault (l ∷ ls) h = (h.0, forms_have_no_fault ls h.2)

-- ---- so what they bring in are names

both : (a b : Bool) → (a && b) ≡ true → (a ≡ true) × (b ≡ true)
both true b h = (refl, h)
both false b h = absurd cc

one_entry : (p : Slot) (w : Word) → can_stand p w ≡ true → list_all is_name (keys_of (declared_at p w)) ≡ true
one_entry Number w h = refl
one_entry (Fixed c) w h = refl
one_entry (Declared kind) (Num n) h = refl
one_entry (Declared kind) (Name text) h = rw h refl
one_entry (Declared kind) (Mark text) h = refl
one_entry Parameter w h = refl
one_entry Local w h = refl
one_entry (Object kind) w h = refl
one_entry (ObjectOr kind) w h = refl
one_entry Variable w h = refl
one_entry Receiver w h = refl
one_entry Exception w h = refl
one_entry Expression w h = refl

one_own : (p : Slot) (w : Word) → can_stand p w ≡ true → list_all is_name (own_at p w) ≡ true
one_own Number w h = refl
one_own (Fixed c) w h = refl
one_own (Declared kind) w h = refl
one_own Parameter (Num n) h = refl
one_own Parameter (Name text) h = rw h refl
one_own Parameter (Mark text) h = refl
one_own Local (Num n) h = refl
one_own Local (Name text) h = rw h refl
one_own Local (Mark text) h = refl
one_own (Object kind) w h = refl
one_own (ObjectOr kind) w h = refl
one_own Variable w h = refl
one_own Receiver w h = refl
one_own Exception w h = refl
one_own Expression w h = refl

pub all_names : (xs ys : List (List ℕ)) → list_all is_name xs ≡ true → list_all is_name ys ≡ true → list_all is_name (xs ++ ys) ≡ true
all_names [] ys x y = y
all_names (n ∷ xs) ys x y = let parts = both (is_name n) (list_all is_name xs) x in rw parts.0 (all_names xs ys parts.1 y)

all_keys : (es ds : List Entry) → list_all is_name (keys_of es) ≡ true → list_all is_name (keys_of ds) ≡ true → list_all is_name (keys_of (es ++ ds)) ≡ true
all_keys es ds e d = ap (list_all is_name) (map-append (λ (e : Entry). e.0) es ds) ∙ all_names (keys_of es) (keys_of ds) e d

entries_named : (xs : List Placed) → list_all stands xs ≡ true → list_all is_name (keys_of (declared_in_all xs)) ≡ true
entries_named [] h = refl
entries_named (x ∷ xs) h =
    let parts = both (stands x) (list_all stands xs) h in
    all_keys (declared_at x.0 x.1) (declared_in_all xs) (one_entry x.0 x.1 parts.0) (entries_named xs parts.1)

own_named : (xs : List Placed) → list_all stands xs ≡ true → list_all is_name (own_in_all xs) ≡ true
own_named [] h = refl
own_named (x ∷ xs) h =
    let parts = both (stands x) (list_all stands xs) h in
    all_names (own_at x.0 x.1) (own_in_all xs) (one_own x.0 x.1 parts.0) (own_named xs parts.1)

pub own_are_names : (l : List Word) → form_fault l ≡ None → list_all is_name (own_in l) ≡ true
own_are_names l e = own_named (placed_in l) (words_stand l e)

-- ---- and all names of a text are

declared_are_names : (ls : List (List Word)) → HaveNoFormFault ls → list_all is_name (keys_of (declarations ls)) ≡ true
unfolding declarations
declared_are_names [] h = refl
declared_are_names (l ∷ ls) h = all_keys (declared_in l) (declarations ls) (entries_named (placed_in l) (words_stand l h.0)) (declared_are_names ls h.1)

builtin_are_names : list_all is_name builtin_names ≡ true
unfolding has_name_form is_reserved reserved_words
builtin_are_names = refl

-- the built-in names, and then the declared ones in their order
pub keys_of_entries : (ls : List (List Word)) → keys_of (entries_of ls) ≡ builtin_names ++ map (λ e. e.0) (declarations ls)
keys_of_entries ls = refl

pub entries_are_names : (ls : List (List Word)) → HaveNoFormFault ls → list_all is_name (keys_of (entries_of ls)) ≡ true
entries_are_names ls h = ap (list_all is_name) (keys_of_entries ls) ∙ all_names builtin_names (keys_of (declarations ls)) builtin_are_names (declared_are_names ls h)
