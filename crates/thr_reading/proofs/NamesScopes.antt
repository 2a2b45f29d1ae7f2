-- The names of a text without faults of names, and the locals in force at each of its lines, keep the rules for names.
use Rattle.std.proofs.Common.{◌≡◌, ℕ, ◌≤◌, Bool, true, false, List, [], ◌∷◌, ◌++◌, length, Option, Some, None, refl, ap, sym, ◌∙◌, subst, append_assoc, slice_get, arith}
use Rattle.std.specs.List.{list_all, list_any}
use Rattle.std.specs.Map.{keys_of}
use Rattle.std.proofs.lemmas.List.{append-nil}
use Rattle.std.proofs.lemmas.Map.Entries.{length-keys_of}
use Rattle.thr_text.specs.declared.word.Word.{Word}
use Rattle.thr_text.specs.declared.word.Word.TheVariants.{Num, Name, Mark}
use Rattle.thr_text.specs.declared.head.Head.{Head}
use Rattle.thr_text.specs.declared.head.Head.TheVariants as head
use Rattle.thr_text.specs.declared.head.Slot.{Slot}
use Rattle.thr_text.specs.declared.head.Slot.TheVariants.{Number, Fixed, Declared, Parameter, Local, Object, ObjectOr, Variable, Receiver, Exception, Expression}
use Rattle.thr_text.specs.Names.{is_name}
use Rattle.thr_text.specs.Slots.{form_fault, head_of_line, slots_of}
use Rattle.thr_text.specs.Blocks.{Line}
use Rattle.thr_text.specs.Tables.{Entry, Placed, placed, placed_after, placed_in, rest_of, is_among, is_declared, entries_of, declarations, declared_in}
use Rattle.thr_text.specs.NameFaults.{name_of_word, own_at, own_in, own_in_all, is_again_word, locals_on, locals_below, Above, above_next, nothing_above, name_misfits, words_in, own_faults}
use Rattle.thr_naming.specs.Misnamed.{AreWellNamed}
use Rattle.thr_naming.specs.Placing.{own_place, name_by, name_at_place}
use Rattle.thr_naming.proofs.EntryLaws.{new_entry, one_entry}
use Rattle.thr_naming.proofs.LineLaws.{own_law}
use Rattle.thr_naming.proofs.MisnamedLaws.{own_parts}
use Rattle.thr_resolving.specs.Resolving.{scope_of}
use Rattle.thr_resolving.specs.Scopes.{IsScope, AreDistinct}
use Rattle.thr_reading.specs.Naming.{AreScopes, HaveNoFormFault}
use Rattle.thr_reading.proofs.NamesDistinct.{distinct_own, distinct_alone, distinct_none, distinct_entries, distinct_builtin, among_keys}
use Rattle.thr_reading.proofs.NamesFaultless.{neither, keeps, entries_append, names_are_few}
use Rattle.thr_reading.proofs.NamesStand.{all_names, own_are_names, entries_are_names}

-- ---- the parameter or local that a line brings in

abbrev is_again : List Entry → List Entry → List (List ℕ) → Placed → Bool
is_again whole above locals x = is_again_word x.0 x.1 whole above locals

one_new : (whole above : List Entry) (locals : List (List ℕ)) (p : Slot) (w : Word) → is_again_word p w whole above locals ≡ false → list_any (is_declared whole) (own_at p w) ≡ false
one_new whole above locals Number w h = refl
one_new whole above locals (Fixed c) w h = refl
one_new whole above locals (Declared kind) w h = refl
one_new whole above locals Parameter (Num n) h = refl
one_new whole above locals Parameter (Name text) h = rw h refl
one_new whole above locals Parameter (Mark text) h = refl
one_new whole above locals Local (Num n) h = refl
one_new whole above locals Local (Name text) h = rw (neither (is_declared whole text) (is_among locals text) h).0 refl
one_new whole above locals Local (Mark text) h = refl
one_new whole above locals (Object kind) w h = refl
one_new whole above locals (ObjectOr kind) w h = refl
one_new whole above locals Variable w h = refl
one_new whole above locals Receiver w h = refl
one_new whole above locals Exception w h = refl
one_new whole above locals Expression w h = refl

any_of : (p : List ℕ → Bool) (xs ys : List (List ℕ)) → list_any p xs ≡ false → list_any p ys ≡ false → list_any p (xs ++ ys) ≡ false
any_of p [] ys x y = y
any_of p (n ∷ xs) ys x y = let parts = neither (p n) (list_any p xs) x in rw parts.0 (any_of p xs ys parts.1 y)

own_new : (whole above : List Entry) (locals : List (List ℕ)) (xs : List Placed) → list_any (is_again whole above locals) xs ≡ false → list_any (is_declared whole) (own_in_all xs) ≡ false
own_new whole above locals [] h = refl
own_new whole above locals (x ∷ xs) h =
    let parts = neither (is_again whole above locals x) (list_any (is_again whole above locals) xs) h in
    any_of (is_declared whole) (own_at x.0 x.1) (own_in_all xs) (one_new whole above locals x.0 x.1 parts.0) (own_new whole above locals xs parts.1)

few_of_word : (w : Word) → length (name_of_word w) ≤ 1
few_of_word (Num n) = omega arith
few_of_word (Name text) = omega arith
few_of_word (Mark text) = omega arith

few_at_place : (o : Option Word) → length (name_at_place o) ≤ 1
few_at_place None = omega arith
few_at_place (Some w) = few_of_word w

few_by : (o : Option ℕ) (ws : List Word) → length (name_by o ws) ≤ 1
few_by None ws = omega arith
few_by (Some at) ws = few_at_place (slice_get ws at)

own_after : (l : List Word) (h : Option Head) → head_of_line l ≡ h → own_in l ≡ own_in_all (placed_after h (rest_of l))
own_after l h is = ap (λ (o : Option Head). own_in_all (placed_after o (rest_of l))) is

one_own : (l : List Word) → length (own_in l) ≤ 1
one_own l = by (head_of_line l) refl
  where
    by : (h : Option Head) → head_of_line l ≡ h → length (own_in l) ≤ 1
    by None is = rw (own_after l None is) (omega arith)
    by (Some h) is = rw (own_law l h is) (few_by (own_place h) l)

-- a line that isn't a routine's brings in what is no local yet
abbrev IsOther : Option Head → List (List ℕ) → List (List ℕ) → Type 0
IsOther (Some head.Routine) locals own = Unit {0}
IsOther _ locals own = list_any (is_among locals) own ≡ false

other_word : (whole above : List Entry) (locals : List (List ℕ)) (w : Word) → is_again_word Local w whole above locals ≡ false → list_any (is_among locals) (name_of_word w) ≡ false
other_word whole above locals (Num n) h = refl
other_word whole above locals (Name text) h = rw (neither (is_declared whole text) (is_among locals text) h).1 refl
other_word whole above locals (Mark text) h = refl

other_at : (whole above : List Entry) (locals : List (List ℕ)) (ws : List Word) → list_any (is_again whole above locals) (placed (Local ∷ []) ws) ≡ false
    → list_any (is_among locals) (name_at_place (slice_get ws 0)) ≡ false
unfolding placed
other_at whole above locals [] h = refl
other_at whole above locals (w ∷ ws) h = other_word whole above locals w (neither (is_again_word Local w whole above locals) (list_any (is_again whole above locals) (placed [] ws)) h).0

local_slot : slots_of head.Local ≡ Local ∷ []
unfolding slots_of
local_slot = refl

other_local : (whole above : List Entry) (locals : List (List ℕ)) (l : List Word) → head_of_line l ≡ Some head.Local → list_any (is_again whole above locals) (placed_in l) ≡ false
    → list_any (is_among locals) (own_in l) ≡ false
other_local whole above locals [] is h = absurd cc
other_local whole above locals (w ∷ ws) is h =
    let here : list_any (is_again whole above locals) (placed (Local ∷ []) ws) ≡ false =
    ap (λ (slots : List Slot). list_any (is_again whole above locals) (placed slots ws)) (sym local_slot) ∙ ap (λ (o : Option Head). list_any (is_again whole above locals) (placed_after o ws)) (sym is) ∙ h in
    ap (list_any (is_among locals)) (own_law (w ∷ ws) head.Local is) ∙ other_at whole above locals ws here

other_head : (whole above : List Entry) (locals : List (List ℕ)) (l : List Word) (h : Head) → head_of_line l ≡ Some h → list_any (is_again whole above locals) (placed_in l) ≡ false
    → IsOther (Some h) locals (own_in l)
other_head whole above locals l head.Routine is h = tt
other_head whole above locals l head.Local is h = other_local whole above locals l is h
other_head whole above locals l k is h = ap (list_any (is_among locals)) (own_law l k is)

other : (whole above : List Entry) (locals : List (List ℕ)) (l : List Word) (o : Option Head) → head_of_line l ≡ o → list_any (is_again whole above locals) (placed_in l) ≡ false → IsOther o locals (own_in l)
other whole above locals l None is h = ap (list_any (is_among locals)) (own_after l None is)
other whole above locals l (Some k) is h = other_head whole above locals l k is h

-- ---- the locals in force

record Held (whole : List Entry) (locals : List (List ℕ)) : Type 0 where
  named : list_all is_name locals ≡ true
  distinct : AreDistinct locals
  new : list_any (is_declared whole) locals ≡ false

record Brought (whole : List Entry) (own : List (List ℕ)) : Type 0 where
  named : list_all is_name own ≡ true
  few : length own ≤ 1
  new : list_any (is_declared whole) own ≡ false

grown : (whole : List Entry) (locals own : List (List ℕ)) → Held whole locals → Brought whole own → list_any (is_among locals) own ≡ false → Held whole (locals ++ own)
grown whole locals own held b apart = record {
  named = all_names locals own held.named b.named;
  distinct = distinct_own locals own held.distinct b.few apart;
  new = any_of (is_declared whole) locals own held.new b.new;
}

begun : (whole : List Entry) (own : List (List ℕ)) → Brought whole own → Held whole own
begun whole own b = record { named = b.named; distinct = distinct_alone own b.few; new = b.new }

held_on_head : (whole : List Entry) (locals own : List (List ℕ)) (h : Head) → Held whole locals → Brought whole own → IsOther (Some h) locals own → Held whole (locals_on (Some h) locals own)
held_on_head whole locals own head.Routine held b apart = begun whole own b
held_on_head whole locals own h held b apart = grown whole locals own held b apart

held_on : (whole : List Entry) (locals own : List (List ℕ)) (o : Option Head) → Held whole locals → Brought whole own → IsOther o locals own → Held whole (locals_on o locals own)
held_on whole locals own None held b apart = grown whole locals own held b apart
held_on whole locals own (Some h) held b apart = held_on_head whole locals own h held b apart

held_below : (whole : List (List Word)) (a : Above) (l : List Word) → name_misfits whole a l ≡ [] → form_fault l ≡ None → Held (entries_of whole) a.locals → Held (entries_of whole) (locals_below a.locals l)
held_below whole a l none form held =
    let k = keeps whole a l none in
    let b : Brought (entries_of whole) (own_in l) =
    record { named = own_are_names l form; few = one_own l; new = own_new (entries_of whole) (entries_of a.lines) a.locals (placed_in l) k.new } in
    held_on (entries_of whole) a.locals (own_in l) (head_of_line l) held b (other (entries_of whole) (entries_of a.lines) a.locals l (head_of_line l) refl k.new)

nothing_held : (whole : List Entry) → Held whole []
nothing_held whole = record { named = refl; distinct = distinct_none; new = refl }

-- ---- the names

entries_more : (ls : List (List Word)) (l : List Word) → entries_of (ls ++ l ∷ []) ≡ entries_of ls ++ declared_in l
unfolding declarations
entries_more ls l = entries_append ls (l ∷ []) ∙ ap (λ (es : List Entry). entries_of ls ++ es) (append-nil (declared_in l))

distinct_line : (whole : List (List Word)) (a : Above) (l : List Word) → name_misfits whole a l ≡ [] → AreDistinct (keys_of (entries_of a.lines)) → AreDistinct (keys_of (entries_of (a.lines ++ l ∷ [])))
distinct_line whole a l none distinct =
    let new = (keeps whole a l none).new in
    subst (λ (es : List Entry). AreDistinct (keys_of es)) (sym (entries_more a.lines l))
    (distinct_entries (entries_of a.lines) (declared_in l) distinct (one_entry l) (λ d rest is. new_entry (entries_of whole) (entries_of a.lines) a.locals (placed_in l) d rest new is))

distinct_lines : (whole : List (List Word)) (a : Above) (ls : List (List Word)) → AreWellNamed whole a ls → AreDistinct (keys_of (entries_of a.lines)) → AreDistinct (keys_of (entries_of (a.lines ++ ls)))
distinct_lines whole a [] named distinct = subst (λ (ls : List (List Word)). AreDistinct (keys_of (entries_of ls))) (sym (append-nil a.lines)) distinct
distinct_lines whole a (l ∷ ls) named distinct =
    subst (λ (all : List (List Word)). AreDistinct (keys_of (entries_of all))) (append_assoc a.lines (l ∷ []) ls)
    (distinct_lines whole (above_next a l) ls named.1 (distinct_line whole a l named.0 distinct))

no_entries : AreDistinct (keys_of (entries_of []))
unfolding declarations
no_entries = distinct_builtin

-- ---- the text

record AreNames (entries : List Entry) : Type 0 where
  named : list_all is_name (keys_of entries) ≡ true
  distinct : AreDistinct (keys_of entries)
  few : length entries ≤ 1010

none_among : (entries : List Entry) (locals : List (List ℕ)) → list_any (is_declared entries) locals ≡ false → list_any (is_among (keys_of entries)) locals ≡ false
none_among entries [] h = refl
none_among entries (n ∷ ns) h =
    let parts = neither (is_declared entries n) (list_any (is_declared entries) ns) h in
    rw (among_keys entries n, parts.0) (none_among entries ns parts.1)

scope_held : (entries : List Entry) (locals : List (List ℕ)) → AreNames entries → Held entries locals → length locals ≤ 16 → IsScope (scope_of (keys_of entries) locals)
scope_held entries locals names held few = record {
  names = names.named;
  locals = held.named;
  distinct = names.distinct;
  distinct_locals = held.distinct;
  apart = none_among entries locals held.new;
  few = omega (arith, names.few, length-keys_of entries);
  few_locals = few;
}

lines_are_scopes : (whole : List (List Word)) (a : Above) (ls : List (List Word)) → AreNames (entries_of whole) → AreWellNamed whole a ls → HaveNoFormFault ls → Held (entries_of whole) a.locals
    → AreScopes (keys_of (entries_of whole)) a.locals ls
lines_are_scopes whole a [] names named forms held = tt
lines_are_scopes whole a (l ∷ ls) names named forms held =
    let below = held_below whole a l named.0 forms.0 held in (
      scope_held (entries_of whole) (locals_below a.locals l) names below (keeps whole a l named.0).few,
      lines_are_scopes whole (above_next a l) ls names named.1 forms.1 below,
    )

pub names_are_scopes : (end : ℕ) (lines : List Line) → HaveNoFormFault (words_in lines) → own_faults end lines ≡ [] → AreScopes (keys_of (entries_of (words_in lines))) [] (words_in lines)
names_are_scopes end lines forms none =
    let named = (own_parts end lines none).0 in
    let names : AreNames (entries_of (words_in lines)) = record {
      named = entries_are_names (words_in lines) forms;
      distinct = distinct_lines (words_in lines) nothing_above (words_in lines) named no_entries;
      few = names_are_few end lines none;
    } in
    lines_are_scopes (words_in lines) nothing_above (words_in lines) names named forms (nothing_held (entries_of (words_in lines)))
