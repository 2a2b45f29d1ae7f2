-- Names are read as they are printed.
use Rattle.std.proofs.Common.{◌≡◌, ℕ, zero, suc, ◌+◌, ◌<◌, ◌≤◌, Bool, true, false, cond, List, [], ◌∷◌, length, get_or, Option, Some, None, refl, sym, ap, subst, ◌∙◌, arith}
use Rattle.std.specs.Prelude.{not, position, nat_lt, slice_get, unwrap_or, codes, if◌then◌else◌, ◌&&◌}
use Rattle.std.specs.List.{list_all, position_or_len}
use Rattle.std.specs.Option.{option_map}
use Rattle.std.specs.Str.{bytes_eq}
use Rattle.std.specs.Map.{keys_of}
use Rattle.std.proofs.lemmas.Bool.{ltb-true}
use Rattle.std.proofs.lemmas.Bool.Decides.{nat_tests}
use Rattle.std.proofs.lemmas.List.Sums.{passes_at_first}
use Rattle.std.proofs.lemmas.Option.{cond_some}
use Rattle.std.proofs.lemmas.Slice.Eq.{bytes_eq-Decides}
use Rattle.thr_values.specs.declared.number.NameId.{NameId}
use Rattle.thr_syntax.specs.declared.tree.Script.{Script}
use Rattle.thr_syntax.specs.Spelling.{name_at}
use Rattle.thr_text.specs.declared.object.Object.{Object}
use Rattle.thr_text.specs.Names.{is_name}
use Rattle.thr_text.specs.NameFaults.{same_kind, sense_of_kind, is_of_kind}
use Rattle.thr_text.specs.Reading.{Formed, own_lines}
use Rattle.thr_text.specs.Tables.{kind_in, entries_of}
use Rattle.thr_text.specs.Journals.{name_word}
use Rattle.thr_reading.proofs.NamesStand.{forms_have_no_fault, entries_are_names}
use Rattle.thr_trees.specs.Distinct.{AllDistinct}
use Rattle.thr_trees.specs.Kinds.{is_name_of}
use Rattle.thr_trees.proofs.Distinct.{all_distinct}
use Rattle.thr_trees.proofs.KindsAgree.{HasNames, has_names, known_is_named, named_is_known}
use Rattle.thr_trees.proofs.SameKinds.{same_is, is_same}
use Rattle.thr_trees.proofs.SlotFacts.{IsKnownAs}
use Rattle.thr_journals.specs.Fields.{Names, name_in, name}
use Rattle.thr_journal_laws.specs.Places.{IsReadAsPrinted}
use Rattle.thr_journal_laws.proofs.Shortest.{map_some}
use Rattle.thr_journal_laws.proofs.PlaceLaws.{word_read}

-- ---- the place of a name

at_place : (names : List (List ℕ)) (i : ℕ) → get_or names i [] ≡ name_at names i
at_place [] zero = refl
at_place [] (suc i) = refl
at_place (n ∷ names) zero = refl
at_place (n ∷ names) (suc i) = at_place names i

is_less : (a b : ℕ) → nat_lt a b ≡ true → a < b
is_less a b e = grind (arith, nat_tests)

pub less_is : (a b : ℕ) → a < b → nat_lt a b ≡ true
less_is a b e = grind (arith, nat_tests)

pub found_there : (w : List ℕ) (names : List (List ℕ)) (p : ℕ) → position (bytes_eq w) names ≡ Some p → (p < length names) × (w ≡ name_at names p)
found_there w names p e =
    let q = position_or_len (bytes_eq w) names in
    let s = cond_some (nat_lt q (length names)) q p e in
    let lt = is_less q (length names) s.0 in
    let passes = passes_at_first (bytes_eq w) names [] lt in
    subst (λ (k : ℕ). (k < length names) × (w ≡ name_at names k)) s.1 (lt, (bytes_eq-Decides w (get_or names q [])).0 passes ∙ at_place names q)

first_by : (b : Bool) (n q : ℕ) → (b ≡ false → n ≤ q) → cond (not b) (1 + n) 0 ≤ suc q
first_by true n q more = omega arith
first_by false n q more = let le = more refl in omega (arith, le)

first_within : (test : List ℕ → Bool) (names : List (List ℕ)) (q : ℕ) → q < length names → test (name_at names q) ≡ true → position_or_len test names ≤ q
first_within test [] q lt e = absurd (omega (arith, lt))
first_within test (n ∷ names) zero lt e = let here : test n ≡ true = e in rw here (omega arith)
first_within test (n ∷ names) (suc q) lt e = first_by (test n) (position_or_len test names) q (λ other. first_within test names q (omega (arith, lt)) e)

place_again : (names : List (List ℕ)) (q : ℕ) → AllDistinct names → q < length names → position (bytes_eq (name_at names q)) names ≡ Some q
place_again names q distinct lt =
    let w = name_at names q in
    let p = position_or_len (bytes_eq w) names in
    let within : p ≤ q = first_within (bytes_eq w) names q lt ((bytes_eq-Decides w w).1 refl) in
    let inside : p < length names = omega (arith, within, lt) in
    let passes = passes_at_first (bytes_eq w) names [] inside in
    let same : w ≡ name_at names p = (bytes_eq-Decides w (get_or names p [])).0 passes ∙ at_place names p in
    let here : p ≡ q = distinct p q inside lt (sym same) in
    ap (λ (b : Bool). cond b (Some p) None) (less_is p (length names) inside) ∙ ap Some here

-- ---- names of a kind

abbrev pub names_in : Script → Names
names_in s = entries_of (own_lines s)

kind_by : (kind : Object) (o : Option Object) → is_of_kind kind (sense_of_kind o) ≡ true → o ≡ Some kind
kind_by kind None e = absurd cc
kind_by kind (Some k) e = ap Some (sym (same_is kind k e))

name_by : (s : Script) (h : HasNames s) (kind : Object) (w : List ℕ) (id : NameId) (b : Bool) → is_of_kind kind (sense_of_kind (kind_in (names_in s) w)) ≡ b → name_in (names_in s) kind w ≡ Some id
    → (w ≡ name_word s.names id) × (is_name_of s kind id ≡ true)
name_by s h kind w id true of_kind e =
    let m = map_some (λ (n : ℕ). let made : NameId = record { 0 = n } in made) (position (bytes_eq w) (keys_of (names_in s))) id (rw of_kind at e) in
    let there = found_there w s.names m.0 (ap (position (bytes_eq w)) (sym h.keys) ∙ m.1) in
    let same : m.0 ≡ id.0 = ap (λ (x : NameId). x.0) m.2 in
    let text : w ≡ name_at s.names id.0 = there.1 ∙ ap (name_at s.names) same in
    let below : id.0 < length s.names = subst (λ (k : ℕ). k < length s.names) same there.0 in
    (text, known_is_named s h kind id (record { below = below; found = ap (kind_in (names_in s)) (sym text) ∙ kind_by kind (kind_in (names_in s) w) of_kind }))
name_by s h kind w id false of_kind e = absurd (let none : None ≡ Some id = rw of_kind at e in cc)

pub name_taken : (s : Script) → Formed s → (kind : Object) (w : List ℕ) (id : NameId) → name_in (names_in s) kind w ≡ Some id → (w ≡ name_word s.names id) × (is_name_of s kind id ≡ true)
name_taken s h kind w id e = name_by s (has_names s h) kind w id (is_of_kind kind (sense_of_kind (kind_in (names_in s) w))) refl e

pub name_again : (s : Script) → Formed s → (kind : Object) (id : NameId) → is_name_of s kind id ≡ true → name_in (names_in s) kind (name_word s.names id) ≡ Some id
name_again s h kind id e =
    let names = has_names s h in
    let known = named_is_known s names kind id e in
    let place = place_again s.names id.0 (all_distinct s.names names.distinct) known.below in
    rw (known.found, is_same kind) (ap (λ (keys : List (List ℕ)). option_map (λ (n : ℕ). let made : NameId = record { 0 = n } in made) (position (bytes_eq (name_at s.names id.0)) keys)) names.keys ∙ rw place refl)

pub name_read : (s : Script) → Formed s → (kind : Object) → IsReadAsPrinted (name (names_in s) kind) (λ id. name_word s.names id ∷ []) (λ id. is_name_of s kind id ≡ true)
name_read s h kind = word_read (name_in (names_in s) kind) (name_word s.names) (λ id. is_name_of s kind id ≡ true) (name_taken s h kind) (name_again s h kind)

-- ---- each name has the form of one, which no reserved word has

all_at : (names : List (List ℕ)) (i : ℕ) → list_all is_name names ≡ true → i < length names → is_name (name_at names i) ≡ true
all_at [] i h lt = absurd (omega (arith, lt))
all_at (n ∷ names) zero h lt = first_of_all (is_name n) (list_all is_name names) h
  where
    first_of_all : (a b : Bool) → (a && b) ≡ true → a ≡ true
    first_of_all true b e = refl
    first_of_all false b e = absurd cc
all_at (n ∷ names) (suc i) h lt = all_at names i (others (is_name n) (list_all is_name names) h) (omega (arith, lt))
  where
    others : (a b : Bool) → (a && b) ≡ true → b ≡ true
    others true b e = e
    others false b e = absurd cc

pub name_form : (s : Script) → Formed s → (kind : Object) (id : NameId) → is_name_of s kind id ≡ true → is_name (name_word s.names id) ≡ true
name_form s h kind id e =
    let names = has_names s h in
    let all : list_all is_name s.names ≡ true = ap (list_all is_name) (sym names.keys) ∙ entries_are_names (own_lines s) (forms_have_no_fault (own_lines s) h.forms) in
    all_at s.names id.0 all (named_is_known s names kind id e).below

-- A name isn't a word that is none.
pub other_word : (w reserved : List ℕ) → is_name w ≡ true → is_name reserved ≡ false → bytes_eq w reserved ≡ false
other_word w reserved yes_name no_name = by (bytes_eq w reserved) refl
  where
    clash : (b : Bool) → b ≡ true → b ≡ false → ⊥
    clash b e f = cc

    by : (b : Bool) → bytes_eq w reserved ≡ b → b ≡ false
    by true e = absurd (clash (is_name w) yes_name (ap is_name ((bytes_eq-Decides w reserved).0 e) ∙ no_name))
    by false e = refl
