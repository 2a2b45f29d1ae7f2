-- The kind of a name that the lines of a script declare is the one that its declarations give.
use Rattle.std.proofs.Common.{◌≡◌, ℕ, zero, suc, ◌+◌, ◌<◌, ◌≤◌, Bool, true, false, List, [], ◌∷◌, ◌++◌, map, length, slice_get, Option, Some, None, refl, sym, ap, subst, ◌∙◌, length-append, arith}
use Rattle.std.specs.Prelude.{◌==◌, nat_lt, if◌then◌else◌}
use Rattle.std.specs.List.{list_all}
use Rattle.std.specs.Map.{keys_of}
use Rattle.std.proofs.lemmas.Bool.Decides.{nat_tests}
use Rattle.std.proofs.lemmas.List.{length-map}
use Rattle.std.proofs.lemmas.Map.Entries.{length-keys_of}
use Rattle.thr_values.specs.Exceptions.{builtin_names}
use Rattle.thr_values.specs.declared.number.NameId.{NameId}
use Rattle.thr_syntax.specs.declared.tree.Item.{Item}
use Rattle.thr_syntax.specs.declared.tree.Script.{Script}
use Rattle.thr_syntax.specs.Spelling.{name_at}
use Rattle.thr_text.specs.declared.word.Word.{Word}
use Rattle.thr_text.specs.declared.object.Object.{Object}
use Rattle.thr_text.specs.declared.object.Object.TheVariants as object
use Rattle.thr_text.specs.NameFaults.{same_kind, has_main}
use Rattle.thr_text.specs.Reading.{Formed, own_lines, numbered_lines}
use Rattle.thr_text.specs.Tables.{Entry, builtin_entry, entries_of, declarations, kind_in}
use Rattle.thr_blocks.proofs.TreesNest.{trees_nest}
use Rattle.thr_blocks.specs.Trees.{item_nests}
use Rattle.thr_naming.proofs.EntryLaws.{names_are_few}
use Rattle.thr_resolving.specs.Scopes.{AreDistinct}
use Rattle.thr_resolving.proofs.AgainNames.{IsKnown}
use Rattle.thr_reading.specs.Naming.{AreScopes}
use Rattle.thr_reading.proofs.OneScript.{tree_lines, own_spelled, formed_nests, formed_scopes}
use Rattle.thr_reading.proofs.ReadLaws.{entry_names, words_numbered}
use Rattle.thr_trees.specs.Kinds.{declared_by, declares, is_declared_as, is_name_of}
use Rattle.thr_trees.specs.Names.{Asked, declared_of, declared_among}
use Rattle.thr_trees.proofs.Declarations.{entry_for, AreAmong, lines_declare, items_declare}
use Rattle.thr_trees.proofs.Entries.{an_entry, kind_found, kind_at}
use Rattle.thr_trees.proofs.LineFacts.{main_declared, lines_fine}
use Rattle.thr_trees.proofs.Places.{get_left, got_left, get_right, got_right, got_map, same_place}
use Rattle.thr_trees.proofs.SameKinds.{same_is, is_same}
use Rattle.thr_trees.proofs.SlotFacts.{IsKnownAs}

-- ---- the names of a script that keeps the rules

-- They are the built-in ones and then the declared ones, each once.
pub record HasNames (s : Script) : Type 0 where
  pub keys : keys_of (entries_of (own_lines s)) ≡ s.names
  pub distinct : AreDistinct s.names
  pub declared : declarations (own_lines s) ≡ map (entry_for s.names) (declared_among s.items)
  pub among : AreAmong s.names (declared_among s.items)
  pub few : length s.names ≤ 1010

some_line : (names : List (List ℕ)) (ls : List (List Word)) → has_main ls ≡ true → AreScopes names [] ls → AreDistinct names
unfolding declarations kind_in
some_line names [] main scopes = absurd cc
some_line names (l ∷ ls) main scopes = scopes.0.distinct

pub formed_nest : (s : Script) → Formed s → list_all item_nests s.items ≡ true
formed_nest s h = trees_nest s.items (formed_nests s h)

pub has_names : (s : Script) → Formed s → HasNames s
has_names s h =
    let numbered = numbered_lines 2 (own_lines s) in
    let keys : keys_of (entries_of (own_lines s)) ≡ s.names = entry_names (own_lines s) ∙ sym h.names in
    let items = items_declare s.items (formed_nest s h) in
    let d = lines_declare (entries_of (own_lines s)) s.names [] (tree_lines s) (lines_fine s h) in
    let few : length (entries_of (own_lines s)) ≤ 1010 =
    subst (λ (ls : List (List Word)). length (entries_of ls) ≤ 1010) (words_numbered 2 (own_lines s)) (names_are_few (length (own_lines s) + 2) numbered h.names_and_limits) in
    record {
      keys = keys;
      distinct = some_line s.names (own_lines s) (main_declared s h) (formed_scopes s h);
      declared = sym (ap declarations (own_spelled s h)) ∙ d.are ∙ ap (map (entry_for s.names)) items;
      among = subst (AreAmong s.names) items d.among;
      few = let same : length (keys_of (entries_of (own_lines s))) ≡ length s.names = ap length keys in omega (arith, few, same, length-keys_of (entries_of (own_lines s)));
    }

among_at : (names : List (List ℕ)) (as_all : List Asked) (q : ℕ) (a : Asked) → AreAmong names as_all → slice_get as_all q ≡ Some a → IsKnown names a.0.0
among_at names [] q a h is = absurd cc
among_at names (b ∷ as_all) zero a h is = let same : b ≡ a = cc in subst (λ (x : Asked). IsKnown names x.0.0) same h.0
among_at names (b ∷ as_all) (suc q) a h is = among_at names as_all q a h.1 is

-- ---- a declaration at its place

abbrev either : Bool → Bool → Bool
either b more = if b then true else more

either_later : (b more : Bool) → more ≡ true → either b more ≡ true
either_later true more e = refl
either_later false more e = e

either_first : (b more : Bool) → b ≡ true → either b more ≡ true
either_first b more e = ap (λ (x : Bool). either x more) e

same_test : (a b : ℕ) → a ≡ b → (b == a) ≡ true
same_test a b e = grind (arith, nat_tests)

declares_it : (x : NameId) (kind : Object) (d : Asked) → d.0.0 ≡ x.0 → d.1 ≡ kind → declares x kind (Some d) ≡ true
declares_it x kind d same is =
    ap (λ (b : Bool). if b then same_kind kind d.1 else false) (same_test d.0.0 x.0 same) ∙ ap (same_kind kind) is ∙ is_same kind

-- The declarations from here on, of which the first declares this.
item_found_by : (o : Option Asked) (items : List Item) (q : ℕ) (a : Asked) (x : NameId) (kind : Object) → slice_get (declared_of o ++ declared_among items) q ≡ Some a → a.0.0 ≡ x.0 → a.1 ≡ kind
    → ((p : ℕ) → slice_get (declared_among items) p ≡ Some a → is_declared_as items x kind ≡ true) → either (declares x kind o) (is_declared_as items x kind) ≡ true
item_found_by None items q a x kind at same is more = more q at
item_found_by (Some d) items zero a x kind at same is more =
    let here : d ≡ a = cc in
    either_first (declares x kind (Some d)) (is_declared_as items x kind) (declares_it x kind d (ap (λ (y : Asked). y.0.0) here ∙ same) (ap (λ (y : Asked). y.1) here ∙ is))
item_found_by (Some d) items (suc q) a x kind at same is more = either_later (declares x kind (Some d)) (is_declared_as items x kind) (more q at)

pub item_found : (items : List Item) (q : ℕ) (a : Asked) (x : NameId) (kind : Object) → slice_get (declared_among items) q ≡ Some a → a.0.0 ≡ x.0 → a.1 ≡ kind → is_declared_as items x kind ≡ true
item_found [] q a x kind at same is = absurd cc
item_found (i ∷ items) q a x kind at same is = item_found_by (declared_by i) items q a x kind at same is (λ p here. item_found items p a x kind here same is)

-- ---- from the lines to the declarations

abbrev pub by_place : Bool → Script → Object → NameId → Bool
by_place b s kind x = if b then same_kind kind object.Exception else is_declared_as s.items x kind

builtin_kind : (n : List ℕ) (e : Entry) → builtin_entry n ≡ e → object.Exception ≡ e.1
builtin_kind n e is = ap (λ (y : Entry). y.1) is

builtin_count : length (map builtin_entry builtin_names) ≡ 10
builtin_count = refl

low_place : (x : ℕ) → nat_lt x 10 ≡ true → x < 10
low_place x e = grind (arith, nat_tests)

high_place : (x : ℕ) → nat_lt x 10 ≡ false → 10 ≤ x
high_place x e = grind (arith, nat_tests)

-- The entry of a known name stands at the name's own place.
own_entry : (s : Script) → HasNames s → (kind : Object) (x : NameId) → IsKnownAs (entries_of (own_lines s)) s.names kind x
    → slice_get (map builtin_entry builtin_names ++ map (entry_for s.names) (declared_among s.items)) x.0 ≡ Some (name_at s.names x.0, kind)
own_entry s names kind x h =
    let entries : List Entry = entries_of (own_lines s) in
    let found = kind_found entries (name_at s.names x.0) kind h.found in
    let key : name_at s.names found.0 ≡ name_at s.names x.0 = sym (ap (λ (ns : List (List ℕ)). name_at ns found.0) names.keys) ∙ found.1.key in
    let inside : found.0 < length s.names = subst (λ (ns : List (List ℕ)). found.0 < length ns) names.keys found.1.inside in
    let place : found.0 ≡ x.0 = same_place s.names found.0 x.0 names.distinct inside h.below key in
    let split : entries ≡ map builtin_entry builtin_names ++ map (entry_for s.names) (declared_among s.items) = ap (λ (es : List Entry). map builtin_entry builtin_names ++ es) names.declared in
    sym (ap (λ (es : List Entry). slice_get es x.0) split) ∙ sym (ap (slice_get entries) place) ∙ found.1.at

low_name : (s : Script) → HasNames s → (kind : Object) (x : NameId) → IsKnownAs (entries_of (own_lines s)) s.names kind x → nat_lt x.0 10 ≡ true → same_kind kind object.Exception ≡ true
low_name s names kind x h low =
    let here = got_left (map builtin_entry builtin_names) (map (entry_for s.names) (declared_among s.items)) x.0 (name_at s.names x.0, kind)
    (let lt : x.0 < 10 = low_place x.0 low in omega (arith, lt, builtin_count)) (own_entry s names kind x h) in
    let made = got_map builtin_entry builtin_names x.0 (name_at s.names x.0, kind) here in
    let is : object.Exception ≡ kind = builtin_kind made.from (name_at s.names x.0, kind) made.is in
    ap (λ (k : Object). same_kind k object.Exception) (sym is)

high_name : (s : Script) → HasNames s → (kind : Object) (x : NameId) → IsKnownAs (entries_of (own_lines s)) s.names kind x → nat_lt x.0 10 ≡ false → is_declared_as s.items x kind ≡ true
high_name s names kind x h high =
    let e : Entry = (name_at s.names x.0, kind) in
    let there = got_right (map builtin_entry builtin_names) (map (entry_for s.names) (declared_among s.items)) x.0 e
    (let le : 10 ≤ x.0 = high_place x.0 high in omega (arith, le, builtin_count)) (own_entry s names kind x h) in
    let made = got_map (entry_for s.names) (declared_among s.items) there.place e there.at in
    let known = among_at s.names (declared_among s.items) there.place made.from names.among made.at in
    let key : name_at s.names made.from.0.0 ≡ name_at s.names x.0 = ap (λ (y : Entry). y.0) made.is in
    let same : made.from.0.0 ≡ x.0 = same_place s.names made.from.0.0 x.0 names.distinct known.below h.below key in
    item_found s.items there.place made.from x kind made.at same (ap (λ (y : Entry). y.1) made.is)

pub known_is_named : (s : Script) → HasNames s → (kind : Object) (x : NameId) → IsKnownAs (entries_of (own_lines s)) s.names kind x → is_name_of s kind x ≡ true
known_is_named s names kind x h = by (nat_lt x.0 10) refl
  where
    by : (b : Bool) → nat_lt x.0 10 ≡ b → by_place (nat_lt x.0 10) s kind x ≡ true
    by true low = ap (λ (b : Bool). by_place b s kind x) low ∙ low_name s names kind x h low
    by false high = ap (λ (b : Bool). by_place b s kind x) high ∙ high_name s names kind x h high

-- ---- from the declarations to the lines

-- What declares the name stands at a place among what is declared.
record DeclaredAt (items : List Item) (x : NameId) (kind : Object) : Type 0 where
  place : ℕ
  from : Asked
  at : slice_get (declared_among items) place ≡ Some from
  same : from.0.0 ≡ x.0
  is : from.1 ≡ kind

one_if : (b : Bool) (k l : Object) → (if b then same_kind k l else false) ≡ true → (b ≡ true) × (l ≡ k)
one_if true k l e = (refl, sym (same_is k l e))
one_if false k l e = absurd cc

same_number : (a b : ℕ) → (a == b) ≡ true → b ≡ a
same_number a b e = grind (arith, nat_tests)

item_names_by : (o : Option Asked) (items : List Item) (x : NameId) (kind : Object) (b : Bool) → declares x kind o ≡ b → either b (is_declared_as items x kind) ≡ true
    → (is_declared_as items x kind ≡ true → DeclaredAt items x kind)
    → (p : ℕ) × (a : Asked) × (slice_get (declared_of o ++ declared_among items) p ≡ Some a) × (a.0.0 ≡ x.0) × (a.1 ≡ kind)
item_names_by None items x kind true d e more = absurd cc
item_names_by None items x kind false d e more = let m = more e in (m.place, m.from, m.at, m.same, m.is)
item_names_by (Some a) items x kind true d e more = let t = one_if (x.0 == a.0.0) kind a.1 d in (0, a, refl, same_number x.0 a.0.0 t.0, t.1)
item_names_by (Some a) items x kind false d e more = let m = more e in (suc m.place, m.from, m.at, m.same, m.is)

item_names : (items : List Item) (x : NameId) (kind : Object) → is_declared_as items x kind ≡ true → DeclaredAt items x kind
item_names [] x kind e = absurd cc
item_names (i ∷ items) x kind e =
    let t = item_names_by (declared_by i) items x kind (declares x kind (declared_by i)) refl e (item_names items x kind) in
    record { place = t.0; from = t.1; at = t.2; same = t.3; is = t.4 }

map_get : {A B : Type 0} (f : A → B) (xs : List A) (q : ℕ) (x : A) → slice_get xs q ≡ Some x → slice_get (map f xs) q ≡ Some (f x)
map_get f [] q x e = absurd cc
map_get f (y ∷ xs) zero x e = let same : y ≡ x = cc in ap (λ (z : _). Some (f z)) same
map_get f (y ∷ xs) (suc q) x e = map_get f xs q x e

entries_split : (s : Script) → HasNames s → entries_of (own_lines s) ≡ map builtin_entry builtin_names ++ map (entry_for s.names) (declared_among s.items)
entries_split s names = ap (λ (es : List Entry). map builtin_entry builtin_names ++ es) names.declared

-- The entry at this place is that of a name of this kind.
known_at : (s : Script) → HasNames s → (n : List ℕ) (kind : Object) (p : ℕ) (x : NameId) → p ≡ x.0 → slice_get (entries_of (own_lines s)) p ≡ Some (n, kind) → IsKnownAs (entries_of (own_lines s)) s.names kind x
known_at s names n kind p x same at =
    let entries : List Entry = entries_of (own_lines s) in
    let here = an_entry entries n kind p at in
    let keyed : name_at s.names x.0 ≡ n = ap (name_at s.names) (sym same) ∙ sym (ap (λ (ns : List (List ℕ)). name_at ns p) names.keys) ∙ here.key in
    let inside : p < length s.names = subst (λ (ns : List (List ℕ)). p < length ns) names.keys here.inside in
    record {
      below = subst (λ (q : ℕ). q < length s.names) same inside;
      found = ap (kind_in entries) keyed ∙ kind_at entries n kind p (subst AreDistinct (sym names.keys) names.distinct) at;
    }

builtin_at : (ns : List (List ℕ)) (p : ℕ) → p < length ns → (n : List ℕ) × (slice_get (map builtin_entry ns) p ≡ Some (builtin_entry n))
builtin_at [] p lt = absurd (omega (arith, lt))
builtin_at (n ∷ ns) zero lt = (n, refl)
builtin_at (n ∷ ns) (suc p) lt = builtin_at ns p (omega (arith, lt))

ten : length builtin_names ≡ 10
ten = refl

low_known : (s : Script) → HasNames s → (kind : Object) (x : NameId) → nat_lt x.0 10 ≡ true → object.Exception ≡ kind → IsKnownAs (entries_of (own_lines s)) s.names kind x
low_known s names kind x low is =
    let here = builtin_at builtin_names x.0 (let lt : x.0 < 10 = low_place x.0 low in omega (arith, lt, ten)) in
    let left = get_left (map builtin_entry builtin_names) (map (entry_for s.names) (declared_among s.items)) x.0 (builtin_entry here.0) here.1 in
    known_at s names here.0 kind x.0 x refl
    (ap (λ (es : List Entry). slice_get es x.0) (entries_split s names) ∙ left ∙ ap (λ (k : Object). Some (let e : Entry = (here.0, k) in e)) is)

high_known : (s : Script) → HasNames s → (kind : Object) (x : NameId) → is_declared_as s.items x kind ≡ true → IsKnownAs (entries_of (own_lines s)) s.names kind x
high_known s names kind x e =
    let d = item_names s.items x kind e in
    let own : Entry = entry_for s.names d.from in
    let there = get_right (map builtin_entry builtin_names) (map (entry_for s.names) (declared_among s.items)) (10 + d.place) d.place own (omega (arith, builtin_count)) (map_get (entry_for s.names) (declared_among s.items) d.place d.from d.at) in
    let at : slice_get (entries_of (own_lines s)) (10 + d.place) ≡ Some own = ap (λ (es : List Entry). slice_get es (10 + d.place)) (entries_split s names) ∙ there in
    let known = among_at s.names (declared_among s.items) d.place d.from names.among d.at in
    let kind_is = kind_at (entries_of (own_lines s)) own.0 own.1 (10 + d.place) (subst AreDistinct (sym names.keys) names.distinct) at in
    record {
      below = subst (λ (q : ℕ). q < length s.names) d.same known.below;
      found = ap (λ (q : ℕ). kind_in (entries_of (own_lines s)) (name_at s.names q)) (sym d.same) ∙ kind_is ∙ ap Some d.is;
    }

pub named_is_known : (s : Script) → HasNames s → (kind : Object) (x : NameId) → is_name_of s kind x ≡ true → IsKnownAs (entries_of (own_lines s)) s.names kind x
named_is_known s names kind x e = by (nat_lt x.0 10) refl
  where
    by : (b : Bool) → nat_lt x.0 10 ≡ b → IsKnownAs (entries_of (own_lines s)) s.names kind x
    by true low = low_known s names kind x low (sym (same_is kind object.Exception (sym (ap (λ (b : Bool). by_place b s kind x) low) ∙ e)))
    by false high = high_known s names kind x (sym (ap (λ (b : Bool). by_place b s kind x) high) ∙ e)

-- The declarations declare the names after the built-in ones, in their order.
pub declared_place : (s : Script) → HasNames s → (q : ℕ) (a : Asked) → slice_get (declared_among s.items) q ≡ Some a → a.0.0 ≡ 10 + q
declared_place s names q a is =
    let own : Entry = entry_for s.names a in
    let there = get_right (map builtin_entry builtin_names) (map (entry_for s.names) (declared_among s.items)) (10 + q) q own (omega (arith, builtin_count)) (map_get (entry_for s.names) (declared_among s.items) q a is) in
    let at : slice_get (entries_of (own_lines s)) (10 + q) ≡ Some own = ap (λ (es : List Entry). slice_get es (10 + q)) (entries_split s names) ∙ there in
    let here = an_entry (entries_of (own_lines s)) own.0 own.1 (10 + q) at in
    let key : name_at s.names (10 + q) ≡ name_at s.names a.0.0 = sym (ap (λ (ns : List (List ℕ)). name_at ns (10 + q)) names.keys) ∙ here.key in
    let inside : 10 + q < length s.names = subst (λ (ns : List (List ℕ)). 10 + q < length ns) names.keys here.inside in
    sym (same_place s.names (10 + q) a.0.0 names.distinct inside (among_at s.names (declared_among s.items) q a names.among is).below key)

pub name_count : (s : Script) → Formed s → length s.names ≡ 10 + length (declared_among s.items)
name_count s h =
    let names = has_names s h in
    let all : length s.names ≡ length (builtin_names ++ map (λ (e : Entry). e.0) (declarations (own_lines s))) = ap length h.names in
    let declared : length (declarations (own_lines s)) ≡ length (map (entry_for s.names) (declared_among s.items)) = ap length names.declared in
    omega (arith, all, declared, ten, length-append builtin_names (map (λ (e : Entry). e.0) (declarations (own_lines s))), length-map (declarations (own_lines s)) (λ (e : Entry). e.0), length-map (declared_among s.items) (entry_for s.names))

-- A name is of one kind at most.
pub one_kind : (s : Script) → Formed s → (k l : Object) (x : NameId) → is_name_of s k x ≡ true → is_name_of s l x ≡ true → k ≡ l
one_kind s h k l x e f =
    let names = has_names s h in
    some_same k l (sym (named_is_known s names k x e).found ∙ (named_is_known s names l x f).found)
  where
    some_same : (a b : Object) → Some a ≡ Some b → a ≡ b
    some_same a b same = cc
