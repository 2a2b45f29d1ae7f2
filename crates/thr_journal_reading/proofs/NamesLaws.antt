-- The names of a script with their kinds.
use Rattle.std.proofs.Common.{◌≡◌, ℕ, zero, suc, ◌+◌, ◌<◌, ◌≤◌, List, [], ◌∷◌, ◌++◌, map, length, drop, get_or, slice_get, refl, sym, ap, ◌∙◌, append_assoc, append-nil, arith}
use Rattle.std.specs.Prelude.{unwrap_or, Result, Ok, Err, IfOk}
use Rattle.std.specs.Map.{keys_of}
use Rattle.std.proofs.lemmas.List.{drop_more, drop_all, length-map}
use Rattle.std.proofs.lemmas.Map.Entries.{length-keys_of}
use Rattle.thr_values.specs.Exceptions.{builtin_names}
use Rattle.thr_syntax.specs.declared.tree.Item.{Item}
use Rattle.thr_syntax.specs.declared.tree.Script.{Script}
use Rattle.thr_text.specs.declared.object.Object.{Object}
use Rattle.thr_text.specs.declared.object.Object.TheVariants as object
use Rattle.thr_text.specs.Reading.{Formed, own_lines}
use Rattle.thr_text.specs.Tables.{Entry, builtin_entry, entries_of, declarations}
use Rattle.thr_trees.specs.Kinds.{declared_by}
use Rattle.thr_trees.specs.Names.{Asked, declared_of, declared_among}
use Rattle.thr_trees.proofs.Declarations.{entry_for}
use Rattle.thr_trees.proofs.KindsAgree.{HasNames, has_names}
use Rattle.thr_journal_lines.specs.declared.names.Known.{Known}
use Rattle.thr_journal_lines.specs.Known.{entries_in}
use Rattle.thr_journal_reading.specs.Names.{kinds_of, kinds_among, builtin_kinds, first_kind, other_kinds, paired}

abbrev kinds_in : List Entry → List Object
kinds_in es = map (λ (e : Entry). e.1) es

-- Entries are their names with their kinds.
paired_again : (es : List Entry) → paired (keys_of es) (kinds_in es) ≡ es
unfolding paired
paired_again [] = refl
paired_again (e ∷ es) = ap (λ (more : List Entry). e ∷ more) (paired_again es)

kinds_append : (xs ys : List Entry) → kinds_in (xs ++ ys) ≡ kinds_in xs ++ kinds_in ys
kinds_append [] ys = refl
kinds_append (x ∷ xs) ys = ap (λ (ks : List Object). x.1 ∷ ks) (kinds_append xs ys)

kinds_declared : (names : List (List ℕ)) (asked : List Asked) → kinds_in (map (entry_for names) asked) ≡ kinds_of asked
kinds_declared names [] = refl
kinds_declared names (a ∷ asked) = ap (λ (ks : List Object). a.1 ∷ ks) (kinds_declared names asked)

kinds_builtin : kinds_in (map builtin_entry builtin_names) ≡ builtin_kinds
kinds_builtin = refl

both_kinds : (as' bs : List Asked) → kinds_of (as' ++ bs) ≡ kinds_of as' ++ kinds_of bs
both_kinds [] bs = refl
both_kinds (a ∷ as') bs = ap (λ (ks : List Object). a.1 ∷ ks) (both_kinds as' bs)

among_is : (items : List Item) → kinds_of (declared_among items) ≡ kinds_among items
among_is [] = refl
among_is (i ∷ items) = both_kinds (declared_of (declared_by i)) (declared_among items) ∙ ap (λ (ks : List Object). kinds_of (declared_of (declared_by i)) ++ ks) (among_is items)

pub names_paired : (s : Script) (kinds : List Object) → Formed s → kinds ≡ builtin_kinds ++ kinds_among s.items → paired s.names kinds ≡ entries_of (own_lines s)
names_paired s kinds h e =
    let names = has_names s h in
    let all : kinds_in (entries_of (own_lines s)) ≡ builtin_kinds ++ kinds_among s.items =
    ap (λ (es : List Entry). kinds_in (map builtin_entry builtin_names ++ es)) names.declared
    ∙ kinds_append (map builtin_entry builtin_names) (map (entry_for s.names) (declared_among s.items))
    ∙ ap (λ (ks : List Object). ks ++ kinds_in (map (entry_for s.names) (declared_among s.items))) kinds_builtin
    ∙ ap (λ (ks : List Object). builtin_kinds ++ ks) (kinds_declared s.names (declared_among s.items) ∙ among_is s.items) in
    ap (λ (ns : List (List ℕ)). paired ns kinds) (sym names.keys)
    ∙ ap (paired (keys_of (entries_of (own_lines s)))) (e ∙ sym all)
    ∙ paired_again (entries_of (own_lines s))

pub few_names : (s : Script) → Formed s → length s.names ≤ 1010
few_names s h = (has_names s h).few

-- ---- names and kinds, one after the other

one_up : (i : ℕ) → suc i + 1 ≡ suc (i + 1)
one_up i = omega arith

none_left : (n : ℕ) → drop {A = Object} n [] ≡ []
none_left zero = refl
none_left (suc n) = refl

first_left : (kinds : List Object) (i : ℕ) → first_kind (drop i kinds) ≡ unwrap_or (slice_get kinds i) object.Exception
first_left [] zero = refl
first_left [] (suc i) = refl
first_left (k ∷ kinds) zero = refl
first_left (k ∷ kinds) (suc i) = first_left kinds i

others_left : (kinds : List Object) (i : ℕ) → other_kinds (drop i kinds) ≡ drop (i + 1) kinds
others_left [] i = ap other_kinds (none_left i) ∙ sym (none_left (i + 1))
others_left (k ∷ kinds) zero = refl
others_left (k ∷ kinds) (suc i) = others_left kinds i ∙ ap (λ (n : ℕ). drop n (k ∷ kinds)) (sym (one_up i))

pub pairs_on : (names : List (List ℕ)) (kinds : List Object) (i : ℕ) (name : List ℕ) (known more : List Entry) (w : List Entry) → i < length names → name ≡ get_or names i name
    → more ≡ known ++ (name, unwrap_or (slice_get kinds i) object.Exception) ∷ [] → known ++ paired (drop i names) (drop i kinds) ≡ w → more ++ paired (drop (i + 1) names) (drop (i + 1) kinds) ≡ w
unfolding paired
pairs_on names kinds i name known more w lt here pushed so_far =
    let own : Entry = (name, unwrap_or (slice_get kinds i) object.Exception) in
    let cut : drop i names ≡ name ∷ drop (i + 1) names = drop_more names i name lt ∙ ap (λ (n : List ℕ). n ∷ drop (i + 1) names) (sym here) in
    let step : paired (drop i names) (drop i kinds) ≡ own ∷ paired (drop (i + 1) names) (drop (i + 1) kinds) =
    ap (λ (ns : List (List ℕ)). paired ns (drop i kinds)) cut
    ∙ ap (λ (k : Object). let e : Entry = (name, k) in e ∷ paired (drop (i + 1) names) (other_kinds (drop i kinds))) (first_left kinds i)
    ∙ ap (λ (ks : List Object). own ∷ paired (drop (i + 1) names) ks) (others_left kinds i) in
    ap (λ (es : List Entry). es ++ paired (drop (i + 1) names) (drop (i + 1) kinds)) pushed
    ∙ append_assoc known (own ∷ []) (paired (drop (i + 1) names) (drop (i + 1) kinds))
    ∙ ap (λ (es : List Entry). known ++ es) (sym step) ∙ so_far

pub pairs_end : (names : List (List ℕ)) (kinds : List Object) (i : ℕ) (known : List Entry) (w : List Entry) → length names ≤ i → known ++ paired (drop i names) (drop i kinds) ≡ w → known ≡ w
unfolding paired
pairs_end names kinds i known w le so_far = sym (append-nil known) ∙ ap (λ (ns : List (List ℕ)). known ++ paired ns (drop i kinds)) (sym (drop_all i names le)) ∙ so_far

-- ---- as the code keeps them

pub if_known : {A E : Type 0} (r : Result A E) (P Q : A → Type 0) → ((v : A) → P v → Q v) → IfOk r P → IfOk r Q
if_known (Ok v) P Q f h = f v h
if_known (Err e) P Q f h = tt

pub known_paired : (s : Script) (known : List Known) (names : List (List ℕ)) (kinds : List Object) → Formed s → names ≡ s.names → kinds ≡ builtin_kinds ++ kinds_among s.items → entries_in known ≡ paired names kinds
    → entries_in known ≡ entries_of (own_lines s)
known_paired s known names kinds h e f g = g ∙ ap (λ (ns : List (List ℕ)). paired ns kinds) e ∙ names_paired s kinds h f

entry_count : (known : List Known) → length (entries_in known) ≡ length known
entry_count [] = refl
entry_count (k ∷ known) = ap suc (entry_count known)

pub known_few : (s : Script) (known : List Known) (names : List (List ℕ)) (kinds : List Object) → Formed s → names ≡ s.names → kinds ≡ builtin_kinds ++ kinds_among s.items → entries_in known ≡ paired names kinds → length known ≤ 1010
known_few s known names kinds h e f g =
    let same : length (entries_in known) ≡ length (entries_of (own_lines s)) = ap length (known_paired s known names kinds h e f g) in
    let keys : length (keys_of (entries_of (own_lines s))) ≡ length s.names = ap length (has_names s h).keys in
    omega (arith, same, keys, entry_count known, length-keys_of (entries_of (own_lines s)), few_names s h)
