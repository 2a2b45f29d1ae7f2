-- A name of the kind of routines is that of a routine, and `main` is such a name.
use Rattle.std.proofs.Common.{◌≡◌, ℕ, ◌+◌, ◌<◌, ◌≤◌, Bool, true, false, List, [], ◌∷◌, length, Option, Some, None, refl, sym, ap, subst, ◌∙◌, arith}
use Rattle.std.specs.Prelude.{◌==◌, ◌&&◌, nat_lt, nat_le, if◌then◌else◌, codes, position, unwrap_or}
use Rattle.std.specs.List.{list_all}
use Rattle.std.specs.Option.{option_or}
use Rattle.std.specs.Str.{bytes_eq}
use Rattle.std.proofs.lemmas.Bool.Decides.{nat_tests}
use Rattle.std.proofs.lemmas.Slice.Eq.{bytes_eq-Decides}
use Rattle.thr_values.specs.declared.number.NameId.{NameId}
use Rattle.thr_syntax.specs.declared.tree.Item.{Item}
use Rattle.thr_syntax.specs.declared.tree.Item.TheVariants as item
use Rattle.thr_syntax.specs.declared.tree.Routine.{Routine}
use Rattle.thr_syntax.specs.declared.tree.Script.{Script}
use Rattle.thr_syntax.specs.Lines.{item_lines}
use Rattle.thr_syntax.specs.Spelling.{name_at}
use Rattle.thr_text.specs.declared.object.Object.{Object}
use Rattle.thr_text.specs.declared.object.Object.TheVariants as object
use Rattle.thr_text.specs.NameFaults.{is_of_kind, sense_of_kind}
use Rattle.thr_text.specs.Reading.{Formed, own_lines}
use Rattle.thr_text.specs.Tables.{Entry, entries_of, kind_in}
use Rattle.thr_blocks.specs.Trees.{has_some, body_nests, item_nests}
use Rattle.thr_remainder.specs.Declarations.{Entry as Place, entry_at, entry_here, entry_in, routine_of, is_same_name}
use Rattle.thr_limits.specs.Limits.{is_shallow, is_in_range, has_few_locals, has_few_names, has_few_lines, has_short_lines, within_limits}
use Rattle.thr_limits.proofs.FormedLimits.{formed_within}
use Rattle.thr_trees.specs.Kinds.{is_declared_as, is_name_of}
use Rattle.thr_trees.specs.Routines.{IsRoutine, name_with}
use Rattle.thr_trees.proofs.Entries.{kind_found}
use Rattle.thr_trees.proofs.KindsAgree.{HasNames, has_names, formed_nest, known_is_named}
use Rattle.thr_trees.proofs.LineFacts.{main_declared}
use Rattle.thr_trees.proofs.SameKinds.{same_is}
use Rattle.thr_trees.proofs.SlotFacts.{IsKnownAs}

both : (a b : Bool) → (a && b) ≡ true → (a ≡ true) × (b ≡ true)
both true b e = (refl, e)
both false b e = absurd cc

-- ---- where a routine stands

-- The routine of this name among declarations has a parameter, and few locals.
record HasEntry (line : ℕ) (items : List Item) (x : NameId) : Type 0 where
  entry : Place
  at : entry_in line items x ≡ Some entry
  some : 1 ≤ entry.locals
  few : entry.locals ≤ 16

passed : (line : ℕ) (i : Item) (items : List Item) (x : NameId) → entry_here line i x ≡ None → HasEntry (line + length (item_lines i)) items x → HasEntry line (i ∷ items) x
passed line i items x none h = record {
  entry = h.entry;
  at = ap (λ (o : Option Place). option_or o (entry_in (line + length (item_lines i)) items x)) none ∙ h.at;
  some = h.some;
  few = h.few;
}

-- A declaration of another kind declares no routine.
never : (b more : Bool) → (if (if b then false else false) then true else more) ≡ true → more ≡ true
never true more e = e
never false more e = e

some_parameter : (locals : List (List ℕ)) → has_some locals ≡ true → 1 ≤ length locals
some_parameter [] e = absurd cc
some_parameter (n ∷ locals) e = omega arith

few_locals : (n : ℕ) → nat_le n 16 ≡ true → n ≤ 16
few_locals n e = grind (arith, nat_tests)

other_way : (a b : ℕ) → (a == b) ≡ false → (b == a) ≡ false
other_way a b e = grind (arith, nat_tests)

routine_here : (line : ℕ) (r : Routine) (items : List Item) (x : NameId) → is_same_name r.name x ≡ true → has_some r.locals ≡ true → nat_le (length r.locals) 16 ≡ true
    → HasEntry line (item.Routine r ∷ items) x
routine_here line r items x same some few = record {
  entry = entry_at line r;
  at = ap (λ (b : Bool). option_or (if b then Some (entry_at line r) else None) (entry_in (line + length (item_lines (item.Routine r))) items x)) same;
  some = some_parameter r.locals some;
  few = few_locals (length r.locals) few;
}

routine_passed : (line : ℕ) (r : Routine) (items : List Item) (x : NameId) → is_same_name r.name x ≡ false
    → (is_declared_as items x object.Routine ≡ true → HasEntry (line + length (item_lines (item.Routine r))) items x)
    → is_declared_as (item.Routine r ∷ items) x object.Routine ≡ true → HasEntry line (item.Routine r ∷ items) x
routine_passed line r items x other more e =
    let not_it : (x.0 == r.name.0) ≡ false = other_way r.name.0 x.0 other in
    let later : is_declared_as items x object.Routine ≡ true = sym (ap (λ (b : Bool). if (if b then true else false) then true else is_declared_as items x object.Routine) not_it) ∙ e in
    passed line (item.Routine r) items x (ap (λ (b : Bool). if b then Some (entry_at line r) else None) other) (more later)

routine_found : (line : ℕ) (r : Routine) (items : List Item) (x : NameId) (b : Bool) → is_same_name r.name x ≡ b → has_some r.locals ≡ true → nat_le (length r.locals) 16 ≡ true
    → (is_declared_as items x object.Routine ≡ true → HasEntry (line + length (item_lines (item.Routine r))) items x)
    → is_declared_as (item.Routine r ∷ items) x object.Routine ≡ true → HasEntry line (item.Routine r ∷ items) x
routine_found line r items x true same some few more e = routine_here line r items x same some few
routine_found line r items x false other some few more e = routine_passed line r items x other more e

entry_found : (line : ℕ) (items : List Item) (x : NameId) → list_all item_nests items ≡ true → list_all has_few_locals items ≡ true → is_declared_as items x object.Routine ≡ true → HasEntry line items x
entry_found line [] x nests few e = absurd cc
entry_found line (item.Routine r ∷ items) x nests few e =
    let n = both (has_some r.locals && body_nests r.body) (list_all item_nests items) nests in
    let f = both (nat_le (length r.locals) 16) (list_all has_few_locals items) few in
    routine_found line r items x (is_same_name r.name x) refl (both (has_some r.locals) (body_nests r.body) n.0).0 f.0 (entry_found (line + length (item_lines (item.Routine r))) items x n.1 f.1) e
entry_found line (item.Interface i ∷ items) x nests few e = passed line (item.Interface i) items x refl (entry_found (line + length (item_lines (item.Interface i))) items x nests few e)
entry_found line (item.Limit n ∷ items) x nests few e = passed line (item.Limit n) items x refl (entry_found (line + length (item_lines (item.Limit n))) items x nests few e)
entry_found line (item.Shared name n ∷ items) x nests few e =
    passed line (item.Shared name n) items x refl (entry_found (line + length (item_lines (item.Shared name n))) items x nests few (never (x.0 == name.0) (is_declared_as items x object.Routine) e))
entry_found line (item.Exception name ∷ items) x nests few e =
    passed line (item.Exception name) items x refl (entry_found (line + length (item_lines (item.Exception name))) items x nests few (never (x.0 == name.0) (is_declared_as items x object.Routine) e))
entry_found line (item.Status name n ∷ items) x nests few e =
    passed line (item.Status name n) items x refl (entry_found (line + length (item_lines (item.Status name n))) items x nests few (never (x.0 == name.0) (is_declared_as items x object.Routine) e))
entry_found line (item.Mutex name ∷ items) x nests few e =
    passed line (item.Mutex name) items x refl (entry_found (line + length (item_lines (item.Mutex name))) items x nests few (never (x.0 == name.0) (is_declared_as items x object.Routine) e))
entry_found line (item.MutexAttr name ∷ items) x nests few e =
    passed line (item.MutexAttr name) items x refl (entry_found (line + length (item_lines (item.MutexAttr name))) items x nests few (never (x.0 == name.0) (is_declared_as items x object.Routine) e))
entry_found line (item.Cond name ∷ items) x nests few e =
    passed line (item.Cond name) items x refl (entry_found (line + length (item_lines (item.Cond name))) items x nests few (never (x.0 == name.0) (is_declared_as items x object.Routine) e))
entry_found line (item.Attr name ∷ items) x nests few e =
    passed line (item.Attr name) items x refl (entry_found (line + length (item_lines (item.Attr name))) items x nests few (never (x.0 == name.0) (is_declared_as items x object.Routine) e))
entry_found line (item.Key name ∷ items) x nests few e =
    passed line (item.Key name) items x refl (entry_found (line + length (item_lines (item.Key name))) items x nests few (never (x.0 == name.0) (is_declared_as items x object.Routine) e))
entry_found line (item.Once name ∷ items) x nests few e =
    passed line (item.Once name) items x refl (entry_found (line + length (item_lines (item.Once name))) items x nests few (never (x.0 == name.0) (is_declared_as items x object.Routine) e))
entry_found line (item.Pipe name n ∷ items) x nests few e =
    passed line (item.Pipe name n) items x refl (entry_found (line + length (item_lines (item.Pipe name n))) items x nests few (never (x.0 == name.0) (is_declared_as items x object.Routine) e))

-- ---- names of routines

within_few : (s : Script) → within_limits s ≡ true → list_all has_few_locals s.items ≡ true
within_few s h =
    let rest = both (list_all is_shallow s.items) (list_all has_few_locals s.items && (list_all is_in_range s.items && (has_few_names s && (has_few_lines s && has_short_lines s)))) h in
    (both (list_all has_few_locals s.items) (list_all is_in_range s.items && (has_few_names s && (has_few_lines s && has_short_lines s))) rest.1).0

declared_high : (b more : Bool) → (if b then false else more) ≡ true → more ≡ true
declared_high true more e = absurd cc
declared_high false more e = e

pub a_routine : (s : Script) → Formed s → (x : NameId) → is_name_of s object.Routine x ≡ true → IsRoutine s x
unfolding routine_of
a_routine s h x e =
    let found = entry_found 2 s.items x (formed_nest s h) (within_few s (formed_within s h)) (declared_high (nat_lt x.0 10) (is_declared_as s.items x object.Routine) e) in
    record { entry = found.entry; declared = found.at; some = found.some; few = found.few }

-- ---- the name `main`

main_kind : (o : Option Object) → is_of_kind object.Routine (sense_of_kind o) ≡ true → o ≡ Some object.Routine
main_kind None e = absurd cc
main_kind (Some k) e = ap Some (sym (same_is object.Routine k e))

same_test : (x y : List ℕ) → bytes_eq x y ≡ bytes_eq y x
same_test x y = by (bytes_eq x y) (bytes_eq y x) refl refl
  where
    by : (a b : Bool) → bytes_eq x y ≡ a → bytes_eq y x ≡ b → bytes_eq x y ≡ bytes_eq y x
    by true b e f = e ∙ sym ((bytes_eq-Decides y x).1 (sym ((bytes_eq-Decides x y).0 e)))
    by false true e f = (bytes_eq-Decides x y).1 (sym ((bytes_eq-Decides y x).0 f)) ∙ sym f
    by false false e f = e ∙ sym f

-- The name with this text stands where it is found.
place_with : (s : Script) → HasNames s → (text : List ℕ) (p : ℕ) → p < length s.names → name_at s.names p ≡ text → (name_with s text).0 ≡ p
place_with s names text p inside is =
    let tests : (λ (n : List ℕ). bytes_eq n text) ≡ bytes_eq text = λ i n. same_test n text i in
    let at : position (bytes_eq text) s.names ≡ Some p = subst (λ (n : List ℕ). position (bytes_eq n) s.names ≡ Some p) is (names.distinct p inside) in
    ap (λ (o : Option ℕ). unwrap_or o 0) (ap (λ (test : List ℕ → Bool). position test s.names) tests ∙ at)

-- Where the name `main` stands.
pub record MainStands (s : Script) : Type 0 where
  pub below : (name_with s (codes "main")).0 < length s.names
  pub text : name_at s.names (name_with s (codes "main")).0 ≡ codes "main"
  pub routine : is_name_of s object.Routine (name_with s (codes "main")) ≡ true

pub main_stands : (s : Script) → Formed s → MainStands s
main_stands s h =
    let names = has_names s h in
    let entries : List Entry = entries_of (own_lines s) in
    let found = kind_found entries (codes "main") object.Routine (main_kind (kind_in entries (codes "main")) (main_declared s h)) in
    let key : name_at s.names found.0 ≡ codes "main" = sym (ap (λ (ns : List (List ℕ)). name_at ns found.0) names.keys) ∙ found.1.key in
    let inside : found.0 < length s.names = subst (λ (ns : List (List ℕ)). found.0 < length ns) names.keys found.1.inside in
    let same : (name_with s (codes "main")).0 ≡ found.0 = place_with s names (codes "main") found.0 inside key in
    let text : name_at s.names (name_with s (codes "main")).0 ≡ codes "main" = ap (name_at s.names) same ∙ key in
    let below : (name_with s (codes "main")).0 < length s.names = subst (λ (p : ℕ). p < length s.names) (sym same) inside in
    let known : IsKnownAs entries s.names object.Routine (name_with s (codes "main")) = record { below = below; found = ap (kind_in entries) text ∙ main_kind (kind_in entries (codes "main")) (main_declared s h) } in
    record { below = below; text = text; routine = known_is_named s names object.Routine (name_with s (codes "main")) known }
