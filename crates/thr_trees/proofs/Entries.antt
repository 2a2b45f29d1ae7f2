-- The kind of a name that stands once among entries.
use Rattle.std.proofs.Common.{◌≡◌, ℕ, zero, suc, ◌<◌, Bool, true, false, List, [], ◌∷◌, length, slice_get, Option, Some, refl, sym, ap, ◌∙◌, arith}
use Rattle.std.specs.Prelude.{if◌then◌else◌, unwrap_or}
use Rattle.std.specs.Map.{keys_of}
use Rattle.std.specs.Str.{bytes_eq}
use Rattle.std.proofs.lemmas.Map.Entries.{place_from_lookup}
use Rattle.std.proofs.lemmas.Slice.Eq.{bytes_eq-Decides}
use Rattle.thr_syntax.specs.Spelling.{name_at}
use Rattle.thr_text.specs.declared.object.Object.{Object}
use Rattle.thr_text.specs.Tables.{Entry, kind_in}
use Rattle.thr_naming.proofs.TableLaws.{kind_looked_up}
use Rattle.thr_resolving.specs.Scopes.{AreDistinct}
use Rattle.thr_trees.proofs.Places.{same_place}

-- The entry of this name and this kind stands at this place.
pub record IsEntry (es : List Entry) (name : List ℕ) (kind : Object) (place : ℕ) : Type 0 where
  pub inside : place < length (keys_of es)
  pub key : name_at (keys_of es) place ≡ name
  pub at : slice_get es place ≡ Some (name, kind)

key_at : (es : List Entry) (p : ℕ) (e : Entry) → slice_get es p ≡ Some e → name_at (keys_of es) p ≡ e.0
key_at [] p e is = absurd cc
key_at (x ∷ es) zero e is = let same : x ≡ e = cc in ap (λ (y : Entry). y.0) same
key_at (x ∷ es) (suc p) e is = key_at es p e is

key_within : (es : List Entry) (p : ℕ) (e : Entry) → slice_get es p ≡ Some e → p < length (keys_of es)
key_within [] p e is = absurd cc
key_within (x ∷ es) zero e is = omega arith
key_within (x ∷ es) (suc p) e is = let more = key_within es p e is in omega (arith, more)

pub an_entry : (es : List Entry) (name : List ℕ) (kind : Object) (p : ℕ) → slice_get es p ≡ Some (name, kind) → IsEntry es name kind p
an_entry es name kind p is = record { inside = key_within es p (name, kind) is; key = key_at es p (name, kind) is; at = is }

pub kind_found : (es : List Entry) (name : List ℕ) (kind : Object) → kind_in es name ≡ Some kind → (p : ℕ) × IsEntry es name kind p
kind_found es name kind is =
    let found = place_from_lookup (bytes_eq name) es kind (kind_looked_up es name ∙ is) in
    let same : name ≡ found.1 = (bytes_eq-Decides name found.1).0 found.3 in
    (found.0, an_entry es name kind found.0 (found.2 ∙ ap (λ (n : List ℕ). Some (let e : Entry = (n, kind) in e)) (sym same)))

either_kind : (b : Bool) (kind : Object) (o : Option Object) → ((k : Object) × (o ≡ Some k)) → (k : Object) × ((if b then Some kind else o) ≡ Some k)
either_kind true kind o more = (kind, refl)
either_kind false kind o more = more

first_kind : (es : List Entry) (x e : Entry) → x ≡ e → kind_in (x ∷ es) e.0 ≡ Some x.1
unfolding kind_in
first_kind es x e same =
    let test : bytes_eq e.0 x.0 ≡ true = (bytes_eq-Decides e.0 x.0).1 (ap (λ (y : Entry). y.0) (sym same)) in
    ap (λ (b : Bool). if b then Some x.1 else kind_in es e.0) test

some_kind : (es : List Entry) (p : ℕ) (e : Entry) → slice_get es p ≡ Some e → (k : Object) × (kind_in es e.0 ≡ Some k)
unfolding kind_in
some_kind [] p e is = absurd cc
some_kind (x ∷ es) zero e is = let same : x ≡ e = cc in (x.1, first_kind es x e same)
some_kind (x ∷ es) (suc p) e is = either_kind (bytes_eq e.0 x.0) x.1 (kind_in es e.0) (some_kind es p e is)

one_kind : (es : List Entry) (name : List ℕ) (k l : Object) (p q : ℕ) → p ≡ q → slice_get es p ≡ Some (name, k) → slice_get es q ≡ Some (name, l) → k ≡ l
one_kind es name k l p q same at here =
    let e : slice_get es p ≡ Some (name, l) = ap (slice_get es) same ∙ here in
    let both : Some (let x : Entry = (name, k) in x) ≡ Some (name, l) = sym at ∙ e in
    ap (λ (o : Option Entry). (unwrap_or o (name, k)).1) both

pub kind_at : (es : List Entry) (name : List ℕ) (kind : Object) (p : ℕ) → AreDistinct (keys_of es) → slice_get es p ≡ Some (name, kind) → kind_in es name ≡ Some kind
kind_at es name kind p distinct is =
    let some = some_kind es p (name, kind) is in
    let here = an_entry es name kind p is in
    let found = kind_found es name some.0 some.1 in
    let same : p ≡ found.0 = same_place (keys_of es) p found.0 distinct here.inside found.1.inside (here.key ∙ sym found.1.key) in
    some.1 ∙ ap Some (sym (one_kind es name kind some.0 p found.0 same is found.1.at))
