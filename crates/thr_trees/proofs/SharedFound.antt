-- A name of the kind of shared variables is declared as one, with its opening value.
use Rattle.std.proofs.Common.{◌≡◌, ℕ, ℤ, suc, Bool, true, false, List, [], ◌∷◌, slice_get, Some, refl, ap, arith}
use Rattle.std.specs.Prelude.{◌==◌, nat_lt, if◌then◌else◌}
use Rattle.std.proofs.lemmas.Bool.Decides.{nat_tests}
use Rattle.thr_values.specs.declared.number.NameId.{NameId}
use Rattle.thr_syntax.specs.declared.tree.Item.{Item}
use Rattle.thr_syntax.specs.declared.tree.Item.TheVariants as item
use Rattle.thr_syntax.specs.declared.tree.Script.{Script}
use Rattle.thr_text.specs.declared.object.Object.TheVariants as object
use Rattle.thr_trees.specs.Kinds.{is_declared_as, is_name_of}
use Rattle.thr_trees.specs.Names.{IsShared}

-- The declaration stands at this place.
record SharedIn (items : List Item) (x : NameId) : Type 0 where
  place : ℕ
  value : ℤ
  at : slice_get items place ≡ Some (item.Shared x value)

same_name : (x name : NameId) → (x.0 == name.0) ≡ true → name ≡ x
same_name x name e = let same : name.0 ≡ x.0 = grind (arith, nat_tests) in λ i. record { 0 = same i }

never : (b more : Bool) → (if (if b then false else false) then true else more) ≡ true → more ≡ true
never true more e = e
never false more e = e

later : (i : Item) (items : List Item) (x : NameId) → SharedIn items x → SharedIn (i ∷ items) x
later i items x h = record { place = suc h.place; value = h.value; at = h.at }

shared_or_later : (b : Bool) (name : NameId) (n : ℤ) (items : List Item) (x : NameId) → (x.0 == name.0) ≡ b → (if (if b then true else false) then true else is_declared_as items x object.Shared) ≡ true
    → (is_declared_as items x object.Shared ≡ true → SharedIn items x) → SharedIn (item.Shared name n ∷ items) x
shared_or_later true name n items x same e more = record { place = 0; value = n; at = ap (λ (y : NameId). Some (item.Shared y n)) (same_name x name same) }
shared_or_later false name n items x same e more = later (item.Shared name n) items x (more e)

shared_found : (items : List Item) (x : NameId) → is_declared_as items x object.Shared ≡ true → SharedIn items x
shared_found [] x e = absurd cc
shared_found (item.Shared name n ∷ items) x e = shared_or_later (x.0 == name.0) name n items x refl e (shared_found items x)
shared_found (item.Interface i ∷ items) x e = later (item.Interface i) items x (shared_found items x e)
shared_found (item.Limit n ∷ items) x e = later (item.Limit n) items x (shared_found items x e)
shared_found (item.Exception name ∷ items) x e = later (item.Exception name) items x (shared_found items x (never (x.0 == name.0) (is_declared_as items x object.Shared) e))
shared_found (item.Status name n ∷ items) x e = later (item.Status name n) items x (shared_found items x (never (x.0 == name.0) (is_declared_as items x object.Shared) e))
shared_found (item.Mutex name ∷ items) x e = later (item.Mutex name) items x (shared_found items x (never (x.0 == name.0) (is_declared_as items x object.Shared) e))
shared_found (item.MutexAttr name ∷ items) x e = later (item.MutexAttr name) items x (shared_found items x (never (x.0 == name.0) (is_declared_as items x object.Shared) e))
shared_found (item.Cond name ∷ items) x e = later (item.Cond name) items x (shared_found items x (never (x.0 == name.0) (is_declared_as items x object.Shared) e))
shared_found (item.Attr name ∷ items) x e = later (item.Attr name) items x (shared_found items x (never (x.0 == name.0) (is_declared_as items x object.Shared) e))
shared_found (item.Key name ∷ items) x e = later (item.Key name) items x (shared_found items x (never (x.0 == name.0) (is_declared_as items x object.Shared) e))
shared_found (item.Once name ∷ items) x e = later (item.Once name) items x (shared_found items x (never (x.0 == name.0) (is_declared_as items x object.Shared) e))
shared_found (item.Pipe name n ∷ items) x e = later (item.Pipe name n) items x (shared_found items x (never (x.0 == name.0) (is_declared_as items x object.Shared) e))
shared_found (item.Routine r ∷ items) x e = later (item.Routine r) items x (shared_found items x (never (x.0 == r.name.0) (is_declared_as items x object.Shared) e))

declared_high : (b more : Bool) → (if b then false else more) ≡ true → more ≡ true
declared_high true more e = absurd cc
declared_high false more e = e

pub a_shared : (s : Script) (x : NameId) → is_name_of s object.Shared x ≡ true → IsShared s x
a_shared s x e =
    let found = shared_found s.items x (declared_high (nat_lt x.0 10) (is_declared_as s.items x object.Shared) e) in
    record { place = found.place; value = found.value; declared = found.at }
