-- A shared variable that is written has a declared value, and so the same variables have a value afterwards.
use Rattle.std.proofs.Common.{◌≡◌, ℕ, zero, suc, ℤ, Bool, true, false, cond, eqb, List, [], ◌∷◌, Option, Some, refl, sym, ap, subst, ◌∙◌}
use Rattle.std.specs.Prelude.{slice_get, if◌then◌else◌}
use Rattle.std.specs.Option.{is_some}
use Rattle.std.proofs.lemmas.Bool.{eqb-true, eq-eqb}
use Rattle.thr_values.specs.declared.number.NameId.{NameId}
use Rattle.thr_syntax.specs.declared.tree.Item.{Item}
use Rattle.thr_syntax.specs.declared.tree.Item.TheVariants as item
use Rattle.thr_syntax.specs.declared.tree.Script.{Script}
use Rattle.thr_text.specs.declared.object.Object.TheVariants as object
use Rattle.thr_trees.specs.Kinds.{is_name_of}
use Rattle.thr_trees.specs.Names.{IsShared}
use Rattle.thr_trees.proofs.SharedFound.{a_shared}
use Rattle.thr_parts.specs.Tables.{Table, get, has, put}
use Rattle.thr_parts.proofs.TableLaws.{has_get, get_put}
use Rattle.thr_model.specs.States.{with_writes, declared_values}
use Rattle.thr_variables.proofs.WritesNamed.{AreShared}

-- The shared variables that have a value are the declared ones.
abbrev pub AreDeclared : Script → Table ℤ → Type 0
AreDeclared s shared = (name : ℕ) → has shared name ≡ has (declared_values s.items) name

-- ---- a value that is put

has_either : (b : Bool) (v : ℤ) (o : Option ℤ) → is_some (cond b (Some v) o) ≡ (if b then true else is_some o)
has_either true v o = refl
has_either false v o = refl

has_put : (m : Table ℤ) (k q : ℕ) (v : ℤ) → has (put m k v) q ≡ (if eqb k q then true else has m q)
has_put m k q v = has_get (put m k v) q ∙ ap is_some (get_put m k q v) ∙ has_either (eqb k q) v (get m q) ∙ ap (λ (b : Bool). if eqb k q then true else b) (sym (has_get m q))

put_again : (b : Bool) (m : Table ℤ) (k q : ℕ) → eqb k q ≡ b → has m k ≡ true → (if b then true else has m q) ≡ has m q
put_again true m k q e h = sym (subst (λ (x : ℕ). has m x ≡ true) (eqb-true k q e) h)
put_again false m k q e h = refl

has_still : (m : Table ℤ) (k q : ℕ) (v : ℤ) → has m k ≡ true → has (put m k v) q ≡ has m q
has_still m k q v h = has_put m k q v ∙ put_again (eqb k q) m k q refl h

has_here : (m : Table ℤ) (k : ℕ) (v : ℤ) → has (put m k v) k ≡ true
has_here m k v = has_put m k k v ∙ ap (λ (b : Bool). if b then true else has m k) (eq-eqb k k refl)

-- ---- declared values

either_true : (b c : Bool) → c ≡ true → (if b then true else c) ≡ true
either_true true c e = refl
either_true false c e = e

has_more : (i : Item) (items : List Item) (k : ℕ) → has (declared_values items) k ≡ true → has (declared_values (i ∷ items)) k ≡ true
unfolding declared_values
has_more (item.Shared name n) items k h = has_put (declared_values items) name.0 k n ∙ either_true (eqb name.0 k) (has (declared_values items) k) h
has_more _ items k h = h

same_item : (i j : Item) → (let o : Option Item = Some i in o) ≡ Some j → i ≡ j
same_item i j e = cc

declared_has : (items : List Item) (place : ℕ) (name : NameId) (n : ℤ) → slice_get items place ≡ Some (item.Shared name n) → has (declared_values items) name.0 ≡ true
unfolding declared_values
declared_has [] place name n e = absurd (cc)
declared_has (i ∷ items) zero name n e =
    subst (λ (j : Item). has (declared_values (j ∷ items)) name.0 ≡ true) (sym (same_item i (item.Shared name n) e)) (has_here (declared_values items) name.0 n)
declared_has (i ∷ items) (suc place) name n e = has_more i items name.0 (declared_has items place name n e)

-- A shared variable has a declared value.
shared_has : (s : Script) (name : NameId) → is_name_of s object.Shared name ≡ true → has (declared_values s.items) name.0 ≡ true
shared_has s name named = let is : IsShared s name = a_shared s name named in declared_has s.items is.place name is.value is.declared

-- ---- what is written

put_declared : (s : Script) (shared : Table ℤ) (name : NameId) (v : ℤ) → is_name_of s object.Shared name ≡ true → AreDeclared s shared → AreDeclared s (put shared name.0 v)
put_declared s shared name v named all = λ q. has_still shared name.0 q v (all name.0 ∙ shared_has s name named) ∙ all q

pub writes_declared : (s : Script) (shared : Table ℤ) (ws : List (NameId × ℤ)) → AreShared s ws → AreDeclared s shared → AreDeclared s (with_writes shared ws)
writes_declared s shared [] named all = all
writes_declared s shared (w ∷ ws) named all = writes_declared s (put shared w.0.0 w.1) ws named.1 (put_declared s shared w.0 w.1 named.0 all)
