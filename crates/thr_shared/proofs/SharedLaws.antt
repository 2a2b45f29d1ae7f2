-- Values of shared variables in a slice and in their table.
use Rattle.std.proofs.Common.{◌≡◌, ◌≢◌, ◌<◌, ◌≤◌, ◌-◌, ℕ, zero, suc, ℤ, pos, Bool, true, false, cond, eqb, List, [], ◌∷◌, length, drop, get_or, refl, sym, ap, subst, ◌∙◌, arith, Option, Some}
use Rattle.std.specs.Prelude.{slice_get, slice_set, unwrap_or, replicate}
use Rattle.std.proofs.lemmas.Option.{unwrap_or-slice_get, slice_get_read}
use Rattle.std.proofs.lemmas.List.{get_or-set_other}
use Rattle.std.proofs.lemmas.Grind.{get_or-set_at}
use Rattle.std.proofs.lemmas.Bool.Decides.{nat_tests}
use Rattle.thr_values.specs.declared.number.NameId.{NameId}
use Rattle.thr_parts.specs.Tables.{Table, none, at, put, names}
use Rattle.thr_parts.proofs.TableLaws.{at_none, at_put}
use Rattle.thr_syntax.specs.declared.tree.Item.{Item}
use Rattle.thr_syntax.specs.declared.tree.Item.TheVariants as item
use Rattle.thr_model.specs.States.{declared_values}
use Rattle.thr_shared.specs.Shared.{FitTables, shared_of, values_in}

zero-at : (n k : ℕ) → get_or (replicate n (pos 0)) k (pos 0) ≡ pos 0
zero-at zero k = refl
zero-at (suc n) zero = refl
zero-at (suc n) (suc k) = zero-at n k

pub zeros-are : (n : ℕ) (name : NameId) → shared_of (replicate n (pos 0)) name ≡ values_in none name
zeros-are n name = unwrap_or-slice_get (replicate n (pos 0)) name.0 (pos 0) ∙ zero-at n name.0 ∙ sym (at_none name.0 (pos 0))

equal-where : (b : Bool) (k q : ℕ) → eqb k q ≡ b → b ≡ true → q ≡ k
equal-where b k q e h = grind (arith, nat_tests)

other-where : (b : Bool) (k q : ℕ) → eqb k q ≡ b → b ≡ false → q ≢ k
other-where b k q e h = λ same. grind (arith, nat_tests)

put-at : (b : Bool) (values : List ℤ) (old n : ℤ) (k q : ℕ) → k < length values → eqb k q ≡ b → get_or values q (pos 0) ≡ old → get_or (slice_set values k n) q (pos 0) ≡ cond b n old
put-at true values old n k q within e is = get_or-set_at values k q n (pos 0) (equal-where true k q e refl) within
put-at false values old n k q within e is = get_or-set_other values k q n (pos 0) (other-where false k q e refl) ∙ is

pub put-is : (values : List ℤ) (shared : Table ℤ) (k : ℕ) (n : ℤ) → k < length values → ((name : NameId) → shared_of values name ≡ values_in shared name)
    → (name : NameId) → shared_of (slice_set values k n) name ≡ values_in (put shared k n) name
put-is values shared k n within same name =
    unwrap_or-slice_get (slice_set values k n) name.0 (pos 0)
    ∙ put-at (eqb k name.0) values (at shared name.0 (pos 0)) n k name.0 within refl (sym (unwrap_or-slice_get values name.0 (pos 0)) ∙ same name)
    ∙ sym (at_put shared k name.0 n (pos 0))

-- ---- declared values

some-is : (x y : Item) → (let o : Option Item = Some x in o) ≡ Some y → x ≡ y
some-is x y e = cc

none-here : (x : Item) (items : List Item) → ((name : NameId) (n : ℤ) → x ≡ item.Shared name n → ⊥) → declared_values (x ∷ items) ≡ declared_values items
unfolding declared_values
none-here (item.Shared name n) items h = absurd (h name n refl)
none-here (item.Interface i) items h = refl
none-here (item.Limit n) items h = refl
none-here (item.Exception name) items h = refl
none-here (item.Status name n) items h = refl
none-here (item.Mutex name) items h = refl
none-here (item.MutexAttr name) items h = refl
none-here (item.Cond name) items h = refl
none-here (item.Attr name) items h = refl
none-here (item.Key name) items h = refl
none-here (item.Once name) items h = refl
none-here (item.Pipe name n) items h = refl
none-here (item.Routine r) items h = refl

fits-first : (x : Item) (items : List Item) (name : NameId) (n : ℤ) → x ≡ item.Shared name n → FitTables (x ∷ items) → name.0 < names
fits-first x items name n e fit = (subst (λ (y : Item). FitTables (y ∷ items)) e fit).0

fits-rest : (x : Item) (items : List Item) → FitTables (x ∷ items) → FitTables items
fits-rest (item.Shared name n) items fit = fit.1
fits-rest (item.Interface i) items fit = fit
fits-rest (item.Limit n) items fit = fit
fits-rest (item.Exception name) items fit = fit
fits-rest (item.Status name n) items fit = fit
fits-rest (item.Mutex name) items fit = fit
fits-rest (item.MutexAttr name) items fit = fit
fits-rest (item.Cond name) items fit = fit
fits-rest (item.Attr name) items fit = fit
fits-rest (item.Key name) items fit = fit
fits-rest (item.Once name) items fit = fit
fits-rest (item.Pipe name n) items fit = fit
fits-rest (item.Routine r) items fit = fit

pub none-left : (items : List Item) → none ≡ declared_values (drop (length items) items)
unfolding declared_values
none-left [] = refl
none-left (x ∷ items) = none-left items

-- The declarations from this place on, where one of a shared variable stands there.
pub declares-here : (items : List Item) (i : ℕ) (name : NameId) (n : ℤ) → slice_get items i ≡ Some (item.Shared name n) → declared_values (drop i items) ≡ put (declared_values (drop (suc i) items)) name.0 n
unfolding declared_values
declares-here [] i name n e = absurd (cc)
declares-here (x ∷ items) zero name n e = ap (λ (it : Item). declared_values (it ∷ items)) (some-is x (item.Shared name n) e)
declares-here (x ∷ items) (suc i) name n e = declares-here items i name n e

-- The same where none stands there.
pub declares-none : (items : List Item) (i : ℕ) (x : Item) → slice_get items i ≡ Some x → ((name : NameId) (n : ℤ) → x ≡ item.Shared name n → ⊥) → declared_values (drop i items) ≡ declared_values (drop (suc i) items)
unfolding declared_values
declares-none [] i x e h = absurd (cc)
declares-none (y ∷ items) zero x e h = none-here y items (λ name n is. h name n (sym (some-is y x e) ∙ is))
declares-none (y ∷ items) (suc i) x e h = declares-none items i x e h

pub fits-here : (items : List Item) (i : ℕ) (name : NameId) (n : ℤ) → FitTables items → slice_get items i ≡ Some (item.Shared name n) → name.0 < names
fits-here [] i name n fit e = absurd (cc)
fits-here (x ∷ items) zero name n fit e = fits-first x items name n (some-is x (item.Shared name n) e) fit
fits-here (x ∷ items) (suc i) name n fit e = fits-here items i name n (fits-rest x items fit) e

-- ---- one declaration more, from the last on

back-one : (j : ℕ) → 0 < j → suc (j - 1) ≡ j
back-one j h = omega arith

pub puts-more : (items : List Item) (j : ℕ) (x : Item) (name : NameId) (n : ℤ) (shared : Table ℤ) → 0 < j → j ≤ length items → x ≡ get_or items (j - 1) x → x ≡ item.Shared name n
    → shared ≡ declared_values (drop j items) → put shared name.0 n ≡ declared_values (drop (j - 1) items)
puts-more items j x name n shared some within here is e =
    ap (λ (m : Table ℤ). put m name.0 n) (e ∙ ap (λ (k : ℕ). declared_values (drop k items)) (sym (back-one j some)))
    ∙ sym (declares-here items (j - 1) name n (slice_get_read items (length items) (j - 1) x refl (omega arith) here ∙ ap (λ (it : Item). Some it) is))

pub passes-more : (items : List Item) (j : ℕ) (x : Item) (shared : Table ℤ) → 0 < j → j ≤ length items → x ≡ get_or items (j - 1) x → ((name : NameId) (n : ℤ) → x ≡ item.Shared name n → ⊥)
    → shared ≡ declared_values (drop j items) → shared ≡ declared_values (drop (j - 1) items)
passes-more items j x shared some within here other e =
    e ∙ ap (λ (k : ℕ). declared_values (drop k items)) (sym (back-one j some))
    ∙ sym (declares-none items (j - 1) x (slice_get_read items (length items) (j - 1) x refl (omega arith) here) other)

pub fits-more : (items : List Item) (j : ℕ) (x : Item) (name : NameId) (n : ℤ) → FitTables items → 0 < j → j ≤ length items → x ≡ get_or items (j - 1) x → x ≡ item.Shared name n → name.0 < names
fits-more items j x name n fit some within here is =
    fits-here items (j - 1) name n fit (slice_get_read items (length items) (j - 1) x refl (omega arith) here ∙ ap (λ (it : Item). Some it) is)
