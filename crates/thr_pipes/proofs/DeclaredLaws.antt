-- The pipes that declarations declare, from the last on.
use Rattle.std.proofs.Common.{◌≡◌, ◌<◌, ◌≤◌, ◌-◌, ℕ, zero, suc, List, [], ◌∷◌, length, drop, get_or, refl, sym, ap, subst, ◌∙◌, arith, Option, Some}
use Rattle.std.specs.Prelude.{slice_get}
use Rattle.std.proofs.lemmas.Option.{slice_get_read}
use Rattle.thr_values.specs.declared.number.NameId.{NameId}
use Rattle.thr_syntax.specs.declared.tree.Item.{Item}
use Rattle.thr_syntax.specs.declared.tree.Item.TheVariants as item
use Rattle.thr_parts.specs.Tables.{Table, none, put, names}
use Rattle.thr_parts.specs.Pipes.{Pipe, new_pipe, declared_pipes}
use Rattle.thr_pipes.specs.Opening.{FitTables}

some_is : (x y : Item) → (let o : Option Item = Some x in o) ≡ Some y → x ≡ y
some_is x y e = cc

none_here : (x : Item) (items : List Item) → ((p : NameId) (n : ℕ) → x ≡ item.Pipe p n → ⊥) → declared_pipes (x ∷ items) ≡ declared_pipes items
unfolding declared_pipes
none_here (item.Pipe p n) items h = absurd (h p n refl)
none_here (item.Interface i) items h = refl
none_here (item.Limit n) items h = refl
none_here (item.Shared p n) items h = refl
none_here (item.Exception p) items h = refl
none_here (item.Status p n) items h = refl
none_here (item.Mutex p) items h = refl
none_here (item.MutexAttr p) items h = refl
none_here (item.Cond p) items h = refl
none_here (item.Attr p) items h = refl
none_here (item.Key p) items h = refl
none_here (item.Once p) items h = refl
none_here (item.Routine r) items h = refl

fits_first : (x : Item) (items : List Item) (p : NameId) (n : ℕ) → x ≡ item.Pipe p n → FitTables (x ∷ items) → p.0 < names
fits_first x items p n e fit = (subst (λ (y : Item). FitTables (y ∷ items)) e fit).0

fits_rest : (x : Item) (items : List Item) → FitTables (x ∷ items) → FitTables items
fits_rest (item.Pipe p n) items fit = fit.1
fits_rest (item.Interface i) items fit = fit
fits_rest (item.Limit n) items fit = fit
fits_rest (item.Shared p n) items fit = fit
fits_rest (item.Exception p) items fit = fit
fits_rest (item.Status p n) items fit = fit
fits_rest (item.Mutex p) items fit = fit
fits_rest (item.MutexAttr p) items fit = fit
fits_rest (item.Cond p) items fit = fit
fits_rest (item.Attr p) items fit = fit
fits_rest (item.Key p) items fit = fit
fits_rest (item.Once p) items fit = fit
fits_rest (item.Routine r) items fit = fit

pub none_left : (items : List Item) → none ≡ declared_pipes (drop (length items) items)
unfolding declared_pipes
none_left [] = refl
none_left (x ∷ items) = none_left items

-- The declarations from this place on, where one of a pipe stands there.
declares_here : (items : List Item) (i : ℕ) (p : NameId) (n : ℕ) → slice_get items i ≡ Some (item.Pipe p n) → declared_pipes (drop i items) ≡ put (declared_pipes (drop (suc i) items)) p.0 (new_pipe n)
unfolding declared_pipes
declares_here [] i p n e = absurd (cc)
declares_here (x ∷ items) zero p n e = ap (λ (it : Item). declared_pipes (it ∷ items)) (some_is x (item.Pipe p n) e)
declares_here (x ∷ items) (suc i) p n e = declares_here items i p n e

-- The same where none stands there.
declares_none : (items : List Item) (i : ℕ) (x : Item) → slice_get items i ≡ Some x → ((p : NameId) (n : ℕ) → x ≡ item.Pipe p n → ⊥) → declared_pipes (drop i items) ≡ declared_pipes (drop (suc i) items)
unfolding declared_pipes
declares_none [] i x e h = absurd (cc)
declares_none (y ∷ items) zero x e h = none_here y items (λ p n is. h p n (sym (some_is y x e) ∙ is))
declares_none (y ∷ items) (suc i) x e h = declares_none items i x e h

fits_here : (items : List Item) (i : ℕ) (p : NameId) (n : ℕ) → FitTables items → slice_get items i ≡ Some (item.Pipe p n) → p.0 < names
fits_here [] i p n fit e = absurd (cc)
fits_here (x ∷ items) zero p n fit e = fits_first x items p n (some_is x (item.Pipe p n) e) fit
fits_here (x ∷ items) (suc i) p n fit e = fits_here items i p n (fits_rest x items fit) e

-- ---- one declaration more, from the last on

back_one : (j : ℕ) → 0 < j → suc (j - 1) ≡ j
back_one j h = omega arith

pub puts_more : (items : List Item) (j : ℕ) (x : Item) (p : NameId) (n : ℕ) (pipes : Table Pipe) (pipe : Pipe) → 0 < j → j ≤ length items → x ≡ get_or items (j - 1) x → x ≡ item.Pipe p n
    → pipe ≡ new_pipe n → pipes ≡ declared_pipes (drop j items) → put pipes p.0 pipe ≡ declared_pipes (drop (j - 1) items)
puts_more items j x p n pipes pipe some within here is new e =
    ap (put pipes p.0) new ∙ ap (λ (m : Table Pipe). put m p.0 (new_pipe n)) (e ∙ ap (λ (k : ℕ). declared_pipes (drop k items)) (sym (back_one j some)))
    ∙ sym (declares_here items (j - 1) p n (slice_get_read items (length items) (j - 1) x refl (omega arith) here ∙ ap (λ (it : Item). Some it) is))

pub passes_more : (items : List Item) (j : ℕ) (x : Item) (pipes : Table Pipe) → 0 < j → j ≤ length items → x ≡ get_or items (j - 1) x → ((p : NameId) (n : ℕ) → x ≡ item.Pipe p n → ⊥)
    → pipes ≡ declared_pipes (drop j items) → pipes ≡ declared_pipes (drop (j - 1) items)
passes_more items j x pipes some within here other e =
    e ∙ ap (λ (k : ℕ). declared_pipes (drop k items)) (sym (back_one j some))
    ∙ sym (declares_none items (j - 1) x (slice_get_read items (length items) (j - 1) x refl (omega arith) here) other)

pub fits_more : (items : List Item) (j : ℕ) (x : Item) (p : NameId) (n : ℕ) → FitTables items → 0 < j → j ≤ length items → x ≡ get_or items (j - 1) x → x ≡ item.Pipe p n → p.0 < names
fits_more items j x p n fit some within here is =
    fits_here items (j - 1) p n fit (slice_get_read items (length items) (j - 1) x refl (omega arith) here ∙ ap (λ (it : Item). Some it) is)
