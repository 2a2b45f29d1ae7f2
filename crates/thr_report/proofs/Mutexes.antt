-- Declared mutexes, one declaration after another.
use Rattle.std.proofs.Common.{◌≡◌, ℕ, ◌+◌, ◌<◌, List, [], ◌∷◌, ◌++◌, map, length, drop, get_or, refl, sym, ◌∙◌, ap, append_assoc, add-one, drop-cons}
use Rattle.thr_values.specs.declared.number.NameId.{NameId}
use Rattle.thr_syntax.specs.declared.tree.Item.{Item}
use Rattle.thr_syntax.specs.declared.tree.Item.TheVariants as item
use Rattle.thr_verdict.specs.Report.{mutexes_in}

pub mutexes_more : (i : Item) (items : List Item) → mutexes_in (i ∷ items) ≡ mutexes_in (i ∷ []) ++ mutexes_in items
mutexes_more (item.Mutex m) items = refl
mutexes_more _ items = refl

map_more : {A B : Type 0} (f : A → B) (xs ys : List A) → map f (xs ++ ys) ≡ map f xs ++ map f ys
map_more f [] ys = refl
map_more f (x ∷ xs) ys = ap (λ zs. f x ∷ zs) (map_more f xs ys)

-- One declaration more.
pub one_more : {B : Type 0} (f : NameId → B) (items : List Item) (k : ℕ) (i : Item) (old new whole : List B) → k < length items → i ≡ get_or items k i → new ≡ old ++ map f (mutexes_in (i ∷ []))
    → old ++ map f (mutexes_in (drop k items)) ≡ whole → new ++ map f (mutexes_in (drop (k + 1) items)) ≡ whole
one_more f items k i old new whole low is added so =
    let left : drop k items ≡ i ∷ drop (k + 1) items = drop-cons items k i low ∙ (λ j. sym is j ∷ drop (sym (add-one k) j) items) in
    ap (λ l. l ++ map f (mutexes_in (drop (k + 1) items))) added
    ∙ append_assoc old (map f (mutexes_in (i ∷ []))) (map f (mutexes_in (drop (k + 1) items)))
    ∙ ap (λ l. old ++ l) (sym (map_more f (mutexes_in (i ∷ [])) (mutexes_in (drop (k + 1) items))))
    ∙ ap (λ l. old ++ map f l) (sym (mutexes_more i (drop (k + 1) items)))
    ∙ ap (λ (is' : List Item). old ++ map f (mutexes_in is')) (sym left)
    ∙ so
