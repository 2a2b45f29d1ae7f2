-- A table of which some entries are left is still in order.
use Rattle.std.proofs.Common.{◌≡◌, ℕ, Bool, true, false, ◌&&◌, List, [], ◌∷◌, refl, ◌∙◌, ap}
use Rattle.std.specs.List.{items_where_true}
use Rattle.std.specs.Ordering.{nat_cmp, is_lt}
use Rattle.std.specs.FinMap.Entries as entries
use Rattle.thr_parts.specs.Tables.{Table, IsCanonical}
use Rattle.thr_parts.proofs.EntryLaws.{both_true}

below_left : {A : Type 0} (x : ℕ) (bs : List Bool) (es : Table A) → entries.below_all nat_cmp x es ≡ true → entries.below_all nat_cmp x (items_where_true bs es) ≡ true
below_left x [] es h = refl
below_left x (b ∷ bs) [] h = refl
below_left x (true ∷ bs) (e ∷ es) h =
    let parts : (is_lt (nat_cmp x e.0) ≡ true) × (entries.below_all nat_cmp x es ≡ true) = both_true _ _ h in
    ap (λ b. b && entries.below_all nat_cmp x (items_where_true bs es)) parts.0 ∙ below_left x bs es parts.1
below_left x (false ∷ bs) (e ∷ es) h = below_left x bs es (both_true _ _ h).1

pub canonical_left : {A : Type 0} (bs : List Bool) (es : Table A) → IsCanonical es → IsCanonical (items_where_true bs es)
canonical_left [] es h = refl
canonical_left (b ∷ bs) [] h = refl
canonical_left (true ∷ bs) (e ∷ es) h =
    let parts : (entries.below_all nat_cmp e.0 es ≡ true) × (IsCanonical es) = both_true _ _ h in
    ap (λ b. b && entries.is_sorted nat_cmp (items_where_true bs es)) (below_left e.0 bs es parts.0) ∙ canonical_left bs es parts.1
canonical_left (false ∷ bs) (e ∷ es) h = canonical_left bs es (both_true _ _ h).1
