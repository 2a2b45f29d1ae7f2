-- How long tables are.
use Rattle.std.proofs.Common.{◌≡◌, ℕ, suc, ◌<◌, ◌≤◌, Bool, true, false, not, cond, eqb, List, [], ◌∷◌, length, Option, Some, None, refl, sym, arith, ◌∙◌, ap, subst}
use Rattle.std.proofs.lemmas.Bool.Decides.{nat_tests}
use Rattle.std.specs.List.{filter}
use Rattle.std.specs.Ordering.{nat_cmp}
use Rattle.std.specs.Option.{is_some}
use Rattle.std.specs.FinMap.Entries as entries
use Rattle.thr_parts.specs.Tables.{Table, get, has, cut, IsCanonical}
use Rattle.thr_parts.proofs.TableLaws.{has_get, get_cut}
use Rattle.thr_parts.proofs.EntryLaws.{both_true, above, get_cons, get_empty, get_first, cut_is}

filter_shorter : {A : Type 0} (p : A → Bool) (xs : List A) → length (filter p xs) ≤ length xs
filter_shorter p [] = omega arith
filter_shorter p (x ∷ xs) =
    let rest : length (filter p xs) ≤ length xs = filter_shorter p xs in
    elim (p x) as (λ b. length (cond b (x ∷ filter p xs) (filter p xs)) ≤ suc (length xs)) [ true ↦ omega (arith, rest) | false ↦ omega (arith, rest) ]

abbrev others : {A : Type 0} → ℕ → ℕ × A → Bool
others k e = not (eqb k e.0)

turned_test : (k n : ℕ) → eqb k n ≡ eqb n k
turned_test k n = grind (arith, nat_tests)

one_head : {A : Type 0} (k : ℕ) (e : ℕ × A) (es : Table A) (b : Bool) → eqb e.0 k ≡ b → length (filter (others k) es) ≤ length es
    → (is_some (get es k) ≡ true → length (filter (others k) es) < length es) → is_some (cond b (Some e.1) (get es k)) ≡ true
    → length (cond (not b) (e ∷ filter (others k) es) (filter (others k) es)) < suc (length es)
one_head k e es true is most rest h = omega (arith, most)
one_head k e es false is most rest h = omega (arith, rest h)

-- A table is shorter without what stands at a number.
one_less : {A : Type 0} (k : ℕ) (es : Table A) → is_some (get es k) ≡ true → length (filter (others k) es) < length es
one_less k [] h = absurd (cc (get_empty k))
one_less k (e ∷ es) h =
    subst (λ (b : Bool). length (cond (not b) (e ∷ filter (others k) es) (filter (others k) es)) < suc (length es)) (turned_test e.0 k)
    (one_head k e es (eqb e.0 k) refl (filter_shorter (others k) es) (one_less k es) (sym (ap is_some (get_cons e es k)) ∙ h))

still_there : {A : Type 0} (b : Bool) (v : A) (o : Option A) → is_some o ≡ true → is_some (cond b (Some v) o) ≡ true
still_there true v o h = refl
still_there false v o h = h

not_cut : {A : Type 0} (x q : ℕ) (o : Option A) → x < q → is_some o ≡ true → is_some (cond (eqb x q) None o) ≡ true
not_cut x q o less h = grind (arith, nat_tests)

some_value : {A : Type 0} (o : Option A) → is_some o ≡ true → (v : A) × (o ≡ Some v)
some_value None h = absurd (cc)
some_value (Some v) h = (v, refl)

-- Of two tables, the first of which has its numbers rising: if each of its numbers is one of the other's, it isn't longer.
pub not_longer : {A B : Type 0} (m : Table A) (n : Table B) → IsCanonical m → ((q : ℕ) → has m q ≡ true → has n q ≡ true) → length m ≤ length n
not_longer [] n h inside = omega arith
not_longer (e ∷ es) n h inside =
    let parts : (entries.below_all nat_cmp e.0 es ≡ true) × (entries.is_sorted nat_cmp es ≡ true) = both_true _ _ h in
    let found : is_some (get n e.0) ≡ true = sym (has_get n e.0) ∙ inside e.0 (has_get (e ∷ es) e.0 ∙ ap is_some (get_first e es)) in
    let less : length (cut n e.0) < length n = subst (λ l. length l < length n) (sym (cut_is n e.0)) (one_less e.0 n found) in
    let rest : length es ≤ length (cut n e.0) =
    not_longer es (cut n e.0) parts.1 (λ q is.
    let is_there : is_some (get es q) ≡ true = sym (has_get es q) ∙ is in
    let v : (x : _) × (get es q ≡ Some x) = some_value (get es q) is_there in
    let known : is_some (get n q) ≡ true = sym (has_get n q) ∙ inside q (has_get (e ∷ es) q ∙ ap is_some (get_cons e es q) ∙ still_there (eqb e.0 q) e.1 (get es q) is_there) in
    has_get (cut n e.0) q ∙ ap is_some (get_cut n e.0 q) ∙ not_cut e.0 q (get n q) (above e.0 q v.0 es parts.0 v.1) known) in
    omega (arith, less, rest)
