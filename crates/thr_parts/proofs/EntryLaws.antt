-- Entries of a table that pass a test, and what stands in a table whose numbers rise.
use Rattle.std.proofs.Common.{◌≡◌, ℕ, ◌<◌, Bool, true, false, not, ◌&&◌, cond, eqb, List, [], ◌∷◌, Option, Some, None, refl, sym, arith, ◌∙◌, ap, subst}
use Rattle.std.proofs.lemmas.Bool.Decides.{nat_tests}
use Rattle.std.specs.List.{filter}
use Rattle.std.specs.Ordering.{nat_cmp, is_lt}
use Rattle.std.specs.FinMap.Entries as entries
use Rattle.thr_parts.specs.Tables.{Table, get, put, cut, IsCanonical}
use Rattle.thr_parts.proofs.TableLaws.{same_test, get_put, get_cut, canonical_put, canonical_cut, same_table}

pub both_true : (a b : Bool) → (a && b) ≡ true → (a ≡ true) × (b ≡ true)
both_true true true e = (refl, refl)
both_true true false e = absurd (cc)
both_true false b e = absurd (cc)

less_is : (x y : ℕ) → is_lt (nat_cmp x y) ≡ true → x < y
less_is x y e = grind (arith, nat_tests)

same_number : (x y : ℕ) → eqb x y ≡ true → x ≡ y
same_number x y e = grind (arith, nat_tests)

other_number : (x y : ℕ) → x < y → eqb x y ≡ false
other_number x y h = grind (arith, nat_tests)

pub itself : (x : ℕ) → eqb x x ≡ true
itself x = grind (arith, nat_tests)

pub get_cons : {A : Type 0} (e : ℕ × A) (es : Table A) (q : ℕ) → get (e ∷ es) q ≡ cond (eqb e.0 q) (Some e.1) (get es q)
unfolding get
get_cons e es q = ap (λ b. cond b (Some e.1) (entries.find nat_cmp q es)) (same_test q e.0)

pub get_empty : {A : Type 0} (q : ℕ) → get {A = A} [] q ≡ None
unfolding get
get_empty q = refl

-- ---- numbers that rise

above_head : {A : Type 0} (x q : ℕ) (v : A) (f : ℕ × A) (o : Option A) (b : Bool) → x < f.0 → (o ≡ Some v → x < q) → eqb f.0 q ≡ b → cond b (Some f.1) o ≡ Some v → x < q
above_head x q v f o true h rest is e = subst (λ n. x < n) (same_number f.0 q is) h
above_head x q v f o false h rest is e = rest e

-- What stands in the rest of a table stands at a greater number.
pub above : {A : Type 0} (x q : ℕ) (v : A) (es : Table A) → entries.below_all nat_cmp x es ≡ true → get es q ≡ Some v → x < q
above x q v [] h e = absurd (cc (get_empty q))
above x q v (f ∷ fs) h e =
    let parts : (is_lt (nat_cmp x f.0) ≡ true) × (entries.below_all nat_cmp x fs ≡ true) = both_true _ _ h in
    above_head x q v f (get fs q) (eqb f.0 q) (less_is x f.0 parts.0) (above x q v fs parts.1) refl (sym (get_cons f fs q) ∙ e)

nothing_some : {A : Type 0} (o : Option A) → ((v : A) → o ≡ Some v → ⊥) → o ≡ None
nothing_some None h = refl
nothing_some (Some v) h = absurd (h v refl)

not_less : (x : ℕ) → x < x → ⊥
not_less x h = omega arith

-- Nothing stands at the number that comes before all.
pub nothing_at : {A : Type 0} (x : ℕ) (es : Table A) → entries.below_all nat_cmp x es ≡ true → get es x ≡ None
nothing_at x es h = nothing_some (get es x) (λ v e. not_less x (above x x v es h e))

pub get_behind : {A : Type 0} (e : ℕ × A) (es : Table A) (q : ℕ) (v : A) → entries.below_all nat_cmp e.0 es ≡ true → get es q ≡ Some v → get (e ∷ es) q ≡ Some v
get_behind e es q v h is = get_cons e es q ∙ ap (λ b. cond b (Some e.1) (get es q)) (other_number e.0 q (above e.0 q v es h is)) ∙ is

pub get_first : {A : Type 0} (e : ℕ × A) (es : Table A) → get (e ∷ es) e.0 ≡ Some e.1
get_first e es = get_cons e es e.0 ∙ ap (λ b. cond b (Some e.1) (get es e.0)) (itself e.0)

-- ---- entries that pass a test

unfoldable pub pass : {A : Type 0} → (ℕ × A → Bool) → ℕ → Option A → Option A
pass p q None = None
pass p q (Some v) = cond (p (q, v)) (Some v) None

pub pass_none : {A : Type 0} (p : ℕ × A → Bool) (q : ℕ) → pass p q None ≡ None
unfolding pass
pass_none p q = refl

pub pass_some : {A : Type 0} (p : ℕ × A → Bool) (q : ℕ) (v : A) → pass p q (Some v) ≡ cond (p (q, v)) (Some v) None
unfolding pass
pass_some p q v = refl

below_filter : {A : Type 0} (p : ℕ × A → Bool) (x : ℕ) (es : Table A) → entries.below_all nat_cmp x es ≡ true → entries.below_all nat_cmp x (filter p es) ≡ true
below_filter p x [] h = refl
below_filter p x (e ∷ es) h =
    let parts : (is_lt (nat_cmp x e.0) ≡ true) × (entries.below_all nat_cmp x es ≡ true) = both_true _ _ h in
    let rest : entries.below_all nat_cmp x (filter p es) ≡ true = below_filter p x es parts.1 in
    elim (p e) as (λ b. entries.below_all nat_cmp x (cond b (e ∷ filter p es) (filter p es)) ≡ true) [
      | true ↦ ap (λ b. b && entries.below_all nat_cmp x (filter p es)) parts.0 ∙ rest
      | false ↦ rest
    ]

pub canonical_filter : {A : Type 0} (p : ℕ × A → Bool) (es : Table A) → IsCanonical es → IsCanonical (filter p es)
canonical_filter p [] h = refl
canonical_filter p (e ∷ es) h =
    let parts : (entries.below_all nat_cmp e.0 es ≡ true) × (entries.is_sorted nat_cmp es ≡ true) = both_true _ _ h in
    let rest : entries.is_sorted nat_cmp (filter p es) ≡ true = canonical_filter p es parts.1 in
    elim (p e) as (λ b. entries.is_sorted nat_cmp (cond b (e ∷ filter p es) (filter p es)) ≡ true) [
      | true ↦ ap (λ b. b && entries.is_sorted nat_cmp (filter p es)) (below_filter p e.0 es parts.0) ∙ rest
      | false ↦ rest
    ]

filter_head : {A : Type 0} (p : ℕ × A → Bool) (q : ℕ) (e : ℕ × A) (es : Table A) (b c : Bool) → p e ≡ b → eqb e.0 q ≡ c → (e.0 ≡ q → get es q ≡ None)
    → get (filter p es) q ≡ pass p q (get es q) → get (cond b (e ∷ filter p es) (filter p es)) q ≡ pass p q (cond c (Some e.1) (get es q))
filter_head p q e es true true is at alone rest =
    let same : e.0 ≡ q = same_number e.0 q at in
    get_cons e (filter p es) q ∙ ap (λ d. cond d (Some e.1) (get (filter p es) q)) at
    ∙ sym (pass_some p q e.1 ∙ ap (λ n. cond (p (n, e.1)) (Some e.1) None) (sym same) ∙ ap (λ d. cond d (Some e.1) None) is)
filter_head p q e es true false is at alone rest = get_cons e (filter p es) q ∙ ap (λ d. cond d (Some e.1) (get (filter p es) q)) at ∙ rest
filter_head p q e es false true is at alone rest =
    let same : e.0 ≡ q = same_number e.0 q at in
    rest ∙ ap (pass p q) (alone same) ∙ pass_none p q
    ∙ sym (pass_some p q e.1 ∙ ap (λ n. cond (p (n, e.1)) (Some e.1) None) (sym same) ∙ ap (λ d. cond d (Some e.1) None) is)
filter_head p q e es false false is at alone rest = rest

-- What stands at a number among the entries that pass.
pub get_filter : {A : Type 0} (p : ℕ × A → Bool) (q : ℕ) (es : Table A) → IsCanonical es → get (filter p es) q ≡ pass p q (get es q)
get_filter p q [] h = get_empty q ∙ sym (ap (pass p q) (get_empty q) ∙ pass_none p q)
get_filter p q (e ∷ es) h =
    let parts : (entries.below_all nat_cmp e.0 es ≡ true) × (entries.is_sorted nat_cmp es ≡ true) = both_true _ _ h in
    filter_head p q e es (p e) (eqb e.0 q) refl refl (λ same. subst (λ n. get es n ≡ None) same (nothing_at e.0 es parts.0)) (get_filter p q es parts.1)
    ∙ ap (pass p q) (sym (get_cons e es q))

-- ---- entries that pass after a change

pass_changed : {A : Type 0} (p : ℕ × A → Bool) (k q : ℕ) (v : A) (o : Option A) (b : Bool) → p (k, v) ≡ false → eqb k q ≡ b → pass p q (cond b (Some v) o) ≡ pass p q (cond b None o)
pass_changed p k q v o true fails is = pass_some p q v ∙ ap (λ n. cond (p (n, v)) (Some v) None) (sym (same_number k q is)) ∙ ap (λ d. cond d (Some v) None) fails ∙ sym (pass_none p q)
pass_changed p k q v o false fails is = refl

-- What doesn't pass may as well be cut.
pub filter_put : {A : Type 0} (p : ℕ × A → Bool) (m : Table A) (k : ℕ) (v : A) → IsCanonical m → p (k, v) ≡ false → filter p (put m k v) ≡ filter p (cut m k)
filter_put p m k v h fails =
    same_table _ _ (canonical_filter p (put m k v) (canonical_put m k v h)) (canonical_filter p (cut m k) (canonical_cut m k h)) (λ q.
    get_filter p q (put m k v) (canonical_put m k v h) ∙ ap (pass p q) (get_put m k q v) ∙ pass_changed p k q v (get m q) (eqb k q) fails refl
    ∙ sym (get_filter p q (cut m k) (canonical_cut m k h) ∙ ap (pass p q) (get_cut m k q)))

twice_head : {A : Type 0} (p r : A → Bool) (x : A) (xs : List A) (a b : Bool) → p x ≡ a → r x ≡ b → filter p (filter r xs) ≡ filter r (filter p xs)
    → filter p (cond b (x ∷ filter r xs) (filter r xs)) ≡ filter r (cond a (x ∷ filter p xs) (filter p xs))
twice_head p r x xs true true e f rest = ap (λ c. cond c (x ∷ filter p (filter r xs)) (filter p (filter r xs))) e ∙ ap (λ l. x ∷ l) rest ∙ sym (ap (λ c. cond c (x ∷ filter r (filter p xs)) (filter r (filter p xs))) f)
twice_head p r x xs true false e f rest = rest ∙ sym (ap (λ c. cond c (x ∷ filter r (filter p xs)) (filter r (filter p xs))) f)
twice_head p r x xs false true e f rest = ap (λ c. cond c (x ∷ filter p (filter r xs)) (filter p (filter r xs))) e ∙ rest
twice_head p r x xs false false e f rest = rest

-- Two tests pass in either order.
pub filter_twice : {A : Type 0} (p r : A → Bool) (xs : List A) → filter p (filter r xs) ≡ filter r (filter p xs)
filter_twice p r [] = refl
filter_twice p r (x ∷ xs) = twice_head p r x xs (p x) (r x) refl refl (filter_twice p r xs)

alike_head : {A : Type 0} (p r t : A → Bool) (x : A) (xs : List A) (b : Bool) → r x ≡ b → (r x ≡ true → p x ≡ t x) → filter p (filter r xs) ≡ filter t (filter r xs)
    → filter p (cond b (x ∷ filter r xs) (filter r xs)) ≡ filter t (cond b (x ∷ filter r xs) (filter r xs))
alike_head p r t x xs true is alike rest =
    ap (λ c. cond c (x ∷ filter p (filter r xs)) (filter p (filter r xs))) (alike is) ∙ ap (λ l. cond (t x) (x ∷ l) l) rest
alike_head p r t x xs false is alike rest = rest

-- Tests that are alike on what passes r.
pub filter_alike : {A : Type 0} (p r t : A → Bool) → ((x : A) → r x ≡ true → p x ≡ t x) → (xs : List A) → filter p (filter r xs) ≡ filter t (filter r xs)
filter_alike p r t alike [] = refl
filter_alike p r t alike (x ∷ xs) = alike_head p r t x xs (r x) refl (alike x) (filter_alike p r t alike xs)

-- The entries but the one of this number are those of the table without it.
pub cut_is : {A : Type 0} (m : Table A) (k : ℕ) → cut m k ≡ filter (λ e. not (eqb k e.0)) m
unfolding cut
cut_is m k = refl
