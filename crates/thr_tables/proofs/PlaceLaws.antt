-- What stands at the place of a number, and what the table is after a change there.
use Rattle.std.proofs.Common.{◌≡◌, ℕ, zero, suc, ◌<◌, ◌≤◌, Bool, true, false, not, ◌||◌, cond, eqb, ltb, List, [], ◌∷◌, length, get_or, set, Option, Some, None, refl, sym, arith, ◌∙◌, ap, subst}
use Rattle.std.proofs.lemmas.Bool.Decides.{nat_tests}
use Rattle.std.specs.List.{filter, insert, remove}
use Rattle.std.specs.Option.{is_some}
use Rattle.std.specs.Ordering.{nat_cmp, is_lt}
use Rattle.std.specs.declared.cmp.Ordering.{Ordering}
use Rattle.std.specs.declared.cmp.Ordering.TheVariants.{Less, Equal, Greater}
use Rattle.std.specs.FinMap.Entries as entries
use Rattle.thr_parts.specs.Tables.{Table, get, has, put, cut, IsCanonical}
use Rattle.thr_parts.proofs.TableLaws.{has_get, canonical_put, canonical_cut}
use Rattle.thr_parts.proofs.EntryLaws.{both_true, get_cons, get_empty, above}
use Rattle.thr_tables.specs.Places.{place, is_there, has_place}

below_parts : {A : Type 0} (e : ℕ × A) (es : Table A) → IsCanonical (e ∷ es) → (entries.below_all nat_cmp e.0 es ≡ true) × (IsCanonical es)
below_parts e es h = both_true _ _ h

less_is : (x y : ℕ) → is_lt (nat_cmp x y) ≡ true → x < y
less_is x y e = grind (arith, nat_tests)

same_number : (x y : ℕ) → eqb x y ≡ true → x ≡ y
same_number x y e = grind (arith, nat_tests)

-- ---- the place

step_up : (b : Bool) (n m : ℕ) → n ≤ m → cond b (suc n) 0 ≤ suc m
step_up true n m h = omega arith
step_up false n m h = omega arith

pub place_within : {A : Type 0} (t : ℕ) (m : Table A) → place t m ≤ length m
unfolding place
place_within t [] = omega arith
place_within t (e ∷ es) = step_up (ltb e.0 t) _ _ (place_within t es)

step_before : (x t k n : ℕ) → x < t → k < n → suc k < cond (ltb x t) (suc n) 0
step_before x t k n h g = grind (arith, nat_tests)

first_before : (x t n : ℕ) → x < t → 0 < cond (ltb x t) (suc n) 0
first_before x t n h = grind (arith, nat_tests)

all_above : {A : Type 0} (x i : ℕ) (d : ℕ × A) (es : Table A) → entries.below_all nat_cmp x es ≡ true → i < length es → x < (get_or es i d).0
all_above x i d [] h g = absurd (omega arith)
all_above x zero d (f ∷ fs) h g =
    let parts : (is_lt (nat_cmp x f.0) ≡ true) × (entries.below_all nat_cmp x fs ≡ true) = both_true _ _ h in less_is x f.0 parts.0
all_above x (suc i) d (f ∷ fs) h g =
    let parts : (is_lt (nat_cmp x f.0) ≡ true) × (entries.below_all nat_cmp x fs ≡ true) = both_true _ _ h in all_above x i d fs parts.1 (omega arith)

-- An entry of lesser number is before the place.
pub is_before_place : {A : Type 0} (t i : ℕ) (d : ℕ × A) (m : Table A) → IsCanonical m → i < length m → (get_or m i d).0 < t → i < place t m
unfolding place
is_before_place t i d [] h g l = absurd (omega arith)
is_before_place t zero d (e ∷ es) h g l = first_before e.0 t (place t es) l
is_before_place t (suc i) d (e ∷ es) h g l =
    let parts = below_parts e es h in
    let rises : e.0 < (get_or es i d).0 = all_above e.0 i d es parts.0 (omega arith) in
    step_before e.0 t i (place t es) (omega arith) (is_before_place t i d es parts.1 (omega arith) l)

step_past : (b : Bool) (k n : ℕ) → n ≤ k → cond b (suc n) 0 ≤ suc k
step_past true k n h = omega arith
step_past false k n h = omega arith

first_past : (x t n : ℕ) → t ≤ x → cond (ltb x t) (suc n) 0 ≤ 0
first_past x t n h = grind (arith, nat_tests)

-- An entry of no lesser number isn't.
pub is_past_place : {A : Type 0} (t i : ℕ) (d : ℕ × A) (m : Table A) → i < length m → t ≤ (get_or m i d).0 → place t m ≤ i
unfolding place
is_past_place t i d [] g l = absurd (omega arith)
is_past_place t zero d (e ∷ es) g l = first_past e.0 t (place t es) l
is_past_place t (suc i) d (e ∷ es) g l = step_past (ltb e.0 t) i (place t es) (is_past_place t i d es (omega arith) l)

-- The numbers rise from entry to entry.
pub rises_from : {A : Type 0} (m : Table A) (i j : ℕ) (d : ℕ × A) → IsCanonical m → i ≤ j → j < length m → (get_or m i d).0 ≤ (get_or m j d).0
rises_from [] i j d h le l = absurd (omega arith)
rises_from (e ∷ es) zero zero d h le l = omega arith
rises_from (e ∷ es) zero (suc j) d h le l =
    let above : e.0 < (get_or es j d).0 = all_above e.0 j d es (below_parts e es h).0 (omega arith) in
    omega arith
rises_from (e ∷ es) (suc i) zero d h le l = absurd (omega arith)
rises_from (e ∷ es) (suc i) (suc j) d h le l = rises_from es i j d (below_parts e es h).1 (omega arith) (omega arith)

own_first : (x n : ℕ) → cond (ltb x x) (suc n) 0 ≡ 0
own_first x n = grind (arith, nat_tests)

own_later : (x y n i : ℕ) → x < y → n ≡ i → cond (ltb x y) (suc n) 0 ≡ suc i
own_later x y n i h e = grind (arith, nat_tests)

-- An entry stands at its own place.
pub own_place : {A : Type 0} (m : Table A) (i : ℕ) (d : ℕ × A) → IsCanonical m → i < length m → place (get_or m i d).0 m ≡ i
unfolding place
own_place [] i d h l = absurd (omega arith)
own_place (e ∷ es) zero d h l = own_first e.0 (place e.0 es)
own_place (e ∷ es) (suc i) d h l =
    let parts = below_parts e es h in
    own_later e.0 (get_or es i d).0 (place (get_or es i d).0 es) i (all_above e.0 i d es parts.0 (omega arith)) (own_place es i d parts.1 (omega arith))

step_with : (z x y p q : ℕ) → x ≤ y → p ≤ q → cond (ltb z x) (suc p) 0 ≤ cond (ltb z y) (suc q) 0
step_with z x y p q h g = grind (arith, nat_tests)

-- A greater number has no earlier place.
pub places_rise : {A : Type 0} (m : Table A) (x y : ℕ) → x ≤ y → place x m ≤ place y m
unfolding place
places_rise [] x y h = omega arith
places_rise (e ∷ es) x y h = step_with e.0 x y (place x es) (place y es) h (places_rise es x y h)

at_most : (p l i : ℕ) → p ≤ l → i ≤ l → (i < l → p ≤ i) → p ≤ i
at_most p l i h g f = grind (arith, nat_tests)

at_least : {A : Type 0} (m : Table A) (n i : ℕ) (d : ℕ × A) → IsCanonical m → i ≤ length m → ((j : ℕ) → j < i → (get_or m j d).0 < n) → i ≤ place n m
at_least m n zero d h w low = omega arith
at_least m n (suc i) d h w low = let before : i < place n m = is_before_place n i d m h (omega arith) (low i (omega arith)) in omega arith

-- The place is where all before have lesser numbers and the next has none.
pub is_place : {A : Type 0} (m : Table A) (n i : ℕ) (d : ℕ × A) → IsCanonical m → i ≤ length m → ((j : ℕ) → j < i → (get_or m j d).0 < n) → (i < length m → n ≤ (get_or m i d).0) → i ≡ place n m
is_place m n i d h w low high =
    let a : i ≤ place n m = at_least m n i d h w low in
    let b : place n m ≤ i = at_most (place n m) (length m) i (place_within n m) w (λ l. is_past_place n i d m l (high l)) in
    omega (arith, a, b)

-- ---- whether the number stands there

there_by : {A : Type 0} (t : ℕ) (d f : ℕ × A) (fs : Table A) (b : Bool) → (place t fs < length fs → (get_or fs (place t fs) d).0 ≡ t → is_there t fs ≡ true)
    → cond b (suc (place t fs)) 0 < suc (length fs) → (get_or (f ∷ fs) (cond b (suc (place t fs)) 0) d).0 ≡ t → cond b (is_there t fs) (eqb f.0 t) ≡ true
there_by t d f fs true rest g e = rest (omega arith) e
there_by t d f fs false rest g e = grind (arith, nat_tests)

-- It stands there where the entry at the place has it.
pub there : {A : Type 0} (t : ℕ) (d : ℕ × A) (m : Table A) → place t m < length m → (get_or m (place t m) d).0 ≡ t → is_there t m ≡ true
unfolding place is_there
there t d [] g e = absurd (omega arith)
there t d (f ∷ fs) g e = there_by t d f fs (ltb f.0 t) (there t d fs) g e

not_past_by : (b c r : Bool) (n m : ℕ) → (m ≤ n → r ≡ false) → suc m ≤ cond b (suc n) 0 → cond b r c ≡ false
not_past_by true c r n m rest g = rest (omega arith)
not_past_by false c r n m rest g = absurd (omega arith)

pub not_past : {A : Type 0} (t : ℕ) (m : Table A) → length m ≤ place t m → is_there t m ≡ false
unfolding place is_there
not_past t [] g = refl
not_past t (f ∷ fs) g = not_past_by (ltb f.0 t) (eqb f.0 t) (is_there t fs) (place t fs) (length fs) (not_past t fs) g

other : (x y : ℕ) → (x ≡ y → ⊥) → eqb x y ≡ false
other x y n = grind (arith, nat_tests)

not_there_by : {A : Type 0} (t : ℕ) (d f : ℕ × A) (fs : Table A) (b : Bool) → (((get_or fs (place t fs) d).0 ≡ t → ⊥) → is_there t fs ≡ false)
    → ((get_or (f ∷ fs) (cond b (suc (place t fs)) 0) d).0 ≡ t → ⊥) → cond b (is_there t fs) (eqb f.0 t) ≡ false
not_there_by t d f fs true rest n = rest n
not_there_by t d f fs false rest n = other f.0 t n

pub not_there : {A : Type 0} (t : ℕ) (d : ℕ × A) (m : Table A) → ((get_or m (place t m) d).0 ≡ t → ⊥) → is_there t m ≡ false
unfolding place is_there
not_there t d [] n = refl
not_there t d (f ∷ fs) n = not_there_by t d f fs (ltb f.0 t) (not_there t d fs) n

place_there_by : (b c r : Bool) (n m : ℕ) → (r ≡ true → n < m) → cond b r c ≡ true → cond b (suc n) 0 < suc m
place_there_by true c r n m rest e = let h : n < m = rest e in omega arith
place_there_by false c r n m rest e = omega arith

pub place_of_there : {A : Type 0} (t : ℕ) (m : Table A) → is_there t m ≡ true → place t m < length m
unfolding place is_there
place_of_there t [] e = absurd (cc)
place_of_there t (f ∷ fs) e = place_there_by (ltb f.0 t) (eqb f.0 t) (is_there t fs) (place t fs) (length fs) (place_of_there t fs) e

-- ---- what stands there

nothing_some : {A : Type 0} (o : Option A) → ((v : A) → o ≡ Some v → ⊥) → o ≡ None
nothing_some None h = refl
nothing_some (Some v) h = absurd (h v refl)

passes : (x t : ℕ) → ltb x t ≡ true → eqb x t ≡ false
passes x t e = grind (arith, nat_tests)

not_between : (x t : ℕ) → ltb x t ≡ false → x < t → ⊥
not_between x t e h = grind (arith, nat_tests)

get_is_by : {A : Type 0} (t : ℕ) (d e : ℕ × A) (es : Table A) (b c : Bool) → ltb e.0 t ≡ b → eqb e.0 t ≡ c → entries.below_all nat_cmp e.0 es ≡ true
    → get es t ≡ cond (is_there t es) (Some (get_or es (place t es) d).1) None
    → cond c (Some e.1) (get es t) ≡ cond (cond b (is_there t es) c) (Some (get_or (e ∷ es) (cond b (suc (place t es)) 0) d).1) None
get_is_by t d e es true true p q below rest = absurd (cc (passes e.0 t p))
get_is_by t d e es true false p q below rest = rest
get_is_by t d e es false true p q below rest = refl
get_is_by t d e es false false p q below rest = nothing_some (get es t) (λ v s. not_between e.0 t p (above e.0 t v es below s))

-- What stands at a number is what the entry at its place has.
pub get_is : {A : Type 0} (t : ℕ) (d : ℕ × A) (m : Table A) → IsCanonical m → get m t ≡ cond (is_there t m) (Some (get_or m (place t m) d).1) None
unfolding place is_there
get_is t d [] h = get_empty t
get_is t d (e ∷ es) h = get_cons e es t ∙ get_is_by t d e es (ltb e.0 t) (eqb e.0 t) refl refl (below_parts e es h).0 (get_is t d es (below_parts e es h).1)

some_there : {A : Type 0} (b : Bool) (v : A) → is_some (cond b (Some v) None) ≡ b
some_there true v = refl
some_there false v = refl

pub has_is : {A : Type 0} (t : ℕ) (m : Table A) → IsCanonical m → has m t ≡ is_there t m
unfolding is_there
has_is t [] h = has_get [] t ∙ ap is_some (get_empty t)
has_is t (e ∷ es) h = has_get (e ∷ es) t ∙ ap is_some (get_is t e (e ∷ es) h) ∙ some_there (is_there t (e ∷ es)) _

-- ---- changes

is_greater : (x t : ℕ) → ltb x t ≡ true → nat_cmp t x ≡ Greater
is_greater x t e = grind (arith, nat_tests)

is_equal : (x t : ℕ) → eqb x t ≡ true → nat_cmp t x ≡ Equal
is_equal x t e = grind (arith, nat_tests)

is_less : (x t : ℕ) → ltb x t ≡ false → eqb x t ≡ false → nat_cmp t x ≡ Less
is_less x t e f = grind (arith, nat_tests)

cons_cond : {X : Type 0} (b : Bool) (x : X) (p q : List X) → x ∷ cond b p q ≡ cond b (x ∷ p) (x ∷ q)
cons_cond true x p q = refl
cons_cond false x p q = refl

abbrev ordered : {A : Type 0} → ℕ → A → ℕ × A → Table A → Ordering → Table A
ordered t v e es o = entries.by_order o ((t, v) ∷ e ∷ es) ((e.0, v) ∷ es) (e ∷ entries.put nat_cmp t v es)

put_is_by : {A : Type 0} (t : ℕ) (v : A) (e : ℕ × A) (es : Table A) (b c : Bool) → ltb e.0 t ≡ b → eqb e.0 t ≡ c
    → entries.put nat_cmp t v es ≡ cond (is_there t es) (set es (place t es) (t, v)) (insert es (place t es) (t, v))
    → ordered t v e es (nat_cmp t e.0) ≡ cond (cond b (is_there t es) c) (set (e ∷ es) (cond b (suc (place t es)) 0) (t, v)) (insert (e ∷ es) (cond b (suc (place t es)) 0) (t, v))
put_is_by t v e es true c p q rest = ap (ordered t v e es) (is_greater e.0 t p) ∙ ap (λ l. e ∷ l) rest ∙ cons_cond (is_there t es) e _ _
put_is_by t v e es false true p q rest = ap (ordered t v e es) (is_equal e.0 t q) ∙ ap (λ (n : ℕ). (n, v) ∷ es) (same_number e.0 t q)
put_is_by t v e es false false p q rest = ap (ordered t v e es) (is_less e.0 t p q)

-- What is put at a number that stands there takes its place, and else comes in at the place.
pub put_is : {A : Type 0} (t : ℕ) (v : A) (m : Table A) → put m t v ≡ cond (is_there t m) (set m (place t m) (t, v)) (insert m (place t m) (t, v))
unfolding place is_there put
put_is t v [] = refl
put_is t v (e ∷ es) = put_is_by t v e es (ltb e.0 t) (eqb e.0 t) refl refl (put_is t v es)

turned : (t x : ℕ) → eqb x t ≡ false → not (eqb t x) ≡ true
turned t x e = grind (arith, nat_tests)

gone : (t x : ℕ) → eqb x t ≡ true → not (eqb t x) ≡ false
gone t x e = grind (arith, nat_tests)

greater_kept : (t x y : ℕ) → t ≤ x → x < y → not (eqb t y) ≡ true
greater_kept t x y h g = grind (arith, nat_tests)

abbrev is_other : {A : Type 0} → ℕ → ℕ × A → Bool
is_other t e = not (eqb t e.0)

-- Those of greater number stay.
all_kept : {A : Type 0} (t x : ℕ) (es : Table A) → t ≤ x → entries.below_all nat_cmp x es ≡ true → filter (is_other t) es ≡ es
all_kept t x [] l h = refl
all_kept t x (f ∷ fs) l h =
    let parts : (is_lt (nat_cmp x f.0) ≡ true) × (entries.below_all nat_cmp x fs ≡ true) = both_true _ _ h in
    ap (λ b. cond b (f ∷ filter (is_other t) fs) (filter (is_other t) fs)) (greater_kept t x f.0 l (less_is x f.0 parts.0)) ∙ ap (λ l. f ∷ l) (all_kept t x fs l parts.1)

no_less : (x t : ℕ) → ltb x t ≡ false → t ≤ x
no_less x t e = grind (arith, nat_tests)

cut_by : {A : Type 0} (t : ℕ) (e : ℕ × A) (es : Table A) (b c : Bool) → ltb e.0 t ≡ b → eqb e.0 t ≡ c → entries.below_all nat_cmp e.0 es ≡ true
    → filter (is_other t) es ≡ cond (is_there t es) (remove es (place t es)) es
    → cond (not (eqb t e.0)) (e ∷ filter (is_other t) es) (filter (is_other t) es) ≡ cond (cond b (is_there t es) c) (remove (e ∷ es) (cond b (suc (place t es)) 0)) (e ∷ es)
cut_by t e es true true p q below rest = absurd (cc (passes e.0 t p))
cut_by t e es true false p q below rest = ap (λ b. cond b (e ∷ filter (is_other t) es) (filter (is_other t) es)) (turned t e.0 q) ∙ ap (λ l. e ∷ l) rest ∙ cons_cond (is_there t es) e _ _
cut_by t e es false true p q below rest = ap (λ b. cond b (e ∷ filter (is_other t) es) (filter (is_other t) es)) (gone t e.0 q) ∙ all_kept t e.0 es (no_less e.0 t p) below
cut_by t e es false false p q below rest = ap (λ b. cond b (e ∷ filter (is_other t) es) (filter (is_other t) es)) (turned t e.0 q) ∙ ap (λ l. e ∷ l) (all_kept t e.0 es (no_less e.0 t p) below)

-- What is cut is the entry at the place, where that has the number.
pub cut_place : {A : Type 0} (t : ℕ) (m : Table A) → IsCanonical m → cut m t ≡ cond (is_there t m) (remove m (place t m)) m
unfolding place is_there cut
cut_place t [] h = refl
cut_place t (e ∷ es) h = cut_by t e es (ltb e.0 t) (eqb e.0 t) refl refl (below_parts e es h).0 (cut_place t es (below_parts e es h).1)

-- ---- at the place

pub get_there : {A : Type 0} (m : Table A) (t i : ℕ) (d : ℕ × A) → IsCanonical m → i ≡ place t m → is_there t m ≡ true → Some (get_or m i d).1 ≡ get m t
get_there m t i d h at is = ap (λ n. Some (get_or m n d).1) at ∙ sym (get_is t d m h ∙ ap (λ b. cond b (Some (get_or m (place t m) d).1) None) is)

pub get_missed : {A : Type 0} (m : Table A) (t : ℕ) → IsCanonical m → is_there t m ≡ false → None ≡ get m t
get_missed [] t h is = sym (get_empty t)
get_missed (e ∷ es) t h is = sym (get_is t e (e ∷ es) h ∙ ap (λ b. cond b (Some (get_or (e ∷ es) (place t (e ∷ es)) e).1) None) is)

pub put_there : {A : Type 0} (m : Table A) (t i : ℕ) (v : A) → i ≡ place t m → is_there t m ≡ true → set m i (t, v) ≡ put m t v
put_there m t i v at is = ap (λ n. set m n (t, v)) at ∙ sym (put_is t v m ∙ ap (λ b. cond b (set m (place t m) (t, v)) (insert m (place t m) (t, v))) is)

pub put_missed : {A : Type 0} (m : Table A) (t i : ℕ) (v : A) → i ≡ place t m → is_there t m ≡ false → insert m i (t, v) ≡ put m t v
put_missed m t i v at is = ap (λ n. insert m n (t, v)) at ∙ sym (put_is t v m ∙ ap (λ b. cond b (set m (place t m) (t, v)) (insert m (place t m) (t, v))) is)

pub cut_there : {A : Type 0} (m : Table A) (t i : ℕ) → IsCanonical m → i ≡ place t m → is_there t m ≡ true → remove m i ≡ cut m t
cut_there m t i h at is = ap (remove m) at ∙ sym (cut_place t m h ∙ ap (λ b. cond b (remove m (place t m)) m) is)

pub cut_missed : {A : Type 0} (m : Table A) (t : ℕ) → IsCanonical m → is_there t m ≡ false → m ≡ cut m t
cut_missed m t h is = sym (cut_place t m h ∙ ap (λ b. cond b (remove m (place t m)) m) is)

-- Room for one more where the number isn't there.
pub room_for : {A : Type 0} (m : Table A) (t n : ℕ) → IsCanonical m → is_there t m ≡ false → has_place m t n ≡ true → length m < n
room_for m t n h is room = below (length m) n (sym (ap (λ b. b || ltb (length m) n) (has_is t m h ∙ is)) ∙ room)
  where
    below : (l n : ℕ) → ltb l n ≡ true → l < n
    below l n e = grind (arith, nat_tests)

pub not_here : {A : Type 0} (m : Table A) (t : ℕ) → IsCanonical m → is_there t m ≡ false → has m t ≡ true → ⊥
not_here m t h is e = no_two (sym (has_is t m h ∙ is) ∙ e)
  where
    no_two : false ≡ true → ⊥
    no_two e = absurd (cc)

pub there_at : {A : Type 0} (m : Table A) (t i : ℕ) (d : ℕ × A) → i ≡ place t m → i < length m → (get_or m i d).0 ≡ t → is_there t m ≡ true
there_at m t i d at h e = there t d m (subst (λ n. n < length m) at h) (ap (λ n. (get_or m n d).0) (sym at) ∙ e)

pub not_there_at : {A : Type 0} (m : Table A) (t i : ℕ) (d : ℕ × A) → i ≡ place t m → ((get_or m i d).0 ≡ t → ⊥) → is_there t m ≡ false
not_there_at m t i d at n = not_there t d m (λ e. n (ap (λ k. (get_or m k d).0) at ∙ e))

pub known_there : {A : Type 0} (m : Table A) (t : ℕ) → IsCanonical m → is_there t m ≡ true → true ≡ has m t
known_there m t h is = sym (has_is t m h ∙ is)

pub known_missed : {A : Type 0} (m : Table A) (t : ℕ) → IsCanonical m → is_there t m ≡ false → false ≡ has m t
known_missed m t h is = sym (has_is t m h ∙ is)

pub rises_put : {A : Type 0} (m n : Table A) (t : ℕ) (v : A) → IsCanonical m → n ≡ put m t v → IsCanonical n
rises_put m n t v h e = subst IsCanonical (sym e) (canonical_put m t v h)

pub rises_cut : {A : Type 0} (m n : Table A) (t : ℕ) → IsCanonical m → n ≡ cut m t → IsCanonical n
rises_cut m n t h e = subst IsCanonical (sym e) (canonical_cut m t h)
