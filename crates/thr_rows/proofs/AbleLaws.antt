-- The threads that can run, after a change of a seat, and what is found among them.
use Rattle.std.proofs.Common.{◌≡◌, ℕ, ◌<◌, ◌≤◌, suc, Bool, true, false, not, ◌||◌, cond, eqb, List, [], ◌∷◌, length, Option, Some, None, is_some, refl, sym, arith, ◌∙◌, ap, subst}
use Rattle.std.proofs.lemmas.Bool.Decides.{nat_tests}
use Rattle.std.specs.Prelude.{nat_lt}
use Rattle.std.specs.List.{filter, list_any}
use Rattle.thr_parts.specs.declared.row.RowId.{RowId}
use Rattle.thr_parts.specs.declared.row.RowId.TheVariants as row
use Rattle.thr_parts.specs.declared.row.Place.{Place}
use Rattle.thr_parts.specs.declared.row.Place.TheVariants.{Runs, Stands}
use Rattle.thr_parts.specs.declared.row.Seat.{Seat}
use Rattle.thr_parts.specs.Tables.{Table, none, get, has, put, cut, IsCanonical}
use Rattle.thr_parts.specs.Rows.{is_same_row, place_in}
use Rattle.thr_parts.specs.Dispatch.{runs_on, can_run}
use Rattle.thr_parts.proofs.TableLaws.{get_put, has_get, canonical_put, same_table, put_cut}
use Rattle.thr_parts.proofs.EntryLaws.{get_cons, get_empty, pass, pass_none, pass_some, canonical_filter, get_filter, filter_put, filter_twice, cut_is}
use Rattle.thr_parts.proofs.RowLaws.{same_row}
use Rattle.thr_tables.specs.Places.{has_place}
use Rattle.thr_rows.specs.Able.{able_of}
use Rattle.thr_rows.specs.Waits.{is_waiting, waiting_of, is_ready}
use Rattle.thr_rows.proofs.RememberedLaws.{length_cut, cut_missed}

abbrev can : ℕ × Seat → Bool
can e = can_run e.1.place

pub able_none : none ≡ able_of none
unfolding none
able_none = refl

-- ---- a change of one entry, among those that pass

same_number : (x y : ℕ) → eqb x y ≡ true → x ≡ y
same_number x y e = grind (arith, nat_tests)

passes_changed : {A : Type 0} (p : ℕ × A → Bool) (k q : ℕ) (v : A) (o : Option A) (b : Bool) → p (k, v) ≡ true → eqb k q ≡ b → cond b (Some v) (pass p q o) ≡ pass p q (cond b (Some v) o)
passes_changed p k q v o true passes is = sym (pass_some p q v ∙ ap (λ n. cond (p (n, v)) (Some v) None) (sym (same_number k q is)) ∙ ap (λ d. cond d (Some v) None) passes)
passes_changed p k q v o false passes is = refl

-- What passes comes to stand among those that pass.
pub filter_put_passing : {A : Type 0} (p : ℕ × A → Bool) (m : Table A) (k : ℕ) (v : A) → IsCanonical m → p (k, v) ≡ true → put (filter p m) k v ≡ filter p (put m k v)
filter_put_passing p m k v h passes =
    same_table _ _ (canonical_put (filter p m) k v (canonical_filter p m h)) (canonical_filter p (put m k v) (canonical_put m k v h)) (λ q.
    get_put (filter p m) k q v ∙ ap (λ o. cond (eqb k q) (Some v) o) (get_filter p q m h) ∙ passes_changed p k q v (get m q) (eqb k q) passes refl
    ∙ sym (get_filter p q (put m k v) (canonical_put m k v h) ∙ ap (pass p q) (get_put m k q v)))

-- What is cut is cut among those that pass.
pub filter_cut : {A : Type 0} (p : ℕ × A → Bool) (m : Table A) (k : ℕ) → cut (filter p m) k ≡ filter p (cut m k)
filter_cut p m k = cut_is (filter p m) k ∙ filter_twice (λ e. not (eqb k e.0)) p m ∙ ap (filter p) (sym (cut_is m k))

pub able_put : (m : Table Seat) (k : ℕ) (s : Seat) → IsCanonical m → can_run s.place ≡ true → put (able_of m) k s ≡ able_of (put m k s)
able_put m k s h c = filter_put_passing can m k s h c

pub able_put_waiting : (m : Table Seat) (k : ℕ) (s : Seat) → IsCanonical m → can_run s.place ≡ false → cut (able_of m) k ≡ able_of (put m k s)
able_put_waiting m k s h c = filter_cut can m k ∙ sym (filter_put can m k s h c)

pub able_cut : (m : Table Seat) (k : ℕ) → cut (able_of m) k ≡ able_of (cut m k)
able_cut m k = filter_cut can m k

-- ---- room among those that pass

at_most : {A : Type 0} (p : A → Bool) (xs : List A) → length (filter p xs) ≤ length xs
at_most p [] = omega arith
at_most p (x ∷ xs) =
    let rest : length (filter p xs) ≤ length xs = at_most p xs in
    elim (p x) as (λ b. length (cond b (x ∷ filter p xs) (filter p xs)) ≤ suc (length xs)) [
      | true ↦ omega (arith, rest)
      | false ↦ omega (arith, rest)
    ]

fewer_head : {A : Type 0} (p : ℕ × A → Bool) (e : ℕ × A) (es : Table A) (k : ℕ) (v : A) (b : Bool) → eqb e.0 k ≡ b → cond b (Some e.1) (get es k) ≡ Some v → p (k, v) ≡ false
    → (get es k ≡ Some v → length (filter p es) < length es) → length (filter p (e ∷ es)) < suc (length es)
fewer_head p e es k v true is found fails rest =
    let number : e.0 ≡ k = same_number e.0 k is in
    let value : e.1 ≡ v = inner e.1 v found in
    let out : p e ≡ false = ap (λ n. p (n, e.1)) number ∙ ap (λ w. p (k, w)) value ∙ fails in
    let few : length (filter p es) ≤ length es = at_most p es in
    subst (λ b. length (cond b (e ∷ filter p es) (filter p es)) < suc (length es)) (sym out) (omega (arith, few))
  where
    inner : {A : Type 0} (x y : A) → (let o : Option A = Some x in o) ≡ Some y → x ≡ y
    inner x y h = cc
fewer_head p e es k v false is found fails rest =
    let less : length (filter p es) < length es = rest found in
    elim (p e) as (λ b. length (cond b (e ∷ filter p es) (filter p es)) < suc (length es)) [
      | true ↦ omega (arith, less)
      | false ↦ omega (arith, less)
    ]

-- Where an entry doesn't pass, fewer pass than there are.
fewer : {A : Type 0} (p : ℕ × A → Bool) (m : Table A) (k : ℕ) (v : A) → get m k ≡ Some v → p (k, v) ≡ false → length (filter p m) < length m
fewer p [] k v found fails = absurd (cc (get_empty k))
fewer p (e ∷ es) k v found fails = fewer_head p e es k v (eqb e.0 k) refl (sym (get_cons e es k) ∙ found) fails (λ f. fewer p es k v f fails)

place_by : {A : Type 0} (p : ℕ × A → Bool) (m : Table A) (k room : ℕ) (o : Option A) → get m k ≡ o → IsCanonical m → length m ≤ room → (is_some o || nat_lt (length m) room) ≡ true → (is_some (pass p k o) || nat_lt (length (filter p m)) room) ≡ true
place_by p m k room None is h within free =
    let few : length (filter p m) ≤ length m = at_most p m in
    ap (λ o. is_some o || nat_lt (length (filter p m)) room) (pass_none p k) ∙ grind (arith, nat_tests, few, free)
place_by p m k room (Some v) is h within free = some_by p m k room v (p (k, v)) refl is within
  where
    some_by : {A : Type 0} (p : ℕ × A → Bool) (m : Table A) (k room : ℕ) (v : A) (b : Bool) → p (k, v) ≡ b → get m k ≡ Some v → length m ≤ room → (is_some (pass p k (Some v)) || nat_lt (length (filter p m)) room) ≡ true
    some_by p m k room v true passes is within = ap (λ o. is_some o || nat_lt (length (filter p m)) room) (pass_some p k v ∙ ap (λ d. cond d (Some v) None) passes)
    some_by p m k room v false fails is within =
        let few : length (filter p m) < length m = fewer p m k v is fails in
        ap (λ o. is_some o || nat_lt (length (filter p m)) room) (pass_some p k v ∙ ap (λ d. cond d (Some v) None) fails) ∙ grind (arith, nat_tests, few, within)

-- Where a number has its place in the table, it has one among those that pass.
pub able_place : (m : Table Seat) (k room : ℕ) → IsCanonical m → length m ≤ room → has_place m k room ≡ true → has_place (able_of m) k room ≡ true
able_place m k room h within free =
    ap (λ b. b || nat_lt (length (able_of m)) room) (has_get (able_of m) k ∙ ap is_some (get_filter can k m h))
    ∙ place_by can m k room (get m k) refl h within (sym (ap (λ b. b || nat_lt (length m) room) (has_get m k)) ∙ free)

-- ---- what is found among those that pass

absorbed_head : {A : Type 0} (p r : A → Bool) (x : A) (xs : List A) (a b : Bool) → p x ≡ a → r x ≡ b → (p x ≡ true → r x ≡ true) → filter p (filter r xs) ≡ filter p xs
    → filter p (cond b (x ∷ filter r xs) (filter r xs)) ≡ cond a (x ∷ filter p xs) (filter p xs)
absorbed_head p r x xs a true is at more rest = ap (λ c. cond c (x ∷ filter p (filter r xs)) (filter p (filter r xs))) is ∙ ap (λ l. cond a (x ∷ l) l) rest
absorbed_head p r x xs true false is at more rest = absurd (apart (sym (more is) ∙ at))
  where
    apart : true ≡ false → ⊥
    apart h = absurd (cc)
absorbed_head p r x xs false false is at more rest = rest

absorbed : {A : Type 0} (p r : A → Bool) → ((x : A) → p x ≡ true → r x ≡ true) → (xs : List A) → filter p (filter r xs) ≡ filter p xs
absorbed p r more [] = refl
absorbed p r more (x ∷ xs) = absorbed_head p r x xs (p x) (r x) refl refl (more x) (absorbed p r more xs)

ready_can : (s : Place) → place_in row.Ready s ≡ true → can_run s ≡ true
ready_can (Runs p slice) e = refl
ready_can (Stands row.Ready arrival) e = refl
ready_can (Stands (row.Mutex m) arrival) e = e
ready_can (Stands row.Global arrival) e = e
ready_can (Stands (row.Cond c) arrival) e = e
ready_can (Stands (row.Join t) arrival) e = e
ready_can (Stands (row.Once o) arrival) e = e
ready_can (Stands (row.Reader p) arrival) e = e
ready_can (Stands (row.Writer p) arrival) e = e
ready_can (Stands row.Time arrival) e = e

running_can : (p : ℕ) (s : Place) → runs_on p s ≡ true → can_run s ≡ true
running_can p (Runs q slice) e = refl
running_can p (Stands r arrival) e = absurd (cc)

-- Those that run on a processor are found among those that can run.
pub running_able : (p : ℕ) (m : Table Seat) → filter (λ (e : ℕ × Seat). runs_on p e.1.place) (able_of m) ≡ filter (λ (e : ℕ × Seat). runs_on p e.1.place) m
running_able p m = absorbed (λ (e : ℕ × Seat). runs_on p e.1.place) can (λ e h. running_can p e.1.place h) m

any_head : {A : Type 0} (p : A → Bool) (x : A) (xs : List A) (b : Bool) → p x ≡ b → list_any p (filter p xs) ≡ list_any p xs → list_any p (cond b (x ∷ filter p xs) (filter p xs)) ≡ (b || list_any p xs)
any_head p x xs true is rest = ap (λ b. b || list_any p (filter p xs)) is
any_head p x xs false is rest = rest

any_passing : {A : Type 0} (p : A → Bool) (xs : List A) → list_any p (filter p xs) ≡ list_any p xs
any_passing p [] = refl
any_passing p (x ∷ xs) = any_head p x xs (p x) refl (any_passing p xs)

-- Some can run where some do among those that can.
pub any_able : (m : Table Seat) → list_any can (able_of m) ≡ list_any can m
any_able m = any_passing can m

passed : {A : Type 0} (p : ℕ × A → Bool) (k : ℕ) (o : Option A) → is_some (pass p k o) ≡ true → is_some o ≡ true
passed p k None e = absurd (apart (sym (ap is_some (pass_none p k)) ∙ e))
  where
    apart : false ≡ true → ⊥
    apart h = absurd (cc)
passed p k (Some v) e = refl

-- Whoever stands among those that can run has a seat.
pub has_able : (m : Table Seat) (k : ℕ) → IsCanonical m → has (able_of m) k ≡ true → has m k ≡ true
has_able m k h e = has_get m k ∙ passed can k (get m k) (sym (has_get (able_of m) k ∙ ap is_some (get_filter can k m h)) ∙ e)

-- ---- the threads that wait

abbrev waits : ℕ × Seat → Bool
waits e = not (can_run e.1.place)

pub waiting_none : none ≡ waiting_of none
unfolding none
waiting_none = refl

waits_there : (q : ℕ) (s : Seat) (b : Bool) → can_run s.place ≡ b → is_some (cond (not b) (Some s) None) ≡ not (can_run s.place)
waits_there q s true is = sym (ap not is)
waits_there q s false is = sym (ap not is)

waiting_at : (q : ℕ) (o : Option Seat) → is_some (pass waits q o) ≡ is_waiting o
waiting_at q None = ap is_some (pass_none waits q)
waiting_at q (Some s) = ap is_some (pass_some waits q s) ∙ waits_there q s (can_run s.place) refl

pub waiting_known : (m : Table Seat) (k : ℕ) → IsCanonical m → has (waiting_of m) k ≡ is_waiting (get m k)
waiting_known m k h = has_get (waiting_of m) k ∙ ap is_some (get_filter waits k m h) ∙ waiting_at k (get m k)

pub canonical_waiting : (m : Table Seat) → IsCanonical m → IsCanonical (waiting_of m)
canonical_waiting m h = canonical_filter waits m h

pub waiting_cut : (m : Table Seat) (k : ℕ) → cut (waiting_of m) k ≡ waiting_of (cut m k)
waiting_cut m k = filter_cut waits m k

pub waiting_put_able : (m : Table Seat) (k : ℕ) (s : Seat) → IsCanonical m → can_run s.place ≡ true → cut (waiting_of m) k ≡ waiting_of (put m k s)
waiting_put_able m k s h c = filter_cut waits m k ∙ sym (filter_put waits m k s h (ap not c))

pub waiting_put : (m : Table Seat) (k : ℕ) (s : Seat) → IsCanonical m → can_run s.place ≡ false → put (cut (waiting_of m) k) k s ≡ waiting_of (put m k s)
waiting_put m k s h c = put_cut (waiting_of m) k s (canonical_waiting m h) ∙ filter_put_passing waits m k s h (ap not c)

cut_room : (m : Table Seat) (k room : ℕ) (b : Bool) → has m k ≡ b → IsCanonical m → length m ≤ room → (b || nat_lt (length m) room) ≡ true → length (cut m k) < room
cut_room m k room true is h within free = let fewer : suc (length (cut m k)) ≡ length m = length_cut m k h is in omega (arith, fewer, within)
cut_room m k room false is h within free =
    subst (λ (n : Table Seat). length n < room) (cut_missed m k h is) (past (length m) room free)
  where
    past : (x y : ℕ) → nat_lt x y ≡ true → x < y
    past x y h = grind (arith, nat_tests)

pub waiting_room : (m : Table Seat) (k room : ℕ) → IsCanonical m → length m ≤ room → has_place m k room ≡ true → length (cut (waiting_of m) k) < room
waiting_room m k room h within free =
    let few : length (waiting_of (cut m k)) ≤ length (cut m k) = at_most waits (cut m k) in
    let left : length (cut m k) < room = cut_room m k room (has m k) refl h within free in
    subst (λ (n : Table Seat). length n < room) (sym (waiting_cut m k)) (omega (arith, few, left))

-- ---- the threads of a row

can_in : (r : RowId) (s : Place) → is_ready r ≡ true → place_in r s ≡ true → can_run s ≡ true
can_in r s is e = ready_can s (sym (ap (λ (x : RowId). place_in x s) (same_row r row.Ready is)) ∙ e)

waits_in : (r : RowId) (s : Place) → is_ready r ≡ false → place_in r s ≡ true → not (can_run s) ≡ true
waits_in r (Runs p slice) is e = absurd (cc)
waits_in r (Stands t arrival) is e = ap not (sym (ap (λ (x : RowId). is_same_row x row.Ready) (same_row r t e)) ∙ is)

pub able_in : (r : RowId) (m : Table Seat) → is_ready r ≡ true → filter (λ (e : ℕ × Seat). place_in r e.1.place) (able_of m) ≡ filter (λ (e : ℕ × Seat). place_in r e.1.place) m
able_in r m is = absorbed (λ (e : ℕ × Seat). place_in r e.1.place) can (λ e h. can_in r e.1.place is h) m

pub waiting_in : (r : RowId) (m : Table Seat) → is_ready r ≡ false → filter (λ (e : ℕ × Seat). place_in r e.1.place) (waiting_of m) ≡ filter (λ (e : ℕ × Seat). place_in r e.1.place) m
waiting_in r m is = absorbed (λ (e : ℕ × Seat). place_in r e.1.place) waits (λ e h. waits_in r e.1.place is h) m

-- The thread that leaves waited, or nothing changes.
pub waits_not : (m : Table Seat) (k : ℕ) (o : Option Seat) → has m k ≡ is_waiting o → is_waiting o ≡ false → IsCanonical m → m ≡ cut m k
waits_not m k o is stays h = cut_missed m k h (is ∙ stays)
