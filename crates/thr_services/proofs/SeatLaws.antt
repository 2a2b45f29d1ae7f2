-- Room for threads in rows and among those that owe something.
use Rattle.std.proofs.Common.{◌≡◌, ℕ, ◌+◌, ◌^◌, ◌<◌, ◌≤◌, Bool, true, false, ◌||◌, cond, eqb, ltb, length, Option, Some, None, IfSome, refl, sym, arith, ◌∙◌, ap, subst}
use Rattle.std.proofs.lemmas.Bool.Decides.{nat_tests}
use Rattle.std.specs.Option.{is_some}
use Rattle.thr_values.specs.declared.number.Tid.{Tid}
use Rattle.thr_parts.specs.declared.row.RowId.{RowId}
use Rattle.thr_parts.specs.declared.row.Seat.{Seat}
use Rattle.thr_parts.specs.declared.row.Place.TheVariants.{Stands}
use Rattle.thr_parts.specs.Tables.{Table, get, has, put, cut, cut_if, keep_if, IsCanonical}
use Rattle.thr_parts.specs.Rows.{Rows, seat_of, row_of, row_at, is_in_row, is_running, has_room, best, most}
use Rattle.thr_parts.specs.Moves.{take_out_if, leave, block_in, block_if}
use Rattle.thr_parts.proofs.TableLaws.{get_put, get_cut, has_get, canonical_put, canonical_cut, canonical_cut_if}
use Rattle.thr_parts.proofs.LengthLaws.{not_longer}
use Rattle.thr_parts.proofs.RowLaws.{best_stands}
use Rattle.thr_tables.specs.Places.{has_place}
use Rattle.thr_threads.proofs.RecordLaws.{longer}
use Rattle.thr_services.specs.declared.debt.Debt.{Debt}
use Rattle.thr_services.specs.declared.debt.Debt.TheVariants as debt
use Rattle.thr_services.specs.Ready.{OwersStand, CanBeReady}

same_number : (x y : ℕ) → eqb x y ≡ true → x ≡ y
same_number x y e = grind (arith, nat_tests)

pub itself : (x : ℕ) → eqb x x ≡ true
itself x = grind (arith, nat_tests)

pub inside_by : {A B : Type 0} (m : Table A) (n : Table B) (k q : ℕ) (v : A) (b : Bool) → eqb k q ≡ b → ((j : ℕ) → has m j ≡ true → has n j ≡ true) → has n k ≡ true
    → is_some (cond b (Some v) (get m q)) ≡ true → has n q ≡ true
inside_by m n k q v true is inside here h = subst (λ (j : ℕ). has n j ≡ true) (same_number k q is) here
inside_by m n k q v false is inside here h = inside q (has_get m q ∙ h)

-- A table whose numbers are among another's, without one of them, is shorter.
pub shorter : {A B : Type 0} (m : Table A) (n : Table B) (k : ℕ) (v : A) → IsCanonical m → get m k ≡ None → ((q : ℕ) → has m q ≡ true → has n q ≡ true)
    → has n k ≡ true → length m < length n
shorter m n k v h missing inside here =
    let most_of : length (put m k v) ≤ length n =
    not_longer (put m k v) n (canonical_put m k v h) (λ q is. inside_by m n k q v (eqb k q) refl inside here (sym (has_get (put m k v) q ∙ ap is_some (get_put m k q v)) ∙ is)) in
    let more : length (put m k v) ≡ length m + 1 = longer m k v missing in
    omega (arith, most_of, more)

still : {A : Type 0} (b : Bool) (o : Option A) → is_some (cond b None o) ≡ true → is_some o ≡ true
still true o e = absurd (cc)
still false o e = e

gone : {A : Type 0} (b : Bool) (o : Option A) → b ≡ true → cond b None o ≡ None
gone true o e = refl
gone false o e = absurd (cc)

has_some : {A : Type 0} (m : Table A) (k : ℕ) (v : A) → get m k ≡ Some v → has m k ≡ true
has_some m k v e = has_get m k ∙ ap is_some e

-- A table is shorter without what stands at a number.
pub one_cut : {A : Type 0} (m : Table A) (k : ℕ) (v : A) → IsCanonical m → get m k ≡ Some v → length (cut m k) < length m
one_cut m k v h e =
    shorter (cut m k) m k v (canonical_cut m k h) (get_cut m k k ∙ gone (eqb k k) (get m k) (itself k))
    (λ q is. has_get m q ∙ still (eqb k q) (get m q) (sym (has_get (cut m k) q ∙ ap is_some (get_cut m k q)) ∙ is)) (has_some m k v e)

-- ---- the best of a row

seat_in : (s : Option Seat) (r : RowId) → row_at s ≡ Some r → (v : Seat) × (s ≡ Some v)
seat_in None r e = absurd (cc)
seat_in (Some v) r e = (v, refl)

in_row : (s : Option Seat) (r : RowId) → row_at s ≡ Some r → is_in_row s ≡ true
in_row s r e = ap is_some e

-- A thread that stands in a row has a seat.
pub standing_has : (rs : Rows) (t : Tid) (r : RowId) → row_of rs t ≡ Some r → has rs.seats t.0 ≡ true
standing_has rs t r e = let s : (v : Seat) × (seat_of rs t ≡ Some v) = seat_in (seat_of rs t) r e in has_some rs.seats t.0 s.0 s.1

-- Without a thread that stands in a row there are fewer.
pub fewer : (rs : Rows) (t : Tid) (r : RowId) → IsCanonical rs.seats → row_of rs t ≡ Some r → length (take_out_if rs (Some t)).seats < length rs.seats
fewer rs t r h e =
    let s : (v : Seat) × (seat_of rs t ≡ Some v) = seat_in (seat_of rs t) r e in
    subst (λ (b : Bool). length (cut_if b rs.seats t.0) < length rs.seats) (sym (in_row (seat_of rs t) r e)) (one_cut rs.seats t.0 s.0 h s.1)

-- ---- room for a debt

or_left : (a b : Bool) → a ≡ true → (a || b) ≡ true
or_left true b e = refl
or_left false b e = absurd (cc)

or_right : (a b : Bool) → b ≡ true → (a || b) ≡ true
or_right true b e = refl
or_right false b e = e

less_test : (n k : ℕ) → n < k → ltb n k ≡ true
less_test n k h = grind (arith, nat_tests)

place_by : (debts : Table Debt) (seats : Table Seat) (t : ℕ) (o : Option Debt) → get debts t ≡ o → IsCanonical debts → ((q : ℕ) → has debts q ≡ true → has seats q ≡ true)
    → has seats t ≡ true → length seats ≤ most → has_place debts t most ≡ true
place_by debts seats t None is rises inside here within =
    let fewer_debts : length debts < length seats = shorter debts seats t debt.Delivery rises is inside here in
    or_right (has debts t) (ltb (length debts) most) (less_test (length debts) most (omega (arith, fewer_debts, within)))
place_by debts seats t (Some d) is rises inside here within = or_left (has debts t) (ltb (length debts) most) (has_some debts t d is)

-- Where those that owe something have seats, there is room for one that has a seat.
pub place_for_debt : (debts : Table Debt) (rs : Rows) (t : Tid) → IsCanonical debts → OwersStand debts rs → has rs.seats t.0 ≡ true → length rs.seats ≤ most
    → has_place debts t.0 most ≡ true
place_for_debt debts rs t rises h here within = place_by debts rs.seats t.0 (get debts t.0) refl rises h.stands here within

-- ---- a thread that was taken out of its row

less_than : (n k l : ℕ) → n < k → k ≤ l → n < l
less_than n k l h g = omega (arith, h, g)

-- It can be ready and owe something.
pub standing_can : (debts : Table Debt) (rs : Rows) (r : RowId) (t : Tid) → IsCanonical rs.seats → IsCanonical debts → OwersStand debts rs → length rs.seats ≤ most
    → rs.next_arrival + 1 < 2 ^ 64 → row_of rs t ≡ Some r → CanBeReady (take_out_if rs (Some t)) debts t
standing_can debts rs r t h rises owers within arrival e = record {
  seat = less_than (length (take_out_if rs (Some t)).seats) (length rs.seats) most (fewer rs t r h e) within;
  arrival = arrival;
  place = place_for_debt debts rs t rises owers (standing_has rs t r e) within;
}

some_inside : {A : Type 0} (b : Bool) (o : Option A) (x : A) → Some x ≡ keep_if b o → o ≡ Some x
some_inside true o x e = sym e
some_inside false o x e = absurd (cc)

-- So can the best of a row, where it was taken out.
pub taken_can : (debts : Table Debt) (rs new : Rows) (r : RowId) (b : Bool) (g : Option Tid) → g ≡ keep_if b (best rs r) → new ≡ take_out_if rs g → IsCanonical rs.seats
    → IsCanonical debts → OwersStand debts rs → length rs.seats ≤ most → rs.next_arrival + 1 < 2 ^ 64 → IfSome g (CanBeReady new debts)
taken_can debts rs new r b None is after h rises owers within arrival = tt
taken_can debts rs new r b (Some t) is after h rises owers within arrival =
    subst (λ (x : Rows). CanBeReady x debts t) (sym after)
    (standing_can debts rs r t h rises owers within arrival (best_stands rs r t h (some_inside b (best rs r) t is)))

-- ---- a thread that is blocked

pub blocked_by : (rs : Rows) (t q : ℕ) (s : Seat) (b : Bool) (c : Bool) → eqb t q ≡ c → has rs.seats q ≡ true → is_some (cond c (Some s) (get (cut_if b rs.seats t) q)) ≡ true
blocked_by rs t q s b true is h = refl
blocked_by rs t q s true false is h = ap is_some (get_cut rs.seats t q ∙ ap (λ x. cond x None (get rs.seats q)) is) ∙ sym (has_get rs.seats q) ∙ h
blocked_by rs t q s false false is h = sym (has_get rs.seats q) ∙ h

-- Those that have seats keep them.
owers_blocked_by : (debts : Table Debt) (rs : Rows) (r : RowId) (t : Tid) (rank : ℕ) → OwersStand debts rs → OwersStand debts (block_in rs r t rank)
owers_blocked_by debts rs r t rank h = record {
  stands = λ q is.
      has_get (block_in rs r t rank).seats q ∙ ap is_some (get_put (leave rs t).seats t.0 q _)
      ∙ blocked_by rs t.0 q (record { rank = rank; place = Stands r rs.next_arrival }) (is_running (seat_of rs t)) (eqb t.0 q) refl (h.stands q is);
}

pub owers_blocked : (debts : Table Debt) (b : Bool) (rs : Rows) (r : RowId) (t : Tid) (rank : ℕ) → OwersStand debts rs → OwersStand debts (block_if b rs r t rank)
owers_blocked debts true rs r t rank h = owers_blocked_by debts rs r t rank h
owers_blocked debts false rs r t rank h = h

back_by : (m : Table Seat) (t q : ℕ) (s : Seat) (b c : Bool) → eqb t q ≡ c → has m t ≡ true → is_some (cond c (Some s) (get (cut_if b m t) q)) ≡ true → has m q ≡ true
back_by m t q s b true is here h = subst (λ (j : ℕ). has m j ≡ true) (same_number t q is) here
back_by m t q s true false is here h = has_get m q ∙ still (eqb t q) (get m q) (sym (ap is_some (get_cut m t q)) ∙ h)
back_by m t q s false false is here h = has_get m q ∙ h

-- A seat that is put where one stood.
same_many : (m : Table Seat) (t : ℕ) (s : Seat) (b : Bool) → IsCanonical m → has m t ≡ true → length (put (cut_if b m t) t s) ≤ length m
same_many m t s b h here =
    not_longer (put (cut_if b m t) t s) m (canonical_put (cut_if b m t) t s (canonical_cut_if b m t h)) (λ q is.
    back_by m t q s b (eqb t q) refl here (sym (has_get (put (cut_if b m t) t s) q ∙ ap is_some (get_put (cut_if b m t) t q s)) ∙ is))

one_more_by : (m : Table Seat) (t : ℕ) (s : Seat) (o : Option Seat) → get m t ≡ o → IsCanonical m → length m < most → length (put m t s) ≤ most
one_more_by m t s None is h less = let more : length (put m t s) ≡ length m + 1 = longer m t s is in omega (arith, more, less)
one_more_by m t s (Some v) is h less = let as_many : length (put m t s) ≤ length m = same_many m t s false h (has_some m t v is) in omega (arith, as_many, less)

running_has : (rs : Rows) (t : Tid) (o : Option Seat) → seat_of rs t ≡ o → is_running o ≡ true → has rs.seats t.0 ≡ true
running_has rs t None is e = absurd (cc)
running_has rs t (Some v) is e = has_some rs.seats t.0 v is

less_from : (n k : ℕ) → ltb n k ≡ true → n < k
less_from n k h = grind (arith, nat_tests)

at_most : (n k l : ℕ) → n ≤ k → k ≤ l → n ≤ l
at_most n k l h g = omega (arith, h, g)

within_by : (rs : Rows) (r : RowId) (t : Tid) (rank : ℕ) (b : Bool) → is_running (seat_of rs t) ≡ b → (b || ltb (length rs.seats) most) ≡ true → IsCanonical rs.seats → length rs.seats ≤ most
    → length (put (cut_if b rs.seats t.0) t.0 (let s : Seat = record { rank = rank; place = Stands r rs.next_arrival } in s)) ≤ most
within_by rs r t rank true is room h within =
    at_most _ (length rs.seats) most (same_many rs.seats t.0 _ true h (running_has rs t (seat_of rs t) refl is)) within
within_by rs r t rank false is room h within = one_more_by rs.seats t.0 _ (get rs.seats t.0) refl h (less_from (length rs.seats) most room)

-- There are no more threads than there can be.
pub within_blocked : (b : Bool) (rs : Rows) (r : RowId) (t : Tid) (rank : ℕ) → has_room rs t ≡ true → IsCanonical rs.seats → length rs.seats ≤ most → length (block_if b rs r t rank).seats ≤ most
within_blocked true rs r t rank room h within = within_by rs r t rank (is_running (seat_of rs t)) refl room h within
within_blocked false rs r t rank room h within = within

pub arrival_blocked : (b : Bool) (rs : Rows) (r : RowId) (t : Tid) (rank : ℕ) → rs.next_arrival + 2 < 2 ^ 64 → (block_if b rs r t rank).next_arrival + 1 < 2 ^ 64
arrival_blocked true rs r t rank h = omega (arith, h)
arrival_blocked false rs r t rank h = omega (arith, h)

pub kept_true : {A : Type 0} (b : Bool) (o : Option A) (x : A) → Some x ≡ keep_if b o → b ≡ true
kept_true true o x e = refl
kept_true false o x e = absurd (cc)

pub not_blocked : (b : Bool) (rs : Rows) (r : RowId) (t : Tid) (rank : ℕ) → b ≡ false → block_if b rs r t rank ≡ rs
not_blocked true rs r t rank e = absurd (cc)
not_blocked false rs r t rank e = refl
