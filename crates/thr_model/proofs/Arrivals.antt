-- Arrivals in every history: each was given, and to one thread alone. So the best thread of a row is before every other of it.
use Rattle.std.proofs.Common.{◌≡◌, ℕ, ◌+◌, ◌<◌, Bool, true, false, nat_lt, eqb, cond, ◌&&◌, ◌||◌, ◌==◌, Option, Some, None, refl, sym, ◌∙◌, ap, subst, arith}
use Rattle.std.proofs.lemmas.Bool.Decides.{nat_tests}
use Rattle.std.specs.Option.{unwrap_or}
use Rattle.thr_values.specs.declared.number.Tid.{Tid}
use Rattle.thr_syntax.specs.declared.tree.Script.{Script}
use Rattle.thr_parts.specs.declared.row.RowId.{RowId}
use Rattle.thr_parts.specs.declared.row.Place.{Place}
use Rattle.thr_parts.specs.declared.row.Place.TheVariants.{Runs, Stands}
use Rattle.thr_parts.specs.declared.row.Seat.{Seat}
use Rattle.thr_parts.specs.Tables.{Table, none, get, put, cut, IsCanonical}
use Rattle.thr_parts.specs.Rows.{Rows, seat_of, row_of, place_in, arrival_in, is_before, is_seat_before, before, best}
use Rattle.thr_parts.specs.Moves.{as_ranked}
use Rattle.thr_parts.specs.Dispatch.{whole_slice, a_turn_later}
use Rattle.thr_parts.proofs.TableLaws.{get_none, get_put, get_cut}
use Rattle.thr_parts.proofs.RowLaws.{HasSeat, seat_of_row, best_stands, none_comes_before}
use Rattle.thr_model.specs.Histories.{Execution, History}
use Rattle.thr_model.proofs.ArrivalsKept.{IsKeptWithArrivals}
use Rattle.thr_model.proofs.RowsKept.{TakesBelow, history_keeps}

-- The arrival at a place, unless that is a processor.
abbrev pub arrival_at : Place → Option ℕ
arrival_at (Runs p slice) = None
arrival_at (Stands r arrival) = Some arrival

-- The arrival of the seat that is there, unless it is on a processor.
abbrev pub arrival_of : Option Seat → Option ℕ
arrival_of None = None
arrival_of (Some s) = arrival_at s.place

-- Each arrival is below the next one, and no two threads have the same.
pub record AreArrivals (n : ℕ) (m : Table Seat) : Type 0 where
  pub below : (q a : ℕ) → arrival_of (get m q) ≡ Some a → a < n
  pub apart : (q p a : ℕ) → arrival_of (get m q) ≡ Some a → arrival_of (get m p) ≡ Some a → q ≡ p

-- ---- seats that have no new arrival

fewer : (n : ℕ) (m after : Table Seat) → ((q a : ℕ) → arrival_of (get after q) ≡ Some a → arrival_of (get m q) ≡ Some a) → AreArrivals n m → AreArrivals n after
fewer n m after back h = record {
  below = λ q a e. h.below q a (back q a e);
  apart = λ q p a e f. h.apart q p a (back q a e) (back p a f);
}

cut_back : (o : Option Seat) (b : Bool) (a : ℕ) → arrival_of (cond b None o) ≡ Some a → arrival_of o ≡ Some a
cut_back o true a e = absurd (cc)
cut_back o false a e = e

same_number : (x y : ℕ) → eqb x y ≡ true → x ≡ y
same_number x y e = grind (arith, nat_tests)

put_back : (m : Table Seat) (t q a : ℕ) (v : Seat) (b : Bool) → eqb t q ≡ b → (arrival_at v.place ≡ Some a → arrival_of (get m t) ≡ Some a) → arrival_of (cond b (Some v) (get m q)) ≡ Some a
    → arrival_of (get m q) ≡ Some a
put_back m t q a v true is back e = subst (λ (x : ℕ). arrival_of (get m x) ≡ Some a) (same_number t q is) (back e)
put_back m t q a v false is back e = e

goes : (n : ℕ) (m : Table Seat) (t : ℕ) → AreArrivals n m → AreArrivals n (cut m t)
goes n m t h = fewer n m (cut m t) (λ q a e. cut_back (get m q) (eqb t q) a (sym (ap arrival_of (get_cut m t q)) ∙ e)) h

no_new : (n : ℕ) (m : Table Seat) (t : ℕ) (v : Seat) → ((a : ℕ) → arrival_at v.place ≡ Some a → arrival_of (get m t) ≡ Some a) → AreArrivals n m → AreArrivals n (put m t v)
no_new n m t v back h = fewer n m (put m t v) (λ q a e. put_back m t q a v (eqb t q) refl (back a) (sym (ap arrival_of (get_put m t q v)) ∙ e)) h

later_arrival : (fifo : Bool) (p : Place) → arrival_at (a_turn_later fifo p) ≡ arrival_at p
later_arrival fifo (Runs p slice) = refl
later_arrival fifo (Stands r arrival) = refl

never : {C : Type 0} (a : ℕ) → arrival_of None ≡ Some a → C
never a e = absurd (cc)

-- ---- a new arrival

-- The thread of a number has an arrival: it is the one that was given now, or it had it.
data Had (n : ℕ) (m : Table Seat) (t q a : ℕ) : Type 0 where
  now : t ≡ q → n ≡ a → Had n m t q a
  earlier : arrival_of (get m q) ≡ Some a → Had n m t q a

had : (n : ℕ) (m : Table Seat) (t q a rank : ℕ) (r : RowId) (b : Bool) → eqb t q ≡ b → arrival_of (cond b (Some (record { rank = rank; place = Stands r n })) (get m q)) ≡ Some a → Had n m t q a
had n m t q a rank r true is e = now (same_number t q is) (ap (λ o. unwrap_or o a) e)
had n m t q a rank r false is e = earlier e

has : (n : ℕ) (m : Table Seat) (t q a rank : ℕ) (r : RowId) → arrival_of (get (put m t (record { rank = rank; place = Stands r n })) q) ≡ Some a → Had n m t q a
has n m t q a rank r e = had n m t q a rank r (eqb t q) refl (sym (ap arrival_of (get_put m t q _)) ∙ e)

is_below : (n : ℕ) (m : Table Seat) (t q a : ℕ) → AreArrivals n m → Had n m t q a → a < n + 1
is_below n m t q a h (now same is) = omega arith
is_below n m t q a h (earlier e) = let lt : a < n = h.below q a e in omega arith

never_again : {C : Type 0} (n a : ℕ) → n ≡ a → a < n → C
never_again n a same lt = absurd (omega arith)

is_apart : (n : ℕ) (m : Table Seat) (t q p a : ℕ) → AreArrivals n m → Had n m t q a → Had n m t p a → q ≡ p
is_apart n m t q p a h (now same is) (now same' is') = sym same ∙ same'
is_apart n m t q p a h (now same is) (earlier e) = never_again n a is (h.below p a e)
is_apart n m t q p a h (earlier e) (now same is) = never_again n a is (h.below q a e)
is_apart n m t q p a h (earlier e) (earlier e') = h.apart q p a e e'

stands : (n : ℕ) (m : Table Seat) (t rank : ℕ) (r : RowId) → AreArrivals n m → AreArrivals (n + 1) (put m t (record { rank = rank; place = Stands r n }))
stands n m t rank r h = record {
  below = λ q a e. is_below n m t q a h (has n m t q a rank r e);
  apart = λ q p a e f. is_apart n m t q p a h (has n m t q a rank r e) (has n m t p a rank r f);
}

-- ---- every history

arrivals_are_kept : IsKeptWithArrivals AreArrivals
arrivals_are_kept = record {
  stands = stands;
  goes = goes;
  ranked = λ n m t rank s at h. no_new n m t (as_ranked rank s) (λ a e. ap arrival_of at ∙ e) h;
  later = λ n m t fifo s at h. no_new n m t _ (λ a e. ap arrival_of at ∙ sym (later_arrival fifo s.place) ∙ e) h;
}

no_arrival : (q a : ℕ) → arrival_of (get none q) ≡ Some a → ⊥
no_arrival q a e = never a (sym (ap arrival_of (get_none {A = Seat} q)) ∙ e)

no_arrivals : AreArrivals 0 none
no_arrivals = record {
  below = λ q a e. absurd (no_arrival q a e);
  apart = λ q p a e f. absurd (no_arrival q a e);
}

takes : (n : ℕ) → TakesBelow AreArrivals arrivals_are_kept n
takes n p is next m t rank h = no_new next m t (record { rank = rank; place = Runs p whole_slice }) (λ a e. never a e) h

-- In every history each arrival is below the next one, and no two threads have the same.
pub arrivals : {s : Script} {n : ℕ} {x : Execution} → History s n x → AreArrivals x.state.rows.next_arrival x.state.rows.seats
arrivals {s} {n} h = history_keeps AreArrivals arrivals_are_kept no_arrivals (takes n) h

-- ---- the best thread of a row

arrival_there : (r : RowId) (p : Place) → place_in r p ≡ true → arrival_at p ≡ Some (arrival_in p)
arrival_there r (Runs p slice) e = absurd (cc)
arrival_there r (Stands q arrival) e = refl

-- Of two that have different arrivals one is before the other.
one_is_first : (i j x y : ℕ) → (x ≡ y → ⊥) → (nat_lt i j || ((j == i) && nat_lt y x)) ≡ false → (nat_lt j i || ((i == j) && nat_lt x y)) ≡ true
one_is_first i j x y differ e = grind (arith, nat_tests)

-- Two threads of a row have different arrivals.
arrivals_differ : (rs : Rows) (r : RowId) (t u : Tid) (a b : Seat) → AreArrivals rs.next_arrival rs.seats → HasSeat rs t.0 r a → HasSeat rs u.0 r b → (u.0 ≡ t.0 → ⊥)
    → arrival_in a.place ≡ arrival_in b.place → ⊥
arrivals_differ rs r t u a b h at bt other same =
    other (h.apart u.0 t.0 (arrival_in b.place) (ap arrival_of bt.at ∙ arrival_there r b.place bt.placed) (ap arrival_of at.at ∙ arrival_there r a.place at.placed ∙ ap Some same))

seats_before : (rs : Rows) (r : RowId) (t u : Tid) (a b : Seat) → HasSeat rs t.0 r a → HasSeat rs u.0 r b → before rs t u ≡ is_before a b
seats_before rs r t u a b at bt = ap (λ o. is_seat_before o (seat_of rs u)) at.at ∙ ap (is_seat_before (Some a)) bt.at

-- Where arrivals are so, the best thread of a row is before every other of it.
pub best_is_first : (rs : Rows) (r : RowId) (t u : Tid) → IsCanonical rs.seats → AreArrivals rs.next_arrival rs.seats → best rs r ≡ Some t → row_of rs u ≡ Some r → (u.0 ≡ t.0 → ⊥)
    → before rs t u ≡ true
best_is_first rs r t u c h e at other =
    let a : (s : Seat) × HasSeat rs t.0 r s = seat_of_row rs t r (best_stands rs r t c e) in
    let b : (s : Seat) × HasSeat rs u.0 r s = seat_of_row rs u r at in
    let later : is_before b.0 a.0 ≡ false = sym (seats_before rs r u t b.0 a.0 b.1 a.1) ∙ none_comes_before rs r t u c e at in
    seats_before rs r t u a.0 b.0 a.1 b.1
    ∙ one_is_first a.0.rank b.0.rank (arrival_in a.0.place) (arrival_in b.0.place) (arrivals_differ rs r t u a.0 b.0 h a.1 b.1 other) later
