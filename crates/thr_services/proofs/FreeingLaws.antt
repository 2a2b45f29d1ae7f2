-- Rows that are freed one thread at a time.
use Rattle.std.proofs.Common.{◌≡◌, ℕ, suc, ◌+◌, ◌^◌, ◌<◌, ◌≤◌, Bool, true, false, cond, eqb, List, [], ◌∷◌, length, Option, Some, None, refl, sym, arith, ◌∙◌, ap, subst}
use Rattle.std.specs.List.{filter}
use Rattle.std.specs.Option.{is_some}
use Rattle.thr_values.specs.declared.number.Tid.{Tid}
use Rattle.thr_parts.specs.declared.row.RowId.{RowId}
use Rattle.thr_parts.specs.declared.row.RowId.TheVariants as row
use Rattle.thr_parts.specs.declared.row.Seat.{Seat}
use Rattle.thr_parts.specs.declared.row.Place.TheVariants.{Stands}
use Rattle.thr_parts.specs.Tables.{Table, get, has, put, cut, IsCanonical}
use Rattle.thr_parts.specs.Rows.{Rows, seat_of, is_in_row, is_same_row, standing, best, most}
use Rattle.thr_parts.specs.Moves.{LeftRow, take_out, put_in_row, make_ready, Freed, free_row}
use Rattle.thr_parts.proofs.TableLaws.{get_put, has_get}
use Rattle.thr_parts.proofs.EntryLaws.{cut_is}
use Rattle.thr_parts.proofs.RowLaws.{is_in, standing_is, canonical_standing, HasSeat, seat_of_row, stands, best_stands}
use Rattle.thr_parts.proofs.MoveLaws.{canonical_take_out, standing_put, standing_cut}
use Rattle.thr_parts.proofs.WakeLaws.{out_cut, free_nobody, free_step}
use Rattle.thr_services.specs.declared.debt.Debt.{Debt}
use Rattle.thr_services.specs.Ready.{debts_all, OwersStand, CanBeReady}
use Rattle.thr_services.proofs.SeatLaws.{itself, one_cut, blocked_by, inside_by, standing_can}

filter_shorter : {A : Type 0} (p : A → Bool) (xs : List A) → length (filter p xs) ≤ length xs
filter_shorter p [] = omega arith
filter_shorter p (x ∷ xs) =
    let rest : length (filter p xs) ≤ length xs = filter_shorter p xs in
    elim (p x) as (λ b. length (cond b (x ∷ filter p xs) (filter p xs)) ≤ suc (length xs)) [ true ↦ omega (arith, rest) | false ↦ omega (arith, rest) ]

-- No more threads stand in a row than have seats.
pub few_stand : (rs : Rows) (r : RowId) → length (standing rs r) ≤ length rs.seats
few_stand rs r = subst (λ (l : List (ℕ × Seat)). length l ≤ length rs.seats) (sym (standing_is rs r)) (filter_shorter (is_in r) rs.seats)

-- Where a thread of the row was taken out and put into another, fewer stand in it.
pub fewer_stand : (rs : Rows) (r s : RowId) (t : Tid) (rank : ℕ) → IsCanonical rs.seats → is_same_row r s ≡ false → best rs r ≡ Some t
    → length (standing (put_in_row (take_out rs t).rows s t rank) r) < length (standing rs r)
fewer_stand rs r s t rank h apart is =
    let at : (x : Seat) × HasSeat rs t.0 r x = seat_of_row rs t r (best_stands rs r t h is) in
    let same : standing (put_in_row (take_out rs t).rows s t rank) r ≡ cut (standing rs r) t.0 =
    standing_put (take_out rs t).rows r s t rank (canonical_take_out rs t h) apart ∙ ap (filter (is_in r)) (out_cut rs true t h) ∙ standing_cut rs r t.0 ∙ sym (cut_is (standing rs r) t.0) in
    subst (λ (l : List (ℕ × Seat)). length l < length (standing rs r)) (sym same) (one_cut (standing rs r) t.0 at.0 (canonical_standing rs r h) (stands rs t.0 r at.0 at.1 h))

some_at : (b : Bool) (v : Seat) (o : Option Seat) → b ≡ true → is_some (cond b (Some v) o) ≡ true
some_at true v o e = refl
some_at false v o e = absurd (cc)

here : (rs : Rows) (r : RowId) (t : Tid) (rank : ℕ) → has (put_in_row (take_out rs t).rows r t rank).seats t.0 ≡ true
here rs r t rank = has_get (put_in_row (take_out rs t).rows r t rank).seats t.0 ∙ ap is_some (get_put (take_out rs t).rows.seats t.0 t.0 _) ∙ some_at (eqb t.0 t.0) _ (get (take_out rs t).rows.seats t.0) (itself t.0)

-- Those that owe something stand after it, and so does the thread itself.
pub owers_moved : (debts : Table Debt) (rs : Rows) (r : RowId) (t : Tid) (rank : ℕ) (d : Debt) → OwersStand debts rs → OwersStand (put debts t.0 d) (put_in_row (take_out rs t).rows r t rank)
owers_moved debts rs r t rank d h =
    let new : Rows = put_in_row (take_out rs t).rows r t rank in
    let seat : Seat = record { rank = rank; place = Stands r rs.next_arrival } in
    let kept : (q : ℕ) → has debts q ≡ true → has new.seats q ≡ true =
    λ q is. has_get new.seats q ∙ ap is_some (get_put (take_out rs t).rows.seats t.0 q seat) ∙ blocked_by rs t.0 q seat (is_in_row (seat_of rs t)) (eqb t.0 q) refl (h.stands q is) in
    record {
      stands = λ q is.
          inside_by debts new.seats t.0 q d (eqb t.0 q) refl kept (here rs r t rank) (sym (has_get (put debts t.0 d) q ∙ ap is_some (get_put debts t.0 q d)) ∙ is);
    }

-- ---- the loop

-- What is left to free is what was to be freed at first.
pub record IsFreeing (rank : Tid → ℕ) (r : RowId) (d : Debt) (first rs : Rows) (owed debts : Table Debt) : Type 0 where
  pub moved : (free_row rank rs r).rows ≡ (free_row rank first r).rows
  pub owing : debts_all debts d (free_row rank rs r).woken ≡ debts_all owed d (free_row rank first r).woken
  pub owers : OwersStand debts rs
  pub arrival : rs.next_arrival + length (standing rs r) ≤ first.next_arrival + 1024

at_first : (n k l : ℕ) → n ≤ k → k ≤ 1024 → l + n ≤ l + 1024
at_first n k l h g = omega (arith, h, g)

pub freeing_first : (rank : Tid → ℕ) (r : RowId) (d : Debt) (rs : Rows) (debts : Table Debt) → length rs.seats ≤ most → OwersStand debts rs → IsFreeing rank r d rs rs debts debts
freeing_first rank r d rs debts within h = record {
  moved = refl;
  owing = refl;
  owers = h;
  arrival = at_first (length (standing rs r)) (length rs.seats) rs.next_arrival (few_stand rs r) within;
}

one_arrival : (n k l m : ℕ) → l < k → n + k ≤ m → (n + 1) + l ≤ m
one_arrival n k l m h g = omega (arith, h, g)

freed_next : (rank : Tid → ℕ) (r : RowId) (d : Debt) (first rs : Rows) (owed debts : Table Debt) (t : Tid) → IsFreeing rank r d first rs owed debts → IsCanonical rs.seats
    → is_same_row r row.Ready ≡ false → best rs r ≡ Some t → IsFreeing rank r d first (make_ready rank (take_out rs t).rows t) owed (put debts t.0 d)
freed_next rank r d first rs owed debts t h rises apart is =
    let step : free_row rank rs r ≡ _ = free_step rank rs r t rises apart is in
    record {
      moved = sym (ap (λ (o : Freed). o.rows) step) ∙ h.moved;
      owing = sym (ap (λ (o : Freed). debts_all debts d o.woken) step) ∙ h.owing;
      owers = owers_moved debts rs row.Ready t (rank t) d h.owers;
      arrival = one_arrival rs.next_arrival (length (standing rs r)) (length (standing (make_ready rank (take_out rs t).rows t) r)) (first.next_arrival + 1024)
          (fewer_stand rs r row.Ready t (rank t) rises apart is) h.arrival;
    }

-- One thread that is freed.
pub freeing_step : (rank : Tid → ℕ) (r : RowId) (d : Debt) (first rs mid new : Rows) (owed debts after : Table Debt) (t : Tid) (stood : Bool) → IsFreeing rank r d first rs owed debts → IsCanonical rs.seats
    → is_same_row r row.Ready ≡ false → best rs r ≡ Some t → (let o : LeftRow = record { rows = mid; stood = stood } in o) ≡ take_out rs t → new ≡ make_ready rank mid t → after ≡ put debts t.0 d
    → IsFreeing rank r d first new owed after
freeing_step rank r d first rs mid new owed debts after t stood h rises apart is out ready owes =
    subst (λ (m : Table Debt). IsFreeing rank r d first new owed m) (sym owes)
    (subst (λ (x : Rows). IsFreeing rank r d first x owed (put debts t.0 d)) (sym (ready ∙ ap (λ (o : LeftRow). make_ready rank o.rows t) out)) (freed_next rank r d first rs owed debts t h rises apart is))

pub freeing_smaller : (rank : Tid → ℕ) (r : RowId) (rs mid new : Rows) (t : Tid) (stood : Bool) → IsCanonical rs.seats
    → is_same_row r row.Ready ≡ false → best rs r ≡ Some t → (let o : LeftRow = record { rows = mid; stood = stood } in o) ≡ take_out rs t → new ≡ make_ready rank mid t
    → length (standing new r) < length (standing rs r)
freeing_smaller rank r rs mid new t stood rises apart is out ready =
    subst (λ (x : Rows). length (standing x r) < length (standing rs r)) (sym (ready ∙ ap (λ (o : LeftRow). make_ready rank o.rows t) out)) (fewer_stand rs r row.Ready t (rank t) rises apart is)

room_left : (n k l m : ℕ) → l < k → n + k ≤ m + 1024 → m + 1024 < 2 ^ 64 → n + 1 < 2 ^ 64
room_left n k l m h g f = omega (arith, h, g, f)

-- It can be ready.
pub freeing_can : (rank : Tid → ℕ) (r : RowId) (d : Debt) (first rs mid : Rows) (owed debts : Table Debt) (t : Tid) (stood : Bool) → IsFreeing rank r d first rs owed debts → IsCanonical rs.seats → IsCanonical debts
    → length rs.seats ≤ most → is_same_row r row.Ready ≡ false → first.next_arrival + 1024 < 2 ^ 64 → best rs r ≡ Some t → (let o : LeftRow = record { rows = mid; stood = stood } in o) ≡ take_out rs t
    → CanBeReady mid debts t
freeing_can rank r d first rs mid owed debts t stood h rises debts_rise within apart arrival is out =
    subst (λ (x : Rows). CanBeReady x debts t) (sym (ap (λ (o : LeftRow). o.rows) out))
    (standing_can debts rs r t rises debts_rise h.owers within
    (room_left rs.next_arrival (length (standing rs r)) (length (standing (make_ready rank (take_out rs t).rows t) r)) first.next_arrival (fewer_stand rs r row.Ready t (rank t) rises apart is) h.arrival arrival)
    (best_stands rs r t rises is))

-- ---- nobody is left

pub freed_rows : (rank : Tid → ℕ) (r : RowId) (d : Debt) (first rs : Rows) (owed debts : Table Debt) → IsFreeing rank r d first rs owed debts → best rs r ≡ None → rs ≡ (free_row rank first r).rows
freed_rows rank r d first rs owed debts h is = sym (ap (λ (o : Freed). o.rows) (free_nobody rank rs r is)) ∙ h.moved

pub freed_debts : (rank : Tid → ℕ) (r : RowId) (d : Debt) (first rs : Rows) (owed debts : Table Debt) → IsFreeing rank r d first rs owed debts → best rs r ≡ None
    → debts ≡ debts_all owed d (free_row rank first r).woken
freed_debts rank r d first rs owed debts h is = sym (ap (λ (o : Freed). debts_all debts d o.woken) (free_nobody rank rs r is)) ∙ h.owing

fewer_arrivals : (n k m : ℕ) → n + k ≤ m → n ≤ m
fewer_arrivals n k m h = omega (arith, h)

pub freed_arrival : (rank : Tid → ℕ) (r : RowId) (d : Debt) (first rs : Rows) (owed debts : Table Debt) → IsFreeing rank r d first rs owed debts → rs.next_arrival ≤ first.next_arrival + 1024
freed_arrival rank r d first rs owed debts h = fewer_arrivals rs.next_arrival (length (standing rs r)) (first.next_arrival + 1024) h.arrival
