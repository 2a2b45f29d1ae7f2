-- How many arrivals are given where threads of a row become ready or leave their waits: one for each, and so no more than
-- there are seats.
use Rattle.std.proofs.Common.{◌≡◌, ℕ, suc, ◌+◌, ◌≤◌, ℤ, Bool, true, false, ◌||◌, cond, eqb, List, [], ◌∷◌, length, Option, Some, None, refl, sym, ◌∙◌, ap, arith}
use Rattle.std.proofs.lemmas.Bool.{eqb-true, false≢true}
use Rattle.std.proofs.lemmas.Bool.Decides.{nat_tests}
use Rattle.std.proofs.lemmas.List.{length-map}
use Rattle.std.specs.Prelude.{is_some}
use Rattle.std.specs.List.{filter}
use Rattle.thr_values.specs.declared.number.NameId.{NameId}
use Rattle.thr_values.specs.declared.number.Tid.{Tid}
use Rattle.thr_parts.specs.declared.row.RowId.{RowId}
use Rattle.thr_parts.specs.declared.row.RowId.TheVariants as row
use Rattle.thr_parts.specs.declared.row.Seat.{Seat}
use Rattle.thr_parts.specs.Tables.{Table, get, has, put, cut, cut_if, IsCanonical}
use Rattle.thr_parts.specs.Rows.{Rows, Seated, thread, place_in, seat_of, row_at, is_in_row, is_before, placed, in_order, standing, numbers_of, best_first, is_among}
use Rattle.thr_parts.specs.Moves.{take_out, block_if, make_ready, make_all_ready, free_row}
use Rattle.thr_parts.specs.Mutexes.{Locks}
use Rattle.thr_parts.specs.Conditions.{Conds}
use Rattle.thr_parts.specs.Waking.{pull_out, mutex_with, resume, wake_all}
use Rattle.thr_parts.specs.Expiry.{is_due, due, due_first}
use Rattle.thr_parts.specs.Pipes.{Pipes, pipe_at}
use Rattle.thr_parts.specs.Closing.{free_if, close_out}
use Rattle.thr_parts.proofs.LengthLaws.{not_longer}
use Rattle.thr_parts.proofs.MoveLaws.{canonical_make_all_ready}
use Rattle.thr_parts.proofs.StandingLaws.{among_is}
use Rattle.thr_parts.proofs.TableLaws.{has_get, get_put, get_cut}

-- ---- how many threads a row has

filter_shorter : {A : Type 0} (p : A → Bool) (xs : List A) → length (filter p xs) ≤ length xs
filter_shorter p [] = omega arith
filter_shorter p (x ∷ xs) =
    let rest : length (filter p xs) ≤ length xs = filter_shorter p xs in
    elim (p x) as (λ b. length (cond b (x ∷ filter p xs) (filter p xs)) ≤ suc (length xs)) [ true ↦ omega (arith, rest) | false ↦ omega (arith, rest) ]

placed_if : (e f : ℕ × Seat) (fs : Seated) (b : Bool) → length (placed e fs) ≡ suc (length fs) → length (cond b (e ∷ f ∷ fs) (f ∷ placed e fs)) ≡ suc (suc (length fs))
placed_if e f fs true rest = refl
placed_if e f fs false rest = ap suc rest

placed_length : (e : ℕ × Seat) (fs : Seated) → length (placed e fs) ≡ suc (length fs)
unfolding placed
placed_length e [] = refl
placed_length e (f ∷ fs) = placed_if e f fs (is_before e.1 f.1) (placed_length e fs)

order_length : (es : Seated) → length (in_order es) ≡ length es
unfolding in_order
order_length [] = refl
order_length (e ∷ es) = placed_length e (in_order es) ∙ ap suc (order_length es)

numbers_length : (es : Seated) → length (numbers_of (in_order es)) ≡ length es
numbers_length es = length-map (in_order es) (λ e. thread e.0) ∙ order_length es

pub few_in_row : (rs : Rows) (r : RowId) → length (best_first rs r) ≤ length rs.seats
unfolding standing
few_in_row rs r =
    let shorter : length (standing rs r) ≤ length rs.seats = filter_shorter (λ (e : ℕ × Seat). place_in r e.1.place) rs.seats in omega (arith, numbers_length (standing rs r), shorter)

pub few_due : (cs : Conds) (rs : Rows) (now : ℤ) → length (due_first cs rs now) ≤ length rs.seats
unfolding due
few_due cs rs now =
    let shorter : length (due cs rs now) ≤ length rs.seats = filter_shorter (λ (e : ℕ × Seat). is_due cs now e.0) rs.seats in omega (arith, numbers_length (due cs rs now), shorter)

-- ---- arrivals

pub block_adds : (b : Bool) (rs : Rows) (r : RowId) (t : Tid) (rank : ℕ) → (block_if b rs r t rank).next_arrival ≤ rs.next_arrival + 1
block_adds true rs r t rank = omega arith
block_adds false rs r t rank = omega arith

one_then : (n m k : ℕ) → m ≤ n + 1 + k → m ≤ n + suc k
one_then n m k h = omega (arith, h)

pub ready_adds : (rank : Tid → ℕ) (rs : Rows) (ts : List Tid) → (make_all_ready rank rs ts).next_arrival ≤ rs.next_arrival + length ts
unfolding make_all_ready
ready_adds rank rs [] = omega arith
ready_adds rank rs (t ∷ ts) = one_then rs.next_arrival _ (length ts) (ready_adds rank (make_ready rank (take_out rs t).rows t) ts)

pub free_adds : (rank : Tid → ℕ) (rs : Rows) (r : RowId) → (free_row rank rs r).rows.next_arrival ≤ rs.next_arrival + length rs.seats
free_adds rank rs r = omega (arith, ready_adds rank rs (best_first rs r), few_in_row rs r)

pub resume_adds : (rank : Tid → ℕ) (ls : Locks) (rs : Rows) (t : Tid) (m : Option NameId) → (resume rank ls rs t m).rows.next_arrival ≤ rs.next_arrival + 1
resume_adds rank ls rs t None = omega arith
resume_adds rank ls rs t (Some m) = omega arith

two_then : (n a m k : ℕ) → a ≤ n + 1 → m ≤ a + k → m ≤ n + suc k
two_then n a m k h i = omega (arith, h, i)

pub wake_adds : (rank : Tid → ℕ) (cs : Conds) (ls : Locks) (rs : Rows) (ts : List Tid) → (wake_all rank cs ls rs ts).rows.next_arrival ≤ rs.next_arrival + length ts
unfolding wake_all
wake_adds rank cs ls rs [] = omega arith
wake_adds rank cs ls rs (t ∷ ts) =
    let between : Rows = (resume rank ls (pull_out cs rs t).rows t (mutex_with cs t)).rows in
    two_then rs.next_arrival between.next_arrival _ (length ts) (resume_adds rank ls (pull_out cs rs t).rows t (mutex_with cs t))
    (wake_adds rank (pull_out cs rs t).conds (resume rank ls (pull_out cs rs t).rows t (mutex_with cs t)).locks between ts)

-- ---- seats while a row becomes ready

-- Each seat of the first is one of the other's.
abbrev Inside : Table Seat → Table Seat → Type 0
Inside m n = (q : ℕ) → has m q ≡ true → has n q ≡ true

cut_test : (b : Bool) (o : Option Seat) → is_some (cond b None o) ≡ true → is_some o ≡ true
cut_test true o e = absurd (false≢true e)
cut_test false o e = e

cut_inside : (m n : Table Seat) (k : ℕ) → Inside m n → Inside (cut m k) n
cut_inside m n k h = λ q e. h q (has_get m q ∙ cut_test (eqb k q) (get m q) (sym (has_get (cut m k) q ∙ ap is_some (get_cut m k q)) ∙ e))

cut_if_inside : (b : Bool) (m n : Table Seat) (k : ℕ) → Inside m n → Inside (cut_if b m k) n
cut_if_inside true m n k h = cut_inside m n k h
cut_if_inside false m n k h = h

put_test : (n : Table Seat) (k q : ℕ) (b : Bool) (s : Seat) (o : Option Seat) → eqb k q ≡ b → has n k ≡ true → (is_some o ≡ true → has n q ≡ true) → is_some (cond b (Some s) o) ≡ true → has n q ≡ true
put_test n k q true s o is here rest e = ap (has n) (sym (eqb-true k q is)) ∙ here
put_test n k q false s o is here rest e = rest e

put_inside : (m n : Table Seat) (k : ℕ) (s : Seat) → has n k ≡ true → Inside m n → Inside (put m k s) n
put_inside m n k s here h = λ q e. put_test n k q (eqb k q) s (get m q) refl here (λ f. h q (has_get m q ∙ f)) (sym (has_get (put m k s) q ∙ ap is_some (get_put m k q s)) ∙ e)

-- Each of these threads has a seat there.
abbrev Seats : Table Seat → List Tid → Type 0
Seats n ts = (t : Tid) → is_among t ts ≡ true → has n t.0 ≡ true

itself : (x : ℕ) (b : Bool) → (eqb x x || b) ≡ true
itself x b = grind (arith, nat_tests)

later_too : (a b : Bool) → b ≡ true → (a || b) ≡ true
later_too true b e = refl
later_too false b e = e

ready_inside : (rank : Tid → ℕ) (rs : Rows) (n : Table Seat) (ts : List Tid) → Seats n ts → Inside rs.seats n → Inside (make_all_ready rank rs ts).seats n
unfolding make_all_ready
ready_inside rank rs n [] seated h = h
ready_inside rank rs n (t ∷ ts) seated h =
    ready_inside rank (make_ready rank (take_out rs t).rows t) n ts (λ u e. seated u (later_too (eqb t.0 u.0) (is_among u ts) e))
    (put_inside (take_out rs t).rows.seats n t.0 _ (seated t (itself t.0 (is_among t ts))) (cut_if_inside (is_in_row (seat_of rs t)) rs.seats n t.0 h))

row_seated : (o : Option Seat) (r : RowId) → row_at o ≡ Some r → is_some o ≡ true
row_seated None r e = absurd (cc)
row_seated (Some s) r e = refl

row_seats : (rs : Rows) (r : RowId) → IsCanonical rs.seats → Seats rs.seats (best_first rs r)
row_seats rs r h = λ t e. has_get rs.seats t.0 ∙ row_seated (seat_of rs t) r ((among_is rs r t h).0 e)

freed_not_more : (rank : Tid → ℕ) (rs : Rows) (r : RowId) → IsCanonical rs.seats → length (free_row rank rs r).rows.seats ≤ length rs.seats
freed_not_more rank rs r h =
    not_longer (free_row rank rs r).rows.seats rs.seats (canonical_make_all_ready rank rs (best_first rs r) h) (ready_inside rank rs rs.seats (best_first rs r) (row_seats rs r h) (λ q e. e))

-- ---- a pipe that is closed

free_if_adds : (b : Bool) (rank : Tid → ℕ) (rs : Rows) (r : RowId) → (free_if b rank rs r).rows.next_arrival ≤ rs.next_arrival + length rs.seats
free_if_adds true rank rs r = free_adds rank rs r
free_if_adds false rank rs r = omega arith

free_if_not_more : (b : Bool) (rank : Tid → ℕ) (rs : Rows) (r : RowId) → IsCanonical rs.seats → length (free_if b rank rs r).rows.seats ≤ length rs.seats
free_if_not_more true rank rs r h = freed_not_more rank rs r h
free_if_not_more false rank rs r h = omega arith

twice : (n a m k j : ℕ) → a ≤ n + k → m ≤ a + j → j ≤ k → m ≤ n + (k + k)
twice n a m k j h i le = omega (arith, h, i, le)

pub close_adds : (rank : Tid → ℕ) (ps : Pipes) (rs : Rows) (p : NameId) → IsCanonical rs.seats → (close_out rank ps rs p).rows.next_arrival ≤ rs.next_arrival + (length rs.seats + length rs.seats)
close_adds rank ps rs p h =
    let opened : Bool = (pipe_at ps p).is_open in
    let readers : Rows = (free_if opened rank rs (row.Reader p)).rows in
    twice rs.next_arrival readers.next_arrival _ (length rs.seats) (length readers.seats) (free_if_adds opened rank rs (row.Reader p)) (free_if_adds opened rank readers (row.Writer p))
    (free_if_not_more opened rank rs (row.Reader p) h)
