-- How many lines a move of the clock writes.
use Rattle.std.proofs.Common.{◌≡◌, ℕ, suc, ◌+◌, ◌<◌, ◌≤◌, ℤ, List, [], ◌∷◌, ◌++◌, map, length, append_assoc, refl, sym, ◌∙◌, ap, None, Some, Bool, true, false, cond, arith}
use Rattle.std.specs.Prelude.{Option, if◌then◌else◌}
use Rattle.std.specs.List.{filter}
use Rattle.std.proofs.lemmas.List.{length-append}
use Rattle.thr_values.specs.declared.number.Tid.{Tid}
use Rattle.thr_values.specs.declared.number.NameId.{NameId}
use Rattle.thr_values.specs.declared.history.Entry.{Entry}
use Rattle.thr_parts.specs.declared.row.Seat.{Seat}
use Rattle.thr_remainder.specs.Remainders.{Remainder}
use Rattle.thr_parts.specs.Tables.{Table}
use Rattle.thr_services.specs.Views.{ServicesView, state_with}
use Rattle.thr_parts.specs.Rows.{Rows, Seated, is_before, placed, in_order, numbers_of, most}
use Rattle.thr_parts.specs.Mutexes.{Locks}
use Rattle.thr_parts.specs.Conditions.{Conds}
use Rattle.thr_parts.specs.Waking.{Woken, LeftWait, pull_out, resume, mutex_with, gift_of, wake_all}
use Rattle.thr_parts.specs.Locking.{Regained}
use Rattle.thr_parts.specs.Expiry.{due, is_due, due_first, expire_all}
use Rattle.thr_model.specs.States.{State, rank_of}
use Rattle.thr_model.specs.Events.{clock_to, clock_made, clock_line}
use Rattle.thr_model.specs.Calls.{Gifts}
use Rattle.thr_model.specs.Turns.{gift_lines}

filter-shorter : {A : Type 0} (p : A → Bool) (xs : List A) → length (filter p xs) ≤ length xs
filter-shorter p [] = omega arith
filter-shorter p (x ∷ xs) =
    let rest : length (filter p xs) ≤ length xs = filter-shorter p xs in
    elim (p x) as (λ b. length (cond b (x ∷ filter p xs) (filter p xs)) ≤ suc (length xs)) [ true ↦ omega (arith, rest) | false ↦ omega (arith, rest) ]

placed-by : (b : Bool) (e f : ℕ × Seat) (fs more : Seated) → length more ≡ suc (length fs) → length (if b then e ∷ f ∷ fs else f ∷ more) ≡ suc (suc (length fs))
placed-by true e f fs more h = refl
placed-by false e f fs more h = ap suc h

placed-count : (e : ℕ × Seat) (fs : Seated) → length (placed e fs) ≡ suc (length fs)
unfolding placed
placed-count e [] = refl
placed-count e (f ∷ fs) = placed-by (is_before e.1 f.1) e f fs (placed e fs) (placed-count e fs)

order-count : (es : Seated) → length (in_order es) ≡ length es
unfolding in_order
order-count [] = refl
order-count (e ∷ es) = placed-count e (in_order es) ∙ ap suc (order-count es)

due-shorter : (cs : Conds) (rs : Rows) (now : ℤ) → length (due cs rs now) ≤ length rs.seats
unfolding due
due-shorter cs rs now = filter-shorter (λ (e : ℕ × Seat). is_due cs now e.0) rs.seats

numbers-count : (es : Seated) → length (numbers_of es) ≡ length es
numbers-count [] = refl
numbers-count (e ∷ es) = ap suc (numbers-count es)

due-few : (cs : Conds) (rs : Rows) (now : ℤ) → length (due_first cs rs now) ≤ length rs.seats
due-few cs rs now = omega (arith, numbers-count (in_order (due cs rs now)), order-count (due cs rs now), due-shorter cs rs now)

gift-one : (t : Tid) (m : Option NameId) (gets : Bool) → length (gift_of t m gets) ≤ 1
gift-one t (Some m) true = omega arith
gift-one t (Some m) false = omega arith
gift-one t None gets = omega arith

wake-few : (rank : Tid → ℕ) (cs : Conds) (ls : Locks) (rs : Rows) (ts : List Tid) → length (wake_all rank cs ls rs ts).gifts ≤ length ts
unfolding wake_all
wake-few rank cs ls rs [] = omega arith
wake-few rank cs ls rs (t ∷ ts) =
    let left : LeftWait = pull_out cs rs t in
    let o : Regained = resume rank ls left.rows t (mutex_with cs t) in
    let rest : length (wake_all rank left.conds o.locks o.rows ts).gifts ≤ length ts = wake-few rank left.conds o.locks o.rows ts in
    omega (arith, rest, gift-one t (mutex_with cs t) o.gets, length-append (gift_of t (mutex_with cs t) o.gets) (wake_all rank left.conds o.locks o.rows ts).gifts)

tail-of : List Entry → List Entry
tail-of [] = []
tail-of (x ∷ xs) = xs

lines-count : (st : State) (now : ℤ) (cs : Conds) (ls : Locks) (rs : Rows) (ws : List (Tid × Option NameId)) (gs : List (Tid × NameId))
    → length (clock_made st now (record { conds = cs; locks = ls; rows = rs; woken = ws; gifts = gs })).lines ≡ suc (length gs)
unfolding tail-of
lines-count st now cs ls rs ws [] = refl
lines-count st now cs ls rs ws (g ∷ gs) = ap suc (lines-count st now cs ls rs ws gs)

-- A move of the clock gives mutexes to threads that have a seat.
pub clock-few : (st : State) (now : ℤ) → length (clock_to st now).lines ≤ suc (length st.rows.seats)
clock-few st now =
    let o : Woken = expire_all (rank_of st) st.conds st.locks st.rows now in
    let count : length (clock_to st now).lines ≡ suc (length o.gifts) = lines-count st now o.conds o.locks o.rows o.woken o.gifts in
    omega (arith, count, wake-few (rank_of st) st.conds st.locks st.rows (due_first st.conds st.rows now), due-few st.conds st.rows now)

gift-count : (gs : Gifts) → length (gift_lines gs) ≡ length gs
gift-count [] = refl
gift-count (g ∷ gs) = ap suc (gift-count gs)

-- So it gives few.
pub gifts-few : (st : State) (now : ℤ) (gifts : Gifts) (lines : List Entry) → (clock_to st now).lines ≡ lines → lines ≡ clock_line now ∷ gift_lines gifts → length st.rows.seats ≤ most → length gifts ≤ most
gifts-few st now gifts lines e f few =
    let many : length lines ≡ suc (length (gift_lines gifts)) = ap length f in
    omega (arith, few, many, ap length e, clock-few st now, gift-count gifts)

-- ---- the lines that are written

-- The clock moved to this time, and these threads were given their mutex.
abbrev pub IsMoved : (old new : ServicesView) → ℤ → Gifts → Type 0
IsMoved old new now gifts =
    (remainders : Table Remainder) (shared : Table ℤ) → clock_to (state_with old remainders shared) now ≡ record { state = state_with new remainders shared; lines = clock_line now ∷ gift_lines gifts }

pub written-so : (old mid new : List Entry) (e : Entry) (gs ms : Gifts) → mid ≡ old ++ e ∷ [] → new ≡ mid ++ gift_lines ms → ms ≡ gs → new ≡ old ++ (e ∷ gift_lines gs)
written-so old mid new e gs ms first rest same =
    rest ∙ ap (λ (x : Gifts). mid ++ gift_lines x) same ∙ ap (λ (x : List Entry). x ++ gift_lines gs) first ∙ append_assoc old (e ∷ []) (gift_lines gs)

pub lines-few : (e : Entry) (gs : Gifts) → length gs ≤ most → length (e ∷ gift_lines gs) ≤ 1160
lines-few e gs few = omega (arith, few, gift-count gs)

pub lines-len : (old mid new : ℕ) (e : Entry) (gs ms : Gifts) → mid ≡ old + 1 → new ≡ mid + length ms → ms ≡ gs → new ≡ old + length (e ∷ gift_lines gs)
lines-len old mid new e gs ms first rest same = omega (arith, first, rest, ap length same, gift-count gs)

pub room-left : (old mid cap cap' : ℕ) (gs ms : Gifts) → old + 1160 ≤ cap → mid ≡ old + 1 → cap' ≡ cap → length gs ≤ most → ms ≡ gs → mid + length ms ≤ cap'
room-left old mid cap cap' gs ms room first as_much few same = omega (arith, room, first, as_much, few, ap length same)
