-- Stops, and moves of the clock.
use Rattle.std.proofs.Common.{◌≡◌, ℕ, ◌+◌, ℤ, List, [], ◌∷◌, length, refl, sym, ◌∙◌, ap, None, Some, Bool, true, false, arith}
use Rattle.std.proofs.Math.Dec.{eqb}
use Rattle.std.specs.Prelude.{Option, is_some, nat_le, ◌||◌, map, cond, if◌then◌else◌}
use Rattle.std.specs.List.{list_any, filter}
use Rattle.std.specs.Option.{option_map}
use Rattle.std.proofs.lemmas.Bool.Decides.{nat_tests}
use Rattle.std.proofs.lemmas.Option.{none-some}
use Rattle.thr_values.specs.declared.event.Event.TheVariants as event
use Rattle.thr_values.specs.declared.event.Stop.{Stop}
use Rattle.thr_values.specs.declared.event.Stop.TheVariants as stops
use Rattle.thr_values.specs.declared.number.Tid.{Tid}
use Rattle.thr_syntax.specs.declared.tree.Script.{Script}
use Rattle.thr_parts.specs.declared.thread.Thread.{Thread}
use Rattle.thr_parts.specs.Tables.{Table, get, has}
use Rattle.thr_parts.specs.declared.row.Seat.{Seat}
use Rattle.thr_parts.specs.Rows.{thread}
use Rattle.thr_parts.specs.Dispatch.{some_can_run}
use Rattle.thr_parts.specs.Expiry.{earliest}
use Rattle.thr_parts.specs.Threads.{live, is_live}
use Rattle.thr_parts.proofs.EntryLaws.{get_cons, get_empty}
use Rattle.thr_parts.proofs.TableLaws.{has_get}
use Rattle.thr_threads.specs.Living.{count_and_first}
use Rattle.thr_model.specs.States.{State}
use Rattle.thr_model.specs.Turns.{Made}
use Rattle.thr_model.specs.Events.{made_by, clock_of, clock_to}
use Rattle.thr_model.specs.Histories.{limit_stop, stop_with, stop_at, limit_of, goes_on}

-- ---- stops

some-first : (t : Tid) (ts : List Tid) → (count_and_first ts).1 ≡ Some t → (us : List Tid) × (ts ≡ t ∷ us)
some-first t [] e = absurd (cc)
some-first t (u ∷ us) e = (us, ap (λ (v : Tid). v ∷ us) (same u t e))
  where
    same : (u t : Tid) → (let o : Option Tid = Some u in o) ≡ Some t → u ≡ t
    same u t e = cc

-- nobody has not ended
pub stops-finished : (ts : List Tid) (going full : Bool) → None ≡ (count_and_first ts).1 → Some stops.Finished ≡ stop_with ts going full
stops-finished [] going full e = refl
stops-finished (t ∷ ts) going full e = absurd (cc)

pub stops-deadlocked : (count : ℕ) (t : Tid) (ts : List Tid) (going full : Bool) → count ≡ (count_and_first ts).0 → Some t ≡ (count_and_first ts).1 → going ≡ false → Some (stops.Deadlock count t) ≡ stop_with ts going full
stops-deadlocked count t ts going full n e still =
    let us : (xs : List Tid) × (ts ≡ t ∷ xs) = some-first t ts (sym e) in
    let many : count ≡ length us.0 + 1 = n ∙ ap (λ (xs : List Tid). (count_and_first xs).0) us.1 in
    rw (still, us.1, many) refl

pub stops-limited : (t : Tid) (ts : List Tid) (going full : Bool) → Some t ≡ (count_and_first ts).1 → going ≡ true → full ≡ true → Some stops.Limit ≡ stop_with ts going full
stops-limited t ts going full e goes full_ =
    let us : (xs : List Tid) × (ts ≡ t ∷ xs) = some-first t ts (sym e) in rw (goes, full_, us.1) refl

pub stops-not : (t : Tid) (ts : List Tid) (going full : Bool) → Some t ≡ (count_and_first ts).1 → going ≡ true → full ≡ false → None ≡ stop_with ts going full
stops-not t ts going full e goes full_ =
    let us : (xs : List Tid) × (ts ≡ t ∷ xs) = some-first t ts (sym e) in rw (goes, full_, us.1) refl

pub stop-is : (s : Script) (st : State) (count : ℕ) (o : Option Stop) (going full : Bool) → o ≡ stop_with (live st.threads) going full → going ≡ goes_on st → full ≡ nat_le (limit_of s) count → o ≡ stop_at s st count
unfolding stop_at
stop-is s st count o going full is e f = is ∙ ap (λ (b : Bool). stop_with (live st.threads) b full) e ∙ ap (stop_with (live st.threads) (goes_on st)) f

-- ---- the stop where a thread is ready or runs

first-has : {A : Type 0} (e : ℕ × A) (m : Table A) → has (e ∷ m) e.0 ≡ true
first-has e m = has_get (e ∷ m) e.0 ∙ ap is_some (get_cons e m e.0) ∙ here (eqb e.0 e.0) e.1 (get m e.0) (grind (arith, nat_tests))
  where
    here : {A : Type 0} (b : Bool) (a : A) (o : Option A) → b ≡ true → is_some (cond b (Some a) o) ≡ true
    here true a o e = refl
    here false a o e = absurd (cc)

-- Whoever can run has a seat.
some-seat : (p : ℕ × Seat → Bool) (m : Table Seat) → list_any p m ≡ true → (t : ℕ) × (has m t ≡ true)
some-seat p [] e = absurd (cc)
some-seat p (e ∷ m) h = (e.0, first-has e m)

nobody-by : (e : ℕ × Thread) (m : Table Thread) (t : ℕ) (th : Thread) (b c : Bool) → is_live e ≡ b → map (λ e. thread e.0) (if b then e ∷ filter is_live m else filter is_live m) ≡ []
    → cond c (Some e.1) (get m t) ≡ Some th → th.ended ≡ None → (map (λ e. thread e.0) (filter is_live m) ≡ [] → get m t ≡ Some th → ⊥) → ⊥
nobody-by e m t th true c l none g n more = absurd (cc)
nobody-by e m t th false true l none g n more = absurd (cc)
nobody-by e m t th false false l none g n more = more none g

-- A thread with a record that has not ended is one of those that have not.
nobody : (m : Table Thread) (t : ℕ) (th : Thread) → map (λ e. thread e.0) (filter is_live m) ≡ [] → get m t ≡ Some th → th.ended ≡ None → ⊥
nobody [] t th e g n = none-some th (sym (get_empty t) ∙ g)
nobody (x ∷ m) t th e g n = nobody-by x m t th (is_live x) (eqb x.0 t) refl e (sym (get_cons x m t) ∙ g) n (λ none found. nobody m t th none found n)

stops-running : (ts : List Tid) (going full : Bool) → (ts ≡ [] → ⊥) → going ≡ true → limit_stop full ≡ stop_with ts going full
stops-running [] going full some g = absurd (some refl)
stops-running (t ∷ ts) going full some g = rw g refl

found : {A : Type 0} (o : Option A) → is_some o ≡ true → (a : A) × (o ≡ Some a)
found (Some a) e = (a, refl)
found None e = absurd (cc)

-- Where a thread is ready or runs, the stop is that of the limit, if it is any.
pub stop-running : (s : Script) (st : State) (count : ℕ) (o : Option Stop) (full : Bool)
    → ((t : ℕ) → has st.rows.seats t ≡ true → has st.threads.records t ≡ true)
    → ((t : ℕ) (th : Thread) → has st.rows.seats t ≡ true → get st.threads.records t ≡ Some th → th.ended ≡ None)
    → some_can_run st.rows ≡ true → full ≡ nat_le (limit_of s) count → o ≡ limit_stop full → o ≡ stop_at s st count
unfolding stop_at
stop-running s st count o full records living can is_full is =
    is ∙ stops-running (live st.threads) (goes_on st) full some (ap (λ b. b || is_some (earliest st.conds)) can) ∙ ap (stop_with (live st.threads) (goes_on st)) is_full
  where
    some : live st.threads ≡ [] → ⊥
    some none =
        let seat : (t : ℕ) × (has st.rows.seats t ≡ true) = some-seat _ st.rows.seats can in
        let record_ : (th : Thread) × (get st.threads.records seat.0 ≡ Some th) = found (get st.threads.records seat.0) (sym (has_get st.threads.records seat.0) ∙ records seat.0 seat.1) in
        nobody st.threads.records seat.0 record_.0 none record_.1 (living seat.0 record_.0 seat.1 record_.1)

-- ---- the clock

no-clock : (b : Bool) (st : State) → earliest st.conds ≡ None → clock_of b st ≡ None
no-clock true st e = refl
no-clock false st e = ap (option_map (clock_to st)) e

-- The clock doesn't move where a thread is ready or runs, and where none waits for a time.
pub clock-busy : (s : Script) (n : ℕ) (st : State) → some_can_run st.rows ≡ true → made_by s n st event.Clock ≡ None
unfolding made_by
clock-busy s n st e = ap (λ (b : Bool). clock_of b st) e

pub clock-idle : (s : Script) (n : ℕ) (st : State) → earliest st.conds ≡ None → made_by s n st event.Clock ≡ None
unfolding made_by
clock-idle s n st e = no-clock (some_can_run st.rows) st e

pub clock-moves : (s : Script) (n : ℕ) (st : State) (now : ℤ) (made : Made) → some_can_run st.rows ≡ false → earliest st.conds ≡ Some now → clock_to st now ≡ made → made_by s n st event.Clock ≡ Some made
unfolding made_by
clock-moves s n st now made still at is = ap (λ (b : Bool). clock_of b st) still ∙ ap (option_map (clock_to st)) at ∙ ap (λ (m : Made). Some m) is
