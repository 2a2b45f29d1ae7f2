-- A call gives a mutex to one thread at most, a broadcast too. A move of the clock gives one at most to each thread that stands in
-- a row.
use Rattle.std.proofs.Common.{◌≡◌, ℕ, suc, ◌≤◌, ℤ, Bool, true, false, ◌||◌, cond, eqb, List, [], ◌∷◌, ◌++◌, map, length, length-append, Option, Some, None, refl, sym, arith, ◌∙◌, ap, subst}
use Rattle.std.proofs.lemmas.Bool.{false≢true}
use Rattle.std.proofs.lemmas.List.{length-map}
use Rattle.std.specs.Prelude.{if◌then◌else◌, IfSome}
use Rattle.std.specs.List.{filter}
use Rattle.std.specs.Option.{option_map, option_and_then, is_some}
use Rattle.thr_values.specs.declared.number.NameId.{NameId}
use Rattle.thr_values.specs.declared.number.Tid.{Tid}
use Rattle.thr_values.specs.declared.reply.Effect.TheVariants as effect
use Rattle.thr_values.specs.declared.reply.Reply.{Reply}
use Rattle.thr_values.specs.declared.reply.Reply.TheVariants as reply
use Rattle.thr_syntax.specs.declared.dce.DceCall.{DceCall}
use Rattle.thr_syntax.specs.declared.dce.DceCall.TheVariants as dce
use Rattle.thr_syntax.specs.declared.tree.Script.{Script}
use Rattle.thr_parts.specs.declared.mutex.Mutex.{Mutex}
use Rattle.thr_parts.specs.declared.row.RowId.{RowId}
use Rattle.thr_parts.specs.declared.row.RowId.TheVariants as row
use Rattle.thr_parts.specs.declared.row.Seat.{Seat}
use Rattle.thr_parts.specs.declared.wait.Wait.{Wait}
use Rattle.thr_parts.specs.declared.wait.Wait.TheVariants.{Cond, Delay}
use Rattle.thr_parts.specs.Tables.{Table, get, has, keep_if, IsCanonical}
use Rattle.thr_parts.specs.Rows.{Rows, Seated, thread, is_before, placed, in_order, numbers_of, best_first, is_among}
use Rattle.thr_parts.specs.Moves.{make_ready}
use Rattle.thr_parts.specs.Threads.{ThreadsReply, natural}
use Rattle.thr_parts.specs.Cancels.{waits_at_point}
use Rattle.thr_parts.specs.Cancels as cancels
use Rattle.thr_parts.specs.CancelledWaits.{Cancelled, cancel_wait}
use Rattle.thr_parts.specs.Mutexes.{Locks, mutex_at, mutexes_with}
use Rattle.thr_parts.specs.Locking.{as_taken, Regained, is_free, regain, unlock}
use Rattle.thr_parts.specs.Conditions.{Conds, wait_of, mutex_of, wait, timedwait}
use Rattle.thr_parts.specs.Waking.{waits_without, some_if, LeftWait, pull_out, mutex_with, Woken, resume, gift_of, woken_first, wake_all, Signalled, signal}
use Rattle.thr_parts.specs.Expiry.{is_due, due, due_first}
use Rattle.thr_parts.proofs.EntryLaws.{itself}
use Rattle.thr_parts.proofs.StandingLaws.{among_is}
use Rattle.thr_parts.proofs.TableLaws.{get_put, get_cut}
use Rattle.thr_conds.specs.Agreement.{waiting_row, if_waiting, WaitsAgree}
use Rattle.thr_model.specs.States.{State, rank_of}
use Rattle.thr_model.specs.Calls.{Gifts, gifts_of, cancelled, signals_one, answered, first}
use Rattle.thr_event_lines.proofs.OneMutex.{AllAgree, one_mutex}

-- ---- a thread that gets its mutex back

abbrev Free : Locks → NameId → Bool
Free ls m = is_free (mutex_at ls (Some m))

taken_not_free : (mutexes : Table Mutex) (m : NameId) (t : Tid) (o : Option Mutex) (b : Bool) → get mutexes m.0 ≡ o → is_free o ≡ b
    → is_free (get (mutexes_with mutexes (Some m) (keep_if b (option_map (as_taken t) o))) m.0) ≡ false
taken_not_free mutexes m t None true at e = absurd (false≢true e)
taken_not_free mutexes m t None false at e = ap is_free at
taken_not_free mutexes m t (Some x) true at e = ap is_free (get_put mutexes m.0 m.0 (as_taken t x) ∙ ap (λ b. cond b (Some (as_taken t x)) (get mutexes m.0)) (itself m.0))
taken_not_free mutexes m t (Some x) false at e = ap is_free at ∙ e

-- Whether or not it was free, it isn't any more.
regained : (ls : Locks) (rs : Rows) (m : NameId) (t : Tid) (rank : ℕ) → Free (regain ls rs m t rank).locks m ≡ false
regained ls rs m t rank = taken_not_free ls.mutexes m t (get ls.mutexes m.0) (is_free (get ls.mutexes m.0)) refl refl

-- ---- threads that wait with one mutex

-- The mutex that is there is this one.
abbrev IsWith : NameId → Option NameId → Type 0
IsWith m o = IfSome o (λ k. k ≡ m)

-- Each of these threads that waits on a condition waits there with this mutex.
abbrev AreWith : NameId → Conds → List Tid → Type 0
AreWith m cs ts = (u : Tid) → is_among u ts ≡ true → IsWith m (mutex_with cs u)

cut_with : (m : NameId) (b : Bool) (o : Option Wait) → IsWith m (option_and_then mutex_of o) → IsWith m (option_and_then mutex_of (cond b None o))
cut_with m true o h = tt
cut_with m false o h = h

without_with : (m : NameId) (waits : Table Wait) (o : Option Tid) (u : ℕ) → IsWith m (option_and_then mutex_of (get waits u)) → IsWith m (option_and_then mutex_of (get (waits_without waits o) u))
without_with m waits None u h = h
without_with m waits (Some t) u h = subst (λ (o : Option Wait). IsWith m (option_and_then mutex_of o)) (sym (get_cut waits t.0 u)) (cut_with m (eqb t.0 u) (get waits u) h)

or_right : (a b : Bool) → b ≡ true → (a || b) ≡ true
or_right true b e = refl
or_right false b e = e

first_with : (m : NameId) (cs : Conds) (t : Tid) (ts : List Tid) → AreWith m cs (t ∷ ts) → IsWith m (mutex_with cs t)
first_with m cs t ts h = h t (ap (λ b. b || is_among t ts) (itself t.0))

rest_with : (m : NameId) (cs : Conds) (rs : Rows) (t : Tid) (ts : List Tid) → AreWith m cs (t ∷ ts) → AreWith m (pull_out cs rs t).conds ts
rest_with m cs rs t ts h = λ u e. without_with m cs.waits (some_if (is_some (wait_of cs t)) t) u.0 (h u (or_right (eqb t.0 u.0) (is_among u ts) e))

-- ---- threads that are woken

abbrev Gives : ℕ → Woken → Type 0
Gives n w = length w.gifts ≤ n

abbrev More : Type 0
More = Locks → Rows → Woken

-- What one thread is given that leaves its wait, and then more.
abbrev resumed : (Tid → ℕ) → Locks → Rows → Tid → Option NameId → More → Woken
resumed rank ls rs t o more = let x : Regained = resume rank ls rs t o in woken_first t o x.gets (more x.locks x.rows)

abbrev Later : NameId → More → Type 0
Later m more = (ls : Locks) (rs : Rows) → Free ls m ≡ false → Gives 0 (more ls rs)

none_first : (t : Tid) (m : NameId) (b : Bool) (gs : List (Tid × NameId)) → b ≡ false → length gs ≤ 0 → length (gift_of t (Some m) b ++ gs) ≤ 0
none_first t m true gs e h = absurd (false≢true (sym e))
none_first t m false gs e h = h

one_first : (t : Tid) (m : NameId) (b : Bool) (gs : List (Tid × NameId)) → length gs ≤ 0 → length (gift_of t (Some m) b ++ gs) ≤ 1
one_first t m true gs h = omega (arith, h)
one_first t m false gs h = omega (arith, h)

regain_none : (rank : Tid → ℕ) (m : NameId) (ls : Locks) (rs : Rows) (t : Tid) (more : More) → Free ls m ≡ false → Later m more → Gives 0 (resumed rank ls rs t (Some m) more)
regain_none rank m ls rs t more held later =
    let x : Regained = regain ls rs m t (rank t) in none_first t m (Free ls m) (more x.locks x.rows).gifts held (later x.locks x.rows (regained ls rs m t (rank t)))

regain_one : (rank : Tid → ℕ) (m : NameId) (ls : Locks) (rs : Rows) (t : Tid) (more : More) → Later m more → Gives 1 (resumed rank ls rs t (Some m) more)
regain_one rank m ls rs t more later =
    let x : Regained = regain ls rs m t (rank t) in one_first t m (Free ls m) (more x.locks x.rows).gifts (later x.locks x.rows (regained ls rs m t (rank t)))

resume_none : (rank : Tid → ℕ) (m : NameId) (ls : Locks) (rs : Rows) (t : Tid) (o : Option NameId) (more : More) → IsWith m o → Free ls m ≡ false → Later m more → Gives 0 (resumed rank ls rs t o more)
resume_none rank m ls rs t None more h held later = later ls (make_ready rank rs t) held
resume_none rank m ls rs t (Some k) more h held later = subst (λ (n : NameId). Gives 0 (resumed rank ls rs t (Some n) more)) (sym h) (regain_none rank m ls rs t more held later)

resume_one : (rank : Tid → ℕ) (m : NameId) (ls : Locks) (rs : Rows) (t : Tid) (o : Option NameId) (more : More) → IsWith m o → ((k : Locks) (q : Rows) → Gives 1 (more k q)) → Later m more
    → Gives 1 (resumed rank ls rs t o more)
resume_one rank m ls rs t None more h one later = one ls (make_ready rank rs t)
resume_one rank m ls rs t (Some k) more h one later = subst (λ (n : NameId). Gives 1 (resumed rank ls rs t (Some n) more)) (sym h) (regain_one rank m ls rs t more later)

-- Where the mutex is owned, none of those that wait with it gets it.
wake_none : (rank : Tid → ℕ) (m : NameId) (cs : Conds) (ls : Locks) (rs : Rows) (ts : List Tid) → Free ls m ≡ false → AreWith m cs ts → Gives 0 (wake_all rank cs ls rs ts)
unfolding wake_all
wake_none rank m cs ls rs [] held h = omega arith
wake_none rank m cs ls rs (t ∷ ts) held h =
    let left : LeftWait = pull_out cs rs t in
    resume_none rank m ls left.rows t (mutex_with cs t) (λ k q. wake_all rank left.conds k q ts) (first_with m cs t ts h) held
    (λ k q is. wake_none rank m left.conds k q ts is (rest_with m cs rs t ts h))

-- And where it isn't, one of them gets it at most.
wake_one : (rank : Tid → ℕ) (m : NameId) (cs : Conds) (ls : Locks) (rs : Rows) (ts : List Tid) → AreWith m cs ts → Gives 1 (wake_all rank cs ls rs ts)
unfolding wake_all
wake_one rank m cs ls rs [] h = omega arith
wake_one rank m cs ls rs (t ∷ ts) h =
    let left : LeftWait = pull_out cs rs t in
    resume_one rank m ls left.rows t (mutex_with cs t) (λ k q. wake_all rank left.conds k q ts) (first_with m cs t ts h)
    (λ k q. wake_one rank m left.conds k q ts (rest_with m cs rs t ts h)) (λ k q is. wake_none rank m left.conds k q ts is (rest_with m cs rs t ts h))

-- ---- a broadcast

-- The wait is on this condition.
record IsOn (c : NameId) (o : Option Wait) : Type 0 where
  mutex : NameId
  until : Option ℤ
  is : o ≡ Some (Cond c mutex until)

condition_in : NameId → Option RowId → NameId
condition_in d (Some (row.Cond c)) = c
condition_in d _ = d

same_condition : (c d : NameId) → Some (row.Cond c) ≡ Some (row.Cond d) → c ≡ d
unfolding condition_in
same_condition c d e = ap (condition_in d) e

waits_on : (c : NameId) (o : Option Wait) → option_map waiting_row o ≡ Some (row.Cond c) → IsOn c o
waits_on c None e = absurd (cc)
waits_on c (Some (Cond d m until)) e = record { mutex = m; until = until; is = ap (λ (x : NameId). let w : Wait = Cond x m until in Some w) (same_condition d c e) }
waits_on c (Some (Delay until)) e = absurd (cc)

-- Each of these threads waits on this condition.
abbrev AreOn : NameId → Conds → List Tid → Type 0
AreOn c cs ts = (u : Tid) → is_among u ts ≡ true → IsOn c (wait_of cs u)

row_is_on : (cs : Conds) (rs : Rows) (c : NameId) → IsCanonical rs.seats → WaitsAgree cs rs → AreOn c cs (best_first rs (row.Cond c))
row_is_on cs rs c h agrees u e = waits_on c (wait_of cs u) (agrees.same u ∙ ap if_waiting ((among_is rs (row.Cond c) u h).0 e))

with_first : (cs : Conds) (c : NameId) (ts : List Tid) → AllAgree cs.waits → (t : Tid) (x : IsOn c (wait_of cs t)) → AreOn c cs ts → AreWith x.mutex cs ts
with_first cs c ts all t x h u e =
    let y : IsOn c (wait_of cs u) = h u e in
    subst (λ (o : Option Wait). IsWith x.mutex (option_and_then mutex_of o)) (sym y.is) (one_mutex cs all u t c y.mutex x.mutex y.until x.until y.is x.is)

some_name : NameId
some_name = record { 0 = 0 }

nobody_among : (m : NameId) (cs : Conds) → AreWith m cs []
nobody_among m cs u e = absurd (false≢true e)

on_one : (rank : Tid → ℕ) (cs : Conds) (ls : Locks) (rs : Rows) (c : NameId) (ts : List Tid) → AllAgree cs.waits → AreOn c cs ts → Gives 1 (wake_all rank cs ls rs ts)
on_one rank cs ls rs c [] all h = wake_one rank some_name cs ls rs [] (nobody_among some_name cs)
on_one rank cs ls rs c (t ∷ ts) all h =
    let x : IsOn c (wait_of cs t) = h t (ap (λ b. b || is_among t ts) (itself t.0)) in wake_one rank x.mutex cs ls rs (t ∷ ts) (with_first cs c (t ∷ ts) all t x h)

-- What is known of who waits.
pub record IsOrderly (st : State) : Type 0 where
  pub seats : IsCanonical st.rows.seats
  pub waits : WaitsAgree st.conds st.rows
  pub one : AllAgree st.conds.waits

broadcast_one : (st : State) (c : NameId) (b : Bool) → IsOrderly st → Gives 1 (wake_all (rank_of st) st.conds st.locks st.rows (if b then best_first st.rows (row.Cond c) else []))
broadcast_one st c true h = on_one (rank_of st) st.conds st.locks st.rows c (best_first st.rows (row.Cond c)) h.one (row_is_on st.conds st.rows c h.seats h.waits)
broadcast_one st c false h = wake_one (rank_of st) some_name st.conds st.locks st.rows [] (nobody_among some_name st.conds)

-- ---- calls

named_gifts : (gs : List (Tid × NameId)) → length gs ≤ 1 → (let given : Gifts = map (λ g. (g.0, Some g.1)) gs in length given ≤ 1)
named_gifts gs h = omega (arith, h, length-map gs (λ (g : Tid × NameId). let given : Tid × Option NameId = (g.0, Some g.1) in given))

gift_one : (t : Tid) (o : Option NameId) (b : Bool) → length (gift_of t o b) ≤ 1
gift_one t (Some m) true = omega arith
gift_one t (Some m) false = omega arith
gift_one t None b = omega arith

cancelled_gives : (st : State) (w : Tid) (o : ThreadsReply) (y : Reply) → length (cancelled st w o y).gifts ≤ 1
cancelled_gives st w o (reply.Effect effect.Wakes) =
    let c : Cancelled = cancel_wait (rank_of st) st.conds st.pipes st.locks st.rows w in named_gifts c.gifts (gift_one w (mutex_with st.conds w) _)
cancelled_gives st w o (reply.Effect _) = omega arith
cancelled_gives st w o _ = omega arith

given_gives : (o : Option Tid) (m : Option NameId) → length (gifts_of o m) ≤ 1
given_gives None m = omega arith
given_gives (Some t) m = omega arith

got_gives : (b : Bool) (g : Tid × Option NameId) → (let gs : Gifts = if b then g ∷ [] else [] in length gs ≤ 1)
got_gives true g = omega arith
got_gives false g = omega arith

signals_gives : (st : State) (o : Signalled) (w : Option (Tid × NameId)) → length (signals_one st o w).gifts ≤ 1
signals_gives st o None = omega arith
signals_gives st o (Some w) = got_gives (regain st.locks o.rows w.1 w.0 (rank_of st w.0)).gets (w.0, Some w.1)

pub answered_gives : (s : Script) (st : State) (t : Tid) (call : DceCall) (ns : List ℤ) → IsOrderly st → length (answered s st t call ns).gifts ≤ 1
unfolding answered
answered_gives s st t (dce.Cancel e) ns h =
    let who : Tid = thread (natural (first ns)) in
    let o : ThreadsReply = cancels.cancel st.threads (first ns) (waits_at_point st.rows who) in cancelled_gives st who o o.reply
answered_gives s st t (dce.MutexUnlock m) ns h = given_gives (unlock st.locks st.rows (Some m) t).given (Some m)
answered_gives s st t dce.UnlockGlobalNp ns h = given_gives (unlock st.locks st.rows None t).given None
answered_gives s st t (dce.CondWait c m) ns h = given_gives (wait st.conds st.locks st.rows c m t (rank_of st t)).given (Some m)
answered_gives s st t (dce.CondTimedwait c m e) ns h = given_gives (timedwait st.conds st.locks st.rows c m (first ns) st.clock t (rank_of st t)).given (Some m)
answered_gives s st t (dce.CondSignal c) ns h = let o : Signalled = signal st.conds st.rows c in signals_gives st o o.waiter
answered_gives s st t (dce.CondBroadcast c) ns h =
    named_gifts (wake_all (rank_of st) st.conds st.locks st.rows (if has st.conds.made c.0 then best_first st.rows (row.Cond c) else [])).gifts (broadcast_one st c (has st.conds.made c.0) h)
answered_gives s st t _ ns h = omega arith

-- ---- the clock

-- Each thread that is woken is given one mutex at most.
wake_few : (rank : Tid → ℕ) (cs : Conds) (ls : Locks) (rs : Rows) (ts : List Tid) → length (wake_all rank cs ls rs ts).gifts ≤ length ts
unfolding wake_all
wake_few rank cs ls rs [] = omega arith
wake_few rank cs ls rs (t ∷ ts) =
    let left : LeftWait = pull_out cs rs t in
    let o : Regained = resume rank ls left.rows t (mutex_with cs t) in
    let more : Woken = wake_all rank left.conds o.locks o.rows ts in
    let here : length (gift_of t (mutex_with cs t) o.gets) ≤ 1 = gift_one t (mutex_with cs t) o.gets in
    let rest : length more.gifts ≤ length ts = wake_few rank left.conds o.locks o.rows ts in
    omega (arith, here, rest, length-append (gift_of t (mutex_with cs t) o.gets) more.gifts)

filter_few : {A : Type 0} (p : A → Bool) (xs : List A) → length (filter p xs) ≤ length xs
filter_few p [] = omega arith
filter_few p (x ∷ xs) =
    let rest : length (filter p xs) ≤ length xs = filter_few p xs in
    elim (p x) as (λ b. length (cond b (x ∷ filter p xs) (filter p xs)) ≤ suc (length xs)) [ true ↦ omega (arith, rest) | false ↦ omega (arith, rest) ]

placed_chosen : (e f : ℕ × Seat) (fs rest : Seated) (b : Bool) → length rest ≡ suc (length fs) → length (cond b (e ∷ f ∷ fs) (f ∷ rest)) ≡ suc (suc (length fs))
placed_chosen e f fs rest true h = refl
placed_chosen e f fs rest false h = ap suc h

placed_long : (e : ℕ × Seat) (fs : Seated) → length (placed e fs) ≡ suc (length fs)
unfolding placed
placed_long e [] = refl
placed_long e (f ∷ fs) = placed_chosen e f fs (placed e fs) (is_before e.1 f.1) (placed_long e fs)

order_long : (es : Seated) → length (in_order es) ≡ length es
unfolding in_order
order_long [] = refl
order_long (e ∷ es) = placed_long e (in_order es) ∙ ap suc (order_long es)

due_few : (cs : Conds) (rs : Rows) (now : ℤ) → length (due cs rs now) ≤ length rs.seats
unfolding due
due_few cs rs now = filter_few (λ e. is_due cs now e.0) rs.seats

pub expired_few : (st : State) (now : ℤ) → length (wake_all (rank_of st) st.conds st.locks st.rows (due_first st.conds st.rows now)).gifts ≤ length st.rows.seats
expired_few st now =
    let all : Seated = in_order (due st.conds st.rows now) in
    omega (arith, wake_few (rank_of st) st.conds st.locks st.rows (numbers_of all), length-map all (λ e. thread e.0), order_long (due st.conds st.rows now), due_few st.conds st.rows now)
