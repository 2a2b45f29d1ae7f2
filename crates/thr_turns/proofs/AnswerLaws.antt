-- What answers to calls give, and which threads they make.
use Rattle.std.proofs.Common.{◌≡◌, ℕ, suc, ◌+◌, ◌≤◌, ℤ, Bool, true, false, cond, eqb, List, [], ◌∷◌, ◌++◌, length, map, arith, Option, Some, None, refl, sym, ap, subst, ◌∙◌}
use Rattle.std.specs.Prelude.{if◌then◌else◌}
use Rattle.std.specs.List.{filter}
use Rattle.std.proofs.lemmas.List.{length-append, length-map}
use Rattle.std.proofs.lemmas.Bool.Decides.{nat_tests}
use Rattle.thr_values.specs.declared.number.NameId.{NameId}
use Rattle.thr_values.specs.declared.number.Tid.{Tid}
use Rattle.thr_values.specs.declared.reply.Effect.TheVariants as effect
use Rattle.thr_values.specs.declared.reply.Reply.{Reply}
use Rattle.thr_values.specs.declared.reply.Reply.TheVariants as reply
use Rattle.thr_syntax.specs.declared.dce.DceCall.{DceCall}
use Rattle.thr_syntax.specs.declared.dce.DceCall.TheVariants as dce
use Rattle.thr_syntax.specs.declared.tree.Script.{Script}
use Rattle.thr_remainder.specs.Remainders.{Remainder}
use Rattle.thr_remainder.specs.Starts.{fresh}
use Rattle.thr_parts.specs.declared.row.RowId.{RowId}
use Rattle.thr_parts.specs.declared.row.RowId.TheVariants as row
use Rattle.thr_parts.specs.declared.row.Seat.{Seat}
use Rattle.thr_parts.specs.Tables.{Table, none, get, has, put, put_if, keep_if}
use Rattle.thr_parts.specs.Replies.{is_value}
use Rattle.thr_parts.specs.Rows.{Rows, Seated, thread, is_before, placed, in_order, standing, best_first}
use Rattle.thr_parts.specs.Threads.{ThreadsReply, natural}
use Rattle.thr_parts.specs.Cancels.{waits_at_point}
use Rattle.thr_parts.specs.Cancels as cancels
use Rattle.thr_parts.specs.CancelledWaits.{Cancelled, cancel_wait}
use Rattle.thr_parts.specs.Mutexes.{Locks}
use Rattle.thr_parts.specs.Locking.{Unlocked, Regained, unlock, regain}
use Rattle.thr_parts.specs.Conditions.{Conds, Waited, wait, timedwait}
use Rattle.thr_parts.specs.Waking.{LeftWait, Signalled, pull_out, mutex_with, resume, gift_of, wake_all, signal, broadcast}
use Rattle.thr_parts.specs.Pipes.{ReadReply, WriteReply, read, write}
use Rattle.thr_parts.proofs.TableLaws.{get_none, get_put}
use Rattle.thr_model.specs.States.{State, rank_of}
use Rattle.thr_model.specs.Calls.{Gifts, Answered, cancelled, given_state, gifts_of, unlocks, waits, signals_one, woken_state, reads, writes, first, answered}
use Rattle.thr_services.specs.declared.answer.Answer.{Answer}
use Rattle.thr_services.specs.Views.{ServicesView, state_with}
use Rattle.thr_services.specs.Answers.{Answers, begun}
use Rattle.thr_frames.specs.Stacks.{IsRoutine}
use Rattle.thr_turns.specs.Steps.{left_in, IsBegun}
use Rattle.thr_turns.specs.Replies.{created_by, left_of, left_by}

-- ---- how many threads are given something

filter-shorter : {A : Type 0} (p : A → Bool) (xs : List A) → length (filter p xs) ≤ length xs
filter-shorter p [] = omega arith
filter-shorter p (x ∷ xs) =
    let rest : length (filter p xs) ≤ length xs = filter-shorter p xs in
    elim (p x) as (λ b. length (cond b (x ∷ filter p xs) (filter p xs)) ≤ suc (length xs)) [ true ↦ omega (arith, rest) | false ↦ omega (arith, rest) ]

placed-by : (b : Bool) (e f : ℕ × Seat) (fs more : Seated) → length more ≡ suc (length fs) → length (if b then e ∷ f ∷ fs else f ∷ more) ≡ suc (suc (length fs))
placed-by true e f fs more h = refl
placed-by false e f fs more h = ap suc h

placed-length : (e : ℕ × Seat) (fs : Seated) → length (placed e fs) ≡ suc (length fs)
unfolding placed
placed-length e [] = refl
placed-length e (f ∷ fs) = placed-by (is_before e.1 f.1) e f fs (placed e fs) (placed-length e fs)

order-length : (es : Seated) → length (in_order es) ≡ length es
unfolding in_order
order-length [] = refl
order-length (e ∷ es) = placed-length e (in_order es) ∙ ap suc (order-length es)

standing-few : (rs : Rows) (r : RowId) → length (standing rs r) ≤ length rs.seats
unfolding standing
standing-few rs r = filter-shorter _ rs.seats

best-few : (rs : Rows) (r : RowId) → length (best_first rs r) ≤ length rs.seats
best-few rs r = subst (λ (n : ℕ). n ≤ length rs.seats) (sym (length-map (in_order (standing rs r)) (λ e. thread e.0) ∙ order-length (standing rs r))) (standing-few rs r)

gift-short : (t : Tid) (m : Option NameId) (b : Bool) → length (gift_of t m b) ≤ 1
gift-short t (Some m) true = omega arith
gift-short t (Some m) false = omega arith
gift-short t None b = omega arith

both-short : {A : Type 0} (xs ys : List A) (n : ℕ) → length xs ≤ 1 → length ys ≤ n → length (xs ++ ys) ≤ suc n
both-short xs ys n h i = omega (arith, length-append xs ys, h, i)

wake-few : (rank : Tid → ℕ) (cs : Conds) (ls : Locks) (rs : Rows) (ts : List Tid) → length (wake_all rank cs ls rs ts).gifts ≤ length ts
unfolding wake_all
wake-few rank cs ls rs [] = omega arith
wake-few rank cs ls rs (t ∷ ts) =
    let left : LeftWait = pull_out cs rs t in
    let o : Regained = resume rank ls left.rows t (mutex_with cs t) in
    both-short (gift_of t (mutex_with cs t) o.gets) (wake_all rank left.conds o.locks o.rows ts).gifts (length ts) (gift-short t (mutex_with cs t) o.gets) (wake-few rank left.conds o.locks o.rows ts)

if-few : (b : Bool) (ts : List Tid) (n : ℕ) → length ts ≤ n → length (if b then ts else []) ≤ n
if-few true ts n h = h
if-few false ts n h = omega arith

at-most : (a b n : ℕ) → a ≤ b → b ≤ n → a ≤ n + 1
at-most a b n h i = omega arith

one-more : (a n : ℕ) → a ≤ 1 → a ≤ n + 1
one-more a n h = omega arith

none-more : (n : ℕ) → 0 ≤ n + 1
none-more n = omega arith

gifts-short : (o : Option Tid) (m : Option NameId) → length (gifts_of o m) ≤ 1
gifts-short None m = omega arith
gifts-short (Some t) m = omega arith

mapped-short : (xs : List (Tid × NameId)) (n : ℕ) → length xs ≤ n → (let gs : Gifts = map (λ g. (g.0, Some g.1)) xs in length gs) ≤ n
mapped-short [] n h = h
mapped-short (x ∷ xs) n h = subst (λ (k : ℕ). k ≤ n) (sym (length-map (x ∷ xs) _)) h

regains-short : (b : Bool) (t : Tid) (m : NameId) → (let gs : Gifts = if b then (t, Some m) ∷ [] else [] in length gs) ≤ 1
regains-short true t m = omega arith
regains-short false t m = omega arith

signals-short : (st : State) (o : Signalled) (w : Option (Tid × NameId)) → length (signals_one st o w).gifts ≤ 1
signals-short st o None = omega arith
signals-short st o (Some w) = regains-short (regain st.locks o.rows w.1 w.0 (rank_of st w.0)).gets w.0 w.1

cancelled-short : (st : State) (who : Tid) (o : ThreadsReply) (y : Reply) → length (cancelled st who o y).gifts ≤ 1
cancelled-short st who o (reply.Effect effect.Wakes) =
    let c : Cancelled = cancel_wait (rank_of st) st.conds st.pipes st.locks st.rows who in
    mapped-short c.gifts 1 (gift-short who (mutex_with st.conds who) _)
cancelled-short st who o (reply.Effect effect.Ended) = omega arith
cancelled-short st who o (reply.Effect effect.Merged) = omega arith
cancelled-short st who o (reply.Effect effect.Pending) = omega arith
cancelled-short st who o reply.Done = omega arith
cancelled-short st who o (reply.Value n) = omega arith
cancelled-short st who o reply.Eof = omega arith
cancelled-short st who o reply.Blocks = omega arith
cancelled-short st who o reply.Einval = omega arith
cancelled-short st who o reply.Eperm = omega arith
cancelled-short st who o reply.Edeadlk = omega arith
cancelled-short st who o reply.Ebusy = omega arith
cancelled-short st who o reply.Esrch = omega arith
cancelled-short st who o reply.Eagain = omega arith
cancelled-short st who o reply.Epipe = omega arith

broadcast-few : (rank : Tid → ℕ) (cs : Conds) (ls : Locks) (rs : Rows) (c : NameId) → length (broadcast rank cs ls rs c).woken.gifts ≤ length rs.seats + 1
broadcast-few rank cs ls rs c =
    let ts : List Tid = if has cs.made c.0 then best_first rs (row.Cond c) else [] in
    at-most _ (length ts) (length rs.seats) (wake-few rank cs ls rs ts) (if-few (has cs.made c.0) (best_first rs (row.Cond c)) (length rs.seats) (best-few rs (row.Cond c)))

-- A call gives something to one thread more at most than stand in rows or run.
pub gifts-few : (s : Script) (st : State) (t : Tid) (call : DceCall) (ns : List ℤ) → length (answered s st t call ns).gifts ≤ length st.rows.seats + 1
unfolding answered
gifts-few s st t (dce.Cancel e) ns =
    let who : Tid = thread (natural (first ns)) in
    let o : ThreadsReply = cancels.cancel st.threads (first ns) (waits_at_point st.rows who) in
    one-more _ (length st.rows.seats) (cancelled-short st who o o.reply)
gifts-few s st t (dce.MutexUnlock m) ns = one-more _ (length st.rows.seats) (gifts-short (unlock st.locks st.rows (Some m) t).given (Some m))
gifts-few s st t dce.UnlockGlobalNp ns = one-more _ (length st.rows.seats) (gifts-short (unlock st.locks st.rows None t).given None)
gifts-few s st t (dce.CondWait c m) ns = one-more _ (length st.rows.seats) (gifts-short (wait st.conds st.locks st.rows c m t (rank_of st t)).given (Some m))
gifts-few s st t (dce.CondTimedwait c m e) ns =
    one-more _ (length st.rows.seats) (gifts-short (timedwait st.conds st.locks st.rows c m (first ns) st.clock t (rank_of st t)).given (Some m))
gifts-few s st t (dce.CondSignal c) ns = one-more _ (length st.rows.seats) (signals-short st (signal st.conds st.rows c) (signal st.conds st.rows c).waiter)
gifts-few s st t (dce.CondBroadcast c) ns =
    mapped-short (broadcast (rank_of st) st.conds st.locks st.rows c).woken.gifts (length st.rows.seats + 1) (broadcast-few (rank_of st) st.conds st.locks st.rows c)
gifts-few s st t _ ns = none-more (length st.rows.seats)

-- ---- which threads begin

-- What is left to do in threads where a call was to make one at the routine that is there.
abbrev with_new : Script → State → Option NameId → Bool → ℤ → Table Remainder
with_new s st None made n = st.remainders
with_new s st (Some routine) made n = put_if st.remainders st.threads.next (keep_if made (Some (fresh s routine n)))

unlocks-same : (st : State) (m : Option NameId) (o : Unlocked) → (unlocks st m o).state.remainders ≡ st.remainders
unlocks-same st m o = by o.given
  where
    by : (w : Option Tid) → (given_state (record st { locks = o.locks }) o.rows w).remainders ≡ st.remainders
    by None = refl
    by (Some t) = refl

waits-same : (st : State) (m : NameId) (o : Waited) → (waits st m o).state.remainders ≡ st.remainders
waits-same st m o = by o.given
  where
    by : (w : Option Tid) → (given_state (record st { conds = o.conds; locks = o.locks }) o.rows w).remainders ≡ st.remainders
    by None = refl
    by (Some t) = refl

signals-same : (st : State) (o : Signalled) (w : Option (Tid × NameId)) → (signals_one st o w).state.remainders ≡ st.remainders
signals-same st o None = refl
signals-same st o (Some w) = refl

reads-same : (st : State) (o : ReadReply) → (reads st o).state.remainders ≡ st.remainders
reads-same st o = by o.relieved
  where
    by : (w : Option Tid) → (woken_state (record st { pipes = o.pipes }) o.rows reply.Done w).remainders ≡ st.remainders
    by None = refl
    by (Some t) = refl

writes-same : (st : State) (n : ℤ) (o : WriteReply) → (writes st n o).state.remainders ≡ st.remainders
writes-same st n o = by o.reader
  where
    by : (w : Option Tid) → (woken_state (record st { pipes = o.pipes }) o.rows (reply.Value n) w).remainders ≡ st.remainders
    by None = refl
    by (Some t) = refl

cancelled-same : (st : State) (who : Tid) (o : ThreadsReply) (y : Reply) → (cancelled st who o y).state.remainders ≡ st.remainders
cancelled-same st who o (reply.Effect effect.Wakes) = refl
cancelled-same st who o (reply.Effect effect.Ended) = refl
cancelled-same st who o (reply.Effect effect.Merged) = refl
cancelled-same st who o (reply.Effect effect.Pending) = refl
cancelled-same st who o _ = refl

remainders-are : (s : Script) (st : State) (t : Tid) (call : DceCall) (ns : List ℤ)
    → (answered s st t call ns).state.remainders ≡ with_new s st (created_by call) (is_value (answered s st t call ns).reply) (first ns)
unfolding answered
remainders-are s st t (dce.Create v attr routine e) ns = refl
remainders-are s st t (dce.Cancel e) ns =
    let who : Tid = thread (natural (first ns)) in
    let o : ThreadsReply = cancels.cancel st.threads (first ns) (waits_at_point st.rows who) in
    cancelled-same st who o o.reply
remainders-are s st t (dce.MutexUnlock m) ns = unlocks-same st (Some m) (unlock st.locks st.rows (Some m) t)
remainders-are s st t dce.UnlockGlobalNp ns = unlocks-same st None (unlock st.locks st.rows None t)
remainders-are s st t (dce.CondWait c m) ns = waits-same st m (wait st.conds st.locks st.rows c m t (rank_of st t))
remainders-are s st t (dce.CondTimedwait c m e) ns = waits-same st m (timedwait st.conds st.locks st.rows c m (first ns) st.clock t (rank_of st t))
remainders-are s st t (dce.CondSignal c) ns = signals-same st (signal st.conds st.rows c) (signal st.conds st.rows c).waiter
remainders-are s st t (dce.Read p v w) ns = reads-same st (read st.pipes st.rows p t (rank_of st t))
remainders-are s st t (dce.Write p e) ns = writes-same st (first ns) (write st.pipes st.rows p (first ns) t (rank_of st t))
remainders-are s st t _ ns = refl

-- The thread that begins is the one that the call made.
abbrev BegunAs : Script → ServicesView → Option NameId → ℤ → Option (Tid × NameId × ℤ) → Type 0
BegunAs s v routine n None = Unit {0}
BegunAs s v None n (Some b) = ⊥
BegunAs s v (Some routine) n (Some b) = (b.0.0 ≡ v.threads.next) × (fresh s b.1 b.2 ≡ fresh s routine n)

some-of : (x y : Remainder) → (let o : Option Remainder = Some x in o) ≡ Some y → x ≡ y
some-of x y e = cc

pub put-here : (k : ℕ) (r : Remainder) → get (put none k r) k ≡ Some r
put-here k r = get_put none k k r ∙ by (eqb k k) (grind (arith, nat_tests))
  where
    by : (b : Bool) → b ≡ true → cond b (Some r) (get none k) ≡ Some r
    by true e = refl
    by false e = absurd (cc)

never-put : (k : ℕ) (r : Remainder) → (let m : Table Remainder = none in m) ≡ put none k r → ⊥
never-put k r e = absurd (cc (sym (get_none k) ∙ ap (λ (m : Table Remainder). get m k) e ∙ put-here k r))

same-by : (b : Bool) (j k : ℕ) (x y : Remainder) → eqb j k ≡ b → cond b (Some x) None ≡ Some y → (k ≡ j) × (y ≡ x)
same-by true j k x y e h = (grind (arith, nat_tests), sym (some-of x y h))
same-by false j k x y e h = absurd (cc)

same-put : (j k : ℕ) (x y : Remainder) → put none j x ≡ put none k y → (k ≡ j) × (y ≡ x)
same-put j k x y e =
    same-by (eqb j k) j k x y refl (ap (cond (eqb j k) (Some x)) (sym (get_none k)) ∙ sym (get_put none j k x) ∙ ap (λ (m : Table Remainder). get m k) e ∙ put-here k y)

new-put : (j k : ℕ) (x y : Remainder) (b : Bool) → put_if none j (keep_if b (Some x)) ≡ put none k y → (k ≡ j) × (y ≡ x)
new-put j k x y true e = same-put j k x y e
new-put j k x y false e = absurd (never-put k y e)

begun-as : (s : Script) (v : ServicesView) (shared : Table ℤ) (routine : Option NameId) (made : Bool) (n : ℤ) (begins : Option (Tid × NameId × ℤ))
    → with_new s (state_with v none shared) routine made n ≡ begun s none begins → BegunAs s v routine n begins
begun-as s v shared routine made n None e = tt
begun-as s v shared None made n (Some b) e = never-put b.0.0 (fresh s b.1 b.2) e
begun-as s v shared (Some routine) made n (Some b) e = new-put v.threads.next b.0.0 (fresh s routine n) (fresh s b.1 b.2) made e

answer-begins : (s : Script) (old new : ServicesView) (a : Answer) (gifts : Gifts) (t : Tid) (call : DceCall) (ns : List ℤ) → Answers old new a gifts (λ s st. answered s st t call ns)
    → BegunAs s old (created_by call) (first ns) a.begins
answer-begins s old new a gifts t call ns h =
    begun-as s old none (created_by call) _ (first ns) a.begins (sym (remainders-are s (state_with old none none) t call ns) ∙ ap (λ (o : Answered). o.state.remainders) (h s none none))

-- ---- what the caller is left with

left-so : (s : Script) (v : ServicesView) (rs : Table Remainder) (t : Tid) (r : Remainder) (routine : Option NameId) (n : ℤ) (begins : Option (Tid × NameId × ℤ)) → BegunAs s v routine n begins
    → put (begun s rs begins) t.0 r ≡ left_in s rs t r (left_of routine n begins)
left-so s v rs t r routine n None h = refl
left-so s v rs t r None n (Some b) h = absurd h
left-so s v rs t r (Some routine) n (Some b) h = ap (λ (x : Remainder). put (put rs b.0.0 x) t.0 r) h.1

is-begun : (s : Script) (v : ServicesView) (routine : Option NameId) (n : ℤ) (begins : Option (Tid × NameId × ℤ)) → BegunAs s v routine n begins
    → ((name : NameId) → routine ≡ Some name → IsRoutine s name) → IsBegun s v (left_of routine n begins)
is-begun s v routine n None h law = tt
is-begun s v None n (Some b) h law = tt
is-begun s v (Some routine) n (Some b) h law = (h.0, law routine refl)

-- What is left to do in threads after a call.
pub left-after : (s : Script) (old new : ServicesView) (a : Answer) (gifts : Gifts) (t : Tid) (call : DceCall) (ns : List ℤ) (r : Remainder) (rs : Table Remainder)
    → Answers old new a gifts (λ s st. answered s st t call ns) → put (begun s rs a.begins) t.0 r ≡ left_in s rs t r (left_by call ns a.begins)
left-after s old new a gifts t call ns r rs h = left-so s old rs t r (created_by call) (first ns) a.begins (answer-begins s old new a gifts t call ns h)

pub begun-after : (s : Script) (old new : ServicesView) (a : Answer) (gifts : Gifts) (t : Tid) (call : DceCall) (ns : List ℤ) → Answers old new a gifts (λ s st. answered s st t call ns)
    → ((name : NameId) → created_by call ≡ Some name → IsRoutine s name) → IsBegun s old (left_by call ns a.begins)
begun-after s old new a gifts t call ns h law = is-begun s old (created_by call) (first ns) a.begins (answer-begins s old new a gifts t call ns h) law

-- How many threads an answer gives something.
pub answer-gives : (s : Script) (old new : ServicesView) (a : Answer) (gifts : Gifts) (t : Tid) (call : DceCall) (ns : List ℤ) → Answers old new a gifts (λ s st. answered s st t call ns)
    → length old.rows.seats ≤ 1024 → length gifts ≤ 1025
answer-gives s old new a gifts t call ns h few =
    let same : (answered s (state_with old none none) t call ns).gifts ≡ gifts = ap (λ (o : Answered). o.gifts) (h s none none) in
    let all : length (answered s (state_with old none none) t call ns).gifts ≤ length old.rows.seats + 1 = gifts-few s (state_with old none none) t call ns in
    bound (length gifts) (length old.rows.seats) (subst (λ (gs : Gifts). length gs ≤ length old.rows.seats + 1) same all) few
  where
    bound : (n m : ℕ) → n ≤ m + 1 → m ≤ 1024 → n ≤ 1025
    bound n m h i = omega arith
