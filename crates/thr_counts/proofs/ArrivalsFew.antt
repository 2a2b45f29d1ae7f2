-- One event gives few arrivals.
use Rattle.std.proofs.Common.{◌≡◌, ℕ, ◌+◌, ◌*◌, ◌≤◌, ◌<◌, ℤ, Bool, true, false, List, [], ◌++◌, length, length-append, Option, Some, None, Ok, Err, refl, ap, subst, arith}
use Rattle.std.specs.Prelude.{if◌then◌else◌, nat_lt}
use Rattle.std.specs.Option.{option_map, unwrap_or}
use Rattle.thr_values.specs.declared.number.NameId.{NameId}
use Rattle.thr_values.specs.declared.number.Tid.{Tid}
use Rattle.thr_values.specs.declared.event.Event.{Event}
use Rattle.thr_values.specs.declared.event.Event.TheVariants as event
use Rattle.thr_values.specs.declared.reply.Effect.TheVariants as effect
use Rattle.thr_values.specs.declared.reply.Reply.{Reply}
use Rattle.thr_values.specs.declared.reply.Reply.TheVariants as reply
use Rattle.thr_values.specs.declared.history.Entry.{Entry}
use Rattle.thr_syntax.specs.declared.dce.DceCall.{DceCall}
use Rattle.thr_syntax.specs.declared.dce.DceCall.TheVariants as dce
use Rattle.thr_syntax.specs.declared.tree.Script.{Script}
use Rattle.thr_remainder.specs.Acts.{Act, Asks}
use Rattle.thr_remainder.specs.Remainders.{Setting, Remainder, act_at}
use Rattle.thr_remainder.specs.Steps.{written}
use Rattle.thr_remainder.specs.Replies.{Values, asked}
use Rattle.thr_remainder.specs.Runs.{Halt, Delivers, Shares, Undoes, Completes, Ends, Pauses, Run, run_of, most_steps}
use Rattle.thr_parts.specs.declared.row.RowId.TheVariants as row
use Rattle.thr_parts.specs.Tables.{has, cut, IsCanonical}
use Rattle.thr_parts.specs.Replies.{is_value, is_blocks}
use Rattle.thr_parts.specs.Rows.{Rows, most, thread, best_first}
use Rattle.thr_parts.specs.Moves.{take_out, take_out_if, block_if}
use Rattle.thr_parts.specs.Dispatch.{running, some_can_run, dispatch}
use Rattle.thr_parts.specs.Threads as threads
use Rattle.thr_parts.specs.Threads.{Threads, ThreadsReply, natural, rank_at}
use Rattle.thr_parts.specs.Scheduling.{setprio, setscheduler}
use Rattle.thr_parts.specs.Cancels.{mode_at, waits_at_point}
use Rattle.thr_parts.specs.Cancels as cancels
use Rattle.thr_parts.specs.Mutexes.{mutex_at, waiters_row}
use Rattle.thr_parts.specs.Locking.{lock_reply, unlock}
use Rattle.thr_parts.specs.Conditions.{Waited, wait, timedwait, delay_reply}
use Rattle.thr_parts.specs.Waking.{mutex_with, Signalled, signal}
use Rattle.thr_parts.specs.Expiry.{earliest, due_first}
use Rattle.thr_parts.specs.Keys.{DestructorCall, NextDestructor, next_destructor}
use Rattle.thr_parts.specs.OnceBlocks as once
use Rattle.thr_parts.specs.OnceBlocks.{enter}
use Rattle.thr_parts.specs.Pipes.{read, write}
use Rattle.thr_model.specs.States.{State, Debt, Return, Delivery, Running, rank_of, remainder_of, setting_of, debt_of, shared_values}
use Rattle.thr_model.specs.Calls.{answered, ready_if, rank_if, cancelled, given_state, signals_one, woken_state, first, second}
use Rattle.thr_model.specs.Turns.{Made, called, written_to, shared_made, handed_on, end_made, debt_made, halt_made, turn_by, kept, turn_of}
use Rattle.thr_model.specs.Events.{dispatch_made, clock_to, clock_of, made_by}
use Rattle.thr_model.specs.Histories.{Execution, History, opened, then_event}
use Rattle.thr_model.proofs.RowsKept.{history_canonical}
use Rattle.thr_counts.proofs.EventLines.{made_line}
use Rattle.thr_counts.proofs.ArrivalCounts.{few_in_row, few_due, block_adds, free_adds, resume_adds, wake_adds, close_adds}

-- ---- sums

none_more : (n : ℕ) → n ≤ n + 2048
none_more n = omega arith

one_more : (n a : ℕ) → a ≤ n + 1 → a ≤ n + 2048
one_more n a h = omega (arith, h)

two_more : (n a b : ℕ) → a ≤ n + 1 → b ≤ a + 1 → b ≤ n + 2048
two_more n a b h i = omega (arith, h, i)

some_more : (n a k j : ℕ) → a ≤ n + k → k ≤ j → j ≤ 1024 → a ≤ n + 2048
some_more n a k j h i few = omega (arith, h, i, few)

twice_more : (n a k : ℕ) → a ≤ n + (k + k) → k ≤ 1024 → a ≤ n + 2048
twice_more n a k h few = omega (arith, h, few)

-- ---- calls

-- The state has at most so many arrivals more than the rows.
abbrev Adds : ℕ → Rows → State → Type 0
Adds k rs st = st.rows.next_arrival ≤ rs.next_arrival + k

ready_if_adds : (b : Bool) (rank : Tid → ℕ) (rs : Rows) (t : Tid) → (ready_if b rank rs t).next_arrival ≤ rs.next_arrival + 1
ready_if_adds true rank rs t = omega arith
ready_if_adds false rank rs t = omega arith

rank_if_adds : (b : Bool) (ths : Threads) (rs : Rows) (t : Tid) → (rank_if b ths rs t).next_arrival ≤ rs.next_arrival + 1
rank_if_adds true ths rs t = omega arith
rank_if_adds false ths rs t = omega arith

cancelled_adds : (st : State) (target : Tid) (o : ThreadsReply) (y : Reply) → Adds 1 st.rows (cancelled st target o y).state
cancelled_adds st target o (reply.Effect effect.Wakes) = resume_adds (rank_of st) st.locks (take_out st.rows target).rows target (mutex_with st.conds target)
cancelled_adds st target o (reply.Effect _) = omega arith
cancelled_adds st target o _ = omega arith

given_adds : (st : State) (rs : Rows) (o : Option Tid) → Adds 1 rs (given_state st rs o)
given_adds st rs None = omega arith
given_adds st rs (Some t) = omega arith

signals_adds : (st : State) (o : Signalled) (w : Option (Tid × NameId)) → Adds 1 o.rows (signals_one st o w).state
signals_adds st o None = omega arith
signals_adds st o (Some w) = omega arith

woken_adds : (st : State) (rs : Rows) (y : Reply) (o : Option Tid) → Adds 1 rs (woken_state st rs y o)
woken_adds st rs y None = omega arith
woken_adds st rs y (Some t) = omega arith

few_or_none : (b : Bool) (rs : Rows) (c : NameId) → length (if b then best_first rs (row.Cond c) else []) ≤ length rs.seats
few_or_none true rs c = few_in_row rs (row.Cond c)
few_or_none false rs c = omega arith

waits_adds : (st : State) (o : Waited) (rs : Rows) (before : ℕ) → rs.next_arrival ≤ before + 1 → o.rows.next_arrival ≡ rs.next_arrival
    → (given_state (record st { conds = o.conds; locks = o.locks }) o.rows o.given).rows.next_arrival ≤ before + 2048
waits_adds st o rs before h e =
    let after : State = given_state (record st { conds = o.conds; locks = o.locks }) o.rows o.given in
    let last : after.rows.next_arrival ≤ o.rows.next_arrival + 1 = given_adds (record st { conds = o.conds; locks = o.locks }) o.rows o.given in
    two_more before rs.next_arrival after.rows.next_arrival h (subst (λ (n : ℕ). after.rows.next_arrival ≤ n + 1) e last)

answered_adds : (s : Script) (st : State) (t : Tid) (call : DceCall) (ns : List ℤ) → IsCanonical st.rows.seats → length st.rows.seats ≤ most → Adds 2048 st.rows (answered s st t call ns).state
unfolding answered
answered_adds s st t (dce.Create v a routine e) ns c few =
    let o : ThreadsReply = threads.create st.threads t a in one_more st.rows.next_arrival _ (ready_if_adds (is_value o.reply) (rank_at o.threads) st.rows (thread st.threads.next))
answered_adds s st t (dce.Join e v) ns c few =
    one_more st.rows.next_arrival _ (block_adds (is_blocks (threads.join st.threads t (first ns))) st.rows (row.Join (thread (natural (first ns)))) t (rank_of st t))
answered_adds s st t dce.Yield ns c few = one_more st.rows.next_arrival _ (block_adds true st.rows row.Ready t (rank_of st t))
answered_adds s st t (dce.Cancel e) ns c few =
    let who : Tid = thread (natural (first ns)) in
    let o : ThreadsReply = cancels.cancel st.threads (first ns) (waits_at_point st.rows who) in one_more st.rows.next_arrival _ (cancelled_adds st who o o.reply)
answered_adds s st t (dce.Setprio e f v) ns c few =
    let o : ThreadsReply = setprio st.threads (first ns) (second ns) in one_more st.rows.next_arrival _ (rank_if_adds (is_value o.reply) o.threads st.rows (thread (natural (first ns))))
answered_adds s st t (dce.Setscheduler e policy f v) ns c few =
    let o : ThreadsReply = setscheduler st.threads (first ns) policy (second ns) in one_more st.rows.next_arrival _ (rank_if_adds (is_value o.reply) o.threads st.rows (thread (natural (first ns))))
answered_adds s st t (dce.DelayNp e) ns c few = one_more st.rows.next_arrival _ (block_adds (is_blocks (delay_reply (first ns) st.clock)) st.rows row.Time t (rank_of st t))
answered_adds s st t (dce.MutexLock m) ns c few =
    one_more st.rows.next_arrival _ (block_adds (is_blocks (lock_reply (mutex_at st.locks (Some m)) t)) st.rows (waiters_row (Some m)) t (rank_of st t))
answered_adds s st t (dce.MutexUnlock m) ns c few =
    let o = unlock st.locks st.rows (Some m) t in one_more st.rows.next_arrival _ (given_adds (record st { locks = o.locks }) o.rows o.given)
answered_adds s st t dce.LockGlobalNp ns c few =
    one_more st.rows.next_arrival _ (block_adds (is_blocks (lock_reply (mutex_at st.locks None) t)) st.rows (waiters_row None) t (rank_of st t))
answered_adds s st t dce.UnlockGlobalNp ns c few =
    let o = unlock st.locks st.rows None t in one_more st.rows.next_arrival _ (given_adds (record st { locks = o.locks }) o.rows o.given)
answered_adds s st t (dce.CondWait d m) ns c few =
    let o : Waited = wait st.conds st.locks st.rows d m t (rank_of st t) in
    waits_adds st o (block_if (is_blocks o.reply) st.rows (row.Cond d) t (rank_of st t)) st.rows.next_arrival (block_adds (is_blocks o.reply) st.rows (row.Cond d) t (rank_of st t)) refl
answered_adds s st t (dce.CondTimedwait d m e) ns c few =
    let o : Waited = timedwait st.conds st.locks st.rows d m (first ns) st.clock t (rank_of st t) in
    waits_adds st o (block_if (is_blocks o.reply) st.rows (row.Cond d) t (rank_of st t)) st.rows.next_arrival (block_adds (is_blocks o.reply) st.rows (row.Cond d) t (rank_of st t)) refl
answered_adds s st t (dce.CondSignal d) ns c few = let o : Signalled = signal st.conds st.rows d in one_more st.rows.next_arrival _ (signals_adds st o o.waiter)
answered_adds s st t (dce.CondBroadcast d) ns c few =
    let ts : List Tid = (if has st.conds.made d.0 then best_first st.rows (row.Cond d) else []) in
    some_more st.rows.next_arrival _ (length ts) (length st.rows.seats) (wake_adds (rank_of st) st.conds st.locks st.rows ts) (few_or_none (has st.conds.made d.0) st.rows d) few
answered_adds s st t (dce.Once o routine) ns c few =
    one_more st.rows.next_arrival _ (block_adds (is_blocks (enter st.onces st.rows o t (rank_of st t)).reply) st.rows (row.Once o) t (rank_of st t))
answered_adds s st t (dce.Read p v w) ns c few =
    let o = read st.pipes st.rows p t (rank_of st t) in
    let blocked : Rows = block_if (is_blocks o.reply) st.rows (row.Reader p) t (rank_of st t) in
    two_more st.rows.next_arrival blocked.next_arrival _ (block_adds (is_blocks o.reply) st.rows (row.Reader p) t (rank_of st t)) (woken_adds (record st { pipes = o.pipes }) o.rows reply.Done o.relieved)
answered_adds s st t (dce.Write p e) ns c few =
    let o = write st.pipes st.rows p (first ns) t (rank_of st t) in
    two_more st.rows.next_arrival o.rows.next_arrival _ (block_adds (is_blocks o.reply) (take_out_if st.rows o.reader) (row.Writer p) t (rank_of st t))
    (woken_adds (record st { pipes = o.pipes }) o.rows (reply.Value (first ns)) o.reader)
answered_adds s st t (dce.Close p) ns c few = twice_more st.rows.next_arrival _ (length st.rows.seats) (close_adds (rank_of st) st.pipes st.rows p c) few
answered_adds s st t _ ns c few = none_more st.rows.next_arrival

-- ---- turns

called_adds : (s : Script) (st : State) (t : Tid) (g : Setting) (call : DceCall) (r : Remainder) (values : Values) → IsCanonical st.rows.seats → length st.rows.seats ≤ most → Adds 2048 st.rows (called s st t g call r values).state
called_adds s st t g call r (Ok ns) c few = answered_adds s st t call ns c few
called_adds s st t g call r (Err x) c few = none_more st.rows.next_arrival

written_adds : (st : State) (o : Option (NameId × ℤ)) → Adds 2048 st.rows (written_to st o)
written_adds st None = none_more st.rows.next_arrival
written_adds st (Some w) = none_more st.rows.next_arrival

shared_adds : (s : Script) (st : State) (t : Tid) (g : Setting) (r : Remainder) (act : Act) → IsCanonical st.rows.seats → length st.rows.seats ≤ most → Adds 2048 st.rows (shared_made s st t g r act).state
shared_adds s st t g r (Asks call) c few = called_adds s st t g call r (asked g (shared_values st) call r) c few
shared_adds s st t g r _ c few = written_adds st (written g (shared_values st) r)

handed_adds : (st : State) (o : once.Undone) (w : Option Tid) → Adds 1 o.rows (handed_on st o w)
handed_adds st o None = omega arith
handed_adds st o (Some t) = omega arith

freed_adds : (st : State) (t : Tid) (n : ℕ) → n ≤ st.rows.next_arrival + length st.rows.seats → length st.rows.seats ≤ most → n ≤ st.rows.next_arrival + 2048
freed_adds st t n h few = omega (arith, h, few)

end_adds : (st : State) (t : Tid) (g : Setting) (r : Remainder) (o : NextDestructor) (c : Option DestructorCall) → length st.rows.seats ≤ most → Adds 2048 st.rows (end_made st t g r o c).state
end_adds st t g r o (Some c) few = none_more st.rows.next_arrival
end_adds st t g r o None few = freed_adds st t _ (free_adds (rank_of st) st.rows (row.Join t)) few

debt_adds : (st : State) (t : Tid) (g : Setting) (r : Remainder) (d : Debt) → Adds 2048 st.rows (debt_made st t g r d).state
debt_adds st t g r (Return y) = none_more st.rows.next_arrival
debt_adds st t g r Delivery = none_more st.rows.next_arrival
debt_adds st t g r Running = none_more st.rows.next_arrival

halt_adds : (s : Script) (st : State) (t : Tid) (g : Setting) (r : Remainder) (halt : Halt) → IsCanonical st.rows.seats → length st.rows.seats ≤ most → Adds 2048 st.rows (halt_made s st t g r halt).state
halt_adds s st t g r Delivers c few = none_more st.rows.next_arrival
halt_adds s st t g r (Shares spot) c few = shared_adds s st t g r (act_at spot) c few
halt_adds s st t g r (Undoes block m) c few = let o : once.Undone = once.undone st.onces st.rows block in one_more st.rows.next_arrival _ (handed_adds st o o.runner)
halt_adds s st t g r (Completes block m) c few = freed_adds st t _ (free_adds (rank_of st) st.rows (row.Once block)) few
halt_adds s st t g r Ends c few = let o : NextDestructor = next_destructor st.onces t in end_adds st t g r o o.call few
halt_adds s st t g r Pauses c few = none_more st.rows.next_arrival

-- A turn gives at most 2,048 arrivals, beside the one of a thread that gives its processor up.
pub turn_adds : (s : Script) (st : State) (t : Tid) (d : Option Debt) → IsCanonical st.rows.seats → length st.rows.seats ≤ most → (turn_by s st t d).state.rows.next_arrival ≤ st.rows.next_arrival + 2048
turn_adds s st t (Some d) c few = debt_adds (record st { debts = cut st.debts t.0 }) t (setting_of s st t) (remainder_of st t) d
turn_adds s st t None c few =
    let run : Run = run_of most_steps (setting_of s st t) (mode_at st.threads t) (remainder_of st t) in halt_adds s st t (setting_of s st t) run.to run.halt c few

-- So does a move of the clock.
pub clock_adds : (st : State) (now : ℤ) → length st.rows.seats ≤ most → (clock_to st now).state.rows.next_arrival ≤ st.rows.next_arrival + 2048
clock_adds st now few =
    some_more st.rows.next_arrival _ (length (due_first st.conds st.rows now)) (length st.rows.seats) (wake_adds (rank_of st) st.conds st.locks st.rows (due_first st.conds st.rows now)) (few_due st.conds st.rows now) few

-- ---- events

next_if : (b : Bool) (n : ℕ) → (if b then n + 1 else n) ≤ n + 1
next_if true n = omega arith
next_if false n = omega arith

last_more : (n a b : ℕ) → a ≤ n + 2048 → b ≤ a + 1 → b ≤ n + 2049
last_more n a b h i = omega (arith, h, i)

kept_adds : (rs : Rows) (t : Tid) (made : Made) → Adds 2048 rs made.state → Adds 2049 rs (kept t made).state
kept_adds rs t made h = last_more rs.next_arrival made.state.rows.next_arrival _ h (next_if _ made.state.rows.next_arrival)

whole_adds : (s : Script) (st : State) (t : Tid) → IsCanonical st.rows.seats → length st.rows.seats ≤ most → Adds 2049 st.rows (turn_of s st t).state
unfolding turn_of
whole_adds s st t c few = kept_adds st.rows t (turn_by s st t (debt_of st t)) (turn_adds s st t (debt_of st t) c few)

wider : (n a : ℕ) → a ≤ n + 2048 → a ≤ n + 2049
wider n a h = omega (arith, h)

dispatch_adds : (st : State) (p : ℕ) (o : Option Tid) (made : Made) → dispatch_made st p (dispatch st.rows p) o ≡ Some made → Adds 2049 st.rows made.state
dispatch_adds st p None made e = absurd (cc)
dispatch_adds st p (Some t) made e = subst (λ (m : Made). Adds 2049 st.rows m.state) (ap (λ o. unwrap_or o made) e) (wider st.rows.next_arrival _ (none_more st.rows.next_arrival))

dispatch_if_adds : (b : Bool) (st : State) (p : ℕ) (made : Made) → (if b then dispatch_made st p (dispatch st.rows p) (dispatch st.rows p).taken else None) ≡ Some made → Adds 2049 st.rows made.state
dispatch_if_adds true st p made e = dispatch_adds st p (dispatch st.rows p).taken made e
dispatch_if_adds false st p made e = absurd (cc)

turn_if_adds : (s : Script) (st : State) (o : Option Tid) (made : Made) → IsCanonical st.rows.seats → length st.rows.seats ≤ most → option_map (turn_of s st) o ≡ Some made → Adds 2049 st.rows made.state
turn_if_adds s st None made c few e = absurd (cc)
turn_if_adds s st (Some t) made c few e = subst (λ (m : Made). Adds 2049 st.rows m.state) (ap (λ o. unwrap_or o made) e) (whole_adds s st t c few)

clock_at_adds : (st : State) (o : Option ℤ) (made : Made) → length st.rows.seats ≤ most → option_map (clock_to st) o ≡ Some made → Adds 2049 st.rows made.state
clock_at_adds st None made few e = absurd (cc)
clock_at_adds st (Some now) made few e = subst (λ (m : Made). Adds 2049 st.rows m.state) (ap (λ o. unwrap_or o made) e) (wider st.rows.next_arrival _ (clock_adds st now few))

clock_if_adds : (st : State) (b : Bool) (made : Made) → length st.rows.seats ≤ most → clock_of b st ≡ Some made → Adds 2049 st.rows made.state
clock_if_adds st true made few e = absurd (cc)
clock_if_adds st false made few e = clock_at_adds st (earliest st.conds) made few e

pub made_adds : (s : Script) (n : ℕ) (st : State) (e : Event) (made : Made) → IsCanonical st.rows.seats → length st.rows.seats ≤ most → made_by s n st e ≡ Some made → Adds 2049 st.rows made.state
unfolding made_by
made_adds s n st (event.Dispatch p) made c few e = dispatch_if_adds (nat_lt p n) st p made e
made_adds s n st (event.Turn p) made c few e = turn_if_adds s st (running st.rows p) made c few e
made_adds s n st event.Clock made c few e = clock_if_adds st (some_can_run st.rows) made few e

-- ---- histories

lines_more : (before after : ℕ) (xs ys : List Entry) → 0 < length ys → before ≤ 1 + 2049 * length xs → after ≤ before + 2049 → after ≤ 1 + 2049 * length (xs ++ ys)
lines_more before after xs ys some low high = omega (arith, some, low, high, length-append xs ys)

-- The seats are few in each history.
abbrev AreFew : Script → ℕ → Type 0
AreFew s n = (x : Execution) → History s n x → length x.state.rows.seats ≤ most

arrivals_kept : {s : Script} {n : ℕ} → AreFew s n → {x : Execution} → History s n x → x.state.rows.next_arrival ≤ 1 + 2049 * length x.entries
arrivals_kept few opened = omega arith
arrivals_kept {s} {n} few (then_event {x} h open_ e made m) =
    lines_more x.state.rows.next_arrival made.state.rows.next_arrival x.entries made.lines (made_line s n x.state e made m) (arrivals_kept few h)
    (made_adds s n x.state e made (history_canonical h) (few x h) m)

-- Then there are at most 2,049 arrivals for each line, and the first.
pub arrivals_few : (s : Script) (n : ℕ) → AreFew s n → (x : Execution) → History s n x → x.state.rows.next_arrival ≤ 1 + 2049 * length x.entries
arrivals_few s n few x h = arrivals_kept few h
