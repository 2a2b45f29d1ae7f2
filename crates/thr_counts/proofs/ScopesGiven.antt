-- In every history a thread has had no more scopes and unwindings than there are lines.
use Rattle.std.proofs.Common.{◌≡◌, ℕ, ◌+◌, ◌≤◌, ℤ, Bool, true, false, List, [], ◌∷◌, ◌++◌, map, length, length-append, Option, Some, None, Ok, Err, refl, sym, ap, subst, arith}
use Rattle.std.proofs.lemmas.List.{length-map}
use Rattle.std.specs.Prelude.{if◌then◌else◌, nat_lt}
use Rattle.std.specs.Option.{option_map, unwrap_or}
use Rattle.thr_values.specs.declared.number.NameId.{NameId}
use Rattle.thr_values.specs.declared.number.Tid.{Tid}
use Rattle.thr_values.specs.declared.event.Event.{Event}
use Rattle.thr_values.specs.declared.event.Event.TheVariants as event
use Rattle.thr_values.specs.declared.history.Entry.{Entry}
use Rattle.thr_values.specs.declared.history.What.TheVariants as what
use Rattle.thr_values.specs.declared.reply.Effect.TheVariants as effect
use Rattle.thr_values.specs.declared.reply.Reply.{Reply}
use Rattle.thr_values.specs.declared.reply.Reply.TheVariants as reply
use Rattle.thr_syntax.specs.declared.dce.DceCall.{DceCall}
use Rattle.thr_syntax.specs.declared.dce.DceCall.TheVariants as dce
use Rattle.thr_syntax.specs.declared.tree.Script.{Script}
use Rattle.thr_remainder.specs.Acts.{Act, Asks}
use Rattle.thr_remainder.specs.Remainders.{Setting, Remainder, Move, Place, At, place_in, act_at}
use Rattle.thr_remainder.specs.Starts.{fresh, delivered, raised, begins_once, begins_destructor}
use Rattle.thr_remainder.specs.Steps.{shared_step, written}
use Rattle.thr_remainder.specs.Calls.{shape_of, arguments}
use Rattle.thr_remainder.specs.Replies.{Values, asked, replied}
use Rattle.thr_remainder.specs.Runs.{Halt, Delivers, Shares, Undoes, Completes, Ends, Pauses, Run, run_of, most_steps}
use Rattle.thr_parts.specs.Tables.{Table, none, get, put, cut, keep_if}
use Rattle.thr_parts.specs.Replies.{is_value}
use Rattle.thr_parts.specs.declared.row.RowId.TheVariants as row
use Rattle.thr_parts.specs.Rows.{Rows, thread}
use Rattle.thr_parts.specs.Moves.{free_row}
use Rattle.thr_parts.specs.Dispatch.{Dispatched, running, some_can_run, dispatch}
use Rattle.thr_parts.specs.Threads as threads
use Rattle.thr_parts.specs.Threads.{ThreadsReply, natural}
use Rattle.thr_parts.specs.Cancels.{mode_at, waits_at_point}
use Rattle.thr_parts.specs.Cancels as cancels
use Rattle.thr_parts.specs.Locking.{unlock}
use Rattle.thr_parts.specs.Conditions.{wait, timedwait}
use Rattle.thr_parts.specs.Waking.{Signalled, signal}
use Rattle.thr_parts.specs.Expiry.{earliest}
use Rattle.thr_parts.specs.Keys.{DestructorCall, NextDestructor, next_destructor}
use Rattle.thr_parts.specs.OnceBlocks as once
use Rattle.thr_parts.specs.Pipes.{read, write}
use Rattle.thr_parts.proofs.TableLaws.{at_get}
use Rattle.thr_parts.proofs.EachLaws.{Each, IfThere, each_none, each_put, each_put_if, each_cut, if_there}
use Rattle.thr_model.specs.States.{State, Debt, Return, Delivery, Running, nothing_left, rank_of, remainder_of, setting_of, debt_of, shared_values}
use Rattle.thr_model.specs.Calls.{Answered, answered, cancelled, given_state, signals_one, woken_state, first}
use Rattle.thr_model.specs.Turns.{Made, thread_line, gift_lines, moved, after_entries, then_move, runs_routine, runs_if, after_reply, with_stores, called, written_to, shared_made, handed_on, freed, end_made, begun_by, begun_at, debt_made, halt_made, run_made, turn_by, turn_of}
use Rattle.thr_model.specs.Events.{dispatch_made, clock_to, clock_of, made_by}
use Rattle.thr_model.specs.Histories.{Execution, History, opened, then_event}
use Rattle.thr_counts.proofs.StepCounts.{given, Counts, shared_counts, replied_counts, HaltCounts, RunCounts, run_counts}

-- The thread has had so many at most.
abbrev IsGiven : ℕ → Remainder → Type 0
IsGiven n r = given r ≤ n

-- So have all threads.
abbrev Have : ℕ → State → Type 0
Have n st = Each (IsGiven n) st.remainders

-- And after what is made, with its lines.
abbrev Grows : ℕ → Made → Type 0
Grows n made = Have (n + length made.lines) made.state

more : (n k : ℕ) (m : Table Remainder) → n ≤ k → Each (IsGiven n) m → Each (IsGiven k) m
more n k m le h = λ q r e. let few : given r ≤ n = h q r e in omega (arith, few, le)

given_at : (n : ℕ) (o : Option Remainder) → IfThere (IsGiven n) o → given (unwrap_or o nothing_left) ≤ n
given_at n None h = omega arith
given_at n (Some r) h = h

remainder_given : (n : ℕ) (st : State) (t : Tid) → Have n st → given (remainder_of st t) ≤ n
remainder_given n st t h =
    subst (λ (r : Remainder). given r ≤ n) (sym (at_get st.remainders t.0 nothing_left)) (given_at n (get st.remainders t.0) (if_there (IsGiven n) st.remainders t.0 (get st.remainders t.0) refl h))

-- A move's state, with lines of its own.
put_given : (n : ℕ) (m : Table Remainder) (t : ℕ) (r : Remainder) (k : ℕ) → given r ≤ n + k → Each (IsGiven n) m → Each (IsGiven (n + k)) (put m t r)
put_given n m t r k few h = each_put (IsGiven (n + k)) m t r few (more n (n + k) m (omega arith) h)

far : (n a b c k : ℕ) → a ≤ n → b ≤ a + c → k ≡ c → b ≤ n + k
far n a b c k h i e = omega (arith, h, i, e)

moved_grows : (n : ℕ) (st : State) (t : Tid) (r : Remainder) (m : Move) → Have n st → given r ≤ n → Counts r m → Grows n (moved st t m)
moved_grows n st t r m h few counts =
    put_given n st.remainders t.0 m.to (length (map (thread_line t) m.lines)) (far n (given r) (given m.to) (length m.lines) _ few counts (length-map m.lines (thread_line t))) h

-- What is made after other lines.
later : (n a b c : ℕ) → c ≡ a + b → n + b ≤ n + c
later n a b c e = omega (arith, e)

after_grows : (n : ℕ) (entries : List Entry) (made : Made) → Grows n made → Grows n (after_entries entries made)
after_grows n entries made h = more (n + length made.lines) (n + length (entries ++ made.lines)) made.state.remainders (later n (length entries) (length made.lines) _ (length-append entries made.lines)) h

-- ---- calls

fresh_if : (s : Script) (routine : NameId) (x : ℤ) (n : ℕ) (b : Bool) → IfThere (IsGiven n) (keep_if b (Some (fresh s routine x)))
fresh_if s routine x n true = omega arith
fresh_if s routine x n false = tt

module _ (n : ℕ) where
  cancelled_have : (st : State) (target : Tid) (o : ThreadsReply) (y : Reply) → Have n st → Have n (cancelled st target o y).state
  cancelled_have st target o (reply.Effect effect.Wakes) h = h
  cancelled_have st target o (reply.Effect _) h = h
  cancelled_have st target o _ h = h

  given_have : (st : State) (rs : Rows) (o : Option Tid) → Have n st → Have n (given_state st rs o)
  given_have st rs None h = h
  given_have st rs (Some t) h = h

  signals_have : (st : State) (o : Signalled) (w : Option (Tid × NameId)) → Have n st → Have n (signals_one st o w).state
  signals_have st o None h = h
  signals_have st o (Some w) h = h

  woken_have : (st : State) (rs : Rows) (y : Reply) (o : Option Tid) → Have n st → Have n (woken_state st rs y o)
  woken_have st rs y None h = h
  woken_have st rs y (Some t) h = h

  answered_have : (s : Script) (st : State) (t : Tid) (call : DceCall) (ns : List ℤ) → Have n st → Have n (answered s st t call ns).state
  unfolding answered
  answered_have s st t (dce.Create v a routine e) ns h =
      each_put_if (IsGiven n) st.remainders st.threads.next _ (fresh_if s routine (first ns) n (is_value (threads.create st.threads t a).reply)) h
  answered_have s st t (dce.Cancel e) ns h =
      let who : Tid = thread (natural (first ns)) in
      let o : ThreadsReply = cancels.cancel st.threads (first ns) (waits_at_point st.rows who) in cancelled_have st who o o.reply h
  answered_have s st t (dce.MutexUnlock m) ns h = let o = unlock st.locks st.rows (Some m) t in given_have (record st { locks = o.locks }) o.rows o.given h
  answered_have s st t dce.UnlockGlobalNp ns h = let o = unlock st.locks st.rows None t in given_have (record st { locks = o.locks }) o.rows o.given h
  answered_have s st t (dce.CondWait c m) ns h =
      let o = wait st.conds st.locks st.rows c m t (rank_of st t) in given_have (record st { conds = o.conds; locks = o.locks }) o.rows o.given h
  answered_have s st t (dce.CondTimedwait c m e) ns h =
      let o = timedwait st.conds st.locks st.rows c m (first ns) st.clock t (rank_of st t) in given_have (record st { conds = o.conds; locks = o.locks }) o.rows o.given h
  answered_have s st t (dce.CondSignal c) ns h = let o : Signalled = signal st.conds st.rows c in signals_have st o o.waiter h
  answered_have s st t (dce.Read p v w) ns h = let o = read st.pipes st.rows p t (rank_of st t) in woken_have (record st { pipes = o.pipes }) o.rows reply.Done o.relieved h
  answered_have s st t (dce.Write p e) ns h =
      let o = write st.pipes st.rows p (first ns) t (rank_of st t) in woken_have (record st { pipes = o.pipes }) o.rows (reply.Value (first ns)) o.reader h
  answered_have s st t _ ns h = h

-- ---- turns

then_counts : (r : Remainder) (m k : Move) → Counts r m → Counts m.to k → Counts r (then_move m k)
then_counts r m k h i = omega (arith, h, i, length-append m.lines k.lines)

routine_counts : (g : Setting) (call : DceCall) (r : Remainder) (m : Move) → Counts r m → Counts r (runs_routine g call m)
routine_counts g (dce.Once block routine) r m h = then_counts r m (begins_once g block routine m.to) h (omega arith)
routine_counts g _ r m h = h

runs_counts : (b : Bool) (g : Setting) (call : DceCall) (r : Remainder) (m : Move) → Counts r m → Counts r (runs_if b g call m)
runs_counts true g call r m h = routine_counts g call r m h
runs_counts false g call r m h = h

after_reply_counts : (g : Setting) (call : DceCall) (runs : Bool) (r : Remainder) (y : Reply) → Counts r (after_reply g call runs r y)
after_reply_counts g call runs r reply.Blocks = omega arith
after_reply_counts g call runs r y = runs_counts runs g call r (replied g y r) (replied_counts g y r)

called_grows : (n : ℕ) (s : Script) (st : State) (t : Tid) (g : Setting) (call : DceCall) (r : Remainder) (values : Values) → Have n st → given r ≤ n → Grows n (called s st t g call r values)
called_grows n s st t g call r (Ok ns) h few =
    let o : Answered = answered s st t call ns in
    let m : Move = after_reply g call o.runs r o.reply in
    after_grows n (thread_line t (what.Call (shape_of call).word (arguments call ns) o.reply) ∷ gift_lines o.gifts) (moved (with_stores o.state r o.reply) t m)
    (moved_grows n (with_stores o.state r o.reply) t r m (answered_have n s st t call ns h) few (after_reply_counts g call o.runs r o.reply))
called_grows n s st t g call r (Err x) h few = moved_grows n st t r (raised x r) h few (omega arith)

written_have : (n : ℕ) (st : State) (o : Option (NameId × ℤ)) → Have n st → Have n (written_to st o)
written_have n st None h = h
written_have n st (Some w) h = h

shared_grows : (n : ℕ) (s : Script) (st : State) (t : Tid) (g : Setting) (r : Remainder) (act : Act) → Have n st → given r ≤ n → Grows n (shared_made s st t g r act)
shared_grows n s st t g r (Asks call) h few = called_grows n s st t g call r (asked g (shared_values st) call r) h few
shared_grows n s st t g r _ h few =
    moved_grows n (written_to st (written g (shared_values st) r)) t r (shared_step g (shared_values st) r) (written_have n st (written g (shared_values st) r) h) few (shared_counts g (shared_values st) r)

handed_have : (n : ℕ) (st : State) (o : once.Undone) (w : Option Tid) → Have n st → Have n (handed_on st o w)
handed_have n st o None h = h
handed_have n st o (Some t) h = h

end_grows : (n : ℕ) (st : State) (t : Tid) (g : Setting) (r : Remainder) (o : NextDestructor) (c : Option DestructorCall) → Have n st → given r ≤ n → Grows n (end_made st t g r o c)
end_grows n st t g r o (Some c) h few = moved_grows n (record st { onces = o.onces }) t r (begins_destructor g c.0 c.1 c.2 r) h few (omega arith)
end_grows n st t g r o None h few = each_cut (IsGiven (n + 1)) st.remainders t.0 (more n (n + 1) st.remainders (omega arith) h)

begun_by_counts : (g : Setting) (act : Act) (r : Remainder) (m : Move) → Counts r m → Counts r (begun_by g act m)
begun_by_counts g (Asks call) r m h = routine_counts g call r m h
begun_by_counts g _ r m h = h

begun_counts : (g : Setting) (p : Place) (r : Remainder) (m : Move) → Counts r m → Counts r (begun_at g p m)
begun_counts g (At x) r m h = begun_by_counts g (act_at x) r m h
begun_counts g _ r m h = h

debt_grows : (n : ℕ) (st : State) (t : Tid) (g : Setting) (r : Remainder) (d : Debt) → Have n st → given r ≤ n → Grows n (debt_made st t g r d)
debt_grows n st t g r (Return y) h few =
    after_grows n (thread_line t (what.Ret y) ∷ []) (moved (with_stores st r y) t (replied g y r)) (moved_grows n (with_stores st r y) t r (replied g y r) h few (replied_counts g y r))
debt_grows n st t g r Delivery h few = moved_grows n (record st { threads = cancels.deliver st.threads t }) t r (delivered r) h few (omega arith)
debt_grows n st t g r Running h few =
    let m : Move = begun_at g (place_in r.items) (replied g reply.Done r) in
    after_grows n (thread_line t (what.Ret reply.Done) ∷ []) (moved st t m)
    (moved_grows n st t r m h few (begun_counts g (place_in r.items) r (replied g reply.Done r) (replied_counts g reply.Done r)))

halt_grows : (n : ℕ) (s : Script) (st : State) (t : Tid) (g : Setting) (r : Remainder) (halt : Halt) → Have n st → given r ≤ n → HaltCounts r halt → Grows n (halt_made s st t g r halt)
halt_grows n s st t g r Delivers h few i = moved_grows n (record st { threads = cancels.deliver st.threads t }) t r (delivered r) h few (omega arith)
halt_grows n s st t g r (Shares spot) h few i = shared_grows n s st t g r (act_at spot) h few
halt_grows n s st t g r (Undoes block m) h few i =
    let o : once.Undone = once.undone st.onces st.rows block in moved_grows n (handed_on st o o.runner) t r m (handed_have n st o o.runner h) few i
halt_grows n s st t g r (Completes block m) h few i =
    moved_grows n (freed (record st { onces = once.done st.onces block }) reply.Done (free_row (rank_of st) st.rows (row.Once block))) t r m h few i
halt_grows n s st t g r Ends h few i = let o : NextDestructor = next_destructor st.onces t in end_grows n st t g r o o.call h few
halt_grows n s st t g r Pauses h few i = put_given n st.remainders t.0 r 0 (omega (arith, few)) h

longer : (n k a b c : ℕ) → a ≡ k → c ≡ a + b → n + k + b ≤ n + c
longer n k a b c e f = omega (arith, e, f)

run_grows : (n : ℕ) (s : Script) (st : State) (t : Tid) (g : Setting) (r : Remainder) (run : Run) → Have n st → given r ≤ n → RunCounts r run → Grows n (run_made s st t g run)
run_grows n s st t g r run h few counts =
    let k : ℕ = length run.lines in
    let before : List Entry = map (thread_line t) run.lines in
    let made : Made = halt_made s st t g run.to run.halt in
    let so_far : given run.to ≤ n + length run.lines = far n (given r) (given run.to) k k few counts.to refl in
    more (n + k + length made.lines) (n + length (before ++ made.lines)) made.state.remainders
    (longer n k (length before) (length made.lines) _ (length-map run.lines (thread_line t)) (length-append before made.lines))
    (halt_grows (n + k) s st t g run.to run.halt (more n (n + k) st.remainders (omega arith) h) so_far counts.halt)

by_grows : (n : ℕ) (s : Script) (st : State) (t : Tid) (d : Option Debt) → Have n st → Grows n (turn_by s st t d)
by_grows n s st t (Some d) h = debt_grows n (record st { debts = cut st.debts t.0 }) t (setting_of s st t) (remainder_of st t) d h (remainder_given n st t h)
by_grows n s st t None h =
    let g : Setting = setting_of s st t in
    run_grows n s st t g (remainder_of st t) (run_of most_steps g (mode_at st.threads t) (remainder_of st t)) h (remainder_given n st t h) (run_counts most_steps g (mode_at st.threads t) (remainder_of st t))

turn_grows : (n : ℕ) (s : Script) (st : State) (t : Tid) → Have n st → Grows n (turn_of s st t)
unfolding turn_of
turn_grows n s st t h = by_grows n s st t (debt_of st t) h

-- ---- events

same_grows : (n : ℕ) (made : Made) → Have n made.state → Grows n made
same_grows n made h = more n (n + length made.lines) made.state.remainders (omega arith) h

dispatch_grows : (n : ℕ) (st : State) (p : ℕ) (d : Dispatched) (o : Option Tid) (made : Made) → Have n st → dispatch_made st p d o ≡ Some made → Have n made.state
dispatch_grows n st p d None made h e = absurd (cc)
dispatch_grows n st p d (Some t) made h e = subst (λ (m : Made). Have n m.state) (ap (λ o. unwrap_or o made) e) h

dispatch_if_grows : (n : ℕ) (b : Bool) (st : State) (p : ℕ) (made : Made) → Have n st → (if b then dispatch_made st p (dispatch st.rows p) (dispatch st.rows p).taken else None) ≡ Some made → Have n made.state
dispatch_if_grows n true st p made h e = dispatch_grows n st p (dispatch st.rows p) (dispatch st.rows p).taken made h e
dispatch_if_grows n false st p made h e = absurd (cc)

turn_if_grows : (n : ℕ) (s : Script) (st : State) (o : Option Tid) (made : Made) → Have n st → option_map (turn_of s st) o ≡ Some made → Grows n made
turn_if_grows n s st None made h e = absurd (cc)
turn_if_grows n s st (Some t) made h e = subst (Grows n) (ap (λ o. unwrap_or o made) e) (turn_grows n s st t h)

clock_at_grows : (n : ℕ) (st : State) (o : Option ℤ) (made : Made) → Have n st → option_map (clock_to st) o ≡ Some made → Have n made.state
clock_at_grows n st None made h e = absurd (cc)
clock_at_grows n st (Some now) made h e = subst (λ (m : Made). Have n m.state) (ap (λ o. unwrap_or o made) e) h

clock_grows : (n : ℕ) (st : State) (b : Bool) (made : Made) → Have n st → clock_of b st ≡ Some made → Have n made.state
clock_grows n st true made h e = absurd (cc)
clock_grows n st false made h e = clock_at_grows n st (earliest st.conds) made h e

made_grows : (n : ℕ) (s : Script) (k : ℕ) (st : State) (e : Event) (made : Made) → Have n st → made_by s k st e ≡ Some made → Grows n made
unfolding made_by
made_grows n s k st (event.Dispatch p) made h e = same_grows n made (dispatch_if_grows n (nat_lt p k) st p made h e)
made_grows n s k st (event.Turn p) made h e = turn_if_grows n s st (running st.rows p) made h e
made_grows n s k st event.Clock made h e = same_grows n made (clock_grows n st (some_can_run st.rows) made h e)

as_long : (n k c : ℕ) → c ≡ n + k → n + k ≤ c
as_long n k c e = omega (arith, e)

given_kept : {s : Script} {n : ℕ} {x : Execution} → History s n x → Have (length x.entries) x.state
given_kept opened = each_put (IsGiven 0) none 1 _ (omega arith) (each_none (IsGiven 0))
given_kept {s} {n} (then_event {x} h open_ e made m) =
    more (length x.entries + length made.lines) (length (x.entries ++ made.lines)) made.state.remainders (as_long (length x.entries) (length made.lines) _ (length-append x.entries made.lines))
    (made_grows (length x.entries) s n x.state e made (given_kept h) m)

each_few : (a b n : ℕ) → a + b ≤ n → (a ≤ n) × (b ≤ n)
each_few a b n h = (omega (arith, h), omega (arith, h))

pub scopes_given : (s : Script) (n : ℕ) (x : Execution) → History s n x → (t : ℕ) (r : Remainder) → get x.state.remainders t ≡ Some r → (r.scopes ≤ length x.entries) × (r.unwindings ≤ length x.entries)
scopes_given s n x h t r e = each_few r.scopes r.unwindings (length x.entries) (given_kept h t r e)
