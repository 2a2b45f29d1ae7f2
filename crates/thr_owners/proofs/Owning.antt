-- In every history the lines tell of each lock what the state keeps of it, and each line fits.
use Rattle.std.proofs.Common.{◌≡◌, ℕ, ℤ, Bool, true, false, List, [], ◌∷◌, map, Option, Some, None, Ok, Err, refl, sym, ap, subst}
use Rattle.std.specs.Prelude.{if◌then◌else◌, nat_lt}
use Rattle.std.specs.Option.{option_map, unwrap_or}
use Rattle.thr_values.specs.declared.number.NameId.{NameId}
use Rattle.thr_values.specs.declared.number.Tid.{Tid}
use Rattle.thr_values.specs.declared.event.Event.{Event}
use Rattle.thr_values.specs.declared.event.Event.TheVariants as event
use Rattle.thr_values.specs.declared.history.What.TheVariants as what
use Rattle.thr_values.specs.declared.history.Entry.{Entry}
use Rattle.thr_values.specs.declared.reply.Kind.{Kind}
use Rattle.thr_values.specs.declared.reply.Reply.TheVariants as reply
use Rattle.thr_syntax.specs.declared.dce.DceCall.{DceCall}
use Rattle.thr_syntax.specs.declared.tree.Script.{Script}
use Rattle.thr_remainder.specs.Acts.{Act, Asks}
use Rattle.thr_remainder.specs.Remainders.{Setting, Remainder, Move, place_in, act_at}
use Rattle.thr_remainder.specs.Starts.{still, raised, delivered, begins_destructor}
use Rattle.thr_remainder.specs.Steps.{shared_step, written}
use Rattle.thr_remainder.specs.Replies.{Values, asked, replied}
use Rattle.thr_remainder.specs.Runs.{Halt, Delivers, Shares, Undoes, Completes, Ends, Pauses, Run, run_of, most_steps}
use Rattle.thr_parts.specs.declared.mutex.Mutex.{Mutex}
use Rattle.thr_parts.specs.Tables.{get}
use Rattle.thr_parts.specs.Dispatch.{Dispatched, running, some_can_run, dispatch}
use Rattle.thr_parts.specs.Cancels.{mode_at, deliver}
use Rattle.thr_parts.specs.Mutexes.{Locks, no_locks, mutex_at, owner_in}
use Rattle.thr_parts.specs.Mutexes as parts
use Rattle.thr_parts.specs.Waking.{Woken}
use Rattle.thr_parts.specs.Expiry.{earliest, expire_all, due_first}
use Rattle.thr_parts.specs.Keys.{DestructorCall, NextDestructor, next_destructor}
use Rattle.thr_parts.specs.OnceBlocks as once
use Rattle.thr_parts.proofs.TableLaws.{get_none}
use Rattle.thr_model.specs.States.{State, Debt, Return, Delivery, Running, rank_of, remainder_of, setting_of, debt_of, shared_values}
use Rattle.thr_model.specs.Calls.{Answered, answered}
use Rattle.thr_model.specs.Turns.{Made, thread_line, gift_lines, moved, called, after_reply, written_to, shared_made, delivery_made, handed_on, end_made, begun_at, debt_made, halt_made, turn_by, turn_of}
use Rattle.thr_model.specs.Events.{clock_line, dispatch_made, clock_made, clock_to, clock_of, made_by}
use Rattle.thr_model.specs.Histories.{Execution, History, opened, then_event}
use Rattle.thr_laws.specs.Owners.{Lock, OneOwner, owner, at_first, held_after, kind_in}
use Rattle.thr_laws.specs.Owners as told
use Rattle.thr_owners.specs.Told.{as_told, IsKind, IsTold, view, Agrees, known_of}
use Rattle.thr_owners.proofs.Carrying.{Carried, Carries, no_line, then_lines, aside_carries, all_aside, run_carries, clock_carries}
use Rattle.thr_owners.proofs.Using.{as_gifts, wake_all_carries}
use Rattle.thr_owners.proofs.Asides.{MovesAside, shared_aside, replied_aside, after_aside, begun_aside, HaltsAside, RunsAside, run_aside}
use Rattle.thr_owners.proofs.Calling.{to_locks, call_lines, answered_carries}

-- What is made of these locks.
abbrev Makes : Lock → Locks → Made → Type 0
Makes k ls made = Carries k (view k ls) (view k made.state.locks) made.lines

-- ---- turns

moved_makes : (k : Lock) (ls : Locks) (st : State) (t : Tid) (m : Move) → st.locks ≡ ls → MovesAside m → Makes k ls (moved st t m)
moved_makes k ls st t m e h = to_locks k (view k ls) ls st.locks (map (thread_line t) m.lines) e (all_aside k (view k ls) t m.lines h)

called_makes : (k : Lock) (s : Script) (st : State) (t : Tid) (g : Setting) (call : DceCall) (r : Remainder) (values : Values) → Makes k st.locks (called s st t g call r values)
called_makes k s st t g call r (Ok ns) =
    let o : Answered = answered s st t call ns in
    let m : Move = after_reply g call o.runs r o.reply in
    then_lines k (view k st.locks) (view k o.state.locks) (view k o.state.locks) (call_lines t call ns o) (map (thread_line t) m.lines)
    (answered_carries k s st t call ns) (all_aside k (view k o.state.locks) t m.lines (after_aside g call o.runs r o.reply))
called_makes k s st t g call r (Err x) = moved_makes k st.locks st t (raised x r) refl (tt, tt)

written_locks : (st : State) (o : Option (NameId × ℤ)) → (written_to st o).locks ≡ st.locks
written_locks st None = refl
written_locks st (Some w) = refl

shared_makes : (k : Lock) (s : Script) (st : State) (t : Tid) (g : Setting) (r : Remainder) (act : Act) → Makes k st.locks (shared_made s st t g r act)
shared_makes k s st t g r (Asks call) = called_makes k s st t g call r (asked g (shared_values st) call r)
shared_makes k s st t g r _ =
    moved_makes k st.locks (written_to st (written g (shared_values st) r)) t (shared_step g (shared_values st) r) (written_locks st (written g (shared_values st) r))
    (shared_aside g (shared_values st) r)

handed_locks : (st : State) (o : once.Undone) (w : Option Tid) → (handed_on st o w).locks ≡ st.locks
handed_locks st o None = refl
handed_locks st o (Some t) = refl

end_makes : (k : Lock) (st : State) (t : Tid) (g : Setting) (r : Remainder) (o : NextDestructor) (c : Option DestructorCall) → Makes k st.locks (end_made st t g r o c)
end_makes k st t g r o (Some c) = moved_makes k st.locks (record st { onces = o.onces }) t (begins_destructor g c.0 c.1 c.2 r) refl (tt, tt)
end_makes k st t g r o None = aside_carries k (view k st.locks) t (what.End r.value) tt

delivery_makes : (k : Lock) (st : State) (t : Tid) (r : Remainder) → Makes k st.locks (delivery_made st t r)
delivery_makes k st t r = moved_makes k st.locks (record st { threads = deliver st.threads t }) t (delivered r) refl (tt, tt)

halt_makes : (k : Lock) (s : Script) (st : State) (t : Tid) (g : Setting) (r : Remainder) (halt : Halt) → HaltsAside halt → Makes k st.locks (halt_made s st t g r halt)
halt_makes k s st t g r Delivers h = delivery_makes k st t r
halt_makes k s st t g r (Shares spot) h = shared_makes k s st t g r (act_at spot)
halt_makes k s st t g r (Undoes block m) h =
    let o : once.Undone = once.undone st.onces st.rows block in moved_makes k st.locks (handed_on st o o.runner) t m (handed_locks st o o.runner) h
halt_makes k s st t g r (Completes block m) h = all_aside k (view k st.locks) t m.lines h
halt_makes k s st t g r Ends h = let o : NextDestructor = next_destructor st.onces t in end_makes k st t g r o o.call
halt_makes k s st t g r Pauses h = moved_makes k st.locks st t (still r) refl tt

debt_makes : (k : Lock) (st : State) (t : Tid) (g : Setting) (r : Remainder) (d : Debt) → Makes k st.locks (debt_made st t g r d)
debt_makes k st t g r (Return y) =
    let m : Move = replied g y r in
    then_lines k (view k st.locks) (view k st.locks) (view k st.locks) (thread_line t (what.Ret y) ∷ []) (map (thread_line t) m.lines)
    (aside_carries k (view k st.locks) t (what.Ret y) tt) (all_aside k (view k st.locks) t m.lines (replied_aside g y r))
debt_makes k st t g r Delivery = delivery_makes k st t r
debt_makes k st t g r Running =
    let m : Move = begun_at g (place_in r.items) (replied g reply.Done r) in
    then_lines k (view k st.locks) (view k st.locks) (view k st.locks) (thread_line t (what.Ret reply.Done) ∷ []) (map (thread_line t) m.lines)
    (aside_carries k (view k st.locks) t (what.Ret reply.Done) tt)
    (all_aside k (view k st.locks) t m.lines (begun_aside g (place_in r.items) (replied g reply.Done r) (replied_aside g reply.Done r)))

by_makes : (k : Lock) (s : Script) (st : State) (t : Tid) (d : Option Debt) → Makes k st.locks (turn_by s st t d)
by_makes k s st t (Some d) = debt_makes k (record st { debts = _ }) t (setting_of s st t) (remainder_of st t) d
by_makes k s st t None =
    let g : Setting = setting_of s st t in
    let run : Run = run_of most_steps g (mode_at st.threads t) (remainder_of st t) in
    let aside : RunsAside run = run_aside most_steps g (mode_at st.threads t) (remainder_of st t) in
    let made : Made = halt_made s st t g run.to run.halt in
    then_lines k (view k st.locks) (view k st.locks) (view k made.state.locks) (map (thread_line t) run.lines) made.lines
    (all_aside k (view k st.locks) t run.lines aside.lines) (halt_makes k s st t g run.to run.halt aside.halt)

turn_makes : (k : Lock) (s : Script) (st : State) (t : Tid) → Makes k st.locks (turn_of s st t)
unfolding turn_of
turn_makes k s st t = by_makes k s st t (debt_of st t)

-- ---- events

the_made : (k : Lock) (ls : Locks) (o made : Made) → Some o ≡ Some made → Makes k ls o → Makes k ls made
the_made k ls o made e h = subst (λ (m : Made). Makes k ls m) (ap (λ x. unwrap_or x made) e) h

dispatch_makes : (k : Lock) (st : State) (p : ℕ) (d : Dispatched) (o : Option Tid) (made : Made) → dispatch_made st p d o ≡ Some made → Makes k st.locks made
dispatch_makes k st p d None made e = absurd (cc)
dispatch_makes k st p d (Some t) made e = the_made k st.locks _ made e (run_carries k (view k st.locks) p t)

dispatch_if_makes : (k : Lock) (b : Bool) (st : State) (p : ℕ) (made : Made) → (if b then dispatch_made st p (dispatch st.rows p) (dispatch st.rows p).taken else None) ≡ Some made → Makes k st.locks made
dispatch_if_makes k true st p made e = dispatch_makes k st p (dispatch st.rows p) (dispatch st.rows p).taken made e
dispatch_if_makes k false st p made e = absurd (cc)

turn_if_makes : (k : Lock) (s : Script) (st : State) (o : Option Tid) (made : Made) → option_map (turn_of s st) o ≡ Some made → Makes k st.locks made
turn_if_makes k s st None made e = absurd (cc)
turn_if_makes k s st (Some t) made e = the_made k st.locks _ made e (turn_makes k s st t)

-- The lines of the clock are its own, and those of the threads that were given their mutexes.
abbrev rest : List Entry → List Entry
rest [] = []
rest (e ∷ es) = es

clock_lines : (st : State) (now : ℤ) (o : Woken) (gs : List (Tid × NameId))
    → (let w : Woken = record { conds = o.conds; locks = o.locks; rows = o.rows; woken = o.woken; gifts = gs } in
    (clock_made st now w).lines ≡ clock_line now ∷ gift_lines (as_gifts gs))
clock_lines st now o [] = refl
clock_lines st now o (g ∷ gs) =
    ap (λ (es : List Entry). clock_line now ∷ thread_line g.0 (what.Gift (Some g.1)) ∷ rest es) (clock_lines st now o gs)

clock_to_makes : (k : Lock) (st : State) (now : ℤ) → Makes k st.locks (clock_to st now)
clock_to_makes k st now =
    let o : Woken = expire_all (rank_of st) st.conds st.locks st.rows now in
    subst (λ (es : List Entry). Carries k (view k st.locks) (view k o.locks) es) (sym (clock_lines st now o o.gifts))
    (then_lines k (view k st.locks) (view k st.locks) (view k o.locks) (clock_line now ∷ []) (gift_lines (as_gifts o.gifts)) (clock_carries k (view k st.locks) now)
    (wake_all_carries k (rank_of st) st.conds st.locks st.rows (due_first st.conds st.rows now)))

clock_at_makes : (k : Lock) (st : State) (o : Option ℤ) (made : Made) → option_map (clock_to st) o ≡ Some made → Makes k st.locks made
clock_at_makes k st None made e = absurd (cc)
clock_at_makes k st (Some now) made e = the_made k st.locks _ made e (clock_to_makes k st now)

clock_makes : (k : Lock) (st : State) (b : Bool) (made : Made) → clock_of b st ≡ Some made → Makes k st.locks made
clock_makes k st true made e = absurd (cc)
clock_makes k st false made e = clock_at_makes k st (earliest st.conds) made e

-- The lines of an event lead from what the state keeps of a lock before it to what it keeps after it.
pub event-carries : (k : Lock) (s : Script) (n : ℕ) (st : State) (e : Event) (made : Made) → made_by s n st e ≡ Some made
    → Carries k (view k st.locks) (view k made.state.locks) made.lines
unfolding made_by
event-carries k s n st (event.Dispatch p) made e = dispatch_if_makes k (nat_lt p n) st p made e
event-carries k s n st (event.Turn p) made e = turn_if_makes k s st (running st.rows p) made e
event-carries k s n st event.Clock made e = clock_makes k st (some_can_run st.rows) made e

-- ---- histories

-- The lines of a history lead from the opening to the state that it comes to.
history_carries : {s : Script} {n : ℕ} {x : Execution} (k : Lock) → History s n x
    → Carries k (view k no_locks) (view k x.state.locks) x.entries
history_carries k opened = no_line k (view k no_locks)
history_carries {s} {n} k (then_event {x} h open_ e made m) =
    then_lines k (view k no_locks) (view k x.state.locks) (view k made.state.locks) x.entries made.lines (history_carries k h) (event-carries k s n x.state e made m)

first_lock : (k : Lock) → IsTold (mutex_at no_locks k) (at_first k).kind (at_first k).owner
first_lock None = (refl, refl)
first_lock (Some m) = subst (λ (u : Option Mutex). IsTold u (at_first (Some m)).kind None) (sym (get_none m.0)) refl

first_agrees : (k : Lock) → Agrees (view k no_locks) (at_first k)
first_agrees k = record {
  cells = λ cell. subst (λ (o : Option Kind). IsKind o (kind_in [] cell)) (sym (get_none cell)) tt;
  lock = first_lock k;
}

-- Along the lines of a history each fits, and what they tell agrees with the state.
history_carried : {s : Script} {n : ℕ} {x : Execution} (k : Lock) → History s n x
    → Carried k (at_first k) (view k x.state.locks) x.entries
history_carried k h = history_carries k h (at_first k) (first_agrees k)

pub one-owner : {s : Script} {n : ℕ} {x : Execution} → History s n x → OneOwner x.entries
one-owner h = record { one = λ k. (history_carried k h).fit }

pub told-agrees : {s : Script} {n : ℕ} {x : Execution} → History s n x
    → (k : Lock) → Agrees (view k x.state.locks) (known_of k x.entries)
told-agrees h k = (history_carried k h).agrees

owner_told : (u : Option Mutex) (kind : Kind) (o : Option told.Owner) → IsTold u kind o → o ≡ as_told (owner_in u)
owner_told None kind o a = a
owner_told (Some mutex) kind o a = a.1

pub owner-told : {s : Script} {n : ℕ} {x : Execution} → History s n x
    → (k : Lock) → owner x.entries k ≡ as_told (parts.owner x.state.locks k)
owner-told {x = x} h k = owner_told (mutex_at x.state.locks k) (known_of k x.entries).kind (known_of k x.entries).owner (told-agrees h k).lock

pub cell-told : {s : Script} {n : ℕ} {x : Execution} → History s n x
    → (k : Lock) (cell : ℕ) (kind : Kind) → get x.state.locks.kinds cell ≡ Some kind → kind_in (known_of k x.entries).cells cell ≡ kind
cell-told {x = x} h k cell kind e = subst (λ (o : Option Kind). IsKind o (kind_in (known_of k x.entries).cells cell)) e ((told-agrees h k).cells cell)

pub kind-told : {s : Script} {n : ℕ} {x : Execution} → History s n x
    → (k : Lock) (mutex : Mutex) → mutex_at x.state.locks k ≡ Some mutex → (known_of k x.entries).kind ≡ mutex.kind
kind-told {x = x} h k mutex e =
    (subst (λ (u : Option Mutex). IsTold u (known_of k x.entries).kind (known_of k x.entries).owner) e (told-agrees h k).lock).0
