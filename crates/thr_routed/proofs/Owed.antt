-- Threads that are there have something left to do, and no unwinding is under way in those that wait or owe something.
use Rattle.std.proofs.Common.{Ok, Err, ◌≡◌, ℕ, ℤ, Bool, true, false, cond, eqb, List, Option, Some, None, refl, sym, ◌∙◌, arith, subst}
use Rattle.thr_values.specs.declared.number.NameId.{NameId}
use Rattle.thr_values.specs.declared.number.Tid.{Tid}
use Rattle.thr_values.specs.declared.reply.Effect.TheVariants as effect
use Rattle.thr_values.specs.declared.reply.Reply.{Reply}
use Rattle.thr_values.specs.declared.reply.Reply.TheVariants as reply
use Rattle.thr_syntax.specs.declared.dce.DceCall.{DceCall}
use Rattle.thr_syntax.specs.declared.dce.DceCall.TheVariants as dce
use Rattle.thr_syntax.specs.declared.expr.Expr.{Expr}
use Rattle.thr_syntax.specs.declared.expr.Var.{Var}
use Rattle.thr_syntax.specs.declared.tree.Script.{Script}
use Rattle.thr_remainder.specs.Acts.{Act, Asks}
use Rattle.thr_remainder.specs.Places.{Ways}
use Rattle.thr_remainder.specs.Remainders.{Setting, Remainder, Move, act_at, place_in}
use Rattle.thr_remainder.specs.Starts.{fresh, raised, delivered, begins_destructor}
use Rattle.thr_remainder.specs.Steps.{shared_step, written}
use Rattle.thr_remainder.specs.Replies.{Values, asked, replied}
use Rattle.thr_remainder.specs.Runs.{Halt, Delivers, Shares, Undoes, Completes, Ends, Pauses}
use Rattle.thr_parts.specs.declared.row.RowId.TheVariants as row
use Rattle.thr_parts.specs.declared.row.Seat.{Seat}
use Rattle.thr_parts.specs.declared.wait.Wait.{Wait}
use Rattle.thr_parts.specs.Tables.{Table, get, put, put_if, cut, keep_if}
use Rattle.thr_parts.specs.Replies.{is_value, is_blocks}
use Rattle.thr_parts.specs.Rows.{Rows, thread}
use Rattle.thr_parts.specs.Moves.{Freed, free_row}
use Rattle.thr_parts.specs.Threads as threads
use Rattle.thr_parts.specs.Threads.{ThreadsReply, natural, rank_at}
use Rattle.thr_parts.specs.Cancels.{waits_at_point}
use Rattle.thr_parts.specs.Cancels as cancels
use Rattle.thr_parts.specs.Locking.{unlock}
use Rattle.thr_parts.specs.Conditions.{wait, timedwait}
use Rattle.thr_parts.specs.Waking.{Signalled, signal}
use Rattle.thr_parts.specs.Keys.{DestructorCall, NextDestructor, next_destructor}
use Rattle.thr_parts.specs.OnceBlocks as once
use Rattle.thr_parts.specs.Pipes.{read, write}
use Rattle.thr_model.specs.States.{State, Debt, Return, Delivery, Running, rank_of, shared_values, with_remainder}
use Rattle.thr_model.specs.Calls.{Answered, answered, ready_if, cancelled, given_state, signals_one, woken_state, first}
use Rattle.thr_model.specs.Turns.{after_reply, called, written_to, shared_made, handed_on, freed, end_made, begun_at, debt_made, halt_made}
use Rattle.thr_answers.specs.Statuses.{Status, Absent, Calm, Waiting, Astray, status_in, status_of, status_after}
use Rattle.thr_answers.proofs.StatusMoves.{IsWith, with_known, with_put, with_cut, Becomes, Stays, becomes, becomes_again}
use Rattle.thr_answers.proofs.StatusRows.{free_row_stays}
use Rattle.thr_answers.proofs.StatusCalls.{IsCalling, GoesTo, Leaves, IsNoCreation, answered_goes}
use Rattle.thr_answers.proofs.StatusLives.{runs_still}
use Rattle.thr_answers.proofs.StatusTurns.{InOrder, HasRun, absent_parts, paid_goes, handed_stays, ended_goes}
use Rattle.thr_routed.specs.Reaching.{IsRight}
use Rattle.thr_routed.proofs.QuietParts.{IsHalt}

-- ---- what threads have left

abbrev pub IsSome : Option Remainder → Type 0
IsSome None = ⊥
IsSome (Some r) = Unit {0}

abbrev pub IsAtRest : Option Remainder → Type 0
IsAtRest None = ⊥
IsAtRest (Some r) = r.under_way ≡ None

-- What a thread of this status has left.
abbrev pub Holds : Status → Option Remainder → Type 0
Holds Absent o = Unit {0}
Holds Calm o = IsSome o
Holds Waiting o = IsAtRest o
Holds Astray o = Unit {0}

abbrev pub OwedIn : Table Debt → Table Seat → Table Wait → Table Remainder → Type 0
OwedIn d s v m = (u : ℕ) → Holds (status_in d s v u) (get m u)

-- Threads that are there have something left to do, and no unwinding is under way in those that wait or owe something.
abbrev pub Owed : State → Type 0
Owed st = OwedIn st.debts st.rows.seats st.conds.waits st.remainders

cond_holds : (b : Bool) (x y : Status) (o p : Option Remainder) → Holds x o → Holds y p → Holds (cond b x y) (cond b o p)
cond_holds true x y o p h k = h
cond_holds false x y o p h k = k

pub becomes_owed : (d d' : Table Debt) (s s' : Table Seat) (v v' : Table Wait) (m m' : Table Remainder) (w : ℕ) (y : Status) (o : Option Remainder) → Becomes d s v w y d' s' v' → IsWith m m' w o → Holds y o → OwedIn d s v m → OwedIn d' s' v' m'
becomes_owed d d' s s' v v' m m' w y o h k p owed u =
    subst (λ q. Holds (status_in d' s' v' u) q) (sym (k u))
    (subst (λ q. Holds q (cond (eqb w u) o (get m u))) (sym (h u)) (cond_holds (eqb w u) y (status_in d s v u) o (get m u) p (owed u)))

pub stays_owed : (d d' : Table Debt) (s s' : Table Seat) (v v' : Table Wait) (m : Table Remainder) → Stays d s v d' s' v' → OwedIn d s v m → OwedIn d' s' v' m
stays_owed d d' s s' v v' m h owed u = subst (λ q. Holds q (get m u)) (sym (h u)) (owed u)

-- ---- calls

cancelled_same : (st : State) (w : Tid) (o : ThreadsReply) (y : Reply) → (cancelled st w o y).state.remainders ≡ st.remainders
cancelled_same st w o (reply.Effect effect.Wakes) = refl
cancelled_same st w o (reply.Effect _) = refl
cancelled_same st w o _ = refl

given_same : (st : State) (rs : Rows) (o : Option Tid) → (given_state st rs o).remainders ≡ st.remainders
given_same st rs None = refl
given_same st rs (Some t) = refl

signals_same : (st : State) (o : Signalled) (w : Option (Tid × NameId)) → (signals_one st o w).state.remainders ≡ st.remainders
signals_same st o None = refl
signals_same st o (Some w) = refl

woken_same : (st : State) (rs : Rows) (y : Reply) (o : Option Tid) → (woken_state st rs y o).remainders ≡ st.remainders
woken_same st rs y None = refl
woken_same st rs y (Some t) = refl

answered_same : (s : Script) (st : State) (t : Tid) (call : DceCall) (ns : List ℤ) → IsNoCreation call → (answered s st t call ns).state.remainders ≡ st.remainders
unfolding answered
answered_same s st t (dce.Create v a routine e) ns i = absurd i
answered_same s st t (dce.Cancel e) ns i =
    let who : Tid = thread (natural (first ns)) in let o : ThreadsReply = cancels.cancel st.threads (first ns) (waits_at_point st.rows who) in cancelled_same st who o o.reply
answered_same s st t (dce.MutexUnlock m) ns i = let o = unlock st.locks st.rows (Some m) t in given_same (record st { locks = o.locks }) o.rows o.given
answered_same s st t dce.UnlockGlobalNp ns i = let o = unlock st.locks st.rows None t in given_same (record st { locks = o.locks }) o.rows o.given
answered_same s st t (dce.CondWait c m) ns i =
    let o = wait st.conds st.locks st.rows c m t (rank_of st t) in given_same (record st { conds = o.conds; locks = o.locks }) o.rows o.given
answered_same s st t (dce.CondTimedwait c m e) ns i =
    let o = timedwait st.conds st.locks st.rows c m (first ns) st.clock t (rank_of st t) in given_same (record st { conds = o.conds; locks = o.locks }) o.rows o.given
answered_same s st t (dce.CondSignal c) ns i = let o : Signalled = signal st.conds st.rows c in signals_same st o o.waiter
answered_same s st t (dce.Read p v w) ns i = let o = read st.pipes st.rows p t (rank_of st t) in woken_same (record st { pipes = o.pipes }) o.rows reply.Done o.relieved
answered_same s st t (dce.Write p e) ns i = let o = write st.pipes st.rows p (first ns) t (rank_of st t) in woken_same (record st { pipes = o.pipes }) o.rows (reply.Value (first ns)) o.reader
answered_same s st t _ ns i = refl

reply_holds : (g : Setting) (call : DceCall) (runs : Bool) (r : Remainder) (y : Reply) → r.under_way ≡ None → Holds (status_after (is_blocks y)) (Some (after_reply g call runs r y).to)
reply_holds g call runs r reply.Blocks none = none
reply_holds g call runs r y none = tt

-- ---- creations

created_becomes : (st : State) (rank : Tid → ℕ) → InOrder st → Becomes st.debts st.rows.seats st.conds.waits st.threads.next Calm st.debts (ready_if true rank st.rows (thread st.threads.next)).seats st.conds.waits
created_becomes st rank o =
    let next : ℕ = st.threads.next in
    let p = absent_parts (get st.debts next) (get st.rows.seats next) (get st.conds.waits next) (o.fresh next (omega arith)) in
    becomes st.debts st.debts st.rows.seats (ready_if true rank st.rows (thread next)).seats st.conds.waits st.conds.waits next None _ None (with_known st.debts next None p.0) (with_put st.rows.seats next _) (with_known st.conds.waits next None p.1)

same_if : (b : Bool) (x y : Status) → y ≡ x → cond b x y ≡ x
same_if true x y e = refl
same_if false x y e = e

created_owed : (st : State) (t : ℕ) (b : Bool) (rank : Tid → ℕ) (x r : Remainder) → status_of st t ≡ Calm → InOrder st → Owed st
    → OwedIn st.debts (ready_if b rank st.rows (thread st.threads.next)).seats st.conds.waits (put (put_if st.remainders st.threads.next (keep_if b (Some x))) t r)
created_owed st t false rank x r c o owed =
    becomes_owed st.debts st.debts st.rows.seats st.rows.seats st.conds.waits st.conds.waits st.remainders (put st.remainders t r) t Calm (Some r) (becomes_again st.debts st.debts st.rows.seats st.rows.seats st.conds.waits st.conds.waits t Calm (λ u. refl) c) (with_put st.remainders t r) tt owed
created_owed st t true rank x r c o owed =
    let seats : Table Seat = (ready_if true rank st.rows (thread st.threads.next)).seats in
    let m : Table Remainder = put st.remainders st.threads.next x in
    let h : Becomes st.debts st.rows.seats st.conds.waits st.threads.next Calm st.debts seats st.conds.waits = created_becomes st rank o in
    let one : OwedIn st.debts seats st.conds.waits m = becomes_owed st.debts st.debts st.rows.seats seats st.conds.waits st.conds.waits st.remainders m st.threads.next Calm (Some x) h (with_put st.remainders st.threads.next x) tt owed in
    becomes_owed st.debts st.debts seats seats st.conds.waits st.conds.waits m (put m t r) t Calm (Some r)
    (becomes_again st.debts st.debts seats seats st.conds.waits st.conds.waits t Calm (λ u. refl) (h t ∙ same_if (eqb st.threads.next t) Calm (status_of st t) c)) (with_put m t r) tt one

-- ---- turns

module _ (s : Script) (st : State) (t : Tid) (calls : IsCalling st t.0) (order : InOrder st) (owed : Owed st) where
  goes_owed : (after : State) (r : Remainder) (y : Status) → GoesTo st t.0 y after → after.remainders ≡ st.remainders → Holds y (Some r) → Owed (with_remainder after t r)
  goes_owed after r y h e p =
      becomes_owed st.debts after.debts st.rows.seats after.rows.seats st.conds.waits after.conds.waits st.remainders (put after.remainders t.0 r) t.0 y (Some r) h
      (subst (λ m. IsWith st.remainders (put m t.0 r) t.0 (Some r)) (sym e) (with_put st.remainders t.0 r)) p owed

  leaves_owed : (after : State) (r : Remainder) → Leaves st after → after.remainders ≡ st.remainders → Owed (with_remainder after t r)
  leaves_owed after r h e = goes_owed after r Calm (becomes_again st.debts after.debts st.rows.seats after.rows.seats st.conds.waits after.conds.waits t.0 Calm h calls.caller.calm) e tt

  creates_owed : (g : Setting) (v : Var) (a : Option NameId) (routine : NameId) (e : Expr) (ns : List ℤ) (r : Remainder) → Owed (with_remainder (answered s st t (dce.Create v a routine e) ns).state t r)
  unfolding answered
  creates_owed g v a routine e ns r =
      let c : ThreadsReply = threads.create st.threads t a in created_owed st t.0 (is_value c.reply) (rank_at c.threads) (fresh s routine (first ns)) r calls.caller.calm order owed

  other_owed : (g : Setting) (call : DceCall) (ns : List ℤ) (r : Remainder) → IsNoCreation call → r.under_way ≡ None
      → (let o : Answered = answered s st t call ns in Owed (with_remainder o.state t (after_reply g call o.runs r o.reply).to))
  other_owed g call ns r i none =
      let o : Answered = answered s st t call ns in
      goes_owed o.state (after_reply g call o.runs r o.reply).to (status_after (is_blocks o.reply)) (answered_goes s st t ns calls call i) (answered_same s st t call ns i) (reply_holds g call o.runs r o.reply none)

  call_owed : (g : Setting) (call : DceCall) (ns : List ℤ) (r : Remainder) → r.under_way ≡ None → (let o : Answered = answered s st t call ns in Owed (with_remainder o.state t (after_reply g call o.runs r o.reply).to))
  call_owed g (dce.Create v a routine e) ns r none = creates_owed g v a routine e ns _
  call_owed g call ns r none = other_owed g call ns r tt none

  called_owed : (g : Setting) (call : DceCall) (r : Remainder) (values : Values) → r.under_way ≡ None → Owed (called s st t g call r values).state
  called_owed g call r (Ok ns) none = call_owed g call ns r none
  called_owed g call r (Err x) none = leaves_owed st (raised x r).to (λ u. refl) refl

  written_owed : (o : Option (NameId × ℤ)) (r : Remainder) → Owed (with_remainder (written_to st o) t r)
  written_owed None r = leaves_owed st r (λ u. refl) refl
  written_owed (Some w) r = leaves_owed st r (λ u. refl) refl

  shared_owed : (g : Setting) (r : Remainder) (act : Act) → r.under_way ≡ None → Owed (shared_made s st t g r act).state
  shared_owed g r (Asks call) none = called_owed g call r (asked g (shared_values st) call r) none
  shared_owed g r _ none = written_owed (written g (shared_values st) r) (shared_step g (shared_values st) r).to

  handed_same : (o : once.Undone) (w : Option Tid) → (handed_on st o w).remainders ≡ st.remainders
  handed_same o None = refl
  handed_same o (Some u) = refl

  end_owed : (g : Setting) (r : Remainder) (o : NextDestructor) (c : Option DestructorCall) → HasRun st t.0 → Owed (end_made st t g r o c).state
  end_owed g r o (Some c) run = leaves_owed st (begins_destructor g c.0 c.1 c.2 r).to (λ u. refl) refl
  end_owed g r o None run =
      let f : Freed = free_row (rank_of st) st.rows (row.Join t) in
      let after : State = (end_made st t g r o None).state in
      becomes_owed st.debts after.debts st.rows.seats after.rows.seats st.conds.waits st.conds.waits st.remainders (cut st.remainders t.0) t.0 Absent None
      (ended_goes st t (Return (reply.Value r.value)) calls (runs_still st t run.seat calls run.at run.runs)) (with_cut st.remainders t.0) tt owed

  module _ (HasWays : ℕ → Ways → Type 0) (MayReturn : Type 0) (right : IsRight s HasWays MayReturn) where
    pub halt_owed : (g : Setting) (r : Remainder) (halt : Halt) → HasRun st t.0 → IsHalt s HasWays MayReturn right r halt → Owed (halt_made s st t g r halt).state
    halt_owed g r Delivers run i = leaves_owed st (delivered r).to (λ u. refl) refl
    halt_owed g r (Shares h) run i = shared_owed g r (act_at h) i.0
    halt_owed g r (Undoes block m) run i =
        let o : once.Undone = once.undone st.onces st.rows block in leaves_owed (handed_on st o o.runner) m.to (handed_stays st o.onces o.runner block t.0 calls refl) (handed_same o o.runner)
    halt_owed g r (Completes block m) run i =
        leaves_owed (freed (record st { onces = once.done st.onces block }) reply.Done (free_row (rank_of st) st.rows (row.Once block))) m.to
        (free_row_stays st.debts st.conds.waits st.rows (row.Once block) (Return reply.Done) (rank_of st) calls.none_astray calls.sorted refl refl) refl
    halt_owed g r Ends run i = let o : NextDestructor = next_destructor st.onces t in end_owed g r o o.call run
    halt_owed g r Pauses run i = leaves_owed st r (λ u. refl) refl

-- A thread makes what it owes.
pub debt_owed : (st : State) (t : Tid) (g : Setting) (r : Remainder) (d : Debt) → HasRun st t.0 → InOrder st → Owed st → (let now : State = record st { debts = cut st.debts t.0 } in Owed (debt_made now t g r d).state)
debt_owed st t g r (Return y) run order owed =
    becomes_owed st.debts (cut st.debts t.0) st.rows.seats st.rows.seats st.conds.waits st.conds.waits st.remainders (put st.remainders t.0 (replied g y r).to) t.0 Calm (Some (replied g y r).to) (paid_goes st t.0 run order) (with_put st.remainders t.0 _) tt owed
debt_owed st t g r Delivery run order owed =
    becomes_owed st.debts (cut st.debts t.0) st.rows.seats st.rows.seats st.conds.waits st.conds.waits st.remainders (put st.remainders t.0 (delivered r).to) t.0 Calm (Some (delivered r).to) (paid_goes st t.0 run order) (with_put st.remainders t.0 _) tt owed
debt_owed st t g r Running run order owed =
    let m : Move = begun_at g (place_in r.items) (replied g reply.Done r) in
    becomes_owed st.debts (cut st.debts t.0) st.rows.seats st.rows.seats st.conds.waits st.conds.waits st.remainders (put st.remainders t.0 m.to) t.0 Calm (Some m.to) (paid_goes st t.0 run order) (with_put st.remainders t.0 _) tt owed
