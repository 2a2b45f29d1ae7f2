-- What calls, what threads owe, and what ends a turn do to the statuses of threads.
use Rattle.std.proofs.Common.{◌≡◌, ℕ, ◌+◌, ◌≤◌, ℤ, pos, Bool, true, false, cond, eqb, nat_lt, List, length, Option, Some, None, arith, refl, sym, ap, ◌∙◌, subst}
use Rattle.std.proofs.lemmas.Bool.{eqb-true}
use Rattle.std.proofs.lemmas.Bool.Decides.{nat_tests}
use Rattle.thr_values.specs.declared.reply.Effect.TheVariants as effect
use Rattle.thr_syntax.specs.declared.expr.Var.{Var}
use Rattle.thr_syntax.specs.declared.expr.Expr.{Expr}
use Rattle.thr_parts.specs.Keys.{Onces}
use Rattle.thr_parts.specs.Waking.{Signalled, signal}
use Rattle.thr_parts.specs.Cancels.{waits_at_point}
use Rattle.thr_parts.specs.Cancels as cancels
use Rattle.thr_parts.specs.Locking.{unlock}
use Rattle.thr_parts.specs.Conditions.{wait, timedwait}
use Rattle.thr_parts.specs.Pipes.{read, write}
use Rattle.std.specs.Prelude.{if◌then◌else◌, is_none}
use Rattle.std.specs.Option.{option_map}
use Rattle.thr_values.specs.declared.number.NameId.{NameId}
use Rattle.thr_values.specs.declared.number.Tid.{Tid}
use Rattle.thr_values.specs.declared.reply.Reply.{Reply}
use Rattle.thr_values.specs.declared.reply.Reply.TheVariants as reply
use Rattle.thr_syntax.specs.declared.dce.DceCall.{DceCall}
use Rattle.thr_syntax.specs.declared.dce.DceCall.TheVariants as dce
use Rattle.thr_syntax.specs.declared.tree.Script.{Script}
use Rattle.thr_parts.specs.declared.row.RowId.{RowId}
use Rattle.thr_parts.specs.declared.row.RowId.TheVariants as row
use Rattle.thr_parts.specs.declared.row.Place.{Place}
use Rattle.thr_parts.specs.declared.row.Place.TheVariants.{Runs, Stands}
use Rattle.thr_parts.specs.declared.row.Seat.{Seat}
use Rattle.thr_parts.specs.declared.thread.Attr.{Attr}
use Rattle.thr_parts.specs.declared.wait.Wait.{Wait}
use Rattle.thr_parts.specs.Tables.{Table, get, put, put_if, cut, cut_if, IsCanonical}
use Rattle.thr_parts.specs.Replies.{is_value, is_blocks}
use Rattle.thr_parts.specs.Rows.{Rows, thread, most, seat_of, is_running, row_in, row_at, best, best_of, standing}
use Rattle.thr_parts.specs.Moves.{take_out_if, leave, free_row, Freed}
use Rattle.thr_parts.specs.Dispatch.{runs_on, running, next_for, with_processor, dispatch, whole_slice, keeps, as_kept, gives_way, a_turn_later}
use Rattle.thr_parts.specs.Threads as threads
use Rattle.thr_parts.specs.Threads.{Threads, ThreadsReply, natural, rank_at, attr_at, create_reply}
use Rattle.thr_parts.specs.OnceBlocks as once
use Rattle.thr_parts.proofs.BestLaws.{found}
use Rattle.thr_parts.proofs.RowLaws.{best_stands, canonical_standing, has_seat, row_of_seat}
use Rattle.thr_parts.proofs.RunningLaws.{HasProcessor, running_seat}
use Rattle.thr_model.specs.States.{State, Debt, Running, rank_of, all_owe}
use Rattle.thr_model.specs.Calls.{Answered, answered, ready_if, cancelled, given_state, signals_one, woken_state, first}
use Rattle.thr_model.specs.Turns.{handed_on}
use Rattle.thr_answers.specs.Statuses.{Status, Absent, Calm, Astray, by_row, by_wait_row, status, status_in, status_of, is_waiting, status_after}
use Rattle.thr_answers.proofs.StatusMoves.{with_same, with_known, with_put, with_cut, Becomes, Stays, becomes, stays, becomes_again}
use Rattle.thr_answers.proofs.StatusRows.{NoneAstray, stays_so, becomes_so, ready_stays, elsewhere, free_row_stays}
use Rattle.thr_answers.proofs.StatusCalls.{IsCalling, GoesTo, Leaves, IsNoCreation, answered_goes}

-- ---- statuses that stay in order

-- Nobody is astray, and threads that weren't created yet aren't there.
pub record OrderIn (d : Table Debt) (s : Table Seat) (v : Table Wait) (next : ℕ) : Type 0 where
  pub none_astray : NoneAstray d s v
  pub fresh : (u : ℕ) → next ≤ u → status_in d s v u ≡ Absent

abbrev pub InOrder : State → Type 0
InOrder st = OrderIn st.debts st.rows.seats st.conds.waits st.threads.next

-- From the one state to these tables the thread waits or doesn't, all others wait where they did, and the statuses are in
-- order.
pub record ComesIn (st : State) (t : ℕ) (b : Bool) (d : Table Debt) (s : Table Seat) (v : Table Wait) (next : ℕ) : Type 0 where
  pub waiting : (u : ℕ) → is_waiting (status_in d s v u) ≡ cond (eqb t u) b (is_waiting (status_of st u))
  pub order : OrderIn d s v next

abbrev pub Comes : State → ℕ → Bool → State → Type 0
Comes st t b after = ComesIn st t b after.debts after.rows.seats after.conds.waits after.threads.next

waiting_cond : (b : Bool) (x y : Status) → is_waiting (cond b x y) ≡ cond b (is_waiting x) (is_waiting y)
waiting_cond true x y = refl
waiting_cond false x y = refl

never_absent : (t u : ℕ) (st : State) (y : Status) (b : Bool) → eqb t u ≡ b → (status_of st t ≡ Absent → ⊥) → status_of st u ≡ Absent → cond b y (status_of st u) ≡ Absent
never_absent t u st y true e n h = absurd (n (ap (status_of st) (eqb-true t u e) ∙ h))
never_absent t u st y false e n h = h

pub comes_by : (st after : State) (t : ℕ) (y : Status) → InOrder st → (status_of st t ≡ Absent → ⊥) → (y ≡ Astray → ⊥) → after.threads.next ≡ st.threads.next → GoesTo st t y after → Comes st t (is_waiting y) after
comes_by st after t y o n a e h = record {
  waiting = λ u. ap is_waiting (h u) ∙ waiting_cond (eqb t u) y (status_of st u);
  order = record {
    none_astray = becomes_so st.debts after.debts st.rows.seats after.rows.seats st.conds.waits after.conds.waits t y o.none_astray a h;
    fresh = λ u le. h u ∙ never_absent t u st y (eqb t u) refl n (o.fresh u (subst (λ n. n ≤ u) e le));
  };
}

-- Where the statuses stay after that.
pub comes_stays : (st : State) (t : ℕ) (b : Bool) (d d' : Table Debt) (s s' : Table Seat) (v v' : Table Wait) (next : ℕ) → ComesIn st t b d s v next → Stays d s v d' s' v' → ComesIn st t b d' s' v' next
comes_stays st t b d d' s s' v v' next c h = record {
  waiting = λ u. ap is_waiting (h u) ∙ c.waiting u;
  order = record {
    none_astray = stays_so d d' s s' v v' c.order.none_astray h;
    fresh = λ u le. h u ∙ c.order.fresh u le;
  };
}

-- ---- creations

absent_wait : (r : Option RowId) → by_wait_row r ≡ Absent → ⊥
absent_wait None e = absurd (cc)
absent_wait (Some row.Ready) e = absurd (cc)
absent_wait (Some (row.Mutex m)) e = absurd (cc)
absent_wait (Some row.Global) e = absurd (cc)
absent_wait (Some (row.Cond c)) e = absurd (cc)
absent_wait (Some (row.Join t)) e = absurd (cc)
absent_wait (Some (row.Once o)) e = absurd (cc)
absent_wait (Some (row.Reader p)) e = absurd (cc)
absent_wait (Some (row.Writer p)) e = absurd (cc)
absent_wait (Some row.Time) e = absurd (cc)

calm_wait : (r : Option RowId) → by_wait_row r ≡ Calm → ⊥
calm_wait None e = absurd (cc)
calm_wait (Some row.Ready) e = absurd (cc)
calm_wait (Some (row.Mutex m)) e = absurd (cc)
calm_wait (Some row.Global) e = absurd (cc)
calm_wait (Some (row.Cond c)) e = absurd (cc)
calm_wait (Some (row.Join t)) e = absurd (cc)
calm_wait (Some (row.Once o)) e = absurd (cc)
calm_wait (Some (row.Reader p)) e = absurd (cc)
calm_wait (Some (row.Writer p)) e = absurd (cc)
calm_wait (Some row.Time) e = absurd (cc)

pub absent_parts : (o : Option Debt) (x : Option Seat) (z : Option Wait) → status o x z ≡ Absent → (o ≡ None) × (z ≡ None)
absent_parts o x (Some w) e = absurd (absent_wait (row_at x) e)
absent_parts (Some d) x None e = absurd (cc)
absent_parts None x None e = (refl, refl)

pub calm_parts : (o : Option Debt) (x : Option Seat) (z : Option Wait) → status o x z ≡ Calm → (o ≡ None) × (z ≡ None)
calm_parts o x (Some w) e = absurd (calm_wait (row_at x) e)
calm_parts (Some d) x None e = absurd (cc)
calm_parts None x None e = (refl, refl)

created_waits : (next t u : ℕ) (st : State) (b : Bool) → eqb next u ≡ b → status_of st next ≡ Absent → is_waiting (cond b Calm (status_of st u)) ≡ is_waiting (status_of st u)
created_waits next t u st true e a = sym (ap is_waiting (sym (ap (status_of st) (eqb-true next u e)) ∙ a))
created_waits next t u st false e a = refl

calm_is : (t u : ℕ) (st : State) (b : Bool) → eqb t u ≡ b → status_of st t ≡ Calm → is_waiting (status_of st u) ≡ cond b false (is_waiting (status_of st u))
calm_is t u st true e c = ap is_waiting (sym (ap (status_of st) (eqb-true t u e)) ∙ c)
calm_is t u st false e c = refl

created_astray : (b : Bool) (y : Status) → (y ≡ Astray → ⊥) → cond b Calm y ≡ Astray → ⊥
created_astray true y h e = absurd (cc)
created_astray false y h e = h e

not_itself : (n u : ℕ) → n + 1 ≤ u → eqb n u ≡ false
not_itself n u le = grind (arith, nat_tests)

creation : (st : State) (t : ℕ) (b : Bool) (rank : Tid → ℕ) → InOrder st → status_of st t ≡ Calm
    → ComesIn st t false st.debts (ready_if b rank st.rows (thread st.threads.next)).seats st.conds.waits (if b then st.threads.next + 1 else st.threads.next)
creation st t false rank o c = record { waiting = λ u. calm_is t u st (eqb t u) refl c; order = o }
creation st t true rank o c =
    let next : ℕ = st.threads.next in
    let a : status_of st next ≡ Absent = o.fresh next (omega arith) in
    let p = absent_parts (get st.debts next) (get st.rows.seats next) (get st.conds.waits next) a in
    let seats : Table Seat = (ready_if true rank st.rows (thread next)).seats in
    let h : Becomes st.debts st.rows.seats st.conds.waits next Calm st.debts seats st.conds.waits =
    becomes st.debts st.debts st.rows.seats seats st.conds.waits st.conds.waits next None _ None (with_known st.debts next None p.0) (with_put st.rows.seats next _) (with_known st.conds.waits next None p.1) in
    record {
      waiting = λ u. ap is_waiting (h u) ∙ created_waits next t u st (eqb next u) refl a ∙ calm_is t u st (eqb t u) refl c;
      order = record {
        none_astray = λ u e. created_astray (eqb next u) (status_of st u) (o.none_astray u) (sym (h u) ∙ e);
        fresh = λ u le. h u ∙ ap (λ b. cond b Calm (status_of st u)) (not_itself next u le) ∙ o.fresh u (omega (arith, le));
      };
    }

value_or_again : (b : Bool) (v : ℤ) → is_blocks (if b then reply.Value v else reply.Eagain) ≡ false
value_or_again true v = refl
value_or_again false v = refl

created_not : (ths : Threads) (o : Option Attr) → is_blocks (create_reply ths o) ≡ false
created_not ths None = refl
created_not ths (Some a) = value_or_again (nat_lt (length ths.records) most) (pos ths.next)

-- ---- calls

cancelled_next : (st : State) (w : Tid) (o : ThreadsReply) (y : Reply) → o.threads.next ≡ st.threads.next → (cancelled st w o y).state.threads.next ≡ st.threads.next
cancelled_next st w o (reply.Effect effect.Wakes) e = e
cancelled_next st w o (reply.Effect _) e = e
cancelled_next st w o _ e = e

given_next : (st : State) (rs : Rows) (o : Option Tid) → (given_state st rs o).threads.next ≡ st.threads.next
given_next st rs None = refl
given_next st rs (Some t) = refl

woken_next : (st : State) (rs : Rows) (y : Reply) (o : Option Tid) → (woken_state st rs y o).threads.next ≡ st.threads.next
woken_next st rs y None = refl
woken_next st rs y (Some t) = refl

signals_next : (st : State) (o : Signalled) (w : Option (Tid × NameId)) → (signals_one st o w).state.threads.next ≡ st.threads.next
signals_next st o None = refl
signals_next st o (Some w) = refl

answered_next : (s : Script) (st : State) (t : Tid) (call : DceCall) (ns : List ℤ) → IsNoCreation call → (answered s st t call ns).state.threads.next ≡ st.threads.next
unfolding answered
answered_next s st t (dce.Create v a routine e) ns i = absurd i
answered_next s st t (dce.Cancel e) ns i =
    let who : Tid = thread (natural (first ns)) in let o : ThreadsReply = cancels.cancel st.threads (first ns) (waits_at_point st.rows who) in cancelled_next st who o o.reply refl
answered_next s st t (dce.MutexUnlock m) ns i = let o = unlock st.locks st.rows (Some m) t in given_next (record st { locks = o.locks }) o.rows o.given
answered_next s st t dce.UnlockGlobalNp ns i = let o = unlock st.locks st.rows None t in given_next (record st { locks = o.locks }) o.rows o.given
answered_next s st t (dce.CondWait c m) ns i = let o = wait st.conds st.locks st.rows c m t (rank_of st t) in given_next (record st { conds = o.conds; locks = o.locks }) o.rows o.given
answered_next s st t (dce.CondTimedwait c m e) ns i =
    let o = timedwait st.conds st.locks st.rows c m (first ns) st.clock t (rank_of st t) in given_next (record st { conds = o.conds; locks = o.locks }) o.rows o.given
answered_next s st t (dce.CondSignal c) ns i = let o : Signalled = signal st.conds st.rows c in signals_next st o o.waiter
answered_next s st t (dce.Read p v w) ns i = let o = read st.pipes st.rows p t (rank_of st t) in woken_next (record st { pipes = o.pipes }) o.rows reply.Done o.relieved
answered_next s st t (dce.Write p e) ns i = let o = write st.pipes st.rows p (first ns) t (rank_of st t) in woken_next (record st { pipes = o.pipes }) o.rows (reply.Value (first ns)) o.reader
answered_next s st t _ ns i = refl

after_not : (b : Bool) → status_after b ≡ Astray → ⊥
after_not true e = absurd (cc)
after_not false e = absurd (cc)

is_after : (b : Bool) → is_waiting (status_after b) ≡ b
is_after true = refl
is_after false = refl

calm_not_absent : (y : Status) → y ≡ Calm → y ≡ Absent → ⊥
calm_not_absent y e f = absurd (cc)

other_comes : (s : Script) (st : State) (t : Tid) (call : DceCall) (ns : List ℤ) → IsNoCreation call → IsCalling st t.0 → InOrder st → Comes st t.0 (is_blocks (answered s st t call ns).reply) (answered s st t call ns).state
other_comes s st t call ns i k o =
    let said : Answered = answered s st t call ns in
    subst (λ b. Comes st t.0 b said.state) (is_after (is_blocks said.reply))
    (comes_by st said.state t.0 (status_after (is_blocks said.reply)) o (calm_not_absent (status_of st t.0) k.caller.calm) (after_not (is_blocks said.reply)) (answered_next s st t call ns i) (answered_goes s st t ns k call i))

creates_come : (s : Script) (st : State) (t : Tid) (v : Var) (a : Option NameId) (routine : NameId) (e : Expr) (ns : List ℤ) → IsCalling st t.0 → InOrder st
    → (let o : Answered = answered s st t (dce.Create v a routine e) ns in Comes st t.0 (is_blocks o.reply) o.state)
unfolding answered
creates_come s st t v a routine e ns k o =
    let c : ThreadsReply = threads.create st.threads t a in
    subst (λ b. ComesIn st t.0 b st.debts (ready_if (is_value c.reply) (rank_at c.threads) st.rows (thread st.threads.next)).seats st.conds.waits c.threads.next) (sym (created_not st.threads (attr_at st.threads a)))
    (creation st t.0 (is_value c.reply) (rank_at c.threads) o k.caller.calm)

-- After a call its caller waits where the reply is `blocks`, and all others wait where they did.
pub answered_comes : (s : Script) (st : State) (t : Tid) (call : DceCall) (ns : List ℤ) → IsCalling st t.0 → InOrder st → Comes st t.0 (is_blocks (answered s st t call ns).reply) (answered s st t call ns).state
answered_comes s st t (dce.Create v a routine e) ns k o = creates_come s st t v a routine e ns k o
answered_comes s st t call ns k o = other_comes s st t call ns tt k o

-- ---- a thread that runs

-- The thread has a seat on a processor.
pub record HasRun (st : State) (t : ℕ) : Type 0 where
  pub seat : Seat
  pub at : get st.rows.seats t ≡ Some seat
  pub runs : row_in seat.place ≡ None

runs_nowhere : (p : ℕ) (x : Place) → runs_on p x ≡ true → row_in x ≡ None
runs_nowhere p (Runs q slice) e = refl
runs_nowhere p (Stands r arrival) e = absurd (cc)

pub has_run : (st : State) (p : ℕ) (t : Tid) → IsCanonical st.rows.seats → running st.rows p ≡ Some t → HasRun st t.0
has_run st p t h e =
    let x : (x : Seat) × HasProcessor st.rows p t.0 x = running_seat st.rows p t h e in record { seat = x.0; at = x.1.at; runs = runs_nowhere p x.0.place x.1.runs }

no_wait_at : (d : Option Debt) (x : Option Seat) (z : Option Wait) → row_at x ≡ None → (status d x z ≡ Astray → ⊥) → z ≡ None
no_wait_at d x None e h = refl
no_wait_at d x (Some w) e h = absurd (h (ap by_wait_row e))

pub run_wait : (st : State) (t : ℕ) → HasRun st t → InOrder st → get st.conds.waits t ≡ None
run_wait st t r o = no_wait_at (get st.debts t) (get st.rows.seats t) (get st.conds.waits t) (ap row_at r.at ∙ r.runs) (o.none_astray t)

pub calls_calmly : (st : State) (t : ℕ) → HasRun st t → InOrder st → IsCanonical st.rows.seats → get st.debts t ≡ None → IsCalling st t
calls_calmly st t r o h e =
    let w : get st.conds.waits t ≡ None = run_wait st t r o in record {
      caller = record {
        owes_nothing = e;
        has_no_wait = w;
        calm = ap (λ d. status d (get st.rows.seats t) (get st.conds.waits t)) e ∙ ap (λ x. status None x (get st.conds.waits t)) r.at ∙ ap (λ z. status None (Some r.seat) z) w ∙ ap by_row r.runs;
      };
      none_astray = o.none_astray;
      sorted = h;
    }

-- A thread that makes what it owes.
pub paid_goes : (st : State) (t : ℕ) → HasRun st t → InOrder st → Becomes st.debts st.rows.seats st.conds.waits t Calm (cut st.debts t) st.rows.seats st.conds.waits
paid_goes st t r o =
    let w : get st.conds.waits t ≡ None = run_wait st t r o in
    subst (λ y. Becomes st.debts st.rows.seats st.conds.waits t y (cut st.debts t) st.rows.seats st.conds.waits) (ap by_row r.runs)
    (becomes st.debts (cut st.debts t) st.rows.seats st.rows.seats st.conds.waits st.conds.waits t None (Some r.seat) None (with_cut st.debts t) (with_known st.rows.seats t (Some r.seat) r.at) (with_known st.conds.waits t None w))

pub paid_comes : (st : State) (t : ℕ) (owed : Debt) → HasRun st t → InOrder st → get st.debts t ≡ Some owed → ComesIn st t false (cut st.debts t) st.rows.seats st.conds.waits st.threads.next
paid_comes st t owed r o e =
    let w : get st.conds.waits t ≡ None = run_wait st t r o in
    let h : Becomes st.debts st.rows.seats st.conds.waits t (by_row (row_in r.seat.place)) (cut st.debts t) st.rows.seats st.conds.waits =
    becomes st.debts (cut st.debts t) st.rows.seats st.rows.seats st.conds.waits st.conds.waits t None (Some r.seat) None (with_cut st.debts t) (with_known st.rows.seats t (Some r.seat) r.at) (with_known st.conds.waits t None w) in
    comes_by st (record st { debts = cut st.debts t }) t Calm o (owing_not_absent (get st.debts t) (get st.rows.seats t) (get st.conds.waits t) owed e w) (calm_not_astray) refl
    (subst (λ y. Becomes st.debts st.rows.seats st.conds.waits t y (cut st.debts t) st.rows.seats st.conds.waits) (ap by_row r.runs) h)
  where
    calm_not_astray : Calm ≡ Astray → ⊥
    calm_not_astray e = absurd (cc)

    owing_not_absent : (o : Option Debt) (x : Option Seat) (z : Option Wait) (d : Debt) → o ≡ Some d → z ≡ None → status o x z ≡ Absent → ⊥
    owing_not_absent None x z d e w h = absurd (cc)
    owing_not_absent (Some y) x None d e w h = absurd (cc)
    owing_not_absent (Some y) x (Some u) d e w h = absurd (cc)

-- ---- what ends a turn

pub leaves_come : (st after : State) (t : ℕ) → IsCalling st t → InOrder st → after.threads.next ≡ st.threads.next → Leaves st after → Comes st t false after
leaves_come st after t k o e h =
    comes_by st after t Calm o (calm_not_absent (status_of st t) k.caller.calm) (after_not false) e (becomes_again st.debts after.debts st.rows.seats after.rows.seats st.conds.waits after.conds.waits t Calm h k.caller.calm)

pub handed_stays : (st : State) (onces : Onces) (next : Option Tid) (block : NameId) (t : ℕ) → IsCalling st t → best st.rows (row.Once block) ≡ next
    → (let o : once.Undone = record { onces = onces; rows = take_out_if st.rows next; runner = next } in Leaves st (handed_on st o next))
handed_stays st onces None block t k e = λ u. refl
handed_stays st onces (Some w) block t k e =
    ready_stays st.debts st.conds.waits st.rows w Running (rank_of st) (elsewhere st.debts st.rows.seats st.conds.waits w.0 (row.Once block) k.none_astray (best_stands st.rows (row.Once block) w k.sorted e) refl refl)

handed_next : (st : State) (o : once.Undone) (w : Option Tid) → (handed_on st o w).threads.next ≡ st.threads.next
handed_next st o None = refl
handed_next st o (Some t) = refl

pub undone_comes : (st : State) (block : NameId) (t : ℕ) → IsCalling st t → InOrder st → (let o : once.Undone = once.undone st.onces st.rows block in Comes st t false (handed_on st o o.runner))
undone_comes st block t k o =
    let x : once.Undone = once.undone st.onces st.rows block in leaves_come st (handed_on st x x.runner) t k o (handed_next st x x.runner) (handed_stays st x.onces x.runner block t k refl)

abbrev left_waits : (b : Bool) → Status
left_waits true = Absent
left_waits false = Calm

left_becomes : (d : Table Debt) (s : Table Seat) (v : Table Wait) (t : ℕ) (b : Bool) → status_in d s v t ≡ Calm → Becomes d s v t (left_waits b) d (cut_if b s t) v
left_becomes d s v t true c =
    let p = calm_parts (get d t) (get s t) (get v t) c in becomes d d s (cut s t) v v t None None None (with_known d t None p.0) (with_cut s t) (with_known v t None p.1)
left_becomes d s v t false c = becomes_again d d s s v v t Calm (λ u. refl) c

left_calm : (b : Bool) → is_waiting (left_waits b) ≡ false
left_calm true = refl
left_calm false = refl

left_not : (b : Bool) → left_waits b ≡ Astray → ⊥
left_not true e = absurd (cc)
left_not false e = absurd (cc)

-- A thread that runs ends.
pub ended_goes : (st : State) (t : Tid) (o : Debt) → IsCalling st t.0
    → (let f : Freed = free_row (rank_of st) st.rows (row.Join t) in is_running (seat_of f.rows t) ≡ true → Becomes st.debts st.rows.seats st.conds.waits t.0 Absent (all_owe st.debts o f.woken) (leave f.rows t).seats st.conds.waits)
ended_goes st t o k r =
    let f : Freed = free_row (rank_of st) st.rows (row.Join t) in
    let d : Table Debt = all_owe st.debts o f.woken in
    let one : Stays st.debts st.rows.seats st.conds.waits d f.rows.seats st.conds.waits = free_row_stays st.debts st.conds.waits st.rows (row.Join t) o (rank_of st) k.none_astray k.sorted refl refl in
    let b : Bool = is_running (seat_of f.rows t) in
    let two : Becomes d f.rows.seats st.conds.waits t.0 (left_waits b) d (leave f.rows t).seats st.conds.waits = left_becomes d f.rows.seats st.conds.waits t.0 b (one t.0 ∙ k.caller.calm) in
    subst (λ x. Becomes st.debts st.rows.seats st.conds.waits t.0 (left_waits x) d (leave f.rows t).seats st.conds.waits) r (λ u. two u ∙ ap (cond (eqb t.0 u) (left_waits b)) (one u))

-- A thread ends.
pub ended_comes : (st : State) (t : Tid) (o : Debt) → IsCalling st t.0 → InOrder st
    → (let f : Freed = free_row (rank_of st) st.rows (row.Join t) in ComesIn st t.0 false (all_owe st.debts o f.woken) (leave f.rows t).seats st.conds.waits st.threads.next)
ended_comes st t o k order =
    let f : Freed = free_row (rank_of st) st.rows (row.Join t) in
    let d : Table Debt = all_owe st.debts o f.woken in
    let one : Stays st.debts st.rows.seats st.conds.waits d f.rows.seats st.conds.waits = free_row_stays st.debts st.conds.waits st.rows (row.Join t) o (rank_of st) k.none_astray k.sorted refl refl in
    let b : Bool = is_running (seat_of f.rows t) in
    let two : Becomes d f.rows.seats st.conds.waits t.0 (left_waits b) d (leave f.rows t).seats st.conds.waits = left_becomes d f.rows.seats st.conds.waits t.0 b (one t.0 ∙ k.caller.calm) in
    subst (λ b. ComesIn st t.0 b d (leave f.rows t).seats st.conds.waits st.threads.next) (left_calm b)
    (comes_by st (record st { debts = d; rows = leave f.rows t }) t.0 (left_waits b) order (calm_not_absent (status_of st t.0) k.caller.calm) (left_not b) refl
    (λ u. two u ∙ ap (cond (eqb t.0 u) (left_waits b)) (one u)))

-- ---- after a turn, and at a dispatch

kept_status : (o : Option Debt) (z : Option Wait) (rs : Rows) (fifo : Bool) (rank : ℕ) (x : Place) (b : Bool) → gives_way rs fifo rank x ≡ b
    → (let s : Seat = record { rank = rank; place = x } in let now : Seat = record { rank = rank; place = if b then Stands row.Ready rs.next_arrival else a_turn_later fifo x } in status o (Some s) z ≡ status o (Some now) z)
kept_status o (Some w) rs fifo rank (Runs p slice) true e = refl
kept_status o (Some w) rs fifo rank (Runs p slice) false e = refl
kept_status (Some d) None rs fifo rank (Runs p slice) b e = refl
kept_status None None rs fifo rank (Runs p slice) true e = refl
kept_status None None rs fifo rank (Runs p slice) false e = refl
kept_status o z rs fifo rank (Stands r arrival) true e = absurd (cc)
kept_status o z rs fifo rank (Stands r arrival) false e = refl

kept_at : (d : Table Debt) (v : Table Wait) (rs : Rows) (t : ℕ) (fifo : Bool) (o : Option Seat) → get rs.seats t ≡ o → Stays d rs.seats v d (put_if rs.seats t (option_map (as_kept rs fifo) o)) v
kept_at d v rs t fifo None e = λ u. refl
kept_at d v rs t fifo (Some x) e =
    let y : Seat = as_kept rs fifo x in
    stays d d rs.seats (put rs.seats t y) v v t (status (get d t) (Some y) (get v t)) (becomes d d rs.seats (put rs.seats t y) v v t (get d t) (Some y) (get v t) (with_same d t) (with_put rs.seats t y) (with_same v t))
    (ap (λ q. status (get d t) q (get v t)) e ∙ kept_status (get d t) (get v t) rs fifo x.rank x.place (gives_way rs fifo x.rank x.place) refl)

pub keeps_stays : (d : Table Debt) (v : Table Wait) (rs : Rows) (t : Tid) (fifo : Bool) → Stays d rs.seats v d (keeps rs t fifo).rows.seats v
keeps_stays d v rs t fifo = kept_at d v rs t.0 fifo (get rs.seats t.0) refl

runs_status : (o : Option Debt) (x : Option Seat) (z : Option Wait) (rank p slice : ℕ) → row_at x ≡ Some row.Ready → (let now : Seat = record { rank = rank; place = Runs p slice } in status o x z ≡ status o (Some now) z)
runs_status o x (Some w) rank p slice e = ap by_wait_row e
runs_status (Some d) x None rank p slice e = refl
runs_status None None None rank p slice e = absurd (cc)
runs_status None (Some s) None rank p slice e = ap by_row e

processor_stays : (d : Table Debt) (v : Table Wait) (rs : Rows) (p : ℕ) (o : Option (ℕ × Seat)) → ((e : ℕ × Seat) → o ≡ Some e → row_at (get rs.seats e.0) ≡ Some row.Ready) → Stays d rs.seats v d (with_processor o rs.seats p) v
processor_stays d v rs p None h = λ u. refl
processor_stays d v rs p (Some e) h =
    let y : Seat = record { rank = e.1.rank; place = Runs p whole_slice } in
    stays d d rs.seats (put rs.seats e.0 y) v v e.0 (status (get d e.0) (Some y) (get v e.0)) (becomes d d rs.seats (put rs.seats e.0 y) v v e.0 (get d e.0) (Some y) (get v e.0) (with_same d e.0) (with_put rs.seats e.0 y) (with_same v e.0))
    (runs_status (get d e.0) (get rs.seats e.0) (get v e.0) e.1.rank p whole_slice (h e refl))

next_is_ready : (rs : Rows) (b : Bool) (e : ℕ × Seat) → IsCanonical rs.seats → (if b then best_of (standing rs row.Ready) else None) ≡ Some e → row_at (get rs.seats e.0) ≡ Some row.Ready
next_is_ready rs true e h is = row_of_seat rs (thread e.0) row.Ready e.1 (has_seat rs row.Ready e.0 e.1 h (found (standing rs row.Ready) e (canonical_standing rs row.Ready h) is))
next_is_ready rs false e h is = absurd (cc)

pub dispatch_stays : (d : Table Debt) (v : Table Wait) (rs : Rows) (p : ℕ) → IsCanonical rs.seats → Stays d rs.seats v d (dispatch rs p).rows.seats v
dispatch_stays d v rs p h = processor_stays d v rs p (next_for rs p) (λ e is. next_is_ready rs (is_none (running rs p)) e h is)
