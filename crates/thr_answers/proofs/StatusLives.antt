-- Threads that wait, owe something or run haven't ended.
use Rattle.std.proofs.Common.{◌≡◌, ℕ, ℤ, pos, negsuc, Bool, true, false, cond, eqb, List, [], ◌∷◌, Option, Some, None, refl, sym, ap, ◌∙◌, subst}
use Rattle.std.proofs.lemmas.Bool.{eqb-true, false≢true}
use Rattle.std.specs.Prelude.{if◌then◌else◌, is_none, is_some}
use Rattle.std.specs.Option.{option_map}
use Rattle.thr_values.specs.declared.number.NameId.{NameId}
use Rattle.thr_values.specs.declared.number.Tid.{Tid}
use Rattle.thr_values.specs.declared.reply.Effect.TheVariants as effect
use Rattle.thr_values.specs.declared.reply.Reply.{Reply}
use Rattle.thr_values.specs.declared.reply.Reply.TheVariants as reply
use Rattle.thr_values.specs.declared.scheduling.Mode.{Mode}
use Rattle.thr_syntax.specs.declared.dce.DceCall.{DceCall}
use Rattle.thr_syntax.specs.declared.dce.DceCall.TheVariants as dce
use Rattle.thr_syntax.specs.declared.expr.Expr.{Expr}
use Rattle.thr_syntax.specs.declared.expr.Var.{Var}
use Rattle.thr_syntax.specs.declared.tree.Script.{Script}
use Rattle.thr_parts.specs.declared.row.RowId.TheVariants as row
use Rattle.thr_parts.specs.declared.row.Place.TheVariants.{Stands}
use Rattle.thr_parts.specs.declared.row.Seat.{Seat}
use Rattle.thr_parts.specs.declared.thread.Attr.{Attr}
use Rattle.thr_parts.specs.declared.thread.Thread.{Thread}
use Rattle.thr_parts.specs.declared.wait.Wait.{Wait}
use Rattle.thr_parts.specs.Tables.{Table, get, put, put_if, cut, keep_if}
use Rattle.thr_parts.specs.Replies.{is_value}
use Rattle.thr_parts.specs.Rows.{Rows, thread, seat_of, is_in_row, is_running, row_in, row_at, best_first}
use Rattle.thr_parts.specs.Moves.{take_out, make_ready, make_all_ready, free_row}
use Rattle.thr_parts.specs.Threads as threads
use Rattle.thr_parts.specs.Threads.{Threads, ThreadsReply, natural, record_of, record_at, rank_at, attr_at, created_by, create_reply, records_detached, as_detached, set_ended, records_ended, as_ended, first_threads}
use Rattle.thr_parts.specs.Scheduling.{with_prio, with_policy, is_prio}
use Rattle.thr_parts.specs.Cancels.{waits_at_point, set_mode, with_mode, mode_at, deliver, as_pending, is_marked}
use Rattle.thr_parts.specs.Cancels as cancels
use Rattle.thr_parts.specs.Locking.{unlock}
use Rattle.thr_parts.specs.Conditions.{wait, timedwait}
use Rattle.thr_parts.specs.Waking.{Signalled, signal}
use Rattle.thr_parts.specs.Pipes.{read, write}
use Rattle.thr_parts.proofs.TableLaws.{get_put, get_cut}
use Rattle.thr_laws.proofs.ReadingLaws.{AllLines}
use Rattle.thr_model.specs.States.{State, Debt, rank_of}
use Rattle.thr_model.specs.Calls.{answered, ready_if, cancelled, given_state, signals_one, woken_state, first, second}
use Rattle.thr_answers.specs.Statuses.{Status, Absent, Calm, Waiting, status, status_in, status_of}
use Rattle.thr_answers.proofs.StatusMoves.{with_put_cut, Stays}
use Rattle.thr_answers.proofs.StatusRows.{all_map, all_stand, elsewhere}
use Rattle.thr_answers.proofs.StatusCalls.{IsCalling, GoesTo, IsNoCreation, answered_goes}

-- ---- records of threads that have not ended

-- The record that is there is of a thread that has not ended.
abbrev pub is_living : Option Thread → Bool
is_living None = false
is_living (Some th) = is_none th.ended

-- Whoever has not ended has not ended after.
abbrev pub KeepsLiving : Table Thread → Table Thread → Type 0
KeepsLiving m after = (u : ℕ) → is_living (get m u) ≡ true → is_living (get after u) ≡ true

put_living : (m : Table Thread) (k : ℕ) (th : Thread) → (is_living (get m k) ≡ true → is_none th.ended ≡ true) → KeepsLiving m (put m k th)
put_living m k th h u e = ap is_living (get_put m k u th) ∙ either (eqb k u) refl
  where
    either : (b : Bool) → eqb k u ≡ b → is_living (cond b (Some th) (get m u)) ≡ true
    either true i = h (ap (λ v. is_living (get m v)) (eqb-true k u i) ∙ e)
    either false i = e

changed_living : (m : Table Thread) (k : ℕ) (b : Bool) (f : Thread → Thread) → ((th : Thread) → (f th).ended ≡ th.ended) → (o : Option Thread) → get m k ≡ o → KeepsLiving m (put_if m k (keep_if b (option_map f o)))
changed_living m k true f same None e u i = i
changed_living m k true f same (Some th) e u i = put_living m k (f th) (λ h. ap is_none (same th) ∙ sym (ap is_living e) ∙ h) u i
changed_living m k false f same o e u i = i

-- The record of the thread that a number names.
target_living : (ths : Threads) (target : ℤ) (b : Bool) (f : Thread → Thread) → ((th : Thread) → (f th).ended ≡ th.ended) → KeepsLiving ths.records (put_if ths.records (natural target) (keep_if b (option_map f (record_of ths target))))
target_living ths (pos n) b f same = changed_living ths.records n b f same (get ths.records n) refl
target_living ths (negsuc n) true f same = λ u i. i
target_living ths (negsuc n) false f same = λ u i. i

pub mode_living : (ths : Threads) (t : Tid) (m : Mode) → KeepsLiving ths.records (set_mode ths t m).records
mode_living ths t m = changed_living ths.records t.0 true (with_mode m) (λ th. refl) (get ths.records t.0) refl

pub deliver_living : (ths : Threads) (t : Tid) → KeepsLiving ths.records (deliver ths t).records
deliver_living ths t = mode_living ths t _

cut_ended : (m : Table Thread) (k : ℕ) → is_living (get m k) ≡ false → KeepsLiving m (cut m k)
cut_ended m k n u e = ap is_living (get_cut m k u) ∙ either (eqb k u) refl
  where
    either : (b : Bool) → eqb k u ≡ b → is_living (cond b None (get m u)) ≡ true
    either true i = absurd (false≢true (sym n ∙ ap (λ v. is_living (get m v)) (eqb-true k u i) ∙ e))
    either false i = e

ended_not : (o : Option ℤ) → is_some o ≡ true → is_none o ≡ false
ended_not None e = absurd (cc)
ended_not (Some v) e = refl

detached_by : (ths : Threads) (n : ℕ) (th : Thread) (a b : Bool) → get ths.records n ≡ Some th → is_some th.ended ≡ b → KeepsLiving ths.records (if a then ths.records else (if b then cut ths.records n else put ths.records n (as_detached th)))
detached_by ths n th true b e i u l = l
detached_by ths n th false true e i u l = cut_ended ths.records n (ap is_living e ∙ ended_not th.ended i) u l
detached_by ths n th false false e i u l = put_living ths.records n (as_detached th) (λ h. sym (ap is_living e) ∙ h) u l

detach_at : (ths : Threads) (n : ℕ) (o : Option Thread) → get ths.records n ≡ o → KeepsLiving ths.records (records_detached ths (pos n) o)
detach_at ths n None e u l = l
detach_at ths n (Some th) e u l = detached_by ths n th th.detached (is_some th.ended) e refl u l

detach_living : (ths : Threads) (target : ℤ) → KeepsLiving ths.records (records_detached ths target (record_of ths target))
detach_living ths (pos n) = detach_at ths n (get ths.records n) refl
detach_living ths (negsuc n) = λ u l. l

created_living : (ths : Threads) (b : Bool) (maker : Option Thread) (o : Option Attr) → KeepsLiving ths.records (put_if ths.records ths.next (keep_if b (option_map (created_by ths.next maker) o)))
created_living ths true maker None u l = l
created_living ths true maker (Some a) u l = put_living ths.records ths.next (created_by ths.next maker a) (λ h. refl) u l
created_living ths false maker o u l = l

-- ---- calls

cancelled_living : (st : State) (w : Tid) (o : ThreadsReply) (y : Reply) → KeepsLiving st.threads.records o.threads.records → KeepsLiving st.threads.records (cancelled st w o y).state.threads.records
cancelled_living st w o (reply.Effect effect.Wakes) h = h
cancelled_living st w o (reply.Effect _) h = h
cancelled_living st w o _ h = h

given_living : (st : State) (rs : Rows) (o : Option Tid) → KeepsLiving st.threads.records (given_state st rs o).threads.records
given_living st rs None u l = l
given_living st rs (Some t) u l = l

signals_living : (st : State) (o : Signalled) (w : Option (Tid × NameId)) → KeepsLiving st.threads.records (signals_one st o w).state.threads.records
signals_living st o None u l = l
signals_living st o (Some w) u l = l

woken_living : (st : State) (rs : Rows) (y : Reply) (o : Option Tid) → KeepsLiving st.threads.records (woken_state st rs y o).threads.records
woken_living st rs y None u l = l
woken_living st rs y (Some t) u l = l

answered_living : (s : Script) (st : State) (t : Tid) (call : DceCall) (ns : List ℤ) → KeepsLiving st.threads.records (answered s st t call ns).state.threads.records
unfolding answered
answered_living s st t (dce.Create v a routine e) ns =
    created_living st.threads (is_value (threads.create st.threads t a).reply) (record_at st.threads t) (attr_at st.threads a)
answered_living s st t (dce.Detach e) ns = detach_living st.threads (first ns)
answered_living s st t (dce.Setcancel on v) ns = mode_living st.threads t _
answered_living s st t (dce.Setasynccancel on v) ns = mode_living st.threads t _
answered_living s st t (dce.Setprio e f v) ns = target_living st.threads (first ns) (is_prio (second ns)) (with_prio (second ns)) (λ th. refl)
answered_living s st t (dce.Setscheduler e policy f v) ns = target_living st.threads (first ns) (is_prio (second ns)) (with_policy policy (second ns)) (λ th. refl)
answered_living s st t (dce.Cancel e) ns =
    let who : Tid = thread (natural (first ns)) in
    let o : ThreadsReply = cancels.cancel st.threads (first ns) (waits_at_point st.rows who) in
    cancelled_living st who o o.reply (target_living st.threads (first ns) (is_marked (record_of st.threads (first ns)) (waits_at_point st.rows who)) as_pending (λ th. refl))
answered_living s st t (dce.MutexUnlock m) ns = let o = unlock st.locks st.rows (Some m) t in given_living (record st { locks = o.locks }) o.rows o.given
answered_living s st t dce.UnlockGlobalNp ns = let o = unlock st.locks st.rows None t in given_living (record st { locks = o.locks }) o.rows o.given
answered_living s st t (dce.CondWait c m) ns =
    let o = wait st.conds st.locks st.rows c m t (rank_of st t) in given_living (record st { conds = o.conds; locks = o.locks }) o.rows o.given
answered_living s st t (dce.CondTimedwait c m e) ns =
    let o = timedwait st.conds st.locks st.rows c m (first ns) st.clock t (rank_of st t) in given_living (record st { conds = o.conds; locks = o.locks }) o.rows o.given
answered_living s st t (dce.CondSignal c) ns = let o : Signalled = signal st.conds st.rows c in signals_living st o o.waiter
answered_living s st t (dce.Read p v w) ns = let o = read st.pipes st.rows p t (rank_of st t) in woken_living (record st { pipes = o.pipes }) o.rows reply.Done o.relieved
answered_living s st t (dce.Write p e) ns = let o = write st.pipes st.rows p (first ns) t (rank_of st t) in woken_living (record st { pipes = o.pipes }) o.rows (reply.Value (first ns)) o.reader
answered_living s st t _ ns = λ u l. l

-- ---- statuses

-- Threads that are there have not ended.
abbrev pub LivesIn : Table Debt → Table Seat → Table Wait → Table Thread → Type 0
LivesIn d s v m = (u : ℕ) → (status_in d s v u ≡ Absent → ⊥) → is_living (get m u) ≡ true

abbrev pub Lives : State → Type 0
Lives st = LivesIn st.debts st.rows.seats st.conds.waits st.threads.records

pub stay_living : (d d' : Table Debt) (s s' : Table Seat) (v v' : Table Wait) (m m' : Table Thread) → Stays d s v d' s' v' → KeepsLiving m m' → LivesIn d s v m → LivesIn d' s' v' m'
stay_living d d' s s' v v' m m' h k l u n = k u (l u (λ e. n (h u ∙ e)))

pub goes_living : (st after : State) (t : ℕ) (y : Status) → (status_of st t ≡ Absent → ⊥) → GoesTo st t y after → KeepsLiving st.threads.records after.threads.records → Lives st → Lives after
goes_living st after t y a h k l u n = k u (either (eqb t u) refl)
  where
    either : (b : Bool) → eqb t u ≡ b → is_living (get st.threads.records u) ≡ true
    either true e = subst (λ v. is_living (get st.threads.records v) ≡ true) (eqb-true t u e) (l t a)
    either false e = l u (λ i. n (h u ∙ ap (λ b. cond b y (status_of st u)) e ∙ i))

new_lives : (st : State) (rank : Tid → ℕ) (maker : Option Thread) (x : Attr) (u : ℕ) (b : Bool) → eqb st.threads.next u ≡ b → Lives st
    → (status_in st.debts (ready_if true rank st.rows (thread st.threads.next)).seats st.conds.waits u ≡ Absent → ⊥) → is_living (cond b (Some (created_by st.threads.next maker x)) (get st.threads.records u)) ≡ true
new_lives st rank maker x u true i l n = refl
new_lives st rank maker x u false i l n =
    let seat : Seat = record { rank = rank (thread st.threads.next); place = Stands row.Ready st.rows.next_arrival } in
    l u (λ j. n (ap (λ q. status (get st.debts u) q (get st.conds.waits u)) (get_put st.rows.seats st.threads.next u seat ∙ ap (λ b. cond b (Some seat) (get st.rows.seats u)) i) ∙ j))

-- A thread that comes to be there lives.
created_lives : (st : State) (b : Bool) (rank : Tid → ℕ) (maker : Option Thread) (a : Option Attr) → (b ≡ true → is_some a ≡ true) → (status_of st st.threads.next ≡ Absent) → Lives st
    → LivesIn st.debts (ready_if b rank st.rows (thread st.threads.next)).seats st.conds.waits (put_if st.threads.records st.threads.next (keep_if b (option_map (created_by st.threads.next maker) a)))
created_lives st false rank maker a h e l = l
created_lives st true rank maker None h e l = absurd (false≢true (h refl))
created_lives st true rank maker (Some x) h e l = λ u n. ap is_living (get_put st.threads.records st.threads.next u (created_by st.threads.next maker x)) ∙ new_lives st rank maker x u (eqb st.threads.next u) refl l n

value_has : (ths : Threads) (o : Option Attr) → is_value (create_reply ths o) ≡ true → is_some o ≡ true
value_has ths None e = absurd (cc)
value_has ths (Some a) e = refl

calm_there : (y : Status) → y ≡ Calm → y ≡ Absent → ⊥
calm_there y e f = absurd (cc)

creates_live : (s : Script) (st : State) (t : Tid) (v : Var) (a : Option NameId) (routine : NameId) (e : Expr) (ns : List ℤ) → status_of st st.threads.next ≡ Absent → Lives st → Lives (answered s st t (dce.Create v a routine e) ns).state
unfolding answered
creates_live s st t v a routine e ns n l =
    let c : ThreadsReply = threads.create st.threads t a in
    created_lives st (is_value c.reply) (rank_at c.threads) (record_at st.threads t) (attr_at st.threads a) (value_has st.threads (attr_at st.threads a)) n l

other_live : (s : Script) (st : State) (t : Tid) (call : DceCall) (ns : List ℤ) → IsNoCreation call → IsCalling st t.0 → Lives st → Lives (answered s st t call ns).state
other_live s st t call ns i k l = goes_living st (answered s st t call ns).state t.0 _ (calm_there (status_of st t.0) k.caller.calm) (answered_goes s st t ns k call i) (answered_living s st t call ns) l

pub answered_lives : (s : Script) (st : State) (t : Tid) (call : DceCall) (ns : List ℤ) → IsCalling st t.0 → status_of st st.threads.next ≡ Absent → Lives st → Lives (answered s st t call ns).state
answered_lives s st t (dce.Create v a routine e) ns k n l = creates_live s st t v a routine e ns n l
answered_lives s st t call ns k n l = other_live s st t call ns tt k l

-- ---- a thread that ends

seat_stays : (ts : List Tid) (rank : Tid → ℕ) (rs : Rows) (t : ℕ) → AllLines (λ (w : Tid). eqb w.0 t ≡ false) ts → get (make_all_ready rank rs ts).seats t ≡ get rs.seats t
unfolding make_all_ready
seat_stays [] rank rs t h = refl
seat_stays (w ∷ ts) rank rs t h =
    let seat : Seat = record { rank = rank w; place = Stands row.Ready (take_out rs w).rows.next_arrival } in
    seat_stays ts rank (make_ready rank (take_out rs w).rows w) t h.1
    ∙ with_put_cut (is_in_row (seat_of rs w)) rs.seats w.0 seat t ∙ ap (λ b. cond b (Some seat) (get rs.seats t)) h.0

differs : (st : State) (t w : ℕ) (b : Bool) → eqb w t ≡ b → status_of st t ≡ Calm → status_of st w ≡ Waiting → b ≡ false
differs st t w true e c i = absurd (clash (status_of st t) c (sym (ap (status_of st) (eqb-true w t e)) ∙ i))
  where
    clash : (y : Status) → y ≡ Calm → y ≡ Waiting → ⊥
    clash y e f = absurd (cc)
differs st t w false e c i = refl

-- The seat of the thread that ends is still its own when those that wait for its end are ready.
own_seat : (st : State) (t : Tid) → IsCalling st t.0 → get (free_row (rank_of st) st.rows (row.Join t)).rows.seats t.0 ≡ get st.rows.seats t.0
own_seat st t k =
    seat_stays (best_first st.rows (row.Join t)) (rank_of st) st.rows t.0
    (all_map (λ (w : Tid). row_at (get st.rows.seats w.0) ≡ Some (row.Join t)) (λ (w : Tid). eqb w.0 t.0 ≡ false)
    (λ w e. differs st t.0 w.0 (eqb w.0 t.0) refl k.caller.calm (elsewhere st.debts st.rows.seats st.conds.waits w.0 (row.Join t) k.none_astray e refl refl).waits) (best_first st.rows (row.Join t)) (all_stand st.rows (row.Join t) k.sorted))

ended_records : (ths : Threads) (t : Tid) (v : ℤ) (o : Option Thread) (u : ℕ) → eqb t.0 u ≡ false → is_living (get ths.records u) ≡ true → is_living (get (records_ended ths t v o) u) ≡ true
ended_records ths t v None u n l = l
ended_records ths t v (Some th) u n l = either th.detached
  where
    either : (b : Bool) → is_living (get (if b then cut ths.records t.0 else put ths.records t.0 (as_ended v th)) u) ≡ true
    either true = ap is_living (get_cut ths.records t.0 u ∙ ap (λ b. cond b None (get ths.records u)) n) ∙ l
    either false = ap is_living (get_put ths.records t.0 u (as_ended v th) ∙ ap (λ b. cond b (Some (as_ended v th)) (get ths.records u)) n) ∙ l

pub ended_lives : (st : State) (t : Tid) (d : Table Debt) (s : Table Seat) (v : ℤ) → GoesTo st t.0 Absent (record st { debts = d; rows = record { seats = s; next_arrival = 0 } }) → Lives st → LivesIn d s st.conds.waits (set_ended st.threads t v).records
ended_lives st t d s v h l u n = either (eqb t.0 u) refl
  where
    either : (b : Bool) → eqb t.0 u ≡ b → is_living (get (records_ended st.threads t v (record_at st.threads t)) u) ≡ true
    either true e = absurd (n (h u ∙ ap (λ b. cond b Absent (status_of st u)) e))
    either false e = ended_records st.threads t v (record_at st.threads t) u e (l u (λ i. n (h u ∙ ap (λ b. cond b Absent (status_of st u)) e ∙ i)))

pub runs_still : (st : State) (t : Tid) (x : Seat) → IsCalling st t.0 → get st.rows.seats t.0 ≡ Some x → row_in x.place ≡ None → is_running (seat_of (free_row (rank_of st) st.rows (row.Join t)).rows t) ≡ true
runs_still st t x k e r = ap is_running (own_seat st t k ∙ e) ∙ ap is_none r
