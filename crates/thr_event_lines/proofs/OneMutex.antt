-- In every history all threads that wait on a condition wait there with one mutex.
use Rattle.std.proofs.Common.{◌≡◌, ℕ, ℤ, ◌+ℤ◌, Bool, true, false, not, ◌&&◌, ◌||◌, cond, eqb, List, [], ◌∷◌, Option, Some, None, refl, sym, arith, ◌∙◌, ap, subst}
use Rattle.std.proofs.lemmas.Bool.{false≢true}
use Rattle.std.proofs.lemmas.Bool.Decides.{nat_tests}
use Rattle.std.specs.Prelude.{if◌then◌else◌, int_le}
use Rattle.std.specs.List.{list_any}
use Rattle.std.specs.Option.{unwrap_or}
use Rattle.thr_values.specs.declared.number.NameId.{NameId}
use Rattle.thr_values.specs.declared.number.Tid.{Tid}
use Rattle.thr_values.specs.declared.reply.Effect.TheVariants as effect
use Rattle.thr_values.specs.declared.reply.Reply.{Reply}
use Rattle.thr_values.specs.declared.reply.Reply.TheVariants as reply
use Rattle.thr_syntax.specs.declared.dce.DceCall.{DceCall}
use Rattle.thr_syntax.specs.declared.dce.DceCall.TheVariants as dce
use Rattle.thr_syntax.specs.declared.tree.Script.{Script}
use Rattle.thr_parts.specs.declared.wait.Wait.{Wait}
use Rattle.thr_parts.specs.declared.wait.Wait.TheVariants.{Cond, Delay}
use Rattle.thr_parts.specs.Tables.{Table, none, get, has, put, put_if, cut, keep_if}
use Rattle.thr_parts.specs.Replies.{is_blocks}
use Rattle.thr_parts.specs.Rows.{Rows, thread}
use Rattle.thr_parts.specs.Threads.{ThreadsReply, natural}
use Rattle.thr_parts.specs.Cancels.{waits_at_point}
use Rattle.thr_parts.specs.Cancels as cancels
use Rattle.thr_parts.specs.Mutexes.{Locks, owner}
use Rattle.thr_parts.specs.Locking.{is_held_by, is_last, unlock}
use Rattle.thr_parts.specs.Conditions.{Conds, wait_of, is_on, is_with, waits_otherwise, owner_reply, wait_reply, wait, timedwait_reply, timedwait, delay_reply}
use Rattle.thr_parts.specs.Waking.{waits_without, thread_in, mutex_with, pull_out, resume, wake_all, Signalled, signal}
use Rattle.thr_parts.specs.Expiry.{due_first}
use Rattle.thr_parts.specs.OnceBlocks as once
use Rattle.thr_parts.specs.Pipes.{read, write}
use Rattle.thr_parts.proofs.EachLaws.{Each}
use Rattle.thr_parts.proofs.EntryLaws.{itself, get_cons, get_empty}
use Rattle.thr_parts.proofs.TableLaws.{get_none, get_put, get_cut}
use Rattle.thr_model.specs.States.{State, rank_of}
use Rattle.thr_model.specs.Calls.{answered, cancelled, given_state, signals_one, woken_state, first}
use Rattle.thr_model.specs.Turns.{handed_on}
use Rattle.thr_model.specs.Histories.{Execution, History}
use Rattle.thr_waiting.proofs.EventsKept.{IsKeptByEvents, history_kept}

-- ---- two waits

-- If both are on one condition, they are there with one mutex.
abbrev pub Agree : Wait → Wait → Type 0
Agree (Cond c m until) (Cond d k time) = c ≡ d → m ≡ k
Agree (Cond c m until) (Delay time) = Unit {0}
Agree (Delay until) w = Unit {0}

agree_itself : (w : Wait) → Agree w w
agree_itself (Cond c m until) = λ e. refl
agree_itself (Delay until) = tt

agree_turned : (v w : Wait) → Agree v w → Agree w v
agree_turned (Cond c m until) (Cond d k time) h = λ e. sym (h (sym e))
agree_turned (Cond c m until) (Delay time) h = tt
agree_turned (Delay until) (Cond d k time) h = tt
agree_turned (Delay until) (Delay time) h = tt

-- Each two waits of the table agree.
abbrev pub AllAgree : Table Wait → Type 0
AllAgree waits = (t u : ℕ) (v w : Wait) → get waits t ≡ Some v → get waits u ≡ Some w → Agree v w

-- ---- tables of waits

none_agree : AllAgree none
none_agree t u v w e f = absurd (cc (get_none {A = Wait} t))

cut_had : (b : Bool) (o : Option Wait) (v : Wait) → cond b None o ≡ Some v → o ≡ Some v
cut_had true o v e = absurd (cc)
cut_had false o v e = e

cut_agree : (waits : Table Wait) (k : ℕ) → AllAgree waits → AllAgree (cut waits k)
cut_agree waits k h t u v w e f = h t u v w (cut_had (eqb k t) (get waits t) v (sym (get_cut waits k t) ∙ e)) (cut_had (eqb k u) (get waits u) w (sym (get_cut waits k u) ∙ f))

the_same : (v w : Wait) → Some v ≡ Some w → v ≡ w
the_same v w e = ap (λ o. unwrap_or o v) e

put_pair : (x v w : Wait) (a b : Bool) (o p : Option Wait) → (o ≡ Some v → p ≡ Some w → Agree v w) → (o ≡ Some v → Agree x v) → (p ≡ Some w → Agree x w)
    → cond a (Some x) o ≡ Some v → cond b (Some x) p ≡ Some w → Agree v w
put_pair x v w true true o p h i j e f = subst (λ y. Agree y w) (the_same x v e) (subst (Agree x) (the_same x w f) (agree_itself x))
put_pair x v w true false o p h i j e f = subst (λ y. Agree y w) (the_same x v e) (j f)
put_pair x v w false true o p h i j e f = subst (Agree v) (the_same x w f) (agree_turned x v (i e))
put_pair x v w false false o p h i j e f = h e f

put_agree : (waits : Table Wait) (k : ℕ) (x : Wait) → Each (Agree x) waits → AllAgree waits → AllAgree (put waits k x)
put_agree waits k x here h t u v w e f =
    put_pair x v w (eqb k t) (eqb k u) (get waits t) (get waits u) (h t u v w) (here t v) (here u w) (sym (get_put waits k t x) ∙ e) (sym (get_put waits k u x) ∙ f)

-- A wait that begins, or doesn't.
begun_agree : (waits : Table Wait) (k : ℕ) (b : Bool) (x : Wait) → (b ≡ true → Each (Agree x) waits) → AllAgree waits → AllAgree (put_if waits k (keep_if b (Some x)))
begun_agree waits k true x here h = put_agree waits k x (here refl) h
begun_agree waits k false x here h = h

without_agree : (waits : Table Wait) (o : Option Tid) → AllAgree waits → AllAgree (waits_without waits o)
without_agree waits None h = h
without_agree waits (Some t) h = cut_agree waits t.0 h

woken_agree : (rank : Tid → ℕ) (cs : Conds) (ls : Locks) (rs : Rows) (ts : List Tid) → AllAgree cs.waits → AllAgree (wake_all rank cs ls rs ts).conds.waits
unfolding wake_all
woken_agree rank cs ls rs [] h = h
woken_agree rank cs ls rs (t ∷ ts) h =
    let out : Rows = (pull_out cs rs t).rows in
    woken_agree rank (pull_out cs rs t).conds (resume rank ls out t (mutex_with cs t)).locks (resume rank ls out t (mutex_with cs t)).rows ts (without_agree cs.waits _ h)

-- ---- waits that begin

neither : (a b : Bool) → (a || b) ≡ false → (a ≡ false) × (b ≡ false)
neither true b e = absurd (cc)
neither false b e = (refl, e)

there_not : (test : Wait → Bool) (x w : Wait) (b : Bool) (o : Option Wait) → test x ≡ false → (o ≡ Some w → test w ≡ false) → cond b (Some x) o ≡ Some w → test w ≡ false
there_not test x w true o here rest e = subst (λ y. test y ≡ false) (the_same x w e) here
there_not test x w false o here rest e = rest e

-- No wait of the table passes the test.
not_any : (test : Wait → Bool) (waits : Table Wait) → list_any (λ (e : ℕ × Wait). test e.1) waits ≡ false → Each (λ w. test w ≡ false) waits
not_any test [] h = λ q w e. absurd (cc (get_empty {A = Wait} q))
not_any test (x ∷ waits) h =
    let parts : (test x.1 ≡ false) × (list_any (λ (e : ℕ × Wait). test e.1) waits ≡ false) = neither _ _ h in
    λ q w e. there_not test x.1 w (eqb x.0 q) (get waits q) parts.0 (not_any test waits parts.1 q w) (sym (get_cons x waits q) ∙ e)

same_number : (x y : ℕ) → eqb x y ≡ true → x ≡ y
same_number x y e = grind (arith, nat_tests)

same_name : (a b : NameId) → eqb a.0 b.0 ≡ true → a ≡ b
same_name a b e = ap (λ (n : ℕ). let m : NameId = record { 0 = n } in m) (same_number a.0 b.0 e)

not_other : (a b : Bool) → (a && not b) ≡ false → a ≡ true → b ≡ true
not_other true true e is = refl
not_other true false e is = absurd (false≢true (sym e))
not_other false b e is = absurd (false≢true is)

not_otherwise : (c m : NameId) (until : Option ℤ) (w : Wait) → (is_on c w && not (is_with m w)) ≡ false → Agree (Cond c m until) w
not_otherwise c m until (Cond d k time) e = λ is. same_name m k (not_other (eqb c.0 d.0) (eqb m.0 k.0) e (subst (λ (x : NameId). eqb c.0 x.0 ≡ true) is (itself c.0)))
not_otherwise c m until (Delay time) e = tt

right_alone : (made held last other : Bool) → is_blocks (if made then owner_reply held (last && not other) else reply.Einval) ≡ true → other ≡ false
right_alone false held last other e = absurd (false≢true e)
right_alone true false last other e = absurd (false≢true e)
right_alone true true false other e = absurd (false≢true e)
right_alone true true true true e = absurd (false≢true e)
right_alone true true true false e = refl

timed_blocks : (said : Reply) (past : Bool) → is_blocks (timedwait_reply said past) ≡ true → is_blocks said ≡ true
timed_blocks reply.Blocks past e = refl
timed_blocks _ past e = absurd (false≢true e)

-- Where a wait begins, those on its condition are there with its mutex.
wait_agrees : (cs : Conds) (ls : Locks) (c m : NameId) (t : Tid) (until : Option ℤ) → is_blocks (wait_reply cs ls c m t) ≡ true → Each (Agree (Cond c m until)) cs.waits
wait_agrees cs ls c m t until e =
    let alone : waits_otherwise cs c m ≡ false = right_alone (has cs.made c.0 && has ls.mutexes m.0) (is_held_by (owner ls (Some m)) t) (is_last (owner ls (Some m))) (waits_otherwise cs c m) e in
    λ q w at. not_otherwise c m until w (not_any (λ (x : Wait). is_on c x && not (is_with m x)) cs.waits alone q w at)

delay_agrees : (waits : Table Wait) (time : ℤ) → Each (Agree (Delay time)) waits
delay_agrees waits time q w e = tt

-- ---- calls

abbrev HasOne : State → Type 0
HasOne st = AllAgree st.conds.waits

cancelled_one : (st : State) (w : Tid) (o : ThreadsReply) (y : Reply) → HasOne st → HasOne (cancelled st w o y).state
cancelled_one st w o (reply.Effect effect.Wakes) h = without_agree st.conds.waits _ h
cancelled_one st w o (reply.Effect _) h = h
cancelled_one st w o _ h = h

given_one : (st : State) (rs : Rows) (o : Option Tid) → HasOne st → HasOne (given_state st rs o)
given_one st rs None h = h
given_one st rs (Some w) h = h

ready_one : (st : State) (rs : Rows) (y : Reply) (o : Option Tid) → HasOne st → HasOne (woken_state st rs y o)
ready_one st rs y None h = h
ready_one st rs y (Some w) h = h

signals_one_left : (st : State) (o : Signalled) (w : Option (Tid × NameId)) → AllAgree o.conds.waits → HasOne (signals_one st o w).state
signals_one_left st o None h = h
signals_one_left st o (Some w) h = h

handed_one : (st : State) (o : once.Undone) (w : Option Tid) → HasOne st → HasOne (handed_on st o w)
handed_one st o None h = h
handed_one st o (Some w) h = h

module _ (s : Script) (st : State) (t : Tid) (ns : List ℤ) (h : HasOne st) where
  answered_one : (call : DceCall) → HasOne (answered s st t call ns).state
  unfolding answered
  answered_one (dce.Cancel e) =
      let who : Tid = thread (natural (first ns)) in
      let o : ThreadsReply = cancels.cancel st.threads (first ns) (waits_at_point st.rows who) in cancelled_one st who o o.reply h
  answered_one (dce.DelayNp e) = begun_agree st.conds.waits t.0 (is_blocks (delay_reply (first ns) st.clock)) (Delay (st.clock +ℤ first ns)) (λ b. delay_agrees st.conds.waits (st.clock +ℤ first ns)) h
  answered_one (dce.MutexUnlock m) = let o = unlock st.locks st.rows (Some m) t in given_one (record st { locks = o.locks }) o.rows o.given h
  answered_one dce.UnlockGlobalNp = let o = unlock st.locks st.rows None t in given_one (record st { locks = o.locks }) o.rows o.given h
  answered_one (dce.CondWait c m) =
      let o = wait st.conds st.locks st.rows c m t (rank_of st t) in
      given_one (record st { conds = o.conds; locks = o.locks }) o.rows o.given
      (begun_agree st.conds.waits t.0 (is_blocks (wait_reply st.conds st.locks c m t)) (Cond c m None) (wait_agrees st.conds st.locks c m t None) h)
  answered_one (dce.CondTimedwait c m e) =
      let o = timedwait st.conds st.locks st.rows c m (first ns) st.clock t (rank_of st t) in
      let past : Bool = int_le (first ns) st.clock in
      given_one (record st { conds = o.conds; locks = o.locks }) o.rows o.given
      (begun_agree st.conds.waits t.0 (is_blocks (timedwait_reply (wait_reply st.conds st.locks c m t) past)) (Cond c m (Some (first ns)))
      (λ b. wait_agrees st.conds st.locks c m t (Some (first ns)) (timed_blocks (wait_reply st.conds st.locks c m t) past b)) h)
  answered_one (dce.CondSignal c) = let o : Signalled = signal st.conds st.rows c in signals_one_left st o o.waiter (without_agree st.conds.waits (thread_in o.waiter) h)
  answered_one (dce.CondBroadcast c) = woken_agree (rank_of st) st.conds st.locks st.rows _ h
  answered_one (dce.Read p v w) = let o = read st.pipes st.rows p t (rank_of st t) in ready_one (record st { pipes = o.pipes }) o.rows reply.Done o.relieved h
  answered_one (dce.Write p e) = let o = write st.pipes st.rows p (first ns) t (rank_of st t) in ready_one (record st { pipes = o.pipes }) o.rows (reply.Value (first ns)) o.reader h
  answered_one _ = h

-- ---- histories

abbrev Anything : Script → State → Type 0
Anything s st = Unit {0}

abbrev OneEach : Script → State → Type 0
OneEach s st = HasOne st

abbrev Turning : Script → Tid → State → Type 0
Turning s t st = HasOne st

one_by_events : IsKeptByEvents Anything OneEach Turning
one_by_events = record {
  opens = λ s. none_agree;
  begins = λ s st t i run h. h;
  pays = λ s st t h. h;
  calls = λ s st t call ns i c h. answered_one s st t ns h call;
  stores = λ s st t shared h. h;
  delivers = λ s st t i run h. h;
  undoes = λ s st t block i run h. let o : once.Undone = once.undone st.onces st.rows block in handed_one st o o.runner h;
  completes = λ s st t block i run h. h;
  destroys = λ s st t onces h. h;
  moves = λ s st t r h. h;
  ends = λ s st t v i run e h. h;
  keeps = λ s st t fifo h. h;
  takes = λ s st p i h. h;
  passes = λ s st now i h. woken_agree (rank_of st) st.conds st.locks st.rows (due_first st.conds st.rows now) h;
}

pub history_agrees : {s : Script} {n : ℕ} {x : Execution} → History s n x → AllAgree x.state.conds.waits
history_agrees {s} {n} {x} h = history_kept Anything OneEach Turning one_by_events (λ y k. tt) h

pub one_mutex : (cs : Conds) → AllAgree cs.waits → (t u : Tid) (c m k : NameId) (until time : Option ℤ) → wait_of cs t ≡ Some (Cond c m until) → wait_of cs u ≡ Some (Cond c k time) → m ≡ k
one_mutex cs h t u c m k until time e f = h t.0 u.0 (Cond c m until) (Cond c k time) e f refl

pub history_one : {s : Script} {n : ℕ} {x : Execution} → History s n x → (t u : Tid) (c m k : NameId) (until time : Option ℤ)
    → wait_of x.state.conds t ≡ Some (Cond c m until) → wait_of x.state.conds u ≡ Some (Cond c k time) → m ≡ k
history_one {x = x} h t u c m k until time e f = one_mutex x.state.conds (history_agrees h) t u c m k until time e f
