-- What becomes of the cancelabilities and of the end in a thread's record.
use Rattle.std.proofs.Common.{◌≡◌, ℕ, ◌+◌, ℤ, pos, negsuc, Bool, true, false, cond, eqb, List, Option, Some, None, refl, sym, ◌∙◌, ap, arith}
use Rattle.std.proofs.lemmas.Bool.{eqb-true, false≢true}
use Rattle.std.proofs.lemmas.Bool.Decides.{nat_tests}
use Rattle.std.specs.Prelude.{if◌then◌else◌, is_some, is_none, nat_lt}
use Rattle.std.specs.Option.{option_map}
use Rattle.thr_values.specs.declared.number.NameId.{NameId}
use Rattle.thr_values.specs.declared.number.Tid.{Tid}
use Rattle.thr_values.specs.declared.reply.Reply.{Reply}
use Rattle.thr_values.specs.declared.reply.Reply.TheVariants as reply
use Rattle.thr_values.specs.declared.scheduling.Mode.{Mode}
use Rattle.thr_syntax.specs.declared.dce.DceCall.{DceCall}
use Rattle.thr_syntax.specs.declared.dce.DceCall.TheVariants as dce
use Rattle.thr_syntax.specs.declared.tree.Script.{Script}
use Rattle.thr_parts.specs.declared.thread.Attr.{Attr}
use Rattle.thr_parts.specs.declared.thread.Thread.{Thread}
use Rattle.thr_parts.specs.Tables.{Table, get, put, put_if, cut, keep_if}
use Rattle.thr_parts.specs.Replies.{is_value}
use Rattle.thr_parts.specs.Rows.{Rows}
use Rattle.thr_parts.specs.Threads.{Threads, new_mode, with_records, create_reply, created_by, as_detached, records_detached, detach}
use Rattle.thr_parts.specs.Scheduling.{change_record, getprio, getscheduler, with_prio, with_policy, is_prio}
use Rattle.thr_parts.proofs.TableLaws.{get_put, get_cut}
use Rattle.thr_model.specs.States.{State}
use Rattle.thr_model.specs.Calls.{answered, given_state, signals_one, woken_state, first, second}
use Rattle.thr_parts.specs.Locking.{unlock}
use Rattle.thr_parts.specs.Conditions.{wait, timedwait}
use Rattle.thr_parts.specs.Waking.{Signalled, signal}
use Rattle.thr_parts.specs.Pipes.{read, write}
use Rattle.thr_model.specs.States.{rank_of}

-- The cancelabilities, the mark and the end of a thread.
pub record Core : Type 0 where
  pub mode : Mode
  pub ended : Option ℤ

abbrev pub core_of : Thread → Core
core_of th = record { mode = th.mode; ended = th.ended }

-- Those of a record that is there.
abbrev pub core : Option Thread → Option Core
core None = None
core (Some th) = Some (core_of th)

-- The thread is there and has not ended.
abbrev pub is_alive : Option Core → Bool
is_alive None = false
is_alive (Some c) = is_none c.ended

abbrev pub new_core : Core
new_core = record { mode = new_mode; ended = None }

-- What becomes of a thread's record: it stays; it is reclaimed after the thread's end; or the thread is created.
pub data IsRecorded (u : ℕ) (ths ths' : Threads) : Type 0 where
  stays : core (get ths'.records u) ≡ core (get ths.records u) → nat_lt u ths'.next ≡ nat_lt u ths.next → IsRecorded u ths ths'
  reclaimed : (c : Core) → core (get ths.records u) ≡ Some c → is_alive (Some c) ≡ false → core (get ths'.records u) ≡ None → nat_lt u ths'.next ≡ nat_lt u ths.next → IsRecorded u ths ths'
  created : nat_lt u ths.next ≡ false → core (get ths'.records u) ≡ Some new_core → nat_lt u ths'.next ≡ true → IsRecorded u ths ths'

core_cond : (b : Bool) (x y : Option Thread) → core (cond b x y) ≡ cond b (core x) (core y)
core_cond true x y = refl
core_cond false x y = refl

cond_same : (b : Bool) (x y : Option Core) → (b ≡ true → x ≡ y) → cond b x y ≡ y
cond_same true x y e = e refl
cond_same false x y e = refl

-- A record that is put with the same core.
pub put_core : (m : Table Thread) (k u : ℕ) (th : Thread) → core (Some th) ≡ core (get m k) → core (get (put m k th) u) ≡ core (get m u)
put_core m k u th e =
    ap core (get_put m k u th) ∙ core_cond (eqb k u) (Some th) (get m u) ∙ cond_same (eqb k u) (core (Some th)) (core (get m u)) (λ f. e ∙ ap (λ q. core (get m q)) (eqb-true k u f))

pub put_core_other : (m : Table Thread) (k u : ℕ) (th : Thread) → eqb k u ≡ false → core (get (put m k th) u) ≡ core (get m u)
put_core_other m k u th e = ap core (get_put m k u th ∙ ap (λ b. cond b (Some th) (get m u)) e)

pub put_core_here : (m : Table Thread) (k u : ℕ) (th : Thread) → eqb k u ≡ true → core (get (put m k th) u) ≡ Some (core_of th)
put_core_here m k u th e = ap core (get_put m k u th ∙ ap (λ b. cond b (Some th) (get m u)) e)

-- ---- detach

cut_core : (ths : Threads) (k u : ℕ) (th : Thread) (b : Bool) → eqb k u ≡ b → get ths.records k ≡ Some th → is_some th.ended ≡ true → IsRecorded u ths (with_records ths (cut ths.records k))
cut_core ths k u th false e at over = stays (ap core (get_cut ths.records k u ∙ ap (λ b. cond b None (get ths.records u)) e)) refl
cut_core ths k u th true e at over =
    reclaimed (core_of th) (ap core (ap (get ths.records) (sym (eqb-true k u e)) ∙ at)) (gone th.ended over) (ap core (get_cut ths.records k u ∙ ap (λ b. cond b None (get ths.records u)) e)) refl
  where
    gone : (o : Option ℤ) → is_some o ≡ true → is_none o ≡ false
    gone None f = absurd (false≢true f)
    gone (Some v) f = refl

detached_if : (ths : Threads) (k u : ℕ) (th : Thread) (b c : Bool) → get ths.records k ≡ Some th → is_some th.ended ≡ c
    → IsRecorded u ths (with_records ths (if b then ths.records else (if c then cut ths.records k else put ths.records k (as_detached th))))
detached_if ths k u th true c at over = stays refl refl
detached_if ths k u th false true at over = cut_core ths k u th (eqb k u) refl at over
detached_if ths k u th false false at over = stays (put_core ths.records k u (as_detached th) (sym (ap core at))) refl

detach_by : (ths : Threads) (n u : ℕ) (o : Option Thread) → get ths.records n ≡ o → IsRecorded u ths (with_records ths (records_detached ths (pos n) o))
detach_by ths n u None at = stays refl refl
detach_by ths n u (Some th) at = detached_if ths n u th th.detached (is_some th.ended) at refl

pub detach_recorded : (ths : Threads) (target : ℤ) (u : ℕ) → IsRecorded u ths (detach ths target).threads
detach_recorded ths (pos n) u = detach_by ths n u (get ths.records n) refl
detach_recorded ths (negsuc n) u = stays refl refl

-- ---- priorities and policies

change_by : (ths : Threads) (n u : ℕ) (b : Bool) (change : Thread → Thread) (o : Option Thread) → ((th : Thread) → core_of (change th) ≡ core_of th) → get ths.records n ≡ o
    → IsRecorded u ths (with_records ths (put_if ths.records n (keep_if b (option_map change o))))
change_by ths n u true change None keeps at = stays refl refl
change_by ths n u false change None keeps at = stays refl refl
change_by ths n u false change (Some th) keeps at = stays refl refl
change_by ths n u true change (Some th) keeps at = stays (put_core ths.records n u (change th) (ap Some (keeps th) ∙ sym (ap core at))) refl

nothing_kept : (b : Bool) (m : Table Thread) (k u : ℕ) → core (get (put_if m k (keep_if b None)) u) ≡ core (get m u)
nothing_kept true m k u = refl
nothing_kept false m k u = refl

pub change_recorded : (ths : Threads) (target : ℤ) (b : Bool) (old : Reply) (change : Thread → Thread) (u : ℕ) → ((th : Thread) → core_of (change th) ≡ core_of th)
    → IsRecorded u ths (change_record ths target b old change).threads
change_recorded ths (pos n) b old change u keeps = change_by ths n u b change (get ths.records n) keeps refl
change_recorded ths (negsuc n) b old change u keeps = stays (nothing_kept b ths.records 0 u) refl

-- ---- create

next_apart : (next u : ℕ) → eqb next u ≡ false → nat_lt u (next + 1) ≡ nat_lt u next
next_apart next u e = grind (arith, nat_tests)

next_here : (next u : ℕ) → eqb next u ≡ true → nat_lt u (next + 1) ≡ true
next_here next u e = grind (arith, nat_tests)

pub not_yet : (next u : ℕ) → eqb next u ≡ true → nat_lt u next ≡ false
not_yet next u e = grind (arith, nat_tests)

-- The threads once this one was created, or not.
abbrev pub with_new : Threads → Bool → Option Thread → Threads
with_new ths b o = record { records = put_if ths.records ths.next (keep_if b o); next = if b then ths.next + 1 else ths.next; attrs = ths.attrs }

-- A record that is made has the new core.
abbrev pub IsNewRecord : Option Thread → Type 0
IsNewRecord None = ⊥
IsNewRecord (Some th) = core_of th ≡ new_core

pub with_new_recorded : (ths : Threads) (u : ℕ) (b here : Bool) (o : Option Thread) → eqb ths.next u ≡ here → (b ≡ true → IsNewRecord o) → IsRecorded u ths (with_new ths b o)
with_new_recorded ths u false here o e k = stays refl refl
with_new_recorded ths u true here None e k = absurd (k refl)
with_new_recorded ths u true false (Some th) e k = stays (put_core_other ths.records ths.next u th e) (next_apart ths.next u e)
with_new_recorded ths u true true (Some th) e k =
    created (not_yet ths.next u e) (put_core_here ths.records ths.next u th e ∙ ap Some (k refl)) (next_here ths.next u e)

pub new_record : (ths : Threads) (maker : Option Thread) (a : Option Attr) → is_value (create_reply ths a) ≡ true → IsNewRecord (option_map (created_by ths.next maker) a)
new_record ths maker None e = absurd (false≢true e)
new_record ths maker (Some a) e = refl

-- ---- calls

given_recorded : (st : State) (rs : Rows) (o : Option Tid) (u : ℕ) → IsRecorded u st.threads (given_state st rs o).threads
given_recorded st rs None u = stays refl refl
given_recorded st rs (Some k) u = stays refl refl

woken_recorded : (st : State) (rs : Rows) (y : Reply) (o : Option Tid) (u : ℕ) → IsRecorded u st.threads (woken_state st rs y o).threads
woken_recorded st rs y None u = stays refl refl
woken_recorded st rs y (Some k) u = stays refl refl

signals_recorded : (st : State) (o : Signalled) (w : Option (Tid × NameId)) (u : ℕ) → IsRecorded u st.threads (signals_one st o w).state.threads
signals_recorded st o None u = stays refl refl
signals_recorded st o (Some w) u = stays refl refl

abbrev pub changes_records : DceCall → Bool
changes_records (dce.Create v a routine e) = true
changes_records (dce.Cancel e) = true
changes_records (dce.Setcancel on v) = true
changes_records (dce.Setasynccancel on v) = true
changes_records _ = false

pub answered_recorded : (s : Script) (st : State) (t : Tid) (call : DceCall) (ns : List ℤ) (u : ℕ) → changes_records call ≡ false → IsRecorded u st.threads (answered s st t call ns).state.threads
unfolding answered
answered_recorded s st t (dce.Create v a routine e) ns u k = absurd (false≢true (sym k))
answered_recorded s st t (dce.Cancel e) ns u k = absurd (false≢true (sym k))
answered_recorded s st t (dce.Setcancel on v) ns u k = absurd (false≢true (sym k))
answered_recorded s st t (dce.Setasynccancel on v) ns u k = absurd (false≢true (sym k))
answered_recorded s st t (dce.Detach e) ns u k = detach_recorded st.threads (first ns) u
answered_recorded s st t (dce.Setprio e f v) ns u k = change_recorded st.threads (first ns) (is_prio (second ns)) (getprio st.threads (first ns)) (with_prio (second ns)) u (λ th. refl)
answered_recorded s st t (dce.Setscheduler e policy f v) ns u k = change_recorded st.threads (first ns) (is_prio (second ns)) (getscheduler st.threads (first ns)) (with_policy policy (second ns)) u (λ th. refl)
answered_recorded s st t (dce.MutexUnlock m) ns u k = let o = unlock st.locks st.rows (Some m) t in given_recorded (record st { locks = o.locks }) o.rows o.given u
answered_recorded s st t dce.UnlockGlobalNp ns u k = let o = unlock st.locks st.rows None t in given_recorded (record st { locks = o.locks }) o.rows o.given u
answered_recorded s st t (dce.CondWait c m) ns u k =
    let o = wait st.conds st.locks st.rows c m t (rank_of st t) in given_recorded (record st { conds = o.conds; locks = o.locks }) o.rows o.given u
answered_recorded s st t (dce.CondTimedwait c m e) ns u k =
    let o = timedwait st.conds st.locks st.rows c m (first ns) st.clock t (rank_of st t) in given_recorded (record st { conds = o.conds; locks = o.locks }) o.rows o.given u
answered_recorded s st t (dce.CondSignal c) ns u k = let o : Signalled = signal st.conds st.rows c in signals_recorded st o o.waiter u
answered_recorded s st t (dce.Read p v w) ns u k = let o = read st.pipes st.rows p t (rank_of st t) in woken_recorded (record st { pipes = o.pipes }) o.rows reply.Done o.relieved u
answered_recorded s st t (dce.Write p e) ns u k =
    let o = write st.pipes st.rows p (first ns) t (rank_of st t) in woken_recorded (record st { pipes = o.pipes }) o.rows (reply.Value (first ns)) o.reader u
answered_recorded s st t _ ns u k = stays refl refl
