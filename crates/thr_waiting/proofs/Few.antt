-- In every history there are few records of threads.
use Rattle.std.proofs.Common.{◌≡◌, ℕ, suc, ◌≤◌, ℤ, pos, negsuc, Bool, true, false, cond, eqb, nat_lt, List, ◌∷◌, length, Option, Some, None, arith, refl, sym, ◌∙◌, ap}
use Rattle.std.proofs.lemmas.Bool.{false≢true}
use Rattle.std.proofs.lemmas.Bool.Decides.{nat_tests}
use Rattle.std.specs.Prelude.{if◌then◌else◌}
use Rattle.std.specs.Option.{option_map, is_some}
use Rattle.thr_values.specs.declared.number.NameId.{NameId}
use Rattle.thr_values.specs.declared.number.Tid.{Tid}
use Rattle.thr_values.specs.declared.reply.Effect.TheVariants as effect
use Rattle.thr_values.specs.declared.reply.Reply.{Reply}
use Rattle.thr_values.specs.declared.reply.Reply.TheVariants as reply
use Rattle.thr_values.specs.declared.scheduling.Mode.{Mode}
use Rattle.thr_syntax.specs.declared.dce.DceCall.{DceCall}
use Rattle.thr_syntax.specs.declared.dce.DceCall.TheVariants as dce
use Rattle.thr_syntax.specs.declared.tree.Script.{Script}
use Rattle.thr_parts.specs.declared.thread.Attr.{Attr}
use Rattle.thr_parts.specs.declared.thread.Thread.{Thread}
use Rattle.thr_parts.specs.Tables.{Table, none, get, put, put_if, cut, keep_if, IsCanonical}
use Rattle.thr_parts.specs.Replies.{is_value}
use Rattle.thr_parts.specs.Rows.{Rows, thread, most}
use Rattle.thr_parts.specs.Threads.{Threads, ThreadsReply, natural, record_of, record_at, attr_at, created_by, create_reply, records_detached, as_detached, set_ended, records_ended, as_ended}
use Rattle.thr_parts.specs.Scheduling.{with_prio, with_policy, is_prio}
use Rattle.thr_parts.specs.Cancels.{waits_at_point, deliver, set_mode, with_mode, as_pending, is_marked}
use Rattle.thr_parts.specs.Cancels as cancels
use Rattle.thr_parts.specs.Locking.{unlock}
use Rattle.thr_parts.specs.Conditions.{wait, timedwait}
use Rattle.thr_parts.specs.Waking.{Signalled, signal}
use Rattle.thr_parts.specs.OnceBlocks as once
use Rattle.thr_parts.specs.Pipes.{read, write}
use Rattle.thr_parts.proofs.EntryLaws.{get_cons}
use Rattle.thr_parts.proofs.LengthLaws.{not_longer}
use Rattle.thr_parts.proofs.TableLaws.{canonical_put, canonical_cut, canonical_none, get_put, get_cut, has_get}
use Rattle.thr_model.specs.States.{State, rank_of}
use Rattle.thr_model.specs.Calls.{answered, cancelled, given_state, signals_one, woken_state, first, second}
use Rattle.thr_model.specs.Turns.{handed_on}
use Rattle.thr_model.specs.Histories.{Execution, History}
use Rattle.thr_answers.proofs.StatusMoves.{with_put}
use Rattle.thr_answers.proofs.StatusCalls.{IsNoCreation}
use Rattle.thr_waiting.proofs.EventsKept.{IsKeptByEvents, history_kept}
use Rattle.thr_waiting.proofs.SeatsStay.{there_with}

-- ---- tables

-- The one table isn't longer than the other.
abbrev NoLonger : {A B : Type 0} → Table A → Table B → Type 0
NoLonger m n = length m ≤ length n

put_more : {A : Type 0} (m : Table A) (k : ℕ) (v : A) → IsCanonical m → length (put m k v) ≤ suc (length m)
put_more m k v h =
    not_longer (put m k v) ((k, v) ∷ m) (canonical_put m k v h)
    (λ q is. has_get ((k, v) ∷ m) q ∙ ap is_some (get_cons (k, v) m q ∙ sym (get_put m k q v)) ∙ sym (has_get (put m k v) q) ∙ is)

put_again : {A : Type 0} (m : Table A) (k : ℕ) (v : A) → IsCanonical m → is_some (get m k) ≡ true → NoLonger (put m k v) m
put_again m k v h here =
    not_longer (put m k v) m (canonical_put m k v h)
    (λ q is. has_get m q ∙ sym (there_with m (put m k v) k v (with_put m k v) here q) ∙ sym (has_get (put m k v) q) ∙ is)

was_there : {A : Type 0} (b : Bool) (o : Option A) → is_some (cond b None o) ≡ true → is_some o ≡ true
was_there true o e = absurd (false≢true e)
was_there false o e = e

cut_less : {A : Type 0} (m : Table A) (k : ℕ) → IsCanonical m → NoLonger (cut m k) m
cut_less m k h =
    not_longer (cut m k) m (canonical_cut m k h)
    (λ q is. has_get m q ∙ was_there (eqb k q) (get m q) (sym (ap is_some (get_cut m k q)) ∙ sym (has_get (cut m k) q) ∙ is))

same_length : {A : Type 0} (m : Table A) → NoLonger m m
same_length m = omega arith

changed_again : {A : Type 0} (m : Table A) (k : ℕ) (b : Bool) (f : A → A) (o : Option A) → IsCanonical m → get m k ≡ o → NoLonger (put_if m k (keep_if b (option_map f o))) m
changed_again m k true f None h e = same_length m
changed_again m k true f (Some x) h e = put_again m k (f x) h (ap is_some e)
changed_again m k false f o h e = same_length m

-- ---- records

-- The record of the thread that a number names.
target_again : (ths : Threads) (target : ℤ) (b : Bool) (f : Thread → Thread) → IsCanonical ths.records → NoLonger (put_if ths.records (natural target) (keep_if b (option_map f (record_of ths target)))) ths.records
target_again ths (pos n) b f h = changed_again ths.records n b f (get ths.records n) h refl
target_again ths (negsuc n) true f h = same_length ths.records
target_again ths (negsuc n) false f h = same_length ths.records

mode_again : (ths : Threads) (t : Tid) (m : Mode) → IsCanonical ths.records → NoLonger (set_mode ths t m).records ths.records
mode_again ths t m h = changed_again ths.records t.0 true (with_mode m) (get ths.records t.0) h refl

either_again : (m : Table Thread) (k : ℕ) (th : Thread) (b : Bool) → IsCanonical m → is_some (get m k) ≡ true → NoLonger (if b then cut m k else put m k th) m
either_again m k th true h here = cut_less m k h
either_again m k th false h here = put_again m k th h here

detached_again : (ths : Threads) (n : ℕ) (th : Thread) (a : Bool) → IsCanonical ths.records → get ths.records n ≡ Some th
    → NoLonger (if a then ths.records else (if is_some th.ended then cut ths.records n else put ths.records n (as_detached th))) ths.records
detached_again ths n th true h e = same_length ths.records
detached_again ths n th false h e = either_again ths.records n (as_detached th) (is_some th.ended) h (ap is_some e)

detach_at : (ths : Threads) (n : ℕ) (o : Option Thread) → IsCanonical ths.records → get ths.records n ≡ o → NoLonger (records_detached ths (pos n) o) ths.records
detach_at ths n None h e = same_length ths.records
detach_at ths n (Some th) h e = detached_again ths n th th.detached h e

detach_again : (ths : Threads) (target : ℤ) → IsCanonical ths.records → NoLonger (records_detached ths target (record_of ths target)) ths.records
detach_again ths (pos n) h = detach_at ths n (get ths.records n) h refl
detach_again ths (negsuc n) h = same_length ths.records

ended_again : (ths : Threads) (t : Tid) (v : ℤ) (o : Option Thread) → IsCanonical ths.records → get ths.records t.0 ≡ o → NoLonger (records_ended ths t v o) ths.records
ended_again ths t v None h e = same_length ths.records
ended_again ths t v (Some th) h e = either_again ths.records t.0 (as_ended v th) th.detached h (ap is_some e)

-- ---- creations

-- There are few of them.
abbrev AreFew : Table Thread → Type 0
AreFew m = length m ≤ most

no_more : (m n : Table Thread) → NoLonger m n → AreFew n → AreFew m
no_more m n h k = omega (arith, h, k)

room_left : (n : ℕ) → nat_lt n most ≡ true → suc n ≤ most
room_left n e = grind (arith, nat_tests)

created_few : (m : Table Thread) (next : ℕ) (th : Thread) (v : ℤ) (b : Bool) → nat_lt (length m) most ≡ b → IsCanonical m → AreFew m
    → AreFew (put_if m next (keep_if (is_value (if b then reply.Value v else reply.Eagain)) (Some th)))
created_few m next th v true e h k =
    let more : length (put m next th) ≤ suc (length m) = put_more m next th h in
    let room : suc (length m) ≤ most = room_left (length m) e in omega (arith, more, room)
created_few m next th v false e h k = k

create_few : (ths : Threads) (maker : Option Thread) (o : Option Attr) → IsCanonical ths.records → AreFew ths.records
    → AreFew (put_if ths.records ths.next (keep_if (is_value (create_reply ths o)) (option_map (created_by ths.next maker) o)))
create_few ths maker None h k = k
create_few ths maker (Some a) h k = created_few ths.records ths.next (created_by ths.next maker a) (pos ths.next) (nat_lt (length ths.records) most) refl h k

-- ---- calls

cancelled_again : (st : State) (w : Tid) (o : ThreadsReply) (y : Reply) → NoLonger o.threads.records st.threads.records → NoLonger (cancelled st w o y).state.threads.records st.threads.records
cancelled_again st w o (reply.Effect effect.Wakes) h = h
cancelled_again st w o (reply.Effect _) h = h
cancelled_again st w o _ h = h

given_again : (st : State) (rs : Rows) (o : Option Tid) → NoLonger (given_state st rs o).threads.records st.threads.records
given_again st rs None = same_length st.threads.records
given_again st rs (Some t) = same_length st.threads.records

signals_again : (st : State) (o : Signalled) (w : Option (Tid × NameId)) → NoLonger (signals_one st o w).state.threads.records st.threads.records
signals_again st o None = same_length st.threads.records
signals_again st o (Some w) = same_length st.threads.records

woken_again : (st : State) (rs : Rows) (y : Reply) (o : Option Tid) → NoLonger (woken_state st rs y o).threads.records st.threads.records
woken_again st rs y None = same_length st.threads.records
woken_again st rs y (Some t) = same_length st.threads.records

answered_again : (s : Script) (st : State) (t : Tid) (call : DceCall) (ns : List ℤ) → IsNoCreation call → IsCanonical st.threads.records → NoLonger (answered s st t call ns).state.threads.records st.threads.records
unfolding answered
answered_again s st t (dce.Create v a routine e) ns i h = absurd i
answered_again s st t (dce.Detach e) ns i h = detach_again st.threads (first ns) h
answered_again s st t (dce.Setcancel on v) ns i h = mode_again st.threads t _ h
answered_again s st t (dce.Setasynccancel on v) ns i h = mode_again st.threads t _ h
answered_again s st t (dce.Setprio e f v) ns i h = target_again st.threads (first ns) (is_prio (second ns)) (with_prio (second ns)) h
answered_again s st t (dce.Setscheduler e policy f v) ns i h = target_again st.threads (first ns) (is_prio (second ns)) (with_policy policy (second ns)) h
answered_again s st t (dce.Cancel e) ns i h =
    let who : Tid = thread (natural (first ns)) in
    let o : ThreadsReply = cancels.cancel st.threads (first ns) (waits_at_point st.rows who) in
    cancelled_again st who o o.reply (target_again st.threads (first ns) (is_marked (record_of st.threads (first ns)) (waits_at_point st.rows who)) as_pending h)
answered_again s st t (dce.MutexUnlock m) ns i h = let o = unlock st.locks st.rows (Some m) t in given_again (record st { locks = o.locks }) o.rows o.given
answered_again s st t dce.UnlockGlobalNp ns i h = let o = unlock st.locks st.rows None t in given_again (record st { locks = o.locks }) o.rows o.given
answered_again s st t (dce.CondWait c m) ns i h =
    let o = wait st.conds st.locks st.rows c m t (rank_of st t) in given_again (record st { conds = o.conds; locks = o.locks }) o.rows o.given
answered_again s st t (dce.CondTimedwait c m e) ns i h =
    let o = timedwait st.conds st.locks st.rows c m (first ns) st.clock t (rank_of st t) in given_again (record st { conds = o.conds; locks = o.locks }) o.rows o.given
answered_again s st t (dce.CondSignal c) ns i h = let o : Signalled = signal st.conds st.rows c in signals_again st o o.waiter
answered_again s st t (dce.Read p v w) ns i h = let o = read st.pipes st.rows p t (rank_of st t) in woken_again (record st { pipes = o.pipes }) o.rows reply.Done o.relieved
answered_again s st t (dce.Write p e) ns i h = let o = write st.pipes st.rows p (first ns) t (rank_of st t) in woken_again (record st { pipes = o.pipes }) o.rows (reply.Value (first ns)) o.reader
answered_again s st t _ ns i h = same_length st.threads.records

answered_few : (s : Script) (st : State) (t : Tid) (call : DceCall) (ns : List ℤ) → IsCanonical st.threads.records → AreFew st.threads.records → AreFew (answered s st t call ns).state.threads.records
unfolding answered
answered_few s st t (dce.Create v a routine e) ns h k = create_few st.threads (record_at st.threads t) (attr_at st.threads a) h k
answered_few s st t call ns h k = no_more (answered s st t call ns).state.threads.records st.threads.records (answered_again s st t call ns tt h) k

handed_again : (st : State) (o : once.Undone) (w : Option Tid) → NoLonger (handed_on st o w).threads.records st.threads.records
handed_again st o None = same_length st.threads.records
handed_again st o (Some w) = same_length st.threads.records

-- ---- histories

abbrev Anything : Script → State → Type 0
Anything s st = Unit {0}

abbrev Few : Script → State → Type 0
Few s st = AreFew st.threads.records

abbrev Turning : Script → Tid → State → Type 0
Turning s t st = AreFew st.threads.records

first_few : (v : Thread) → AreFew (put none 1 v)
unfolding none
first_few v = let more : length (put none 1 v) ≤ 1 = put_more none 1 v (canonical_none Thread) in omega (arith, more)

few_by_events : IsKeptByEvents Anything Few Turning
few_by_events = record {
  opens = λ s. first_few _;
  begins = λ s st t i run h. h;
  pays = λ s st t h. h;
  calls = λ s st t call ns i c h. answered_few s st t call ns i.tables.records h;
  stores = λ s st t shared h. h;
  delivers = λ s st t i run h. no_more (deliver st.threads t).records st.threads.records (mode_again st.threads t _ i.tables.records) h;
  undoes = λ s st t block i run h.
      let o : once.Undone = once.undone st.onces st.rows block in no_more (handed_on st o o.runner).threads.records st.threads.records (handed_again st o o.runner) h;
  completes = λ s st t block i run h. h;
  destroys = λ s st t onces h. h;
  moves = λ s st t r h. h;
  ends = λ s st t v i run e h. no_more (set_ended st.threads t v).records st.threads.records (ended_again st.threads t v (record_at st.threads t) i.tables.records refl) h;
  keeps = λ s st t fifo h. h;
  takes = λ s st p i h. h;
  passes = λ s st now i h. h;
}

pub history_few : {s : Script} {n : ℕ} {x : Execution} → History s n x → length x.state.threads.records ≤ most
history_few {s} {n} {x} h = history_kept Anything Few Turning few_by_events (λ y k. tt) h
