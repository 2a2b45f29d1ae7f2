-- In every history of a script that keeps the rules the mutexes with which threads wait on conditions are names of the script.
use Rattle.std.proofs.Common.{◌≡◌, ℕ, zero, suc, ◌≤◌, ◌<◌, ℤ, Bool, true, false, List, [], ◌∷◌, length, Option, Some, None, arith, refl, subst}
use Rattle.std.specs.Prelude.{IfSome, int_le}
use Rattle.std.specs.Option.{option_and_then}
use Rattle.thr_values.specs.declared.number.NameId.{NameId}
use Rattle.thr_values.specs.declared.number.Tid.{Tid}
use Rattle.thr_values.specs.declared.reply.Effect.TheVariants as effect
use Rattle.thr_values.specs.declared.reply.Reply.{Reply}
use Rattle.thr_values.specs.declared.reply.Reply.TheVariants as reply
use Rattle.thr_syntax.specs.declared.dce.DceCall.{DceCall}
use Rattle.thr_syntax.specs.declared.dce.DceCall.TheVariants as dce
use Rattle.thr_syntax.specs.declared.form.Form.{Form}
use Rattle.thr_syntax.specs.declared.form.Form.TheVariants as form
use Rattle.thr_syntax.specs.declared.tree.Script.{Script}
use Rattle.thr_syntax.specs.Lines.{lines_of}
use Rattle.thr_text.specs.declared.object.Object.{Object}
use Rattle.thr_text.specs.declared.object.Object.TheVariants as object
use Rattle.thr_text.specs.Reading.{Formed}
use Rattle.thr_remainder.specs.Remainders.{Remainder, place_in}
use Rattle.thr_remainder.proofs.StepsKept.{IsNextCall}
use Rattle.thr_parts.specs.declared.wait.Wait.{Wait}
use Rattle.thr_parts.specs.declared.wait.Wait.TheVariants.{Cond, Delay}
use Rattle.thr_parts.specs.Tables.{Table, names, get, keep_if}
use Rattle.thr_parts.specs.Replies.{is_blocks}
use Rattle.thr_parts.specs.Rows.{Rows, thread}
use Rattle.thr_parts.specs.Threads.{ThreadsReply, natural}
use Rattle.thr_parts.specs.Cancels.{waits_at_point}
use Rattle.thr_parts.specs.Cancels as cancels
use Rattle.thr_parts.specs.Mutexes.{Locks}
use Rattle.thr_parts.specs.Locking.{unlock}
use Rattle.thr_parts.specs.Conditions.{Conds, mutex_of, wait_reply, wait, timedwait_reply, timedwait, delay_reply}
use Rattle.thr_parts.specs.Waking.{waits_without, thread_in, mutex_with, pull_out, resume, wake_all, Signalled, signal}
use Rattle.thr_parts.specs.Expiry.{due_first}
use Rattle.thr_parts.specs.OnceBlocks as once
use Rattle.thr_parts.specs.Pipes.{read, write}
use Rattle.thr_parts.proofs.EachLaws.{Each, IfThere, each_none, each_put_if, each_cut, if_there}
use Rattle.thr_laws.specs.CallsOnce.{form_at}
use Rattle.thr_model.specs.States.{State, rank_of}
use Rattle.thr_model.specs.Calls.{answered, cancelled, given_state, signals_one, woken_state, first}
use Rattle.thr_model.specs.Turns.{handed_on}
use Rattle.thr_model.specs.Histories.{Execution, History}
use Rattle.thr_answers.specs.Standing.{StandsIn}
use Rattle.thr_answers.proofs.CallLines.{stands_as}
use Rattle.thr_answers.proofs.StepsStand.{IsSpot, IsPlace, place_stands}
use Rattle.thr_trees.specs.Kinds.{is_name_of}
use Rattle.thr_trees.specs.Names.{named_in, named_in_call, AreOfKinds, IsNamed, locals_at}
use Rattle.thr_trees.proofs.KindsAgree.{HasNames, has_names, named_is_known}
use Rattle.thr_trees.proofs.LinesNamed.{line_is_named}
use Rattle.thr_waiting.proofs.EventsKept.{IsKeptByEvents, history_kept}

-- ---- the names of a call

at_line : (s : Script) → Formed s → (line : ℕ) (f : Form) → form_at s line ≡ Some f → AreOfKinds s (named_in f)
at_line s h zero f e = absurd (cc)
at_line s h (suc n) f e = let x : IsNamed s (locals_at s n) f = line_is_named s h n f e in x.named

-- The names of a call that is next are of the kinds that their places ask.
next_named : (s : Script) → Formed s → (r : Remainder) (call : DceCall) → StandsIn s r → IsNextCall r call → AreOfKinds s (named_in_call call)
next_named s h r call k i =
    let here : IsPlace (lines_of s) (place_in r.items) = place_stands (lines_of s) r.items k.items in
    let spot : IsSpot (lines_of s) i.spot = subst (IsPlace (lines_of s)) i.here here in
    at_line s h i.spot.line (form.Dce call) (stands_as s i.spot.line i.spot.stmt i.spot.rest call spot.here i.asks)

-- And they are few.
name_fits : (s : Script) → Formed s → (kind : Object) (m : NameId) → is_name_of s kind m ≡ true → m.0 < names
name_fits s h kind m e =
    let all : HasNames s = has_names s h in
    let few : length s.names ≤ 1010 = all.few in
    let below : m.0 < length s.names = (named_is_known s all kind m e).below in omega (arith, few, below)

-- ---- waits

-- The mutex of a wait on a condition fits tables by names.
abbrev IsFit : Wait → Type 0
IsFit (Cond c m until) = m.0 < names
IsFit (Delay until) = Unit {0}

abbrev AreFit : Conds → Type 0
AreFit cs = Each IsFit cs.waits

begun_fit : (b : Bool) (w : Wait) → IsFit w → IfThere IsFit (keep_if b (Some w))
begun_fit true w h = h
begun_fit false w h = tt

without_fit : (m : Table Wait) (o : Option Tid) → Each IsFit m → Each IsFit (waits_without m o)
without_fit m None h = h
without_fit m (Some t) h = each_cut IsFit m t.0 h

woken_fit : (rank : Tid → ℕ) (cs : Conds) (ls : Locks) (rs : Rows) (ts : List Tid) → AreFit cs → AreFit (wake_all rank cs ls rs ts).conds
unfolding wake_all
woken_fit rank cs ls rs [] h = h
woken_fit rank cs ls rs (t ∷ ts) h =
    let out : Rows = (pull_out cs rs t).rows in
    woken_fit rank (pull_out cs rs t).conds (resume rank ls out t (mutex_with cs t)).locks (resume rank ls out t (mutex_with cs t)).rows ts (without_fit cs.waits _ h)

-- ---- calls

cancelled_fit : (st : State) (w : Tid) (o : ThreadsReply) (y : Reply) → AreFit st.conds → AreFit (cancelled st w o y).state.conds
cancelled_fit st w o (reply.Effect effect.Wakes) h = without_fit st.conds.waits _ h
cancelled_fit st w o (reply.Effect _) h = h
cancelled_fit st w o _ h = h

given_fit : (st : State) (rs : Rows) (o : Option Tid) → AreFit st.conds → AreFit (given_state st rs o).conds
given_fit st rs None h = h
given_fit st rs (Some w) h = h

ready_fit : (st : State) (rs : Rows) (y : Reply) (o : Option Tid) → AreFit st.conds → AreFit (woken_state st rs y o).conds
ready_fit st rs y None h = h
ready_fit st rs y (Some w) h = h

signals_fit : (st : State) (o : Signalled) (w : Option (Tid × NameId)) → AreFit o.conds → AreFit (signals_one st o w).state.conds
signals_fit st o None h = h
signals_fit st o (Some w) h = h

handed_fit : (st : State) (o : once.Undone) (w : Option Tid) → AreFit st.conds → AreFit (handed_on st o w).conds
handed_fit st o None h = h
handed_fit st o (Some w) h = h

module _ (s : Script) (formed : Formed s) (st : State) (t : Tid) (ns : List ℤ) (fit : AreFit st.conds) where
  answered_fit : (call : DceCall) → AreOfKinds s (named_in_call call) → AreFit (answered s st t call ns).state.conds
  unfolding answered
  answered_fit (dce.Cancel e) k =
      let who : Tid = thread (natural (first ns)) in
      let o : ThreadsReply = cancels.cancel st.threads (first ns) (waits_at_point st.rows who) in cancelled_fit st who o o.reply fit
  answered_fit (dce.DelayNp e) k = each_put_if IsFit st.conds.waits t.0 _ (begun_fit (is_blocks (delay_reply (first ns) st.clock)) (Delay _) tt) fit
  answered_fit (dce.MutexUnlock m) k = let o = unlock st.locks st.rows (Some m) t in given_fit (record st { locks = o.locks }) o.rows o.given fit
  answered_fit dce.UnlockGlobalNp k = let o = unlock st.locks st.rows None t in given_fit (record st { locks = o.locks }) o.rows o.given fit
  answered_fit (dce.CondWait c m) k =
      let o = wait st.conds st.locks st.rows c m t (rank_of st t) in
      given_fit (record st { conds = o.conds; locks = o.locks }) o.rows o.given
      (each_put_if IsFit st.conds.waits t.0 _ (begun_fit (is_blocks (wait_reply st.conds st.locks c m t)) (Cond c m None) (name_fits s formed object.Mutex m k.1.0)) fit)
  answered_fit (dce.CondTimedwait c m e) k =
      let o = timedwait st.conds st.locks st.rows c m (first ns) st.clock t (rank_of st t) in
      given_fit (record st { conds = o.conds; locks = o.locks }) o.rows o.given
      (each_put_if IsFit st.conds.waits t.0 _
      (begun_fit (is_blocks (timedwait_reply (wait_reply st.conds st.locks c m t) (int_le (first ns) st.clock))) (Cond c m (Some (first ns))) (name_fits s formed object.Mutex m k.1.0)) fit)
  answered_fit (dce.CondSignal c) k = let o : Signalled = signal st.conds st.rows c in signals_fit st o o.waiter (without_fit st.conds.waits (thread_in o.waiter) fit)
  answered_fit (dce.CondBroadcast c) k = woken_fit (rank_of st) st.conds st.locks st.rows _ fit
  answered_fit (dce.Read p v w) k = let o = read st.pipes st.rows p t (rank_of st t) in ready_fit (record st { pipes = o.pipes }) o.rows reply.Done o.relieved fit
  answered_fit (dce.Write p e) k = let o = write st.pipes st.rows p (first ns) t (rank_of st t) in ready_fit (record st { pipes = o.pipes }) o.rows (reply.Value (first ns)) o.reader fit
  answered_fit _ k = fit

-- ---- histories

abbrev Anything : Script → State → Type 0
Anything s st = Unit {0}

abbrev Fitting : Script → State → Type 0
Fitting s st = Formed s → AreFit st.conds

abbrev Turning : Script → Tid → State → Type 0
Turning s t st = Formed s → AreFit st.conds

fit_by_events : IsKeptByEvents Anything Fitting Turning
fit_by_events = record {
  opens = λ s formed. each_none IsFit;
  begins = λ s st t i run h. h;
  pays = λ s st t h. h;
  calls = λ s st t call ns i c h formed. answered_fit s formed st t ns (h formed) call (next_named s formed c.rest call c.stands c.next);
  stores = λ s st t shared h. h;
  delivers = λ s st t i run h. h;
  undoes = λ s st t block i run h formed. let o : once.Undone = once.undone st.onces st.rows block in handed_fit st o o.runner (h formed);
  completes = λ s st t block i run h. h;
  destroys = λ s st t onces h. h;
  moves = λ s st t r h. h;
  ends = λ s st t v i run e h. h;
  keeps = λ s st t fifo h. h;
  takes = λ s st p i h. h;
  passes = λ s st now i h formed. woken_fit (rank_of st) st.conds st.locks st.rows (due_first st.conds st.rows now) (h formed);
}

mutex_fits : (o : Option Wait) → IfThere IsFit o → IfSome (option_and_then mutex_of o) (λ m. m.0 < names)
mutex_fits None h = tt
mutex_fits (Some (Cond c m until)) h = h
mutex_fits (Some (Delay until)) h = tt

pub history_named : {s : Script} {n : ℕ} {x : Execution} → Formed s → History s n x → (t : Tid) → IfSome (mutex_with x.state.conds t) (λ m. m.0 < names)
history_named {s} {n} {x} formed h t =
    mutex_fits (get x.state.conds.waits t.0)
    (if_there IsFit x.state.conds.waits t.0 (get x.state.conds.waits t.0) refl (history_kept Anything Fitting Turning fit_by_events (λ y k. tt) h formed))
