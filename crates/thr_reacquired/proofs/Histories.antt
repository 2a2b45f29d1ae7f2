-- In every history a thread whose last line is a wait on a condition has the wait, stands in the mutex's row, or owns the mutex.
use Rattle.std.proofs.Common.{◌≡◌, ℕ, ℤ, Bool, true, false, eqb, List, [], ◌∷◌, ◌++◌, Option, Some, None, refl, sym, ap, ◌∙◌, subst, nat_lt}
use Rattle.std.proofs.lemmas.Bool.{eqb-true, false≢true}
use Rattle.std.specs.Prelude.{if◌then◌else◌, is_some, unwrap_or, length}
use Rattle.std.specs.Option.{option_map, option_and_then}
use Rattle.thr_values.specs.declared.number.Tid.{Tid}
use Rattle.thr_values.specs.declared.number.NameId.{NameId}
use Rattle.thr_values.specs.declared.call.Arg.{Arg}
use Rattle.thr_values.specs.declared.call.Arg.TheVariants as arg
use Rattle.thr_values.specs.declared.call.CallWord.{CallWord}
use Rattle.thr_values.specs.declared.call.CallWord.TheVariants as word
use Rattle.thr_values.specs.declared.event.Event.{Event}
use Rattle.thr_values.specs.declared.event.Event.TheVariants as event
use Rattle.thr_values.specs.declared.event.Stop.{Stop}
use Rattle.thr_values.specs.declared.history.Entry.{Entry}
use Rattle.thr_values.specs.declared.history.What.{What}
use Rattle.thr_values.specs.declared.history.What.TheVariants as what
use Rattle.thr_values.specs.declared.reply.Reply.TheVariants as reply
use Rattle.thr_syntax.specs.declared.tree.Script.{Script}
use Rattle.thr_parts.specs.declared.mutex.Held.{Held}
use Rattle.thr_parts.specs.declared.wait.Wait.{Wait}
use Rattle.thr_parts.specs.Tables.{get}
use Rattle.thr_parts.specs.Rows.{thread}
use Rattle.thr_parts.specs.Locking.{is_held_by}
use Rattle.thr_parts.specs.Dispatch.{dispatch, running, some_can_run}
use Rattle.thr_parts.specs.Conditions.{mutex_of}
use Rattle.thr_parts.specs.Expiry.{earliest}
use Rattle.thr_parts.specs.Mutexes as parts
use Rattle.thr_laws.specs.Lines.{is_some_line, is_waiting_call}
use Rattle.thr_laws.specs.Known.{known, known_at_first}
use Rattle.thr_laws.specs.Owners.{Lock, use_blocked, is_owner}
use Rattle.thr_laws.specs.CancelLaw.{CancelLaw, gives_up, is_wait_with, waits_end_with_the_mutex}
use Rattle.thr_model.specs.States.{State, opening, debt_of}
use Rattle.thr_model.specs.Turns.{Made, turn_of}
use Rattle.thr_model.specs.Events.{dispatch_made, clock_to, clock_of, made_by}
use Rattle.thr_model.specs.Histories.{Execution, after_event, History, opened, then_event, Legal, stop_at}
use Rattle.thr_model.proofs.RowsKept.{history_canonical}
use Rattle.thr_model.proofs.Legality.{of-legal}
use Rattle.thr_answers.specs.Statuses.{is_waiting}
use Rattle.thr_answers.proofs.StatusTurns.{HasRun, has_run, calls_calmly}
use Rattle.thr_answers.proofs.AnswerTurns.{Agrees, agrees}
use Rattle.thr_answers.proofs.AnswerReading.{IsSilent, after_append, silent_last, gifts_silent}
use Rattle.thr_owners.specs.Told.{as_told}
use Rattle.thr_owners.proofs.Owning.{one-owner, owner-told}
use Rattle.thr_cancels.proofs.AtOnceTurns.{turn_silent}
use Rattle.thr_cancels.proofs.MutexLines.{HasBack, WaitersRegain, no_last, history_mutexes, cancel_law}
use Rattle.thr_cancels.proofs.MutexLines as lines
use Rattle.thr_reacquired.specs.Waiters.{Has, stands, owns}
use Rattle.thr_reacquired.specs.Waiters as has
use Rattle.thr_reacquired.proofs.InRows.{dispatch_stays}
use Rattle.thr_reacquired.proofs.CallsKeep.{Awaits, in_wait, in_row, HasAt, as_has, same_has}
use Rattle.thr_reacquired.proofs.TurnsKeep.{turn_has, clock_has}
use Rattle.thr_reacquired.proofs.OwnersStay.{lines_keep}
use Rattle.thr_reacquired.proofs.OwnTurns.{turn_ends}

-- Where the thread's last line is a wait with the mutex, the thread has the wait, stands in the mutex's row, or owns the mutex.
abbrev pub Regains : ℕ → NameId → State → List Entry → Type 0
Regains u m st entries = is_some_line (is_wait_with (Some m)) (known u entries).last ≡ true → HasAt u m st

-- A wait with a mutex is a call that waits.
wait_waits : (lock : Lock) (o : Option What) → is_some_line (is_wait_with lock) o ≡ true → is_some_line is_waiting_call o ≡ true
wait_waits lock o e = either (is_some_line is_waiting_call o) refl
  where
    either : (b : Bool) → is_some_line is_waiting_call o ≡ b → is_some_line is_waiting_call o ≡ true
    either true i = i
    either false i = absurd (false≢true (sym (no_last lock o i) ∙ e))

-- ---- owners in the state

owner_is : (o : Option Held) (u : ℕ) → is_owner u (as_told o) ≡ is_held_by o (thread u)
owner_is None u = refl
owner_is (Some h) u = refl

-- From one history to that with one event more a thread keeps the locks that it owns, where it does nothing of its own in the
-- lines of the event.
owner_stays : {s : Script} {n : ℕ} {x : Execution} (u : ℕ) (lock : Lock) (e : Event) (made : Made) → History s n x → History s n (after_event x e made)
    → IsSilent u made.lines → is_held_by (parts.owner x.state.locks lock) (thread u) ≡ true → is_held_by (parts.owner made.state.locks lock) (thread u) ≡ true
owner_stays {x = x} u lock e made h longer q i =
    sym (owner_is (parts.owner made.state.locks lock) u) ∙ sym (ap (is_owner u) (owner-told longer lock))
    ∙ lines_keep u lock x.entries made.lines ((one-owner longer).one lock) q (ap (is_owner u) (owner-told h lock) ∙ owner_is (parts.owner x.state.locks lock) u ∙ i)

-- ---- one event more

module _ {s : Script} {n : ℕ} {x : Execution} (h : History s n x) (goes : stop_at s x.state (length x.entries) ≡ None) (m : NameId) (back : (u : ℕ) → Regains u m x.state x.entries) where
  -- The thread does nothing of its own, and where it waited with the mutex it has what it needs.
  record LetsBe (u : ℕ) (made : Made) : Type 0 where
    silent : IsSilent u made.lines
    leaves : Awaits u m x.state.conds x.state.rows → HasAt u m made.state

  still : (u : ℕ) (e : Event) (made : Made) → made_by s n x.state e ≡ Some made → LetsBe u made → Regains u m made.state (x.entries ++ made.lines)
  still u e made is l w = by (back u (sym (ap (is_some_line (is_wait_with (Some m))) same) ∙ w))
    where
      same : (known u (x.entries ++ made.lines)).last ≡ (known u x.entries).last
      same = ap (λ k. k.last) (after_append u known_at_first x.entries made.lines) ∙ silent_last u (known u x.entries) made.lines l.silent

      by : HasAt u m x.state → HasAt u m made.state
      by (has.waits i) = l.leaves (in_wait i)
      by (stands i) = l.leaves (in_row i)
      by (owns i) = owns (owner_stays u (Some m) e made h (then_event h goes e made is) l.silent i)

  own : (t : Tid) (e : Event) → made_by s n x.state e ≡ Some (turn_of s x.state t) → HasRun x.state t.0 → Regains t.0 m (turn_of s x.state t).state (x.entries ++ (turn_of s x.state t).lines)
  own t e is run w =
      let a : Agrees s x.state x.entries = agrees h in
      let after : Agrees s (turn_of s x.state t).state (x.entries ++ (turn_of s x.state t).lines) = agrees (then_event h goes e (turn_of s x.state t) is) in
      has.waits (turn_ends s x.state t m (known t.0 x.entries) run a.order (λ d. calls_calmly x.state t.0 run a.order (history_canonical h) d)
      (λ d. a.waiting t.0 ∙ ap is_waiting (calls_calmly x.state t.0 run a.order (history_canonical h) d).caller.calm)
      (sym (ap (λ k. is_some_line (is_wait_with (Some m)) k.last) (after_append t.0 known_at_first x.entries (turn_of s x.state t).lines)) ∙ w)
      (sym (after.waiting t.0) ∙ wait_waits (Some m) (known t.0 (x.entries ++ (turn_of s x.state t).lines)).last w))

  lets_be : (t : Tid) (u : ℕ) → eqb t.0 u ≡ false → LetsBe u (turn_of s x.state t)
  unfolding turn_of
  lets_be t u e = record { silent = turn_silent s x.state t u e (debt_of x.state t); leaves = λ k. turn_has s x.state t u m e (history_canonical h) (agrees h).order k }

  turn_next : (t : Tid) (u : ℕ) (e : Event) (b : Bool) → eqb t.0 u ≡ b → made_by s n x.state e ≡ Some (turn_of s x.state t) → HasRun x.state t.0 → Regains u m (turn_of s x.state t).state (x.entries ++ (turn_of s x.state t).lines)
  turn_next t u e true i is run = subst (λ q. Regains q m (turn_of s x.state t).state (x.entries ++ (turn_of s x.state t).lines)) (eqb-true t.0 u i) (own t e is run)
  turn_next t u e false i is run = still u e (turn_of s x.state t) is (lets_be t u i)

  -- What an event makes, told again.
  made_again : (e : Event) (o : Option Made) (now made : Made) → made_by s n x.state e ≡ o → o ≡ Some made → o ≡ Some now → (made_by s n x.state e ≡ Some now) × (now ≡ made)
  made_again e o now made i j k = (i ∙ k, ap (λ o. unwrap_or o now) (sym k ∙ j))

  turn_at : (u : ℕ) (e : Event) (p : ℕ) (o : Option Tid) (made : Made) → running x.state.rows p ≡ o → made_by s n x.state e ≡ option_map (turn_of s x.state) o → option_map (turn_of s x.state) o ≡ Some made → Regains u m made.state (x.entries ++ made.lines)
  turn_at u e p None made at is f = absurd (cc)
  turn_at u e p (Some t) made at is f =
      let y : (made_by s n x.state e ≡ Some (turn_of s x.state t)) × (turn_of s x.state t ≡ made) = made_again e (Some (turn_of s x.state t)) (turn_of s x.state t) made is f refl in
      subst (λ (o : Made). Regains u m o.state (x.entries ++ o.lines)) y.1 (turn_next t u e (eqb t.0 u) refl y.0 (has_run x.state p t (history_canonical h) at))

  dispatch_be : (u p : ℕ) (o : Option Tid) (made : Made) → dispatch_made x.state p (dispatch x.state.rows p) o ≡ Some made → LetsBe u made
  dispatch_be u p None made f = absurd (cc)
  dispatch_be u p (Some t) made f =
      subst (LetsBe u) (ap (λ o. unwrap_or o made) f) (record {
        silent = (refl, tt);
        leaves = λ k. same_has u m x.state.conds x.state.conds x.state.locks x.state.rows (dispatch x.state.rows p).rows refl (dispatch_stays u m x.state.rows p (history_canonical h)) k;
      })

  dispatch_if_be : (u p : ℕ) (b : Bool) (made : Made) → (if b then dispatch_made x.state p (dispatch x.state.rows p) (dispatch x.state.rows p).taken else None) ≡ Some made → LetsBe u made
  dispatch_if_be u p true made f = dispatch_be u p (dispatch x.state.rows p).taken made f
  dispatch_if_be u p false made f = absurd (cc)

  clock_at_be : (u : ℕ) (o : Option ℤ) (made : Made) → option_map (clock_to x.state) o ≡ Some made → LetsBe u made
  clock_at_be u None made f = absurd (cc)
  clock_at_be u (Some now) made f =
      subst (LetsBe u) (ap (λ o. unwrap_or o made) f) (record {
        silent = (refl, gifts_silent u _);
        leaves = λ k. clock_has x.state now u m (history_canonical h) (agrees h).order (as_has u m x.state.conds x.state.locks x.state.rows k);
      })

  clock_be : (u : ℕ) (b : Bool) (made : Made) → clock_of b x.state ≡ Some made → LetsBe u made
  clock_be u true made f = absurd (cc)
  clock_be u false made f = clock_at_be u (earliest x.state.conds) made f

  next_regains : (u : ℕ) (e : Event) (made : Made) → made_by s n x.state e ≡ Some made → Regains u m made.state (x.entries ++ made.lines)
  unfolding made_by
  next_regains u (event.Dispatch p) made is = still u (event.Dispatch p) made is (dispatch_if_be u p (nat_lt p n) made is)
  next_regains u (event.Turn p) made is = turn_at u (event.Turn p) p (running x.state.rows p) made refl refl is
  next_regains u event.Clock made is = still u event.Clock made is (clock_be u (some_can_run x.state.rows) made is)

-- ---- histories

first_regains : (s : Script) (u : ℕ) (m : NameId) → Regains u m (opening s) []
first_regains s u m e = absurd (false≢true e)

pub history_regains : {s : Script} {n : ℕ} {x : Execution} (m : NameId) → History s n x → (u : ℕ) → Regains u m x.state x.entries
history_regains {s} m opened u = first_regains s u m
history_regains m (then_event h goes e made is) u = next_regains h goes m (λ q. history_regains m h q) u e made is

-- ---- the law

-- No wait gives the global lock up.
blocked_gives : (c : CallWord) (args : List Arg) → gives_up None (use_blocked c args) ≡ false
blocked_gives word.CondWait (c ∷ arg.Name m ∷ args) = refl
blocked_gives word.CondWait _ = refl
blocked_gives word.CondTimedwait (c ∷ arg.Name m ∷ args) = refl
blocked_gives word.CondTimedwait _ = refl
blocked_gives _ args = refl

no_global : (o : Option What) → is_some_line (is_wait_with None) o ≡ false
no_global (Some (what.Call c args reply.Blocks)) = blocked_gives c args
no_global (Some (what.Call c args y)) = no_last None (Some (what.Call c args y)) refl
no_global (Some w) = no_last None (Some w) refl
no_global None = refl

wait_there : (o : Option Wait) (m : NameId) → option_and_then mutex_of o ≡ Some m → is_some o ≡ true
wait_there None m e = absurd (cc)
wait_there (Some w) m e = refl

as_back : (u : ℕ) (m : NameId) (st : State) → HasAt u m st → HasBack u (Some m) st
as_back u m st (has.waits e) = lines.has_wait (wait_there (get st.conds.waits u) m e)
as_back u m st (stands e) = lines.stands (ap is_some e)
as_back u m st (owns e) = lines.owns (owner_is (parts.owner st.locks (Some m)) u ∙ e)

-- In every history those that wait with a lock have the wait, stand in a row, or own the lock.
pub waiters_regain : (s : Script) (n : ℕ) (lock : Lock) → WaitersRegain s n lock
waiters_regain s n None x h u e = absurd (false≢true (sym (no_global (known u x.entries).last) ∙ e))
waiters_regain s n (Some m) x h u e = as_back u m x.state (history_regains m h u e)

-- So each wait ends with the mutex.
pub ends_with_mutex : {s : Script} {n : ℕ} {x : Execution} → History s n x → (u : ℕ) (lock : Lock) → waits_end_with_the_mutex u lock x.entries ≡ true
ends_with_mutex {s} {n} h u lock = history_mutexes lock (waiters_regain s n lock) h u

-- And so it does in legal lines.
pub legal_ends_with_mutex : {s : Script} {n : ℕ} {entries : List Entry} {stop : Stop} → Legal s n entries stop → (u : ℕ) (lock : Lock) → waits_end_with_the_mutex u lock entries ≡ true
legal_ends_with_mutex legal u lock = of-legal (λ (es : List Entry). waits_end_with_the_mutex u lock es ≡ true) (λ x h. ends_with_mutex h u lock) legal

-- And cancels are delivered when they must and may be.
pub cancels_lawful : {s : Script} {n : ℕ} {entries : List Entry} {stop : Stop} → Legal s n entries stop → CancelLaw s entries
cancels_lawful {s} {n} legal = cancel_law (waiters_regain s n) legal
