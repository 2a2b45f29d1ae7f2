-- Signals, broadcasts and cancels by another thread: which waits on conditions they end, and what their threads then owe.
use Rattle.std.proofs.Common.{◌≡◌, ℕ, suc, Bool, true, false, cond, eqb, ◌==◌, List, Option, Some, None, refl, sym, ap, ◌∙◌, subst}
use Rattle.std.proofs.lemmas.Bool.{eqb-true, eq-eqb, false≢true}
use Rattle.std.specs.Prelude.{if◌then◌else◌, is_some, unwrap_or}
use Rattle.std.specs.Option.{option_map, option_and_then}
use Rattle.thr_values.specs.declared.number.NameId.{NameId}
use Rattle.thr_values.specs.declared.number.Tid.{Tid}
use Rattle.thr_values.specs.declared.reply.Effect.TheVariants as effect
use Rattle.thr_values.specs.declared.reply.Reply.{Reply}
use Rattle.thr_values.specs.declared.reply.Reply.TheVariants as reply
use Rattle.thr_parts.specs.declared.row.RowId.{RowId}
use Rattle.thr_parts.specs.declared.row.RowId.TheVariants as row
use Rattle.thr_parts.specs.declared.wait.Wait.{Wait}
use Rattle.thr_parts.specs.declared.wait.Wait.TheVariants.{Cond, Delay}
use Rattle.thr_parts.specs.Tables.{get, has, keep_if, IsCanonical}
use Rattle.thr_parts.specs.Rows.{thread, row_at, row_of, best, is_among}
use Rattle.thr_parts.specs.Moves.{put_in_row, take_out, take_out_if}
use Rattle.thr_parts.specs.Mutexes.{mutex_at}
use Rattle.thr_parts.specs.Locking.{is_free}
use Rattle.thr_parts.specs.Threads.{ThreadsReply}
use Rattle.thr_parts.specs.Cancels.{waits_at_point}
use Rattle.thr_parts.specs.Conditions.{wait_of, mutex_of}
use Rattle.thr_parts.specs.Waking.{beside_mutex, mutex_with, next_waiter, waits_without, some_if, thread_in, without_wait, signal, wake_all}
use Rattle.thr_parts.proofs.TableLaws.{get_put, get_cut}
use Rattle.thr_parts.proofs.RowLaws.{best_stands, nobody_stands}
use Rattle.thr_conds.specs.Agreement.{waiting_row, if_waiting, WaitsAgree}
use Rattle.thr_model.specs.States.{State, Debt, Return, Delivery, rank_of}
use Rattle.thr_model.specs.Calls.{signals_one, cancelled, notifies}
use Rattle.thr_cancels.proofs.Seats.{is_calm, calm_no_point, wakes_best, cancel_wait_moves}
use Rattle.thr_cancels.proofs.CallSeats.{signalled, point_seat}
use Rattle.thr_cancels.proofs.Owed.{out_free, woken_are}
use Rattle.thr_ports.specs.Signals.{Waiter, Elsewhere, StandsOn, SignalCame, TimeCame, CancelCame, stands_on, woken, has_left}
use Rattle.thr_ports.proofs.Resting.{standing, kept, debt_after, Knows, Rests, moved_calm, never_next, put_keeps, all_keep, all_owe_it, cut_elsewhere}
use Rattle.thr_ports.proofs.WokenWaits.{calm_row_if, resume_calm, woken_calm, others_calm, woken_wait, others_wait}

-- ---- who stands on a condition

same_name : (a b : NameId) → (a.0 == b.0) ≡ true → a ≡ b
same_name a b e = ap (λ (n : ℕ). let x : NameId = record { 0 = n } in x) (eqb-true a.0 b.0 e)

is_waiting_row : (r : Option RowId) (c : NameId) → if_waiting r ≡ Some (row.Cond c) → r ≡ Some (row.Cond c)
is_waiting_row (Some (row.Cond d)) c e = e
is_waiting_row (Some row.Time) c e = absurd (cc)
is_waiting_row (Some _) c e = absurd (cc)
is_waiting_row None c e = absurd (cc)

abbrev condition_in : RowId → NameId → NameId
condition_in (row.Cond d) c = d
condition_in _ c = c

-- By the row in which a thread stands it waits on the condition.
by_row : (o : Option Wait) (c : NameId) → option_map waiting_row o ≡ Some (row.Cond c) → stands_on c (standing o) ≡ true
by_row None c e = absurd (cc)
by_row (Some (Delay until)) c e = absurd (cc)
by_row (Some (Cond d m until)) c e =
    eq-eqb c.0 d.0 (sym (ap (λ (o : Option RowId). (condition_in (unwrap_or o (row.Cond c)) c).0) e))

-- And by its wait it stands in the row.
to_row : (o : Option Wait) (r : Option RowId) (c : NameId) → option_map waiting_row o ≡ if_waiting r → stands_on c (standing o) ≡ true → r ≡ Some (row.Cond c)
to_row None r c e h = absurd (false≢true h)
to_row (Some (Delay until)) r c e h = absurd (false≢true h)
to_row (Some (Cond d m until)) r c e h =
    is_waiting_row r c (sym e ∙ ap (λ (n : NameId). let o : Option RowId = Some (row.Cond n) in o) (sym (same_name c d h)))

kept_stands : (w : Waiter) (c : NameId) → stands_on c (kept w) ≡ stands_on c w
kept_stands Elsewhere c = refl
kept_stands (StandsOn d until) c = refl
kept_stands SignalCame c = refl
kept_stands TimeCame c = refl
kept_stands CancelCame c = refl

module _ (u : ℕ) (w : Waiter) (st : State) (knows : Knows u w st) (agree : WaitsAgree st.conds st.rows) where
  told_stands : (c : NameId) → stands_on c w ≡ stands_on c (standing (get st.conds.waits u))
  told_stands c = sym (kept_stands w c) ∙ ap (stands_on c) (sym knows.waits)

  pub row_stands : (c : NameId) → row_at (get st.rows.seats u) ≡ Some (row.Cond c) → stands_on c w ≡ true
  row_stands c e = told_stands c ∙ by_row (get st.conds.waits u) c (agree.same (thread u) ∙ ap if_waiting e)

  pub stands_row : (c : NameId) → stands_on c w ≡ true → row_at (get st.rows.seats u) ≡ Some (row.Cond c)
  stands_row c h = to_row (get st.conds.waits u) (row_at (get st.rows.seats u)) c (agree.same (thread u)) (sym (told_stands c) ∙ h)

-- ---- signals

has_mutex : (o : Option Wait) (c : NameId) → option_map waiting_row o ≡ Some (row.Cond c) → option_and_then mutex_of o ≡ None → ⊥
has_mutex None c e n = absurd (cc)
has_mutex (Some (Delay until)) c e n = absurd (cc)
has_mutex (Some (Cond d m until)) c e n = absurd (cc)

no_pair : (k : Tid) (m : Option NameId) → option_map {U = Tid × NameId} (λ (n : NameId). (k, n)) m ≡ None → m ≡ None
no_pair k None e = refl
no_pair k (Some n) e = absurd (cc)

module _ (st : State) (c : NameId) (agree : WaitsAgree st.conds st.rows) (sorted : IsCanonical st.rows.seats) where
  no_best_then : (o : Option Tid) → best st.rows (row.Cond c) ≡ o → option_and_then (beside_mutex st.conds) o ≡ None → o ≡ None
  no_best_then None is e = refl
  no_best_then (Some k) is e =
      absurd (has_mutex (wait_of st.conds k) c (agree.same k ∙ ap if_waiting (best_stands st.rows (row.Cond c) k sorted is)) (no_pair k (mutex_with st.conds k) e))

  -- Where a signal takes nobody, nobody stands there.
  pub takes_none : (made : Bool) → keep_if made (next_waiter st.conds st.rows c) ≡ None → made ≡ true → (u : ℕ) → row_at (get st.rows.seats u) ≡ Some (row.Cond c) → ⊥
  takes_none true e m u r = nobody_stands st.rows (row.Cond c) (thread u) sorted (no_best_then (best st.rows (row.Cond c)) refl e) r
  takes_none false e m u r = absurd (false≢true m)

  -- Whom a signal takes stands there.
  pub taken_stands : (k : Tid × NameId) → (signal st.conds st.rows c).waiter ≡ Some k → row_of st.rows k.0 ≡ Some (row.Cond c)
  taken_stands k e = best_stands st.rows (row.Cond c) k.0 sorted (signalled st.conds (best st.rows (row.Cond c)) (has st.conds.made c.0) k e)

-- A signal takes nobody.
pub none_taken : (u : ℕ) (st : State) (c : NameId) → (signal st.conds st.rows c).waiter ≡ None → Rests u st (signals_one st (signal st.conds st.rows c) None).state
none_taken u st c e = record {
  waits = subst (λ (o : Option (Tid × NameId)). standing (get (without_wait st.conds (thread_in o)).waits u) ≡ standing (get st.conds.waits u)) (sym e) refl;
  owes = λ d o. (o.0, subst (λ (x : Option (Tid × NameId)). is_calm (row_at (get (take_out_if st.rows (thread_in x)).seats u)) ≡ true) (sym e) o.1);
}

-- A signal takes this thread.
pub signal_takes : (u : ℕ) (st : State) (c : NameId) (k : Tid × NameId) → (signal st.conds st.rows c).waiter ≡ Some k → eqb k.0.0 u ≡ true
    → Knows u SignalCame (signals_one st (signal st.conds st.rows c) (Some k)).state
signal_takes u st c k e i = record {
  waits = subst (λ (o : Option (Tid × NameId)). standing (get (without_wait st.conds (thread_in o)).waits u) ≡ Elsewhere) (sym e)
      (ap standing (get_cut st.conds.waits k.0.0 u ∙ ap (λ b. cond b None (get st.conds.waits u)) i));
  owes = λ d f. (
    get_put st.debts k.0.0 u (Return reply.Done) ∙ ap (λ b. cond b (Some (Return reply.Done)) (get st.debts u)) i ∙ f,
    resume_calm (rank_of st) st.locks (take_out_if st.rows (thread_in (signal st.conds st.rows c).waiter)) k.0 (Some k.1) u i,
  );
}

-- It takes another.
pub another_taken : (u : ℕ) (st : State) (c : NameId) (k : Tid × NameId) → IsCanonical st.rows.seats → (signal st.conds st.rows c).waiter ≡ Some k → eqb k.0.0 u ≡ false
    → Rests u st (signals_one st (signal st.conds st.rows c) (Some k)).state
another_taken u st c k sorted e i =
    let r : RowId = if is_free (mutex_at st.locks (Some k.1)) then row.Ready else row.Mutex k.1 in record {
      waits = subst (λ (o : Option (Tid × NameId)). standing (get (without_wait st.conds (thread_in o)).waits u) ≡ standing (get st.conds.waits u)) (sym e)
          (ap standing (cut_elsewhere st.conds.waits k.0.0 u i));
      owes = λ d o. (
        put_keeps st.debts k.0.0 u (Return reply.Done) d (λ f. false≢true (sym i ∙ f)) o.0,
        subst (λ (x : Option (Tid × NameId)). is_calm (row_at (get (put_in_row (take_out_if st.rows (thread_in x)) r k.0 (rank_of st k.0)).seats u)) ≡ true) (sym e)
            (moved_calm (suc u) (suc u) u false (get st.rows.seats u) _
            (wakes_best (suc u) (suc u) u false st.rows (row.Cond c) r k.0 (rank_of st k.0) (calm_row_if (is_free (mutex_at st.locks (Some k.1))) k.1) sorted
            (signalled st.conds (best st.rows (row.Cond c)) (has st.conds.made c.0) k e)) (never_next u) o.1),
      );
    }

-- ---- broadcasts

module _ (u : ℕ) (st : State) (ts : List Tid) where
  abbrev pub broadcast_to : State
  broadcast_to = (notifies st (record { reply = reply.Done; woken = wake_all (rank_of st) st.conds st.locks st.rows ts })).state

  -- What a broadcast to these threads does to one of them.
  pub notified : is_among (thread u) ts ≡ true → Knows u SignalCame broadcast_to
  notified i = record {
    waits = ap standing (woken_wait u (rank_of st) st.conds st.locks st.rows ts i);
    owes = λ d f. (
      all_owe_it _ st.debts u (Return reply.Done) (subst (λ (l : List Tid). is_among (thread u) l ≡ true) (sym (woken_are (rank_of st) st.conds st.locks st.rows ts)) i) ∙ f,
      woken_calm u (rank_of st) st.conds st.locks st.rows ts i,
    );
  }

  -- And to another.
  pub not_notified : (is_among (thread u) ts ≡ true → ⊥) → Rests u st broadcast_to
  not_notified n = record {
    waits = ap standing (others_wait u (rank_of st) st.conds st.locks st.rows ts n);
    owes = λ d o. (
      all_keep _ st.debts u (Return reply.Done) d (λ i. n (subst (λ (l : List Tid). is_among (thread u) l ≡ true) (woken_are (rank_of st) st.conds st.locks st.rows ts) i)) o.0,
      others_calm u (rank_of st) st.conds st.locks st.rows ts n o.1,
    );
  }

-- ---- cancels

kept_woken : (w : Waiter) → kept (woken w) ≡ Elsewhere
kept_woken Elsewhere = refl
kept_woken (StandsOn c until) = refl
kept_woken SignalCame = refl
kept_woken TimeCame = refl
kept_woken CancelCame = refl

-- A thread that has left its condition doesn't wait at a point.
pub left_calm : (u : ℕ) (w : Waiter) (st : State) → Knows u w st → has_left w ≡ true → is_calm (row_at (get st.rows.seats u)) ≡ true
left_calm u Elsewhere st k h = absurd (false≢true h)
left_calm u (StandsOn c until) st k h = absurd (false≢true h)
left_calm u SignalCame st k h = (k.owes (Return reply.Done) refl).1
left_calm u TimeCame st k h = (k.owes (Return reply.Eagain) refl).1
left_calm u CancelCame st k h = (k.owes Delivery refl).1

pub left_owes : (u : ℕ) (w : Waiter) (st : State) → Knows u w st → has_left w ≡ true → is_some (get st.debts u) ≡ true
left_owes u Elsewhere st k h = absurd (false≢true h)
left_owes u (StandsOn c until) st k h = absurd (false≢true h)
left_owes u SignalCame st k h = ap is_some (k.owes (Return reply.Done) refl).0
left_owes u TimeCame st k h = ap is_some (k.owes (Return reply.Eagain) refl).0
left_owes u CancelCame st k h = ap is_some (k.owes Delivery refl).0

pub left_no_point : (u : ℕ) (w : Waiter) (st : State) → Knows u w st → has_left w ≡ true → waits_at_point st.rows (thread u) ≡ true → ⊥
left_no_point u w st k h at = false≢true (sym (calm_no_point (row_at (get st.rows.seats u)) (left_calm u w st k h)) ∙ at)

woken_debt : (w : Waiter) (d : Debt) → (has_left w ≡ true → ⊥) → debt_after (woken w) ≡ Some d → (let o : Option Debt = Some Delivery in o) ≡ Some d
woken_debt Elsewhere d n e = absurd (cc)
woken_debt (StandsOn c until) d n e = e
woken_debt SignalCame d n e = absurd (n refl)
woken_debt TimeCame d n e = absurd (n refl)
woken_debt CancelCame d n e = absurd (n refl)

-- A cancel wakes the thread.
pub cancel_wakes : (u : ℕ) (w : Waiter) (st : State) (o : ThreadsReply) → Knows u w st → waits_at_point st.rows (thread u) ≡ true
    → Knows u (woken w) (cancelled st (thread u) o (reply.Effect effect.Wakes)).state
cancel_wakes u w st o k at = record {
  waits = ap standing (out_free st.conds st.rows (thread u) (wait_of st.conds (thread u)) refl) ∙ sym (kept_woken w);
  owes = λ d f. (
    get_put st.debts u u Delivery ∙ ap (λ b. cond b (Some Delivery) (get st.debts u)) (eq-eqb u u refl) ∙ woken_debt w d (λ h. left_no_point u w st k h at) f,
    resume_calm (rank_of st) st.locks (take_out st.rows (thread u)).rows (thread u) (mutex_with st.conds (thread u)) u (eq-eqb u u refl),
  );
}

-- A cancel wakes another, or nobody.
pub cancel_rests : (u : ℕ) (st : State) (k : Tid) (o : ThreadsReply) (y : Reply) → eqb k.0 u ≡ false → (y ≡ reply.Effect effect.Wakes → waits_at_point st.rows k ≡ true) → Rests u st (cancelled st k o y).state
cancel_rests u st k o (reply.Effect effect.Wakes) i at = record {
  waits = ap standing (without_another (is_some (wait_of st.conds k)));
  owes = λ d q. (
    put_keeps st.debts k.0 u Delivery d (λ f. false≢true (sym i ∙ f)) q.0,
    moved_calm (suc u) (suc u) u false (get st.rows.seats u) _ (cancel_wait_moves (suc u) (suc u) u false (rank_of st) st.conds st.pipes st.locks st.rows k (point_seat st.rows k (at refl))) (never_next u) q.1,
  );
}
  where
    without_another : (b : Bool) → get (waits_without st.conds.waits (some_if b k)) u ≡ get st.conds.waits u
    without_another true = cut_elsewhere st.conds.waits k.0 u i
    without_another false = refl
cancel_rests u st k o (reply.Effect effect.Ended) i at = record { waits = refl; owes = λ d q. q }
cancel_rests u st k o (reply.Effect effect.Merged) i at = record { waits = refl; owes = λ d q. q }
cancel_rests u st k o (reply.Effect effect.Pending) i at = record { waits = refl; owes = λ d q. q }
cancel_rests u st k o _ i at = record { waits = refl; owes = λ d q. q }

abbrev pub wakes_none : Reply → Bool
wakes_none (reply.Effect effect.Wakes) = false
wakes_none _ = true

-- A cancel that wakes nobody leaves all this as it is.
pub cancel_leaves : (u : ℕ) (st : State) (k : Tid) (o : ThreadsReply) (y : Reply) → wakes_none y ≡ true → Rests u st (cancelled st k o y).state
cancel_leaves u st k o (reply.Effect effect.Wakes) e = absurd (false≢true e)
cancel_leaves u st k o (reply.Effect effect.Ended) e = record { waits = refl; owes = λ d q. q }
cancel_leaves u st k o (reply.Effect effect.Merged) e = record { waits = refl; owes = λ d q. q }
cancel_leaves u st k o (reply.Effect effect.Pending) e = record { waits = refl; owes = λ d q. q }
cancel_leaves u st k o _ e = record { waits = refl; owes = λ d q. q }
