-- Threads that wait for a once block, and those that owe its running, have two free frames in every history.
use Rattle.std.proofs.Common.{◌≡◌, ℕ, ℤ, Bool, true, false, eqb, Option, Some, None, refl, sym, ◌∙◌, ap, subst}
use Rattle.std.proofs.lemmas.Bool.{eqb-true, false≢true}
use Rattle.std.specs.Prelude.{if◌then◌else◌, nat_lt, is_some, ◌≤◌}
use Rattle.std.proofs.Common.{arith}
use Rattle.std.specs.Option.{option_map, unwrap_or}
use Rattle.thr_values.specs.declared.number.Tid.{Tid}
use Rattle.thr_values.specs.declared.event.Event.{Event}
use Rattle.thr_values.specs.declared.event.Event.TheVariants as event
use Rattle.thr_syntax.specs.declared.tree.Script.{Script}
use Rattle.thr_remainder.specs.Remainders.{Setting, Remainder, has_room}
use Rattle.thr_parts.specs.declared.row.RowId.{RowId}
use Rattle.thr_parts.specs.declared.row.RowId.TheVariants as row
use Rattle.thr_parts.specs.declared.row.Seat.{Seat}
use Rattle.thr_parts.specs.declared.thread.Thread.{Thread}
use Rattle.thr_parts.specs.declared.wait.Wait.{Wait}
use Rattle.thr_parts.specs.Tables.{Table, get, has, at, IsCanonical}
use Rattle.thr_parts.specs.Rows.{no_rows, thread, row_in}
use Rattle.thr_parts.specs.Dispatch.{dispatch, running, some_can_run}
use Rattle.thr_parts.specs.Threads.{first_threads, rank_at}
use Rattle.thr_parts.specs.Expiry.{earliest, due_first, expire_all}
use Rattle.thr_parts.proofs.TableLaws.{get_none, has_get}
use Rattle.thr_model.specs.States.{State, Debt, Running, nothing_left, setting_of, remainder_of, debt_of, rank_of, opening}
use Rattle.thr_model.specs.Turns.{Made, turn_of}
use Rattle.thr_model.specs.Events.{dispatch_made, clock_to, clock_of, made_by}
use Rattle.thr_model.specs.Histories.{Execution, after_event, History, opened, then_event}
use Rattle.thr_model.proofs.RowsKept.{history_canonical}
use Rattle.thr_answers.specs.Statuses.{Absent, by_row, status}
use Rattle.thr_answers.proofs.DebtsKept.{LeavesLeft}
use Rattle.thr_answers.proofs.StatusTurns.{InOrder, HasRun, has_run, absent_parts}
use Rattle.thr_answers.proofs.AnswerTurns.{Agrees, agrees}
use Rattle.thr_counts.proofs.Settings.{setting_stays}
use Rattle.thr_waiting.proofs.Seated.{history_seated}
use Rattle.thr_waiting.proofs.Living.{seat_recorded, seat_not_ended}
use Rattle.thr_beginnings.proofs.OnceRows.{is_once_row, in_once, row_follows, dispatch_follows, wake_all_follows}
use Rattle.thr_beginnings.proofs.RunningDebts.{owes_running, due_follows}
use Rattle.thr_beginnings.proofs.CallsFollow.{FollowsIn}
use Rattle.thr_beginnings.proofs.TurnsFollow.{HasTwo, turn_left, turn_follows}

-- ---- threads that are there

seat_there : (o : Option Seat) → in_once o ≡ true → is_some o ≡ true
seat_there None e = absurd (false≢true e)
seat_there (Some x) e = refl

debt_there : (o : Option Debt) → owes_running o ≡ true → is_some o ≡ true
debt_there None e = absurd (false≢true e)
debt_there (Some d) e = refl

-- ---- threads that aren't there yet

row_absent : (r : Option RowId) → is_once_row r ≡ true → by_row r ≡ Absent → ⊥
row_absent (Some (row.Once o)) e f = absurd (cc)
row_absent _ e f = absurd (false≢true e)

seat_absent : (x : Option Seat) → in_once x ≡ true → status None x None ≡ Absent → ⊥
seat_absent None e f = absurd (false≢true e)
seat_absent (Some x) e f = row_absent (row_in x.place) e f

nothing_in_once : (o : Option Debt) (x : Option Seat) (z : Option Wait) → status o x z ≡ Absent → in_once x ≡ true → ⊥
nothing_in_once o x z a e =
    let p : (o ≡ None) × (z ≡ None) = absent_parts o x z a in
    seat_absent x e (sym (ap (λ (d : Option Debt). status d x None) p.0) ∙ sym (ap (λ (w : Option Wait). status o x w) p.1) ∙ a)

nothing_owed : (o : Option Debt) (x : Option Seat) (z : Option Wait) → status o x z ≡ Absent → owes_running o ≡ true → ⊥
nothing_owed o x z a e = false≢true (sym (ap owes_running (absent_parts o x z a).0) ∙ e)

next_fresh : (n u : ℕ) → n ≡ u → n ≤ u
next_fresh n u e = omega (arith, e)

-- ---- events

module _ (s : Script) (st : State) where
  -- The settings of threads in this state.
  abbrev settings_in : ℕ → Setting
  settings_in u = setting_of s st (thread u)

  -- What follows of a thread at an event: that it has two free frames afterwards, and that it stood in a row or ran before.
  abbrev Two : State → ℕ → Type 0
  Two after u = HasTwo settings_in after.remainders u × (has st.rows.seats u ≡ true)

  abbrev Goes : State → Type 0
  Goes after = (u : ℕ) → FollowsIn u (Two after u) after

  -- It follows in this state.
  abbrev Room : Type 0
  Room = (u : ℕ) → FollowsIn u (HasTwo settings_in st.remainders u) st

  abbrev Owers : Type 0
  Owers = (u : ℕ) → has st.debts u ≡ true → has st.rows.seats u ≡ true

  in_row : (u : ℕ) → in_once (get st.rows.seats u) ≡ true → has st.rows.seats u ≡ true
  in_row u e = has_get st.rows.seats u ∙ seat_there (get st.rows.seats u) e

  ower : Owers → (u : ℕ) → owes_running (get st.debts u) ≡ true → has st.rows.seats u ≡ true
  ower owers u e = owers u (has_get st.debts u ∙ debt_there (get st.debts u) e)

  moved_two : (m : Table Remainder) (u : ℕ) → at m u nothing_left ≡ at st.remainders u nothing_left → HasTwo settings_in st.remainders u → HasTwo settings_in m u
  moved_two m u left h = ap (λ (r : Remainder). has_room (settings_in u) r 2) left ∙ h

  -- Where no turn is made, what is left stays.
  same_before : (after : State) → after.remainders ≡ st.remainders → Owers → Room → (u : ℕ) → FollowsIn u (Two after u) st
  same_before after e owers room u =
      let left : at after.remainders u nothing_left ≡ at st.remainders u nothing_left = ap (λ (m : Table Remainder). at m u nothing_left) e in
      let h : FollowsIn u (HasTwo settings_in st.remainders u) st = room u in
      record { rows = λ i. (moved_two after.remainders u left (h.rows i), in_row u i); owed = λ i. (moved_two after.remainders u left (h.owed i), ower owers u i) }

  -- ---- a turn

  module _ (p : ℕ) (t : Tid) (at_p : running st.rows p ≡ Some t) (sorted : IsCanonical st.rows.seats) (order : InOrder st) (owers : Owers) (room : Room) where
    run : HasRun st t.0
    run = has_run st p t sorted at_p

    runs_there : (u : ℕ) → eqb t.0 u ≡ true → has st.rows.seats u ≡ true
    runs_there u e = subst (λ (q : ℕ). has st.rows.seats q ≡ true) (eqb-true t.0 u e) (has_get st.rows.seats t.0 ∙ ap is_some run.at)

    runs_not : (u : ℕ) → eqb t.0 u ≡ true → in_once (get st.rows.seats u) ≡ true → ⊥
    runs_not u e i =
        false≢true (sym (ap (λ (q : ℕ). in_once (get st.rows.seats q)) (sym (eqb-true t.0 u e)) ∙ ap in_once run.at ∙ ap is_once_row run.runs) ∙ i)

    left_over : (u : ℕ) → eqb t.0 u ≡ false → (st.threads.next ≡ u → ⊥) → LeavesLeft st (turn_of s st t).state.remainders u
    left_over u e old = turn_left s t u e st old

    not_next_row : (u : ℕ) → in_once (get st.rows.seats u) ≡ true → st.threads.next ≡ u → ⊥
    not_next_row u i e = nothing_in_once (get st.debts u) (get st.rows.seats u) (get st.conds.waits u) (order.fresh u (next_fresh st.threads.next u e)) i

    not_next_debt : (u : ℕ) → owes_running (get st.debts u) ≡ true → st.threads.next ≡ u → ⊥
    not_next_debt u i e = nothing_owed (get st.debts u) (get st.rows.seats u) (get st.conds.waits u) (order.fresh u (next_fresh st.threads.next u e)) i

    row_before : (u : ℕ) (b : Bool) → eqb t.0 u ≡ b → in_once (get st.rows.seats u) ≡ true → Two (turn_of s st t).state u
    row_before u true e i = absurd (runs_not u e i)
    row_before u false e i =
        let h : FollowsIn u (HasTwo settings_in st.remainders u) st = room u in (moved_two (turn_of s st t).state.remainders u (left_over u e (not_next_row u i)) (h.rows i), in_row u i)

    owed_before : (u : ℕ) → eqb t.0 u ≡ false → owes_running (get st.debts u) ≡ true → Two (turn_of s st t).state u
    owed_before u e i =
        let h : FollowsIn u (HasTwo settings_in st.remainders u) st = room u in (moved_two (turn_of s st t).state.remainders u (left_over u e (not_next_debt u i)) (h.owed i), ower owers u i)

    turn_goes : Goes (turn_of s st t).state
    turn_goes u =
        let k = turn_follows s t u settings_in (has st.rows.seats u ≡ true) (runs_there u) st sorted refl (record { rows = row_before u (eqb t.0 u) refl; owed = owed_before u }) in
        record { rows = k.rows; owed = k.owed }

  -- ---- events without a turn

  the_made : (one made : Made) → Goes one.state → Some one ≡ Some made → Goes made.state
  the_made one made h e = subst (λ (m : Made). Goes m.state) (ap (λ o. unwrap_or o made) e) h

  dispatch_goes : (p : ℕ) (o : Option Tid) (made : Made) → Owers → Room → dispatch_made st p (dispatch st.rows p) o ≡ Some made → Goes made.state
  dispatch_goes p None made owers room e = absurd (cc)
  dispatch_goes p (Some t) made owers room e =
      let after : State = record st { rows = (dispatch st.rows p).rows } in
      the_made _ made (λ u. (let h : FollowsIn u (Two after u) st = same_before after refl owers room u in record { rows = dispatch_follows u (Two after u) st.rows p h.rows; owed = h.owed })) e

  dispatch_if_goes : (b : Bool) (p : ℕ) (made : Made) → Owers → Room → (if b then dispatch_made st p (dispatch st.rows p) (dispatch st.rows p).taken else None) ≡ Some made → Goes made.state
  dispatch_if_goes true p made owers room e = dispatch_goes p (dispatch st.rows p).taken made owers room e
  dispatch_if_goes false p made owers room e = absurd (cc)

  clock_to_goes : (now : ℤ) → Owers → Room → Goes (clock_to st now).state
  clock_to_goes now owers room u =
      let after : State = (clock_to st now).state in
      let h : FollowsIn u (Two after u) st = same_before after refl owers room u in record {
        rows = wake_all_follows u (Two after u) (rank_of st) st.conds st.locks st.rows (due_first st.conds st.rows now) h.rows;
        owed = due_follows u (Two after u) (expire_all (rank_of st) st.conds st.locks st.rows now).woken st.debts h.owed;
      }

  clock_at_goes : (o : Option ℤ) (made : Made) → Owers → Room → option_map (clock_to st) o ≡ Some made → Goes made.state
  clock_at_goes None made owers room e = absurd (cc)
  clock_at_goes (Some now) made owers room e = the_made (clock_to st now) made (clock_to_goes now owers room) e

  clock_goes : (b : Bool) (made : Made) → Owers → Room → clock_of b st ≡ Some made → Goes made.state
  clock_goes true made owers room e = absurd (cc)
  clock_goes false made owers room e = clock_at_goes (earliest st.conds) made owers room e

  turn_if_goes : (p : ℕ) (o : Option Tid) (made : Made) → running st.rows p ≡ o → IsCanonical st.rows.seats → InOrder st → Owers → Room → option_map (turn_of s st) o ≡ Some made → Goes made.state
  turn_if_goes p None made is sorted order owers room e = absurd (cc)
  turn_if_goes p (Some t) made is sorted order owers room e = the_made (turn_of s st t) made (turn_goes p t is sorted order owers room) e

  made_goes : (n : ℕ) (e : Event) (made : Made) → IsCanonical st.rows.seats → InOrder st → Owers → Room → made_by s n st e ≡ Some made → Goes made.state
  unfolding made_by
  made_goes n (event.Dispatch p) made sorted order owers room e = dispatch_if_goes (nat_lt p n) p made owers room e
  made_goes n (event.Turn p) made sorted order owers room e = turn_if_goes p (running st.rows p) made refl sorted order owers room e
  made_goes n event.Clock made sorted order owers room e = clock_goes (some_can_run st.rows) made owers room e

-- ---- histories

opening_room : (s : Script) → Room s (opening s)
opening_room s u = record {
  rows = row_follows u (HasTwo (settings_in s (opening s)) (opening s).remainders u) no_rows row.Ready (thread 1) (rank_at first_threads (thread 1)) refl (λ e. absurd (false≢true (sym (ap in_once (get_none u)) ∙ e)));
  owed = λ e. absurd (false≢true (sym (ap owes_running (get_none u)) ∙ e));
}

history_owers : {s : Script} {n : ℕ} {x : Execution} → History s n x → Owers s x.state
history_owers {s} {n} {x} h t e = has_get x.state.rows.seats t ∙ (history_seated h).owers t (sym (has_get x.state.debts t) ∙ e)

record_there : (o : Option Thread) → is_some o ≡ true → (th : Thread) × (o ≡ Some th)
record_there None e = absurd (false≢true e)
record_there (Some th) e = (th, refl)

-- The setting of a thread that has a seat before and after an event stays.
setting_same : {s : Script} {n : ℕ} {x : Execution} (h : History s n x) (e : Event) (made : Made) → made_by s n x.state e ≡ Some made → History s n (after_event x e made) → (u : ℕ) → has x.state.rows.seats u ≡ true
    → has made.state.rows.seats u ≡ true → setting_of s made.state (thread u) ≡ setting_of s x.state (thread u)
setting_same {s} {n} {x} h e made m later u before after =
    let th : (th : Thread) × (get x.state.threads.records u ≡ Some th) = record_there (get x.state.threads.records u) (sym (has_get x.state.threads.records u) ∙ seat_recorded h u before) in
    setting_stays s n x h e made m u th.0 th.1 (seat_not_ended h u th.0 before th.1)
    (has_get made.state.remainders u ∙ (history_seated later).left u ∙ sym (has_get made.state.rows.seats u) ∙ after)

again : {s : Script} {n : ℕ} {x : Execution} (h : History s n x) (e : Event) (made : Made) → made_by s n x.state e ≡ Some made → History s n (after_event x e made) → (u : ℕ) → has made.state.rows.seats u ≡ true
    → Two s x.state made.state u → HasTwo (settings_in s made.state) made.state.remainders u
again h e made m later u there two =
    ap (λ (g : Setting). has_room g (at made.state.remainders u nothing_left) 2) (setting_same h e made m later u two.1 there) ∙ two.0

room_after : {s : Script} {n : ℕ} {x : Execution} (h : History s n x) (e : Event) (made : Made) → made_by s n x.state e ≡ Some made → History s n (after_event x e made) → Goes s x.state made.state → Room s made.state
room_after {s} {n} {x} h e made m later goes u =
    let k : FollowsIn u (Two s x.state made.state u) made.state = goes u in record {
      rows = λ i. again h e made m later u (in_row s made.state u i) (k.rows i);
      owed = λ i. again h e made m later u (ower s made.state (history_owers later) u i) (k.owed i);
    }

history_room : {s : Script} {n : ℕ} {x : Execution} → History s n x → Room s x.state
history_room {s} opened = opening_room s
history_room {s} {n} (then_event {x} h open_ e made m) =
    let a : Agrees s x.state x.entries = agrees h in
    room_after h e made m (then_event h open_ e made m) (made_goes s x.state n e made (history_canonical h) a.order (history_owers h) (history_room h) m)

-- A thread that owes the running of a once block has two free frames.
pub runners_have_room : (s : Script) (n : ℕ) (x : Execution) → History s n x → (t : Tid) → debt_of x.state t ≡ Some Running → has_room (setting_of s x.state t) (remainder_of x.state t) 2 ≡ true
runners_have_room s n x h t e = let k : FollowsIn t.0 (HasTwo (settings_in s x.state) x.state.remainders t.0) x.state = history_room h t.0 in k.owed (ap owes_running e)
