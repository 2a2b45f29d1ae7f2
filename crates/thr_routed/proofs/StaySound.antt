-- Every history stays sound.
use Rattle.std.proofs.Common.{◌≡◌, ℕ, ℤ, pos, Bool, true, false, cond, eqb, List, [], ◌∷◌, Option, Some, None, refl, sym, ap, subst}
use Rattle.std.specs.Prelude.{if◌then◌else◌, nat_lt}
use Rattle.std.specs.Option.{option_map, unwrap_or}
use Rattle.thr_values.specs.declared.number.NameId.{NameId}
use Rattle.thr_values.specs.declared.number.Tid.{Tid}
use Rattle.thr_values.specs.declared.event.Event.{Event}
use Rattle.thr_values.specs.declared.event.Event.TheVariants as event
use Rattle.thr_values.specs.declared.history.Entry.{Entry}
use Rattle.thr_syntax.specs.declared.tree.Script.{Script}
use Rattle.thr_remainder.specs.Places.{Ways}
use Rattle.thr_remainder.specs.Remainders.{Setting, Remainder}
use Rattle.thr_remainder.specs.Starts.{fresh}
use Rattle.thr_remainder.specs.Runs.{Run, run_of, most_steps}
use Rattle.thr_parts.specs.declared.row.RowId.{RowId}
use Rattle.thr_parts.specs.declared.row.RowId.TheVariants as row
use Rattle.thr_parts.specs.declared.row.Seat.{Seat}
use Rattle.thr_parts.specs.declared.wait.Wait.{Wait}
use Rattle.thr_parts.specs.Tables.{none, get, IsCanonical}
use Rattle.thr_parts.specs.Rows.{row_in, row_at}
use Rattle.thr_parts.specs.Cancels.{mode_at}
use Rattle.thr_parts.specs.Threads.{record_at}
use Rattle.thr_parts.specs.Dispatch.{dispatch, running, some_can_run}
use Rattle.thr_parts.specs.Waking.{Woken}
use Rattle.thr_parts.specs.Expiry.{earliest, due_first, expire_all}
use Rattle.thr_parts.proofs.TableLaws.{at_get}
use Rattle.thr_laws.proofs.ReadingLaws.{AllLines}
use Rattle.thr_laws.specs.Lines.{lines_of_thread}
use Rattle.thr_model.specs.States.{State, Debt, rank_of, remainder_of, setting_of, debt_of, nothing_left, opening, main_of}
use Rattle.thr_model.specs.Calls.{Gifts, answered}
use Rattle.thr_model.specs.Turns.{Made, gift_lines, turn_by, kept, is_fifo_in, turn_of}
use Rattle.thr_model.specs.Events.{dispatch_made, clock_made, clock_to, clock_of, made_by}
use Rattle.thr_model.specs.Histories.{Execution, History, opened, then_event}
use Rattle.thr_model.proofs.RowsKept.{history_canonical}
use Rattle.thr_answers.specs.Statuses.{Status, Absent, Calm, Waiting, Astray, by_row, status, status_of}
use Rattle.thr_answers.proofs.StatusMoves.{with_put}
use Rattle.thr_answers.proofs.StatusRows.{waits_or_astray, expired_stay}
use Rattle.thr_answers.proofs.StatusTurns.{InOrder, HasRun, has_run, run_wait, calls_calmly, keeps_stays, dispatch_stays}
use Rattle.thr_answers.proofs.AnswerTurns.{Agrees, agrees, all_due, first_status}
use Rattle.thr_routed.specs.Reaching.{Reached, IsRight}
use Rattle.thr_routed.specs.Sound.{IsThere, IsCalm, of_clock, to_thread, AreCalmGifts, IsSound, StaysSound}
use Rattle.thr_routed.proofs.QuietParts.{Runs, run_runs}
use Rattle.thr_routed.proofs.Reading.{IsLife, Lives}
use Rattle.thr_routed.proofs.Turning.{made_good, opening_lives}
use Rattle.thr_routed.proofs.Gifts.{IsWaiting, AllWait, woken_gifts, answered_gifts}
use Rattle.thr_routed.proofs.Owed.{Holds, Owed, stays_owed, halt_owed, debt_owed}

-- ---- a state is sound

never_absent : (r : Option RowId) → by_row r ≡ Absent → ⊥
never_absent None e = absurd (cc)
never_absent (Some row.Ready) e = absurd (cc)
never_absent (Some (row.Mutex m)) e = absurd (cc)
never_absent (Some row.Global) e = absurd (cc)
never_absent (Some (row.Cond c)) e = absurd (cc)
never_absent (Some (row.Join t)) e = absurd (cc)
never_absent (Some (row.Once o)) e = absurd (cc)
never_absent (Some (row.Reader p)) e = absurd (cc)
never_absent (Some (row.Writer p)) e = absurd (cc)
never_absent (Some row.Time) e = absurd (cc)

seated_there : (o : Option Debt) (x : Option Seat) (z : Option Wait) (q : Seat) → x ≡ Some q → z ≡ None → status o x z ≡ Absent → ⊥
seated_there o x (Some w) q e f a = absurd (cc)
seated_there (Some d) x None q e f a = absurd (cc)
seated_there None None None q e f a = absurd (cc)
seated_there None (Some x) None q e f a = never_absent (row_in x.place) a

holds_there : (y : Status) (o : Option Remainder) → (y ≡ Absent → ⊥) → (y ≡ Astray → ⊥) → Holds y o → (r : Remainder) × (o ≡ Some r)
holds_there Absent o n k h = absurd (n refl)
holds_there Calm None n k h = absurd h
holds_there Calm (Some r) n k h = (r, refl)
holds_there Waiting None n k h = absurd h
holds_there Waiting (Some r) n k h = (r, refl)
holds_there Astray o n k h = absurd (k refl)

holds_calm : (y : Status) (o : Option Remainder) → y ≡ Waiting → Holds y o → (r : Remainder) × (o ≡ Some r) × (r.under_way ≡ None)
holds_calm Absent o e h = absurd (cc)
holds_calm Calm o e h = absurd (cc)
holds_calm Waiting None e h = absurd h
holds_calm Waiting (Some r) e h = (r, refl, h)
holds_calm Astray o e h = absurd (cc)

owing_waits : (o : Option Debt) (x : Option Seat) (z : Option Wait) (d : Debt) → o ≡ Some d → (status o x z ≡ Astray → ⊥) → status o x z ≡ Waiting
owing_waits o x (Some w) d e n = waits_or_astray (row_at x) n
owing_waits None x None d e n = absurd (cc)
owing_waits (Some y) x None d e n = refl

waiting_calm : (st : State) (t : ℕ) → Owed st → status_of st t ≡ Waiting → IsCalm st t
waiting_calm st t owed e = holds_calm (status_of st t) (get st.remainders t) e (owed t)

calm_gifts : (st : State) (gs : Gifts) → Owed st → AllWait st gs → AreCalmGifts st (gift_lines gs)
calm_gifts st [] owed h = tt
calm_gifts st (g ∷ gs) owed h = (to_thread g.0 g.1 (waiting_calm st g.0.0 owed h.0), calm_gifts st gs owed h.1)

clock_gifts_calm : (st : State) (now : ℤ) (o : Woken) (gs : List (Tid × NameId)) → Owed st → AllLines (λ (g : Tid × NameId). IsWaiting st g.0) gs
    → (let w : Woken = record { conds = o.conds; locks = o.locks; rows = o.rows; woken = o.woken; gifts = gs } in AreCalmGifts st (clock_made st now w).lines)
clock_gifts_calm st now o [] owed h = (of_clock now, tt)
clock_gifts_calm st now o (g ∷ gs) owed h = (of_clock now, (to_thread g.0 (Some g.1) (waiting_calm st g.0.0 owed h.0), (clock_gifts_calm st now o gs owed h.1).1))

is_sound : (s : Script) (st : State) → InOrder st → IsCanonical st.rows.seats → Owed st → IsSound s st
is_sound s st order sorted owed = record {
  runs = λ p t e. (let run : HasRun st t.0 = has_run st p t sorted e in
      holds_there (status_of st t.0) (get st.remainders t.0) (seated_there (get st.debts t.0) (get st.rows.seats t.0) (get st.conds.waits t.0) run.seat run.at (run_wait st t.0 run order)) (order.none_astray t.0) (owed t.0));
  owes = λ t d e. waiting_calm st t owed (owing_waits (get st.debts t) (get st.rows.seats t) (get st.conds.waits t) d e (order.none_astray t));
  call_gifts = λ p t call ns e n. calm_gifts st (answered s st t call ns).gifts owed (answered_gifts s st t call ns (calls_calmly st t.0 (has_run st p t sorted e) order sorted n));
  clock_gifts = λ now. (let o : Woken = expire_all (rank_of st) st.conds st.locks st.rows now in
      clock_gifts_calm st now o o.gifts owed (woken_gifts (IsWaiting st) (due_first st.conds st.rows now) (rank_of st) st.conds st.locks st.rows (all_due s [] st now order)));
}

-- ---- events

module _ (s : Script) (HasWays : ℕ → Ways → Type 0) (MayReturn : Type 0) (right : IsRight s HasWays MayReturn) where
  abbrev Living : State → List Entry → Type 0
  Living st entries = Lives s HasWays MayReturn right st entries

  life_reached : (next u : ℕ) (o : Option Remainder) (r : Remainder) (lines : _) → o ≡ Some r → IsLife s HasWays MayReturn right next u o lines → Reached s (unwrap_or o nothing_left)
  life_reached next u None r lines e h = absurd (cc)
  life_reached next u (Some q) r lines e h = h.1

  turn_by_owed : (st : State) (entries : List Entry) (p : ℕ) (t : Tid) (d : Option Debt) → running st.rows p ≡ Some t → debt_of st t ≡ d → InOrder st → IsCanonical st.rows.seats → IsSound s st → Living st entries → Owed st → Owed (turn_by s st t d).state
  turn_by_owed st entries p t (Some d) e owes order sorted sound lives owed = debt_owed st t (setting_of s st t) (remainder_of st t) d (has_run st p t sorted e) order owed
  turn_by_owed st entries p t None e owes order sorted sound lives owed =
      let run : HasRun st t.0 = has_run st p t sorted e in
      let g : Setting = setting_of s st t in
      let there : IsThere st t.0 = sound.runs p t e in
      let reached : Reached s (remainder_of st t) = subst (Reached s) (sym (at_get st.remainders t.0 nothing_left)) (life_reached st.threads.next t.0 (get st.remainders t.0) there.0 (lines_of_thread t.0 entries) there.1 (lives t.0)) in
      let x : Run = run_of most_steps g (mode_at st.threads t) (remainder_of st t) in
      let h : Runs s HasWays MayReturn right (remainder_of st t) x = run_runs s HasWays MayReturn right most_steps g (mode_at st.threads t) (remainder_of st t) refl reached in
      halt_owed s st t (calls_calmly st t.0 run order sorted owes) order owed HasWays MayReturn right g x.to x.halt run h.halt

  kept_owed : (t : Tid) (made : Made) → Owed made.state → Owed (kept t made).state
  kept_owed t made owed =
      let now : State = made.state in
      stays_owed now.debts now.debts now.rows.seats (kept t made).state.rows.seats now.conds.waits now.conds.waits now.remainders (keeps_stays now.debts now.conds.waits now.rows t (is_fifo_in (record_at now.threads t))) owed

  turn_owed : (st : State) (entries : List Entry) (p : ℕ) (t : Tid) → running st.rows p ≡ Some t → InOrder st → IsCanonical st.rows.seats → IsSound s st → Living st entries → Owed st → Owed (turn_of s st t).state
  unfolding turn_of
  turn_owed st entries p t e order sorted sound lives owed = kept_owed t (turn_by s st t (debt_of st t)) (turn_by_owed st entries p t (debt_of st t) e refl order sorted sound lives owed)

  the_made : (one made : Made) → Owed one.state → Some one ≡ Some made → Owed made.state
  the_made one made h e = subst (λ (m : Made). Owed m.state) (ap (λ o. unwrap_or o made) e) h

  dispatch_owed : (st : State) (p : ℕ) (o : Option Tid) (made : Made) → IsCanonical st.rows.seats → Owed st → dispatch_made st p (dispatch st.rows p) o ≡ Some made → Owed made.state
  dispatch_owed st p None made h owed e = absurd (cc)
  dispatch_owed st p (Some t) made h owed e =
      the_made _ made (stays_owed st.debts st.debts st.rows.seats (dispatch st.rows p).rows.seats st.conds.waits st.conds.waits st.remainders (dispatch_stays st.debts st.conds.waits st.rows p h) owed) e

  dispatch_if_owed : (b : Bool) (st : State) (p : ℕ) (made : Made) → IsCanonical st.rows.seats → Owed st → (if b then dispatch_made st p (dispatch st.rows p) (dispatch st.rows p).taken else None) ≡ Some made → Owed made.state
  dispatch_if_owed true st p made h owed e = dispatch_owed st p (dispatch st.rows p).taken made h owed e
  dispatch_if_owed false st p made h owed e = absurd (cc)

  turn_if_owed : (st : State) (entries : List Entry) (p : ℕ) (o : Option Tid) (made : Made) → running st.rows p ≡ o → InOrder st → IsCanonical st.rows.seats → IsSound s st → Living st entries → Owed st → option_map (turn_of s st) o ≡ Some made → Owed made.state
  turn_if_owed st entries p None made is order sorted sound lives owed e = absurd (cc)
  turn_if_owed st entries p (Some t) made is order sorted sound lives owed e = the_made (turn_of s st t) made (turn_owed st entries p t is order sorted sound lives owed) e

  clock_to_owed : (st : State) (now : ℤ) → InOrder st → Owed st → Owed (clock_to st now).state
  clock_to_owed st now order owed =
      let after : State = (clock_to st now).state in
      stays_owed st.debts after.debts st.rows.seats after.rows.seats st.conds.waits after.conds.waits st.remainders (expired_stay (due_first st.conds st.rows now) st.debts st.conds st.locks st.rows (rank_of st) (all_due s [] st now order)) owed

  clock_at_owed : (st : State) (o : Option ℤ) (made : Made) → InOrder st → Owed st → option_map (clock_to st) o ≡ Some made → Owed made.state
  clock_at_owed st None made order owed e = absurd (cc)
  clock_at_owed st (Some now) made order owed e = the_made (clock_to st now) made (clock_to_owed st now order owed) e

  clock_owed : (st : State) (b : Bool) (made : Made) → InOrder st → Owed st → clock_of b st ≡ Some made → Owed made.state
  clock_owed st true made order owed e = absurd (cc)
  clock_owed st false made order owed e = clock_at_owed st (earliest st.conds) made order owed e

  made_owed : (n : ℕ) (st : State) (entries : List Entry) (e : Event) (made : Made) → InOrder st → IsCanonical st.rows.seats → IsSound s st → Living st entries → Owed st → made_by s n st e ≡ Some made → Owed made.state
  unfolding made_by
  made_owed n st entries (event.Dispatch p) made order sorted sound lives owed e = dispatch_if_owed (nat_lt p n) st p made sorted owed e
  made_owed n st entries (event.Turn p) made order sorted sound lives owed e = turn_if_owed st entries p (running st.rows p) made refl order sorted sound lives owed e
  made_owed n st entries event.Clock made order sorted sound lives owed e = clock_owed st (some_can_run st.rows) made order owed e

  -- ---- histories

  first_holds : (b : Bool) (x : Remainder) (o : Option Remainder) → Holds (cond b Calm Absent) (cond b (Some x) o)
  first_holds true x o = tt
  first_holds false x o = tt

  opening_owed : Owed (opening s)
  opening_owed u =
      subst (λ q. Holds (status_of (opening s) u) q) (sym (with_put none 1 _ u))
      (subst (λ q. Holds q (cond (eqb 1 u) (Some (opening_left)) (get none u))) (sym (first_status s u)) (first_holds (eqb 1 u) opening_left (get none u)))
    where
      opening_left : Remainder
      opening_left = fresh s (main_of s) (pos 0)

  history_owed : {n : ℕ} {x : Execution} → History s n x → Owed x.state × Living x.state x.entries
  history_owed opened = (opening_owed, opening_lives s HasWays MayReturn right)
  history_owed {n} (then_event {x} h open_ e made m) =
      let before : Owed x.state × Living x.state x.entries = history_owed h in
      let a : Agrees s x.state x.entries = agrees h in
      let sound : IsSound s x.state = is_sound s x.state a.order (history_canonical h) before.0 in (
        made_owed n x.state x.entries e made a.order (history_canonical h) sound before.1 before.0 m,
        made_good s HasWays MayReturn right n x.state x.entries e made sound before.1 m,
      )

  -- In every history each thread's lines are a course.
  pub history_lives : {n : ℕ} {x : Execution} → History s n x → Living x.state x.entries
  history_lives h = (history_owed h).1

  -- Every history stays sound.
  pub histories_sound : (n : ℕ) → StaysSound s n
  histories_sound n = record { sound = λ x h. (let a : Agrees s x.state x.entries = agrees h in is_sound s x.state a.order (history_canonical h) (history_owed h).0) }
