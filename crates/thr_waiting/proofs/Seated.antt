-- In every history something is left to do in those threads that have a seat, and whoever owes something has one.
use Rattle.std.proofs.Common.{◌≡◌, ℕ, ℤ, Bool, true, false, cond, eqb, List, [], ◌∷◌, Option, Some, None, refl, sym, ◌∙◌, ap, subst}
use Rattle.std.proofs.lemmas.Bool.{eqb-true, false≢true}
use Rattle.std.specs.Prelude.{if◌then◌else◌}
use Rattle.std.specs.List.{filter}
use Rattle.std.specs.Option.{is_some}
use Rattle.thr_values.specs.declared.number.NameId.{NameId}
use Rattle.thr_values.specs.declared.number.Tid.{Tid}
use Rattle.thr_values.specs.declared.reply.Reply.TheVariants as reply
use Rattle.thr_syntax.specs.declared.dce.DceCall.{DceCall}
use Rattle.thr_syntax.specs.declared.dce.DceCall.TheVariants as dce
use Rattle.thr_syntax.specs.declared.tree.Script.{Script}
use Rattle.thr_remainder.specs.Remainders.{Remainder}
use Rattle.thr_remainder.specs.Starts.{fresh}
use Rattle.thr_parts.specs.declared.row.RowId.TheVariants as row
use Rattle.thr_parts.specs.declared.row.Place.TheVariants.{Stands}
use Rattle.thr_parts.specs.declared.row.Seat.{Seat}
use Rattle.thr_parts.specs.Tables.{Table, none, get, put, put_if, cut, cut_if, keep_if, IsCanonical}
use Rattle.thr_parts.specs.Replies.{is_value}
use Rattle.thr_parts.specs.Rows.{Rows, thread, seat_of, is_running, in_order, best, best_first}
use Rattle.thr_parts.specs.Moves.{take_out_if, leave, Freed, free_row}
use Rattle.thr_parts.specs.Dispatch.{dispatch, keeps}
use Rattle.thr_parts.specs.Threads as threads
use Rattle.thr_parts.specs.Threads.{ThreadsReply, rank_at}
use Rattle.thr_parts.specs.Conditions.{Conds}
use Rattle.thr_parts.specs.Waking.{Woken}
use Rattle.thr_parts.specs.Expiry.{is_due, due, due_first, expire_all}
use Rattle.thr_parts.specs.Keys.{Onces}
use Rattle.thr_parts.specs.OnceBlocks as once
use Rattle.thr_parts.proofs.EntryLaws.{itself}
use Rattle.thr_parts.proofs.TableLaws.{get_none, get_put, get_cut}
use Rattle.thr_laws.proofs.ReadingLaws.{AllLines}
use Rattle.thr_model.specs.States.{State, Debt, Return, Running, rank_of, all_owe, opening}
use Rattle.thr_model.specs.Calls.{answered, ready_if, first}
use Rattle.thr_model.specs.Turns.{handed_on, freed, thread_ended}
use Rattle.thr_model.specs.Events.{clock_to}
use Rattle.thr_model.specs.Histories.{Execution, History}
use Rattle.thr_answers.specs.Statuses.{Absent, status_of}
use Rattle.thr_answers.proofs.StatusMoves.{with_put, Becomes}
use Rattle.thr_answers.proofs.StatusRows.{all_map, all_numbers, all_in_order, all_found}
use Rattle.thr_answers.proofs.StatusCalls.{IsCalling}
use Rattle.thr_answers.proofs.StatusLives.{runs_still}
use Rattle.thr_answers.proofs.StatusTurns.{InOrder, HasRun, calls_calmly, absent_parts, ended_goes}
use Rattle.thr_answers.proofs.AnswerTurns.{agrees}
use Rattle.thr_waiting.proofs.EventsKept.{IsKeptByEvents, history_kept}
use Rattle.thr_waiting.proofs.SeatsStay.{SameNumbers, there_with, Sits, Stay, AllSit, best_sits, row_all_sit, comes_stays, keeps_stays, dispatch_stays, free_row_stays, wake_all_stays}
use Rattle.thr_waiting.proofs.Owers.{OwersSit, put_sits, cut_sits, all_owe_sits, due_owe_sits, woken_are, moved_sits}
use Rattle.thr_waiting.proofs.CallsSeated.{IsLeft, IfSits, answered_left}

-- Something is left to do in those that have a seat, and whoever owes something has one.
pub record IsSeated (st : State) : Type 0 where
  pub left : SameNumbers st.remainders st.rows.seats
  pub owers : OwersSit st.debts st.rows

-- The same in the turn of a thread, which has a seat.
record InTurn (t : Tid) (st : State) : Type 0 where
  seated : IsSeated st
  sits : Sits st.rows t.0

-- After what leaves all that.
left_turn : (t : Tid) (st after : State) → IsLeft st after → IsSeated st → Sits st.rows t.0 → InTurn t after
left_turn t st after l h s = record {
  seated = record {
    left = λ u. ap (λ (m : Table Remainder). is_some (get m u)) l.left ∙ h.left u ∙ sym (l.seats u);
    owers = moved_sits after.debts st.rows after.rows l.seats (l.owers h.owers);
  };
  sits = l.seats t.0 ∙ s;
}

-- ---- tables

put_both : {A B : Type 0} (m : Table A) (n : Table B) (w : ℕ) (x : A) (y : B) → SameNumbers m n → SameNumbers (put m w x) (put n w y)
put_both m n w x y h u = ap is_some (get_put m w u x) ∙ by_number (eqb w u) ∙ sym (ap is_some (get_put n w u y))
  where
    by_number : (b : Bool) → is_some (cond b (Some x) (get m u)) ≡ is_some (cond b (Some y) (get n u))
    by_number true = refl
    by_number false = h u

cut_both : {A B : Type 0} (m : Table A) (n : Table B) (w : ℕ) → SameNumbers m n → SameNumbers (cut m w) (cut n w)
cut_both m n w h u = ap is_some (get_cut m w u) ∙ by_number (eqb w u) ∙ sym (ap is_some (get_cut n w u))
  where
    by_number : (b : Bool) → is_some (cond b None (get m u)) ≡ is_some (cond b None (get n u))
    by_number true = refl
    by_number false = h u

put_there : {A : Type 0} (m : Table A) (w u : ℕ) (x : A) → is_some (get m u) ≡ true → is_some (get (put m w x) u) ≡ true
put_there m w u x h = ap is_some (get_put m w u x) ∙ by_number (eqb w u)
  where
    by_number : (b : Bool) → is_some (cond b (Some x) (get m u)) ≡ true
    by_number true = refl
    by_number false = h

-- ---- the opening

opening_seated : (s : Script) → IsSeated (opening s)
opening_seated s = record {
  left = λ u. put_both none none 1 _ _ (λ q. ap is_some (get_none q) ∙ sym (ap is_some (get_none q))) u;
  owers = λ u e. absurd (false≢true (sym (ap is_some (get_none u)) ∙ e));
}

-- ---- creations

created_left : (b : Bool) (rank : Tid → ℕ) (rs : Rows) (m : Table Remainder) (next : ℕ) (r : Remainder) → SameNumbers m rs.seats
    → SameNumbers (put_if m next (keep_if b (Some r))) (ready_if b rank rs (thread next)).seats
created_left true rank rs m next r h =
    let x : Seat = record { rank = rank (thread next); place = Stands row.Ready rs.next_arrival } in put_both m rs.seats next r x h
created_left false rank rs m next r h = h

created_sits : (b : Bool) (rank : Tid → ℕ) (rs : Rows) (next u : ℕ) → Sits rs u → Sits (ready_if b rank rs (thread next)) u
created_sits true rank rs next u s =
    let x : Seat = record { rank = rank (thread next); place = Stands row.Ready rs.next_arrival } in put_there rs.seats next u x s
created_sits false rank rs next u s = s

creates_turn : (s : Script) (st : State) (t : Tid) (routine : NameId) (n : ℤ) (o : ThreadsReply) → IsSeated st → Sits st.rows t.0
    → (let after : State = record st {
      threads = o.threads;
      remainders = put_if st.remainders st.threads.next (keep_if (is_value o.reply) (Some (fresh s routine n)));
      rows = ready_if (is_value o.reply) (rank_at o.threads) st.rows (thread st.threads.next);
    } in InTurn t after)
creates_turn s st t routine n o h sits = record {
  seated = record {
    left = created_left (is_value o.reply) (rank_at o.threads) st.rows st.remainders st.threads.next (fresh s routine n) h.left;
    owers = λ u e. created_sits (is_value o.reply) (rank_at o.threads) st.rows st.threads.next u (h.owers u e);
  };
  sits = created_sits (is_value o.reply) (rank_at o.threads) st.rows st.threads.next t.0 sits;
}

create_turn : (s : Script) (st : State) (t : Tid) (call : DceCall) (ns : List ℤ) → IsCanonical st.rows.seats → IsSeated st → Sits st.rows t.0 → InTurn t (answered s st t call ns).state
unfolding answered
create_turn s st t (dce.Create v a routine e) ns h k sits = creates_turn s st t routine (first ns) (threads.create st.threads t a) k sits
create_turn s st t call ns h k sits = left_turn t st (answered s st t call ns).state (answered_left s st t ns h sits call tt) k sits

-- ---- what ends a turn

handed_left : (st : State) (onces : Onces) (next : Option Tid) → IfSits st.rows next
    → (let o : once.Undone = record { onces = onces; rows = take_out_if st.rows next; runner = next } in IsLeft st (handed_on st o next))
handed_left st onces None s = record { seats = λ u. refl; owers = λ o. o; left = refl }
handed_left st onces (Some w) s =
    record { seats = comes_stays st.rows row.Ready w (rank_of st w) (s w refl); owers = put_sits st.debts st.rows w.0 Running (s w refl); left = refl }

undone_left : (st : State) (block : NameId) → IsCanonical st.rows.seats → (let o : once.Undone = once.undone st.onces st.rows block in IsLeft st (handed_on st o o.runner))
undone_left st block h =
    let o : once.Undone = once.undone st.onces st.rows block in handed_left st o.onces (best st.rows (row.Once block)) (best_sits st.rows (row.Once block) true h)

completed_left : (st : State) (block : NameId) → IsCanonical st.rows.seats
    → IsLeft st (freed (record st { onces = once.done st.onces block }) reply.Done (free_row (rank_of st) st.rows (row.Once block)))
completed_left st block h = record {
  seats = free_row_stays (rank_of st) st.rows (row.Once block) h;
  owers = all_owe_sits (best_first st.rows (row.Once block)) st.debts st.rows (Return reply.Done) (row_all_sit st.rows (row.Once block) h);
  left = refl;
}

module _ (s : Script) (st : State) (t : Tid) (v : ℤ) (order : InOrder st) (h : IsCanonical st.rows.seats) (run : HasRun st t.0) (owes_nothing : get st.debts t.0 ≡ None) (k : IsSeated st) where
  abbrev woken_waiters : Freed
  woken_waiters = free_row (rank_of st) st.rows (row.Join t)

  abbrev debts_then : Table Debt
  debts_then = all_owe st.debts (Return (reply.Value v)) woken_waiters.woken

  calm : IsCalling st t.0
  calm = calls_calmly st t.0 run order h owes_nothing

  runs : is_running (seat_of woken_waiters.rows t) ≡ true
  runs = runs_still st t run.seat calm run.at run.runs

  -- The thread that ends owes nothing.
  pays_all : get debts_then t.0 ≡ None
  pays_all =
      let gone : Becomes st.debts st.rows.seats st.conds.waits t.0 Absent debts_then (leave woken_waiters.rows t).seats st.conds.waits = ended_goes st t (Return (reply.Value v)) calm runs in
      (absent_parts (get debts_then t.0) (get (leave woken_waiters.rows t).seats t.0) (get st.conds.waits t.0) (gone t.0 ∙ ap (λ b. cond b Absent (status_of st t.0)) (itself t.0))).0

  waiters_stay : Stay st.rows woken_waiters.rows
  waiters_stay = free_row_stays (rank_of st) st.rows (row.Join t) h

  left_seat : (u : ℕ) → is_some (get (leave woken_waiters.rows t).seats u) ≡ is_some (get (cut woken_waiters.rows.seats t.0) u)
  left_seat u = ap (λ (b : Bool). is_some (get (cut_if b woken_waiters.rows.seats t.0) u)) runs

  still_owers : OwersSit debts_then woken_waiters.rows
  still_owers =
      moved_sits debts_then st.rows woken_waiters.rows waiters_stay
      (all_owe_sits (best_first st.rows (row.Join t)) st.debts st.rows (Return (reply.Value v)) (row_all_sit st.rows (row.Join t) h) k.owers)

  last_owers : (u : ℕ) (b : Bool) → eqb t.0 u ≡ b → is_some (get debts_then u) ≡ true → Sits (leave woken_waiters.rows t) u
  last_owers u true i e = absurd (false≢true (sym (ap is_some pays_all) ∙ ap (λ (q : ℕ). is_some (get debts_then q)) (eqb-true t.0 u i) ∙ e))
  last_owers u false i e =
      left_seat u ∙ ap is_some (get_cut woken_waiters.rows.seats t.0 u) ∙ ap (λ (b : Bool). is_some (cond b None (get woken_waiters.rows.seats u))) i ∙ still_owers u e

  ended_seated : IsSeated (thread_ended st t v woken_waiters)
  ended_seated = record {
    left = λ u. cut_both st.remainders woken_waiters.rows.seats t.0 (λ q. k.left q ∙ sym (waiters_stay q)) u ∙ sym (left_seat u);
    owers = λ u e. last_owers u (eqb t.0 u) refl e;
  }

-- ---- the clock

passing_by : (P : ℕ × Seat → Type 0) (e : ℕ × Seat) (fs : List (ℕ × Seat)) (b : Bool) → P e → AllLines P fs → AllLines P (if b then e ∷ fs else fs)
passing_by P e fs true h hs = (h, hs)
passing_by P e fs false h hs = hs

passing : (P : ℕ × Seat → Type 0) (test : ℕ × Seat → Bool) (es : List (ℕ × Seat)) → AllLines P es → AllLines P (filter test es)
passing P test [] h = tt
passing P test (e ∷ es) h = passing_by P e (filter test es) (test e) h.0 (passing P test es h.1)

due_sit : (cs : Conds) (rs : Rows) (now : ℤ) → IsCanonical rs.seats → AllSit rs (due_first cs rs now)
unfolding due
due_sit cs rs now h =
    all_numbers (λ (w : Tid). Sits rs w.0) (in_order (due cs rs now))
    (all_in_order (λ (e : ℕ × Seat). Sits rs e.0) (due cs rs now)
    (passing (λ (e : ℕ × Seat). Sits rs e.0) (λ (e : ℕ × Seat). is_due cs now e.0) rs.seats
    (all_map (λ (e : ℕ × Seat). get rs.seats e.0 ≡ Some e.1) (λ (e : ℕ × Seat). Sits rs e.0) (λ e at. ap is_some at) rs.seats (all_found rs.seats h))))

clock_seated : (st : State) (now : ℤ) → IsCanonical st.rows.seats → IsSeated st → IsSeated (clock_to st now).state
clock_seated st now h k =
    let ts : List Tid = due_first st.conds st.rows now in
    let o : Woken = expire_all (rank_of st) st.conds st.locks st.rows now in
    let all : AllSit st.rows ts = due_sit st.conds st.rows now h in
    let seats : Stay st.rows o.rows = wake_all_stays ts (rank_of st) st.conds st.locks st.rows all in record {
      left = λ u. k.left u ∙ sym (seats u);
      owers = moved_sits (clock_to st now).state.debts st.rows o.rows seats
          (due_owe_sits o.woken st.debts st.rows (subst (AllSit st.rows) (sym (woken_are ts (rank_of st) st.conds st.locks st.rows)) all) k.owers);
    }

-- ---- histories

abbrev Orderly : Script → State → Type 0
Orderly s st = InOrder st

abbrev Seated : Script → State → Type 0
Seated s st = IsSeated st

abbrev Turning : Script → Tid → State → Type 0
Turning s t st = InTurn t st

seated_by_events : IsKeptByEvents Orderly Seated Turning
seated_by_events = record {
  opens = opening_seated;
  begins = λ s st t i run h. record { seated = h; sits = ap is_some run.at };
  pays = λ s st t h. record { seated = record { left = h.seated.left; owers = cut_sits st.debts st.rows t.0 h.seated.owers }; sits = h.sits };
  calls = λ s st t call ns i c h. create_turn s st t call ns i.tables.seats h (ap is_some c.run.at);
  stores = λ s st t shared h. record { seated = record { left = h.seated.left; owers = h.seated.owers }; sits = h.sits };
  delivers = λ s st t i run h. record { seated = record { left = h.left; owers = h.owers }; sits = ap is_some run.at };
  undoes = λ s st t block i run h.
      let o : once.Undone = once.undone st.onces st.rows block in left_turn t st (handed_on st o o.runner) (undone_left st block i.tables.seats) h (ap is_some run.at);
  completes = λ s st t block i run h.
      left_turn t st (freed (record st { onces = once.done st.onces block }) reply.Done (free_row (rank_of st) st.rows (row.Once block))) (completed_left st block i.tables.seats) h (ap is_some run.at);
  destroys = λ s st t onces h. record { seated = record { left = h.seated.left; owers = h.seated.owers }; sits = h.sits };
  moves = λ s st t r h. record {
    left = λ u. there_with st.remainders (put st.remainders t.0 r) t.0 r (with_put st.remainders t.0 r) (h.seated.left t.0 ∙ h.sits) u ∙ h.seated.left u;
    owers = h.seated.owers;
  };
  ends = λ s st t v i run e h. ended_seated s st t v i.more i.tables.seats run e h;
  keeps = λ s st t fifo h. record {
    left = λ u. h.left u ∙ sym (keeps_stays st.rows t fifo u);
    owers = moved_sits st.debts st.rows (keeps st.rows t fifo).rows (keeps_stays st.rows t fifo) h.owers;
  };
  takes = λ s st p i h. record {
    left = λ u. h.left u ∙ sym (dispatch_stays st.rows p i.tables.seats u);
    owers = moved_sits st.debts st.rows (dispatch st.rows p).rows (dispatch_stays st.rows p i.tables.seats) h.owers;
  };
  passes = λ s st now i h. clock_seated st now i.tables.seats h;
}

pub history_seated : {s : Script} {n : ℕ} {x : Execution} → History s n x → IsSeated x.state
history_seated {s} {n} {x} h = history_kept Orderly Seated Turning seated_by_events (λ y k. (agrees k).order) h
