-- What follows for threads that stand in the row of a once block or owe its running follows after each turn, and what is left in
-- other threads stays.
use Rattle.std.proofs.Common.{◌≡◌, ℕ, ℤ, Bool, true, false, cond, eqb, List, Option, Some, None, Ok, Err, refl, sym, ◌∙◌, ap, subst}
use Rattle.std.proofs.lemmas.Bool.{eqb-true, eq-eqb, false≢true}
use Rattle.std.specs.Prelude.{if◌then◌else◌}
use Rattle.thr_values.specs.declared.number.NameId.{NameId}
use Rattle.thr_values.specs.declared.number.Tid.{Tid}
use Rattle.thr_values.specs.declared.exception.Exc.{Exc}
use Rattle.thr_values.specs.declared.reply.Reply.{Reply}
use Rattle.thr_values.specs.declared.reply.Reply.TheVariants as reply
use Rattle.thr_syntax.specs.declared.dce.DceCall.{DceCall}
use Rattle.thr_syntax.specs.declared.tree.Script.{Script}
use Rattle.thr_remainder.specs.Acts.{Act, Asks}
use Rattle.thr_remainder.specs.Remainders.{Setting, Remainder, has_room, act_at, place_in}
use Rattle.thr_remainder.specs.Starts.{raised, delivered, begins_destructor}
use Rattle.thr_remainder.specs.Steps.{shared_step, written}
use Rattle.thr_remainder.specs.Calls.{expressions_of}
use Rattle.thr_remainder.specs.Replies.{Values, values_of, needs_two_frames, asked, replied}
use Rattle.thr_remainder.specs.Runs.{Halt, Delivers, Shares, Undoes, Completes, Ends, Pauses, Run, run_of, most_steps}
use Rattle.thr_parts.specs.declared.row.RowId.TheVariants as row
use Rattle.thr_parts.specs.Tables.{Table, get, at, put, cut, IsCanonical}
use Rattle.thr_parts.specs.Replies.{is_blocks}
use Rattle.thr_parts.specs.Rows.{Rows, best, best_first}
use Rattle.thr_parts.specs.Moves.{Freed, take_out_if, free_row}
use Rattle.thr_parts.specs.Threads.{record_at}
use Rattle.thr_parts.specs.Cancels.{mode_at}
use Rattle.thr_parts.specs.Keys.{DestructorCall, NextDestructor, next_destructor}
use Rattle.thr_parts.specs.OnceBlocks as once
use Rattle.thr_parts.proofs.TableLaws.{at_put, at_cut}
use Rattle.thr_parts.proofs.RowLaws.{best_stands}
use Rattle.thr_model.specs.States.{State, Debt, Return, Delivery, Running, nothing_left, remainder_of, setting_of, rank_of, debt_of, shared_values}
use Rattle.thr_model.specs.Calls.{Answered, answered}
use Rattle.thr_model.specs.Turns.{Made, after_reply, called, written_to, shared_made, handed_on, end_made, begun_at, debt_made, halt_made, turn_by, kept, is_fifo_in, turn_of}
use Rattle.thr_answers.proofs.DebtsKept.{LeavesLeft, put_left, answered_left}
use Rattle.thr_beginnings.proofs.OnceRows.{is_once_row, in_once, Follows, row_follows, out_follows, leave_follows, keeps_follows, all_ready_follows}
use Rattle.thr_beginnings.proofs.RunningDebts.{owes_running, FollowsOwed, owe_follows, paid_follows, all_follows}
use Rattle.thr_beginnings.proofs.CallsFollow.{FollowsIn, answered_follows}

-- ---- room that was asked for

room_by : (b c : Bool) (vs : Values) (x : Exc) (ns : List ℤ) → (if b then (if c then vs else Err x) else vs) ≡ Ok ns → b ≡ true → c ≡ true
room_by true true vs x ns e f = refl
room_by true false vs x ns e f = absurd (cc)
room_by false c vs x ns e f = absurd (false≢true f)

-- `pthread_once` asks only where two frames are free.
pub asked_room : (g : Setting) (shared : _) (call : DceCall) (r : Remainder) (ns : List ℤ) → asked g shared call r ≡ Ok ns → needs_two_frames call ≡ true → has_room g r 2 ≡ true
unfolding asked
asked_room g shared call r ns e needs = room_by (needs_two_frames call) (has_room g r 2) (values_of g shared r (expressions_of call)) _ ns e needs

-- Where it blocks, what is left stays.
blocked_left : (g : Setting) (call : DceCall) (runs : Bool) (r : Remainder) (y : Reply) → is_blocks y ≡ true → (after_reply g call runs r y).to ≡ r
blocked_left g call runs r reply.Blocks e = refl
blocked_left g call runs r y e = absurd (cc)

-- What is left in the thread has two free frames, by this setting of it.
abbrev pub HasTwo : (ℕ → Setting) → Table Remainder → ℕ → Type 0
HasTwo gs m u = has_room (gs u) (at m u nothing_left) 2 ≡ true

at_itself : (m : Table Remainder) (t : ℕ) (r : Remainder) → at (put m t r) t nothing_left ≡ r
at_itself m t r = at_put m t t r nothing_left ∙ ap (λ b. cond b r (at m t nothing_left)) (eq-eqb t t refl)

put_two : (gs : ℕ → Setting) (m : Table Remainder) (t u : ℕ) (r r' : Remainder) → r' ≡ r → has_room (gs t) r 2 ≡ true → eqb t u ≡ true → HasTwo gs (put m t r') u
put_two gs m t u r r' same room e =
    subst (λ (q : ℕ). HasTwo gs (put m t r') q) (eqb-true t u e) (ap (λ (x : Remainder). has_room (gs t) x 2) (at_itself m t r' ∙ same) ∙ room)

unlike : (t u : ℕ) → eqb t u ≡ false → t ≡ u → ⊥
unlike t u e i = false≢true (sym e ∙ eq-eqb t u i)

-- ---- what is left in other threads

module _ (s : Script) (t : Tid) (u : ℕ) (apart : eqb t.0 u ≡ false) where
  put_other : (m m' : Table Remainder) (r : Remainder) → at m' u nothing_left ≡ at m u nothing_left → at (put m' t.0 r) u nothing_left ≡ at m u nothing_left
  put_other m m' r e = put_left m' t.0 u r (eqb t.0 u) refl (unlike t.0 u apart) ∙ e

  called_left : (st : State) (g : Setting) (call : DceCall) (r : Remainder) (v : Values) → (st.threads.next ≡ u → ⊥) → LeavesLeft st (called s st t g call r v).state.remainders u
  called_left st g call r (Ok ns) old = let o : Answered = answered s st t call ns in put_other st.remainders o.state.remainders (after_reply g call o.runs r o.reply).to (answered_left s st t call ns u old)
  called_left st g call r (Err x) old = put_other st.remainders st.remainders (raised x r).to refl

  written_left : (st : State) (o : Option (NameId × ℤ)) (r : Remainder) → LeavesLeft st (put (written_to st o).remainders t.0 r) u
  written_left st None r = put_other st.remainders st.remainders r refl
  written_left st (Some w) r = put_other st.remainders st.remainders r refl

  shared_left : (st : State) (g : Setting) (r : Remainder) (act : Act) → (st.threads.next ≡ u → ⊥) → LeavesLeft st (shared_made s st t g r act).state.remainders u
  shared_left st g r (Asks call) old = called_left st g call r (asked g (shared_values st) call r) old
  shared_left st g r _ old = written_left st (written g (shared_values st) r) (shared_step g (shared_values st) r).to

  handed_left : (st : State) (o : once.Undone) (w : Option Tid) (r : Remainder) → LeavesLeft st (put (handed_on st o w).remainders t.0 r) u
  handed_left st o None r = put_other st.remainders st.remainders r refl
  handed_left st o (Some w) r = put_other st.remainders st.remainders r refl

  end_left : (st : State) (g : Setting) (r : Remainder) (o : NextDestructor) (c : Option DestructorCall) → LeavesLeft st (end_made st t g r o c).state.remainders u
  end_left st g r o (Some c) = put_other st.remainders st.remainders (begins_destructor g c.0 c.1 c.2 r).to refl
  end_left st g r o None = at_cut st.remainders t.0 u nothing_left ∙ ap (λ b. cond b nothing_left (at st.remainders u nothing_left)) apart

  debt_left : (st : State) (g : Setting) (r : Remainder) (d : Debt) → LeavesLeft st (debt_made st t g r d).state.remainders u
  debt_left st g r (Return y) = put_other st.remainders st.remainders (replied g y r).to refl
  debt_left st g r Delivery = put_other st.remainders st.remainders (delivered r).to refl
  debt_left st g r Running = put_other st.remainders st.remainders (begun_at g (place_in r.items) (replied g reply.Done r)).to refl

  halt_left : (st : State) (g : Setting) (r : Remainder) (halt : Halt) → (st.threads.next ≡ u → ⊥) → LeavesLeft st (halt_made s st t g r halt).state.remainders u
  halt_left st g r Delivers old = put_other st.remainders st.remainders (delivered r).to refl
  halt_left st g r (Shares h) old = shared_left st g r (act_at h) old
  halt_left st g r (Undoes block m) old = let o : once.Undone = once.undone st.onces st.rows block in handed_left st o o.runner m.to
  halt_left st g r (Completes block m) old = put_other st.remainders st.remainders m.to refl
  halt_left st g r Ends old = let o : NextDestructor = next_destructor st.onces t in end_left st g r o o.call
  halt_left st g r Pauses old = put_other st.remainders st.remainders r refl

  turn_by_left : (st : State) (d : Option Debt) → (st.threads.next ≡ u → ⊥) → LeavesLeft st (turn_by s st t d).state.remainders u
  turn_by_left st (Some d) old = debt_left (record st { debts = cut st.debts t.0 }) (setting_of s st t) (remainder_of st t) d
  turn_by_left st None old =
      let run : Run = run_of most_steps (setting_of s st t) (mode_at st.threads t) (remainder_of st t) in halt_left st (setting_of s st t) run.to run.halt old

  -- What is left in a thread stays through the turn of another.
  pub turn_left : (st : State) → (st.threads.next ≡ u → ⊥) → LeavesLeft st (turn_of s st t).state.remainders u
  unfolding turn_of
  turn_left st old = turn_by_left st (debt_of st t) old

-- ---- what follows

module _ (s : Script) (t : Tid) (u : ℕ) (gs : ℕ → Setting) (B : Type 0) (own : eqb t.0 u ≡ true → B) where
  -- It is that the thread has two free frames in the state that is made, and a fact that holds of the thread whose turn it is.
  abbrev pub Two : Made → Type 0
  Two made = HasTwo gs made.state.remainders u × B

  abbrev pub Follow : Made → State → Type 0
  Follow made st = FollowsIn u (Two made) st

  called_follows : (st : State) (g : Setting) (call : DceCall) (r : Remainder) (v : Values) → asked g (shared_values st) call r ≡ v → g ≡ gs t.0 → Follow (called s st t g call r v) st → Follow (called s st t g call r v) (called s st t g call r v).state
  called_follows st g call r (Ok ns) e is h =
      let o : Answered = answered s st t call ns in
      let k : Follow (called s st t g call r (Ok ns)) o.state =
      answered_follows u (Two (called s st t g call r (Ok ns))) s st t call ns
      (λ needs blocks here. (
        put_two gs o.state.remainders t.0 u r (after_reply g call o.runs r o.reply).to (blocked_left g call o.runs r o.reply blocks)
            (subst (λ (x : Setting). has_room x r 2 ≡ true) is (asked_room g (shared_values st) call r ns e needs)) here,
        own here,
      )) h in
      record { rows = k.rows; owed = k.owed }
  called_follows st g call r (Err x) e is h = record { rows = h.rows; owed = h.owed }

  written_follows : (A : Type 0) (st : State) (o : Option (NameId × ℤ)) → FollowsIn u A st → FollowsIn u A (written_to st o)
  written_follows A st None h = h
  written_follows A st (Some w) h = record { rows = h.rows; owed = h.owed }

  moved_follows : (A : Type 0) (st : State) (r : Remainder) → FollowsIn u A st → FollowsIn u A (record st { remainders = put st.remainders t.0 r })
  moved_follows A st r h = record { rows = h.rows; owed = h.owed }

  shared_follows : (st : State) (g : Setting) (r : Remainder) (act : Act) → g ≡ gs t.0 → Follow (shared_made s st t g r act) st → Follow (shared_made s st t g r act) (shared_made s st t g r act).state
  shared_follows st g r (Asks call) is h = called_follows st g call r (asked g (shared_values st) call r) refl is h
  shared_follows st g r act is h =
      moved_follows (Two (shared_made s st t g r act)) (written_to st (written g (shared_values st) r)) (shared_step g (shared_values st) r).to
      (written_follows (Two (shared_made s st t g r act)) st (written g (shared_values st) r) h)

  -- The one that goes on with a once block stood in its row.
  runner_stood : (A : Type 0) (rs : Rows) (block : NameId) (w : Tid) → IsCanonical rs.seats → best rs (row.Once block) ≡ Some w → Follows u A rs.seats → eqb w.0 u ≡ true → A
  runner_stood A rs block w sorted e h here =
      h (ap (λ (q : ℕ). in_once (get rs.seats q)) (sym (eqb-true w.0 u here)) ∙ ap is_once_row (best_stands rs (row.Once block) w sorted e))

  handed_follows : (A : Type 0) (st : State) (o : once.Undone) (block : NameId) (w : Option Tid) → IsCanonical st.rows.seats → best st.rows (row.Once block) ≡ w → o.rows ≡ take_out_if st.rows w → FollowsIn u A st → FollowsIn u A (handed_on st o w)
  handed_follows A st o block None sorted e out h = record { rows = subst (λ (rs : Rows). Follows u A rs.seats) (sym out) h.rows; owed = h.owed }
  handed_follows A st o block (Some w) sorted e out h = record {
    rows = row_follows u A o.rows row.Ready w (rank_of st w) refl (subst (λ (rs : Rows). Follows u A rs.seats) (sym out) (out_follows u A st.rows (Some w) h.rows));
    owed = owe_follows u A st.debts w.0 Running (λ _ here. runner_stood A st.rows block w sorted e h.rows here) h.owed;
  }

  freed_follows : (A : Type 0) (st : State) (r : _) → Follows u A st.rows.seats → Follows u A (free_row (rank_of st) st.rows r).rows.seats
  freed_follows A st r h = all_ready_follows u A (rank_of st) st.rows (best_first st.rows r) h

  end_follows : (A : Type 0) (st : State) (g : Setting) (r : Remainder) (o : NextDestructor) (c : Option DestructorCall) → FollowsIn u A st → FollowsIn u A (end_made st t g r o c).state
  end_follows A st g r o (Some c) h = record { rows = h.rows; owed = h.owed }
  end_follows A st g r o None h =
      let f : Freed = free_row (rank_of st) st.rows (row.Join t) in record {
        rows = leave_follows u A f.rows t (freed_follows A st (row.Join t) h.rows);
        owed = all_follows u A f.woken st.debts (Return (reply.Value r.value)) refl h.owed;
      }

  debt_follows : (A : Type 0) (st : State) (g : Setting) (r : Remainder) (d : Debt) → FollowsIn u A st → FollowsIn u A (debt_made st t g r d).state
  debt_follows A st g r (Return y) h = record { rows = h.rows; owed = h.owed }
  debt_follows A st g r Delivery h = record { rows = h.rows; owed = h.owed }
  debt_follows A st g r Running h = record { rows = h.rows; owed = h.owed }

  halt_follows : (st : State) (g : Setting) (r : Remainder) (halt : Halt) → IsCanonical st.rows.seats → g ≡ gs t.0 → Follow (halt_made s st t g r halt) st → Follow (halt_made s st t g r halt) (halt_made s st t g r halt).state
  halt_follows st g r Delivers sorted is h = record { rows = h.rows; owed = h.owed }
  halt_follows st g r (Shares spot) sorted is h = shared_follows st g r (act_at spot) is h
  halt_follows st g r (Undoes block m) sorted is h =
      let o : once.Undone = once.undone st.onces st.rows block in
      moved_follows (Two (halt_made s st t g r (Undoes block m))) (handed_on st o o.runner) m.to
      (handed_follows (Two (halt_made s st t g r (Undoes block m))) st o block o.runner sorted refl refl h)
  halt_follows st g r (Completes block m) sorted is h = record {
    rows = freed_follows (Two (halt_made s st t g r (Completes block m))) st (row.Once block) h.rows;
    owed = all_follows u (Two (halt_made s st t g r (Completes block m))) (best_first st.rows (row.Once block)) st.debts (Return reply.Done) refl h.owed;
  }
  halt_follows st g r Ends sorted is h = let o : NextDestructor = next_destructor st.onces t in end_follows (Two (halt_made s st t g r Ends)) st g r o o.call h
  halt_follows st g r Pauses sorted is h = record { rows = h.rows; owed = h.owed }

  -- The same of what the thread owes whose turn it is, which it pays.
  pub record FollowsBefore (A : Type 0) (st : State) : Type 0 where
    pub rows : Follows u A st.rows.seats
    pub owed : eqb t.0 u ≡ false → FollowsOwed u A st.debts

  owes_nothing : (A : Type 0) (st : State) (b : Bool) → eqb t.0 u ≡ b → debt_of st t ≡ None → (eqb t.0 u ≡ false → FollowsOwed u A st.debts) → FollowsOwed u A st.debts
  owes_nothing A st true here none h e = absurd (false≢true (sym (ap (λ (q : ℕ). owes_running (get st.debts q)) (sym (eqb-true t.0 u here)) ∙ ap owes_running none) ∙ e))
  owes_nothing A st false apart none h e = h apart e

  turn_by_follows : (st : State) (d : Option Debt) → debt_of st t ≡ d → IsCanonical st.rows.seats → setting_of s st t ≡ gs t.0 → FollowsBefore (Two (turn_by s st t d)) st → Follow (turn_by s st t d) (turn_by s st t d).state
  turn_by_follows st (Some d) owed sorted is h =
      debt_follows (Two (turn_by s st t (Some d))) (record st { debts = cut st.debts t.0 }) (setting_of s st t) (remainder_of st t) d
      (record { rows = h.rows; owed = paid_follows u (Two (turn_by s st t (Some d))) st.debts t.0 h.owed })
  turn_by_follows st None owed sorted is h =
      let run : Run = run_of most_steps (setting_of s st t) (mode_at st.threads t) (remainder_of st t) in
      let k : Follow (halt_made s st t (setting_of s st t) run.to run.halt) (halt_made s st t (setting_of s st t) run.to run.halt).state =
      halt_follows st (setting_of s st t) run.to run.halt sorted is (record { rows = h.rows; owed = owes_nothing (Two (turn_by s st t None)) st (eqb t.0 u) refl owed h.owed }) in
      record { rows = k.rows; owed = k.owed }

  kept_follows : (made : Made) → Follow made made.state → Follow (kept t made) (kept t made).state
  kept_follows made h = record { rows = keeps_follows u (Two made) made.state.rows t (is_fifo_in (record_at made.state.threads t)) h.rows; owed = h.owed }

  -- What follows before a turn follows after it.
  pub turn_follows : (st : State) → IsCanonical st.rows.seats → setting_of s st t ≡ gs t.0 → FollowsBefore (Two (turn_of s st t)) st → Follow (turn_of s st t) (turn_of s st t).state
  unfolding turn_of
  turn_follows st sorted is h = kept_follows (turn_by s st t (debt_of st t)) (turn_by_follows st (debt_of st t) refl sorted is (record { rows = h.rows; owed = h.owed }))
