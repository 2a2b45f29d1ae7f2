-- What a thread owes after a call, and whether it has a wait.
use Rattle.std.proofs.Common.{◌≡◌, ℕ, suc, ℤ, Bool, true, false, eqb, List, [], Option, Some, None, refl, sym, ◌∙◌, ap, subst, arith}
use Rattle.std.proofs.lemmas.Bool.Decides.{nat_tests}
use Rattle.std.proofs.lemmas.Bool.{false≢true}
use Rattle.std.specs.Prelude.{if◌then◌else◌}
use Rattle.thr_values.specs.declared.number.NameId.{NameId}
use Rattle.thr_values.specs.declared.number.Tid.{Tid}
use Rattle.thr_values.specs.declared.reply.Reply.{Reply}
use Rattle.thr_values.specs.declared.reply.Reply.TheVariants as reply
use Rattle.thr_syntax.specs.declared.dce.DceCall.{DceCall}
use Rattle.thr_syntax.specs.declared.dce.DceCall.TheVariants as dce
use Rattle.thr_syntax.specs.declared.tree.Script.{Script}
use Rattle.thr_parts.specs.declared.row.RowId.{RowId}
use Rattle.thr_parts.specs.declared.row.RowId.TheVariants as row
use Rattle.thr_parts.specs.declared.row.Seat.{Seat}
use Rattle.thr_parts.specs.declared.wait.Wait.{Wait}
use Rattle.thr_parts.specs.Tables.{Table, get, put, has, IsCanonical}
use Rattle.thr_parts.specs.Replies.{is_value}
use Rattle.thr_parts.specs.Rows.{Rows, row_at, best, best_first, is_among}
use Rattle.thr_parts.specs.Locking.{unlock}
use Rattle.thr_parts.specs.Conditions.{Waited, wait, timedwait}
use Rattle.thr_parts.specs.Waking.{signal}
use Rattle.thr_parts.specs.Pipes.{ReadReply, WriteReply, pipe_at, read, write}
use Rattle.thr_parts.proofs.StandingLaws.{among_is}
use Rattle.thr_parts.proofs.PartLaws.{canonical_free_row}
use Rattle.thr_parts.specs.Closing.{free_if}
use Rattle.thr_model.specs.States.{State, Debt, Return, rank_of, owes_or_keeps}
use Rattle.thr_model.specs.Calls.{answered, given_state, signals_one, woken_state, first}
use Rattle.thr_cancels.proofs.CallSeats.{kept_best, signalled}
use Rattle.thr_cancels.proofs.Owed.{is_bound, IsOwed, stays, not_calm, put_owes, keeps_owes, all_owes, best_free, row_free, woken_are, StaysFree, without_free, put_free, wake_all_free}
use Rattle.thr_cancels.proofs.Seats.{IsMoved, same, woken, stopped, created, free_if_moves, same_row, is_calm, is_calm_row}

-- What becomes of what a thread owes and of its wait, where another has this turn.
pub record IsLeft (t u : ℕ) (st st' : State) : Type 0 where
  pub debts : IsOwed (get st.debts u) (get st'.debts u) (get st.rows.seats u) (get st.conds.waits u)
  pub waits : eqb t u ≡ false → StaysFree u st.conds st'.conds

module _ (t u : ℕ) where
  unlocks_left : (st now : State) (rs : Rows) (o : Option Tid) → now.debts ≡ st.debts → (eqb t u ≡ false → StaysFree u st.conds now.conds) → IsLeft t u st (given_state now rs o)
  unlocks_left st now rs None same_debts f = record { debts = stays (ap (λ (d : Table Debt). get d u) same_debts); waits = f }
  unlocks_left st now rs (Some k) same_debts f = record {
    debts = subst (λ (d : Table Debt). IsOwed (get st.debts u) (get (owes_or_keeps d (Return reply.Done) k) u) (get st.rows.seats u) (get st.conds.waits u)) (sym same_debts)
        (keeps_owes u (get st.rows.seats u) (get st.conds.waits u) st.debts k (Return reply.Done) refl);
    waits = f;
  }

  signals_left : (st : State) (c : NameId) (w : Option (Tid × NameId)) → (signal st.conds st.rows c).waiter ≡ w → IsCanonical st.rows.seats
      → IsLeft t u st (signals_one st (signal st.conds st.rows c) w).state
  signals_left st c None e h = record { debts = stays refl; waits = λ _. without_free u st.conds _ }
  signals_left st c (Some w) e h = record {
    debts = put_owes u (get st.rows.seats u) (get st.conds.waits u) st.debts st.debts w.0.0 (Return reply.Done) refl
        (best_free u (get st.debts u) st.rows (get st.conds.waits u) (row.Cond c) w.0 refl h (signalled st.conds (best st.rows (row.Cond c)) (has st.conds.made c.0) w e)) (stays refl);
    waits = λ _. without_free u st.conds _;
  }

  woken_left : (st now : State) (rs : Rows) (y : Reply) (o : Option Tid) → now.debts ≡ st.debts → now.conds ≡ st.conds → ((k : Tid) → o ≡ Some k → eqb k.0 u ≡ true → is_bound (get st.debts u) (get st.rows.seats u) (get st.conds.waits u) ≡ false)
      → IsLeft t u st (woken_state now rs y o)
  woken_left st now rs y None d c free = record { debts = stays (ap (λ (d : Table Debt). get d u) d); waits = λ _. subst (StaysFree u st.conds) (sym c) (λ e. e) }
  woken_left st now rs y (Some k) d c free = record {
    debts = subst (λ (d : Table Debt). IsOwed (get st.debts u) (get (put d k.0 (Return y)) u) (get st.rows.seats u) (get st.conds.waits u)) (sym d)
        (put_owes u (get st.rows.seats u) (get st.conds.waits u) st.debts st.debts k.0 (Return y) refl (free k refl) (stays refl));
    waits = λ _. subst (StaysFree u st.conds) (sym c) (λ e. e);
  }

  among_if : (b : Bool) (d : Option Debt) (rs : Rows) (x : Option Wait) (r : RowId) → is_calm_row r ≡ false → IsCanonical rs.seats → is_among (record { 0 = u }) (if b then best_first rs r else []) ≡ true
      → is_bound d (get rs.seats u) x ≡ false
  among_if true d rs x r k h e = row_free u d rs x r k h e
  among_if false d rs x r k h e = absurd (false≢true e)

  abbrev After : State → Option Seat → Type 0
  After st o = IsMoved (suc u) (suc u) u false (get st.rows.seats u) o

  -- A thread that stands as a writer once the readers are free stood so before.
  not_itself : (q : ℕ) → eqb (suc q) q ≡ true → ⊥
  not_itself q e = grind (arith, nat_tests)

  writer_before : (a b : Option Seat) (r : RowId) → is_calm_row r ≡ false → IsMoved (suc u) (suc u) u false a b → row_at b ≡ Some r → row_at a ≡ Some r
  writer_before a b r k (same e) f = sym (same_row a b e) ∙ f
  writer_before a b r k (woken s c) f = absurd (false≢true (sym (ap is_calm f ∙ k) ∙ c))
  writer_before a b r k (stopped e c) f = absurd (not_itself u e)
  writer_before a b r k (created e c) f = absurd (not_itself u e)

  writers_free : (b : Bool) (st : State) (p : NameId) → IsCanonical st.rows.seats
      → (let readers : Rows = (free_if b (rank_of st) st.rows (row.Reader p)).rows in is_among (record { 0 = u }) (free_if b (rank_of st) readers (row.Writer p)).woken ≡ true)
      → is_bound (get st.debts u) (get st.rows.seats u) (get st.conds.waits u) ≡ false
  writers_free false st p h e = absurd (false≢true e)
  writers_free true st p h e =
      let readers : Rows = (free_if true (rank_of st) st.rows (row.Reader p)).rows in
      not_calm (get st.debts u) (get st.rows.seats u) (get st.conds.waits u) (row.Writer p)
      (writer_before (get st.rows.seats u) (get readers.seats u) (row.Writer p) refl (free_if_moves (suc u) (suc u) u false true (rank_of st) st.rows (row.Reader p) h)
      ((among_is readers (row.Writer p) (record { 0 = u }) (canonical_free_row (rank_of st) st.rows (row.Reader p) h)).0 e)) refl

  readers_free : (b : Bool) (st : State) (p : NameId) → IsCanonical st.rows.seats → is_among (record { 0 = u }) (free_if b (rank_of st) st.rows (row.Reader p)).woken ≡ true
      → is_bound (get st.debts u) (get st.rows.seats u) (get st.conds.waits u) ≡ false
  readers_free false st p h e = absurd (false≢true e)
  readers_free true st p h e = row_free u (get st.debts u) st.rows (get st.conds.waits u) (row.Reader p) refl h e

abbrev pub cancels_one : DceCall → Bool
cancels_one (dce.Cancel e) = true
cancels_one _ = false

pub answered_left : (s : Script) (st : State) (t : Tid) (call : DceCall) (ns : List ℤ) (u : ℕ) → cancels_one call ≡ false → IsCanonical st.rows.seats → IsLeft t.0 u st (answered s st t call ns).state
unfolding answered
answered_left s st t (dce.Cancel e) ns u not_one h = absurd (false≢true (sym not_one))
answered_left s st t (dce.DelayNp e) ns u not_one h = record { debts = stays refl; waits = λ f. put_free u st.conds.waits t.0 _ f }
answered_left s st t (dce.MutexUnlock m) ns u not_one h =
    let o = unlock st.locks st.rows (Some m) t in unlocks_left t.0 u st (record st { locks = o.locks }) o.rows o.given refl (λ _ e. e)
answered_left s st t dce.UnlockGlobalNp ns u not_one h =
    let o = unlock st.locks st.rows None t in unlocks_left t.0 u st (record st { locks = o.locks }) o.rows o.given refl (λ _ e. e)
answered_left s st t (dce.CondWait c m) ns u not_one h =
    let o : Waited = wait st.conds st.locks st.rows c m t (rank_of st t) in
    unlocks_left t.0 u st (record st { conds = o.conds; locks = o.locks }) o.rows o.given refl (λ f. put_free u st.conds.waits t.0 _ f)
answered_left s st t (dce.CondTimedwait c m e) ns u not_one h =
    let o : Waited = timedwait st.conds st.locks st.rows c m (first ns) st.clock t (rank_of st t) in
    unlocks_left t.0 u st (record st { conds = o.conds; locks = o.locks }) o.rows o.given refl (λ f. put_free u st.conds.waits t.0 _ f)
answered_left s st t (dce.CondSignal c) ns u not_one h = signals_left t.0 u st c (signal st.conds st.rows c).waiter refl h
answered_left s st t (dce.CondBroadcast c) ns u not_one h =
    let ts : List Tid = if has st.conds.made c.0 then best_first st.rows (row.Cond c) else [] in record {
      debts = all_owes u (get st.rows.seats u) (get st.conds.waits u) st.debts st.debts (Return reply.Done) _ refl
          (λ e. among_if t.0 u (has st.conds.made c.0) (get st.debts u) st.rows (get st.conds.waits u) (row.Cond c) refl h
          (subst (λ (l : List Tid). is_among (record { 0 = u }) l ≡ true) (woken_are (rank_of st) st.conds st.locks st.rows ts) e)) (stays refl);
      waits = λ _. wake_all_free u (rank_of st) st.conds st.locks st.rows ts;
    }
answered_left s st t (dce.Read p v w) ns u not_one h =
    let o : ReadReply = read st.pipes st.rows p t (rank_of st t) in
    woken_left t.0 u st (record st { pipes = o.pipes }) o.rows reply.Done o.relieved refl refl
    (λ k e f. best_free u (get st.debts u) st.rows (get st.conds.waits u) (row.Writer p) k refl h (kept_best (is_value o.reply) (best st.rows (row.Writer p)) k e) f)
answered_left s st t (dce.Write p e) ns u not_one h =
    let o : WriteReply = write st.pipes st.rows p (first ns) t (rank_of st t) in
    woken_left t.0 u st (record st { pipes = o.pipes }) o.rows (reply.Value (first ns)) o.reader refl refl
    (λ k g f. best_free u (get st.debts u) st.rows (get st.conds.waits u) (row.Reader p) k refl h (kept_best (pipe_at st.pipes p).is_open (best st.rows (row.Reader p)) k g) f)
answered_left s st t (dce.Close p) ns u not_one h =
    let opened : Bool = (pipe_at st.pipes p).is_open in record {
      debts = all_owes u (get st.rows.seats u) (get st.conds.waits u) st.debts _ (Return reply.Epipe) _ refl (writers_free t.0 u opened st p h)
          (all_owes u (get st.rows.seats u) (get st.conds.waits u) st.debts st.debts (Return reply.Eof) _ refl (readers_free t.0 u opened st p h) (stays refl));
      waits = λ _ e. e;
    }
answered_left s st t _ ns u not_one h = record { debts = stays refl; waits = λ _ e. e }
