-- Calls of other threads, signals, broadcasts and cancels apart, leave a thread's wait on a condition and what it owes.
use Rattle.std.proofs.Common.{◌≡◌, ℕ, suc, ℤ, Bool, true, false, eqb, List, Option, Some, None, refl, sym, ap, ◌∙◌}
use Rattle.std.proofs.lemmas.Bool.{false≢true}
use Rattle.thr_values.specs.declared.number.NameId.{NameId}
use Rattle.thr_values.specs.declared.number.Tid.{Tid}
use Rattle.thr_values.specs.declared.reply.Reply.{Reply}
use Rattle.thr_values.specs.declared.reply.Reply.TheVariants as reply
use Rattle.thr_syntax.specs.declared.expr.Expr.{Expr}
use Rattle.thr_syntax.specs.declared.expr.Var.{Var}
use Rattle.thr_syntax.specs.declared.dce.DceCall.{DceCall}
use Rattle.thr_syntax.specs.declared.dce.DceCall.TheVariants as dce
use Rattle.thr_syntax.specs.declared.tree.Script.{Script}
use Rattle.thr_parts.specs.declared.row.RowId.TheVariants as row
use Rattle.thr_parts.specs.Tables.{Table, get, IsCanonical}
use Rattle.thr_parts.specs.Replies.{is_value}
use Rattle.thr_parts.specs.Rows.{Rows, thread, row_at, best, is_among}
use Rattle.thr_parts.specs.Threads as threads
use Rattle.thr_parts.specs.Threads.{rank_at}
use Rattle.thr_parts.specs.Locking.{unlock}
use Rattle.thr_parts.specs.Conditions.{Conds, Waited, wait, timedwait}
use Rattle.thr_parts.specs.Pipes.{ReadReply, WriteReply, pipe_at, read, write}
use Rattle.thr_parts.specs.Closing.{free_if}
use Rattle.thr_parts.proofs.PartLaws.{canonical_free_row}
use Rattle.thr_model.specs.States.{State, Debt, Return, rank_of, all_owe}
use Rattle.thr_model.specs.Calls.{answered, given_state, woken_state, first}
use Rattle.thr_cancels.proofs.Seats.{is_calm, free_if_moves}
use Rattle.thr_cancels.proofs.CallSeats.{answered_moves, ready_by, kept_best}
use Rattle.thr_ports.proofs.Resting.{standing, Rests, moved_calm, never_next, calm_not_best, calm_not_among, put_keeps, more_keeps, all_keep, put_elsewhere}

-- The call ends waits on conditions, or may.
abbrev pub ends_waits : DceCall → Bool
ends_waits (dce.CondSignal c) = true
ends_waits (dce.CondBroadcast c) = true
ends_waits (dce.Cancel e) = true
ends_waits _ = false

-- ---- rows

create_calm : (s : Script) (st : State) (t : Tid) (v : Var) (a : Option NameId) (routine : NameId) (e : Expr) (ns : List ℤ) (u : ℕ) → eqb t.0 u ≡ false
    → is_calm (row_at (get st.rows.seats u)) ≡ true → is_calm (row_at (get (answered s st t (dce.Create v a routine e) ns).state.rows.seats u)) ≡ true
unfolding answered
create_calm s st t v a routine e ns u other c =
    let o = threads.create st.threads t a in
    moved_calm t.0 st.threads.next u false (get st.rows.seats u) _ (ready_by t.0 st.threads.next u false (is_value o.reply) (rank_at o.threads) st.rows (eqb st.threads.next u) refl) other c

-- A thread that is calm is so after each call of another.
pub answered_calm : (s : Script) (st : State) (t : Tid) (call : DceCall) (ns : List ℤ) (u : ℕ) → eqb t.0 u ≡ false → IsCanonical st.rows.seats
    → is_calm (row_at (get st.rows.seats u)) ≡ true → is_calm (row_at (get (answered s st t call ns).state.rows.seats u)) ≡ true
answered_calm s st t (dce.Create v a routine e) ns u other sorted c = create_calm s st t v a routine e ns u other c
answered_calm s st t call ns u other sorted c = moved_calm t.0 (suc u) u _ (get st.rows.seats u) _ (answered_moves s st t call ns u refl sorted) other c

-- ---- waits

pub given_waits : (st : State) (rs : Rows) (o : Option Tid) → (given_state st rs o).conds ≡ st.conds
given_waits st rs None = refl
given_waits st rs (Some k) = refl

woken_waits : (st : State) (rs : Rows) (y : Reply) (o : Option Tid) → (woken_state st rs y o).conds ≡ st.conds
woken_waits st rs y None = refl
woken_waits st rs y (Some k) = refl

-- The call may have its caller wait on a condition or for a time.
abbrev pub begins_wait : DceCall → Bool
begins_wait (dce.CondWait c m) = true
begins_wait (dce.CondTimedwait c m e) = true
begins_wait (dce.DelayNp e) = true
begins_wait _ = false

abbrev SameWait : ℕ → Conds → Conds → Type 0
SameWait u cs cs' = get cs'.waits u ≡ get cs.waits u

same_wait : (u : ℕ) (cs cs' now : Conds) → now ≡ cs' → SameWait u cs cs' → SameWait u cs now
same_wait u cs cs' now e h = ap (λ (x : Conds). get x.waits u) e ∙ h

-- A wait stays over each call that ends none, but for a wait of the caller's own.
pub answered_wait : (s : Script) (st : State) (t : Tid) (call : DceCall) (ns : List ℤ) (u : ℕ) → (begins_wait call ≡ true → eqb t.0 u ≡ false) → ends_waits call ≡ false
    → SameWait u st.conds (answered s st t call ns).state.conds
unfolding answered
answered_wait s st t (dce.CondSignal c) ns u other plain = absurd (false≢true (sym plain))
answered_wait s st t (dce.CondBroadcast c) ns u other plain = absurd (false≢true (sym plain))
answered_wait s st t (dce.Cancel e) ns u other plain = absurd (false≢true (sym plain))
answered_wait s st t (dce.DelayNp e) ns u other plain = put_elsewhere st.conds.waits t.0 u _ (other refl)
answered_wait s st t (dce.MutexUnlock m) ns u other plain = let o = unlock st.locks st.rows (Some m) t in same_wait u st.conds st.conds _ (given_waits (record st { locks = o.locks }) o.rows o.given) refl
answered_wait s st t dce.UnlockGlobalNp ns u other plain = let o = unlock st.locks st.rows None t in same_wait u st.conds st.conds _ (given_waits (record st { locks = o.locks }) o.rows o.given) refl
answered_wait s st t (dce.CondWait c m) ns u other plain =
    let o : Waited = wait st.conds st.locks st.rows c m t (rank_of st t) in
    same_wait u st.conds o.conds _ (given_waits (record st { conds = o.conds; locks = o.locks }) o.rows o.given) (put_elsewhere st.conds.waits t.0 u _ (other refl))
answered_wait s st t (dce.CondTimedwait c m e) ns u other plain =
    let o : Waited = timedwait st.conds st.locks st.rows c m (first ns) st.clock t (rank_of st t) in
    same_wait u st.conds o.conds _ (given_waits (record st { conds = o.conds; locks = o.locks }) o.rows o.given) (put_elsewhere st.conds.waits t.0 u _ (other refl))
answered_wait s st t (dce.Read p v w) ns u other plain =
    let o : ReadReply = read st.pipes st.rows p t (rank_of st t) in same_wait u st.conds st.conds _ (woken_waits (record st { pipes = o.pipes }) o.rows reply.Done o.relieved) refl
answered_wait s st t (dce.Write p e) ns u other plain =
    let o : WriteReply = write st.pipes st.rows p (first ns) t (rank_of st t) in same_wait u st.conds st.conds _ (woken_waits (record st { pipes = o.pipes }) o.rows (reply.Value (first ns)) o.reader) refl
answered_wait s st t _ ns u other plain = refl

-- ---- debts

module _ (u : ℕ) (st : State) (d : Debt) (calm : is_calm (row_at (get st.rows.seats u)) ≡ true) (owes : get st.debts u ≡ Some d) where
  given_debt : (now : State) (rs : Rows) (o : Option Tid) → now.debts ≡ st.debts → get (given_state now rs o).debts u ≡ Some d
  given_debt now rs None e = ap (λ (x : Table Debt). get x u) e ∙ owes
  given_debt now rs (Some k) e = more_keeps now.debts k u (Return reply.Done) d (ap (λ (x : Table Debt). get x u) e ∙ owes)

  woken_debt : (now : State) (rs : Rows) (y : Reply) (o : Option Tid) → now.debts ≡ st.debts → ((k : Tid) → o ≡ Some k → eqb k.0 u ≡ true → ⊥) → get (woken_state now rs y o).debts u ≡ Some d
  woken_debt now rs y None e n = ap (λ (x : Table Debt). get x u) e ∙ owes
  woken_debt now rs y (Some k) e n = put_keeps now.debts k.0 u (Return y) d (n k refl) (ap (λ (x : Table Debt). get x u) e ∙ owes)

  -- Those who wait at a pipe aren't calm.
  among_readers : (b : Bool) (p : NameId) → IsCanonical st.rows.seats → is_among (thread u) (free_if b (rank_of st) st.rows (row.Reader p)).woken ≡ true → ⊥
  among_readers true p sorted i = calm_not_among u st.rows (row.Reader p) refl sorted calm i
  among_readers false p sorted i = false≢true i

  among_writers : (b : Bool) (p : NameId) → IsCanonical st.rows.seats
      → (let readers : Rows = (free_if b (rank_of st) st.rows (row.Reader p)).rows in is_among (thread u) (free_if b (rank_of st) readers (row.Writer p)).woken ≡ true) → ⊥
  among_writers true p sorted i =
      let readers : Rows = (free_if true (rank_of st) st.rows (row.Reader p)).rows in
      calm_not_among u readers (row.Writer p) refl (canonical_free_row (rank_of st) st.rows (row.Reader p) sorted)
      (moved_calm (suc u) (suc u) u false (get st.rows.seats u) (get readers.seats u) (free_if_moves (suc u) (suc u) u false true (rank_of st) st.rows (row.Reader p) sorted) (never_next u) calm) i
  among_writers false p sorted i = false≢true i

  pub answered_debt : (s : Script) (t : Tid) (call : DceCall) (ns : List ℤ) → ends_waits call ≡ false → IsCanonical st.rows.seats → get (answered s st t call ns).state.debts u ≡ Some d
  unfolding answered
  answered_debt s t (dce.CondSignal c) ns plain sorted = absurd (false≢true (sym plain))
  answered_debt s t (dce.CondBroadcast c) ns plain sorted = absurd (false≢true (sym plain))
  answered_debt s t (dce.Cancel e) ns plain sorted = absurd (false≢true (sym plain))
  answered_debt s t (dce.MutexUnlock m) ns plain sorted = let o = unlock st.locks st.rows (Some m) t in given_debt (record st { locks = o.locks }) o.rows o.given refl
  answered_debt s t dce.UnlockGlobalNp ns plain sorted = let o = unlock st.locks st.rows None t in given_debt (record st { locks = o.locks }) o.rows o.given refl
  answered_debt s t (dce.CondWait c m) ns plain sorted =
      let o : Waited = wait st.conds st.locks st.rows c m t (rank_of st t) in given_debt (record st { conds = o.conds; locks = o.locks }) o.rows o.given refl
  answered_debt s t (dce.CondTimedwait c m e) ns plain sorted =
      let o : Waited = timedwait st.conds st.locks st.rows c m (first ns) st.clock t (rank_of st t) in given_debt (record st { conds = o.conds; locks = o.locks }) o.rows o.given refl
  answered_debt s t (dce.Read p v w) ns plain sorted =
      let o : ReadReply = read st.pipes st.rows p t (rank_of st t) in
      woken_debt (record st { pipes = o.pipes }) o.rows reply.Done o.relieved refl
      (λ k e i. calm_not_best u st.rows (row.Writer p) k refl sorted (kept_best (is_value o.reply) (best st.rows (row.Writer p)) k e) calm i)
  answered_debt s t (dce.Write p e) ns plain sorted =
      let o : WriteReply = write st.pipes st.rows p (first ns) t (rank_of st t) in
      woken_debt (record st { pipes = o.pipes }) o.rows (reply.Value (first ns)) o.reader refl
      (λ k f i. calm_not_best u st.rows (row.Reader p) k refl sorted (kept_best (pipe_at st.pipes p).is_open (best st.rows (row.Reader p)) k f) calm i)
  answered_debt s t (dce.Close p) ns plain sorted =
      let opened : Bool = (pipe_at st.pipes p).is_open in
      let readers : List Tid = (free_if opened (rank_of st) st.rows (row.Reader p)).woken in
      all_keep _ (all_owe st.debts (Return reply.Eof) readers) u (Return reply.Epipe) d (among_writers opened p sorted)
      (all_keep readers st.debts u (Return reply.Eof) d (among_readers opened p sorted) owes)
  answered_debt s t _ ns plain sorted = owes

-- A call of another thread leaves what the state keeps for one that waits on a condition or has left it.
pub answered_rests : (s : Script) (st : State) (t : Tid) (call : DceCall) (ns : List ℤ) (u : ℕ) → eqb t.0 u ≡ false → ends_waits call ≡ false → IsCanonical st.rows.seats → Rests u st (answered s st t call ns).state
answered_rests s st t call ns u other plain sorted = record {
  waits = ap standing (answered_wait s st t call ns u (λ b. other) plain);
  owes = λ d o. (answered_debt u st d o.1 o.0 s t call ns plain sorted, answered_calm s st t call ns u other sorted o.1);
}
