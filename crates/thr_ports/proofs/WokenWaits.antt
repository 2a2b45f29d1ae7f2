-- Threads that leave their waits have none, and are ready or wait for their mutex; others keep their waits.
use Rattle.std.proofs.Common.{◌≡◌, ℕ, suc, Bool, true, false, ◌||◌, cond, eqb, List, [], ◌∷◌, map, Option, Some, None, refl, sym, ap, ◌∙◌, subst}
use Rattle.std.proofs.lemmas.Bool.{eqb-true, false≢true}
use Rattle.std.specs.Prelude.{if◌then◌else◌, is_some}
use Rattle.std.specs.Option.{option_and_then}
use Rattle.thr_values.specs.declared.number.NameId.{NameId}
use Rattle.thr_values.specs.declared.number.Tid.{Tid}
use Rattle.thr_parts.specs.declared.row.RowId.{RowId}
use Rattle.thr_parts.specs.declared.row.RowId.TheVariants as row
use Rattle.thr_parts.specs.declared.row.Seat.{Seat}
use Rattle.thr_parts.specs.declared.row.Place.TheVariants.{Stands}
use Rattle.thr_parts.specs.declared.wait.Wait.{Wait}
use Rattle.thr_parts.specs.Tables.{Table, get, put}
use Rattle.thr_parts.specs.Rows.{Rows, thread, row_at, is_among}
use Rattle.thr_parts.specs.Moves.{put_in_row}
use Rattle.thr_parts.specs.Mutexes.{Locks, mutex_at}
use Rattle.thr_parts.specs.Locking.{Regained, is_free}
use Rattle.thr_parts.specs.Conditions.{Conds, wait_of, mutex_of}
use Rattle.thr_parts.specs.Waking.{LeftWait, waits_without, some_if, pull_out, mutex_with, resume, wake_all}
use Rattle.thr_parts.proofs.TableLaws.{get_put}
use Rattle.thr_model.specs.States.{Debt}
use Rattle.thr_model.specs.Events.{due_debt, due_owe}
use Rattle.thr_cancels.proofs.Seats.{is_calm, is_calm_row, same, wake_all_moves}
use Rattle.thr_cancels.proofs.Owed.{out_free, wake_all_free, woken_are}
use Rattle.thr_reacquired.proofs.OnceEach.{NoneIs, OnceIn}
use Rattle.thr_ports.proofs.Resting.{not_true, moved_calm, never_next, cut_elsewhere, put_keeps}

-- ---- rows

pub calm_row_if : (b : Bool) (m : NameId) → is_calm_row (if b then row.Ready else row.Mutex m) ≡ true
calm_row_if true m = refl
calm_row_if false m = refl

put_calm : (rs : Rows) (r : RowId) (k : Tid) (rank u : ℕ) → is_calm_row r ≡ true → eqb k.0 u ≡ true → is_calm (row_at (get (put_in_row rs r k rank).seats u)) ≡ true
put_calm rs r k rank u c e =
    let seat : Seat = record { rank = rank; place = Stands r rs.next_arrival } in
    ap (λ (o : Option Seat). is_calm (row_at o)) (get_put rs.seats k.0 u seat ∙ ap (λ b. cond b (Some seat) (get rs.seats u)) e) ∙ c

-- A thread that has left its wait is ready, or waits for its mutex.
pub resume_calm : (rank : Tid → ℕ) (ls : Locks) (rs : Rows) (k : Tid) (m : Option NameId) (u : ℕ) → eqb k.0 u ≡ true → is_calm (row_at (get (resume rank ls rs k m).rows.seats u)) ≡ true
resume_calm rank ls rs k None u e = put_calm rs row.Ready k (rank k) u refl e
resume_calm rank ls rs k (Some m) u e =
    put_calm rs (if is_free (mutex_at ls (Some m)) then row.Ready else row.Mutex m) k (rank k) u (calm_row_if (is_free (mutex_at ls (Some m))) m) e

put_some : (rs : Rows) (r : RowId) (k : Tid) (rank u : ℕ) → eqb k.0 u ≡ true → is_some (get (put_in_row rs r k rank).seats u) ≡ true
put_some rs r k rank u e =
    let seat : Seat = record { rank = rank; place = Stands r rs.next_arrival } in
    ap (λ (o : Option Seat). is_some o) (get_put rs.seats k.0 u seat ∙ ap (λ b. cond b (Some seat) (get rs.seats u)) e)

resume_some : (rank : Tid → ℕ) (ls : Locks) (rs : Rows) (k : Tid) (m : Option NameId) (u : ℕ) → eqb k.0 u ≡ true → is_some (get (resume rank ls rs k m).rows.seats u) ≡ true
resume_some rank ls rs k None u e = put_some rs row.Ready k (rank k) u e
resume_some rank ls rs k (Some m) u e = put_some rs (if is_free (mutex_at ls (Some m)) then row.Ready else row.Mutex m) k (rank k) u e

either_or : (a b : Bool) → (a || b) ≡ true → a ≡ false → b ≡ true
either_or true b e f = absurd (false≢true (sym f))
either_or false b e f = e

neither_head : (a b : Bool) → ((a || b) ≡ true → ⊥) → a ≡ false
neither_head true b n = absurd (n refl)
neither_head false b n = refl

neither_tail : (a b : Bool) → ((a || b) ≡ true → ⊥) → b ≡ true → ⊥
neither_tail true b n e = n refl
neither_tail false b n e = n e

module _ (u : ℕ) (rank : Tid → ℕ) where
  head_calm : (cs : Conds) (ls : Locks) (rs : Rows) (k : Tid) (ts : List Tid) → is_among (thread u) (k ∷ ts) ≡ true → (b : Bool) → eqb k.0 u ≡ b
      → (let left : LeftWait = pull_out cs rs k in
      let now : Regained = resume rank ls left.rows k (mutex_with cs k) in
      let rows : Rows = (wake_all rank left.conds now.locks now.rows ts).rows in
      (is_among (thread u) ts ≡ true → is_calm (row_at (get rows.seats u)) ≡ true) → is_calm (row_at (get rows.seats u)) ≡ true)
  head_calm cs ls rs k ts i true e f =
      let left : LeftWait = pull_out cs rs k in
      let now : Regained = resume rank ls left.rows k (mutex_with cs k) in
      moved_calm (suc u) (suc u) u false (get now.rows.seats u) _
      (wake_all_moves (suc u) (suc u) u false rank left.conds now.locks now.rows now.rows ts (λ g. resume_some rank ls left.rows k (mutex_with cs k) u e) (same refl))
      (never_next u) (resume_calm rank ls left.rows k (mutex_with cs k) u e)
  head_calm cs ls rs k ts i false e f = f (either_or (eqb k.0 u) (is_among (thread u) ts) i e)

  -- Those that are woken are calm.
  pub woken_calm : (cs : Conds) (ls : Locks) (rs : Rows) (ts : List Tid) → is_among (thread u) ts ≡ true → is_calm (row_at (get (wake_all rank cs ls rs ts).rows.seats u)) ≡ true
  unfolding wake_all
  woken_calm cs ls rs [] i = absurd (false≢true i)
  woken_calm cs ls rs (k ∷ ts) i =
      let left : LeftWait = pull_out cs rs k in
      let now : Regained = resume rank ls left.rows k (mutex_with cs k) in
      head_calm cs ls rs k ts i (eqb k.0 u) refl (λ e. woken_calm left.conds now.locks now.rows ts e)

  -- And those that aren't stay calm where they were.
  pub others_calm : (cs : Conds) (ls : Locks) (rs : Rows) (ts : List Tid) → (is_among (thread u) ts ≡ true → ⊥) → is_calm (row_at (get rs.seats u)) ≡ true
      → is_calm (row_at (get (wake_all rank cs ls rs ts).rows.seats u)) ≡ true
  others_calm cs ls rs ts n c =
      moved_calm (suc u) (suc u) u false (get rs.seats u) _ (wake_all_moves (suc u) (suc u) u false rank cs ls rs rs ts (λ f. absurd (n f)) (same refl)) (never_next u) c

  -- ---- waits

  none_in : (b : Bool) (x : Option Wait) → b ≡ true → cond b None x ≡ None
  none_in true x e = refl
  none_in false x e = absurd (false≢true e)

  without_elsewhere : (b : Bool) (v : Table Wait) (k : Tid) → eqb k.0 u ≡ false → get (waits_without v (some_if b k)) u ≡ get v u
  without_elsewhere true v k e = cut_elsewhere v k.0 u e
  without_elsewhere false v k e = refl

  pulled_none : (cs : Conds) (rs : Rows) (k : Tid) → eqb k.0 u ≡ true → get (pull_out cs rs k).conds.waits u ≡ None
  pulled_none cs rs k e = subst (λ (q : ℕ). get (pull_out cs rs k).conds.waits q ≡ None) (eqb-true k.0 u e) (out_free cs rs k (wait_of cs k) refl)

  head_wait : (cs : Conds) (ls : Locks) (rs : Rows) (k : Tid) (ts : List Tid) → is_among (thread u) (k ∷ ts) ≡ true → (b : Bool) → eqb k.0 u ≡ b
      → (let left : LeftWait = pull_out cs rs k in
      let now : Regained = resume rank ls left.rows k (mutex_with cs k) in
      let conds : Conds = (wake_all rank left.conds now.locks now.rows ts).conds in (is_among (thread u) ts ≡ true → get conds.waits u ≡ None) → get conds.waits u ≡ None)
  head_wait cs ls rs k ts i true e f =
      let left : LeftWait = pull_out cs rs k in
      let now : Regained = resume rank ls left.rows k (mutex_with cs k) in wake_all_free u rank left.conds now.locks now.rows ts (pulled_none cs rs k e)
  head_wait cs ls rs k ts i false e f = f (either_or (eqb k.0 u) (is_among (thread u) ts) i e)

  pub woken_wait : (cs : Conds) (ls : Locks) (rs : Rows) (ts : List Tid) → is_among (thread u) ts ≡ true → get (wake_all rank cs ls rs ts).conds.waits u ≡ None
  unfolding wake_all
  woken_wait cs ls rs [] i = absurd (false≢true i)
  woken_wait cs ls rs (k ∷ ts) i =
      let left : LeftWait = pull_out cs rs k in
      let now : Regained = resume rank ls left.rows k (mutex_with cs k) in
      head_wait cs ls rs k ts i (eqb k.0 u) refl (λ e. woken_wait left.conds now.locks now.rows ts e)

  pub others_wait : (cs : Conds) (ls : Locks) (rs : Rows) (ts : List Tid) → (is_among (thread u) ts ≡ true → ⊥) → get (wake_all rank cs ls rs ts).conds.waits u ≡ get cs.waits u
  unfolding wake_all
  others_wait cs ls rs [] n = refl
  others_wait cs ls rs (k ∷ ts) n =
      let left : LeftWait = pull_out cs rs k in
      let now : Regained = resume rank ls left.rows k (mutex_with cs k) in
      others_wait left.conds now.locks now.rows ts (neither_tail (eqb k.0 u) (is_among (thread u) ts) n)
      ∙ without_elsewhere (is_some (wait_of cs k)) cs.waits k (neither_head (eqb k.0 u) (is_among (thread u) ts) n)

  -- ---- what those owe whose time has come

  pub due_keep : (ws : List (Tid × Option NameId)) (debts : Table Debt) (d : Debt) → (is_among (thread u) (map (λ (p : Tid × Option NameId). p.0) ws) ≡ true → ⊥) → get debts u ≡ Some d → get (due_owe debts ws) u ≡ Some d
  due_keep [] debts d n e = e
  due_keep (p ∷ ws) debts d n e =
      due_keep ws (put debts p.0.0 (due_debt p.1)) d (neither_tail (eqb p.0.0 u) (is_among (thread u) (map (λ (q : Tid × Option NameId). q.0) ws)) n)
      (put_keeps debts p.0.0 u (due_debt p.1) d (λ f. false≢true (sym (neither_head (eqb p.0.0 u) (is_among (thread u) (map (λ (q : Tid × Option NameId). q.0) ws)) n) ∙ f)) e)

  none_among : (ts : List Tid) → NoneIs u ts → is_among (thread u) ts ≡ true → ⊥
  none_among [] h i = false≢true i
  none_among (k ∷ ts) h i = none_among ts h.1 (either_or (eqb k.0 u) (is_among (thread u) ts) i (not_true (eqb k.0 u) h.0))

  -- What it owes by its wait.
  abbrev debt_by : Conds → Option Debt
  debt_by cs = Some (due_debt (option_and_then mutex_of (get cs.waits u)))

  head_owes : (cs : Conds) (ls : Locks) (rs : Rows) (k : Tid) (ts : List Tid) (debts : Table Debt) → OnceIn u (k ∷ ts) → is_among (thread u) (k ∷ ts) ≡ true → (b : Bool) → eqb k.0 u ≡ b
      → (let left : LeftWait = pull_out cs rs k in
      let now : Regained = resume rank ls left.rows k (mutex_with cs k) in
      let rest : List (Tid × Option NameId) = (wake_all rank left.conds now.locks now.rows ts).woken in
      let owe : Table Debt = put debts k.0 (due_debt (mutex_with cs k)) in (is_among (thread u) ts ≡ true → get (due_owe owe rest) u ≡ debt_by left.conds) → get (due_owe owe rest) u ≡ debt_by cs)
  head_owes cs ls rs k ts debts once i true e f =
      let left : LeftWait = pull_out cs rs k in
      let now : Regained = resume rank ls left.rows k (mutex_with cs k) in
      let owe : Table Debt = put debts k.0 (due_debt (mutex_with cs k)) in
      due_keep (wake_all rank left.conds now.locks now.rows ts).woken owe (due_debt (option_and_then mutex_of (get cs.waits u)))
      (λ g. none_among ts (once.0 e) (subst (λ (l : List Tid). is_among (thread u) l ≡ true) (woken_are rank left.conds now.locks now.rows ts) g))
      (get_put debts k.0 u (due_debt (mutex_with cs k)) ∙ ap (λ b. cond b (Some (due_debt (mutex_with cs k))) (get debts u)) e
      ∙ ap (λ (q : ℕ). let o : Option Debt = Some (due_debt (option_and_then mutex_of (get cs.waits q))) in o) (eqb-true k.0 u e))
  head_owes cs ls rs k ts debts once i false e f =
      f (either_or (eqb k.0 u) (is_among (thread u) ts) i e)
      ∙ ap (λ (o : Option Wait). let x : Option Debt = Some (due_debt (option_and_then mutex_of o)) in x) (without_elsewhere (is_some (wait_of cs k)) cs.waits k e)

  -- A thread that is woken once owes what its wait has it owe.
  pub woken_owes : (cs : Conds) (ls : Locks) (rs : Rows) (ts : List Tid) (debts : Table Debt) → OnceIn u ts → is_among (thread u) ts ≡ true
      → get (due_owe debts (wake_all rank cs ls rs ts).woken) u ≡ Some (due_debt (option_and_then mutex_of (get cs.waits u)))
  unfolding wake_all
  woken_owes cs ls rs [] debts once i = absurd (false≢true i)
  woken_owes cs ls rs (k ∷ ts) debts once i =
      let left : LeftWait = pull_out cs rs k in
      let now : Regained = resume rank ls left.rows k (mutex_with cs k) in
      head_owes cs ls rs k ts debts once i (eqb k.0 u) refl (λ e. woken_owes left.conds now.locks now.rows ts (put debts k.0 (due_debt (mutex_with cs k))) once.1 e)
