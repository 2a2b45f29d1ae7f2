-- What a call of another thread leaves to a thread that waits with a mutex or stands in its row.
use Rattle.std.proofs.Common.{◌≡◌, ℕ, ℤ, Bool, true, false, ◌&&◌, eqb, List, [], Option, Some, None, refl, sym, ap, ◌∙◌, subst}
use Rattle.std.proofs.lemmas.Bool.{eqb-true, false≢true}
use Rattle.std.specs.Prelude.{if◌then◌else◌, int_le}
use Rattle.std.specs.Option.{option_map, option_and_then, unwrap_or}
use Rattle.thr_values.specs.declared.number.Tid.{Tid}
use Rattle.thr_values.specs.declared.number.NameId.{NameId}
use Rattle.thr_values.specs.declared.reply.Effect.TheVariants as effect
use Rattle.thr_values.specs.declared.reply.Reply.{Reply}
use Rattle.thr_values.specs.declared.reply.Reply.TheVariants as reply
use Rattle.thr_syntax.specs.declared.dce.DceCall.{DceCall}
use Rattle.thr_syntax.specs.declared.dce.DceCall.TheVariants as dce
use Rattle.thr_syntax.specs.declared.tree.Script.{Script}
use Rattle.thr_parts.specs.declared.row.RowId.{RowId}
use Rattle.thr_parts.specs.declared.row.RowId.TheVariants as row
use Rattle.thr_parts.specs.declared.wait.Wait.{Wait}
use Rattle.thr_parts.specs.declared.wait.Wait.TheVariants.{Cond}
use Rattle.thr_parts.specs.Tables.{Table, get, has, put, put_if, cut, keep_if, IsCanonical}
use Rattle.thr_parts.specs.Replies.{is_done, is_value, is_blocks}
use Rattle.thr_parts.specs.Rows.{Rows, thread, row_at, row_of, best, best_first}
use Rattle.thr_parts.specs.Moves.{take_out, take_out_if, block_if}
use Rattle.thr_parts.specs.Threads as threads
use Rattle.thr_parts.specs.Threads.{Threads, ThreadsReply, natural, rank_at, record_of}
use Rattle.thr_parts.specs.Scheduling.{setprio, setscheduler}
use Rattle.thr_parts.specs.Cancels.{waits_at_point}
use Rattle.thr_parts.specs.Cancels as cancels
use Rattle.thr_parts.specs.Mutexes.{Locks, mutex_at, waiters_row, with_mutex, owner}
use Rattle.thr_parts.specs.Locking.{Unlocked, lock_reply, unlock_reply, as_unlocked, is_held_by, is_last, unlock}
use Rattle.thr_parts.specs.Conditions.{Conds, Waited, mutex_of, wait_reply, timedwait_reply, wait, timedwait, delay_reply}
use Rattle.thr_parts.specs.Waking.{mutex_with, beside_mutex, thread_in, without_wait, pull_out, resume, signal}
use Rattle.thr_parts.specs.OnceBlocks.{enter}
use Rattle.thr_parts.specs.Pipes.{ReadReply, WriteReply, pipe_at, read, write}
use Rattle.thr_parts.specs.Closing.{free_if}
use Rattle.thr_parts.proofs.MoveLaws.{canonical_block_if}
use Rattle.thr_parts.proofs.PartLaws.{canonical_free_row}
use Rattle.thr_parts.proofs.RowLaws.{best_stands}
use Rattle.thr_laws.proofs.ReadingLaws.{AllLines, both}
use Rattle.thr_model.specs.States.{State, rank_of}
use Rattle.thr_model.specs.Calls.{answered, ready_if, rank_if, cancelled, given_state, signals_one, woken_state, first, second}
use Rattle.thr_owners.proofs.Using.{OwnsOnce, IsThereOnce, unlock_there, held_there, wait_owns, timed_blocks}
use Rattle.thr_answers.proofs.StatusMoves.{with_put, with_cut}
use Rattle.thr_cancels.proofs.CallSeats.{wakes_at_point}
use Rattle.thr_reacquired.specs.Waiters.{Has, waits, stands, owns}
use Rattle.thr_reacquired.proofs.Regaining.{elsewhere, cut_elsewhere, same_thread, hand_gains}
use Rattle.thr_reacquired.proofs.OnceEach.{once_in_row, once_if}
use Rattle.thr_reacquired.proofs.Woken.{InRow, Leaves, one_woken, pulled_out, all_woken}
use Rattle.thr_reacquired.proofs.InRows.{IsOther, out_same, block_same, block_if_same, ready_if_same, given_same, woken_same, rank_if_row, best_other, outside_row, free_if_stays}

-- The thread is on record as waiting on a condition with the mutex, or stands in the mutex's row.
pub data Awaits (u : ℕ) (m : NameId) (cs : Conds) (rs : Rows) : Type 0 where
  in_wait : mutex_with cs (thread u) ≡ Some m → Awaits u m cs rs
  in_row : InRow u m rs → Awaits u m cs rs

abbrev pub HasAt : ℕ → NameId → State → Type 0
HasAt u m st = Has u m st.conds st.locks st.rows

pub as_has : (u : ℕ) (m : NameId) (cs : Conds) (ls : Locks) (rs : Rows) → Awaits u m cs rs → Has u m cs ls rs
as_has u m cs ls rs (in_wait e) = waits e
as_has u m cs ls rs (in_row e) = stands e

-- ---- replies

-- A wait that blocks is by the owner of the mutex, which is locked once.
waits_there : (cs : Conds) (ls : Locks) (c n : NameId) (t : Tid) → is_blocks (wait_reply cs ls c n t) ≡ true → IsThereOnce (mutex_at ls (Some n))
waits_there cs ls c n t e = let p : OwnsOnce (mutex_at ls (Some n)) t = wait_owns cs ls c n t e in record { there = held_there (mutex_at ls (Some n)) t p.held; last = p.last }

kept_so : {A : Type 0} (b : Bool) (o : Option A) (w : A) → keep_if b o ≡ Some w → (b ≡ true) × (o ≡ Some w)
kept_so true o w e = (refl, e)
kept_so false o w e = absurd (cc)

-- The waiter that a signal takes waits with its mutex.
beside : (cs : Conds) (x : Tid) (n : Option NameId) (w : Tid × NameId) → mutex_with cs x ≡ n → option_map (λ (k : NameId). (x, k)) n ≡ Some w → (x ≡ w.0) × (mutex_with cs x ≡ Some w.1)
beside cs x None w i e = absurd (cc)
beside cs x (Some k) w i e = (ap (λ (o : Option (Tid × NameId)). (unwrap_or o w).0) e, i ∙ ap Some (ap (λ (o : Option (Tid × NameId)). (unwrap_or o w).1) e))

next_is : (cs : Conds) (o : Option Tid) (w : Tid × NameId) → option_and_then (beside_mutex cs) o ≡ Some w → (o ≡ Some w.0) × (mutex_with cs w.0 ≡ Some w.1)
next_is cs None w e = absurd (cc)
next_is cs (Some x) w e =
    let p : (x ≡ w.0) × (mutex_with cs x ≡ Some w.1) = beside cs x (mutex_with cs x) w refl e in (ap Some p.0, ap (mutex_with cs) (sym p.0) ∙ p.1)

-- ---- a mutex that is given up

lock_of_row : (k : Option NameId) (m : NameId) → (let r : Option RowId = Some (waiters_row k) in r) ≡ Some (row.Mutex m) → k ≡ Some m
lock_of_row None m e = absurd (cc)
lock_of_row (Some n) m e = ap named e
  where
    named : Option RowId → Option NameId
    named (Some (row.Mutex x)) = Some x
    named _ = None

module _ (u : ℕ) (m : NameId) where
  -- The locks after a mutex was unlocked or not, with its next owner.
  abbrev unlocked : Locks → Option NameId → Bool → Option Tid → Locks
  unlocked ls k unlocks o = with_mutex ls k (keep_if unlocks (option_map (as_unlocked o) (mutex_at ls k)))

  handed_has : (cs : Conds) (ls : Locks) (rs after : Rows) (k : Option NameId) (w : Tid) → IsThereOnce (mutex_at ls k) → row_of rs w ≡ Some (waiters_row k) → thread u ≡ w → InRow u m rs → Has u m cs (unlocked ls k true (Some w)) after
  handed_has cs ls rs after k w there at same h =
      let e : k ≡ Some m = lock_of_row k m (sym at ∙ ap (row_of rs) (sym same) ∙ h) in
      let once : IsThereOnce (mutex_at ls (Some m)) = subst (λ (x : Option NameId). IsThereOnce (mutex_at ls x)) e there in
      owns (subst (λ (x : Option NameId). is_held_by (owner (unlocked ls x true (Some w)) (Some m)) (thread u) ≡ true) (sym e)
      (subst (λ (v : Tid). is_held_by (owner (unlocked ls (Some m) true (Some w)) (Some m)) v ≡ true) (sym same) (hand_gains ls m w once.there once.last)))

  -- Whoever is given the mutex owns it, and all others are as they were.
  given_has : (now : State) (cs : Conds) (ls : Locks) (rs : Rows) (k : Option NameId) (unlocks gives : Bool) (o : Option Tid) → IsCanonical rs.seats → (gives ≡ true → unlocks ≡ true) → (gives ≡ true → IsThereOnce (mutex_at ls k))
      → keep_if gives (best rs (waiters_row k)) ≡ o → Awaits u m cs rs → Has u m cs (unlocked ls k unlocks o) (given_state now (take_out_if rs o) o).rows
  given_has now cs ls rs k unlocks gives o sorted all there is (in_wait e) = waits e
  given_has now cs ls rs k unlocks gives None sorted all there is (in_row h) = stands h
  given_has now cs ls rs k unlocks gives (Some w) sorted all there is (in_row h) = either (eqb w.0 u) refl
    where
      either : (b : Bool) → eqb w.0 u ≡ b → Has u m cs (unlocked ls k unlocks (Some w)) (given_state now (take_out_if rs (Some w)) (Some w)).rows
      either true i =
          let p : (gives ≡ true) × (best rs (waiters_row k) ≡ Some w) = kept_so gives (best rs (waiters_row k)) w is in
          subst (λ (b : Bool). Has u m cs (unlocked ls k b (Some w)) (given_state now (take_out_if rs (Some w)) (Some w)).rows) (sym (all p.0))
          (handed_has cs ls rs (given_state now (take_out_if rs (Some w)) (Some w)).rows k w (there p.0) (best_stands rs (waiters_row k) w sorted p.1) (same_thread w u i) h)
      either false i =
          let n : IsOther u (Some w) = λ v e j. false≢true (sym i ∙ ap (λ (o : Option Tid). eqb (unwrap_or o v).0 u) e ∙ j) in
          stands (ap row_at (given_same u now (take_out_if rs (Some w)) (Some w) n ∙ out_same u rs (Some w) n) ∙ h)

  -- ---- waits that end

  waiter_has : (st : State) (c : NameId) (w : Option (Tid × NameId)) → (signal st.conds st.rows c).waiter ≡ w → IsCanonical st.rows.seats → Awaits u m st.conds st.rows → HasAt u m (signals_one st (signal st.conds st.rows c) w).state
  waiter_has st c None e sorted h =
      subst (λ (o : Option (Tid × NameId)). Has u m (without_wait st.conds (thread_in o)) st.locks (take_out_if st.rows (thread_in o))) (sym e) (as_has u m st.conds st.locks st.rows h)
  waiter_has st c (Some w) e sorted h =
      let p : (has st.conds.made c.0 ≡ true) × (option_and_then (beside_mutex st.conds) (best st.rows (row.Cond c)) ≡ Some w) = kept_so (has st.conds.made c.0) (option_and_then (beside_mutex st.conds) (best st.rows (row.Cond c))) w e in
      let q : (best st.rows (row.Cond c) ≡ Some w.0) × (mutex_with st.conds w.0 ≡ Some w.1) = next_is st.conds (best st.rows (row.Cond c)) w p.1 in
      let l : Leaves u m st.conds (without_wait st.conds (Some w.0)) st.rows (take_out_if st.rows (Some w.0)) w.0 = record {
        waits_stay = λ i. elsewhere st.conds.waits (cut st.conds.waits w.0.0) w.0.0 u None (with_cut st.conds.waits w.0.0) i;
        seats_stay = λ i. cut_elsewhere _ st.rows.seats w.0.0 u i;
      } in
      subst (λ (o : Option (Tid × NameId)). (let x = resume (rank_of st) st.locks (take_out_if st.rows (thread_in o)) w.0 (Some w.1) in Has u m (without_wait st.conds (thread_in o)) x.locks x.rows)) (sym e)
      (one_woken u m (rank_of st) st.conds (without_wait st.conds (Some w.0)) st.locks st.rows (take_out_if st.rows (Some w.0)) w.0 (Some w.1) q.1 l
      (λ i r. best_other u m st.rows (row.Cond c) true sorted (λ f. absurd (cc)) r w.0 q.0 i) (as_has u m st.conds st.locks st.rows h))

  outside_if : (b : Bool) (rs : Rows) (c : NameId) → IsCanonical rs.seats → AllLines (λ (w : Tid). eqb w.0 u ≡ true → InRow u m rs → ⊥) (if b then best_first rs (row.Cond c) else [])
  outside_if true rs c sorted = outside_row u m rs (row.Cond c) sorted (λ f. absurd (cc))
  outside_if false rs c sorted = tt

  not_at_point : (rs : Rows) (w : Tid) → waits_at_point rs w ≡ true → eqb w.0 u ≡ true → InRow u m rs → ⊥
  not_at_point rs w e i h = false≢true (sym (ap cancels.is_point (ap (λ (q : ℕ). row_at (get rs.seats q)) (eqb-true w.0 u i) ∙ h)) ∙ e)

  cancelled_has : (st : State) (w : Tid) (o : ThreadsReply) (y : Reply) → (y ≡ reply.Effect effect.Wakes → waits_at_point st.rows w ≡ true) → Awaits u m st.conds st.rows → HasAt u m (cancelled st w o y).state
  cancelled_has st w o (reply.Effect effect.Wakes) at h =
      let l : Leaves u m st.conds (pull_out st.conds st.rows w).conds st.rows (take_out st.rows w).rows w = record {
        waits_stay = (pulled_out u m st.conds st.rows w).waits_stay;
        seats_stay = λ i. cut_elsewhere _ st.rows.seats w.0 u i;
      } in
      one_woken u m (rank_of st) st.conds (pull_out st.conds st.rows w).conds st.locks st.rows (take_out st.rows w).rows w (mutex_with st.conds w) refl l (not_at_point st.rows w (at refl)) (as_has u m st.conds st.locks st.rows h)
  cancelled_has st w o (reply.Effect effect.Ended) at h = as_has u m st.conds st.locks st.rows h
  cancelled_has st w o (reply.Effect effect.Merged) at h = as_has u m st.conds st.locks st.rows h
  cancelled_has st w o (reply.Effect effect.Pending) at h = as_has u m st.conds st.locks st.rows h
  cancelled_has st w o _ at h = as_has u m st.conds st.locks st.rows h

  -- ---- calls of another thread

  -- Where its wait is the same, and its place in the row stays.
  pub same_has : (cs cs' : Conds) (ls : Locks) (rs rs' : Rows) → get cs'.waits u ≡ get cs.waits u → (InRow u m rs → InRow u m rs') → Awaits u m cs rs → Has u m cs' ls rs'
  same_has cs cs' ls rs rs' e f (in_wait h) = waits (ap (option_and_then mutex_of) e ∙ h)
  same_has cs cs' ls rs rs' e f (in_row h) = stands (f h)

  put_elsewhere : (v : Table Wait) (t : ℕ) (o : Option Wait) → eqb t u ≡ false → get (put_if v t o) u ≡ get v u
  put_elsewhere v t None e = refl
  put_elsewhere v t (Some w) e = elsewhere v (put v t w) t u (Some w) (with_put v t w) e

  state_has : (now : State) (rs : Rows) (o : Option Tid) → Has u m now.conds now.locks (given_state now rs o).rows → HasAt u m (given_state now rs o)
  state_has now rs None h = h
  state_has now rs (Some w) h = h

  woken_has : (now : State) (rs : Rows) (y : Reply) (o : Option Tid) → Has u m now.conds now.locks (woken_state now rs y o).rows → HasAt u m (woken_state now rs y o)
  woken_has now rs y None h = h
  woken_has now rs y (Some w) h = h

canonical_free_if : (b : Bool) (rank : Tid → ℕ) (rs : Rows) (r : RowId) → IsCanonical rs.seats → IsCanonical (free_if b rank rs r).rows.seats
canonical_free_if true rank rs r h = canonical_free_row rank rs r h
canonical_free_if false rank rs r h = h

module _ (s : Script) (st : State) (t : Tid) (u : ℕ) (m : NameId) (e : eqb t.0 u ≡ false) (sorted : IsCanonical st.rows.seats) where
  -- One that only blocks its caller.
  blocks_has : (cs : Conds) (ls : Locks) (b : Bool) (r : RowId) (rank : ℕ) → get cs.waits u ≡ get st.conds.waits u → Awaits u m st.conds st.rows → Has u m cs ls (block_if b st.rows r t rank)
  blocks_has cs ls b r rank i h = same_has u m st.conds cs ls st.rows (block_if b st.rows r t rank) i (λ x. ap row_at (block_if_same u b st.rows r t rank e) ∙ x) h

  waited_has : (now : State) (c n : NameId) (until : Option ℤ) (rank : ℕ) (b : Bool) → (b ≡ true → IsThereOnce (mutex_at st.locks (Some n))) → Awaits u m st.conds st.rows
      → (let waiting : Rows = block_if b st.rows (row.Cond c) t rank in
      let next_owner : Option Tid = keep_if b (best waiting (row.Mutex n)) in
      let cs : Conds = record { made = st.conds.made; waits = put_if st.conds.waits t.0 (keep_if b (Some (Cond c n until))) } in
      Has u m cs (unlocked u m st.locks (Some n) b next_owner) (given_state now (take_out_if waiting next_owner) next_owner).rows)
  waited_has now c n until rank b there h =
      let waiting : Rows = block_if b st.rows (row.Cond c) t rank in
      let cs : Conds = record { made = st.conds.made; waits = put_if st.conds.waits t.0 (keep_if b (Some (Cond c n until))) } in
      given_has u m now cs st.locks waiting (Some n) b b (keep_if b (best waiting (row.Mutex n))) (canonical_block_if b st.rows (row.Cond c) t rank sorted) (λ i. i) there refl (moved h)
    where
      moved : Awaits u m st.conds st.rows
          → (let waiting : Rows = block_if b st.rows (row.Cond c) t rank in
          let cs : Conds = record { made = st.conds.made; waits = put_if st.conds.waits t.0 (keep_if b (Some (Cond c n until))) } in Awaits u m cs waiting)
      moved (in_wait i) = in_wait (ap (option_and_then mutex_of) (put_elsewhere u m st.conds.waits t.0 (keep_if b (Some (Cond c n until))) e) ∙ i)
      moved (in_row i) = in_row (ap row_at (block_if_same u b st.rows (row.Cond c) t rank e) ∙ i)

  read_has : (p : NameId) → Awaits u m st.conds st.rows
      → (let o : ReadReply = read st.pipes st.rows p t (rank_of st t) in let now : State = record st { pipes = o.pipes } in HasAt u m (woken_state now o.rows reply.Done o.relieved))
  read_has p h =
      let o : ReadReply = read st.pipes st.rows p t (rank_of st t) in
      let now : State = record st { pipes = o.pipes } in
      let waiting : Rows = block_if (is_blocks o.reply) st.rows (row.Reader p) t (rank_of st t) in
      woken_has u m now o.rows reply.Done o.relieved
      (same_has u m st.conds st.conds st.locks st.rows (woken_state now o.rows reply.Done o.relieved).rows refl
      (λ i. let n : IsOther u o.relieved = best_other u m st.rows (row.Writer p) (is_value o.reply) sorted (λ f. absurd (cc)) i in
      ap row_at (woken_same u now o.rows reply.Done o.relieved n ∙ out_same u waiting o.relieved n ∙ block_if_same u (is_blocks o.reply) st.rows (row.Reader p) t (rank_of st t) e) ∙ i) h)

  write_has : (p : NameId) (n : ℤ) → Awaits u m st.conds st.rows
      → (let o : WriteReply = write st.pipes st.rows p n t (rank_of st t) in let now : State = record st { pipes = o.pipes } in HasAt u m (woken_state now o.rows (reply.Value n) o.reader))
  write_has p n h =
      let o : WriteReply = write st.pipes st.rows p n t (rank_of st t) in
      let now : State = record st { pipes = o.pipes } in
      woken_has u m now o.rows (reply.Value n) o.reader
      (same_has u m st.conds st.conds st.locks st.rows (woken_state now o.rows (reply.Value n) o.reader).rows refl
      (λ i. let x : IsOther u o.reader = best_other u m st.rows (row.Reader p) (pipe_at st.pipes p).is_open sorted (λ f. absurd (cc)) i in
      ap row_at (woken_same u now o.rows (reply.Value n) o.reader x ∙ block_if_same u (is_blocks o.reply) (take_out_if st.rows o.reader) (row.Writer p) t (rank_of st t) e ∙ out_same u st.rows o.reader x) ∙ i) h)

  unlocked_has : (k : Option NameId) → Awaits u m st.conds st.rows → (let o : Unlocked = unlock st.locks st.rows k t in let now : State = record st { locks = o.locks } in HasAt u m (given_state now o.rows o.given))
  unlocked_has k h =
      let b : Bool = is_done (unlock_reply (mutex_at st.locks k) t) in
      let l : Bool = is_last (owner st.locks k) in
      let o : Unlocked = unlock st.locks st.rows k t in
      let now : State = record st { locks = o.locks } in
      state_has u m now o.rows o.given
      (given_has u m now st.conds st.locks st.rows k b (b && l) o.given sorted (λ j. (both b l j).0) (λ j. there_once k j) refl h)
    where
      there_once : (x : Option NameId) → (is_done (unlock_reply (mutex_at st.locks x) t) && is_last (owner st.locks x)) ≡ true → IsThereOnce (mutex_at st.locks x)
      there_once x j =
          let p : (is_done (unlock_reply (mutex_at st.locks x) t) ≡ true) × (is_last (owner st.locks x) ≡ true) = both (is_done (unlock_reply (mutex_at st.locks x) t)) (is_last (owner st.locks x)) j in
          record { there = unlock_there (mutex_at st.locks x) t p.0; last = p.1 }

  -- Where another thread stands after a call.
  pub answered_has : (call : DceCall) (ns : List ℤ) → (InRow u m st.rows → eqb st.threads.next u ≡ false) → Awaits u m st.conds st.rows → HasAt u m (answered s st t call ns).state
  unfolding answered
  answered_has (dce.Create v a routine x) ns new h =
      let o : ThreadsReply = threads.create st.threads t a in
      same_has u m st.conds st.conds st.locks st.rows (ready_if (is_value o.reply) (rank_at o.threads) st.rows (thread st.threads.next)) refl (λ i. ap row_at (ready_if_same u (is_value o.reply) (rank_at o.threads) st.rows (thread st.threads.next) (new i)) ∙ i) h
  answered_has (dce.Join x v) ns new h = blocks_has st.conds st.locks (is_blocks (threads.join st.threads t (first ns))) (row.Join (thread (natural (first ns)))) (rank_of st t) refl h
  answered_has dce.Yield ns new h = same_has u m st.conds st.conds st.locks st.rows _ refl (λ i. ap row_at (block_same u st.rows row.Ready t (rank_of st t) e) ∙ i) h
  answered_has (dce.Cancel x) ns new h =
      let who : Tid = thread (natural (first ns)) in
      let o : ThreadsReply = cancels.cancel st.threads (first ns) (waits_at_point st.rows who) in
      cancelled_has u m st who o o.reply (λ i. wakes_at_point (record_of st.threads (first ns)) (waits_at_point st.rows who) i) h
  answered_has (dce.Setprio x f v) ns new h =
      let o : ThreadsReply = setprio st.threads (first ns) (second ns) in
      same_has u m st.conds st.conds st.locks st.rows (rank_if (is_value o.reply) o.threads st.rows (thread (natural (first ns)))) refl (λ i. rank_if_row u (is_value o.reply) o.threads st.rows (thread (natural (first ns))) ∙ i) h
  answered_has (dce.Setscheduler x policy f v) ns new h =
      let o : ThreadsReply = setscheduler st.threads (first ns) policy (second ns) in
      same_has u m st.conds st.conds st.locks st.rows (rank_if (is_value o.reply) o.threads st.rows (thread (natural (first ns)))) refl (λ i. rank_if_row u (is_value o.reply) o.threads st.rows (thread (natural (first ns))) ∙ i) h
  answered_has (dce.DelayNp x) ns new h = blocks_has (record { made = st.conds.made; waits = _ }) st.locks (is_blocks (delay_reply (first ns) st.clock)) row.Time (rank_of st t) (put_elsewhere u m st.conds.waits t.0 _ e) h
  answered_has (dce.MutexLock k) ns new h = blocks_has st.conds _ (is_blocks (lock_reply (mutex_at st.locks (Some k)) t)) (waiters_row (Some k)) (rank_of st t) refl h
  answered_has (dce.MutexUnlock k) ns new h = unlocked_has (Some k) h
  answered_has dce.LockGlobalNp ns new h = blocks_has st.conds _ (is_blocks (lock_reply (mutex_at st.locks None) t)) (waiters_row None) (rank_of st t) refl h
  answered_has dce.UnlockGlobalNp ns new h = unlocked_has None h
  answered_has (dce.CondWait c k) ns new h =
      let o : Waited = wait st.conds st.locks st.rows c k t (rank_of st t) in
      let now : State = record st { conds = o.conds; locks = o.locks } in
      state_has u m now o.rows o.given (waited_has now c k None (rank_of st t) (is_blocks (wait_reply st.conds st.locks c k t)) (waits_there st.conds st.locks c k t) h)
  answered_has (dce.CondTimedwait c k x) ns new h =
      let o : Waited = timedwait st.conds st.locks st.rows c k (first ns) st.clock t (rank_of st t) in
      let now : State = record st { conds = o.conds; locks = o.locks } in
      state_has u m now o.rows o.given
      (waited_has now c k (Some (first ns)) (rank_of st t) (is_blocks (timedwait_reply (wait_reply st.conds st.locks c k t) (int_le (first ns) st.clock)))
      (λ i. waits_there st.conds st.locks c k t (timed_blocks (wait_reply st.conds st.locks c k t) (int_le (first ns) st.clock) i)) h)
  answered_has (dce.CondSignal c) ns new h = waiter_has u m st c (signal st.conds st.rows c).waiter refl sorted h
  answered_has (dce.CondBroadcast c) ns new h =
      let b : Bool = has st.conds.made c.0 in
      all_woken u m (rank_of st) st.conds st.locks st.rows (if b then best_first st.rows (row.Cond c) else []) (once_if b u (best_first st.rows (row.Cond c)) (once_in_row u st.rows (row.Cond c) sorted)) (outside_if u m b st.rows c sorted) (as_has u m st.conds st.locks st.rows h)
  answered_has (dce.Once o routine) ns new h = blocks_has st.conds st.locks (is_blocks (enter st.onces st.rows o t (rank_of st t)).reply) (row.Once o) (rank_of st t) refl h
  answered_has (dce.Read p v w) ns new h = read_has p h
  answered_has (dce.Write p x) ns new h = write_has p (first ns) h
  answered_has (dce.Close p) ns new h =
      let opened : Bool = (pipe_at st.pipes p).is_open in
      same_has u m st.conds st.conds st.locks st.rows _ refl
      (λ i. free_if_stays u m opened (rank_of st) (free_if opened (rank_of st) st.rows (row.Reader p)).rows (row.Writer p) (canonical_free_if opened (rank_of st) st.rows (row.Reader p) sorted) (λ f. absurd (cc))
      (free_if_stays u m opened (rank_of st) st.rows (row.Reader p) sorted (λ f. absurd (cc)) i)) h
  answered_has _ ns new h = same_has u m st.conds _ _ st.rows _ refl (λ i. i) h
