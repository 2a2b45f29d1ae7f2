-- What a call of another thread makes of a thread's wait on a condition, by its line and in the state.
use Rattle.std.proofs.Common.{◌≡◌, ℕ, ℤ, pos, negsuc, Bool, true, false, not, ◌&&◌, ◌||◌, eqb, ◌==◌, List, [], ◌∷◌, Option, Some, None, refl, sym, ap, ◌∙◌, subst}
use Rattle.std.proofs.lemmas.Bool.{eqb-true, eq-eqb, false≢true}
use Rattle.std.specs.Prelude.{if◌then◌else◌, is_some}
use Rattle.std.specs.Ordering.{int_eq}
use Rattle.std.specs.Cmp.{signed_Decides}
use Rattle.std.specs.Option.{option_map}
use Rattle.thr_values.specs.declared.number.NameId.{NameId}
use Rattle.thr_values.specs.declared.number.Tid.{Tid}
use Rattle.thr_values.specs.declared.history.What.{What}
use Rattle.thr_values.specs.declared.history.What.TheVariants as what
use Rattle.thr_values.specs.declared.reply.Effect.TheVariants as effect
use Rattle.thr_values.specs.declared.reply.Reply.{Reply}
use Rattle.thr_values.specs.declared.reply.Reply.TheVariants as reply
use Rattle.thr_syntax.specs.declared.expr.Expr.{Expr}
use Rattle.thr_syntax.specs.declared.dce.DceCall.{DceCall}
use Rattle.thr_syntax.specs.declared.dce.DceCall.TheVariants as dce
use Rattle.thr_syntax.specs.declared.tree.Script.{Script}
use Rattle.thr_remainder.specs.Calls.{shape_of, arguments}
use Rattle.thr_parts.specs.declared.row.RowId.TheVariants as row
use Rattle.thr_parts.specs.declared.thread.Thread.{Thread}
use Rattle.thr_parts.specs.Tables.{get, has, keep_if, IsCanonical}
use Rattle.thr_parts.specs.Replies.{made_reply}
use Rattle.thr_parts.specs.Rows.{thread, row_at, best_first, is_among}
use Rattle.thr_parts.specs.Threads.{ThreadsReply, natural, record_of}
use Rattle.thr_parts.specs.Cancels.{waits_at_point, effect_on, cancel_reply}
use Rattle.thr_parts.specs.Cancels as cancels
use Rattle.thr_parts.specs.Waking.{signal, Signalled, next_waiter}
use Rattle.thr_parts.proofs.StandingLaws.{among_is}
use Rattle.thr_conds.specs.Agreement.{WaitsAgree}
use Rattle.thr_laws.specs.Lines.{implies, own_line}
use Rattle.thr_laws.specs.Known.{cancel_of, reply_if, is_wakes}
use Rattle.thr_laws.proofs.ReadingLaws.{and_both}
use Rattle.thr_model.specs.States.{State}
use Rattle.thr_model.specs.Calls.{answered, signals_one, cancelled}
use Rattle.thr_model.specs.Turns.{thread_line}
use Rattle.thr_answers.proofs.CallLines.{AreValues}
use Rattle.thr_answers.proofs.StatusCalls.{cancelled_reply, woken_at_point}
use Rattle.thr_ports.specs.Signals.{Waiter, signalled_in, notified_in, stands_on, is_notified, after_other, is_taken, after_line, waiter_after, takes_a_waiter, has_left, stays_pending, goes_on, waits_rightly}
use Rattle.thr_ports.proofs.Marking.{taken_in, mark, always_implied, by_another, SaysNothing, away_idle, IsIdle, idle_after, idle_passes}
use Rattle.thr_ports.proofs.Resting.{Knows, Rests, rests_on, not_true}
use Rattle.thr_ports.proofs.CallsRest.{ends_waits, answered_rests}
use Rattle.thr_ports.proofs.Signalling.{row_stands, stands_row, takes_none, taken_stands, none_taken, signal_takes, another_taken, broadcast_to, notified, not_notified, left_owes, left_no_point, cancel_wakes, cancel_rests, wakes_none, cancel_leaves}

-- What is known of a state in which another thread has its turn: who waits agrees with the rows, and this thread has a record and
-- has not ended where it owes something.
pub record Fair (u : ℕ) (st : State) : Type 0 where
  pub sorted : IsCanonical st.rows.seats
  pub agree : WaitsAgree st.conds st.rows
  pub living : is_some (get st.debts u) ≡ true → (th : Thread) × (get st.threads.records u ≡ Some th) × (th.ended ≡ None)

-- The line comes rightly, and after it the state knows what has come of the wait.
pub record Comes (u : ℕ) (w : Waiter) (st : State) (t : Tid) (x : What) (st' : State) : Type 0 where
  pub passes : waits_rightly u w (mark st (thread_line t x)) ≡ true
  pub knows : Knows u (waiter_after u w (mark st (thread_line t x))) st'

abbrev pub call_line : DceCall → List ℤ → Reply → What
call_line call ns y = what.Call (shape_of call).word (arguments call ns) y

-- A line by which nothing comes.
pub idle_comes : (u : ℕ) (w : Waiter) (st st' : State) (t : Tid) (x : What) → (t.0 == u) ≡ false → SaysNothing u x → Rests u st st' → Knows u w st → Comes u w st t x st'
idle_comes u w st st' t x other s r k =
    let i : IsIdle u (thread_line t x) = away_idle u t x other s in record {
      passes = idle_passes u st w (thread_line t x) i;
      knows = subst (λ v. Knows u v st') (sym (idle_after u st w (thread_line t x) i)) (rests_on u w st st' r k);
    }

-- A call that ends no waits says nothing of them.
call_says_nothing : (u : ℕ) (call : DceCall) (ns : List ℤ) (y : Reply) → ends_waits call ≡ false → SaysNothing u (call_line call ns y)
unfolding shape_of
call_says_nothing u (dce.CondSignal c) ns y e = absurd (false≢true (sym e))
call_says_nothing u (dce.CondBroadcast c) ns y e = absurd (false≢true (sym e))
call_says_nothing u (dce.Cancel x) ns y e = absurd (false≢true (sym e))
call_says_nothing u _ ns y e = record { cancel = refl; signal = refl; broadcast = refl }

-- Nor does a signal or a broadcast on a condition that isn't made.
no_signal : (u : ℕ) (c : NameId) (ns : List ℤ) → SaysNothing u (call_line (dce.CondSignal c) ns reply.Einval)
unfolding shape_of
no_signal u c ns = record { cancel = refl; signal = refl; broadcast = refl }

no_broadcast : (u : ℕ) (c : NameId) (ns : List ℤ) → SaysNothing u (call_line (dce.CondBroadcast c) ns reply.Einval)
unfolding shape_of
no_broadcast u c ns = record { cancel = refl; signal = refl; broadcast = refl }

-- ---- the parts of a line

module _ (u : ℕ) (w : Waiter) (st : State) (t : Tid) (x : What) (other : (t.0 == u) ≡ false) where
  -- What the line makes of the thread, by what it says.
  line_after : (comes wakes : Bool) → (is_taken u (taken_in st (signalled_in x)) || is_notified (notified_in x) w) ≡ comes → is_wakes (cancel_of u x) ≡ wakes
      → waiter_after u w (mark st (thread_line t x)) ≡ after_other w comes false wakes
  line_after comes wakes a b =
      ap (after_line u w (mark st (thread_line t x))) (by_another u t x other)
      ∙ ap (λ c. after_other w c false (is_wakes (cancel_of u x))) a ∙ ap (λ c. after_other w comes false c) b

  line_passes : takes_a_waiter u w (signalled_in x) (taken_in st (signalled_in x)) ≡ true → implies (has_left w) (stays_pending (cancel_of u x)) ≡ true → waits_rightly u w (mark st (thread_line t x)) ≡ true
  line_passes a b =
      and_both (takes_a_waiter u w (signalled_in x) (taken_in st (signalled_in x))) _ a
      (and_both (implies (has_left w) (stays_pending (cancel_of u x))) (goes_on w (own_line u (thread_line t x))) b (ap (goes_on w) (by_another u t x other)))

-- ---- signals

module _ (u : ℕ) (w : Waiter) (s : Script) (st : State) (t : Tid) (other : (t.0 == u) ≡ false) (fair : Fair u st) (knows : Knows u w st) where
  -- One on a condition that is made.
  signal_by : (c : NameId) (ns : List ℤ) (o : Option (Tid × NameId)) → has st.conds.made c.0 ≡ true → (signal st.conds st.rows c).waiter ≡ o
      → Comes u w st t (call_line (dce.CondSignal c) ns reply.Done) (signals_one st (signal st.conds st.rows c) o).state
  unfolding shape_of
  signal_by c ns None made is =
      let x : What = call_line (dce.CondSignal c) ns reply.Done in
      let none : taken_in st (Some c) ≡ None = ap (option_map (λ (k : Tid × NameId). k.0.0)) is in
      let after : State = (signals_one st (signal st.conds st.rows c) None).state in
      let off : stands_on c w ≡ false = not_true (stands_on c w) (λ h. takes_none st c fair.agree fair.sorted (has st.conds.made c.0) is made u (stands_row u w st knows fair.agree c h)) in record {
        passes = line_passes u w st t x other (ap (takes_a_waiter u w (Some c)) none ∙ ap not off) (always_implied (has_left w));
        knows = subst (λ v. Knows u v after) (sym (line_after u w st t x other false false (ap (λ o. is_taken u o || false) none) refl)) (rests_on u w st after (none_taken u st c is) knows);
      }
  signal_by c ns (Some k) made is = by (k.0.0 == u) refl
    where
      x : What
      x = call_line (dce.CondSignal c) ns reply.Done

      after : State
      after = (signals_one st (signal st.conds st.rows c) (Some k)).state

      taken : taken_in st (Some c) ≡ Some k.0.0
      taken = ap (option_map (λ (k : Tid × NameId). k.0.0)) is

      by : (b : Bool) → (k.0.0 == u) ≡ b → Comes u w st t (call_line (dce.CondSignal c) ns reply.Done) (signals_one st (signal st.conds st.rows c) (Some k)).state
      by true e =
          let on : stands_on c w ≡ true =
          row_stands u w st knows fair.agree c (subst (λ (q : ℕ). row_at (get st.rows.seats q) ≡ Some (row.Cond c)) (eqb-true k.0.0 u e) (taken_stands st c fair.agree fair.sorted k is)) in record {
            passes = line_passes u w st t x other (ap (takes_a_waiter u w (Some c)) taken ∙ ap (λ b. implies (k.0.0 == u) b) on ∙ always_implied (k.0.0 == u)) (always_implied (has_left w));
            knows = subst (λ v. Knows u v after) (sym (line_after u w st t x other true false (ap (λ o. is_taken u o || false) taken ∙ ap (λ b. b || false) e) refl)) (signal_takes u st c k is e);
          }
      by false e = record {
        passes = line_passes u w st t x other (ap (takes_a_waiter u w (Some c)) taken ∙ ap (λ b. implies b (stands_on c w)) e) (always_implied (has_left w));
        knows = subst (λ v. Knows u v after) (sym (line_after u w st t x other false false (ap (λ o. is_taken u o || false) taken ∙ ap (λ b. b || false) e) refl))
            (rests_on u w st after (another_taken u st c k fair.sorted is e) knows);
      }

  signal_if : (c : NameId) (ns : List ℤ) (o : Option (Tid × NameId)) (made : Bool) → has st.conds.made c.0 ≡ made → (signal st.conds st.rows c).waiter ≡ o
      → Comes u w st t (call_line (dce.CondSignal c) ns (made_reply made)) (signals_one st (signal st.conds st.rows c) o).state
  signal_if c ns o true made is = signal_by c ns o made is
  signal_if c ns (Some k) false made is = absurd (none_some (sym (ap (λ b. keep_if b (next_waiter st.conds st.rows c)) made) ∙ is))
    where
      none_some : (let x : Option (Tid × NameId) = None in x) ≡ Some k → ⊥
      none_some f = absurd (cc)
  signal_if c ns None false made is = idle_comes u w st _ t (call_line (dce.CondSignal c) ns reply.Einval) other (no_signal u c ns) (none_taken u st c is) knows

  -- ---- broadcasts

  broadcast_made : (c : NameId) (ns : List ℤ) → Comes u w st t (call_line (dce.CondBroadcast c) ns reply.Done) (broadcast_to u st (best_first st.rows (row.Cond c)))
  unfolding shape_of
  broadcast_made c ns = by (is_among (thread u) (best_first st.rows (row.Cond c))) refl
    where
      x : What
      x = call_line (dce.CondBroadcast c) ns reply.Done

      ts : List Tid
      ts = best_first st.rows (row.Cond c)

      by : (b : Bool) → is_among (thread u) ts ≡ b → Comes u w st t (call_line (dce.CondBroadcast c) ns reply.Done) (broadcast_to u st ts)
      by true e =
          let on : stands_on c w ≡ true = row_stands u w st knows fair.agree c ((among_is st.rows (row.Cond c) (thread u) fair.sorted).0 e) in record {
            passes = line_passes u w st t x other refl (always_implied (has_left w));
            knows = subst (λ v. Knows u v (broadcast_to u st ts)) (sym (line_after u w st t x other true false on refl)) (notified u st ts e);
          }
      by false e =
          let off : stands_on c w ≡ false =
          not_true (stands_on c w) (λ h. false≢true (sym e ∙ (among_is st.rows (row.Cond c) (thread u) fair.sorted).1 (stands_row u w st knows fair.agree c h))) in record {
            passes = line_passes u w st t x other refl (always_implied (has_left w));
            knows = subst (λ v. Knows u v (broadcast_to u st ts)) (sym (line_after u w st t x other false false off refl))
                (rests_on u w st (broadcast_to u st ts) (not_notified u st ts (λ f. false≢true (sym e ∙ f))) knows);
          }

  broadcast_if : (c : NameId) (ns : List ℤ) (made : Bool) → Comes u w st t (call_line (dce.CondBroadcast c) ns (made_reply made)) (broadcast_to u st (if made then best_first st.rows (row.Cond c) else []))
  broadcast_if c ns true = broadcast_made c ns
  broadcast_if c ns false = idle_comes u w st (broadcast_to u st []) t (call_line (dce.CondBroadcast c) ns reply.Einval) other (no_broadcast u c ns) (not_notified u st [] (λ f. false≢true f)) knows

  -- ---- cancels

  no_wake : (y : Reply) (b : Bool) → wakes_none y ≡ true → is_wakes (reply_if b y) ≡ false
  no_wake (reply.Effect effect.Wakes) b e = absurd (false≢true e)
  no_wake (reply.Effect effect.Ended) true e = refl
  no_wake (reply.Effect effect.Merged) true e = refl
  no_wake (reply.Effect effect.Pending) true e = refl
  no_wake y false e = refl
  no_wake _ true e = refl

  is_wake : (y : Reply) → wakes_none y ≡ false → y ≡ reply.Effect effect.Wakes
  is_wake (reply.Effect effect.Wakes) e = refl
  is_wake (reply.Effect effect.Ended) e = absurd (false≢true (sym e))
  is_wake (reply.Effect effect.Merged) e = absurd (false≢true (sym e))
  is_wake (reply.Effect effect.Pending) e = absurd (false≢true (sym e))
  is_wake _ e = absurd (false≢true (sym e))

  -- A thread that has left its condition has a record, so that its cancel is pending or merges.
  effect_pends : (pending general : Bool) → stays_pending (Some (reply.Effect (if pending then effect.Merged else (if general && false then effect.Wakes else effect.Pending)))) ≡ true
  effect_pends true general = refl
  effect_pends false true = refl
  effect_pends false false = refl

  pends : (o : Option Thread) (th : Thread) (at : Bool) → o ≡ Some th → th.ended ≡ None → at ≡ false → stays_pending (Some (cancel_reply o at)) ≡ true
  pends o th at is lives calm =
      ap (λ x. stays_pending (Some (cancel_reply x at))) is
      ∙ ap (λ (e : Option ℤ). stays_pending (Some (reply.Effect (if is_some e then effect.Ended else (if th.mode.pending then effect.Merged else (if th.mode.general && at then effect.Wakes else effect.Pending)))))) lives
      ∙ ap (λ b. stays_pending (Some (reply.Effect (if th.mode.pending then effect.Merged else (if th.mode.general && b then effect.Wakes else effect.Pending))))) calm
      ∙ effect_pends th.mode.pending th.mode.general

  left_pends : has_left w ≡ true → stays_pending (Some (cancel_reply (get st.threads.records u) (waits_at_point st.rows (thread u)))) ≡ true
  left_pends h =
      let l = fair.living (left_owes u w st knows h) in
      pends (get st.threads.records u) l.0 (waits_at_point st.rows (thread u)) l.1 l.2 (not_true (waits_at_point st.rows (thread u)) (λ a. left_no_point u w st knows h a))

  implied : (a b : Bool) → (a ≡ true → b ≡ true) → implies a b ≡ true
  implied true b f = f refl
  implied false b f = refl

  -- What the reply of a cancel of this number is.
  abbrev reply_to : ℤ → Reply
  reply_to n = cancel_reply (record_of st.threads n) (waits_at_point st.rows (thread (natural n)))

  cancel_pends : (n : ℤ) (b : Bool) → int_eq n (pos u) ≡ b → implies (has_left w) (stays_pending (reply_if b (reply_to n))) ≡ true
  cancel_pends n false is = always_implied (has_left w)
  cancel_pends n true is =
      subst (λ (m : ℤ). implies (has_left w) (stays_pending (Some (reply_to m))) ≡ true) (sym ((signed_Decides n (pos u)).0 is)) (implied (has_left w) _ left_pends)

  wakes_some : (n : ℤ) → reply_to n ≡ reply.Effect effect.Wakes → (k : ℕ) × (n ≡ pos k)
  wakes_some (pos k) e = (k, refl)
  wakes_some (negsuc k) e = absurd (cc)

  abbrev cancel_line : Expr → ℤ → List ℤ → Reply → What
  cancel_line e n ns y = call_line (dce.Cancel e) (n ∷ ns) y

  -- One that wakes the thread of a number.
  wakes_by : (e : Expr) (k : ℕ) (ns : List ℤ) (o : ThreadsReply) (b : Bool) → eqb k u ≡ b → waits_at_point st.rows (thread k) ≡ true
      → Comes u w st t (cancel_line e (pos k) ns (reply.Effect effect.Wakes)) (cancelled st (thread k) o (reply.Effect effect.Wakes)).state
  unfolding shape_of
  wakes_by e k ns o true is at =
      subst (λ (q : ℕ). Comes u w st t (cancel_line e (pos q) ns (reply.Effect effect.Wakes)) (cancelled st (thread q) o (reply.Effect effect.Wakes)).state) (sym (eqb-true k u is)) itself
    where
      here : waits_at_point st.rows (thread u) ≡ true
      here = subst (λ (q : ℕ). waits_at_point st.rows (thread q) ≡ true) (eqb-true k u is) at

      x : What
      x = cancel_line e (pos u) ns (reply.Effect effect.Wakes)

      own : int_eq (pos u) (pos u) ≡ true
      own = (signed_Decides (pos u) (pos u)).1 refl

      itself : Comes u w st t (cancel_line e (pos u) ns (reply.Effect effect.Wakes)) (cancelled st (thread u) o (reply.Effect effect.Wakes)).state
      itself = record {
        passes = line_passes u w st t x other refl (implied (has_left w) _ (λ h. absurd (left_no_point u w st knows h here)));
        knows = subst (λ v. Knows u v (cancelled st (thread u) o (reply.Effect effect.Wakes)).state)
            (sym (line_after u w st t x other false true refl (ap (λ b. is_wakes (reply_if b (reply.Effect effect.Wakes))) own))) (cancel_wakes u w st o knows here);
      }
  wakes_by e k ns o false is at =
      let x : What = cancel_line e (pos k) ns (reply.Effect effect.Wakes) in
      let apart : int_eq (pos k) (pos u) ≡ false = not_true (int_eq (pos k) (pos u)) (λ f. false≢true (sym is ∙ eq-eqb k u (natural_same k u ((signed_Decides (pos k) (pos u)).0 f)))) in record {
        passes = line_passes u w st t x other refl (ap (λ b. implies (has_left w) (stays_pending (reply_if b (reply.Effect effect.Wakes)))) apart ∙ always_implied (has_left w));
        knows = subst (λ v. Knows u v (cancelled st (thread k) o (reply.Effect effect.Wakes)).state)
            (sym (line_after u w st t x other false false refl (ap (λ b. is_wakes (reply_if b (reply.Effect effect.Wakes))) apart)))
            (rests_on u w st _ (cancel_rests u st (thread k) o (reply.Effect effect.Wakes) is (λ _. at)) knows);
      }
    where
      natural_same : (a b : ℕ) → pos a ≡ pos b → a ≡ b
      natural_same a b e = ap natural e

  cancel_by : (e : Expr) (n : ℤ) (ns : List ℤ) (o : ThreadsReply) (y : Reply) (b : Bool) → y ≡ reply_to n → wakes_none y ≡ b → Comes u w st t (cancel_line e n ns y) (cancelled st (thread (natural n)) o y).state
  unfolding shape_of
  cancel_by e n ns o y true is none =
      let x : What = cancel_line e n ns y in record {
        passes = line_passes u w st t x other refl
            (subst (λ (z : Reply). implies (has_left w) (stays_pending (reply_if (int_eq n (pos u)) z)) ≡ true) (sym is) (cancel_pends n (int_eq n (pos u)) refl));
        knows = subst (λ v. Knows u v (cancelled st (thread (natural n)) o y).state) (sym (line_after u w st t x other false false refl (no_wake y (int_eq n (pos u)) none)))
            (rests_on u w st _ (cancel_leaves u st (thread (natural n)) o y none) knows);
      }
  cancel_by e n ns o y false is some =
      let wake : y ≡ reply.Effect effect.Wakes = is_wake y some in
      let k = wakes_some n (sym is ∙ wake) in
      subst (λ (z : Reply). Comes u w st t (cancel_line e n ns z) (cancelled st (thread (natural n)) o z).state) (sym wake)
      (subst (λ (m : ℤ). Comes u w st t (cancel_line e m ns (reply.Effect effect.Wakes)) (cancelled st (thread (natural m)) o (reply.Effect effect.Wakes)).state) (sym k.1)
      (wakes_by e k.0 ns o (eqb k.0 u) refl
      (woken_at_point (record_of st.threads (pos k.0)) (waits_at_point st.rows (thread k.0)) (subst (λ (m : ℤ). reply_to m ≡ reply.Effect effect.Wakes) k.1 (sym is ∙ wake)))))

  -- ---- all calls

  signals_reply : (o : Signalled) (k : Option (Tid × NameId)) → (signals_one st o k).reply ≡ o.reply
  signals_reply o None = refl
  signals_reply o (Some k) = refl

  abbrev ComesBy : DceCall → List ℤ → Reply → State → Type 0
  ComesBy call ns y after = Comes u w st t (call_line call ns y) after

  pub call_comes : (call : DceCall) (ns : List ℤ) → AreValues call ns → ComesBy call ns (answered s st t call ns).reply (answered s st t call ns).state
  unfolding answered shape_of
  call_comes (dce.CondSignal c) ns v =
      let o : Signalled = signal st.conds st.rows c in
      subst (λ y. ComesBy (dce.CondSignal c) ns y (signals_one st o o.waiter).state) (sym (signals_reply o o.waiter)) (signal_if c ns o.waiter (has st.conds.made c.0) refl refl)
  call_comes (dce.CondBroadcast c) ns v = broadcast_if c ns (has st.conds.made c.0)
  call_comes (dce.Cancel e) [] v = absurd (cc)
  call_comes (dce.Cancel e) (n ∷ ns) v =
      let who : Tid = thread (natural n) in
      let o : ThreadsReply = cancels.cancel st.threads n (waits_at_point st.rows who) in
      subst (λ y. ComesBy (dce.Cancel e) (n ∷ ns) y (cancelled st who o o.reply).state) (sym (cancelled_reply st who o o.reply refl)) (cancel_by e n ns o o.reply (wakes_none o.reply) refl refl)
  call_comes call ns v = idle_comes u w st _ t (call_line call ns (answered s st t call ns).reply) other (call_says_nothing u call ns _ refl) (answered_rests s st t call ns u other refl fair.sorted) knows
