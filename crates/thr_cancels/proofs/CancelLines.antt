-- The lines of cancels.
use Rattle.std.proofs.Common.{◌≡◌, ℕ, suc, ℤ, pos, negsuc, Bool, true, false, not, ◌&&◌, ◌||◌, cond, eqb, List, ◌∷◌, Option, Some, None, refl, sym, ◌∙◌, ap, subst}
use Rattle.std.proofs.lemmas.Bool.{eqb-true, eq-eqb, false≢true}
use Rattle.std.specs.Prelude.{if◌then◌else◌, is_some, is_none, nat_lt}
use Rattle.std.specs.Option.{option_map}
use Rattle.std.specs.Ordering.{int_eq}
use Rattle.std.specs.Cmp.{signed_Decides}
use Rattle.thr_values.specs.declared.number.NameId.{NameId}
use Rattle.thr_values.specs.declared.number.Tid.{Tid}
use Rattle.thr_values.specs.declared.call.Arg.{Arg}
use Rattle.thr_values.specs.declared.call.CallWord.TheVariants as word
use Rattle.thr_parts.specs.declared.row.Place.TheVariants.{Stands}
use Rattle.thr_parts.proofs.EntryLaws.{itself}
use Rattle.thr_cancels.proofs.Owed as owed
use Rattle.thr_cancels.proofs.Owed.{owes_delivery}
use Rattle.thr_values.specs.declared.reply.Effect.{Effect}
use Rattle.thr_values.specs.declared.reply.Effect.TheVariants as effect
use Rattle.thr_values.specs.declared.reply.Reply.{Reply}
use Rattle.thr_values.specs.declared.reply.Reply.TheVariants as reply
use Rattle.thr_values.specs.declared.history.What.{What}
use Rattle.thr_values.specs.declared.history.What.TheVariants as what
use Rattle.thr_syntax.specs.declared.expr.Expr.{Expr}
use Rattle.thr_syntax.specs.declared.dce.DceCall.{DceCall}
use Rattle.thr_syntax.specs.declared.dce.DceCall.TheVariants as dce
use Rattle.thr_syntax.specs.declared.tree.Script.{Script}
use Rattle.thr_remainder.specs.Calls.{shape_of, arguments}
use Rattle.thr_parts.specs.declared.row.Seat.{Seat}
use Rattle.thr_parts.specs.declared.thread.Thread.{Thread}
use Rattle.thr_parts.specs.Tables.{Table, get, put, put_if, keep_if, IsCanonical}
use Rattle.thr_parts.specs.Replies.{is_blocks}
use Rattle.thr_parts.specs.Rows.{Rows, thread, row_at}
use Rattle.thr_parts.specs.Threads as threads
use Rattle.thr_parts.specs.Threads.{Threads, ThreadsReply, natural, record_at, rank_at}
use Rattle.thr_parts.specs.Cancels as cancels
use Rattle.thr_parts.specs.Cancels.{mode_in, mode_at, with_mode, set_mode}
use Rattle.thr_laws.specs.Lines.{own_line, is_some_line, is_end}
use Rattle.thr_laws.specs.Known.{Known, cancel_of, reply_if, is_to_deliver, is_wakes, general_after, asynchronous_after, known_with, known_after}
use Rattle.thr_laws.specs.CancelLaw.{is_waiting_point, delivers_outstanding, has_effect, is_effect, passes_no_point, delivers_when_woken}
use Rattle.thr_model.specs.States.{State, Delivery, rank_of}
use Rattle.thr_model.specs.Calls.{answered}
use Rattle.thr_model.specs.Turns.{thread_line}
use Rattle.thr_cancels.proofs.Seats as seats
use Rattle.thr_cancels.proofs.Seats.{IsMoved, is_calm, calm_no_point, same_row, cancel_wait_moves, is_calm_row}
use Rattle.thr_cancels.proofs.CallSeats.{wakes_at_point, cancelled_go, point_seat}
use Rattle.thr_cancels.proofs.Records as records
use Rattle.thr_cancels.proofs.Records.{with_new, with_new_recorded, new_record, not_yet, IsNewRecord, put_core_here, put_core_other, core_of, IsRecorded, Core, core, is_alive, changes_records, answered_recorded}
use Rattle.thr_cancels.proofs.CallLines.{CallTold, other_call, own_call, own_call_fine, told_by, IsAsking}
use Rattle.thr_cancels.proofs.SpecialCalls.{matches_some, made_some, known_some}
use Rattle.thr_parts.specs.Cancels.{marks, as_pending, is_marked, cancel_reply, effect_on, waits_at_point}
use Rattle.thr_parts.specs.Mutexes.{Locks, mutex_at}
use Rattle.thr_parts.specs.Locking.{is_free}
use Rattle.thr_parts.specs.Moves.{take_out}
use Rattle.thr_parts.specs.Waking.{resume, mutex_with}
use Rattle.thr_parts.specs.CancelledWaits.{cancel_wait}
use Rattle.thr_parts.specs.declared.row.RowId.{RowId}
use Rattle.thr_parts.specs.declared.row.RowId.TheVariants as row
use Rattle.thr_parts.specs.Threads.{with_records}
use Rattle.thr_parts.proofs.TableLaws.{get_put}
use Rattle.thr_model.specs.Calls.{cancelled}
use Rattle.thr_cancels.proofs.Owed.{without_free, out_free}
use Rattle.thr_cancels.proofs.Agreement.{is_cancelled, and_true, or_false, head_and, Matches, KnowsOf, IsFine, IsPassed, IsRunning, by_itself, by_another, and_false}

-- ---- effects

abbrev effect_by : (a p g b : Bool) → Effect
effect_by a p g b = if a then effect.Ended else (if p then effect.Merged else (if g && b then effect.Wakes else effect.Pending))

-- What an effect tells of the thread: whether it has ended, whether a cancel is pending, general cancelability, and whether it
-- waits at a point.
abbrev Facts : (a p g b : Bool) → Effect → Type 0
Facts a p g b effect.Ended = a ≡ true
Facts a p g b effect.Merged = (a ≡ false) × (p ≡ true)
Facts a p g b effect.Pending = (a ≡ false) × (p ≡ false)
Facts a p g b effect.Wakes = (a ≡ false) × (p ≡ false) × (g ≡ true) × (b ≡ true)

facts : (a p g b : Bool) → Facts a p g b (effect_by a p g b)
facts true p g b = refl
facts false true g b = (refl, refl)
facts false false false b = (refl, refl)
facts false false true false = (refl, refl)
facts false false true true = (refl, refl, refl, refl)

abbrev FactsOf : Thread → Bool → Effect → Type 0
FactsOf th at x = Facts (is_some th.ended) th.mode.pending th.mode.general at x

two : (a b : Bool) → a ≡ true → b ≡ true → (a && b) ≡ true
two true b e f = f
two false b e f = absurd (false≢true e)

not_is : (b : Bool) → b ≡ false → not b ≡ true
not_is true e = absurd (false≢true (sym e))
not_is false e = refl

four : (a b c d : Bool) → a ≡ true → b ≡ true → c ≡ true → d ≡ true → (a && b && c && d) ≡ true
four a b c d e f g h =
    subst (λ x. (x && b && c && d) ≡ true) (sym e) (subst (λ x. (true && x && c && d) ≡ true) (sym f)
    (subst (λ x. (true && true && x && d) ≡ true) (sym g) (subst (λ x. (true && true && true && x) ≡ true) (sym h) refl)))

effect_holds : (k : Known) (th : Thread) (at : Bool) (x : Effect) → Matches k (core_of th) → FactsOf th at x → (at ≡ true → is_some_line is_waiting_point k.last ≡ true) → is_effect k (reply.Effect x) ≡ true
effect_holds k th at effect.Ended m f waits = m.ended ∙ f
effect_holds k th at effect.Merged m f waits = two (not k.ended) k.outstanding (not_is k.ended (m.ended ∙ f.0)) (m.outstanding ∙ f.1)
effect_holds k th at effect.Pending m f waits = two (not k.ended) (not k.outstanding) (not_is k.ended (m.ended ∙ f.0)) (not_is k.outstanding (m.outstanding ∙ f.1))
effect_holds k th at effect.Wakes m f waits =
    four (not k.ended) (not k.outstanding) (is_some_line is_waiting_point k.last) k.general (not_is k.ended (m.ended ∙ f.0)) (not_is k.outstanding (m.outstanding ∙ f.1)) (waits f.3) (m.general ∙ f.2)

-- ---- a cancel of another thread

put_if_other : (m : Table Thread) (n u : ℕ) (x : Option Thread) → eqb n u ≡ false → core (get (put_if m n x) u) ≡ core (get m u)
put_if_other m n u None e = refl
put_if_other m n u (Some th) e = put_core_other m n u th e

cancelled_passed : (t u : ℕ) (waits : Bool) (st : State) (target : Tid) (o : ThreadsReply) (y : Reply) → eqb target.0 u ≡ false → IsRecorded u st.threads o.threads
    → IsMoved t (suc u) u waits (get st.rows.seats u) (get (cancelled st target o y).state.rows.seats u) → IsPassed t u waits st (cancelled st target o y).state
cancelled_passed t u waits st target o (reply.Effect effect.Wakes) e r m = record {
  moved = m;
  left = record {
    debts = owed.stays (get_put st.debts target.0 u Delivery ∙ ap (λ b. cond b (Some Delivery) (get st.debts u)) e);
    waits = λ _. without_free u st.conds _;
  };
  recorded = r;
}
cancelled_passed t u waits st target o (reply.Effect effect.Ended) e r m = record { moved = m; left = record { debts = owed.stays refl; waits = λ _ x. x }; recorded = r }
cancelled_passed t u waits st target o (reply.Effect effect.Merged) e r m = record { moved = m; left = record { debts = owed.stays refl; waits = λ _ x. x }; recorded = r }
cancelled_passed t u waits st target o (reply.Effect effect.Pending) e r m = record { moved = m; left = record { debts = owed.stays refl; waits = λ _ x. x }; recorded = r }
cancelled_passed t u waits st target o _ e r m = record { moved = m; left = record { debts = owed.stays refl; waits = λ _ x. x }; recorded = r }

pos_same : (n u : ℕ) → eqb n u ≡ false → n ≡ u → ⊥
pos_same n u e f = false≢true (sym e ∙ eq-eqb n u f)

apart_number : (n u : ℕ) (b : Bool) → eqb n u ≡ b → int_eq (pos n) (pos u) ≡ false → eqb n u ≡ false
apart_number n u false e f = e
apart_number n u true e f = absurd (false≢true (sym f ∙ (signed_Decides (pos n) (pos u)).1 (ap pos (eqb-true n u e))))

abbrev cancels_of : State → ℤ → ThreadsReply
cancels_of st n = cancels.cancel st.threads n (waits_at_point st.rows (thread (natural n)))

cancel_passed : (t u : ℕ) (waits : Bool) (st : State) (n : ℤ) → int_eq n (pos u) ≡ false
    → IsMoved t (suc u) u waits (get st.rows.seats u) (get (cancelled st (thread (natural n)) (cancels_of st n) (cancels_of st n).reply).state.rows.seats u)
    → IsPassed t u waits st (cancelled st (thread (natural n)) (cancels_of st n) (cancels_of st n).reply).state
cancel_passed t u waits st (pos n) e m =
    let apart : eqb n u ≡ false = apart_number n u (eqb n u) refl e in
    cancelled_passed t u waits st (thread n) (cancels_of st (pos n)) (cancels_of st (pos n)).reply apart (records.stays (put_if_other st.threads.records n u _ apart) refl) m
cancel_passed t u waits st (negsuc n) e m = record { moved = m; left = record { debts = owed.stays refl; waits = λ _ x. x }; recorded = records.stays refl refl }

-- ---- a cancel of the thread

-- The state after a cancel with this effect.
abbrev cancel_state : State → ℕ → Thread → Effect → State
cancel_state st u th x =
    let marked : Option Thread = keep_if (marks x) (Some (as_pending th)) in
    let o : ThreadsReply = record { reply = reply.Effect x; threads = with_records st.threads (put_if st.threads.records u marked) } in
    (cancelled st (thread u) o (reply.Effect x)).state

nothing_passed : (t u : ℕ) (waits : Bool) (st : State) → IsPassed t u waits st st
nothing_passed t u waits st = record { moved = seats.same refl; left = record { debts = owed.stays refl; waits = λ _ x. x }; recorded = records.stays refl refl }

pending_core : Thread → Core
pending_core th = core_of (as_pending th)

off_cancelled : (th : Thread) → th.mode.pending ≡ false → is_cancelled (Some (core_of th)) ≡ true → ⊥
off_cancelled th e f = false≢true (sym e ∙ (head_and th.mode.pending th.mode.general (head_and (is_none th.ended) (th.mode.pending && th.mode.general) f).1).0)

pending_matches : (k : Known) (th : Thread) (own : Option What) → is_some_line is_end own ≡ false → general_after own k.general ≡ k.general → asynchronous_after own k.asynchronous ≡ k.asynchronous → Matches k (core_of th)
    → (y : Effect) → marks y ≡ true → Matches (known_with k own (Some (reply.Effect y))) (core_of (as_pending th))
pending_matches k th own e g a m effect.Pending f = record { outstanding = refl; general = g ∙ m.general; asynchronous = a ∙ m.asynchronous; ended = ap (λ b. k.ended || b) e ∙ or_false k.ended ∙ m.ended }
pending_matches k th own e g a m effect.Wakes f = record { outstanding = refl; general = g ∙ m.general; asynchronous = a ∙ m.asynchronous; ended = ap (λ b. k.ended || b) e ∙ or_false k.ended ∙ m.ended }
pending_matches k th own e g a m effect.Ended f = absurd (false≢true f)
pending_matches k th own e g a m effect.Merged f = absurd (false≢true f)

pending_knows : (u : ℕ) (k : Known) (st : State) (th : Thread) → get st.threads.records u ≡ Some th → th.mode.pending ≡ false → KnowsOf u k st → KnowsOf u (known_with k None (Some (reply.Effect effect.Pending))) (cancel_state st u th effect.Pending)
pending_knows u k st th e off h =
    let was : core (get st.threads.records u) ≡ Some (core_of th) = ap core e in
    let now : core (get (put st.threads.records u (as_pending th)) u) ≡ Some (core_of (as_pending th)) = put_core_here st.threads.records u u (as_pending th) (itself u) in
    let made : nat_lt u st.threads.next ≡ true = made_some k _ (nat_lt u st.threads.next) (core_of th) h.recorded was in
    let no_debt : (owes_delivery (get st.debts u) ≡ true → ⊥) = λ f. off_cancelled th off (sym (ap is_cancelled was) ∙ h.cancelled f) in record {
      recorded = known_some _ _ (nat_lt u st.threads.next) (core_of (as_pending th)) now made (pending_matches k th None refl refl refl (matches_some k _ (nat_lt u st.threads.next) (core_of th) h.recorded was) effect.Pending refl);
      seated = λ f. ap is_alive now ∙ sym (ap is_alive was) ∙ h.seated f;
      cancelled = λ f. absurd (no_debt f);
      calm = λ f. absurd (no_debt f);
      free = λ f. absurd (no_debt f);
      woken = λ f. h.woken (sym (and_true k.woken) ∙ f);
      waiting = h.waiting;
    }

pending_running : (u : ℕ) (k : Known) (st : State) (th : Thread) (args : List Arg) (y : Reply) → get st.threads.records u ≡ Some th → IsRunning u k st
    → IsRunning u (known_with k (Some (what.Call word.Cancel args y)) (Some (reply.Effect effect.Pending))) (cancel_state st u th effect.Pending)
pending_running u k st th args y e h =
    let was : core (get st.threads.records u) ≡ Some (core_of th) = ap core e in
    let now : core (get (put st.threads.records u (as_pending th)) u) ≡ Some (core_of (as_pending th)) = put_core_here st.threads.records u u (as_pending th) (itself u) in
    let made : nat_lt u st.threads.next ≡ true = made_some k _ (nat_lt u st.threads.next) (core_of th) h.knows.recorded was in
    let own : Option What = Some (what.Call word.Cancel args y) in record {
      knows = record {
        recorded = known_some _ _ (nat_lt u st.threads.next) (core_of (as_pending th)) now made (pending_matches k th own refl refl refl (matches_some k _ (nat_lt u st.threads.next) (core_of th) h.knows.recorded was) effect.Pending refl);
        seated = λ f. ap is_alive now ∙ sym (ap is_alive was) ∙ h.knows.seated f;
        cancelled = λ f. absurd (false≢true (sym h.owes ∙ f));
        calm = λ f. absurd (false≢true (sym h.owes ∙ f));
        free = λ f. absurd (false≢true (sym h.owes ∙ f));
        woken = λ f. absurd (false≢true (sym (and_false k.woken) ∙ f));
        waiting = λ f. absurd (false≢true (sym h.runs ∙ f));
      };
      quiet = and_false k.woken;
      owes = h.owes;
      runs = h.runs;
    }

put_calm : (rs : Rows) (m : Table Seat) (w rank arrival : ℕ) (r : RowId) → is_calm_row r ≡ true → is_calm (row_at (get (put m w (record { rank = rank; place = Stands r arrival })) w)) ≡ true
put_calm rs m w rank arrival r e =
    let s : Seat = record { rank = rank; place = Stands r arrival } in
    ap (λ o. is_calm (row_at o)) (get_put m w w s ∙ ap (λ b. cond b (Some s) (get m w)) (itself w)) ∙ e

calm_if : (b : Bool) (m : NameId) → is_calm_row (if b then row.Ready else row.Mutex m) ≡ true
calm_if true m = refl
calm_if false m = refl

resume_calm : (rank : Tid → ℕ) (ls : Locks) (rs : Rows) (w : Tid) (m : Option NameId) → is_calm (row_at (get (resume rank ls rs w m).rows.seats w.0)) ≡ true
resume_calm rank ls rs w None = put_calm rs rs.seats w.0 (rank w) rs.next_arrival row.Ready refl
resume_calm rank ls rs w (Some m) = put_calm rs rs.seats w.0 (rank w) rs.next_arrival (if is_free (mutex_at ls (Some m)) then row.Ready else row.Mutex m) (calm_if (is_free (mutex_at ls (Some m))) m)

none_is : (o : Option ℤ) → is_some o ≡ false → is_none o ≡ true
none_is None e = refl
none_is (Some v) e = absurd (false≢true (sym e))

woken_knows : (u : ℕ) (k : Known) (st : State) (th : Thread) → get st.threads.records u ≡ Some th → is_some th.ended ≡ false → th.mode.general ≡ true → KnowsOf u k st
    → KnowsOf u (known_with k None (Some (reply.Effect effect.Wakes))) (cancel_state st u th effect.Wakes)
woken_knows u k st th e live on h =
    let was : core (get st.threads.records u) ≡ Some (core_of th) = ap core e in
    let now : core (get (put st.threads.records u (as_pending th)) u) ≡ Some (core_of (as_pending th)) = put_core_here st.threads.records u u (as_pending th) (itself u) in
    let made : nat_lt u st.threads.next ≡ true = made_some k _ (nat_lt u st.threads.next) (core_of th) h.recorded was in
    let calm : is_calm (row_at (get (cancel_wait (rank_of st) st.conds st.pipes st.locks st.rows (thread u)).rows.seats u)) ≡ true =
    resume_calm (rank_of st) st.locks (take_out st.rows (thread u)).rows (thread u) (mutex_with st.conds (thread u)) in record {
      recorded = known_some _ _ (nat_lt u st.threads.next) (core_of (as_pending th)) now made (pending_matches k th None refl refl refl (matches_some k _ (nat_lt u st.threads.next) (core_of th) h.recorded was) effect.Wakes refl);
      seated = λ _. ap is_alive now ∙ none_is th.ended live;
      cancelled = λ _. ap is_cancelled now ∙ two (is_none th.ended) th.mode.general (none_is th.ended live) on;
      calm = λ _. calm;
      free = λ _. out_free st.conds st.rows (thread u) (get st.conds.waits u) refl;
      woken = λ _. ap owes_delivery (get_put st.debts u u Delivery ∙ ap (λ b. cond b (Some Delivery) (get st.debts u)) (itself u));
      waiting = λ f. absurd (false≢true (sym (calm_no_point _ calm) ∙ f));
    }

-- ---- all cancels

abbrev cancel_line : List Arg → Reply → What
cancel_line args y = what.Call word.Cancel args y

abbrev AsksToCancel : ℕ → ℕ → Known → State → Type 0
AsksToCancel t u k st = (e : Expr) → IsAsking t u k st (dce.Cancel e)

other_fine : (t : Tid) (u : ℕ) (k : Known) (w : What) (r : Option Reply) → eqb t.0 u ≡ false → cancel_of u w ≡ r → has_effect k r ≡ true → IsFine u k (thread_line t w)
other_fine t u k w r apart c e =
    let own : own_line u (thread_line t w) ≡ None = by_another u t w apart in record {
      outstanding = ap (delivers_outstanding k) own;
      effects = ap (has_effect k) c ∙ e;
      points = ap (passes_no_point k) own;
      woken = ap (delivers_when_woken k) own;
    }

fits_effect : (u : ℕ) (k : Known) (st : State) (th : Thread) (at : Bool) (x : Effect) → get st.threads.records u ≡ Some th → FactsOf th at x → (at ≡ true → cancels.is_point (row_at (get st.rows.seats u)) ≡ true) → KnowsOf u k st
    → is_effect k (reply.Effect x) ≡ true
fits_effect u k st th at x is f point h = effect_holds k th at x (matches_some k _ (nat_lt u st.threads.next) (core_of th) h.recorded (ap core is)) f (λ g. h.waiting (point g))

other_marked : (t : Tid) (u : ℕ) (k : Known) (args : List Arg) (y : Reply) (st : State) → eqb t.0 u ≡ false → cancel_of u (cancel_line args y) ≡ Some y → has_effect k (Some y) ≡ true → KnowsOf u (known_with k None (Some y)) st
    → CallTold t.0 u k (thread_line t (cancel_line args y)) false st
other_marked t u k args y st e c f h = record {
  fine = other_fine t u k (cancel_line args y) (Some y) e c f;
  knows = subst (λ (l : Known). KnowsOf u l st)
      (sym (ap (λ o. known_with k o (cancel_of u (cancel_line args y))) (by_another u t (cancel_line args y) e) ∙ ap (λ x. known_with k None x) c)) h;
  runs = λ g. absurd (false≢true (sym e ∙ g));
}

own_marked : (t : Tid) (u : ℕ) (k : Known) (args : List Arg) (y : Reply) (st : State) → eqb t.0 u ≡ true → cancel_of u (cancel_line args y) ≡ Some y → has_effect k (Some y) ≡ true → k.woken ≡ false
    → IsRunning u (known_with k (Some (cancel_line args y)) (Some y)) st → CallTold t.0 u k (thread_line t (cancel_line args y)) false st
own_marked t u k args y st e c f q h =
    let running : IsRunning u (known_after u k (thread_line t (cancel_line args y))) st =
    subst (λ (l : Known). IsRunning u l st)
    (sym (ap (λ o. known_with k o (cancel_of u (cancel_line args y))) (by_itself u t (cancel_line args y) e) ∙ ap (λ x. known_with k (Some (cancel_line args y)) x) c)) h in record {
      fine = own_call_fine t u k word.Cancel args y e (ap (has_effect k) c ∙ f) q (λ p. absurd (false≢true p));
      knows = running.knows;
      runs = λ _ _. running;
    }

-- A cancel that marks nothing.
unmarked : (t : Tid) (u : ℕ) (k : Known) (args : List Arg) (y : Reply) (st : State) (self : Bool) → eqb t.0 u ≡ self → is_blocks y ≡ false → is_to_deliver (Some y) ≡ false → is_wakes (Some y) ≡ false
    → cancel_of u (cancel_line args y) ≡ Some y → has_effect k (Some y) ≡ true → (self ≡ true → is_some (get st.rows.seats u) ≡ true) → (self ≡ true → IsRunning u k st) → KnowsOf u k st
    → CallTold t.0 u k (thread_line t (cancel_line args y)) false st
unmarked t u k args y st false e b d w c f there runs h =
    other_call t u false false k (cancel_line args y) (Some y) st st e (record { cancel = c; delivers = d; wakes = w; effects = f }) (nothing_passed t.0 u false st) h
unmarked t u k args y st true e b d w c f there runs h =
    subst (λ (x : Bool). CallTold t.0 u k (thread_line t (cancel_line args y)) x st) b
    (own_call t u k word.Cancel args y (Some y) st st e (record { cancel = c; delivers = d; wakes = w; effects = f }) (λ b. refl) (λ b. refl) (λ p. absurd (false≢true p)) (nothing_passed t.0 u _ st) (there refl) (runs refl))

marked_told : (t : Tid) (u : ℕ) (k : Known) (args : List Arg) (st : State) (th : Thread) (at self : Bool) (x : Effect) → eqb t.0 u ≡ self → get st.threads.records u ≡ Some th → cancel_of u (cancel_line args (reply.Effect x)) ≡ Some (reply.Effect x)
    → FactsOf th at x → (at ≡ true → cancels.is_point (row_at (get st.rows.seats u)) ≡ true) → (self ≡ true → is_some (get st.rows.seats u) ≡ true) → (self ≡ true → IsRunning u k st) → KnowsOf u k st
    → CallTold t.0 u k (thread_line t (cancel_line args (reply.Effect x))) false (cancel_state st u th x)
marked_told t u k args st th at self effect.Ended e is c f point there runs h =
    unmarked t u k args (reply.Effect effect.Ended) st self e refl refl refl c (fits_effect u k st th at effect.Ended is f point h) there runs h
marked_told t u k args st th at self effect.Merged e is c f point there runs h =
    unmarked t u k args (reply.Effect effect.Merged) st self e refl refl refl c (fits_effect u k st th at effect.Merged is f point h) there runs h
marked_told t u k args st th at false effect.Pending e is c f point there runs h =
    other_marked t u k args (reply.Effect effect.Pending) (cancel_state st u th effect.Pending) e c (fits_effect u k st th at effect.Pending is f point h) (pending_knows u k st th is f.1 h)
marked_told t u k args st th at true effect.Pending e is c f point there runs h =
    own_marked t u k args (reply.Effect effect.Pending) (cancel_state st u th effect.Pending) e c (fits_effect u k st th at effect.Pending is f point h) (runs refl).quiet
    (pending_running u k st th args (reply.Effect effect.Pending) is (runs refl))
marked_told t u k args st th at false effect.Wakes e is c f point there runs h =
    other_marked t u k args (reply.Effect effect.Wakes) (cancel_state st u th effect.Wakes) e c (fits_effect u k st th at effect.Wakes is f point h) (woken_knows u k st th is f.0 f.2 h)
marked_told t u k args st th at true effect.Wakes e is c f point there runs h = absurd (false≢true (sym (runs refl).runs ∙ point f.3))

-- The cancel of a thread that may have a record.
found_told : (t : Tid) (u : ℕ) (k : Known) (args : List Arg) (st : State) (at self : Bool) (found : Option Thread) → eqb t.0 u ≡ self → get st.threads.records u ≡ found
    → ((y : Reply) → cancel_of u (cancel_line args y) ≡ Some y) → (at ≡ true → cancels.is_point (row_at (get st.rows.seats u)) ≡ true) → (self ≡ true → is_some (get st.rows.seats u) ≡ true) → (self ≡ true → IsRunning u k st) → KnowsOf u k st
    → (let marked : Option Thread = keep_if (is_marked found at) (option_map as_pending found) in
    let o : ThreadsReply = record { reply = cancel_reply found at; threads = with_records st.threads (put_if st.threads.records u marked) } in
    CallTold t.0 u k (thread_line t (cancel_line args o.reply)) false (cancelled st (thread u) o o.reply).state)
found_told t u k args st at self None e is c point there runs h = unmarked t u k args reply.Esrch st self e refl refl refl (c reply.Esrch) refl there runs h
found_told t u k args st at self (Some th) e is c point there runs h =
    marked_told t u k args st th at self (effect_on th at) e is (c (reply.Effect (effect_on th at))) (facts (is_some th.ended) th.mode.pending th.mode.general at) point there runs h

point_row : (rs : Rows) (u : ℕ) → waits_at_point rs (thread u) ≡ true → cancels.is_point (row_at (get rs.seats u)) ≡ true
point_row rs u e = e

cancel_not_blocks : (o : Option Thread) (at : Bool) → is_blocks (cancel_reply o at) ≡ false
cancel_not_blocks None at = refl
cancel_not_blocks (Some th) at = refl

same_number : (n : ℤ) (u : ℕ) → int_eq n (pos u) ≡ true → n ≡ pos u
same_number n u e = (signed_Decides n (pos u)).0 e

by_number : (s : Script) (st : State) (t : Tid) (e : Expr) (n : ℤ) (ns : List ℤ) (u : ℕ) (k : Known) (args : List Arg) (b : Bool) → int_eq n (pos u) ≡ b → ((y : Reply) → cancel_of u (cancel_line args y) ≡ reply_if (int_eq n (pos u)) y)
    → IsCanonical st.rows.seats → IsAsking t.0 u k st (dce.Cancel e) → KnowsOf u k st
    → CallTold t.0 u k (thread_line t (cancel_line args (cancels_of st n).reply)) false (cancelled st (thread (natural n)) (cancels_of st n) (cancels_of st n).reply).state
unfolding answered shape_of
by_number s st t e n ns u k args false is c canonical asks h =
    subst (λ (x : Bool). CallTold t.0 u k (thread_line t (cancel_line args (cancels_of st n).reply)) x (cancelled st (thread (natural n)) (cancels_of st n) (cancels_of st n).reply).state)
    (cancel_not_blocks (threads.record_of st.threads n) (waits_at_point st.rows (thread (natural n))))
    (told_by t u k (dce.Cancel e) args (cancels_of st n).reply None st (cancelled st (thread (natural n)) (cancels_of st n) (cancels_of st n).reply).state (eqb t.0 u) refl refl
    (record { cancel = c (cancels_of st n).reply ∙ ap (λ b. reply_if b (cancels_of st n).reply) is; delivers = refl; wakes = refl; effects = refl })
    (cancel_passed t.0 u _ st n is (cancelled_go t.0 (suc u) u _ st (thread (natural n)) (cancels_of st n) (cancels_of st n).reply (λ f. point_seat st.rows (thread (natural n)) (wakes_at_point (threads.record_of st.threads n) (waits_at_point st.rows (thread (natural n))) f)))) asks h)
by_number s st t e n ns u k args true is c canonical asks h =
    subst (λ (m : ℤ). CallTold t.0 u k (thread_line t (cancel_line args (cancels_of st m).reply)) false (cancelled st (thread (natural m)) (cancels_of st m) (cancels_of st m).reply).state) (sym (same_number n u is))
    (found_told t u k args st (waits_at_point st.rows (thread u)) (eqb t.0 u) (get st.threads.records u) refl refl (λ y. c y ∙ ap (λ b. reply_if b y) is) (point_row st.rows u) asks.there asks.runs h)

cancelled_reply : (st : State) (target : Tid) (o : ThreadsReply) (y : Reply) → (cancelled st target o y).reply ≡ o.reply
cancelled_reply st target o (reply.Effect effect.Wakes) = refl
cancelled_reply st target o (reply.Effect effect.Ended) = refl
cancelled_reply st target o (reply.Effect effect.Merged) = refl
cancelled_reply st target o (reply.Effect effect.Pending) = refl
cancelled_reply st target o _ = refl

pub cancel_told : (s : Script) (st : State) (t : Tid) (e : Expr) (n : ℤ) (ns : List ℤ) (u : ℕ) (k : Known) → IsCanonical st.rows.seats → IsAsking t.0 u k st (dce.Cancel e) → KnowsOf u k st
    → (let call : DceCall = dce.Cancel e in CallTold t.0 u k (thread_line t (what.Call (shape_of call).word (arguments call (n ∷ ns)) (answered s st t call (n ∷ ns)).reply)) false (answered s st t call (n ∷ ns)).state)
unfolding answered shape_of
cancel_told s st t e n ns u k canonical asks h =
    let args : List Arg = arguments (dce.Cancel e) (n ∷ ns) in
    subst (λ (y : Reply). CallTold t.0 u k (thread_line t (cancel_line args y)) false (cancelled st (thread (natural n)) (cancels_of st n) (cancels_of st n).reply).state)
    (sym (cancelled_reply st (thread (natural n)) (cancels_of st n) (cancels_of st n).reply))
    (by_number s st t e n ns u k args (int_eq n (pos u)) refl (λ y. refl) canonical asks h)
