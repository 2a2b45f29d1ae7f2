-- The threads whose time has come, related to one thread at a time.
use Rattle.std.proofs.Common.{◌≡◌, ℕ, Bool, true, false, not, cond, eqb, [], ◌∷◌, Option, Some, None, refl, sym, ◌∙◌, ap, subst, ℤ, arith}
use Rattle.std.proofs.lemmas.Bool.Decides.{nat_tests}
use Rattle.std.specs.List.{filter}
use Rattle.std.specs.Option.{option_and_then, is_some, unwrap_or}
use Rattle.thr_values.specs.declared.number.Tid.{Tid}
use Rattle.thr_values.specs.declared.number.NameId.{NameId}
use Rattle.thr_parts.specs.declared.row.RowId.{RowId}
use Rattle.thr_parts.specs.declared.row.RowId.TheVariants as row
use Rattle.thr_parts.specs.declared.row.Seat.{Seat}
use Rattle.thr_parts.specs.declared.wait.Wait.{Wait}
use Rattle.thr_parts.specs.Tables.{Table, get, cut, IsCanonical}
use Rattle.thr_parts.specs.Rows.{Rows, thread, best_of, in_order, numbers_of, number_in}
use Rattle.thr_parts.specs.Moves.{put_in_row}
use Rattle.thr_parts.specs.Mutexes.{Locks, mutex_at}
use Rattle.thr_parts.specs.Locking.{is_free}
use Rattle.thr_parts.specs.Conditions.{Conds, wait_of, time_of}
use Rattle.thr_parts.specs.Waking.{pull_out, some_if, without_wait, mutex_with, resume, wake_all}
use Rattle.thr_parts.specs.Expiry.{has_come, is_due, due, due_first}
use Rattle.thr_parts.proofs.TableLaws.{get_cut}
use Rattle.thr_parts.proofs.EntryLaws.{itself, pass, canonical_filter, get_filter, filter_put, filter_twice, filter_alike, cut_is}
use Rattle.thr_parts.proofs.BestLaws.{found, best_leads, nobody_in_order}
use Rattle.thr_parts.proofs.RowLaws.{no_number}
use Rattle.thr_parts.proofs.MoveLaws.{canonical_take_out_if}
use Rattle.thr_parts.proofs.WakeLaws.{WakesFirst, out_cut}

abbrev pub is_due_entry : Conds → ℤ → ℕ × Seat → Bool
is_due_entry cs now e = is_due cs now e.0

due_is : (cs : Conds) (rs : Rows) (now : ℤ) → due cs rs now ≡ filter (is_due_entry cs now) rs.seats
unfolding due
due_is cs rs now = refl

canonical_due : (cs : Conds) (rs : Rows) (now : ℤ) → IsCanonical rs.seats → IsCanonical (due cs rs now)
unfolding due
canonical_due cs rs now h = canonical_filter (is_due_entry cs now) rs.seats h

-- ---- the best of them is due, and has a wait

passed : (q : ℕ) (s v : Seat) (p : ℕ × Seat → Bool) (b : Bool) → p (q, v) ≡ b → cond b (Some v) None ≡ Some s → p (q, v) ≡ true
passed q s v p true is e = is
passed q s v p false is e = absurd (cc)

due_from : (cs : Conds) (now : ℤ) (q : ℕ) (s : Seat) (o : Option Seat) → pass (is_due_entry cs now) q o ≡ Some s → is_due cs now q ≡ true
unfolding pass
due_from cs now q s None e = absurd (cc)
due_from cs now q s (Some v) e = passed q s v (is_due_entry cs now) (is_due cs now q) refl e

best_is_due : (cs : Conds) (rs : Rows) (now : ℤ) (e : ℕ × Seat) → IsCanonical rs.seats → best_of (due cs rs now) ≡ Some e → is_due cs now e.0 ≡ true
best_is_due cs rs now e h is =
    due_from cs now e.0 e.1 (get rs.seats e.0) (sym (get_filter (is_due_entry cs now) e.0 rs.seats h) ∙ ap (λ m. get m e.0) (sym (due_is cs rs now)) ∙ found (due cs rs now) e (canonical_due cs rs now h) is)

waits_if_due : (now : ℤ) (o : Option Wait) → has_come now (option_and_then time_of o) ≡ true → is_some o ≡ true
waits_if_due now None e = absurd (cc)
waits_if_due now (Some w) e = refl

-- ---- the others are as due as before

turned_test : (x y : ℕ) → not (eqb x y) ≡ true → eqb x y ≡ false
turned_test x y h = grind (arith, nat_tests)

waits_after : (cs : Conds) (rs : Rows) (t : Tid) → is_some (wait_of cs t) ≡ true → (pull_out cs rs t).conds.waits ≡ cut cs.waits t.0
waits_after cs rs t waits = ap (λ b. waits_for b) waits
  where
    waits_for : Bool → Table Wait
    waits_for b = (without_wait cs (some_if b t)).waits

others_due : (cs : Conds) (rs : Rows) (t : Tid) (now : ℤ) (q : ℕ) → is_some (wait_of cs t) ≡ true → not (eqb t.0 q) ≡ true → is_due (pull_out cs rs t).conds now q ≡ is_due cs now q
others_due cs rs t now q waits other =
    ap (λ m. has_come now (option_and_then time_of (get m q))) (waits_after cs rs t waits)
    ∙ ap (λ o. has_come now (option_and_then time_of o)) (get_cut cs.waits t.0 q ∙ ap (λ b. cond b None (get cs.waits q)) (turned_test t.0 q other))

no_more_due : (cs : Conds) (rs : Rows) (t : Tid) (now : ℤ) → is_some (wait_of cs t) ≡ true → is_due (pull_out cs rs t).conds now t.0 ≡ false
no_more_due cs rs t now waits =
    ap (λ m. has_come now (option_and_then time_of (get m t.0))) (waits_after cs rs t waits)
    ∙ ap (λ o. has_come now (option_and_then time_of o)) (get_cut cs.waits t.0 t.0 ∙ ap (λ b. cond b None (get cs.waits t.0)) (itself t.0))

due_put : (cs : Conds) (rs : Rows) (r : RowId) (t : Tid) (rank : ℕ) (now : ℤ) → IsCanonical rs.seats → is_due cs now t.0 ≡ false
    → due cs (put_in_row rs r t rank) now ≡ filter (is_due_entry cs now) (cut rs.seats t.0)
due_put cs rs r t rank now h apart = due_is cs (put_in_row rs r t rank) now ∙ filter_put (is_due_entry cs now) rs.seats t.0 _ h apart

due_resumed : (rank : Tid → ℕ) (cs : Conds) (ls : Locks) (rs : Rows) (t : Tid) (m : Option NameId) (now : ℤ) → IsCanonical rs.seats → is_due cs now t.0 ≡ false
    → due cs (resume rank ls rs t m).rows now ≡ filter (is_due_entry cs now) (cut rs.seats t.0)
due_resumed rank cs ls rs t None now h apart = due_put cs rs row.Ready t (rank t) now h apart
due_resumed rank cs ls rs t (Some m) now h apart = due_put cs rs (cond (is_free (mutex_at ls (Some m))) row.Ready (row.Mutex m)) t (rank t) now h apart

-- The others in the state after the first was woken are those before, without the first.
others_after : (rank : Tid → ℕ) (cs : Conds) (ls : Locks) (rs : Rows) (t : Tid) (now : ℤ) → IsCanonical rs.seats → is_some (wait_of cs t) ≡ true
    → due (pull_out cs rs t).conds (resume rank ls (pull_out cs rs t).rows t (mutex_with cs t)).rows now ≡ filter (is_due_entry cs now) (cut rs.seats t.0)
others_after rank cs ls rs t now h waits =
    due_resumed rank (pull_out cs rs t).conds ls (pull_out cs rs t).rows t (mutex_with cs t) now (canonical_take_out_if rs (some_if (is_some (wait_of cs t)) t) h) (no_more_due cs rs t now waits)
    ∙ ap (filter (is_due_entry (pull_out cs rs t).conds now)) (out_cut rs (is_some (wait_of cs t)) t h ∙ cut_is rs.seats t.0)
    ∙ filter_alike (is_due_entry (pull_out cs rs t).conds now) (λ (e : ℕ × Seat). not (eqb t.0 e.0)) (is_due_entry cs now) (λ e other. others_due cs rs t now e.0 waits other) rs.seats
    ∙ ap (filter (is_due_entry cs now)) (sym (cut_is rs.seats t.0))

others_before : (cs : Conds) (rs : Rows) (now : ℤ) (t : ℕ) → filter (λ (e : ℕ × Seat). not (eqb t e.0)) (due cs rs now) ≡ filter (is_due_entry cs now) (cut rs.seats t)
others_before cs rs now t =
    ap (filter (λ (e : ℕ × Seat). not (eqb t e.0))) (due_is cs rs now) ∙ sym (filter_twice (is_due_entry cs now) (λ (e : ℕ × Seat). not (eqb t e.0)) rs.seats)
    ∙ ap (filter (is_due_entry cs now)) (sym (cut_is rs.seats t))

step_from : (rank : Tid → ℕ) (cs : Conds) (ls : Locks) (rs : Rows) (now : ℤ) (t : Tid) (e : ℕ × Seat) → IsCanonical rs.seats → best_of (due cs rs now) ≡ Some e → thread e.0 ≡ t
    → WakesFirst rank cs ls rs t (λ conds rows. due_first conds rows now)
unfolding wake_all
step_from rank cs ls rs now t e h is same =
    subst (λ (x : Tid). WakesFirst rank cs ls rs x (λ conds rows. due_first conds rows now)) same
    (ap (wake_all rank cs ls rs) (ap numbers_of (best_leads (due cs rs now) e (canonical_due cs rs now h) is)
    ∙ ap (λ l. thread e.0 ∷ numbers_of (in_order l))
    (others_before cs rs now e.0 ∙ sym (others_after rank cs ls rs (thread e.0) now h (waits_if_due now (get cs.waits e.0) (best_is_due cs rs now e h is))))))

wake_from : (rank : Tid → ℕ) (cs : Conds) (ls : Locks) (rs : Rows) (now : ℤ) (t : Tid) (o : Option (ℕ × Seat)) → IsCanonical rs.seats → best_of (due cs rs now) ≡ o → number_in o ≡ Some t
    → WakesFirst rank cs ls rs t (λ conds rows. due_first conds rows now)
wake_from rank cs ls rs now t None h is e = absurd (cc)
wake_from rank cs ls rs now t (Some x) h is e = step_from rank cs ls rs now t x h is (ap (λ o. unwrap_or o (thread x.0)) e)

pub wake_due_step : (rank : Tid → ℕ) (cs : Conds) (ls : Locks) (rs : Rows) (now : ℤ) (t : Tid) → IsCanonical rs.seats → number_in (best_of (due cs rs now)) ≡ Some t
    → WakesFirst rank cs ls rs t (λ conds rows. due_first conds rows now)
wake_due_step rank cs ls rs now t h e = wake_from rank cs ls rs now t (best_of (due cs rs now)) h refl e

pub wake_due_nobody : (rank : Tid → ℕ) (cs : Conds) (ls : Locks) (rs : Rows) (now : ℤ) → number_in (best_of (due cs rs now)) ≡ None
    → wake_all rank cs ls rs (due_first cs rs now) ≡ record { conds = cs; locks = ls; rows = rs; woken = []; gifts = [] }
unfolding wake_all
wake_due_nobody rank cs ls rs now e = ap (λ l. wake_all rank cs ls rs (numbers_of l)) (nobody_in_order (due cs rs now) (no_number _ e))
