-- Broadcasts and moves of the clock, related to one thread at a time.
use Rattle.std.proofs.Common.{◌≡◌, ℕ, Bool, true, false, cond, List, [], Option, Some, None, refl, sym, ◌∙◌, ap, subst, ℤ}
use Rattle.std.specs.List.{filter}
use Rattle.std.specs.Option.{option_map, option_and_then, is_some, unwrap_or}
use Rattle.thr_values.specs.declared.number.Tid.{Tid}
use Rattle.thr_values.specs.declared.number.NameId.{NameId}
use Rattle.thr_parts.specs.declared.row.RowId.TheVariants as row
use Rattle.thr_parts.specs.declared.row.Seat.{Seat}
use Rattle.thr_parts.specs.declared.wait.Wait.{Wait}
use Rattle.thr_parts.specs.declared.wait.Wait.TheVariants.{Cond, Delay}
use Rattle.thr_parts.specs.Tables.{get, IsCanonical}
use Rattle.thr_parts.specs.Rows.{Rows, thread, best_of, number_in, best, best_first}
use Rattle.thr_parts.specs.Moves.{take_out_if}
use Rattle.thr_parts.specs.Mutexes.{Locks}
use Rattle.thr_parts.specs.Conditions.{Conds, wait_of, mutex_of, time_of}
use Rattle.thr_parts.specs.Waking.{without_wait, some_if, mutex_with, beside_mutex, beside_wait, thread_in, take_next, wake_all, wake_then}
use Rattle.thr_parts.specs.Expiry.{has_come, is_due, due, due_first, expire}
use Rattle.thr_parts.proofs.EntryLaws.{pass, canonical_filter, get_filter}
use Rattle.thr_parts.proofs.BestLaws.{found}
use Rattle.thr_parts.proofs.RowLaws.{best_stands}
use Rattle.thr_parts.proofs.WakeLaws.{wake_row_nobody, wake_cond_step}
use Rattle.thr_parts.proofs.DueLaws.{wake_due_nobody, wake_due_step}
use Rattle.thr_conds.specs.Agreement.{waiting_row, if_waiting, WaitsAgree}
use Rattle.thr_conds.specs.Taking.{taken_then}

same_some : {A : Type 0} (x y : A) → Some x ≡ Some y → x ≡ y
same_some x y e = ap (λ o. unwrap_or o x) e

-- ---- a thread that has a wait leaves it

-- The thread that is there leaves its wait as one does that has it.
with_wait : (rank : Tid → ℕ) (cs : Conds) (ls : Locks) (rs : Rows) (t : Tid) (others : Conds → Rows → List Tid) → is_some (wait_of cs t) ≡ true
    → wake_then rank cs ls rs t others ≡ taken_then rank (without_wait cs (Some t)) ls (take_out_if rs (Some t)) t (mutex_with cs t) others
with_wait rank cs ls rs t others waits =
    ap (λ (b : Bool). taken_then rank (without_wait cs (some_if b t)) ls (take_out_if rs (some_if b t)) t (mutex_with cs t) others) waits

pub some_wait : (w : Option Wait) (m : NameId) → option_and_then mutex_of w ≡ Some m → is_some w ≡ true
some_wait None m e = absurd (cc)
some_wait (Some w) m e = refl

-- ---- broadcasts

-- The thread that is taken next is the best of the row, and waits with this mutex.
pub record IsNext (cs : Conds) (rs : Rows) (c : NameId) (t : Tid) (m : NameId) : Type 0 where
  pub best : best rs (row.Cond c) ≡ Some t
  pub mutex : mutex_with cs t ≡ Some m

beside : (cs : Conds) (rs : Rows) (c : NameId) (u t : Tid) (m : NameId) (o : Option NameId) → best rs (row.Cond c) ≡ Some u → mutex_with cs u ≡ o
    → option_map {U = Tid × NameId} (λ (n : NameId). (u, n)) o ≡ Some (t, m) → IsNext cs rs c t m
beside cs rs c u t m None is with_mutex e = absurd (cc)
beside cs rs c u t m (Some n) is with_mutex e =
    let same : (u, n) ≡ (t, m) = same_some (u, n) (t, m) e in
    let thread_is : u ≡ t = ap (λ (p : Tid × NameId). p.0) same in
    let mutex_is : n ≡ m = ap (λ (p : Tid × NameId). p.1) same in
    record { best = is ∙ ap Some thread_is; mutex = ap (mutex_with cs) (sym thread_is) ∙ with_mutex ∙ ap Some mutex_is }

pub next_by : (cs : Conds) (rs : Rows) (c : NameId) (t : Tid) (m : NameId) (o : Option Tid) → best rs (row.Cond c) ≡ o → option_and_then (beside_mutex cs) o ≡ Some (t, m)
    → IsNext cs rs c t m
next_by cs rs c t m None is e = absurd (cc)
next_by cs rs c t m (Some u) is e = beside cs rs c u t m (mutex_with cs u) is refl e

pub broadcast_next : (rank : Tid → ℕ) (cs : Conds) (ls : Locks) (rs : Rows) (c : NameId) (t : Tid) (m : NameId) → IsCanonical rs.seats → (take_next cs rs c).waiter ≡ Some (t, m)
    → wake_all rank cs ls rs (best_first rs (row.Cond c))
    ≡ taken_then rank (take_next cs rs c).conds ls (take_next cs rs c).rows t (Some m) (λ _ rows. best_first rows (row.Cond c))
broadcast_next rank cs ls rs c t m h e =
    let next : IsNext cs rs c t m = next_by cs rs c t m (best rs (row.Cond c)) refl e in
    wake_cond_step rank cs ls rs c t h next.best ∙ with_wait rank cs ls rs t (λ _ rows. best_first rows (row.Cond c)) (some_wait (wait_of cs t) m next.mutex)
    ∙ ap (λ (o : Option NameId). taken_then rank (without_wait cs (Some t)) ls (take_out_if rs (Some t)) t o (λ _ rows. best_first rows (row.Cond c))) next.mutex
    ∙ sym (ap (λ (o : Option (Tid × NameId)). taken_then rank (without_wait cs (thread_in o)) ls (take_out_if rs (thread_in o)) t (Some m) (λ _ rows. best_first rows (row.Cond c))) e)

never_none : {A : Type 0} (o : Option A) (x : A) → o ≡ Some x → o ≡ None → ⊥
never_none o x e n = absurd (cc)

waits_there : (c : NameId) (w : Option Wait) → option_map waiting_row w ≡ Some (row.Cond c) → option_and_then mutex_of w ≡ None → ⊥
waits_there c None e n = absurd (cc)
waits_there c (Some (Cond d m until)) e n = absurd (cc)
waits_there c (Some (Delay until)) e n = absurd (cc)

no_mutex : (u : Tid) (o : Option NameId) → option_map {U = Tid × NameId} (λ (n : NameId). (u, n)) o ≡ None → o ≡ None
no_mutex u None e = refl
no_mutex u (Some n) e = absurd (cc)

nobody_by : (cs : Conds) (rs : Rows) (c : NameId) (o : Option Tid) → IsCanonical rs.seats → WaitsAgree cs rs → best rs (row.Cond c) ≡ o → option_and_then (beside_mutex cs) o ≡ None
    → o ≡ None
nobody_by cs rs c None h agrees is e = refl
nobody_by cs rs c (Some u) h agrees is e =
    absurd (waits_there c (wait_of cs u) (agrees.same u ∙ ap if_waiting (best_stands rs (row.Cond c) u h is)) (no_mutex u (mutex_with cs u) e))

pub broadcast_none : (rank : Tid → ℕ) (cs : Conds) (ls : Locks) (rs : Rows) (c : NameId) → IsCanonical rs.seats → WaitsAgree cs rs → (take_next cs rs c).waiter ≡ None
    → wake_all rank cs ls rs (best_first rs (row.Cond c)) ≡ record { conds = cs; locks = ls; rows = rs; woken = []; gifts = [] }
broadcast_none rank cs ls rs c h agrees e =
    wake_row_nobody rank cs ls rs (row.Cond c) (nobody_by cs rs c (best rs (row.Cond c)) h agrees refl e)

-- ---- times

no_who : (cs : Conds) (o : Option Tid) → option_map (beside_wait cs) o ≡ None → o ≡ None
no_who cs None e = refl
no_who cs (Some u) e = absurd (cc)

pub expiry_none : (rank : Tid → ℕ) (cs : Conds) (ls : Locks) (rs : Rows) (now : ℤ) → (expire cs rs now).who ≡ None
    → wake_all rank cs ls rs (due_first cs rs now) ≡ record { conds = cs; locks = ls; rows = rs; woken = []; gifts = [] }
expiry_none rank cs ls rs now e = wake_due_nobody rank cs ls rs now (no_who cs (number_in (best_of (due cs rs now))) e)

-- The thread that is taken is the best whose time has come, and waits so.
pub record IsFirst (cs : Conds) (rs : Rows) (now : ℤ) (t : Tid) (m : Option NameId) : Type 0 where
  pub best : number_in (best_of (due cs rs now)) ≡ Some t
  pub mutex : mutex_with cs t ≡ m

pub first_by : (cs : Conds) (rs : Rows) (now : ℤ) (t : Tid) (m : Option NameId) (o : Option Tid) → number_in (best_of (due cs rs now)) ≡ o → option_map (beside_wait cs) o ≡ Some (t, m)
    → IsFirst cs rs now t m
first_by cs rs now t m None is e = absurd (cc)
first_by cs rs now t m (Some u) is e =
    let same : (u, mutex_with cs u) ≡ (t, m) = same_some (u, mutex_with cs u) (t, m) e in
    let thread_is : u ≡ t = ap (λ (p : Tid × Option NameId). p.0) same in
    record { best = is ∙ ap Some thread_is; mutex = ap (mutex_with cs) (sym thread_is) ∙ ap (λ (p : Tid × Option NameId). p.1) same }

abbrev is_due_entry : Conds → ℤ → ℕ × Seat → Bool
is_due_entry cs now e = is_due cs now e.0

due_is : (cs : Conds) (rs : Rows) (now : ℤ) → due cs rs now ≡ filter (is_due_entry cs now) rs.seats
unfolding due
due_is cs rs now = refl

waits_if_due : (now : ℤ) (w : Option Wait) (b : Bool) → has_come now (option_and_then time_of w) ≡ b → b ≡ true → is_some w ≡ true
waits_if_due now None b is e = absurd (cc)
waits_if_due now (Some w) b is e = refl

passed : (now : ℤ) (w : Option Wait) (b : Bool) (v s : Seat) → has_come now (option_and_then time_of w) ≡ b → cond b (Some v) None ≡ Some s → is_some w ≡ true
passed now w true v s is e = waits_if_due now w true is refl
passed now w false v s is e = absurd (cc)

waits_by : (cs : Conds) (now : ℤ) (q : ℕ) (s : Seat) (o : Option Seat) → pass (is_due_entry cs now) q o ≡ Some s → is_some (get cs.waits q) ≡ true
unfolding pass
waits_by cs now q s None e = absurd (cc)
waits_by cs now q s (Some v) e = passed now (get cs.waits q) (is_due cs now q) v s refl e

pub first_waits : (cs : Conds) (rs : Rows) (now : ℤ) (t : Tid) (o : Option (ℕ × Seat)) → IsCanonical rs.seats → best_of (due cs rs now) ≡ o → number_in o ≡ Some t
    → is_some (wait_of cs t) ≡ true
first_waits cs rs now t None h is e = absurd (cc)
first_waits cs rs now t (Some x) h is e =
    let at : get (filter (is_due_entry cs now) rs.seats) x.0 ≡ Some x.1 = found (filter (is_due_entry cs now) rs.seats) x (canonical_filter (is_due_entry cs now) rs.seats h) (ap best_of (sym (due_is cs rs now)) ∙ is) in
    subst (λ (u : Tid). is_some (wait_of cs u) ≡ true) (same_some (thread x.0) t e)
    (waits_by cs now x.0 x.1 (get rs.seats x.0) (sym (get_filter (is_due_entry cs now) x.0 rs.seats h) ∙ at))

pub expiry_next : (rank : Tid → ℕ) (cs : Conds) (ls : Locks) (rs : Rows) (now : ℤ) (t : Tid) (m : Option NameId) → IsCanonical rs.seats → (expire cs rs now).who ≡ Some (t, m)
    → wake_all rank cs ls rs (due_first cs rs now)
    ≡ taken_then rank (expire cs rs now).conds ls (expire cs rs now).rows t m (λ conds rows. due_first conds rows now)
expiry_next rank cs ls rs now t m h e =
    let first : IsFirst cs rs now t m = first_by cs rs now t m (number_in (best_of (due cs rs now))) refl e in
    wake_due_step rank cs ls rs now t h first.best
    ∙ with_wait rank cs ls rs t (λ conds rows. due_first conds rows now) (first_waits cs rs now t (best_of (due cs rs now)) h refl first.best)
    ∙ ap (λ (o : Option NameId). taken_then rank (without_wait cs (Some t)) ls (take_out_if rs (Some t)) t o (λ conds rows. due_first conds rows now)) first.mutex
    ∙ sym (ap (λ (o : Option Tid). taken_then rank (without_wait cs o) ls (take_out_if rs o) t m (λ conds rows. due_first conds rows now)) first.best)
