-- Threads whose time has come, that leave their waits one at a time.
use Rattle.std.proofs.Common.{◌≡◌, ℕ, suc, ℤ, ◌+◌, ◌^◌, ◌<◌, ◌≤◌, Bool, true, false, not, cond, eqb, List, [], ◌∷◌, ◌++◌, map, length, Option, Some, None, IfSome, refl, sym, arith, ◌∙◌, ap, subst}
use Rattle.std.proofs.lemmas.Bool.Decides.{nat_tests}
use Rattle.std.specs.List.{filter}
use Rattle.std.specs.Option.{option_map, is_some}
use Rattle.thr_values.specs.declared.number.Tid.{Tid}
use Rattle.thr_values.specs.declared.number.NameId.{NameId}
use Rattle.thr_values.specs.declared.history.Entry.{Entry}
use Rattle.thr_values.specs.declared.history.What.TheVariants as what
use Rattle.thr_remainder.specs.Remainders.{Remainder}
use Rattle.thr_parts.specs.declared.row.RowId.{RowId}
use Rattle.thr_parts.specs.declared.row.RowId.TheVariants as row
use Rattle.thr_parts.specs.declared.wait.Wait.{Wait}
use Rattle.thr_parts.specs.Tables.{Table, names, get, put, cut, IsCanonical}
use Rattle.thr_parts.specs.Rows.{Rows, row_of, best_of, number_in, most}
use Rattle.thr_parts.specs.Moves.{take_out, take_out_if, put_in_row}
use Rattle.thr_parts.specs.Threads.{Threads, rank_at}
use Rattle.thr_parts.specs.Mutexes.{Locks}
use Rattle.thr_parts.specs.Locking.{Regained}
use Rattle.thr_parts.specs.Conditions.{Conds, wait_of}
use Rattle.thr_parts.specs.Waking.{Woken, mutex_with, without_wait, resume, gift_of}
use Rattle.thr_parts.specs.Expiry.{Expired, due, due_first, expire, expire_all}
use Rattle.thr_parts.proofs.EntryLaws.{get_cons, get_empty, cut_is}
use Rattle.thr_conds.specs.Agreement.{waiting_row, if_waiting, WaitsAgree}
use Rattle.thr_conds.specs.Taking.{taken_then}
use Rattle.thr_conds.proofs.TakingLaws.{IsFirst, first_by, first_waits, expiry_next, expiry_none}
use Rattle.thr_conds.proofs.CallLaws.{agree_expire, agree_resume, expired_waits_not}
use Rattle.thr_model.specs.States.{State, rank_of}
use Rattle.thr_model.specs.States as states
use Rattle.thr_model.specs.Calls.{Gifts}
use Rattle.thr_model.specs.Turns.{Made, thread_line, gift_lines}
use Rattle.thr_model.specs.Events.{clock_line, due_debt, due_owe, clock_made, clock_to}
use Rattle.thr_services.specs.declared.debt.Debt.{Debt}
use Rattle.thr_services.specs.Views.{ServicesView, as_owed, all_owed, state_with}
use Rattle.thr_services.specs.Ready.{due_as, due_all, OwersStand, CanBeReady}
use Rattle.thr_services.specs.Cancelling.{MutexesFit}
use Rattle.thr_services.proofs.DebtLaws.{put_owed}
use Rattle.thr_services.proofs.SeatLaws.{standing_can}
use Rattle.thr_services.proofs.FreeingLaws.{owers_moved}
use Rattle.thr_services.proofs.WakingLaws.{all_given, given_more, few_given, none_given, not_longer_by, fit_without, nothing_more}

-- ---- a table is shorter without what stands at a number

filter_shorter : {A : Type 0} (p : A → Bool) (xs : List A) → length (filter p xs) ≤ length xs
filter_shorter p [] = omega arith
filter_shorter p (x ∷ xs) =
    let rest : length (filter p xs) ≤ length xs = filter_shorter p xs in
    elim (p x) as (λ b. length (cond b (x ∷ filter p xs) (filter p xs)) ≤ suc (length xs)) [ true ↦ omega (arith, rest) | false ↦ omega (arith, rest) ]

abbrev others : {A : Type 0} → ℕ → ℕ × A → Bool
others k e = not (eqb k e.0)

turned_test : (k n : ℕ) → eqb k n ≡ eqb n k
turned_test k n = grind (arith, nat_tests)

one_head : {A : Type 0} (k : ℕ) (e : ℕ × A) (es : Table A) (b : Bool) → eqb e.0 k ≡ b → length (filter (others k) es) ≤ length es
    → (is_some (get es k) ≡ true → length (filter (others k) es) < length es) → is_some (cond b (Some e.1) (get es k)) ≡ true
    → length (cond (not b) (e ∷ filter (others k) es) (filter (others k) es)) < suc (length es)
one_head k e es true is at_most rest h = omega (arith, at_most)
one_head k e es false is at_most rest h = omega (arith, rest h)

without_one : {A : Type 0} (k : ℕ) (es : Table A) → is_some (get es k) ≡ true → length (filter (others k) es) < length es
without_one k [] h = absurd (cc (get_empty k))
without_one k (e ∷ es) h =
    subst (λ (b : Bool). length (cond (not b) (e ∷ filter (others k) es) (filter (others k) es)) < suc (length es)) (turned_test e.0 k)
    (one_head k e es (eqb e.0 k) refl (filter_shorter (others k) es) (without_one k es) (sym (ap is_some (get_cons e es k)) ∙ h))

fewer_waits : (cs : Conds) (t : Tid) → is_some (wait_of cs t) ≡ true → length (without_wait cs (Some t)).waits < length cs.waits
fewer_waits cs t h = subst (λ (l : Table Wait). length l < length cs.waits) (sym (cut_is cs.waits t.0)) (without_one t.0 cs.waits h)

-- ---- one thread

-- The best thread whose time has come was taken, with its mutex, and conditions and rows are so after it.
pub record HasExpired (cs after : Conds) (rs mid : Rows) (now : ℤ) (t : Tid) (m : Option NameId) : Type 0 where
  pub taken : (let o : Expired = record { conds = after; rows = mid; who = Some (t, m) } in o) ≡ expire cs rs now

is_first : (cs after : Conds) (rs mid : Rows) (now : ℤ) (t : Tid) (m : Option NameId) → HasExpired cs after rs mid now t m → IsFirst cs rs now t m
is_first cs after rs mid now t m h = first_by cs rs now t m (number_in (best_of (due cs rs now))) refl (sym (ap (λ (o : Expired). o.who) h.taken))

rows_expired : (cs after : Conds) (rs mid : Rows) (now : ℤ) (t : Tid) (m : Option NameId) → HasExpired cs after rs mid now t m → mid ≡ take_out_if rs (Some t)
rows_expired cs after rs mid now t m h = ap (λ (o : Expired). o.rows) h.taken ∙ ap (take_out_if rs) (is_first cs after rs mid now t m h).best

conds_expired : (cs after : Conds) (rs mid : Rows) (now : ℤ) (t : Tid) (m : Option NameId) → HasExpired cs after rs mid now t m → after ≡ without_wait cs (Some t)
conds_expired cs after rs mid now t m h = ap (λ (o : Expired). o.conds) h.taken ∙ ap (without_wait cs) (is_first cs after rs mid now t m h).best

waited : (cs after : Conds) (rs mid : Rows) (now : ℤ) (t : Tid) (m : Option NameId) → IsCanonical rs.seats → HasExpired cs after rs mid now t m → is_some (wait_of cs t) ≡ true
waited cs after rs mid now t m rises h = first_waits cs rs now t (best_of (due cs rs now)) rises refl (is_first cs after rs mid now t m h).best

pub due_smaller : (cs after : Conds) (rs mid : Rows) (now : ℤ) (t : Tid) (m : Option NameId) → IsCanonical rs.seats → HasExpired cs after rs mid now t m → length after.waits < length cs.waits
due_smaller cs after rs mid now t m rises h =
    subst (λ (x : Conds). length x.waits < length cs.waits) (sym (conds_expired cs after rs mid now t m h)) (fewer_waits cs t (waited cs after rs mid now t m rises h))

stands_by : (w : Option Wait) (o : Option RowId) → is_some w ≡ true → option_map waiting_row w ≡ if_waiting o → (r : RowId) × (o ≡ Some r)
stands_by None o is e = absurd (cc)
stands_by (Some w) None is e = absurd (cc)
stands_by (Some w) (Some r) is e = (r, refl)

-- ---- where it stands then

abbrev next_row : Option NameId → Bool → RowId
next_row None gets = row.Ready
next_row (Some m) gets = cond gets row.Ready (row.Mutex m)

resumed : (rank : Tid → ℕ) (ls : Locks) (rs : Rows) (t : Tid) (m : Option NameId) → (resume rank ls rs t m).rows ≡ put_in_row rs (next_row m (resume rank ls rs t m).gets) t (rank t)
resumed rank ls rs t None = refl
resumed rank ls rs t (Some m) = refl

more_given : (before : Gifts) (t : Tid) (m : Option NameId) (gets : Bool) (rest : List (Tid × NameId))
    → (before ++ all_given (gift_of t m gets)) ++ all_given rest ≡ before ++ all_given (gift_of t m gets ++ rest)
more_given before t None gets rest = none_given before (all_given rest)
more_given before t (Some m) gets rest = given_more before t m gets rest

few_more : (before : Gifts) (t : Tid) (m : Option NameId) (gets : Bool) → length (before ++ all_given (gift_of t m gets)) ≤ length before + 1
few_more before t None gets = not_longer_by before
few_more before t (Some m) gets = few_given before t m gets

-- ---- the loop

-- What is left to wake is what was to be woken at first.
pub record IsExpiring (rank : Tid → ℕ) (now : ℤ) (cs0 : Conds) (ls0 : Locks) (rs0 : Rows) (debts0 : Table Debt) (cs : Conds) (ls : Locks) (rs : Rows) (debts : Table Debt) (gifts : Gifts) : Type 0 where
  pub conds_left : (expire_all rank cs ls rs now).conds ≡ (expire_all rank cs0 ls0 rs0 now).conds
  pub locks_left : (expire_all rank cs ls rs now).locks ≡ (expire_all rank cs0 ls0 rs0 now).locks
  pub rows_left : (expire_all rank cs ls rs now).rows ≡ (expire_all rank cs0 ls0 rs0 now).rows
  pub owing : due_all debts (expire_all rank cs ls rs now).woken ≡ due_all debts0 (expire_all rank cs0 ls0 rs0 now).woken
  pub given : gifts ++ all_given (expire_all rank cs ls rs now).gifts ≡ all_given (expire_all rank cs0 ls0 rs0 now).gifts
  pub owers : OwersStand debts rs
  pub agree : WaitsAgree cs rs
  pub fit : MutexesFit cs
  pub arrival : rs.next_arrival + length cs.waits ≤ rs0.next_arrival + length cs0.waits
  pub room : length gifts + length cs.waits ≤ 1024

same_many : (n : ℕ) → n ≤ n
same_many n = omega arith

from_none : (n : ℕ) → n ≤ 1024 → 0 + n ≤ 1024
from_none n h = omega (arith, h)

pub expiring_first : (rank : Tid → ℕ) (now : ℤ) (cs : Conds) (ls : Locks) (rs : Rows) (debts : Table Debt) (gifts : Gifts) → length cs.waits ≤ most → OwersStand debts rs → WaitsAgree cs rs → MutexesFit cs → gifts ≡ []
    → IsExpiring rank now cs ls rs debts cs ls rs debts gifts
expiring_first rank now cs ls rs debts gifts few owers agree fit nothing =
    subst (λ (l : Gifts). IsExpiring rank now cs ls rs debts cs ls rs debts l) (sym nothing) (record {
      conds_left = refl;
      locks_left = refl;
      rows_left = refl;
      owing = refl;
      given = refl;
      owers = owers;
      agree = agree;
      fit = fit;
      arrival = same_many (rs.next_arrival + length cs.waits);
      room = from_none (length cs.waits) few;
    })

one_arrival : (n k l m : ℕ) → l < k → n + k ≤ m → (n + 1) + l ≤ m
one_arrival n k l m h g = omega (arith, h, g)

one_gift : (n j k l : ℕ) → j ≤ n + 1 → l < k → n + k ≤ 1024 → j + l ≤ 1024
one_gift n j k l h g f = omega (arith, h, g, f)

-- One thread that is woken: the rows and locks after it.
expired_next : (rank : Tid → ℕ) (now : ℤ) (cs0 : Conds) (ls0 : Locks) (rs0 : Rows) (debts0 : Table Debt) (cs after : Conds) (ls : Locks) (rs mid : Rows) (debts : Table Debt) (gifts : Gifts) (t : Tid) (m : Option NameId)
    → IsExpiring rank now cs0 ls0 rs0 debts0 cs ls rs debts gifts → IsCanonical rs.seats → HasExpired cs after rs mid now t m
    → (let o : Regained = resume rank ls mid t m in IsExpiring rank now cs0 ls0 rs0 debts0 after o.locks o.rows (put debts t.0 (due_as m)) (gifts ++ all_given (gift_of t m o.gets)))
expired_next rank now cs0 ls0 rs0 debts0 cs after ls rs mid debts gifts t m h rises taken =
    let o : Regained = resume rank ls mid t m in
    let s : RowId = next_row m o.gets in
    let moved : o.rows ≡ put_in_row (take_out rs t).rows s t (rank t) = resumed rank ls mid t m ∙ ap (λ (x : Rows). put_in_row x s t (rank t)) (rows_expired cs after rs mid now t m taken) in
    let who : (expire cs rs now).who ≡ Some (t, m) = sym (ap (λ (x : Expired). x.who) taken.taken) in
    let step : expire_all rank cs ls rs now ≡ taken_then rank after ls mid t m (λ conds rows. due_first conds rows now) =
    expiry_next rank cs ls rs now t m rises who ∙ sym (ap (λ (x : Expired). taken_then rank x.conds ls x.rows t m (λ conds rows. due_first conds rows now)) taken.taken) in
    let less : length after.waits < length cs.waits = due_smaller cs after rs mid now t m rises taken in
    record {
      conds_left = sym (ap (λ (x : Woken). x.conds) step) ∙ h.conds_left;
      locks_left = sym (ap (λ (x : Woken). x.locks) step) ∙ h.locks_left;
      rows_left = sym (ap (λ (x : Woken). x.rows) step) ∙ h.rows_left;
      owing = sym (ap (λ (x : Woken). due_all debts x.woken) step) ∙ h.owing;
      given = more_given gifts t m o.gets (expire_all rank after o.locks o.rows now).gifts ∙ sym (ap (λ (x : Woken). gifts ++ all_given x.gifts) step) ∙ h.given;
      owers = subst (λ (x : Rows). OwersStand (put debts t.0 (due_as m)) x) (sym moved) (owers_moved debts rs s t (rank t) (due_as m) h.owers);
      agree = agree_resume rank after ls mid t m (subst (λ (x : Expired). WaitsAgree x.conds x.rows) (sym taken.taken) (agree_expire cs rs now rises h.agree))
          (ap (λ (x : Expired). get x.conds.waits t.0) taken.taken ∙ expired_waits_not cs rs now t m who);
      fit = subst MutexesFit (sym (conds_expired cs after rs mid now t m taken)) (fit_without cs t h.fit);
      arrival = subst (λ (x : Rows). x.next_arrival + length after.waits ≤ rs0.next_arrival + length cs0.waits) (sym moved)
          (one_arrival rs.next_arrival (length cs.waits) (length after.waits) (rs0.next_arrival + length cs0.waits) less h.arrival);
      room = one_gift (length gifts) (length (gifts ++ all_given (gift_of t m o.gets))) (length cs.waits) (length after.waits) (few_more gifts t m o.gets) less h.room;
    }

-- What one pass leaves.
pub record HasPassed (rank : Tid → ℕ) (ls new : Locks) (mid last : Rows) (debts after : Table Debt) (gifts more : Gifts) (t : Tid) (m : Option NameId) (r : ℕ) (gets : Bool) : Type 0 where
  pub back : (let o : Regained = record { locks = new; rows = last; gets = gets } in o) ≡ resume (λ _. r) ls mid t m
  pub ranked : r ≡ rank t
  pub owes : after ≡ put debts t.0 (due_as m)
  pub notes : more ≡ gifts ++ all_given (gift_of t m gets)

by_rank : (rank : Tid → ℕ) (ls : Locks) (rs : Rows) (t : Tid) (m : Option NameId) → resume (λ _. rank t) ls rs t m ≡ resume rank ls rs t m
by_rank rank ls rs t None = refl
by_rank rank ls rs t (Some m) = refl

pub expiring_step : (rank : Tid → ℕ) (now : ℤ) (cs0 : Conds) (ls0 : Locks) (rs0 : Rows) (debts0 : Table Debt) (cs csn : Conds) (ls new : Locks) (rs mid last : Rows) (debts after : Table Debt) (gifts more : Gifts) (t : Tid) (m : Option NameId) (r : ℕ) (gets : Bool)
    → IsExpiring rank now cs0 ls0 rs0 debts0 cs ls rs debts gifts → IsCanonical rs.seats → HasExpired cs csn rs mid now t m → HasPassed rank ls new mid last debts after gifts more t m r gets
    → IsExpiring rank now cs0 ls0 rs0 debts0 csn new last after more
expiring_step rank now cs0 ls0 rs0 debts0 cs csn ls new rs mid last debts after gifts more t m r gets h rises taken p =
    let back : resume rank ls mid t m ≡ record { locks = new; rows = last; gets = gets } = sym (p.back ∙ ap (λ (n : ℕ). resume (λ _. n) ls mid t m) p.ranked ∙ by_rank rank ls mid t m) in
    subst (λ (l : Gifts). IsExpiring rank now cs0 ls0 rs0 debts0 csn new last after l) (sym p.notes)
    (subst (λ (d : Table Debt). IsExpiring rank now cs0 ls0 rs0 debts0 csn new last d (gifts ++ all_given (gift_of t m gets))) (sym p.owes)
    (subst (λ (o : Regained). IsExpiring rank now cs0 ls0 rs0 debts0 csn o.locks o.rows (put debts t.0 (due_as m)) (gifts ++ all_given (gift_of t m o.gets))) back
    (expired_next rank now cs0 ls0 rs0 debts0 cs csn ls rs mid debts gifts t m h rises taken)))

room_left : (n k l m : ℕ) → l < k → n + k ≤ m → m < 2 ^ 64 → n + 1 < 2 ^ 64
room_left n k l m h g f = omega (arith, h, g, f)

-- It can be ready.
pub expiring_can : (rank : Tid → ℕ) (now : ℤ) (cs0 : Conds) (ls0 : Locks) (rs0 : Rows) (debts0 : Table Debt) (cs csn : Conds) (ls : Locks) (rs mid : Rows) (debts : Table Debt) (gifts : Gifts) (t : Tid) (m : Option NameId)
    → IsExpiring rank now cs0 ls0 rs0 debts0 cs ls rs debts gifts → IsCanonical rs.seats → IsCanonical debts → length rs.seats ≤ most → HasExpired cs csn rs mid now t m → rs0.next_arrival + length cs0.waits < 2 ^ 64
    → CanBeReady mid debts t
expiring_can rank now cs0 ls0 rs0 debts0 cs csn ls rs mid debts gifts t m h rises debts_rise within taken arrival =
    let stands : (r : RowId) × (row_of rs t ≡ Some r) = stands_by (wait_of cs t) (row_of rs t) (waited cs csn rs mid now t m rises taken) (h.agree.same t) in
    subst (λ (x : Rows). CanBeReady x debts t) (sym (rows_expired cs csn rs mid now t m taken))
    (standing_can debts rs stands.0 t rises debts_rise h.owers within
    (room_left rs.next_arrival (length cs.waits) (length csn.waits) (rs0.next_arrival + length cs0.waits) (due_smaller cs csn rs mid now t m rises taken) h.arrival arrival) stands.1)

pub expiring_fits : (cs csn : Conds) (rs mid : Rows) (now : ℤ) (t : Tid) (m : Option NameId) → HasExpired cs csn rs mid now t m → MutexesFit cs → IfSome m (λ n. n.0 < names)
expiring_fits cs csn rs mid now t m taken h = subst (λ (o : Option NameId). IfSome o (λ n. n.0 < names)) (is_first cs csn rs mid now t m taken).mutex (h.fits t)

gift_room : (n k l : ℕ) → l < k → n + k ≤ 1024 → n < 1024
gift_room n k l h g = omega (arith, h, g)

pub expiring_room : (rank : Tid → ℕ) (now : ℤ) (cs0 : Conds) (ls0 : Locks) (rs0 : Rows) (debts0 : Table Debt) (cs csn : Conds) (ls : Locks) (rs mid : Rows) (debts : Table Debt) (gifts : Gifts) (t : Tid) (m : Option NameId)
    → IsExpiring rank now cs0 ls0 rs0 debts0 cs ls rs debts gifts → IsCanonical rs.seats → HasExpired cs csn rs mid now t m → length gifts < most
expiring_room rank now cs0 ls0 rs0 debts0 cs csn ls rs mid debts gifts t m h rises taken =
    gift_room (length gifts) (length cs.waits) (length csn.waits) (due_smaller cs csn rs mid now t m rises taken) h.room

-- ---- nobody is left

-- The best thread whose time has come, where there is none.
no_number : (cs : Conds) (o : Option Tid) → option_map {U = Tid × Option NameId} (λ (u : Tid). (u, mutex_with cs u)) o ≡ None → o ≡ None
no_number cs None e = refl
no_number cs (Some u) e = absurd (cc)

-- What there is then.
pub record HasMoved (rank : Tid → ℕ) (now : ℤ) (cs0 : Conds) (ls0 : Locks) (rs0 : Rows) (debts0 : Table Debt) (cs : Conds) (ls : Locks) (rs : Rows) (debts : Table Debt) (gifts : Gifts) : Type 0 where
  pub conds_are : cs ≡ (expire_all rank cs0 ls0 rs0 now).conds
  pub locks_are : ls ≡ (expire_all rank cs0 ls0 rs0 now).locks
  pub rows_are : rs ≡ (expire_all rank cs0 ls0 rs0 now).rows
  pub debts_are : debts ≡ due_all debts0 (expire_all rank cs0 ls0 rs0 now).woken
  pub gifts_are : gifts ≡ all_given (expire_all rank cs0 ls0 rs0 now).gifts

pub expiring_ends : (rank : Tid → ℕ) (now : ℤ) (cs0 : Conds) (ls0 : Locks) (rs0 : Rows) (debts0 : Table Debt) (cs csn : Conds) (ls : Locks) (rs mid : Rows) (debts : Table Debt) (gifts : Gifts) (time : ℤ)
    → IsExpiring rank now cs0 ls0 rs0 debts0 cs ls rs debts gifts → (let o : Expired = record { conds = csn; rows = mid; who = None } in o) ≡ expire cs rs now → now ≡ time
    → HasMoved rank time cs0 ls0 rs0 debts0 csn ls mid debts gifts
expiring_ends rank now cs0 ls0 rs0 debts0 cs csn ls rs mid debts gifts time h e same =
    let nobody : (expire cs rs now).who ≡ None = sym (ap (λ (o : Expired). o.who) e) in
    let is : number_in (best_of (due cs rs now)) ≡ None = no_number cs (number_in (best_of (due cs rs now))) nobody in
    let none : expire_all rank cs ls rs now ≡ record { conds = cs; locks = ls; rows = rs; woken = []; gifts = [] } = expiry_none rank cs ls rs now nobody in
    subst (λ (n : ℤ). HasMoved rank n cs0 ls0 rs0 debts0 csn ls mid debts gifts) same (record {
      conds_are = ap (λ (o : Expired). o.conds) e ∙ ap (without_wait cs) is ∙ sym (ap (λ (x : Woken). x.conds) none) ∙ h.conds_left;
      locks_are = sym (ap (λ (x : Woken). x.locks) none) ∙ h.locks_left;
      rows_are = ap (λ (o : Expired). o.rows) e ∙ ap (take_out_if rs) is ∙ sym (ap (λ (x : Woken). x.rows) none) ∙ h.rows_left;
      debts_are = sym (ap (λ (x : Woken). due_all debts x.woken) none) ∙ h.owing;
      gifts_are = nothing_more gifts ∙ sym (ap (λ (x : Woken). gifts ++ all_given x.gifts) none) ∙ h.given;
    })

-- ---- the state

due_owed : (m : Option NameId) → as_owed (due_as m) ≡ due_debt m
due_owed None = refl
due_owed (Some m) = refl

pub due_owe_is : (debts : Table Debt) (ws : List (Tid × Option NameId)) → due_owe (all_owed debts) ws ≡ all_owed (due_all debts ws)
due_owe_is debts [] = refl
due_owe_is debts (w ∷ ws) =
    ap (λ (d : states.Debt). due_owe (put (all_owed debts) w.0.0 d) ws) (sym (due_owed w.1))
    ∙ ap (λ (d : Table states.Debt). due_owe d ws) (put_owed debts w.0.0 (due_as w.1)) ∙ due_owe_is (put debts w.0.0 (due_as w.1)) ws

tail : List Entry → List Entry
tail [] = []
tail (x ∷ xs) = xs

abbrev woken_with : Conds → Locks → Rows → List (Tid × Option NameId) → List (Tid × NameId) → Woken
woken_with cs ls rs ws gs = record { conds = cs; locks = ls; rows = rs; woken = ws; gifts = gs }

lines_are : (st : State) (now : ℤ) (cs : Conds) (ls : Locks) (rs : Rows) (ws : List (Tid × Option NameId)) (gs : List (Tid × NameId))
    → (clock_made st now (woken_with cs ls rs ws gs)).lines ≡ clock_line now ∷ gift_lines (all_given gs)
unfolding tail
lines_are st now cs ls rs ws [] = refl
lines_are st now cs ls rs ws (g ∷ gs) = ap (λ (l : List Entry). clock_line now ∷ thread_line g.0 (what.Gift (Some g.1)) ∷ tail l) (lines_are st now cs ls rs ws gs)

abbrev moved_with : State → ℤ → Conds → Locks → Rows → Table states.Debt → List Entry → Made
moved_with st now cs ls rs debts lines = record { state = record st { conds = cs; locks = ls; rows = rs; debts = debts; clock = now }; lines = lines }

pub clock_is : (old w : ServicesView) (now now' : ℤ) (cs : Conds) (ls : Locks) (rs : Rows) (debts' : Table Debt) (gifts : Gifts) → now' ≡ now
    → HasMoved (rank_at old.threads) now' old.conds old.locks old.rows old.debts cs ls rs debts' gifts → old ≡ w
    → (remainders : Table Remainder) (shared : Table ℤ)
    → clock_to (state_with w remainders shared) now
    ≡ record { state = state_with (record old { conds = cs; locks = ls; rows = rs; debts = debts'; clock = now' }) remainders shared; lines = clock_line now ∷ gift_lines gifts }
clock_is old w now now' cs ls rs debts' gifts time left same remainders shared =
    let h : HasMoved (rank_at old.threads) now old.conds old.locks old.rows old.debts cs ls rs debts' gifts =
    subst (λ (n : ℤ). HasMoved (rank_at old.threads) n old.conds old.locks old.rows old.debts cs ls rs debts' gifts) time left in
    let o : Woken = expire_all (rank_at old.threads) old.conds old.locks old.rows now in
    let st : State = state_with old remainders shared in
    let lines : List Entry = clock_line now ∷ gift_lines gifts in
    subst (λ (v : ServicesView). clock_to (state_with v remainders shared) now
    ≡ record { state = state_with (record old { conds = cs; locks = ls; rows = rs; debts = debts'; clock = now' }) remainders shared; lines = clock_line now ∷ gift_lines gifts }) same
    (ap (moved_with st now o.conds o.locks o.rows (due_owe st.debts o.woken)) (lines_are st now o.conds o.locks o.rows o.woken o.gifts ∙ ap (λ (l : Gifts). clock_line now ∷ gift_lines l) (sym h.gifts_are))
    ∙ ap (λ (d : Table states.Debt). moved_with st now o.conds o.locks o.rows d lines) (due_owe_is old.debts o.woken ∙ ap all_owed (sym h.debts_are))
    ∙ ap (λ (x : Conds). moved_with st now x o.locks o.rows (all_owed debts') lines) (sym h.conds_are)
    ∙ ap (λ (x : Locks). moved_with st now cs x o.rows (all_owed debts') lines) (sym h.locks_are)
    ∙ ap (λ (x : Rows). moved_with st now cs ls x (all_owed debts') lines) (sym h.rows_are)
    ∙ ap (λ (n : ℤ). moved_with st n cs ls rs (all_owed debts') lines) (sym time))
