-- Waiters of a condition that leave it one at a time.
use Rattle.std.proofs.Common.{◌≡◌, ℕ, ◌+◌, ◌^◌, ◌<◌, ◌≤◌, Bool, true, false, cond, eqb, List, [], ◌∷◌, ◌++◌, map, length, Option, Some, None, IfSome, refl, sym, arith, ◌∙◌, ap, subst}
use Rattle.std.specs.Option.{option_and_then}
use Rattle.thr_values.specs.declared.number.Tid.{Tid}
use Rattle.thr_values.specs.declared.number.NameId.{NameId}
use Rattle.thr_values.specs.declared.reply.Reply.TheVariants as reply
use Rattle.thr_parts.specs.declared.row.RowId.{RowId}
use Rattle.thr_parts.specs.declared.row.RowId.TheVariants as row
use Rattle.thr_parts.specs.declared.wait.Wait.{Wait}
use Rattle.thr_parts.specs.Tables.{Table, names, get, put, IsCanonical}
use Rattle.thr_parts.specs.Rows.{Rows, is_same_row, standing, best, best_first, most}
use Rattle.thr_parts.specs.Moves.{take_out, take_out_if, put_in_row}
use Rattle.thr_parts.specs.Mutexes.{Locks}
use Rattle.thr_parts.specs.Locking.{Regained}
use Rattle.thr_parts.specs.Conditions.{Conds, mutex_of}
use Rattle.thr_parts.specs.Waking.{TakenNext, Woken, thread_in, without_wait, take_next, resume, gift_of, wake_all}
use Rattle.thr_parts.proofs.TableLaws.{get_cut}
use Rattle.thr_parts.proofs.RowLaws.{best_stands}
use Rattle.thr_conds.specs.Agreement.{WaitsAgree}
use Rattle.thr_conds.specs.Taking.{taken_then}
use Rattle.thr_conds.proofs.TakingLaws.{IsNext, next_by, broadcast_next, broadcast_none}
use Rattle.thr_conds.proofs.CallLaws.{agree_take_next, agree_resume, taken_next_waits_not}
use Rattle.thr_model.specs.Calls.{Gifts}
use Rattle.thr_services.specs.declared.debt.Debt.{Debt}
use Rattle.thr_services.specs.declared.debt.Debt.TheVariants as debt
use Rattle.thr_services.specs.Ready.{debts_all, OwersStand, CanBeReady}
use Rattle.thr_services.specs.Cancelling.{MutexesFit}
use Rattle.thr_services.proofs.SeatLaws.{standing_can}
use Rattle.thr_services.proofs.FreeingLaws.{few_stand, fewer_stand, owers_moved}

-- ---- what is given

one_given : (xs : Gifts) (y : Tid × Option NameId) (zs : Gifts) → (xs ++ (y ∷ [])) ++ zs ≡ xs ++ (y ∷ zs)
one_given [] y zs = refl
one_given (x ∷ xs) y zs = ap (λ (l : Gifts). x ∷ l) (one_given xs y zs)

pub none_given : (xs zs : Gifts) → (xs ++ []) ++ zs ≡ xs ++ zs
none_given [] zs = refl
none_given (x ∷ xs) zs = ap (λ (l : Gifts). x ∷ l) (none_given xs zs)

abbrev pub all_given : List (Tid × NameId) → Gifts
all_given gs = map (λ g. (g.0, Some g.1)) gs

pub given_more : (before : Gifts) (t : Tid) (m : NameId) (gets : Bool) (rest : List (Tid × NameId))
    → (before ++ all_given (gift_of t (Some m) gets)) ++ all_given rest ≡ before ++ all_given (gift_of t (Some m) gets ++ rest)
given_more before t m true rest = one_given before (t, Some m) (all_given rest)
given_more before t m false rest = none_given before (all_given rest)

longer_by_one : (xs : Gifts) (y : Tid × Option NameId) → length (xs ++ (y ∷ [])) ≤ length xs + 1
longer_by_one [] y = omega arith
longer_by_one (x ∷ xs) y = let rest : length (xs ++ (y ∷ [])) ≤ length xs + 1 = longer_by_one xs y in omega (arith, rest)

pub not_longer_by : (xs : Gifts) → length (xs ++ []) ≤ length xs + 1
not_longer_by [] = omega arith
not_longer_by (x ∷ xs) = let rest : length (xs ++ []) ≤ length xs + 1 = not_longer_by xs in omega (arith, rest)

pub few_given : (before : Gifts) (t : Tid) (m : NameId) (gets : Bool) → length (before ++ all_given (gift_of t (Some m) gets)) ≤ length before + 1
few_given before t m true = longer_by_one before (t, Some m)
few_given before t m false = not_longer_by before

-- ---- one waiter

-- The best waiter was taken, with its mutex, and conditions and rows are so after it.
pub record HasTaken (cs after : Conds) (rs mid : Rows) (c : NameId) (t : Tid) (m : NameId) : Type 0 where
  pub taken : (let o : TakenNext = record { conds = after; rows = mid; waiter = Some (t, m) } in o) ≡ take_next cs rs c

pub is_next : (cs after : Conds) (rs mid : Rows) (c : NameId) (t : Tid) (m : NameId) → HasTaken cs after rs mid c t m → IsNext cs rs c t m
is_next cs after rs mid c t m h = next_by cs rs c t m (best rs (row.Cond c)) refl (sym (ap (λ (o : TakenNext). o.waiter) h.taken))

rows_taken : (cs after : Conds) (rs mid : Rows) (c : NameId) (t : Tid) (m : NameId) → HasTaken cs after rs mid c t m → mid ≡ take_out_if rs (Some t)
rows_taken cs after rs mid c t m h =
    ap (λ (o : TakenNext). o.rows) h.taken ∙ sym (ap (λ (o : Option (Tid × NameId)). take_out_if rs (thread_in o)) (ap (λ (o : TakenNext). o.waiter) h.taken))

conds_taken : (cs after : Conds) (rs mid : Rows) (c : NameId) (t : Tid) (m : NameId) → HasTaken cs after rs mid c t m → after ≡ without_wait cs (Some t)
conds_taken cs after rs mid c t m h =
    ap (λ (o : TakenNext). o.conds) h.taken ∙ sym (ap (λ (o : Option (Tid × NameId)). without_wait cs (thread_in o)) (ap (λ (o : TakenNext). o.waiter) h.taken))

fits_if : (b : Bool) (w : Option Wait) → IfSome (option_and_then mutex_of w) (λ m. m.0 < names) → IfSome (option_and_then mutex_of (cond b None w)) (λ m. m.0 < names)
fits_if true w h = tt
fits_if false w h = h

pub fit_without : (cs : Conds) (t : Tid) → MutexesFit cs → MutexesFit (without_wait cs (Some t))
fit_without cs t h = record {
  fits = λ q. subst (λ (w : Option Wait). IfSome (option_and_then mutex_of w) (λ m. m.0 < names)) (sym (get_cut cs.waits t.0 q.0)) (fits_if (eqb t.0 q.0) (get cs.waits q.0) (h.fits q));
}

-- ---- the loop

abbrev pub woken_by : (Tid → ℕ) → NameId → Conds → Locks → Rows → Woken
woken_by rank c cs ls rs = wake_all rank cs ls rs (best_first rs (row.Cond c))

abbrev pub threads_of : List (Tid × Option NameId) → List Tid
threads_of ws = map (λ w. w.0) ws

-- What is left to wake is what was to be woken at first.
pub record IsWaking (rank : Tid → ℕ) (c : NameId) (cs0 : Conds) (ls0 : Locks) (rs0 : Rows) (debts0 : Table Debt) (cs : Conds) (ls : Locks) (rs : Rows) (debts : Table Debt) (gifts : Gifts) : Type 0 where
  pub conds_left : (woken_by rank c cs ls rs).conds ≡ (woken_by rank c cs0 ls0 rs0).conds
  pub locks_left : (woken_by rank c cs ls rs).locks ≡ (woken_by rank c cs0 ls0 rs0).locks
  pub rows_left : (woken_by rank c cs ls rs).rows ≡ (woken_by rank c cs0 ls0 rs0).rows
  pub owing : debts_all debts (debt.Return reply.Done) (threads_of (woken_by rank c cs ls rs).woken) ≡ debts_all debts0 (debt.Return reply.Done) (threads_of (woken_by rank c cs0 ls0 rs0).woken)
  pub given : gifts ++ all_given (woken_by rank c cs ls rs).gifts ≡ all_given (woken_by rank c cs0 ls0 rs0).gifts
  pub owers : OwersStand debts rs
  pub agree : WaitsAgree cs rs
  pub fit : MutexesFit cs
  pub arrival : rs.next_arrival + length (standing rs (row.Cond c)) ≤ rs0.next_arrival + 1024
  pub room : length gifts + length (standing rs (row.Cond c)) ≤ 1024

at_first : (n k l : ℕ) → n ≤ k → k ≤ 1024 → l + n ≤ l + 1024
at_first n k l h g = omega (arith, h, g)

at_most : (n k : ℕ) → n ≤ k → k ≤ 1024 → 0 + n ≤ 1024
at_most n k h g = omega (arith, h, g)

pub waking_first : (rank : Tid → ℕ) (c : NameId) (cs : Conds) (ls : Locks) (rs : Rows) (debts : Table Debt) (gifts : Gifts) → length rs.seats ≤ most → OwersStand debts rs → WaitsAgree cs rs → MutexesFit cs → gifts ≡ []
    → IsWaking rank c cs ls rs debts cs ls rs debts gifts
waking_first rank c cs ls rs debts gifts within owers agree fit nothing =
    subst (λ (l : Gifts). IsWaking rank c cs ls rs debts cs ls rs debts l) (sym nothing) (record {
      conds_left = refl;
      locks_left = refl;
      rows_left = refl;
      owing = refl;
      given = refl;
      owers = owers;
      agree = agree;
      fit = fit;
      arrival = at_first (length (standing rs (row.Cond c))) (length rs.seats) rs.next_arrival (few_stand rs (row.Cond c)) within;
      room = at_most (length (standing rs (row.Cond c))) (length rs.seats) (few_stand rs (row.Cond c)) within;
    })

apart : (c m : NameId) (gets : Bool) → is_same_row (row.Cond c) (cond gets row.Ready (row.Mutex m)) ≡ false
apart c m true = refl
apart c m false = refl

one_arrival : (n k l m : ℕ) → l < k → n + k ≤ m → (n + 1) + l ≤ m
one_arrival n k l m h g = omega (arith, h, g)

one_gift : (n j k l : ℕ) → j ≤ n + 1 → l < k → n + k ≤ 1024 → j + l ≤ 1024
one_gift n j k l h g f = omega (arith, h, g, f)

-- One waiter that is woken: the rows and locks after it.
woken_next : (rank : Tid → ℕ) (c : NameId) (cs0 : Conds) (ls0 : Locks) (rs0 : Rows) (debts0 : Table Debt) (cs after : Conds) (ls : Locks) (rs mid : Rows) (debts : Table Debt) (gifts : Gifts) (t : Tid) (m : NameId)
    → IsWaking rank c cs0 ls0 rs0 debts0 cs ls rs debts gifts → IsCanonical rs.seats → HasTaken cs after rs mid c t m
    → (let o : Regained = resume rank ls mid t (Some m) in IsWaking rank c cs0 ls0 rs0 debts0 after o.locks o.rows (put debts t.0 (debt.Return reply.Done)) (gifts ++ all_given (gift_of t (Some m) o.gets)))
woken_next rank c cs0 ls0 rs0 debts0 cs after ls rs mid debts gifts t m h rises taken =
    let o : Regained = resume rank ls mid t (Some m) in
    let next : IsNext cs rs c t m = is_next cs after rs mid c t m taken in
    let out : mid ≡ take_out_if rs (Some t) = rows_taken cs after rs mid c t m taken in
    let s : RowId = cond o.gets row.Ready (row.Mutex m) in
    let moved : o.rows ≡ put_in_row (take_out rs t).rows s t (rank t) = ap (λ (x : Rows). put_in_row x s t (rank t)) out in
    let waiter : (take_next cs rs c).waiter ≡ Some (t, m) = sym (ap (λ (x : TakenNext). x.waiter) taken.taken) in
    let step : woken_by rank c cs ls rs ≡ taken_then rank after ls mid t (Some m) (λ _ rows. best_first rows (row.Cond c)) =
    broadcast_next rank cs ls rs c t m rises waiter ∙ sym (ap (λ (x : TakenNext). taken_then rank x.conds ls x.rows t (Some m) (λ _ rows. best_first rows (row.Cond c))) taken.taken) in
    let less : length (standing o.rows (row.Cond c)) < length (standing rs (row.Cond c)) =
    subst (λ (x : Rows). length (standing x (row.Cond c)) < length (standing rs (row.Cond c))) (sym moved) (fewer_stand rs (row.Cond c) s t (rank t) rises (apart c m o.gets) next.best) in
    record {
      conds_left = sym (ap (λ (x : Woken). x.conds) step) ∙ h.conds_left;
      locks_left = sym (ap (λ (x : Woken). x.locks) step) ∙ h.locks_left;
      rows_left = sym (ap (λ (x : Woken). x.rows) step) ∙ h.rows_left;
      owing = sym (ap (λ (x : Woken). debts_all debts (debt.Return reply.Done) (threads_of x.woken)) step) ∙ h.owing;
      given = given_more gifts t m o.gets (woken_by rank c after o.locks o.rows).gifts ∙ sym (ap (λ (x : Woken). gifts ++ all_given x.gifts) step) ∙ h.given;
      owers = subst (λ (x : Rows). OwersStand (put debts t.0 (debt.Return reply.Done)) x) (sym moved) (owers_moved debts rs s t (rank t) (debt.Return reply.Done) h.owers);
      agree = agree_resume rank after ls mid t (Some m) (subst (λ (x : TakenNext). WaitsAgree x.conds x.rows) (sym taken.taken) (agree_take_next cs rs c h.agree))
          (ap (λ (x : TakenNext). get x.conds.waits t.0) taken.taken ∙ taken_next_waits_not cs rs c t m waiter);
      fit = subst MutexesFit (sym (conds_taken cs after rs mid c t m taken)) (fit_without cs t h.fit);
      arrival = subst (λ (x : Rows). x.next_arrival + length (standing o.rows (row.Cond c)) ≤ rs0.next_arrival + 1024) (sym moved)
          (one_arrival rs.next_arrival (length (standing rs (row.Cond c))) (length (standing o.rows (row.Cond c))) (rs0.next_arrival + 1024) less h.arrival);
      room = one_gift (length gifts) (length (gifts ++ all_given (gift_of t (Some m) o.gets))) (length (standing rs (row.Cond c))) (length (standing o.rows (row.Cond c))) (few_given gifts t m o.gets) less h.room;
    }

-- What one pass leaves.
pub record HasPassed (rank : Tid → ℕ) (ls new : Locks) (mid last : Rows) (debts after : Table Debt) (gifts more : Gifts) (t : Tid) (m : NameId) (r : ℕ) (gets : Bool) : Type 0 where
  pub back : (let o : Regained = record { locks = new; rows = last; gets = gets } in o) ≡ resume (λ _. r) ls mid t (Some m)
  pub ranked : r ≡ rank t
  pub owes : after ≡ put debts t.0 (debt.Return reply.Done)
  pub notes : more ≡ gifts ++ all_given (gift_of t (Some m) gets)

pub waking_step : (rank : Tid → ℕ) (c : NameId) (cs0 : Conds) (ls0 : Locks) (rs0 : Rows) (debts0 : Table Debt) (cs csn : Conds) (ls new : Locks) (rs mid last : Rows) (debts after : Table Debt) (gifts more : Gifts) (t : Tid) (m : NameId) (r : ℕ) (gets : Bool)
    → IsWaking rank c cs0 ls0 rs0 debts0 cs ls rs debts gifts → IsCanonical rs.seats → HasTaken cs csn rs mid c t m → HasPassed rank ls new mid last debts after gifts more t m r gets
    → IsWaking rank c cs0 ls0 rs0 debts0 csn new last after more
waking_step rank c cs0 ls0 rs0 debts0 cs csn ls new rs mid last debts after gifts more t m r gets h rises taken p =
    let back : resume rank ls mid t (Some m) ≡ record { locks = new; rows = last; gets = gets } = sym (p.back ∙ ap (λ (n : ℕ). resume (λ _. n) ls mid t (Some m)) p.ranked) in
    subst (λ (l : Gifts). IsWaking rank c cs0 ls0 rs0 debts0 csn new last after l) (sym p.notes)
    (subst (λ (d : Table Debt). IsWaking rank c cs0 ls0 rs0 debts0 csn new last d (gifts ++ all_given (gift_of t (Some m) gets))) (sym p.owes)
    (subst (λ (o : Regained). IsWaking rank c cs0 ls0 rs0 debts0 csn o.locks o.rows (put debts t.0 (debt.Return reply.Done)) (gifts ++ all_given (gift_of t (Some m) o.gets))) back
    (woken_next rank c cs0 ls0 rs0 debts0 cs csn ls rs mid debts gifts t m h rises taken)))

moved_as : (rank : Tid → ℕ) (ls new : Locks) (rs mid last : Rows) (t : Tid) (m : NameId) (r : ℕ) (gets : Bool)
    → (let o : Regained = record { locks = new; rows = last; gets = gets } in o) ≡ resume (λ _. r) ls mid t (Some m) → mid ≡ take_out_if rs (Some t)
    → last ≡ put_in_row (take_out rs t).rows (cond (resume (λ _. r) ls mid t (Some m)).gets row.Ready (row.Mutex m)) t r
moved_as rank ls new rs mid last t m r gets e out =
    ap (λ (o : Regained). o.rows) e ∙ ap (λ (x : Rows). put_in_row x (cond (resume (λ _. r) ls mid t (Some m)).gets row.Ready (row.Mutex m)) t r) out

pub waking_smaller : (rank : Tid → ℕ) (c : NameId) (cs csn : Conds) (ls new : Locks) (rs mid last : Rows) (t : Tid) (m : NameId) (r : ℕ) (gets : Bool) → IsCanonical rs.seats → HasTaken cs csn rs mid c t m
    → (let o : Regained = record { locks = new; rows = last; gets = gets } in o) ≡ resume (λ _. r) ls mid t (Some m)
    → length (standing last (row.Cond c)) < length (standing rs (row.Cond c))
waking_smaller rank c cs csn ls new rs mid last t m r gets rises taken e =
    subst (λ (x : Rows). length (standing x (row.Cond c)) < length (standing rs (row.Cond c))) (sym (moved_as rank ls new rs mid last t m r gets e (rows_taken cs csn rs mid c t m taken)))
    (fewer_stand rs (row.Cond c) (cond (resume (λ _. r) ls mid t (Some m)).gets row.Ready (row.Mutex m)) t r rises (apart c m (resume (λ _. r) ls mid t (Some m)).gets) (is_next cs csn rs mid c t m taken).best)

room_left : (n k l m : ℕ) → l < k → n + k ≤ m + 1024 → m + 1024 < 2 ^ 64 → n + 1 < 2 ^ 64
room_left n k l m h g f = omega (arith, h, g, f)

-- It can be ready.
pub waking_can : (rank : Tid → ℕ) (c : NameId) (cs0 : Conds) (ls0 : Locks) (rs0 : Rows) (debts0 : Table Debt) (cs csn : Conds) (ls : Locks) (rs mid : Rows) (debts : Table Debt) (gifts : Gifts) (t : Tid) (m : NameId)
    → IsWaking rank c cs0 ls0 rs0 debts0 cs ls rs debts gifts → IsCanonical rs.seats → IsCanonical debts → length rs.seats ≤ most → HasTaken cs csn rs mid c t m → rs0.next_arrival + 1024 < 2 ^ 64
    → CanBeReady mid debts t
waking_can rank c cs0 ls0 rs0 debts0 cs csn ls rs mid debts gifts t m h rises debts_rise within taken arrival =
    let next : IsNext cs rs c t m = is_next cs csn rs mid c t m taken in
    subst (λ (x : Rows). CanBeReady x debts t) (sym (rows_taken cs csn rs mid c t m taken))
    (standing_can debts rs (row.Cond c) t rises debts_rise h.owers within
    (room_left rs.next_arrival (length (standing rs (row.Cond c))) (length (standing (put_in_row (take_out rs t).rows row.Ready t 0) (row.Cond c))) rs0.next_arrival (fewer_stand rs (row.Cond c) row.Ready t 0 rises refl next.best) h.arrival arrival)
    (best_stands rs (row.Cond c) t rises next.best))

pub waking_fits : (cs csn : Conds) (rs mid : Rows) (c : NameId) (t : Tid) (m : NameId) → HasTaken cs csn rs mid c t m → MutexesFit cs → m.0 < names
waking_fits cs csn rs mid c t m taken h = subst (λ (o : Option NameId). IfSome o (λ n. n.0 < names)) (is_next cs csn rs mid c t m taken).mutex (h.fits t)

gift_room : (n k l : ℕ) → l < k → n + k ≤ 1024 → n < 1024
gift_room n k l h g = omega (arith, h, g)

pub waking_room : (rank : Tid → ℕ) (c : NameId) (cs0 : Conds) (ls0 : Locks) (rs0 : Rows) (debts0 : Table Debt) (cs csn : Conds) (ls : Locks) (rs mid : Rows) (debts : Table Debt) (gifts : Gifts) (t : Tid) (m : NameId)
    → IsWaking rank c cs0 ls0 rs0 debts0 cs ls rs debts gifts → IsCanonical rs.seats → HasTaken cs csn rs mid c t m → length gifts < most
waking_room rank c cs0 ls0 rs0 debts0 cs csn ls rs mid debts gifts t m h rises taken =
    gift_room (length gifts) (length (standing rs (row.Cond c))) (length (standing (put_in_row (take_out rs t).rows row.Ready t 0) (row.Cond c)))
    (fewer_stand rs (row.Cond c) row.Ready t 0 rises refl (is_next cs csn rs mid c t m taken).best) h.room

-- ---- nobody is left

pub none_left : (rank : Tid → ℕ) (c : NameId) (cs csn : Conds) (ls : Locks) (rs mid : Rows) → IsCanonical rs.seats → WaitsAgree cs rs
    → (let o : TakenNext = record { conds = csn; rows = mid; waiter = None } in o) ≡ take_next cs rs c → woken_by rank c cs ls rs ≡ record { conds = cs; locks = ls; rows = rs; woken = []; gifts = [] }
none_left rank c cs csn ls rs mid rises agree e = broadcast_none rank cs ls rs c rises agree (sym (ap (λ (o : TakenNext). o.waiter) e))

-- Conditions and rows stay as they are.
pub same_conds : (cs csn : Conds) (rs mid : Rows) (c : NameId) → (let o : TakenNext = record { conds = csn; rows = mid; waiter = None } in o) ≡ take_next cs rs c → csn ≡ cs
same_conds cs csn rs mid c e = ap (λ (o : TakenNext). o.conds) e ∙ sym (ap (λ (o : Option (Tid × NameId)). without_wait cs (thread_in o)) (ap (λ (o : TakenNext). o.waiter) e))

pub same_rows : (cs csn : Conds) (rs mid : Rows) (c : NameId) → (let o : TakenNext = record { conds = csn; rows = mid; waiter = None } in o) ≡ take_next cs rs c → mid ≡ rs
same_rows cs csn rs mid c e = ap (λ (o : TakenNext). o.rows) e ∙ sym (ap (λ (o : Option (Tid × NameId)). take_out_if rs (thread_in o)) (ap (λ (o : TakenNext). o.waiter) e))

pub nothing_more : (xs : Gifts) → xs ≡ xs ++ []
nothing_more [] = refl
nothing_more (x ∷ xs) = ap (λ (l : Gifts). x ∷ l) (nothing_more xs)

-- What there is then.
pub record HasWoken (rank : Tid → ℕ) (c : NameId) (cs0 : Conds) (ls0 : Locks) (rs0 : Rows) (debts0 : Table Debt) (cs : Conds) (ls : Locks) (rs : Rows) (debts : Table Debt) (gifts : Gifts) : Type 0 where
  pub conds_are : cs ≡ (woken_by rank c cs0 ls0 rs0).conds
  pub locks_are : ls ≡ (woken_by rank c cs0 ls0 rs0).locks
  pub rows_are : rs ≡ (woken_by rank c cs0 ls0 rs0).rows
  pub debts_are : debts ≡ debts_all debts0 (debt.Return reply.Done) (threads_of (woken_by rank c cs0 ls0 rs0).woken)
  pub gifts_are : gifts ≡ all_given (woken_by rank c cs0 ls0 rs0).gifts

pub waking_ends : (rank : Tid → ℕ) (c : NameId) (cs0 : Conds) (ls0 : Locks) (rs0 : Rows) (debts0 : Table Debt) (cs csn : Conds) (ls : Locks) (rs mid : Rows) (debts : Table Debt) (gifts : Gifts)
    → IsWaking rank c cs0 ls0 rs0 debts0 cs ls rs debts gifts → IsCanonical rs.seats → (let o : TakenNext = record { conds = csn; rows = mid; waiter = None } in o) ≡ take_next cs rs c
    → HasWoken rank c cs0 ls0 rs0 debts0 csn ls mid debts gifts
waking_ends rank c cs0 ls0 rs0 debts0 cs csn ls rs mid debts gifts h rises e =
    let none : woken_by rank c cs ls rs ≡ record { conds = cs; locks = ls; rows = rs; woken = []; gifts = [] } = none_left rank c cs csn ls rs mid rises h.agree e in
    record {
      conds_are = same_conds cs csn rs mid c e ∙ sym (ap (λ (x : Woken). x.conds) none) ∙ h.conds_left;
      locks_are = sym (ap (λ (x : Woken). x.locks) none) ∙ h.locks_left;
      rows_are = same_rows cs csn rs mid c e ∙ sym (ap (λ (x : Woken). x.rows) none) ∙ h.rows_left;
      debts_are = sym (ap (λ (x : Woken). debts_all debts (debt.Return reply.Done) (threads_of x.woken)) none) ∙ h.owing;
      gifts_are = nothing_more gifts ∙ sym (ap (λ (x : Woken). gifts ++ all_given x.gifts) none) ∙ h.given;
    }
