-- The best of the threads whose time has come, found among the waits instead of the seats.
use Rattle.std.proofs.Common.{◌≡◌, ℕ, ◌+◌, ◌-◌, ◌<◌, ◌≤◌, get_or, drop, Bool, true, false, ◌&&◌, cond, eqb, [], ◌∷◌, length, Option, Some, None, refl, sym, arith, ◌∙◌, ap, subst, ℤ}
use Rattle.std.proofs.lemmas.Bool.Decides.{nat_tests}
use Rattle.std.proofs.lemmas.List.{drop_more, drop_all}
use Rattle.std.specs.List.{filter}
use Rattle.std.specs.Option.{option_and_then}
use Rattle.std.specs.Ordering.{nat_cmp, is_lt}
use Rattle.std.specs.FinMap.Entries as entries
use Rattle.thr_parts.specs.declared.row.Seat.{Seat}
use Rattle.thr_parts.specs.declared.wait.Wait.{Wait}
use Rattle.thr_parts.specs.Tables.{Table, get, keep_if, IsCanonical}
use Rattle.thr_parts.specs.Rows.{Rows, Seated, better, best_of, number_in}
use Rattle.thr_parts.specs.Conditions.{Conds, time_of}
use Rattle.thr_parts.specs.Expiry.{has_come, due}
use Rattle.thr_parts.proofs.TableLaws.{same_table}
use Rattle.thr_parts.proofs.EntryLaws.{both_true, pass, get_cons, get_empty, nothing_at, canonical_filter, get_filter}
use Rattle.thr_parts.proofs.BestLaws.{best_empty}
use Rattle.thr_conds.specs.Due.{due_seat, best_due}

-- ---- the threads of the waits, with their seats

-- A thread with its seat, if it has one, before others.
abbrev with_seat : ℕ → Option Seat → Seated → Seated
with_seat k None es = es
with_seat k (Some s) es = (k, s) ∷ es

-- The threads of these waits whose time has come, with their seats.
unfoldable pub seated : Rows → ℤ → Table Wait → Seated
seated rs now [] = []
seated rs now (e ∷ es) = with_seat e.0 (due_seat rs now e) (seated rs now es)

seated_none : (rs : Rows) (now : ℤ) → seated rs now [] ≡ []
unfolding seated
seated_none rs now = refl

seated_cons : (rs : Rows) (now : ℤ) (e : ℕ × Wait) (es : Table Wait) → seated rs now (e ∷ es) ≡ with_seat e.0 (due_seat rs now e) (seated rs now es)
unfolding seated
seated_cons rs now e es = refl

-- ---- they are those of the seats whose time has come

abbrev is_due_by : Table Wait → ℤ → ℕ → Bool
is_due_by waits now t = has_come now (option_and_then time_of (get waits t))

same_number : (x y : ℕ) → eqb x y ≡ true → x ≡ y
same_number x y e = grind (arith, nat_tests)

first_of : (k q : ℕ) (o : Option Seat) (es : Seated) → eqb k q ≡ true → get es q ≡ None → get (with_seat k o es) q ≡ o
first_of k q None es at alone = alone
first_of k q (Some s) es at alone = get_cons (k, s) es q ∙ ap (λ b. cond b (Some s) (get es q)) at

behind : (k q : ℕ) (o : Option Seat) (es : Seated) → eqb k q ≡ false → get (with_seat k o es) q ≡ get es q
behind k q None es at = refl
behind k q (Some s) es at = get_cons (k, s) es q ∙ ap (λ b. cond b (Some s) (get es q)) at

seat_at : (rs : Rows) (now : ℤ) (e : ℕ × Wait) (es : Table Wait) (q : ℕ) (b : Bool) → eqb e.0 q ≡ b → entries.below_all nat_cmp e.0 es ≡ true
    → get (seated rs now es) q ≡ keep_if (is_due_by es now q) (get rs.seats q)
    → get (with_seat e.0 (due_seat rs now e) (seated rs now es)) q ≡ keep_if (has_come now (option_and_then time_of (cond b (Some e.1) (get es q)))) (get rs.seats q)
seat_at rs now e es q true at below rest =
    let same : e.0 ≡ q = same_number e.0 q at in
    let alone : get es q ≡ None = subst (λ n. get es n ≡ None) same (nothing_at e.0 es below) in
    first_of e.0 q (due_seat rs now e) (seated rs now es) at (rest ∙ ap (λ o. keep_if (has_come now (option_and_then time_of o)) (get rs.seats q)) alone)
    ∙ ap (λ n. keep_if (has_come now (time_of e.1)) (get rs.seats n)) same
seat_at rs now e es q false at below rest = behind e.0 q (due_seat rs now e) (seated rs now es) at ∙ rest

-- The seat at a number among them.
get_seated : (rs : Rows) (now : ℤ) (es : Table Wait) (q : ℕ) → IsCanonical es → get (seated rs now es) q ≡ keep_if (is_due_by es now q) (get rs.seats q)
get_seated rs now [] q h =
    ap (λ l. get l q) (seated_none rs now) ∙ get_empty q ∙ sym (ap (λ o. keep_if (has_come now (option_and_then time_of o)) (get rs.seats q)) (get_empty q))
get_seated rs now (e ∷ es) q h =
    let parts : (entries.below_all nat_cmp e.0 es ≡ true) × (entries.is_sorted nat_cmp es ≡ true) = both_true _ _ h in
    ap (λ l. get l q) (seated_cons rs now e es) ∙ seat_at rs now e es q (eqb e.0 q) refl parts.0 (get_seated rs now es q parts.1)
    ∙ sym (ap (λ o. keep_if (has_come now (option_and_then time_of o)) (get rs.seats q)) (get_cons e es q))

below_with : (x k : ℕ) (o : Option Seat) (es : Seated) → is_lt (nat_cmp x k) ≡ true → entries.below_all nat_cmp x es ≡ true → entries.below_all nat_cmp x (with_seat k o es) ≡ true
below_with x k None es h rest = rest
below_with x k (Some s) es h rest = ap (λ b. b && entries.below_all nat_cmp x es) h ∙ rest

below_seated : (rs : Rows) (now : ℤ) (x : ℕ) (es : Table Wait) → entries.below_all nat_cmp x es ≡ true → entries.below_all nat_cmp x (seated rs now es) ≡ true
below_seated rs now x [] h = ap (entries.below_all nat_cmp x) (seated_none rs now)
below_seated rs now x (e ∷ es) h =
    let parts : (is_lt (nat_cmp x e.0) ≡ true) × (entries.below_all nat_cmp x es ≡ true) = both_true _ _ h in
    ap (entries.below_all nat_cmp x) (seated_cons rs now e es) ∙ below_with x e.0 (due_seat rs now e) (seated rs now es) parts.0 (below_seated rs now x es parts.1)

canonical_with : (k : ℕ) (o : Option Seat) (es : Seated) → entries.below_all nat_cmp k es ≡ true → IsCanonical es → IsCanonical (with_seat k o es)
canonical_with k None es below h = h
canonical_with k (Some s) es below h = ap (λ b. b && entries.is_sorted nat_cmp es) below ∙ h

canonical_seated : (rs : Rows) (now : ℤ) (es : Table Wait) → IsCanonical es → IsCanonical (seated rs now es)
canonical_seated rs now [] h = ap (entries.is_sorted nat_cmp) (seated_none rs now)
canonical_seated rs now (e ∷ es) h =
    let parts : (entries.below_all nat_cmp e.0 es ≡ true) × (entries.is_sorted nat_cmp es ≡ true) = both_true _ _ h in
    subst IsCanonical (sym (seated_cons rs now e es))
    (canonical_with e.0 (due_seat rs now e) (seated rs now es) (below_seated rs now e.0 es parts.0) (canonical_seated rs now es parts.1))

kept_or_not : (b : Bool) (s : Seat) → cond b (Some s) None ≡ keep_if b (Some s)
kept_or_not true s = refl
kept_or_not false s = refl

nothing_kept : (b : Bool) → (let o : Option Seat = None in o) ≡ keep_if b None
nothing_kept true = refl
nothing_kept false = refl

passed_is_kept : (waits : Table Wait) (now : ℤ) (q : ℕ) (o : Option Seat) → pass (λ (e : ℕ × Seat). is_due_by waits now e.0) q o ≡ keep_if (is_due_by waits now q) o
unfolding pass
passed_is_kept waits now q None = nothing_kept (is_due_by waits now q)
passed_is_kept waits now q (Some s) = kept_or_not (is_due_by waits now q) s

seated_is : (rs : Rows) (now : ℤ) (waits : Table Wait) → IsCanonical waits → IsCanonical rs.seats → seated rs now waits ≡ filter (λ e. is_due_by waits now e.0) rs.seats
seated_is rs now waits h g =
    same_table _ _ (canonical_seated rs now waits h) (canonical_filter (λ (e : ℕ × Seat). is_due_by waits now e.0) rs.seats g) (λ q.
    get_seated rs now waits q h ∙ sym (get_filter (λ (e : ℕ × Seat). is_due_by waits now e.0) q rs.seats g ∙ passed_is_kept waits now q (get rs.seats q)))

-- The best of them, after all waits were looked at.
best_seated : (rs : Rows) (now : ℤ) (waits : Table Wait) → IsCanonical waits → IsCanonical rs.seats → number_in (best_of (seated rs now waits)) ≡ best_due waits rs now
best_seated rs now waits h g = ap (λ l. number_in (best_of l)) (seated_is rs now waits h g)

-- That is the best of those whose time has come.
pub best_due_is : (cs : Conds) (rs : Rows) (now : ℤ) → best_due cs.waits rs now ≡ number_in (best_of (due cs rs now))
unfolding due
best_due_is cs rs now = refl

-- ---- one wait more

best_cons : (e : ℕ × Seat) (es : Seated) → best_of (e ∷ es) ≡ Some (better e (best_of es))
unfolding best_of
best_cons e es = refl

-- The threads of all waits from the i-th on.
abbrev from : Rows → ℤ → Table Wait → ℕ → Seated
from rs now xs i = seated rs now (drop i xs)

pub due_none : (rs : Rows) (now : ℤ) (xs : Table Wait) (i : ℕ) → length xs ≤ i → None ≡ best_of (from rs now xs i)
due_none rs now xs i h = sym (ap (λ l. best_of (seated rs now l)) (drop_all i xs h) ∙ ap best_of (seated_none rs now) ∙ best_empty)

due_more : (rs : Rows) (now : ℤ) (xs : Table Wait) (i : ℕ) (d : ℕ × Wait) → 0 < i → i ≤ length xs
    → from rs now xs (i - 1) ≡ with_seat (get_or xs (i - 1) d).0 (due_seat rs now (get_or xs (i - 1) d)) (from rs now xs i)
due_more rs now xs i d a b =
    let n : (i - 1) + 1 ≡ i = omega arith in
    let x : ℕ × Wait = get_or xs (i - 1) d in
    ap (seated rs now) (drop_more xs (i - 1) d (omega arith) ∙ ap (λ k. x ∷ drop k xs) n) ∙ seated_cons rs now x (drop i xs)

pub due_taken : (rs : Rows) (now : ℤ) (xs : Table Wait) (i : ℕ) (d : ℕ × Wait) (s : Seat) (found : Option (ℕ × Seat)) (r : ℕ × Seat) → 0 < i → i ≤ length xs
    → Some s ≡ due_seat rs now (get_or xs (i - 1) d) → found ≡ best_of (from rs now xs i) → r ≡ better ((get_or xs (i - 1) d).0, s) found → Some r ≡ best_of (from rs now xs (i - 1))
due_taken rs now xs i d s found r a b is ih e =
    let x : ℕ × Wait = get_or xs (i - 1) d in
    ap Some (e ∙ ap (better (x.0, s)) ih) ∙ sym (ap best_of (due_more rs now xs i d a b ∙ ap (λ o. with_seat x.0 o (from rs now xs i)) (sym is)) ∙ best_cons (x.0, s) (from rs now xs i))

pub due_passed : (rs : Rows) (now : ℤ) (xs : Table Wait) (i : ℕ) (d : ℕ × Wait) (found : Option (ℕ × Seat)) → 0 < i → i ≤ length xs
    → (let o : Option Seat = None in o) ≡ due_seat rs now (get_or xs (i - 1) d) → found ≡ best_of (from rs now xs i) → found ≡ best_of (from rs now xs (i - 1))
due_passed rs now xs i d found a b is ih =
    let x : ℕ × Wait = get_or xs (i - 1) d in
    ih ∙ sym (ap best_of (due_more rs now xs i d a b ∙ ap (λ o. with_seat x.0 o (from rs now xs i)) (sym is)))

-- The best of them all, where every wait was looked at.
pub best_found : (rs : Rows) (n m : ℤ) (xs : Table Wait) (i : ℕ) (o : Option (ℕ × Seat)) → n ≡ m → i ≡ 0 → IsCanonical xs → IsCanonical rs.seats → o ≡ best_of (from rs n xs i)
    → number_in o ≡ best_due xs rs m
best_found rs n m xs i o same z h g e = ap number_in (e ∙ ap (λ k. best_of (from rs n xs k)) z ∙ ap (λ k. best_of (seated rs k xs)) same) ∙ best_seated rs m xs h g
