-- Threads that wait, in the order in which they leave their rows.
use Rattle.std.proofs.Common.{◌≡◌, ℕ, zero, suc, ◌+◌, ◌-◌, ◌<◌, ◌≤◌, drop, get_or, Bool, true, false, not, ◌&&◌, ◌||◌, cond, eqb, [], ◌∷◌, length, Option, Some, None, Result, Ok, Err, ◌↔◌, is_some, refl, sym, arith, ◌∙◌, ap, subst}
use Rattle.std.proofs.lemmas.Bool.Decides.{nat_tests}
use Rattle.std.proofs.lemmas.List.{drop_more, drop_all}
use Rattle.std.specs.Prelude.{nat_lt}
use Rattle.std.specs.List.{filter, insert, remove}
use Rattle.std.specs.Option.{unwrap_or, OnSome, IfNone, IsSome}
use Rattle.std.specs.Result.{OnOk, OnErr}
use Rattle.std.specs.Ordering.{nat_cmp}
use Rattle.std.specs.FinMap.Entries as entries
use Rattle.thr_parts.specs.declared.row.Seat.{Seat}
use Rattle.thr_parts.specs.Tables.{Table, none, get, has, put, cut, IsCanonical}
use Rattle.thr_parts.specs.Rows.{Seated, is_before, better, best_of, arrival_in}
use Rattle.thr_parts.specs.Dispatch.{first}
use Rattle.thr_parts.proofs.TableLaws.{get_none, get_put, get_cut, has_get, canonical_none, canonical_put, canonical_cut, same_table}
use Rattle.thr_parts.proofs.EntryLaws.{both_true, get_cons, get_empty, get_first, above, pass, pass_none, pass_some, canonical_filter, get_filter, filter_put}
use Rattle.thr_parts.proofs.BestLaws.{best_empty, nobody, found, none_before}
use Rattle.thr_rows.specs.Waits.{leaves_first, leads, is_queue, table_of, spot}
use Rattle.thr_rows.proofs.RememberedLaws.{length_put_new, cut_missed}

same_number : (x y : ℕ) → eqb x y ≡ true → x ≡ y
same_number x y e = grind (arith, nat_tests)

other_number : (x y : ℕ) → (x ≡ y → ⊥) → eqb x y ≡ false
other_number x y h = grind (arith, nat_tests)

apart : true ≡ false → ⊥
apart h = absurd (cc)

same_some : {A : Type 0} (x y : A) → Some x ≡ Some y → x ≡ y
same_some x y e = ap (λ o. unwrap_or o x) e

never : {A : Type 0} (x : A) → Some x ≡ None → ⊥
never x e = absurd (cc)

-- ---- the order

ahead_trans : (ra aa na rb ab nb rc ac nc : ℕ)
    → ((nat_lt rb ra || (eqb ra rb && nat_lt aa ab)) || (not (nat_lt ra rb || (eqb rb ra && nat_lt ab aa)) && nat_lt nb na)) ≡ true
    → ((nat_lt rc rb || (eqb rb rc && nat_lt ab ac)) || (not (nat_lt rb rc || (eqb rc rb && nat_lt ac ab)) && nat_lt nc nb)) ≡ true
    → ((nat_lt rc ra || (eqb ra rc && nat_lt aa ac)) || (not (nat_lt ra rc || (eqb rc ra && nat_lt ac aa)) && nat_lt nc na)) ≡ true
ahead_trans ra aa na rb ab nb rc ac nc f g = grind (arith, nat_tests)

leaves_trans : (a b c : ℕ × Seat) → leaves_first a b ≡ true → leaves_first b c ≡ true → leaves_first a c ≡ true
leaves_trans a b c f g =
    ahead_trans a.1.rank (arrival_in a.1.place) a.0 b.1.rank (arrival_in b.1.place) b.0 c.1.rank (arrival_in c.1.place) c.0 f g

ahead_total : (ra aa na rb ab nb : ℕ) → eqb na nb ≡ false
    → ((nat_lt rb ra || (eqb ra rb && nat_lt aa ab)) || (not (nat_lt ra rb || (eqb rb ra && nat_lt ab aa)) && nat_lt nb na)) ≡ false
    → ((nat_lt ra rb || (eqb rb ra && nat_lt ab aa)) || (not (nat_lt rb ra || (eqb ra rb && nat_lt aa ab)) && nat_lt na nb)) ≡ true
ahead_total ra aa na rb ab nb n f = grind (arith, nat_tests)

leaves_total : (a b : ℕ × Seat) → eqb a.0 b.0 ≡ false → leaves_first a b ≡ false → leaves_first b a ≡ true
leaves_total a b n f = ahead_total a.1.rank (arrival_in a.1.place) a.0 b.1.rank (arrival_in b.1.place) b.0 n f

behind_all : (e s f : Seat) → is_before e f ≡ true → is_before s f ≡ false → is_before e s ≡ false → ⊥
behind_all e s f a b c = grind (arith, nat_tests)

-- ---- what stands in a queue

queue_parts : (a b c : Bool) → (not a && (b && c)) ≡ true → (a ≡ false) × (b ≡ true) × (c ≡ true)
queue_parts false true true e = (refl, refl, refl)
queue_parts false true false e = absurd (cc)
queue_parts false false c e = absurd (cc)
queue_parts true b c e = absurd (cc)

queue_whole : (a b c : Bool) → a ≡ false → b ≡ true → c ≡ true → (not a && (b && c)) ≡ true
queue_whole false true true f g h = refl
queue_whole false true false f g h = h
queue_whole false false c f g h = g
queue_whole true b c f g h = sym f

queue_cons : (e : ℕ × Seat) (es : Seated) → is_queue (e ∷ es) ≡ (not (has es e.0) && (leads e es && is_queue es))
unfolding is_queue
queue_cons e es = refl

leads_cons : (e f : ℕ × Seat) (fs : Seated) → leads e (f ∷ fs) ≡ (leaves_first e f && leads e fs)
unfolding leads
leads_cons e f fs = refl

pub leads_empty : (e : ℕ × Seat) → leads e [] ≡ true
unfolding leads
leads_empty e = refl

split : (e : ℕ × Seat) (es : Seated) → is_queue (e ∷ es) ≡ true → (has es e.0 ≡ false) × (leads e es ≡ true) × (is_queue es ≡ true)
split e es h = queue_parts _ _ _ (sym (queue_cons e es) ∙ h)

missing : {A : Type 0} (o : Option A) → is_some o ≡ false → o ≡ None
missing None h = refl
missing (Some v) h = absurd (apart h)

missed_parts : {A : Type 0} (b : Bool) (v : A) (o : Option A) → is_some (cond b (Some v) o) ≡ false → (b ≡ false) × (is_some o ≡ false)
missed_parts true v o h = absurd (apart h)
missed_parts false v o h = (refl, h)

has_rest : (f : ℕ × Seat) (fs : Seated) (k : ℕ) → has (f ∷ fs) k ≡ false → (eqb f.0 k ≡ false) × (has fs k ≡ false)
has_rest f fs k h =
    let parts : (eqb f.0 k ≡ false) × (is_some (get fs k) ≡ false) = missed_parts (eqb f.0 k) f.1 (get fs k) (sym (has_get (f ∷ fs) k ∙ ap is_some (get_cons f fs k)) ∙ h) in
    (parts.0, has_get fs k ∙ parts.1)

leads_head : (e f : ℕ × Seat) (q : ℕ) (s : Seat) (o : Option Seat) (b : Bool) → eqb f.0 q ≡ b → leaves_first e f ≡ true → (o ≡ Some s → leaves_first e (q, s) ≡ true)
    → cond b (Some f.1) o ≡ Some s → leaves_first e (q, s) ≡ true
leads_head e f q s o true is h rest at =
    ap (λ n. leaves_first e (n, s)) (sym (same_number f.0 q is)) ∙ ap (λ (x : Seat). leaves_first e (f.0, x)) (sym (same_some f.1 s at)) ∙ h
leads_head e f q s o false is h rest at = rest at

leads_get : (e : ℕ × Seat) (es : Seated) (q : ℕ) (s : Seat) → leads e es ≡ true → get es q ≡ Some s → leaves_first e (q, s) ≡ true
leads_get e [] q s h at = absurd (never s (sym at ∙ get_empty q))
leads_get e (f ∷ fs) q s h at =
    let parts : (leaves_first e f ≡ true) × (leads e fs ≡ true) = both_true _ _ (sym (leads_cons e f fs) ∙ h) in
    leads_head e f q s (get fs q) (eqb f.0 q) refl parts.0 (leads_get e fs q s parts.1) (sym (get_cons f fs q) ∙ at)

-- ---- the table of a queue

table_empty : table_of [] ≡ none
unfolding table_of
table_empty = refl

pub table_none : none ≡ table_of []
table_none = sym table_empty

table_cons : (e : ℕ × Seat) (es : Seated) → table_of (e ∷ es) ≡ put (table_of es) e.0 e.1
unfolding table_of
table_cons e es = refl

get_table : (es : Seated) (q : ℕ) → get (table_of es) q ≡ get es q
get_table [] q = ap (λ m. get m q) table_empty ∙ get_none q ∙ sym (get_empty q)
get_table (e ∷ es) q =
    ap (λ m. get m q) (table_cons e es) ∙ get_put (table_of es) e.0 q e.1 ∙ ap (λ o. cond (eqb e.0 q) (Some e.1) o) (get_table es q) ∙ sym (get_cons e es q)

pub canonical_table : (es : Seated) → IsCanonical (table_of es)
canonical_table [] = subst IsCanonical (sym table_empty) (canonical_none _)
canonical_table (e ∷ es) = subst IsCanonical (sym (table_cons e es)) (canonical_put (table_of es) e.0 e.1 (canonical_table es))

has_table : (es : Seated) (k : ℕ) → has (table_of es) k ≡ has es k
has_table es k = has_get (table_of es) k ∙ ap is_some (get_table es k) ∙ sym (has_get es k)

pub table_length : (es : Seated) → is_queue es ≡ true → length (table_of es) ≡ length es
unfolding none
table_length [] h = ap length table_empty
table_length (e ∷ es) h =
    let parts : (has es e.0 ≡ false) × (leads e es ≡ true) × (is_queue es ≡ true) = split e es h in
    ap length (table_cons e es) ∙ length_put_new (table_of es) e.0 e.1 (canonical_table es) (has_table es e.0 ∙ parts.0) ∙ ap suc (table_length es parts.2)

-- ---- the best of a table

better_of : (e f : ℕ × Seat) (b : Bool) → is_before e.1 f.1 ≡ b → better e (Some f) ≡ cond b e f
better_of e f b h = ap (λ c. cond c e f) h

best_cons : (e : ℕ × Seat) (es : Seated) → best_of (e ∷ es) ≡ Some (better e (best_of es))
unfolding best_of
best_cons e es = refl

here : (e w : ℕ × Seat) (q : ℕ) → eqb e.0 q ≡ true → e ≡ w → q ≤ w.0
here e w q is same = let n : e.0 ≡ q = same_number e.0 q is in let m : e.0 ≡ w.0 = ap (λ (x : ℕ × Seat). x.0) same in omega (arith, n, m)

tied_later : (e f w : ℕ × Seat) (es : Seated) (q : ℕ) (s : Seat) (b : Bool) → is_before e.1 f.1 ≡ b → cond b e f ≡ w → e.0 < f.0
    → (get es q ≡ Some s → is_before s f.1 ≡ false) → (get es q ≡ Some s → is_before f.1 s ≡ false → q ≤ f.0) → is_before w.1 s ≡ false
    → (c : Bool) → eqb e.0 q ≡ c → cond c (Some e.1) (get es q) ≡ Some s → q ≤ w.0
tied_later e f w es q s true is same above before rest not_after true at found = here e w q at same
tied_later e f w es q s true is same above before rest not_after false at found =
    absurd (behind_all e.1 s f.1 is (before found) (ap (λ (x : ℕ × Seat). is_before x.1 s) same ∙ not_after))
tied_later e f w es q s false is same above before rest not_after true at found =
    let n : e.0 ≡ q = same_number e.0 q at in let m : f.0 ≡ w.0 = ap (λ (x : ℕ × Seat). x.0) same in omega (arith, n, m, above)
tied_later e f w es q s false is same above before rest not_after false at found =
    let m : f.0 ≡ w.0 = ap (λ (x : ℕ × Seat). x.0) same in
    let most : q ≤ f.0 = rest found (ap (λ (x : ℕ × Seat). is_before x.1 s) same ∙ not_after) in omega (arith, m, most)

tied_alone : (e w : ℕ × Seat) (q : ℕ) (s : Seat) (o : Option Seat) (c : Bool) → e ≡ w → o ≡ None → eqb e.0 q ≡ c → cond c (Some e.1) o ≡ Some s → q ≤ w.0
tied_alone e w q s o true same gone at found = here e w q at same
tied_alone e w q s o false same gone at found = absurd (never s (sym found ∙ gone))

tied_by : (e w : ℕ × Seat) (es : Seated) (q : ℕ) (s : Seat) (o : Option (ℕ × Seat)) → IsCanonical (e ∷ es) → best_of es ≡ o → better e o ≡ w
    → ((f : ℕ × Seat) → best_of es ≡ Some f → get es q ≡ Some s → is_before f.1 s ≡ false → q ≤ f.0) → is_before w.1 s ≡ false
    → get (e ∷ es) q ≡ Some s → q ≤ w.0
tied_by e w es q s None h is same rest not_after found = tied_alone e w q s (get es q) (eqb e.0 q) same (nobody es q is) refl (sym (get_cons e es q) ∙ found)
tied_by e w es q s (Some f) h is same rest not_after at =
    let parts : (entries.below_all nat_cmp e.0 es ≡ true) × (entries.is_sorted nat_cmp es ≡ true) = both_true _ _ h in
    tied_later e f w es q s (is_before e.1 f.1) refl (sym (better_of e f (is_before e.1 f.1) refl) ∙ same) (above e.0 f.0 f.1 es parts.0 (found es f parts.1 is))
    (λ g. none_before es f q s is g) (λ g n. rest f is g n) not_after (eqb e.0 q) refl (sym (get_cons e es q) ∙ at)

-- Of those that tie with the best none has a greater number.
none_tied : (es : Seated) (w : ℕ × Seat) (q : ℕ) (s : Seat) → IsCanonical es → best_of es ≡ Some w → get es q ≡ Some s → is_before w.1 s ≡ false → q ≤ w.0
none_tied [] w q s h is at n = absurd (never w (sym is ∙ best_empty))
none_tied (e ∷ es) w q s h is at n =
    let parts : (entries.below_all nat_cmp e.0 es ≡ true) × (entries.is_sorted nat_cmp es ≡ true) = both_true _ _ h in
    tied_by e w es q s (best_of es) h refl (same_some _ _ (sym (best_cons e es) ∙ is)) (λ f i g m. none_tied es f q s parts.1 i g m) n at

clash_by : (b c : Bool) (x y : ℕ) → (b || (not c && nat_lt y x)) ≡ true → b ≡ false → (c ≡ false → x ≤ y) → ⊥
clash_by true c x y h f g = apart f
clash_by false true x y h f g = apart (sym h)
clash_by false false x y h f g = let m : x ≤ y = g refl in past x y m h
  where
    past : (x y : ℕ) → x ≤ y → nat_lt y x ≡ true → ⊥
    past x y m h = grind (arith, nat_tests)

same_pair : (e w : ℕ × Seat) (M : Seated) → eqb e.0 w.0 ≡ true → get M e.0 ≡ Some e.1 → get M w.0 ≡ Some w.1 → Some w ≡ Some e
same_pair e w M is at there =
    let n : e.0 ≡ w.0 = same_number e.0 w.0 is in
    let v : e.1 ≡ w.1 = same_some e.1 w.1 (sym at ∙ ap (get M) n ∙ there) in
    sym (ap (λ (k : ℕ). Some (k, e.1)) n ∙ ap (λ (s : Seat). Some (w.0, s)) v)

best_among : (M : Seated) (e w : ℕ × Seat) (b : Bool) → eqb e.0 w.0 ≡ b → IsCanonical M → get M e.0 ≡ Some e.1 → best_of M ≡ Some w
    → ((q : ℕ) (s : Seat) → get M q ≡ Some s → eqb e.0 q ≡ false → leaves_first e (q, s) ≡ true) → Some w ≡ Some e
best_among M e w true n h at is others = same_pair e w M n at (found M w h is)
best_among M e w false n h at is others =
    absurd (clash_by (is_before e.1 w.1) (is_before w.1 e.1) e.0 w.0 (others w.0 w.1 (found M w h is) n) (none_before M w e.0 e.1 is at) (λ m. none_tied M w e.0 e.1 h is at m))

best_by : (M : Seated) (e : ℕ × Seat) (o : Option (ℕ × Seat)) → best_of M ≡ o → IsCanonical M → get M e.0 ≡ Some e.1
    → ((q : ℕ) (s : Seat) → get M q ≡ Some s → eqb e.0 q ≡ false → leaves_first e (q, s) ≡ true) → o ≡ Some e
best_by M e None is h at others = absurd (never e.1 (sym at ∙ nobody M e.0 is))
best_by M e (Some w) is h at others = best_among M e w (eqb e.0 w.0) refl h at is others

-- ---- the first of a queue is the best

passed : (p : ℕ × Seat → Bool) (q : ℕ) (o : Option Seat) (s : Seat) → pass p q o ≡ Some s → o ≡ Some s
passed p q None s e = absurd (never s (sym e ∙ pass_none p q))
passed p q (Some v) s e = kept (p (q, v)) v s (sym (pass_some p q v) ∙ e)
  where
    kept : (b : Bool) (v s : Seat) → cond b (Some v) None ≡ Some s → Some v ≡ Some s
    kept true v s e = e
    kept false v s e = absurd (never s (sym e))

behind : (e : ℕ × Seat) (es : Seated) (q : ℕ) (s : Seat) → eqb e.0 q ≡ false → get (e ∷ es) q ≡ Some s → get es q ≡ Some s
behind e es q s n at = sym (get_cons e es q ∙ ap (λ b. cond b (Some e.1) (get es q)) n) ∙ at

first_by : (p : ℕ × Seat → Bool) (e : ℕ × Seat) (es : Seated) (b : Bool) → p e ≡ b → is_queue (e ∷ es) ≡ true → first (filter p es) ≡ best_of (filter p (table_of es))
    → first (cond b (e ∷ filter p es) (filter p es)) ≡ best_of (filter p (table_of (e ∷ es)))
first_by p e es true is h rest =
    let parts : (has es e.0 ≡ false) × (leads e es ≡ true) × (is_queue es ≡ true) = split e es h in
    let m : Table Seat = table_of (e ∷ es) in
    let rises : IsCanonical m = canonical_table (e ∷ es) in
    let at : get (filter p m) e.0 ≡ Some e.1 =
    get_filter p e.0 m rises ∙ ap (pass p e.0) (get_table (e ∷ es) e.0 ∙ get_first e es) ∙ pass_some p e.0 e.1 ∙ ap (λ b. cond b (Some e.1) None) is in
    sym (best_by (filter p m) e (best_of (filter p m)) refl (canonical_filter p m rises) at
    (λ q s g n. leads_get e es q s parts.1 (behind e es q s n (sym (get_table (e ∷ es) q) ∙ passed p q (get m q) s (sym (get_filter p q m rises) ∙ g)))))
first_by p e es false is h rest =
    let parts : (has es e.0 ≡ false) × (leads e es ≡ true) × (is_queue es ≡ true) = split e es h in
    rest ∙ sym (ap (λ m. best_of (filter p m)) (table_cons e es) ∙ ap best_of (filter_put p (table_of es) e.0 e.1 (canonical_table es) is
    ∙ ap (filter p) (sym (cut_missed (table_of es) e.0 (canonical_table es) (has_table es e.0 ∙ parts.0)))))

pub first_is_best : (p : ℕ × Seat → Bool) (es : Seated) → is_queue es ≡ true → first (filter p es) ≡ best_of (filter p (table_of es))
unfolding none
first_is_best p [] h = sym (ap (λ m. best_of (filter p m)) table_empty ∙ best_empty)
first_is_best p (e ∷ es) h = first_by p e es (p e) refl h (first_is_best p es (split e es h).2)

-- ---- a thread leaves the queue

unfoldable removed : ℕ → Seated → Seated
removed t [] = []
removed t (e ∷ es) = cond (eqb e.0 t) es (e ∷ removed t es)

spot_cons : (t : ℕ) (e : ℕ × Seat) (es : Seated) → spot t (e ∷ es) ≡ cond (eqb e.0 t) 0 (suc (spot t es))
unfolding spot
spot_cons t e es = refl

spot_empty : (t : ℕ) → spot t [] ≡ 0
unfolding spot
spot_empty t = refl

removed_cons : (t : ℕ) (e : ℕ × Seat) (es : Seated) (b : Bool) → eqb e.0 t ≡ b → removed t (e ∷ es) ≡ cond b es (e ∷ removed t es)
unfolding removed
removed_cons t e es b is = ap (λ b. cond b es (e ∷ removed t es)) is

removed_at : (t : ℕ) (e : ℕ × Seat) (es : Seated) (b : Bool) → remove es (spot t es) ≡ removed t es → remove (e ∷ es) (cond b 0 (suc (spot t es))) ≡ cond b es (e ∷ removed t es)
removed_at t e es true rest = refl
removed_at t e es false rest = ap (λ l. e ∷ l) rest

removed_is : (t : ℕ) (es : Seated) → remove es (spot t es) ≡ removed t es
unfolding removed
removed_is t [] = ap (remove []) (spot_empty t)
removed_is t (e ∷ es) = ap (remove (e ∷ es)) (spot_cons t e es) ∙ removed_at t e es (eqb e.0 t) (removed_is t es)

swapped : (x y : Bool) (v : Seat) (r o : Option Seat) → (x ≡ true → y ≡ true → ⊥) → cond x (Some v) (cond y r o) ≡ cond y r (cond x (Some v) o)
swapped true true v r o h = absurd (h refl refl)
swapped true false v r o h = refl
swapped false y v r o h = refl

never_both : (x y q : ℕ) → eqb x y ≡ false → eqb x q ≡ true → eqb y q ≡ true → ⊥
never_both x y q n a b = grind (arith, nat_tests)

gone_here : (t q : ℕ) (e : ℕ × Seat) (o : Option Seat) (c : Bool) → eqb t q ≡ c → e.0 ≡ t → (e.0 ≡ q → o ≡ None) → o ≡ cond c None (cond (eqb e.0 q) (Some e.1) o)
gone_here t q e o true is n gone = gone (n ∙ same_number t q is)
gone_here t q e o false is n gone = ap (λ b. cond b (Some e.1) o) (sym (ap (λ k. eqb k q) n ∙ is))

get_removed_by : (t q : ℕ) (e : ℕ × Seat) (es : Seated) (b : Bool) → eqb e.0 t ≡ b → has es e.0 ≡ false → get (removed t es) q ≡ cond (eqb t q) None (get es q)
    → get (cond b es (e ∷ removed t es)) q ≡ cond (eqb t q) None (get (e ∷ es) q)
get_removed_by t q e es true is fresh rest =
    gone_here t q e (get es q) (eqb t q) refl (same_number e.0 t is) (λ n. ap (get es) (sym n) ∙ missing (get es e.0) (sym (has_get es e.0) ∙ fresh))
    ∙ sym (ap (λ o. cond (eqb t q) None o) (get_cons e es q))
get_removed_by t q e es false is fresh rest =
    get_cons e (removed t es) q ∙ ap (λ o. cond (eqb e.0 q) (Some e.1) o) rest ∙ swapped (eqb e.0 q) (eqb t q) e.1 None (get es q) (λ a b. never_both e.0 t q is a b)
    ∙ sym (ap (λ o. cond (eqb t q) None o) (get_cons e es q))

none_either : (b : Bool) (o : Option Seat) → o ≡ None → o ≡ cond b None o
none_either true o h = h
none_either false o h = refl

get_removed : (t q : ℕ) (es : Seated) → is_queue es ≡ true → get (removed t es) q ≡ cond (eqb t q) None (get es q)
unfolding removed
get_removed t q [] h = none_either (eqb t q) (get [] q) (get_empty q)
get_removed t q (e ∷ es) h =
    let parts : (has es e.0 ≡ false) × (leads e es ≡ true) × (is_queue es ≡ true) = split e es h in
    get_removed_by t q e es (eqb e.0 t) refl parts.0 (get_removed t q es parts.2)

leads_removed_by : (a : ℕ × Seat) (t : ℕ) (e : ℕ × Seat) (es : Seated) (b : Bool) → leaves_first a e ≡ true → leads a es ≡ true → leads a (removed t es) ≡ true
    → leads a (cond b es (e ∷ removed t es)) ≡ true
leads_removed_by a t e es true first all rest = all
leads_removed_by a t e es false first all rest = leads_cons a e (removed t es) ∙ ap (λ b. b && leads a (removed t es)) first ∙ rest

leads_removed : (a : ℕ × Seat) (t : ℕ) (es : Seated) → leads a es ≡ true → leads a (removed t es) ≡ true
unfolding removed
leads_removed a t [] h = h
leads_removed a t (e ∷ es) h =
    let parts : (leaves_first a e ≡ true) × (leads a es ≡ true) = both_true _ _ (sym (leads_cons a e es) ∙ h) in
    leads_removed_by a t e es (eqb e.0 t) parts.0 parts.1 (leads_removed a t es parts.1)

still_fresh : (b : Bool) (o : Option Seat) → is_some o ≡ false → is_some (cond b None o) ≡ false
still_fresh true o h = refl
still_fresh false o h = h

queue_removed_by : (t : ℕ) (e : ℕ × Seat) (es : Seated) (b : Bool) → is_queue (e ∷ es) ≡ true → is_queue (removed t es) ≡ true → is_queue (cond b es (e ∷ removed t es)) ≡ true
queue_removed_by t e es true h rest = (split e es h).2
queue_removed_by t e es false h rest =
    let parts : (has es e.0 ≡ false) × (leads e es ≡ true) × (is_queue es ≡ true) = split e es h in
    queue_cons e (removed t es) ∙ queue_whole _ _ _
    (has_get (removed t es) e.0 ∙ ap is_some (get_removed t e.0 es parts.2) ∙ still_fresh (eqb t e.0) (get es e.0) (sym (has_get es e.0) ∙ parts.0))
    (leads_removed e t es parts.1) rest

queue_removed : (t : ℕ) (es : Seated) → is_queue es ≡ true → is_queue (removed t es) ≡ true
unfolding removed
queue_removed t [] h = h
queue_removed t (e ∷ es) h = queue_removed_by t e es (eqb e.0 t) h (queue_removed t es (split e es h).2)

pub queue_without : (t i : ℕ) (es : Seated) → i ≡ spot t es → is_queue es ≡ true → is_queue (remove es i) ≡ true
queue_without t i es is h = ap (λ j. is_queue (remove es j)) is ∙ ap is_queue (removed_is t es) ∙ queue_removed t es h

pub table_without : (t i : ℕ) (es : Seated) → i ≡ spot t es → is_queue es ≡ true → table_of (remove es i) ≡ cut (table_of es) t
table_without t i es is h =
    ap (λ j. table_of (remove es j)) is
    ∙ same_table _ _ (canonical_table (remove es (spot t es))) (canonical_cut (table_of es) t (canonical_table es)) (λ q.
    get_table (remove es (spot t es)) q ∙ ap (λ l. get l q) (removed_is t es) ∙ get_removed t q es h ∙ sym (get_cut (table_of es) t q ∙ ap (λ o. cond (eqb t q) None o) (get_table es q)))

-- Past the end nothing is removed.
past_by : (t : ℕ) (e : ℕ × Seat) (es : Seated) (b : Bool) → (length es ≤ spot t es → es ≡ remove es (spot t es)) → suc (length es) ≤ cond b 0 (suc (spot t es))
    → e ∷ es ≡ remove (e ∷ es) (cond b 0 (suc (spot t es)))
past_by t e es true rest h = absurd (not_there (length es) h)
  where
    not_there : (n : ℕ) → suc n ≤ 0 → ⊥
    not_there n h = omega arith
past_by t e es false rest h = ap (λ l. e ∷ l) (rest (omega (arith, h)))

pub not_removed : (t : ℕ) (es : Seated) → length es ≤ spot t es → es ≡ remove es (spot t es)
not_removed t [] h = sym (ap (remove []) (spot_empty t))
not_removed t (e ∷ es) h =
    subst (λ (j : ℕ). e ∷ es ≡ remove (e ∷ es) j) (sym (spot_cons t e es))
    (past_by t e es (eqb e.0 t) (λ g. not_removed t es g) (subst (λ (j : ℕ). suc (length es) ≤ j) (spot_cons t e es) h))

-- ---- where a thread is

pub spot_here : (t i : ℕ) (es : Seated) (d : ℕ × Seat) → i < length es → (get_or es i d).0 ≡ t → i + spot t (drop i es) ≡ spot t es → i ≡ spot t es
spot_here t i es d h is so_far =
    let at : spot t (drop i es) ≡ 0 = ap (spot t) (drop_more es i d h) ∙ spot_cons t (get_or es i d) (drop (i + 1) es) ∙ ap (λ b. cond b 0 (suc (spot t (drop (i + 1) es)))) (itself _ _ is) in
    omega (arith, at, so_far)
  where
    itself : (x y : ℕ) → x ≡ y → eqb x y ≡ true
    itself x y h = grind (arith, nat_tests)

pub spot_later : (t i : ℕ) (es : Seated) (d : ℕ × Seat) → i < length es → ((get_or es i d).0 ≡ t → ⊥) → i + spot t (drop i es) ≡ spot t es → (i + 1) + spot t (drop (i + 1) es) ≡ spot t es
spot_later t i es d h other so_far =
    let at : spot t (drop i es) ≡ suc (spot t (drop (i + 1) es)) =
    ap (spot t) (drop_more es i d h) ∙ spot_cons t (get_or es i d) (drop (i + 1) es) ∙ ap (λ b. cond b 0 (suc (spot t (drop (i + 1) es)))) (other_number _ _ other) in
    omega (arith, at, so_far)

pub spot_nowhere : (t i : ℕ) (es : Seated) → length es ≤ i → i + spot t (drop i es) ≡ spot t es → i ≡ spot t es
spot_nowhere t i es h so_far = let at : spot t (drop i es) ≡ 0 = ap (spot t) (drop_all i es h) ∙ spot_empty t in omega (arith, at, so_far)

-- ---- a thread joins the queue

get_inserted : (es : Seated) (i q : ℕ) (e : ℕ × Seat) → has es e.0 ≡ false → get (insert es i e) q ≡ cond (eqb e.0 q) (Some e.1) (get es q)
get_inserted es zero q e h = get_cons e es q
get_inserted [] (suc i) q e h = get_cons e [] q
get_inserted (f ∷ fs) (suc i) q e h =
    let parts : (eqb f.0 e.0 ≡ false) × (has fs e.0 ≡ false) = has_rest f fs e.0 h in
    get_cons f (insert fs i e) q ∙ ap (λ o. cond (eqb f.0 q) (Some f.1) o) (get_inserted fs i q e parts.1)
    ∙ swapped (eqb f.0 q) (eqb e.0 q) f.1 (Some e.1) (get fs q) (λ a b. never_both f.0 e.0 q parts.0 a b) ∙ sym (ap (λ o. cond (eqb e.0 q) (Some e.1) o) (get_cons f fs q))

leads_inserted : (a : ℕ × Seat) (es : Seated) (i : ℕ) (e : ℕ × Seat) → leads a es ≡ true → leaves_first a e ≡ true → leads a (insert es i e) ≡ true
leads_inserted a es zero e h f = leads_cons a e es ∙ ap (λ b. b && leads a es) f ∙ h
leads_inserted a [] (suc i) e h f = leads_cons a e [] ∙ ap (λ b. b && leads a []) f ∙ h
leads_inserted a (g ∷ gs) (suc i) e h f =
    let parts : (leaves_first a g ≡ true) × (leads a gs ≡ true) = both_true _ _ (sym (leads_cons a g gs) ∙ h) in
    leads_cons a g (insert gs i e) ∙ ap (λ b. b && leads a (insert gs i e)) parts.0 ∙ leads_inserted a gs i e parts.1 f

leads_at : (a : ℕ × Seat) (es : Seated) (j : ℕ) (d : ℕ × Seat) → j < length es → leads a es ≡ true → leaves_first a (get_or es j d) ≡ true
leads_at a [] j d h all = absurd (nowhere j h)
  where
    nowhere : (j : ℕ) → j < 0 → ⊥
    nowhere j h = omega arith
leads_at a (e ∷ es) zero d h all = (both_true _ _ (sym (leads_cons a e es) ∙ all)).0
leads_at a (e ∷ es) (suc j) d h all = leads_at a es j d (omega (arith, h)) (both_true _ _ (sym (leads_cons a e es) ∙ all)).1

others_at : (es : Seated) (j : ℕ) (d : ℕ × Seat) (k : ℕ) → j < length es → has es k ≡ false → eqb (get_or es j d).0 k ≡ false
others_at [] j d k h fresh = absurd (nowhere j h)
  where
    nowhere : (j : ℕ) → j < 0 → ⊥
    nowhere j h = omega arith
others_at (e ∷ es) zero d k h fresh = (has_rest e es k fresh).0
others_at (e ∷ es) (suc j) d k h fresh = others_at es j d k (omega (arith, h)) (has_rest e es k fresh).1

turned : (x y : ℕ) → eqb x y ≡ false → eqb y x ≡ false
turned x y h = grind (arith, nat_tests)

head_leads : (f : ℕ × Seat) (fs : Seated) (i : ℕ) (e d : ℕ × Seat) → leads f fs ≡ true → i ≤ length fs → has (f ∷ fs) e.0 ≡ false
    → leaves_first e (get_or (f ∷ fs) i d) ≡ false → leaves_first f e ≡ true
head_leads f fs zero e d all h fresh late = leaves_total e f (turned f.0 e.0 (has_rest f fs e.0 fresh).0) late
head_leads f fs (suc j) e d all h fresh late =
    let g : ℕ × Seat = get_or fs j d in
    let within : j < length fs = omega (arith, h) in
    leaves_trans f g e (leads_at f fs j d within all) (leaves_total e g (turned g.0 e.0 (others_at fs j d e.0 within (has_rest f fs e.0 fresh).1)) late)

queue_joined : (es : Seated) (i : ℕ) (e : ℕ × Seat) → i ≤ length es → is_queue es ≡ true → has es e.0 ≡ false → leads e (drop i es) ≡ true
    → ((j : ℕ) (d : ℕ × Seat) → suc j ≡ i → leaves_first e (get_or es j d) ≡ false) → is_queue (insert es i e) ≡ true
queue_joined es zero e h all fresh after front = queue_cons e es ∙ queue_whole _ _ _ fresh after all
queue_joined [] (suc i) e h all fresh after front = absurd (nowhere i h)
  where
    nowhere : (j : ℕ) → suc j ≤ 0 → ⊥
    nowhere j h = omega arith
queue_joined (f ∷ fs) (suc i) e h all fresh after front =
    let parts : (has fs f.0 ≡ false) × (leads f fs ≡ true) × (is_queue fs ≡ true) = split f fs all in
    let apart_from : (eqb f.0 e.0 ≡ false) × (has fs e.0 ≡ false) = has_rest f fs e.0 fresh in
    let within : i ≤ length fs = omega (arith, h) in
    queue_cons f (insert fs i e) ∙ queue_whole _ _ _
    (has_get (insert fs i e) f.0 ∙ ap is_some (get_inserted fs i f.0 e apart_from.1 ∙ ap (λ b. cond b (Some e.1) (get fs f.0)) (turned f.0 e.0 apart_from.0)) ∙ sym (has_get fs f.0) ∙ parts.0)
    (leads_inserted f fs i e parts.1 (head_leads f fs i e f parts.1 within fresh (front i f refl)))
    (queue_joined fs i e within parts.2 apart_from.1 after (λ j d n. front (suc j) d (ap suc n)))

-- The place of a thread that joins: it leaves before those behind, and not before the one in front.
pub queue_inserted : (es : Seated) (i : ℕ) (e : ℕ × Seat) → i ≤ length es → is_queue es ≡ true → has es e.0 ≡ false → leads e (drop i es) ≡ true
    → ((d : ℕ × Seat) → 0 < i → leaves_first e (get_or es (i - 1) d) ≡ false) → is_queue (insert es i e) ≡ true
queue_inserted es i e h all fresh after before =
    queue_joined es i e h all fresh after (λ j d n.
    let m : j ≡ i - 1 = omega (arith, n) in ap (λ k. leaves_first e (get_or es k d)) m ∙ before d (omega (arith, n)))

pub table_inserted : (es : Seated) (i : ℕ) (e : ℕ × Seat) → has es e.0 ≡ false → table_of (insert es i e) ≡ put (table_of es) e.0 e.1
table_inserted es i e fresh =
    same_table _ _ (canonical_table (insert es i e)) (canonical_put (table_of es) e.0 e.1 (canonical_table es)) (λ q.
    get_table (insert es i e) q ∙ get_inserted es i q e fresh ∙ sym (get_put (table_of es) e.0 q e.1 ∙ ap (λ o. cond (eqb e.0 q) (Some e.1) o) (get_table es q)))

pub fresh_in_queue : (es : Seated) (k : ℕ) → has (table_of es) k ≡ false → has es k ≡ false
fresh_in_queue es k h = sym (has_table es k) ∙ h

-- One thread more stands behind.
pub leads_more : (e : ℕ × Seat) (es : Seated) (i : ℕ) (d : ℕ × Seat) → 0 < i → i ≤ length es → leaves_first e (get_or es (i - 1) d) ≡ true → leads e (drop i es) ≡ true → leads e (drop (i - 1) es) ≡ true
leads_more e es i d z h is all =
    let n : (i - 1) + 1 ≡ i = omega arith in
    ap (leads e) (drop_more es (i - 1) d (omega arith) ∙ ap (λ k. get_or es (i - 1) d ∷ drop k es) n) ∙ leads_cons e (get_or es (i - 1) d) (drop i es)
    ∙ ap (λ b. b && leads e (drop i es)) is ∙ all

-- ---- what a queue says of its calls

not_less : (i n : ℕ) → (i < n → ⊥) → n ≤ i
not_less i n h = omega (arith, h)

-- Where a thread was looked up and removed, the others are left, whether it was there or not.
pub left_after : {T D : Type 0} (items : D → Seated) (r : Option T) (old new : D) (i t : ℕ) → i ≡ spot t (items old) → OnSome r (items new ≡ remove (items old) i) → IfNone r (new ≡ old)
    → IsSome r ↔ (i < length (items old)) → items new ≡ remove (items old) i
left_after items (Some x) old new i t is some same there = some
left_after items None old new i t is some same there =
    let past : length (items old) ≤ i = not_less i (length (items old)) (λ h. apart (sym (there.1 h))) in
    ap items same ∙ not_removed t (items old) (subst (λ (j : ℕ). length (items old) ≤ j) is past) ∙ ap (remove (items old)) (sym is)

pub done_unless : {A E : Type 0} (r : Result A E) (P Q : Type 0) → OnOk r P → OnErr r Q → (Q → ⊥) → P
done_unless (Ok x) P Q p q never = p
done_unless (Err e) P Q p q never = absurd (never q)

pub queue_empty : is_queue [] ≡ true
unfolding is_queue
queue_empty = refl
