-- The best of several threads: it is one of them, none comes before it, and in their order it is the first.
use Rattle.std.proofs.Common.{◌≡◌, ℕ, ◌<◌, Bool, true, false, not, cond, eqb, [], ◌∷◌, Option, Some, None, refl, sym, arith, ◌∙◌, ap, subst}
use Rattle.std.proofs.lemmas.Bool.Decides.{nat_tests}
use Rattle.std.specs.List.{filter}
use Rattle.std.specs.Option.{unwrap_or}
use Rattle.std.specs.Ordering.{nat_cmp}
use Rattle.std.specs.FinMap.Entries as entries
use Rattle.thr_parts.specs.declared.row.Seat.{Seat}
use Rattle.thr_parts.specs.Tables.{get, IsCanonical}
use Rattle.thr_parts.specs.Rows.{Seated, is_before, better, best_of, placed, in_order}
use Rattle.thr_parts.proofs.EntryLaws.{both_true, itself, get_cons, get_empty, get_first, get_behind, above}

-- ---- the order

not_itself : (a : Seat) → is_before a a ≡ false
not_itself a = grind (arith, nat_tests)

-- What isn't before b isn't before a either where a is before b.
not_before_better : (s a b : Seat) → is_before a b ≡ true → is_before s b ≡ false → is_before s a ≡ false
not_before_better s a b h n = grind (arith, nat_tests)

-- ---- the best of several

same_some : {A : Type 0} (x y : A) → Some x ≡ Some y → x ≡ y
same_some x y e = ap (λ o. unwrap_or o x) e

never : {A : Type 0} (x : A) → Some x ≡ None → ⊥
never x e = absurd (cc)

better_of : (e : ℕ × Seat) (f : ℕ × Seat) (b : Bool) → is_before e.1 f.1 ≡ b → better e (Some f) ≡ cond b e f
better_of e f b h = ap (λ c. cond c e f) h

best_cons : (e : ℕ × Seat) (es : Seated) → best_of (e ∷ es) ≡ Some (better e (best_of es))
unfolding best_of
best_cons e es = refl

pub best_empty : best_of [] ≡ None
unfolding best_of
best_empty = refl

-- Where there is no best there is nobody.
pub nobody : (es : Seated) (q : ℕ) → best_of es ≡ None → get es q ≡ None
nobody [] q e = get_empty q
nobody (f ∷ fs) q e = absurd (never _ (sym (best_cons f fs) ∙ e))

found_among : (e : ℕ × Seat) (es : Seated) (w : ℕ × Seat) (f : ℕ × Seat) (b : Bool) → is_before e.1 f.1 ≡ b → entries.below_all nat_cmp e.0 es ≡ true
    → get es f.0 ≡ Some f.1 → cond b e f ≡ w → get (e ∷ es) w.0 ≡ Some w.1
found_among e es w f true h below rest is = subst (λ x. get (e ∷ es) x.0 ≡ Some x.1) is (get_first e es)
found_among e es w f false h below rest is = subst (λ x. get (e ∷ es) x.0 ≡ Some x.1) is (get_behind e es f.0 f.1 below rest)

found_by : (e : ℕ × Seat) (es : Seated) (w : ℕ × Seat) (o : Option (ℕ × Seat)) → entries.below_all nat_cmp e.0 es ≡ true
    → ((f : ℕ × Seat) → o ≡ Some f → get es f.0 ≡ Some f.1) → better e o ≡ w → get (e ∷ es) w.0 ≡ Some w.1
found_by e es w None below rest is = subst (λ x. get (e ∷ es) x.0 ≡ Some x.1) is (get_first e es)
found_by e es w (Some f) below rest is = found_among e es w f (is_before e.1 f.1) refl below (rest f refl) is

-- The best is one of them.
pub found : (es : Seated) (w : ℕ × Seat) → IsCanonical es → best_of es ≡ Some w → get es w.0 ≡ Some w.1
found [] w h e = absurd (never w (sym e ∙ best_empty))
found (e ∷ es) w h is =
    let parts : (entries.below_all nat_cmp e.0 es ≡ true) × (entries.is_sorted nat_cmp es ≡ true) = both_true _ _ h in
    found_by e es w (best_of es) parts.0 (λ f g. found es f parts.1 g) (same_some _ _ (sym (best_cons e es) ∙ is))

-- The seat at a number is the first one's, or stands behind.
split : (e : ℕ × Seat) (es : Seated) (q : ℕ) (s : Seat) (P : Seat → Type 0) (b : Bool) → eqb e.0 q ≡ b → P e.1 → (get es q ≡ Some s → P s) → cond b (Some e.1) (get es q) ≡ Some s → P s
split e es q s P true at head tail is = subst P (same_some e.1 s is) head
split e es q s P false at head tail is = tail is

at_either : (e : ℕ × Seat) (es : Seated) (q : ℕ) (s : Seat) (P : Seat → Type 0) → P e.1 → (get es q ≡ Some s → P s) → get (e ∷ es) q ≡ Some s → P s
at_either e es q s P head tail is = split e es q s P (eqb e.0 q) refl head tail (sym (get_cons e es q) ∙ is)

first_among : (e : ℕ × Seat) (es : Seated) (w f : ℕ × Seat) (b : Bool) (q : ℕ) (s : Seat) → is_before e.1 f.1 ≡ b
    → (get es q ≡ Some s → is_before s f.1 ≡ false) → cond b e f ≡ w → get (e ∷ es) q ≡ Some s → is_before s w.1 ≡ false
first_among e es w f true q s h rest is at =
    subst (λ x. is_before s x.1 ≡ false) is (at_either e es q s (λ x. is_before x e.1 ≡ false) (not_itself e.1) (λ g. not_before_better s e.1 f.1 h (rest g)) at)
first_among e es w f false q s h rest is at =
    subst (λ x. is_before s x.1 ≡ false) is (at_either e es q s (λ x. is_before x f.1 ≡ false) h rest at)

first_by : (e : ℕ × Seat) (es : Seated) (w : ℕ × Seat) (o : Option (ℕ × Seat)) (q : ℕ) (s : Seat) → (o ≡ None → get es q ≡ None)
    → ((f : ℕ × Seat) → o ≡ Some f → get es q ≡ Some s → is_before s f.1 ≡ false) → better e o ≡ w → get (e ∷ es) q ≡ Some s → is_before s w.1 ≡ false
first_by e es w None q s alone rest is at =
    subst (λ x. is_before s x.1 ≡ false) is (at_either e es q s (λ x. is_before x e.1 ≡ false) (not_itself e.1) (λ g. absurd (never s (sym g ∙ alone refl))) at)
first_by e es w (Some f) q s alone rest is at = first_among e es w f (is_before e.1 f.1) q s refl (rest f refl) is at

-- None of them is before the best.
pub none_before : (es : Seated) (w : ℕ × Seat) (q : ℕ) (s : Seat) → best_of es ≡ Some w → get es q ≡ Some s → is_before s w.1 ≡ false
none_before [] w q s e at = absurd (never w (sym e ∙ best_empty))
none_before (e ∷ es) w q s is at =
    first_by e es w (best_of es) q s (λ n. nobody es q n) (λ f g h. none_before es f q s g h) (same_some _ _ (sym (best_cons e es) ∙ is)) at

-- ---- the others in their order

-- The threads but the one of this number.
abbrev pub without : ℕ → Seated → Seated
without t es = filter (λ e. not (eqb t e.0)) es

order_cons : (e : ℕ × Seat) (es : Seated) → in_order (e ∷ es) ≡ placed e (in_order es)
unfolding in_order
order_cons e es = refl

pub order_empty : in_order [] ≡ []
unfolding in_order
order_empty = refl

placed_empty : (e : ℕ × Seat) → placed e [] ≡ e ∷ []
unfolding placed
placed_empty e = refl

placed_cons : (e f : ℕ × Seat) (fs : Seated) (b : Bool) → is_before e.1 f.1 ≡ b → placed e (f ∷ fs) ≡ cond b (e ∷ f ∷ fs) (f ∷ placed e fs)
unfolding placed
placed_cons e f fs b h = ap (λ c. cond c (e ∷ f ∷ fs) (f ∷ placed e fs)) h

not_that : (x y : ℕ) → x < y → eqb x y ≡ false
not_that x y h = grind (arith, nat_tests)

below_head : (x : ℕ) (e : ℕ × Seat) (es : Seated) → entries.below_all nat_cmp x (e ∷ es) ≡ true → x < e.0
below_head x e es h = above x e.0 e.1 (e ∷ es) h (get_first e es)

-- A number before all is none of theirs.
all_others : (x : ℕ) (es : Seated) → entries.below_all nat_cmp x es ≡ true → without x es ≡ es
all_others x [] h = refl
all_others x (e ∷ es) h =
    ap (λ b. cond (not b) (e ∷ without x es) (without x es)) (not_that x e.0 (below_head x e es h)) ∙ ap (λ l. e ∷ l) (all_others x es (both_true _ _ h).1)

without_first : (e : ℕ × Seat) (es : Seated) → entries.below_all nat_cmp e.0 es ≡ true → without e.0 (e ∷ es) ≡ es
without_first e es h = ap (λ b. cond (not b) (e ∷ without e.0 es) (without e.0 es)) (itself e.0) ∙ all_others e.0 es h

turned_test : (x y : ℕ) → eqb x y ≡ eqb y x
turned_test x y = grind (arith, nat_tests)

without_later : (e : ℕ × Seat) (es : Seated) (t : ℕ) → e.0 < t → without t (e ∷ es) ≡ e ∷ without t es
without_later e es t h = ap (λ b. cond (not b) (e ∷ without t es) (without t es)) (turned_test t e.0 ∙ not_that e.0 t h)

headed_among : (e : ℕ × Seat) (es : Seated) (w f : ℕ × Seat) (b : Bool) → is_before e.1 f.1 ≡ b → entries.below_all nat_cmp e.0 es ≡ true → e.0 < f.0
    → in_order es ≡ f ∷ in_order (without f.0 es) → cond b e f ≡ w → placed e (in_order es) ≡ w ∷ in_order (without w.0 (e ∷ es))
headed_among e es w f true h below behind rest is =
    subst (λ x. placed e (in_order es) ≡ x ∷ in_order (without x.0 (e ∷ es))) is
    (ap (placed e) rest ∙ placed_cons e f (in_order (without f.0 es)) true h ∙ ap (λ l. e ∷ l) (sym rest) ∙ sym (ap (λ l. e ∷ in_order l) (without_first e es below)))
headed_among e es w f false h below behind rest is =
    subst (λ x. placed e (in_order es) ≡ x ∷ in_order (without x.0 (e ∷ es))) is
    (ap (placed e) rest ∙ placed_cons e f (in_order (without f.0 es)) false h
    ∙ sym (ap (λ l. f ∷ in_order l) (without_later e es f.0 behind) ∙ ap (λ l. f ∷ l) (order_cons e (without f.0 es))))

headed_by : (e : ℕ × Seat) (es : Seated) (w : ℕ × Seat) (o : Option (ℕ × Seat)) → best_of es ≡ o → entries.below_all nat_cmp e.0 es ≡ true → IsCanonical es
    → ((f : ℕ × Seat) → best_of es ≡ Some f → in_order es ≡ f ∷ in_order (without f.0 es)) → (best_of es ≡ None → in_order es ≡ []) → better e o ≡ w
    → placed e (in_order es) ≡ w ∷ in_order (without w.0 (e ∷ es))
headed_by e es w None at below sorted rest alone is =
    subst (λ x. placed e (in_order es) ≡ x ∷ in_order (without x.0 (e ∷ es))) is
    (ap (placed e) (alone at) ∙ placed_empty e ∙ sym (ap (λ l. e ∷ l) (ap in_order (without_first e es below) ∙ alone at)))
headed_by e es w (Some f) at below sorted rest alone is =
    headed_among e es w f (is_before e.1 f.1) refl below (above e.0 f.0 f.1 es below (found es f sorted at)) (rest f at) is

-- Where there is no best there is no order.
pub nobody_in_order : (es : Seated) → best_of es ≡ None → in_order es ≡ []
nobody_in_order [] e = order_empty
nobody_in_order (f ∷ fs) e = absurd (never _ (sym (best_cons f fs) ∙ e))

-- In their order the best is the first, and the others follow in theirs.
pub best_leads : (es : Seated) (w : ℕ × Seat) → IsCanonical es → best_of es ≡ Some w → in_order es ≡ w ∷ in_order (without w.0 es)
best_leads [] w h e = absurd (never w (sym e ∙ best_empty))
best_leads (e ∷ es) w h is =
    let parts : (entries.below_all nat_cmp e.0 es ≡ true) × (entries.is_sorted nat_cmp es ≡ true) = both_true _ _ h in
    order_cons e es ∙ headed_by e es w (best_of es) refl parts.0 parts.1 (λ f g. best_leads es f parts.1 g) (nobody_in_order es) (same_some _ _ (sym (best_cons e es) ∙ is))
